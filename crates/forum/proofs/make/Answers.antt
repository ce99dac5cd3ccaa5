-- `forum::make` meets its contract. Assumes nothing.
use Rattle.std.proofs.Common.{◌≡◌, sym, ◌∙◌, ap, arith, length}
use Rattle.forum.specs.Mend.{mended}
use Rattle.forum.proofs.make.Goals as goal

pub put_mended-changes-requires-clause-room : goal.put_mended-changes-requires-clause-room
put_mended-changes-requires-clause-room c = omega (arith, c.requires.room, ap length c.new-pen.ensures.buffer, c.new-pen.ensures.front)

pub returns : goal.returns
returns c =
    let p = c.put_mended-changes in
    let n : p.new.pen.at ≡ length (mended c.args.text.now) = omega (arith, p.ensures.written.at, c.new-pen.ensures.front) in
    record { answer = rw (n, p.ensures.changes); written = c.made-1.given.1.1 (sym (p.ensures.written.same ∙ c.new-pen.ensures.same)) ∙ (p.ensures.written.bytes ∙ rw (c.new-pen.ensures.buffer, c.new-pen.ensures.front)) }
