-- `write::put_text` meets its contract: the first four lines, and the threads' behind them. Assumes nothing.
use native.Mathlib.Omega.{arith}
use Prim.Native.Nat.{◌+◌}
use mathlib.Core.Path.{◌≡◌, ◌∙◌, ap}
use lib.ListN.{length, length-append}
use Rattle.program.specs.Program.{prog_of}
use Rattle.number.specs.Put.{put}
use Rattle.pen.specs.Pen.{Wrote}
use Rattle.pen.proofs.Pens.{wrote_both}
use Rattle.write.specs.Writing.{head_text, threads_text, text_in}
use Rattle.write.proofs.Pieces.{text-pieces}
use Rattle.write.proofs.put_text.Goals as goal
use Rattle.write.proofs.put_text.Goals.{Start}

-- the text is as long as its two parts
counted : (s : Start) → let q = s.args.q in length (text_in q) ≡ length (head_text q) + length (threads_text 0 (prog_of q.program).threads)
counted s =
    let q = s.args.q in
    ap length (text-pieces q s.requires.threads) ∙ length-append (head_text q) (threads_text 0 (prog_of q.program).threads)

pub put_head-requires : goal.put_head-requires
put_head-requires c =
    let p = c.new-pen.ensures in
    record { count = c.requires.count; room = omega (arith, counted (goal.at.put_head-requires c).Start, p.front, ap length p.buffer, c.requires.room) }

pub put_threads-requires : goal.put_threads-requires
put_threads-requires c =
    let p = c.new-pen.ensures in
    let h = c.put_head.ensures in
    record {
      threads = c.requires.threads;
      room = omega (arith, counted (goal.at.put_threads-requires c).Start, p.front, ap length p.buffer, h.at, h.long, c.requires.room);
    }

pub returns-clause-length : goal.returns-clause-length
returns-clause-length c =
    let w : Wrote (text_in c.args.q) c.new-pen.result c.put_threads.new.pen =
    rw (text-pieces c.args.q c.requires.threads) (wrote_both _ _ _ _ _ c.put_head.ensures c.put_threads.ensures) in
    omega (arith, w.at, c.new-pen.ensures.front)

pub returns-clause-written : goal.returns-clause-written
returns-clause-written c =
    let p = c.new-pen.ensures in
    let w : Wrote (text_in c.args.q) c.new-pen.result c.put_threads.new.pen =
    rw (text-pieces c.args.q c.requires.threads) (wrote_both _ _ _ _ _ c.put_head.ensures c.put_threads.ensures) in
    let e : c.put_threads.new.pen.buf.now ≡ put c.args.text.now 0 (text_in c.args.q) = w.bytes ∙ rw (p.front, p.buffer) in
    let same = w.same ∙ p.same in
    grind (arith, same, e)
