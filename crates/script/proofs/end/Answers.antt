-- `end` meets its contract: the end is written at the front of the buffer. Assumes nothing.
use Rattle.std.proofs.Common.{length, ap, arith, rules}
use Rattle.script.proofs.end.Goals as goal

pub put_end-requires : goal.put_end-requires
put_end-requires c = record { held = c.requires.held; room = omega (arith, ap length c.new-pen.ensures.buffer, c.new-pen.ensures.front, c.requires.room) }

pub returns : goal.returns
returns c =
    let p = c.requires.held in
    let v = c.put_end.ensures.wrote p.0 p.1 in
    record {
      value = λ a h.
          let w = c.put_end.ensures.wrote a h in
          (omega (arith, w.at, c.new-pen.ensures.front), search (rules, w.same, w.bytes, c.new-pen.ensures.same, c.new-pen.ensures.buffer, c.new-pen.ensures.front));
      fits = omega (arith, c.put_end.ensures.short, v.long, ap length c.new-pen.ensures.buffer, c.new-pen.ensures.front, c.requires.room);
      text = c.put_end.ensures.text;
    }
