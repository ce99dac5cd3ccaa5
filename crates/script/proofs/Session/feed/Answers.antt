use Rattle.std.proofs.Common.{length, ap, arith, rules}
use Rattle.script.proofs.Feeding.{feeds-none, feeds-more, feeds-all}
use Rattle.script.proofs.Session.feed.Goals as goal

pub loop-c-init : goal.loop-c-init
loop-c-init c = (omega (arith, c.new-pen.ensures.front), λ a h. feeds-none a _ _ h)

pub take-requires-clause-held : goal.take-requires-clause-held
take-requires-clause-held c = let p = c.requires.held in (_, (c.loop-c.invariant.1 p.0 p.1).holds)

pub take-requires-clause-room : goal.take-requires-clause-room
take-requires-clause-room c =
    let p = c.requires.held in
    let f = (c.loop-c.invariant.1 p.0 p.1).wrote in
    omega (arith, c.loop-c.invariant.0, f.long, ap length c.new-pen.ensures.buffer, c.requires.room)

pub loop-c-preserved : goal.loop-c-preserved
loop-c-preserved c =
    let i = c.loop-c.invariant in
    let t = c.take.ensures in (
      omega (arith, t.short, i.0),
      λ a h. let f = i.1 a h in feeds-more a c.args.piece.now c.loop-c.c-index (omega arith) _ _ _ f _ _ (t.taken _ f.holds),
    )

pub returns : goal.returns
returns c =
    let p = c.requires.held in
    let i = c.loop-c.invariant in
    let w = (i.1 p.0 p.1).wrote in
    record {
      holds = λ a h.
          let f = feeds-all a c.args.piece.now c.loop-c.c-index _ _ _ (omega arith) (i.1 a h) in
          (f.holds, omega (arith, f.wrote.at, c.new-pen.ensures.front), search (rules, f.wrote.same, f.wrote.bytes, c.new-pen.ensures.same, c.new-pen.ensures.buffer, c.new-pen.ensures.front));
      fits = omega (arith, i.0, w.long, ap length c.new-pen.ensures.buffer, c.requires.room);
    }
