-- `notice::put_told` meets its contract, answer by answer. Assumes nothing.
use Rattle.std.proofs.Common.{ℕ, List, ◌≡◌, ◌+◌, ◌≤◌, ap, sym, ◌∙◌, arith, length, take}
use lib.Seq.{length-take-le}
use Rattle.std.specs.Prelude.{Ok, Err}
use Rattle.pen.proofs.Pens.{wrote_both}
use Rattle.say.specs.Said.{refused_text}
use Rattle.forum.specs.declared.Changed.{Changed}
use Rattle.forum.specs.Mend.{mended, changes_of}
use Rattle.forum.specs.Mending.{most_lines, mending}
use Rattle.forum.proofs.Verdicts.{Mends, mends}
use Rattle.forum.proofs.Again.{handed}
use Rattle.notice.specs.Told.{changes_text}
use Rattle.notice.proofs.Pieces.{changes-padded, told-refused, told-alone, told-changed}
use Rattle.notice.proofs.Bound.{told-long, refusal-long}
use Rattle.notice.proofs.put_told.Goals as goal
use Rattle.notice.proofs.put_told.Goals.{In-Ok, In-Err}

-- the answer is the door's
refused : (c : In-Err) → mending c.args.text.now (length c.args.lent.now) ≡ Err c.in-Err.refusal
refused c = sym c.mend.ensures.answer ∙ c.in-Err.is

is-mended : (c : In-Ok) → mending c.args.text.now (length c.args.lent.now) ≡ Ok c.in-Ok.mended
is-mended c = sym c.mend.ensures.answer ∙ c.in-Ok.is

known : (c : In-Ok) → Mends c.args.text.now (length c.args.lent.now) c.in-Ok.mended
known c = mends c.args.text.now (length c.args.lent.now) c.in-Ok.mended (is-mended c)

-- the text stands at the front of the room, and the changes of the answer are those of the text
stands : (c : In-Ok) → take c.in-Ok.mended.length c.mend.new.out ≡ mended c.args.text.now
stands c = handed c.args.text.now c.args.lent.now _ c.in-Ok.mended (is-mended c) (ap (take c.in-Ok.mended.length) c.mend.ensures.buffer)

room : (c : In-Ok) → c.in-Ok.mended.length ≤ length c.mend.new.out
room c = omega (arith, (known c).room, (known c).long, c.mend.auto.out)

changes : (c : In-Ok) → changes_text 1 c.in-Ok.mended.changes ≡ changes_text 1 (changes_of c.args.text.now)
changes c = ap (λ (x : List Changed). changes_text 1 x) (known c).changed ∙ changes-padded 1 most_lines (changes_of c.args.text.now)

long : (c : In-Ok) → length (mended c.args.text.now) + length (changes_text 1 (changes_of c.args.text.now)) ≤ 45078
long c = told-long c.args.text.now (known c).short

pub print_refused-requires : goal.print_refused-requires
print_refused-requires c =
    record { room = omega (arith, ap (λ (k : ℕ). length (refused_text k 0)) (c.from.ensures ∙ c.number.ensures), refusal-long c.in-Err.refusal, c.requires.room) }

pub slice_bounds-bytes-end : goal.slice_bounds-bytes-end
slice_bounds-bytes-end c = room (goal.at.slice_bounds-bytes-end c).In-Ok

pub slice_bounds-bytes-end-in-Ok : goal.slice_bounds-bytes-end-in-Ok
slice_bounds-bytes-end-in-Ok c = sym (length-take-le _ _ (room (goal.at.slice_bounds-bytes-end-in-Ok c).In-Ok))

pub bytes-requires : goal.bytes-requires
bytes-requires c =
    let d = (goal.at.bytes-requires c).In-Ok in
    record { room = omega (arith, ap length (stands d), long d, c.requires.room) }

pub put_changes-requires : goal.put_changes-requires
put_changes-requires c =
    let d = (goal.at.put_changes-requires c).In-Ok in
    record { room = omega (arith, c.bytes.ensures.at, c.bytes.ensures.long, ap length (stands d), ap length (changes d), long d, c.requires.room) }

pub returns-then-alone : goal.returns-then-alone
returns-then-alone c =
    let d = (goal.at.returns-then-alone c).In-Ok in
    let l = c.args.text.now in
    let lent = length c.args.lent.now in
    rw c.if-alone.true (record {
      answer = rw (is-mended d);
      left = c.mend.ensures.buffer;
      printed = rw (told-alone lent l c.in-Ok.mended (is-mended d), ← stands d) c.bytes.ensures;
    })

pub returns-in-Err : goal.returns-in-Err
returns-in-Err c =
    let is = refused (goal.at.returns-in-Err c).In-Err in record {
      answer = rw is;
      left = c.mend.ensures.buffer;
      printed = rw (told-refused (length c.args.lent.now) c.args.text.now c.args.alone c.in-Err.refusal is, ← c.number.ensures, ← c.from.ensures) c.print_refused.ensures;
    }

pub returns-else-alone : goal.returns-else-alone
returns-else-alone c =
    let d = (goal.at.returns-else-alone c).In-Ok in
    let l = c.args.text.now in
    let lent = length c.args.lent.now in
    rw c.if-alone.false (record {
      answer = rw (is-mended d);
      left = c.mend.ensures.buffer;
      printed = rw (told-changed lent l c.in-Ok.mended (is-mended d), ← stands d, ← changes d) (wrote_both _ _ _ _ _ c.bytes.ensures c.put_changes.ensures);
    })
