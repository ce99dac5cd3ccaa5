-- No second place, and no second buffer, meets the contract of a public function of this crate. Assumes nothing.
use mathlib.Core.Path.{◌≡◌, sym, ◌∙◌}
use borrow.Fn.Kinds.{Dens, res_t, ended_of}
use contract.Lifetimes.{Lfts}
use denote.Triple.Clauses.{AtExit}
use Rattle.pen.proofs.Pens.{wrote_once}
use Rattle.pen.proofs.pen.Pen.new.Kinds as new
use Rattle.pen.proofs.pen.Pen.new.Reads as new-reads
use Rattle.pen.proofs.pen.Pen.byte.Kinds as byte
use Rattle.pen.proofs.pen.Pen.byte.Reads as byte-reads
use Rattle.pen.proofs.pen.Pen.bytes.Kinds as bytes
use Rattle.pen.proofs.pen.Pen.bytes.Reads as bytes-reads
use Rattle.pen.proofs.pen.Pen.number.Kinds as number
use Rattle.pen.proofs.pen.Pen.number.Reads as number-reads
use Rattle.pen.proofs.pen.Pen.number_line.Kinds as put-number-line
use Rattle.pen.proofs.pen.Pen.number_line.Reads as put-number-line-reads
use Rattle.pen.proofs.pen.Pen.value.Kinds as put-value
use Rattle.pen.proofs.pen.Pen.value.Reads as put-value-reads
use Rattle.pen.proofs.pen.Pen.values.Kinds as put-values
use Rattle.pen.proofs.pen.Pen.values.Reads as put-values-reads

pub new-once :
    (κs : Lfts 1) (a : Dens κs new.ps) (x y : (res_t new.r κs).Denot) (e f : AtExit (ended_of 1 new.ps new.r) κs) →
    new-reads.Post κs a x e → new-reads.Post κs a y f → (x.at ≡ y.at) × (x.buf.now ≡ y.buf.now)
new-once κs a x y e f p q = (p.0 ∙ sym q.0, p.1.0 ∙ sym q.1.0)

pub byte-once :
    (κs : Lfts 2) (a : Dens κs byte.ps) (x y : (res_t byte.r κs).Denot) (e f : AtExit (ended_of 2 byte.ps byte.r) κs) →
    byte-reads.Post κs a x e → byte-reads.Post κs a y f → (e.0.now.at ≡ f.0.now.at) × (e.0.now.buf.now ≡ f.0.now.buf.now)
byte-once κs a x y e f p q = wrote_once _ _ _ _ p q

pub bytes-once :
    (κs : Lfts 3) (a : Dens κs bytes.ps) (x y : (res_t bytes.r κs).Denot) (e f : AtExit (ended_of 3 bytes.ps bytes.r) κs) →
    bytes-reads.Post κs a x e → bytes-reads.Post κs a y f → (e.0.now.at ≡ f.0.now.at) × (e.0.now.buf.now ≡ f.0.now.buf.now)
bytes-once κs a x y e f p q = wrote_once _ _ _ _ p q

pub number-once :
    (κs : Lfts 2) (a : Dens κs number.ps) (x y : (res_t number.r κs).Denot) (e f : AtExit (ended_of 2 number.ps number.r) κs) →
    number-reads.Post κs a x e → number-reads.Post κs a y f → (e.0.now.at ≡ f.0.now.at) × (e.0.now.buf.now ≡ f.0.now.buf.now)
number-once κs a x y e f p q = wrote_once _ _ _ _ p q

pub put-number-line-once :
    (κs : Lfts 3) (a : Dens κs put-number-line.ps) (x y : (res_t put-number-line.r κs).Denot) (e f : AtExit (ended_of 3 put-number-line.ps put-number-line.r) κs) →
    put-number-line-reads.Post κs a x e → put-number-line-reads.Post κs a y f → (e.0.now.at ≡ f.0.now.at) × (e.0.now.buf.now ≡ f.0.now.buf.now)
put-number-line-once κs a x y e f p q = wrote_once _ _ _ _ p q

pub put-value-once :
    (κs : Lfts 2) (a : Dens κs put-value.ps) (x y : (res_t put-value.r κs).Denot) (e f : AtExit (ended_of 2 put-value.ps put-value.r) κs) →
    put-value-reads.Post κs a x e → put-value-reads.Post κs a y f → (e.0.now.at ≡ f.0.now.at) × (e.0.now.buf.now ≡ f.0.now.buf.now)
put-value-once κs a x y e f p q = wrote_once _ _ _ _ p q

pub put-values-once :
    (κs : Lfts 3) (a : Dens κs put-values.ps) (x y : (res_t put-values.r κs).Denot) (e f : AtExit (ended_of 3 put-values.ps put-values.r) κs) →
    put-values-reads.Post κs a x e → put-values-reads.Post κs a y f → (e.0.now.at ≡ f.0.now.at) × (e.0.now.buf.now ≡ f.0.now.buf.now)
put-values-once κs a x y e f p q = wrote_once _ _ _ _ p q
