-- How many bits a receiving call uses. Assumes nothing.
use mathlib.Core.Path.{◌≡◌, refl, sym, ap, ◌∙◌}
use mathlib.Core.Bool.{Bool, false, false≢true}
use mathlib.Core.List.{List}
use Prim.Native.Nat.{ℕ, zero, suc, ◌-◌, ◌≤◌}
use native.Mathlib.Omega.{arith}
use lib.ListN.{length, take}
use Rattle.crc.specs.Bits.{Bits, bits_of}
use Rattle.block.specs.Answer.{done}
use Rattle.line.specs.Receiving.{missing, Reception, receive}
use Rattle.line.specs.BitsUsed.{alarm_stands, Uses, LentAgain, no_call, call, BitsUsed}
use Rattle.line.specs.declared.receiver.Receiver.{Receiver}
use Rattle.line.specs.declared.receiving.Phase.{Phase}
use Rattle.line.specs.declared.receiving.Phase.TheVariants as P
use Rattle.line.proofs.ReceivingCall.{in_range, held_step, length-lent, heard}
use Rattle.line.proofs.ReceptionCases.{received_case}

-- all of them, ...
uses_all : (p : Phase) (count used : ℕ) → used ≡ count → Uses p count used
uses_all p count used e = record { at_least_one = λ h. omega arith; at_most_lent = omega arith; under_alarm = λ a. e; of_none = λ z. omega arith }

-- ... or some of them, where no alarm stands
uses_some : (p q : Phase) (count used : ℕ) → p ≡ q → alarm_stands q ≡ false → 1 ≤ used → used ≤ count → Uses p count used
uses_some p q count used e a l h =
    record {
      at_least_one = λ n. l;
      at_most_lent = h;
      under_alarm = λ t. absurd (false≢true (sym (ap alarm_stands e ∙ a) ∙ t));
      of_none = λ z. omega arith;
    }

uses : (s : Receiver) (line : List ℕ) (count : ℕ) (ready : Bool) (store : List ℕ) (x : Reception)
    → receive s line count ready store ≡ done x → Uses s.phase count x.used
uses s line count ready store x e =
    let h = heard s line count ready store x e in
    let new : Bits = take count (bits_of line) in
    let l : length new ≡ count = length-lent line count h.1 in
    let p : Phase = s.phase in
    received_case s line count ready (λ (y : Reception). Uses p count y.used) (λ z. uses_all p count 0 (sym z))
    (λ window used n. uses_all p count used (n ∙ l))
    (λ q used some most. uses_some p P.Search count used q refl some (omega arith)) (uses_all p count (length new) l)
    (λ q m. uses_some p P.InStep count (missing s) q refl (omega (arith, held_step s (in_range s h.0) q)) (omega arith))
    (uses_all p count (length new) l) (uses_all p count (length new) l) store x e

-- one bit fewer at least
fewer : (p : Phase) (count used calls : ℕ) → Uses p count used → count ≤ suc calls → count - used ≤ calls
fewer p zero used calls u h = omega arith
fewer p (suc n) used calls u h = omega (arith, u.at_least_one (omega arith))

nothing_left : (s : Receiver) (count calls left : ℕ) → LentAgain s count calls left → count ≤ calls → left ≡ 0
nothing_left s count calls left no_call h = omega arith
nothing_left s count (suc calls) left (call line ready store x e more) h =
    nothing_left x.state (count - x.used) calls left more
    (fewer s.phase count x.used calls (uses s line count ready store x e) h)

pub bits_used : BitsUsed
bits_used = record { uses = uses; nothing_left = nothing_left }
