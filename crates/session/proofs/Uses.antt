-- How many bits a receiving call uses: at least one of those that it is lent, and no more. Assumes nothing.
use mathlib.Core.Path.{◌≡◌, refl, sym, ◌∙◌}
use mathlib.Core.Bool.{Bool, true}
use mathlib.Core.List.{List, [], ◌∷◌, ◌++◌}
use mathlib.Core.Logic.{⊎_elim}
use Prim.Native.Nat.{ℕ, suc, ◌+◌, ◌*◌, ◌≤◌, ◌<◌}
use native.Mathlib.Omega.{arith}
use lib.Dec.{ltb}
use lib.ListN.{length, take}
use lib.Seq.{length-take-le}
use borrow.Author.Tests.{ne_eqb, ltb-true, ltb-false}
use Rattle.crc.specs.Bits.{Bits, bits_of}
use Rattle.crc.proofs.Bytes.{length-bits_of}
use Rattle.block.specs.Answer.{done}
use Rattle.block.specs.Lengths.{block_length}
use Rattle.block.proofs.Truth.{either, cond_case}
use Rattle.line.specs.Receiving.{Reception, latest, is_sequence, search, missing, in_step, by_phase, reception, held_bits, held_in_range, receive}
use Rattle.line.specs.declared.receiver.Receiver.{Receiver}
use Rattle.line.proofs.ReceivingCall.{in_range, heard}
use Rattle.line.specs.declared.receiving.Phase.{Phase}
use Rattle.line.specs.declared.receiving.Phase.TheVariants as P

abbrev Uses : ℕ → ℕ → ℕ → Type 0
Uses before count used = (before < used) × (used ≤ before + count)

search_uses : (s : Receiver) (window : Bits) (b : Bool) (bs : Bits) (used : ℕ)
    → Uses used (length (b ∷ bs)) (search s window (b ∷ bs) used).used
search_uses s window b [] used =
    cond_case (λ (x : Reception). Uses used 1 x.used) (is_sequence (window ++ (b ∷ []))) (λ t. omega arith) (λ t. omega arith)
search_uses s window b (c ∷ cs) used =
    let r : Uses (suc used) (length (c ∷ cs)) (search s (latest (window ++ (b ∷ []))) (c ∷ cs) (suc used)).used =
    search_uses s (latest (window ++ (b ∷ []))) c cs (suc used) in
    cond_case (λ (x : Reception). Uses used (length (b ∷ c ∷ cs)) x.used) (is_sequence (window ++ (b ∷ []))) (λ t. omega arith) (λ t. omega arith)

held_in_range_lem : (phase : Phase) (k held : ℕ) → held_in_range phase (block_length k) held ≡ true → phase ≡ P.InStep → held < block_length k
held_in_range_lem P.Search k held e p = absurd (let z : ◌≡◌ {A = ℕ} 0 1 = cc in omega arith)
held_in_range_lem P.InStep k held e p = ltb-true held (block_length k) e
held_in_range_lem P.SequenceAlarm k held e p = ltb-true held (block_length k) e
held_in_range_lem P.LengthAlarm k held e p = ltb-true held (block_length k) e

in_step_uses : (s : Receiver) (new : Bits) (ready : Bool) → s.held < block_length s.setup.k → 0 < length new
    → Uses 0 (length new) (in_step s new ready).used
unfolding in_step
in_step_uses s new ready h n =
    ⊎_elim (λ e. rw e (omega arith)) (λ e. rw e (omega (arith, ltb-false (length new) (missing s) e)))
    (either (ltb (length new) (missing s)))

phase_uses : (s : Receiver) (phase : Phase) (new : Bits) (ready : Bool) → (phase ≡ P.InStep → s.held < block_length s.setup.k)
    → 0 < length new → Uses 0 (length new) (by_phase s phase new ready).used
phase_uses s P.Search [] ready h n = absurd (omega arith)
phase_uses s P.Search (b ∷ bs) ready h n = search_uses s (held_bits s) b bs 0
phase_uses s P.InStep new ready h n = in_step_uses s new ready (h refl) n
phase_uses s P.SequenceAlarm new ready h n = omega arith
phase_uses s P.LengthAlarm new ready h n = omega arith

pub receive_uses : (s : Receiver) (line : List ℕ) (count : ℕ) (ready : Bool) (store : List ℕ) (x : Reception)
    → receive s line count ready store ≡ done x → 0 < count → Uses 0 count x.used
unfolding reception
receive_uses s line count ready store x e h =
    let new : Bits = take count (bits_of line) in
    let r = heard s line count ready store x e in
    let z : reception s new count ready ≡ by_phase s s.phase new ready = rw (ne_eqb count 0 (λ w. omega arith)) in
    let y : by_phase s s.phase new ready ≡ x = sym z ∙ r.2 in
    let n : length new ≡ count = length-take-le count (bits_of line) (rw (length-bits_of line) (omega (arith, ltb-false (8 * length line) count r.1))) in
    let t : held_in_range s.phase (block_length s.setup.k) s.held ≡ true = (in_range s r.0).held in
    let u : Uses 0 (length new) (by_phase s s.phase new ready).used =
    phase_uses s s.phase new ready (held_in_range_lem s.phase s.setup.k s.held t) (rw n h) in
    rw (← y) (rw n at u)
