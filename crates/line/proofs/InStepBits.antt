-- What is handed back in step: where the block stays unfinished, and where its last bit comes. Assumes nothing.
use mathlib.Core.Path.{◌≡◌, refl, sym, ap, ap₂, ◌∙◌, subst}
use mathlib.Core.Bool.{Bool}
use mathlib.Core.List.{List, [], ◌++◌, append_assoc}
use Prim.Native.Nat.{ℕ, ◌+◌, ◌-◌, ◌*◌, ◌≤◌, ◌<◌}
use native.Mathlib.Omega.{arith}
use borrow.Author.Tests.{lt-ltb, le-ltb}
use lib.ListN.{length, take, drop, length-append, length-drop}
use lib.Seq.{take_at, take-take, take-append-le, length-take-le}
use Rattle.crc.specs.Bits.{Bits, zeros, bits_of, bytes_of}
use Rattle.crc.proofs.Bytes.{length-bits_of, bits_of-bytes_of}
use Rattle.block.specs.Lengths.{block_length}
use Rattle.line.specs.Receiving.{array_bytes, unfinished, held_bits, overwrite, holding, missing, finished_row, Reception, in_step}
use Rattle.line.specs.Code.ReceiveSteps.{stepped, judged, Handed}
use Rattle.line.specs.declared.receiver.Receiver.{Receiver}
use Rattle.line.specs.declared.receiving.Event.TheVariants as E
use Rattle.line.specs.declared.receiver.Step.{Step}
use Rattle.line.proofs.BlockFinished.{handed_plain}

-- the first bits of an array into which new ones were written
module _ (array : List ℕ) (new : Bits) (held : ℕ) (h : held + length new ≤ 8 * length array) where
  front : Bits
  front = take held (bits_of array) ++ new

  length_held : length (take held (bits_of array)) ≡ held
  length_held = length-take-le held (bits_of array) (omega (arith, length-bits_of array))

  length_front : length front ≡ held + length new
  unfolding front
  length_front = length-append (take held (bits_of array)) new ∙ ap (λ (n : ℕ). n + length new) length_held

  in_order : overwrite held new (bits_of array) ≡ front ++ drop (held + length new) (bits_of array)
  unfolding front
  in_order = sym (append_assoc (take held (bits_of array)) new (drop (held + length new) (bits_of array)))

  length-overwrite : length (overwrite held new (bits_of array)) ≡ 8 * length array
  length-overwrite =
      ap length in_order ∙ length-append front (drop (held + length new) (bits_of array))
      ∙ omega (arith, length_front, length-drop (held + length new) (bits_of array), length-bits_of array)

  pub written_row : (m : ℕ) → length array ≡ m
      → take (held + length new) (bits_of (bytes_of m (overwrite held new (bits_of array)))) ≡ take held (bits_of array) ++ new
  unfolding front
  written_row m e =
      let row : Bits = overwrite held new (bits_of array) in
      let l : length row ≤ 8 * m = omega (arith, length-overwrite) in
      let n : held + length new ≤ length row = omega (arith, length-overwrite) in
      ap (take (held + length new)) (bits_of-bytes_of m row l)
      ∙ take-append-le (held + length new) row (zeros (8 * m - length row)) n
      ∙ ap (take (held + length new)) in_order
      ∙ take_at front (drop (held + length new) (bits_of array)) (held + length new) length_front

-- no block is complete, ...
abbrev pub held_on : Receiver → Bits → Reception
held_on s new = record { rule = unfinished; row = []; used = length new; state = holding s new }

module _ (s : Receiver) (new : Bits) (ready : Bool) where
  pub step_on : length new < missing s → in_step s new ready ≡ held_on s new
  unfolding in_step
  step_on h = rw (lt-ltb (length new) (missing s) h)

  -- ... or one is
  pub step_done : missing s ≤ length new → in_step s new ready ≡ judged s (finished_row s new) ready (missing s)
  unfolding in_step
  step_done h = rw (le-ltb (length new) (missing s) h)

  module _ (store : List ℕ) where
    abbrev held_with : List ℕ → ℕ → Step
    held_with array n =
        stepped
        (record {
          setup = s.setup;
          bits = array;
          held = s.held + n;
          bad_row = s.bad_row;
          back = s.back;
          taken = s.taken;
          ended = s.ended;
          phase = s.phase;
        }) E.None n

    pub in_step_more : (array : List ℕ) (n : ℕ) → array ≡ bytes_of array_bytes (overwrite s.held new (bits_of s.bits)) → n ≡ length new
        → n < missing s → Handed s store (in_step s new ready) (held_with array n) store
    in_step_more array n e l h =
        subst (λ (x : Reception). Handed s store x (held_with array n) store) (sym (step_on (subst (λ (k : ℕ). k < missing s) l h)))
        (subst (λ (r : Step). Handed s store (held_on s new) r store) (sym (ap₂ held_with e l)) (handed_plain s store (held_on s new) refl))

-- the row of a complete block: what was held and the missing bits of the line
module _ (s : Receiver) (line : List ℕ) where
  abbrev finished : ℕ → Bits
  finished rest = held_bits s ++ take rest (bits_of line)

  pub in_step_done : (count : ℕ) (ready : Bool) → count ≤ 8 * length line → missing s ≤ count
      → judged s (finished (missing s)) ready (missing s) ≡ in_step s (take count (bits_of line)) ready
  in_step_done count ready h l =
      let new : Bits = take count (bits_of line) in
      let n : length new ≡ count = length-take-le count (bits_of line) (omega (arith, length-bits_of line)) in
      sym (step_done s new ready (omega arith)
      ∙ ap (λ (x : Bits). judged s (held_bits s ++ x) ready (missing s)) (take-take (missing s) count (bits_of line) l))

  module _ (rest : ℕ) (k : s.held + rest ≡ block_length s.setup.k) where
    -- it stands whole in the line
    pub finished_in_line : s.held ≡ 0 → take (block_length s.setup.k) (bits_of line) ≡ finished rest
    finished_in_line z =
        let e : block_length s.setup.k ≡ rest = omega arith in
        rw (e, z)

    -- or in the array, once the missing bits are written behind those held
    pub finished_in_array : rest ≤ 8 * length line → length s.bits ≡ array_bytes → block_length s.setup.k ≤ 8 * array_bytes
        → take (block_length s.setup.k) (bits_of (bytes_of array_bytes (overwrite s.held (take rest (bits_of line)) (bits_of s.bits)))) ≡ finished rest
    finished_in_array h n f =
        let new : Bits = take rest (bits_of line) in
        let w : length new ≡ rest = length-take-le rest (bits_of line) (omega (arith, length-bits_of line)) in
        let e : block_length s.setup.k ≡ s.held + length new = sym k ∙ ap (λ (x : ℕ). s.held + x) (sym w) in
        let b : s.held + length new ≤ 8 * length s.bits = omega arith in
        ap (λ (x : ℕ). take x (bits_of (bytes_of array_bytes (overwrite s.held new (bits_of s.bits))))) e
        ∙ written_row s.bits new s.held b array_bytes n
