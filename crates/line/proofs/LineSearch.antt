-- Laws of a search over the bits of a line: the window in the array, and one bit more. Assumes nothing.
use mathlib.Core.Path.{◌≡◌, refl, sym, ap, ap₂, ◌∙◌}
use mathlib.Core.Bool.{Bool, true, false, cond}
use mathlib.Core.List.{List, [], ◌∷◌, ◌++◌, append_assoc, append-nil}
use Prim.Native.Nat.{ℕ, suc, ◌+◌, ◌*◌, ◌≤◌, ◌<◌}
use native.Mathlib.Numerals.{add-one}
use native.Mathlib.Omega.{arith}
use lib.ListN.{length, take, drop, get_or, length-append}
use lib.Seq.{take-append-le, drop-cons, get_or-take, length-take-le}
use Rattle.crc.specs.Bits.{Bits, binary, bits_of}
use Rattle.crc.proofs.Rows.{length-binary}
use Rattle.crc.proofs.Bytes.{length-bits_of}
use Rattle.line.specs.Receiving.{meaning, sequence_found, stops, Reception, latest, is_sequence, search}
use Rattle.line.specs.declared.receiver.Receiver.{Receiver}

-- ---- the window in the array's first two bytes

pub window_held : (l : List ℕ) (held : ℕ) → 2 ≤ length l → held ≤ 16
    → take held (bits_of (get_or l 0 0 ∷ get_or l 1 0 ∷ [])) ≡ take held (bits_of l)
unfolding bits_of
window_held [] held h k = absurd (omega arith)
window_held (x ∷ []) held h k = absurd (omega arith)
window_held (x ∷ y ∷ l) held h k =
    let n : held ≤ length (binary 8 x ++ binary 8 y) = omega (arith, length-append (binary 8 x) (binary 8 y), length-binary 8 x, length-binary 8 y) in
    ap (λ (b : Bits). take held (binary 8 x ++ b)) (append-nil (binary 8 y))
    ∙ sym (take-append-le held (binary 8 x ++ binary 8 y) (bits_of l) n) ∙ ap (take held) (append_assoc (binary 8 x) (binary 8 y) (bits_of l))

-- ---- along the bits

module _ (s : Receiver) (line : List ℕ) (count : ℕ) (h : count ≤ 8 * length line) where
  abbrev new : Bits
  new = take count (bits_of line)

  length_new : length new ≡ count
  length_new = length-take-le count (bits_of line) (omega (arith, length-bits_of line))

  module _ (window : Bits) (used : ℕ) where
    -- one bit more
    search-bit : (b : Bool) → used < count → b ≡ get_or (bits_of line) used false
        → search s window (drop used new) used
        ≡ cond (is_sequence (window ++ (b ∷ []))) (stops s sequence_found [] (suc used)) (search s (latest (window ++ (b ∷ []))) (drop (suc used) new) (suc used))
    search-bit b l e =
        let n : used < length new = omega (arith, length_new) in
        let f : get_or new used false ≡ b = get_or-take count (bits_of line) used false l ∙ sym e in
        ap (λ (bs : Bits). search s window bs used) (drop-cons new used false n ∙ ap (λ (x : Bool). x ∷ drop (suc used) new) f)

    module _ (b : Bool) (l : used < count) (e : b ≡ get_or (bits_of line) used false) where
      pub search_found : is_sequence (window ++ (b ∷ [])) ≡ true → stops s sequence_found [] (used + 1) ≡ search s window (drop used new) used
      search_found t = ap (λ (n : ℕ). stops s sequence_found [] n) (add-one used) ∙ sym (search-bit b l e ∙ rw t)

      pub search_on : is_sequence (window ++ (b ∷ [])) ≡ false → (window' : Bits) → window' ≡ latest (window ++ (b ∷ []))
          → search s window' (drop (used + 1) new) (used + 1) ≡ search s window (drop used new) used
      search_on t window' w =
          ap₂ (λ (x : Bits) (n : ℕ). search s x (drop n new) n) w (add-one used) ∙ sym (search-bit b l e ∙ rw t)

-- a search stores nothing
pub search_stores : (s : Receiver) (window bs : Bits) (used : ℕ) → (meaning (search s window bs used).rule).stores ≡ false
search_stores s window [] used = refl
search_stores s window (b ∷ bs) used = by (is_sequence (window ++ (b ∷ []))) (search s (latest (window ++ (b ∷ []))) bs (suc used)) (search_stores s (latest (window ++ (b ∷ []))) bs (suc used))
  where
    by : (t : Bool) (x : Reception) → (meaning x.rule).stores ≡ false → (meaning (cond t (stops s sequence_found [] (suc used)) x).rule).stores ≡ false
    by true x e = refl
    by false x e = e
