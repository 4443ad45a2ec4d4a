-- A list filled, and a list overwritten, from the front. Assumes nothing.
use mathlib.Core.Path.{◌≡◌, refl, ap, ap₂, sym, ◌∙◌}
use mathlib.Core.List.{List, [], ◌∷◌, ◌++◌, append_assoc, append-nil}
use native.Mathlib.Numerals.{add-one}
use native.Mathlib.Omega.{arith}
use Prim.Native.Nat.{ℕ, suc, ◌+◌, ◌-◌, ◌≤◌, ◌<◌}
use lib.ListN.{length, take, drop, set, replicate, length-set, length-append, length-drop, length-replicate, take-append-drop}
use lib.Seq.{take-suc-set, drop-set-lt, drop-drop, take-append_seam, drop-append_seam, take-append-add, drop-append-add, take_at, drop_at, length-take-le}
use Rattle.tint.specs.Format.{canisters}

-- ---- an array filled: it has the first i of all, and the filling behind them; the rest is to come

abbrev pub Filled : {A : Type 0} → A → List A → List A → List A → ℕ → Type 0
Filled pad all rest array i =
    (length array ≡ canisters) × (take i array ++ rest ≡ all) × (drop i array ≡ replicate (canisters - i) pad)

module _ {A : Type 0} (pad : A) where
  pub filled_none : (all : List A) → Filled pad all all (replicate canisters pad) 0
  filled_none all = (refl, refl, refl)

  -- what stands first, with the filling behind it
  pub filled_so_far : (ds rest : List A) → length ds ≤ canisters
      → Filled pad (ds ++ rest) rest (ds ++ replicate (canisters - length ds) pad) (length ds)
  filled_so_far ds rest m = (
    length-append ds (replicate (canisters - length ds) pad) ∙ omega (arith, length-replicate (canisters - length ds) pad),
    ap (λ (l : List A). l ++ rest) (take-append_seam ds (replicate (canisters - length ds) pad)),
    drop-append_seam ds (replicate (canisters - length ds) pad),
  )

  -- with one more
  pub filled_next : (all rest rest' array : List A) (i : ℕ) (v : A) → i < canisters → rest ≡ v ∷ rest' → Filled pad all rest array i
      → Filled pad all rest' (set array i v) (i + 1)
  filled_next all rest rest' array i v m e has = (
    length-set array i v ∙ has.0,
    ap (λ (l : List A). l ++ rest') (ap (λ (n : ℕ). take n (set array i v)) (add-one i) ∙ take-suc-set array i v (omega arith))
        ∙ append_assoc (take i array) (v ∷ []) rest' ∙ ap (λ (l : List A). take i array ++ l) (sym e) ∙ has.1,
    drop-set-lt (i + 1) array i v (omega arith) ∙ sym (drop-drop 1 i array) ∙ ap (drop 1) has.2 ∙ fewer,
  )
    where
      fewer : drop {A = A} 1 (replicate (canisters - i) pad) ≡ replicate (canisters - (i + 1)) pad
      fewer = let n : canisters - i ≡ suc (canisters - (i + 1)) = omega arith in ap (λ (k : ℕ). drop {A = A} 1 (replicate k pad)) n

  pub filled_all : (all rest array : List A) (i : ℕ) → rest ≡ [] → length all ≡ i → Filled pad all rest array i
      → array ≡ all ++ replicate (canisters - length all) pad
  filled_all all rest array i e n has =
      sym (take-append-drop i array)
      ∙ ap₂ (λ (p q : List A). p ++ q) (sym (append-nil (take i array)) ∙ ap (λ (l : List A). take i array ++ l) (sym e) ∙ has.1)
      (has.2 ∙ ap (λ (k : ℕ). replicate (canisters - k) pad) (sym n))

-- ---- a slice overwritten: its first elements are those of all, the rest of which is to come, and behind them it is as lent

abbrev pub Overwritten : {A : Type 0} → List A → List A → List A → List A → ℕ → Type 0
Overwritten all rest slice₀ slice at =
    (length slice ≡ length slice₀) × (drop at slice ≡ drop at slice₀) × (take at slice ++ rest ≡ all)

module _ {A : Type 0} (all rest rest' slice₀ slice slice' part : List A) (at next : ℕ) (n : next ≡ at + length part)
    (room : next ≤ length slice) (split : rest ≡ part ++ rest') (e : slice' ≡ take at slice ++ (part ++ drop next slice)) where
  front : length (take at slice) ≡ at
  front = length-take-le at slice (omega arith)

  -- with the elements of one turn, from place at on
  pub overwritten_more : Overwritten all rest slice₀ slice at → Overwritten all rest' slice₀ slice' next
  overwritten_more has = (
    ap length e ∙ length-append (take at slice) (part ++ drop next slice)
        ∙ omega (arith, front, length-append part (drop next slice), length-drop next slice) ∙ has.0,
    behind ∙ further,
    ap (λ (l : List A). l ++ rest') before ∙ append_assoc (take at slice) part rest' ∙ ap (λ (l : List A). take at slice ++ l) (sym split)
        ∙ has.2,
  )
    where
      place : next ≡ length (take at slice) + length part
      place = n ∙ ap (λ (k : ℕ). k + length part) (sym front)

      before : take next slice' ≡ take at slice ++ part
      before =
          ap₂ take place e ∙ take-append-add (take at slice) (part ++ drop next slice) (length part)
          ∙ ap (λ (l : List A). take at slice ++ l) (take_at part (drop next slice) (length part) refl)

      behind : drop next slice' ≡ drop next slice
      behind =
          ap₂ drop place e ∙ drop-append-add (take at slice) (part ++ drop next slice) (length part)
          ∙ drop_at part (drop next slice) (length part) refl

      further : drop next slice ≡ drop next slice₀
      further =
          ap (λ (k : ℕ). drop k slice) n ∙ sym (drop-drop (length part) at slice) ∙ ap (drop (length part)) has.1
          ∙ drop-drop (length part) at slice₀ ∙ ap (λ (k : ℕ). drop k slice₀) (sym n)

pub overwritten_all : {A : Type 0} (all rest slice₀ slice : List A) (at : ℕ) → rest ≡ [] → Overwritten all rest slice₀ slice at
    → slice ≡ all ++ drop at slice₀
overwritten_all {A} all rest slice₀ slice at e has =
    sym (take-append-drop at slice)
    ∙ ap₂ (λ (p q : List A). p ++ q) (sym (append-nil (take at slice)) ∙ ap (λ (l : List A). take at slice ++ l) (sym e) ∙ has.2) has.1
