-- The loop of `shift_half`: the bytes written so far, and in front of those to come the half byte that is carried.
-- Assumes nothing.
use borrow.Author.Rules.{rules}
use mathlib.Core.List.{List, [], ◌∷◌, ◌++◌, append_assoc, append-nil}
use mathlib.Core.Path.{◌≡◌, refl, ap, ap₂, sym, ◌∙◌}
use native.Mathlib.Nat.{sub-zero}
use native.Mathlib.Numerals.{add-one}
use native.Mathlib.Omega.{arith}
use Prim.Native.Nat.{ℕ, suc, ◌+◌, ◌-◌, ◌*◌, ◌/◌, ◌%◌, ◌^◌, ◌<◌}
use lib.Bits.{bit_or}
use lib.ListN.{length, get_or, take, drop, set, length-set, take-append-drop}
use lib.Seq.{take-suc-set, drop-set-lt, drop-drop}
use Rattle.crc.specs.Bits.{Bits, binary, bits_of, bytes_of}
use Rattle.block.proofs.Packing.{drop_half_first, shifted_first}
use Rattle.block.proofs.packed.shift_half.Goals as goal
use Rattle.block.proofs.packed.shift_half.Invariants.{to_come}

start : (m : ℕ) (from : List ℕ) → m < length from → bytes_of (m - 0) (to_come from 0) ≡ bytes_of m (drop 4 (bits_of from))
start m from h = ap₂ bytes_of (sub-zero m) (sym (drop_half_first from (omega arith)))

step : (to from : List ℕ) (m i v : ℕ) → i < m → m < length from → i < length to → get_or from (i + 1) 0 < 256
    → v ≡ bit_or ((get_or from i 0 * 2 ^ 4) % 2 ^ 8) (get_or from (i + 1) 0 / 2 ^ 4)
    → take (i + 1) (set to i v) ++ bytes_of (m - (i + 1)) (to_come from (i + 1)) ≡ take i to ++ bytes_of (m - i) (to_come from i)
step to from m i v hm hf ht hb hv =
    let e : m - i ≡ suc (m - (i + 1)) = omega arith in
    ap₂ (λ (l t : List ℕ). l ++ t) (ap (λ (j : ℕ). take j (set to i v)) (add-one i) ∙ take-suc-set to i v ht)
    (ap (λ (j : ℕ). bytes_of (m - (i + 1)) (binary 4 (get_or from (i + 1) 0) ++ bits_of (drop j from))) (add-one (i + 1)))
    ∙ append_assoc (take i to) (v ∷ []) (bytes_of (m - (i + 1)) (binary 4 (get_or from (i + 1) 0) ++ bits_of (drop (suc (i + 1)) from)))
    ∙ ap (λ (t : List ℕ). take i to ++ t)
    (ap (λ (x : ℕ). x ∷ bytes_of (m - (i + 1)) (binary 4 (get_or from (i + 1) 0) ++ bits_of (drop (suc (i + 1)) from))) hv
    ∙ sym (shifted_first (m - (i + 1)) (get_or from i 0) from (i + 1) (omega arith) hb) ∙ ap (λ (n : ℕ). bytes_of n (to_come from i)) (sym e))

further : (a b : List ℕ) (i : ℕ) → drop i a ≡ drop i b → drop (i + 1) a ≡ drop (i + 1) b
further a b i e = sym (drop-drop 1 i a) ∙ ap (drop 1) e ∙ drop-drop 1 i b

last : (to to₀ : List ℕ) (m i : ℕ) (row rest : Bits) → i ≡ m → drop i to ≡ drop i to₀ → take i to ++ bytes_of (m - i) rest ≡ bytes_of m row
    → to ≡ bytes_of m row ++ drop m to₀
unfolding bytes_of
last to to₀ m i row rest hi hd hr =
    let z : m - i ≡ 0 = omega arith in
    sym (take-append-drop i to)
    ∙ ap₂ (λ (l t : List ℕ). l ++ t) (sym (append-nil (take i to)) ∙ ap (λ (n : ℕ). take i to ++ bytes_of n rest) (sym z) ∙ hr)
    (hd ∙ ap (λ (n : ℕ). drop n to₀) hi)

pub loop-i-init : goal.loop-i-init
loop-i-init c = (search rules, refl, refl, start c.args.m c.args.from.now (search rules))

pub loop-i-preserved : goal.loop-i-preserved
loop-i-preserved c = let l = c.loop-i in
    let a = c.args in
    let h : get_or a.from.now (l.i + 1) 0 < 256 = (c.shared_slice_known-in-loop-i-1.given (l.i + 1)).fits in (
      omega arith,
      simp length-set l.invariant.1,
      drop-set-lt (l.i + 1) l.to l.i _ (omega arith) ∙ further l.to a.to.now l.i l.invariant.2,
      step l.to a.from.now a.m l.i _ (omega arith) (omega arith) (omega arith) h refl ∙ l.invariant.3,
    )

pub shape_of-to : goal.shape_of-to
shape_of-to c = c.loop-i.invariant.1

pub returns : goal.returns
returns c = let l = c.loop-i in
    let a = c.args in
    last l.to a.to.now a.m l.i (drop 4 (bits_of a.from.now)) (to_come a.from.now l.i) (omega arith) l.invariant.2 l.invariant.3
