-- Bytes at the places of a list: two and four of them from a place on, those stored there, the head's and the marks'.
-- Assumes nothing.
use mathlib.Core.Path.{◌≡◌, refl, ap, ◌∙◌}
use mathlib.Core.List.{List, ◌∷◌, ◌++◌, append_assoc}
use Prim.Native.Nat.{ℕ, suc, ◌+◌, ◌≤◌}
use native.Mathlib.Numerals.{add-one, add-two}
use native.Mathlib.Omega.{arith}
use lib.ListN.{length, drop, get_or, set, length-append}
use lib.Seq.{drop-cons, take_at, drop-append-add, sets, sets-eq}
use Rattle.line.specs.declared.marks.Marks.{Marks}
use Rattle.line_c.specs.State.{word_bytes, head_size, head_bytes, marks_size, marks_bytes}

pub add_three : (n : ℕ) → n + 3 ≡ suc (suc (suc n))
add_three n = omega arith

pub two : (s : List ℕ) (at : ℕ) → at + 2 ≤ length s → drop at s ≡ get_or s at 0 ∷ get_or s (at + 1) 0 ∷ drop (at + 2) s
two s at h =
    drop-cons s at 0 (omega arith)
    ∙ ap (λ (l : List ℕ). get_or s at 0 ∷ l) (rw (add-one, add-two) (drop-cons s (suc at) 0 (omega arith)))

pub four : (s : List ℕ) (at : ℕ) → at + 4 ≤ length s
    → drop at s ≡ get_or s at 0 ∷ get_or s (at + 1) 0 ∷ get_or s (at + 2) 0 ∷ get_or s (at + 3) 0 ∷ drop (at + 4) s
four s at h =
    let third : at + 2 + 1 ≡ at + 3 = omega arith in
    let behind : at + 2 + 2 ≡ at + 4 = omega arith in
    two s at (omega arith)
    ∙ ap (λ (l : List ℕ). get_or s at 0 ∷ get_or s (at + 1) 0 ∷ l) (rw (third, behind) at (two s (at + 2) (omega arith)))

-- bytes stored behind others
stored : (p l new : List ℕ) (at : ℕ) → length p ≡ at → length new ≤ length l
    → sets (p ++ l) at new ≡ p ++ (new ++ drop (length new) l)
stored p l new at n h =
    let g : at + length new ≤ length (p ++ l) = simp length-append (omega arith) in
    sets-eq new (p ++ l) at g
    ∙ rw (take_at p l at n, ← n, drop-append-add p l (length new)) (append_assoc p new (drop (length new) l))

-- ---- the head and the marks

pub length_head : (x y z d a b c : ℕ) → length (head_bytes x y z d a b c) ≡ head_size
unfolding head_bytes word_bytes
length_head x y z d a b c = refl

-- the head's stores in a row
pub head_stored : (s s₁ : List ℕ) (x y z d a b c : ℕ) → head_size ≤ length s
    → s₁ ≡ sets s 0 (word_bytes x ++ (word_bytes y ++ word_bytes z))
    → set (set (set (set s₁ 12 d) 13 a) 14 b) 15 c ≡ head_bytes x y z d a b c ++ drop head_size s
unfolding word_bytes head_bytes
head_stored s s₁ x y z d a b c h e = rw e (sets-eq (head_bytes x y z d a b c) s 0 h)

pub length_marks : (m : Marks) → length (marks_bytes m) ≡ marks_size
unfolding marks_bytes
length_marks m = refl

pub marks_stored : (p l : List ℕ) (m : Marks) (at : ℕ) → length p ≡ at → marks_size ≤ length l
    → sets (p ++ l) at (marks_bytes m) ≡ p ++ (marks_bytes m ++ drop marks_size l)
unfolding marks_bytes
marks_stored p l m at n h = stored p l (marks_bytes m) at n h
