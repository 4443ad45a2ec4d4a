-- Laws of a data item's service bits, and of their place with r items taken: all that the proof of demand 3 uses of
-- either. Assumes nothing.
use mathlib.Core.Path.{◌≡◌, refl, ap, sym, ◌∙◌}
use mathlib.Core.Logic.{⊎_elim}
use mathlib.Core.Bool.{Bool, true, false, cond, not, ◌&&◌, ◌||◌, true≢false, false≢true}
use Prim.Native.Nat.{ℕ, zero, suc, ◌+◌, ◌-◌, ◌%◌, ◌≤◌, ◌<◌}
use native.Mathlib.Omega.{arith}
use borrow.Author.Tests.{eqb-true, eqb-false, le-leb, eq-eqb, ne_eqb}
use lib.Dec.{eqb, eqb→eq, leb}
use Rattle.crc.specs.Bits.{Bits}
use Rattle.block.proofs.Truth.{cond_case, either}
use Rattle.line.specs.Marks.{mark5, mark6, mark7, mark8, mark, is_mark}
use Rattle.line.specs.Order.{letter, third, end_service, is_letter, marked, data_service}
use Rattle.line.specs.Receiving.{expected, last, next, is_marked, is_of, place, place_rule, end_rule, mark_rule, service_rule}
use Rattle.line.specs.declared.marks.Marks.{Marks}
use Rattle.line.proofs.Table.{at_cell}

-- ---- letters and marks

-- what holds of A, B and C holds of every letter
third_law : (P : ℕ → Type 0) → P (third 0) → P (third 1) → P (third 2) → (n : ℕ) → P (third n)
third_law P a b c zero = a
third_law P a b c (suc zero) = b
third_law P a b c (suc (suc n)) = c

letter_law : (P : ℕ → Type 0) → P (third 0) → P (third 1) → P (third 2) → (i : ℕ) → P (letter i)
unfolding letter
letter_law P a b c i = third_law P a b c (i % 3)

letter-is_letter : (i : ℕ) → is_letter (letter i) ≡ true
unfolding is_letter
letter-is_letter = letter_law (λ (s : ℕ). is_letter s ≡ true) refl refl refl

-- what holds of the four marks holds of every mark
mark_law : (P : ℕ → Type 0) → P mark5 → P mark6 → P mark7 → P mark8 → (size : ℕ) → P (mark size)
unfolding mark
mark_law P a b c d size =
    cond_case P (eqb size 5) (λ e. a) (λ e. cond_case P (eqb size 6) (λ e. b) (λ e. cond_case P (eqb size 7) (λ e. c) (λ e. d)))

-- a mark is no letter
mark-not-letter : (size : ℕ) → is_letter (mark size) ≡ false
unfolding is_letter
mark-not-letter = mark_law (λ (s : ℕ). is_letter s ≡ false) refl refl refl refl

mark-is_mark : (size : ℕ) → is_mark (mark size) ≡ true
unfolding is_mark
mark-is_mark = mark_law (λ (s : ℕ). is_mark s ≡ true) refl refl refl refl

mark-not_end : (size : ℕ) → eqb (mark size) end_service ≡ false
mark-not_end = mark_law (λ (s : ℕ). eqb s end_service ≡ false) refl refl refl refl

letter-not-mark : (i : ℕ) → is_mark (letter i) ≡ false
unfolding is_mark
letter-not-mark = letter_law (λ (s : ℕ). is_mark s ≡ false) refl refl refl

-- ---- the service bits of a data item

-- what holds of every letter and of every mark holds of them
service_law : (P : ℕ → Type 0) → ((i : ℕ) → P (letter i)) → ((size : ℕ) → P (mark size)) → (m : Marks) (i : ℕ) → P (data_service m i)
unfolding data_service
service_law P a b m i = cond_case P m.in_use (λ e. go i) (λ e. a i)
  where
    go : (j : ℕ) → P (marked m.size j)
    go zero = b m.size
    go (suc j) = a j

pub service_lt16 : (m : Marks) (i : ℕ) → data_service m i < 16
service_lt16 =
    service_law (λ (s : ℕ). s < 16) (letter_law (λ (s : ℕ). s < 16) (omega arith) (omega arith) (omega arith))
    (mark_law (λ (s : ℕ). s < 16) (omega arith) (omega arith) (omega arith) (omega arith))

pub service_not_sync : (m : Marks) (i : ℕ) → data_service m i ≡ 0b0101 → ⊥
service_not_sync =
    service_law (λ (s : ℕ). s ≡ 0b0101 → ⊥)
    (letter_law (λ (s : ℕ). s ≡ 0b0101 → ⊥) (λ e. omega arith) (λ e. omega arith) (λ e. omega arith))
    (mark_law (λ (s : ℕ). s ≡ 0b0101 → ⊥) (λ e. omega arith) (λ e. omega arith) (λ e. omega arith) (λ e. omega arith))

-- ---- items at most two apart are told apart

distinct_test : ℕ → ℕ → Bool
distinct_test a b = not (eqb (third a) (third b)) || eqb a b

distinct_thirds : (a b : ℕ) → a < 3 → b < 3 → third a ≡ third b → a ≡ b
unfolding distinct_test
distinct_thirds a b ha hb e =
    eqb→eq a b (rw (eq-eqb (third a) (third b) e) at (at_cell distinct_test 3 3 tt a b ha hb))

letters_apart : (i j : ℕ) → i ≤ j + 2 → j ≤ i + 2 → (i ≡ j → ⊥) → eqb (letter i) (letter j) ≡ false
unfolding letter
letters_apart i j low high n =
    ne_eqb (letter i) (letter j)
    (λ e. let d = distinct_thirds (i % 3) (j % 3) (omega arith) (omega arith) e in n (omega arith))

marks_apart : (size i : ℕ) → eqb (mark size) (letter i) ≡ false
marks_apart size i =
    ne_eqb (mark size) (letter i)
    (λ e. false≢true (sym (mark-not-letter size) ∙ ap is_letter e ∙ letter-is_letter i))

module _ (m : Marks) where
  -- an item's service bits are its own, whatever the code size of the end that reads them
  pub own : (i : ℕ) → is_of m.in_use i (data_service m i) ≡ true
  unfolding is_of data_service
  own = go m.in_use
    where
      go : (u : Bool) (i : ℕ) → (let s = cond u (marked m.size i) (letter i) in cond u (is_marked i s) (eqb s (letter i))) ≡ true
      go false i = eq-eqb (letter i) (letter i) refl
      go true zero = mark-is_mark m.size
      go true (suc i) = eq-eqb (letter i) (letter i) refl

  -- and those of no other item at most two away
  pub no_other : (i j : ℕ) → i ≤ j + 2 → j ≤ i + 2 → (i ≡ j → ⊥) → is_of m.in_use j (data_service m i) ≡ false
  unfolding is_of data_service
  no_other = go m.in_use
    where
      go : (u : Bool) (i j : ℕ) → i ≤ j + 2 → j ≤ i + 2 → (i ≡ j → ⊥)
          → (let s = cond u (marked m.size i) (letter i) in cond u (is_marked j s) (eqb s (letter j))) ≡ false
      go false i j low high n = letters_apart i j low high n
      go true zero zero low high n = absurd (n refl)
      go true zero (suc j) low high n = marks_apart m.size j
      go true (suc i) zero low high n = letter-not-mark i
      go true (suc i) (suc j) low high n = letters_apart i j (omega arith) (omega arith) (λ e. n (ap suc e))

  pub told_apart : (i j : ℕ) → i ≤ j → j ≤ i + 2 → data_service m i ≡ data_service m j → i ≡ j
  told_apart i j low high e =
      ⊎_elim (λ b. eqb-true i j b)
      (λ b. absurd (true≢false (sym (own j) ∙ sym (ap (is_of m.in_use j) e)
      ∙ no_other i j (omega arith) high (eqb-false i j b))))
      (either (eqb i j))

-- ---- the place of an item's service bits, with r items taken

module _ (m : Marks) where
  not_last : (r : ℕ) → leb 1 r && is_of m.in_use (r - 1) (data_service m (r + 1)) ≡ false
  not_last zero = refl
  not_last (suc r) =
      rw (
        le-leb 1 (suc r) (omega arith),
        no_other m (suc r + 1) (suc r - 1) (omega arith) (omega arith) (λ e. omega arith),
      )

  module _ (r : ℕ) where
    pub place_expected : place m.in_use r (data_service m r) ≡ expected
    unfolding place
    place_expected = rw (own m r)

    pub place_last : place m.in_use (r + 1) (data_service m r) ≡ last
    unfolding place
    place_last =
        let e : r + 1 - 1 ≡ r = omega arith in
        rw (no_other m r (r + 1) (omega arith) (omega arith) (λ e. omega arith), le-leb 1 (r + 1) (omega arith), e, own m r)

    pub place-next : place m.in_use r (data_service m (r + 1)) ≡ next
    unfolding place
    place-next =
        rw (no_other m (r + 1) r (omega arith) (omega arith) (λ e. omega arith), not_last r, own m (r + 1))

  -- before the end a data item is judged by its place
  pub by_place : (k r i : ℕ) (payload : Bits)
      → service_rule m.in_use k r false (data_service m i) payload
      ≡ place_rule r (place m.in_use r (data_service m i))
  unfolding service_rule data_service mark_rule
  by_place k r i payload = go m.in_use i
    where
      go : (u : Bool) (i : ℕ) → let s = cond u (marked m.size i) (letter i) in
          cond (is_letter s) (place_rule r (place u r s))
          (cond (eqb s end_service) (end_rule k r false payload) (mark_rule u r false s))
          ≡ place_rule r (place u r s)
      go false i = rw (letter-is_letter i) refl
      go true zero = rw (mark-not-letter m.size, mark-not_end m.size, mark-is_mark m.size) refl
      go true (suc i) = rw (letter-is_letter i) refl
