-- Laws of the tint order's bytes, and of what judging doses answers. Assumes nothing.
use mathlib.Core.Path.{◌≡◌, refl, sym, ap, ap₂, ◌∙◌}
use mathlib.Core.Bool.{Bool, true, false, not, ◌&&◌, false≢true}
use mathlib.Core.List.{List, [], ◌∷◌, ◌++◌}
use mathlib.Core.Logic.{⊎_elim}
use Prim.Native.Nat.{ℕ, zero, suc, ◌+◌, ◌*◌, ◌/◌, ◌%◌, ◌≤◌, ◌<◌}
use native.Mathlib.Omega.{arith}
use lib.Dec.{eqb, leb, ltb}
use lib.ListN.{length, drop}
use borrow.Author.Tests.{ltb-true, ltb-false, leb-true, eqb-true, eqb-false, not-true, not-false, lt-ltb, le-ltb, eq-eqb, ne_eqb}
use Rattle.crc.proofs.Bytes.{drop_bytes}
use Rattle.block.specs.Answer.{Answer, refused, done, refuse_if}
use Rattle.block.proofs.Truth.{and_true, either}
use Rattle.block.proofs.Refusals.{passed_test}
use Rattle.line.specs.WholeOrder.{Bytes}
use Rattle.tint.specs.Refusals as Refusals
use Rattle.tint.specs.Format.{format_version, big_endian, from_big_endian, entries, order_bytes, doses_in, is_length_of, is_format, canisters, most_steps, most_total, is_in_range, in_range_and_order, total, judge_doses}
use Rattle.tint.specs.Calls.{doses_of, judge_counted, Judge}
use Rattle.tint.specs.declared.Doses.{Doses}
use Rattle.std.proofs.Common.{Ok}
use Rattle.tint.specs.Code.{head_bytes, low_entries}
use Rattle.tint.specs.declared.Dose.{Dose}

-- ---- entries and their doses

pub from_big_endian_lem : (n : ℕ) → from_big_endian (n / 256) (n % 256) ≡ n
from_big_endian_lem n = omega arith

pub big_endian_from : (high low : ℕ) → low < 256 → big_endian (from_big_endian high low) ≡ high ∷ low ∷ []
big_endian_from high low h =
    let e : (high * 256 + low) / 256 ≡ high = omega arith in
    let f : (high * 256 + low) % 256 ≡ low = omega arith in
    ap₂ (λ (x y : ℕ). x ∷ y ∷ []) e f

pub length-entries : (ds : List Dose) → length (entries ds) ≡ length ds * 3
length-entries [] = refl
length-entries (d ∷ ds) = omega (arith, length-entries ds)

pub doses_of-entries : (ds : List Dose) → doses_in (entries ds) ≡ ds
doses_of-entries [] = refl
doses_of-entries (d ∷ ds) =
    ap₂ (λ (n : ℕ) (r : List Dose). record { canister = d.canister; steps = n } ∷ r) (from_big_endian_lem d.steps) (doses_of-entries ds)

pub length-doses_in : (s : List ℕ) → length (doses_in s) ≡ length s / 3
length-doses_in [] = refl
length-doses_in (c ∷ []) = refl
length-doses_in (c ∷ h ∷ []) = refl
length-doses_in (c ∷ h ∷ l ∷ r) = omega (arith, length-doses_in r)

pub entries_of_doses : (s : List ℕ) → length s % 3 ≡ 0 → Bytes s → entries (doses_in s) ≡ s
entries_of_doses [] m b = refl
entries_of_doses (c ∷ []) m b = absurd (omega arith)
entries_of_doses (c ∷ h ∷ []) m b = absurd (omega arith)
entries_of_doses (c ∷ h ∷ l ∷ r) m b =
    let n : length r % 3 ≡ 0 = omega arith in
    ap₂ (λ (x y : List ℕ). c ∷ (x ++ y)) (big_endian_from h l (b 2)) (entries_of_doses r n (λ i. b (suc (suc (suc i)))))

-- ---- the whole order

pub length-order_bytes : (ds : List Dose) → length (order_bytes ds) ≡ 3 + length ds * 3
unfolding order_bytes
length-order_bytes ds = omega (arith, length-entries ds)

pub drop-order_bytes : (ds : List Dose) → drop 3 (order_bytes ds) ≡ entries ds
unfolding order_bytes
drop-order_bytes ds = refl

pub positive : (n : ℕ) → (n ≡ 0 → ⊥) → 1 ≤ n
positive zero z = absurd (z refl)
positive (suc n) z = omega arith

-- a length's three tests
is_length_lem : (n : ℕ) (rest : List ℕ) → 1 ≤ n → n % 3 ≡ 0 → n ≡ length rest → is_length_of n rest ≡ true
is_length_lem n rest p m e = rw (ne_eqb n 0 (λ z. omega arith), eq-eqb (n % 3) 0 m, eq-eqb n (length rest) e) refl

length_is : (n : ℕ) (rest : List ℕ) → is_length_of n rest ≡ true → (1 ≤ n) × (n % 3 ≡ 0) × (n ≡ length rest)
length_is n rest h =
    let a = and_true (not (eqb n 0) && eqb (n % 3) 0) (eqb n (length rest)) h in
    let b = and_true (not (eqb n 0)) (eqb (n % 3) 0) a.0 in
    let z : n ≡ 0 → ⊥ = eqb-false n 0 (not-true (eqb n 0) b.0) in
    (positive n z, eqb-true (n % 3) 0 b.1, eqb-true n (length rest) a.1)

pub is_format_lem : (ds : List Dose) → 1 ≤ length ds → is_format (order_bytes ds) ≡ true
unfolding order_bytes
is_format_lem ds p =
    let l = length-entries ds in
    rw (from_big_endian_lem (length (entries ds)), is_length_lem (length (entries ds)) (entries ds) (omega arith) (omega arith) refl) refl

-- what an order of the format is made of
pub format_is : (order : List ℕ) → is_format order ≡ true → Bytes order
    → order ≡ format_version ∷ (big_endian (length (drop 3 order)) ++ drop 3 order)
format_is [] h b = absurd (false≢true h)
format_is (v ∷ []) h b = absurd (false≢true h)
format_is (v ∷ high ∷ []) h b = absurd (false≢true h)
format_is (v ∷ high ∷ low ∷ rest) h b =
    let a = and_true (eqb v format_version) (is_length_of (from_big_endian high low) rest) h in
    let l = length_is (from_big_endian high low) rest a.1 in
    ap₂ (λ (x : ℕ) (y : List ℕ). x ∷ (y ++ rest)) (eqb-true v format_version a.0)
    (sym (big_endian_from high low (b 2)) ∙ ap big_endian l.2)

pub format-lengths : (order : List ℕ) → is_format order ≡ true
    → (4 ≤ length order) × (1 ≤ length (drop 3 order)) × (length (drop 3 order) % 3 ≡ 0)
format-lengths [] h = absurd (false≢true h)
format-lengths (v ∷ []) h = absurd (false≢true h)
format-lengths (v ∷ high ∷ []) h = absurd (false≢true h)
format-lengths (v ∷ high ∷ low ∷ rest) h =
    let a = and_true (eqb v format_version) (is_length_of (from_big_endian high low) rest) h in
    let l = length_is (from_big_endian high low) rest a.1 in
    (omega arith, omega arith, omega arith)

-- the order of doses read is the bytes they were read from
pub order_bytes-read : (order : List ℕ) → is_format order ≡ true → Bytes order → order_bytes (doses_in (drop 3 order)) ≡ order
unfolding order_bytes
order_bytes-read order h b =
    let l = format-lengths order h in
    ap (λ (s : List ℕ). format_version ∷ (big_endian (length s) ++ s)) (entries_of_doses (drop 3 order) l.2 (drop_bytes 3 order b))
    ∙ sym (format_is order h b)

-- ---- canisters that rise

rising_first : (last : ℕ) (d : Dose) (ds : List Dose) → in_range_and_order last (d ∷ ds) ≡ true
    → (last < d.canister) × (d.canister ≤ canisters) × (in_range_and_order d.canister ds ≡ true)
rising_first last d ds h =
    let a = and_true (is_in_range d && ltb last d.canister) (in_range_and_order d.canister ds) h in
    let b = and_true (is_in_range d) (ltb last d.canister) a.0 in
    let c = and_true (leb 1 d.canister && leb d.canister canisters && leb 1 d.steps) (leb d.steps most_steps) b.0 in
    let e = and_true (leb 1 d.canister && leb d.canister canisters) (leb 1 d.steps) c.0 in
    let f = and_true (leb 1 d.canister) (leb d.canister canisters) e.0 in
    (ltb-true last d.canister b.1, leb-true d.canister canisters f.1, a.1)

-- no thirteen of them
pub at_most_twelve : (last : ℕ) (ds : List Dose) → last ≤ canisters → in_range_and_order last ds ≡ true → last + length ds ≤ canisters
at_most_twelve last [] m h = omega arith
at_most_twelve last (d ∷ ds) m h =
    let a = rising_first last d ds h in
    let b = at_most_twelve d.canister ds a.1 a.2 in
    omega arith

pub thirteen_fail : (ds : List Dose) → canisters < length ds → in_range_and_order 0 ds ≡ false
thirteen_fail ds m =
    ⊎_elim (λ (t : in_range_and_order 0 ds ≡ true). let n = at_most_twelve 0 ds (omega arith) t in absurd (omega arith)) (λ f. f) (either (in_range_and_order 0 ds))

-- they are bytes
pub rising_entries : (last : ℕ) (ds : List Dose) → in_range_and_order last ds ≡ true → low_entries ds ≡ entries ds
rising_entries last [] h = refl
rising_entries last (d ∷ ds) h =
    let a = rising_first last d ds h in
    let e : d.canister % 256 ≡ d.canister = omega arith in
    ap₂ (λ (c : ℕ) (r : List ℕ). c ∷ (big_endian d.steps ++ r)) e (rising_entries d.canister ds a.2)

-- the bytes of an order, as the code writes them
pub rising_order_bytes : (ds : List Dose) → in_range_and_order 0 ds ≡ true → head_bytes (length ds * 3) ++ low_entries ds ≡ order_bytes ds
unfolding order_bytes
rising_order_bytes ds h =
    ap₂ (λ (n : ℕ) (s : List ℕ). format_version ∷ (big_endian n ++ s)) (sym (length-entries ds)) (rising_entries 0 ds h)

-- ---- what judging answers

pub not_refused : {X Y : Type 0} (n : ℕ) (x : X) → ◌≡◌ {A = Answer X} (refused n) (done x) → Y
not_refused n x h = absurd (let z : ◌≡◌ {A = ℕ} 0 1 = cc in omega arith)

pub same_done : {X : Type 0} {x y : X} → ◌≡◌ {A = Answer X} (done x) (done y) → x ≡ y
same_done h = cc

-- two calls that make the same test, and refuse alike behind it
refused_alike : {A B : Type 0} (t : Bool) (n m : ℕ) {next : Answer A} {other : Answer B} → (next ≡ refused m → other ≡ refused m)
    → refuse_if t n next ≡ refused m → refuse_if t n other ≡ refused m
refused_alike true n m f h = cc
refused_alike false n m f h = f h

module _ {A : Type 0} (ds : List Dose) (next : Answer A) where
  pub judge-entry : in_range_and_order 0 ds ≡ false → judge_doses ds next ≡ refused Refusals.entry
  unfolding judge_doses
  judge-entry h = rw h refl

  pub judge-steps : in_range_and_order 0 ds ≡ true → most_total < total ds → judge_doses ds next ≡ refused Refusals.steps
  unfolding judge_doses
  judge-steps h t = rw (h, lt-ltb most_total (total ds) t) refl

  pub judge_good : in_range_and_order 0 ds ≡ true → total ds ≤ most_total → judge_doses ds next ≡ next
  unfolding judge_doses
  judge_good h t = rw (h, le-ltb most_total (total ds) t) refl

  pub judged_good : (x : A) → judge_doses ds next ≡ done x → (in_range_and_order 0 ds ≡ true) × (total ds ≤ most_total) × (next ≡ done x)
  unfolding judge_doses
  judged_good x h =
      let a = passed_test (not (in_range_and_order 0 ds)) Refusals.entry (refuse_if (ltb most_total (total ds)) Refusals.steps next) x h in
      let b = passed_test (ltb most_total (total ds)) Refusals.steps next x a.1 in
      (not-false (in_range_and_order 0 ds) a.0, ltb-false most_total (total ds) b.0, b.1)

  module _ (count : ℕ) where
    pub counted_none : count ≡ 0 → judge_counted count ds next ≡ refused Refusals.format
    unfolding judge_counted
    counted_none h = rw (eq-eqb count 0 h) refl

    pub counted_many : canisters < count → judge_counted count ds next ≡ refused Refusals.entry
    unfolding judge_counted
    counted_many h = rw (ne_eqb count 0 (λ z. omega arith), lt-ltb canisters count h) refl

    pub counted-some : 1 ≤ count → count ≤ canisters → judge_counted count ds next ≡ judge_doses ds next
    unfolding judge_counted
    counted-some p m = rw (ne_eqb count 0 (λ z. omega arith), le-ltb canisters count m) refl

    pub counted_good : (x : A) → judge_counted count ds next ≡ done x
        → (1 ≤ count) × (count ≤ canisters) × (judge_doses ds next ≡ done x)
    unfolding judge_counted
    counted_good x h =
        let a = passed_test (eqb count 0) Refusals.format (refuse_if (ltb canisters count) Refusals.entry (judge_doses ds next)) x h in
        let b = passed_test (ltb canisters count) Refusals.entry (judge_doses ds next) x a.1 in
        (positive count (eqb-false count 0 a.0), ltb-false canisters count b.0, b.1)

-- doses that were judged good are twelve at most
pub judged_few : (d : Doses) → Judge d (Ok tt) → (1 ≤ d.count) × (d.count ≤ canisters)
judged_few d j = let c = counted_good (doses_of d) (done tt) d.count tt (sym j.answers) in (c.0, c.1)

-- ---- a judgement refuses whatever follows it

module _ {B : Type 0} (ds : List Dose) (other : Answer B) (n : ℕ) where
  accepted-not : ◌≡◌ {A = Answer (Unit {0})} (done tt) (refused n) → other ≡ refused n
  accepted-not z = not_refused n tt (sym z)

  pub judged_refused : refused n ≡ judge_doses {A = Unit {0}} ds (done tt) → judge_doses ds other ≡ refused n
  unfolding judge_doses
  judged_refused h =
      refused_alike (not (in_range_and_order 0 ds)) Refusals.entry n (refused_alike (ltb most_total (total ds)) Refusals.steps n accepted-not) (sym h)

  pub counted_refused : (count : ℕ) → refused n ≡ judge_counted {A = Unit {0}} count ds (done tt) → judge_counted count ds other ≡ refused n
  unfolding judge_counted
  counted_refused count h =
      refused_alike (eqb count 0) Refusals.format n
      (refused_alike (ltb canisters count) Refusals.entry n (λ e. judged_refused (sym e))) (sym h)
