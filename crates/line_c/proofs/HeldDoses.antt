-- What the tint order's calls answer, from the doses that a slice holds and the answers of the crate `tint`. Assumes nothing.
use mathlib.Core.Path.{◌≡◌, refl, ap, ap₂, sym, ◌∙◌}
use mathlib.Core.Bool.{Bool, not, ◌||◌}
use mathlib.Core.List.{List, [], ◌∷◌, ◌++◌}
use native.Mathlib.Omega.{arith}
use Prim.Native.Nat.{ℕ, ◌*◌, ◌/◌, ◌≤◌, ◌<◌}
use borrow.Author.Tests.{lt-ltb, le-ltb}
use Rattle.std.proofs.Common.{Result, Ok, Err}
use lib.Dec.{ltb}
use lib.ListN.{length, drop}
use Rattle.block.specs.Answer as A
use Rattle.block.specs.Answer.{Answer, refused, done, refuse_if}
use Rattle.block.proofs.Truth.{cond_case}
use Rattle.tint.specs.Refusals as Refusals
use Rattle.tint.specs.Format.{order_bytes, most_total, in_range_and_order, total, judge_doses}
use Rattle.tint.specs.declared.Dose.{Dose}
use Rattle.tint.specs.Calls.{refusal_number, doses_of, doses_from, judge_counted, judge, write, written_count, written_answer, written_slice, Write, read}
use Rattle.tint.specs.declared.Doses.{Doses}
use Rattle.tint.specs.declared.Refusal.{Refusal}
use Rattle.tint.proofs.Entries.{not_refused, same_done, judge_good, judged_good, judged_refused, counted_many, counted-some}
use Rattle.tint.proofs.Arrays.{doses_of-doses_from}
use Rattle.line_c.specs.BlockCalls.{refusal}
use Rattle.line_c.specs.TintCalls.{numbers_of, doses_of_numbers, doses_held, write_tint, judge_held, written_bytes, WriteTintCall, read_tint, ReadTintCall}
use Rattle.line_c.proofs.DoseNumbers.{length-numbers_of, length-doses_of_numbers, length-doses_held, held_all}

-- ---- a slice too short for its count

module _ (s : List ℕ) where
  no_dose : (ds : List Dose) → length ds ≡ 0 → ds ≡ []
  no_dose [] e = refl
  no_dose (d ∷ ds) e = absurd (omega arith)

  -- it holds no dose
  pub held_none : length s / 2 ≡ 0 → A.short ≡ refusal (judge_held s)
  held_none e =
      let none : doses_of_numbers s ≡ [] = no_dose (doses_of_numbers s) (length-doses_of_numbers s ∙ e) in
      sym (ap refusal (ap (λ (ds : List Dose). judge_doses ds (refused A.short)) none ∙ judge_good [] (refused A.short) refl (omega arith)))

  module _ (some : 1 ≤ length s / 2) (few : length s / 2 ≤ 12) (d : Doses) (e : d ≡ doses_from (doses_held s (length s / 2))) where
    judged : (a : Answer (Unit {0})) → a ≡ judge d → judge_doses (doses_of_numbers s) (done tt) ≡ a
    judged a h =
        let all = held_all s (length s / 2) (omega arith) in
        let f : d ≡ doses_from (doses_of_numbers s) = e ∙ ap doses_from all in
        let n : d.count ≡ length s / 2 = ap (λ (x : Doses). x.count) f ∙ length-doses_of_numbers s in
        let ds : doses_of d ≡ doses_of_numbers s = ap doses_of f ∙ doses_of-doses_from (doses_of_numbers s) in
        sym
        (h ∙ ap₂ (λ (k : ℕ) (x : List Dose). judge_counted k x (done tt)) n ds
        ∙ counted-some (doses_of_numbers s) (done tt) (length s / 2) some few)

    -- those that it holds are refused
    pub held_refused : (n : ℕ) → refused n ≡ judge d → n ≡ refusal (judge_held s)
    held_refused n h =
        sym (ap refusal (judged_refused (doses_of_numbers s) (refused A.short) n (sym (judged (refused n) h))))

    -- those that it holds are good
    pub held_good : done tt ≡ judge d → A.short ≡ refusal (judge_held s)
    held_good h =
        let j = judged_good (doses_of_numbers s) (done tt) tt (judged (done tt) h) in
        sym (ap refusal (judge_good (doses_of_numbers s) (refused A.short) j.0 j.1))

-- ---- writing

-- an answer that refuses, whatever the doses
always_refused : (P : Answer (List ℕ) → Type 0) → ((n : ℕ) → P (refused n)) → (ds : List Dose) (n : ℕ) → P (judge_doses ds (refused n))
unfolding judge_doses
always_refused P f ds n =
    cond_case P (not (in_range_and_order 0 ds)) (λ h. f Refusals.entry) (λ h. cond_case P (ltb most_total (total ds)) (λ g. f Refusals.steps) (λ g. f n))

module _ (s : List ℕ) (count : ℕ) (slice : List ℕ) (bytes : ℕ) where
  -- from what the call's definition answers
  by_answer : (a : Answer (List ℕ)) → write_tint s count slice ≡ a → (result bytes' : ℕ) (slice' : List ℕ) → result ≡ refusal a
      → slice' ≡ written_slice slice a → bytes' ≡ written_bytes bytes a → WriteTintCall s count slice bytes result slice' bytes'
  by_answer a e result bytes' slice' p q r =
      record { answers = p ∙ sym (ap refusal e); writes = q ∙ sym (ap (written_slice slice) e); counts = r ∙ sym (ap (written_bytes bytes) e) }

  pub write_many : 12 < count → WriteTintCall s count slice bytes Refusals.entry slice bytes
  unfolding write_tint
  write_many h = by_answer (refused Refusals.entry) (counted_many (doses_held s count) _ count h) Refusals.entry bytes slice refl refl refl

  pub write-short : length s / 2 < count → count ≤ 12 → (result : ℕ) → result ≡ refusal (judge_held s)
      → WriteTintCall s count slice bytes result slice bytes
  unfolding write_tint
  write-short h m result e =
      by_answer (judge_held s)
      (counted-some (doses_held s count) _ count (omega arith) m
      ∙ ap₂ (λ (ds : List Dose) (t : Bool). judge_doses ds (refuse_if (t || ltb (length slice) (length (order_bytes (doses_held s count)))) A.short (done (order_bytes (doses_held s count)))))
      (held_all s count (omega arith)) (lt-ltb (length s) (count * 2) (omega arith)))
      result bytes slice e (kept (λ a. slice ≡ written_slice slice a) (λ n. refl)) (kept (λ a. bytes ≡ written_bytes bytes a) (λ n. refl))
    where
      kept : (P : Answer (List ℕ) → Type 0) → ((n : ℕ) → P (refused n)) → P (judge_held s)
      kept P f = always_refused P f (doses_of_numbers s) A.short

  module _ (room : count * 2 ≤ length s) (d : Doses) (e : d ≡ doses_from (doses_held s count)) where
    same_write : write_tint s count slice ≡ write d slice
    unfolding write_tint write
    same_write =
        let n : d.count ≡ count = ap (λ (x : Doses). x.count) e ∙ length-doses_held s count room in
        let ds : doses_of d ≡ doses_held s count = ap doses_of e ∙ doses_of-doses_from (doses_held s count) in
        ap (λ (t : Bool). judge_counted count (doses_held s count) (refuse_if (t || ltb (length slice) (length (order_bytes (doses_held s count)))) A.short (done (order_bytes (doses_held s count)))))
        (le-ltb (length s) (count * 2) room)
        ∙ ap₂ (λ (k : ℕ) (x : List Dose). judge_counted k x (refuse_if (ltb (length slice) (length (order_bytes x))) A.short (done (order_bytes x)))) (sym n) (sym ds)

    -- what the crate `tint` answers
    module _ (answer : Result ℕ Refusal) (slice' : List ℕ) (w : Write d slice answer slice') where
      pub write_refused : (r : Refusal) → answer ≡ Err r → WriteTintCall s count slice bytes (refusal_number r) slice' bytes
      write_refused r g = go (write d slice) refl
        where
          n : ℕ
          n = refusal_number r

          go : (a : Answer (List ℕ)) → write d slice ≡ a → WriteTintCall s count slice bytes n slice' bytes
          go (refused m) f =
              let k : ◌≡◌ {A = Answer ℕ} (refused n) (refused m) = sym (ap written_answer g) ∙ w.answers ∙ ap written_count f in
              let kept : slice' ≡ slice = w.writes ∙ ap (written_slice slice) f in
              by_answer (refused m) (same_write ∙ f) n bytes slice' (let e : n ≡ m = cc in e) kept refl
          go (done x) f = not_refused n (length x) (sym (ap written_answer g) ∙ w.answers ∙ ap written_count f)

      pub write_done : (n : ℕ) → answer ≡ Ok n → WriteTintCall s count slice bytes 0 slice' n
      write_done n g = go (write d slice) refl
        where
          go : (a : Answer (List ℕ)) → write d slice ≡ a → WriteTintCall s count slice bytes 0 slice' n
          go (refused m) f = not_refused m n (sym (sym (ap written_answer g) ∙ w.answers ∙ ap written_count f))
          go (done x) f =
              by_answer (done x) (same_write ∙ f) 0 n slice' refl (w.writes ∙ ap (written_slice slice) f)
              (same_done (sym (ap written_answer g) ∙ w.answers ∙ ap written_count f))

-- ---- reading

module _ (order s : List ℕ) (count : ℕ) where
  pub read_refused : (n : ℕ) → refused n ≡ read order → ReadTintCall order s count n s count
  unfolding read_tint
  read_refused n e = record { answers = rw (← e); writes = rw (← e); counts = rw (← e) }

  module _ (ds : List Dose) (e : done ds ≡ read order) where
    pub read_short : length s / 2 < length ds → ReadTintCall order s count A.short s count
    unfolding read_tint
    read_short h =
        let n = length-numbers_of ds in
        let t = lt-ltb (length s) (length (numbers_of ds)) (omega arith) in
        record { answers = rw (← e, t); writes = rw (← e, t); counts = rw (← e, t) }

    pub read_done : (k : ℕ) (s' : List ℕ) → k ≡ length ds → length ds ≤ length s / 2 → s' ≡ numbers_of ds ++ drop (k * 2) s
        → ReadTintCall order s count 0 s' k
    unfolding read_tint
    read_done k s' m h w =
        let n = length-numbers_of ds in
        let t = le-ltb (length s) (length (numbers_of ds)) (omega arith) in
        let f : k * 2 ≡ length (numbers_of ds) = omega arith in
        record {
          answers = rw (← e, t);
          writes = rw (← e, t) (w ∙ ap (λ (i : ℕ). numbers_of ds ++ drop i s) f);
          counts = rw (← e, t) m;
        }
