-- Each of the two calls on tint orders undoes the other. Assumes nothing.
use mathlib.Core.Path.{◌≡◌, refl, sym, ap, ap₂, ◌∙◌, subst}
use mathlib.Core.Bool.{◌||◌, true≢false}
use mathlib.Core.List.{List, [], ◌∷◌, ◌++◌}
use native.Mathlib.Omega.{arith}
use Prim.Native.Nat.{ℕ, zero, suc, ◌+◌, ◌*◌, ◌≤◌}
use borrow.Author.Tests.{ltb-false, le-ltb}
use lib.Dec.{ltb, lit≤}
use lib.ListN.{length, take, drop, replicate, length-append}
use lib.Seq.{take-append_seam}
use Rattle.block.specs.Answer as A
use Rattle.block.specs.Answer.{Answer, refused, done}
use Rattle.block.proofs.Truth.{or-false}
use Rattle.block.proofs.Refusals.{passed_test}
use Rattle.line.specs.WholeOrder.{Bytes}
use Rattle.tint.specs.Format.{order_bytes, judge_doses}
use Rattle.tint.specs.declared.Dose.{Dose}
use Rattle.tint.specs.Calls.{judge_counted, written_slice, read}
use Rattle.tint.proofs.Entries.{not_refused, same_done, judge_good, judged_good, counted-some, counted_good}
use Rattle.tint.proofs.RoundTrip.{Writable, reads_order, order_read, read_few, encoded}
use Rattle.line_c.specs.BlockCalls.{refusal}
use Rattle.line_c.specs.TintCalls.{numbers_of, doses_held, write_tint, written_bytes, WriteTintCall, judge_room, read_tint, read_numbers, read_count, ReadTintCall, TintRoundTrip}
use Rattle.line_c.specs.Refused.{is_refusal, is_refused}
use Rattle.line_c.proofs.DoseNumbers.{length-numbers_of, length-doses_held}
use Rattle.line_c.proofs.Refused.{refusals_told}

-- ---- answers

-- 0 is no refusal
by_zero : {X : Type 0} (a : Answer X) → is_refusal (refusal a) ≡ is_refused a → 0 ≡ refusal a → (x : X) × (a ≡ done x)
by_zero (refused n) t e = absurd (true≢false (sym (ap is_refusal e ∙ t)))
by_zero (done x) t e = (x, refl)

-- ---- numbers and doses

numbers_held : (s : List ℕ) (count : ℕ) → count * 2 ≤ length s → numbers_of (doses_held s count) ≡ take (count * 2) s
numbers_held s zero h = refl
numbers_held [] (suc n) h = absurd (omega arith)
numbers_held (a ∷ []) (suc n) h = absurd (omega arith)
numbers_held (a ∷ b ∷ s) (suc n) h =
    let e : suc n * 2 ≡ suc (suc (n * 2)) = omega arith in
    ap (λ (l : List ℕ). a ∷ b ∷ l) (numbers_held s n (omega arith)) ∙ ap (λ (k : ℕ). take k (a ∷ b ∷ s)) (sym e)

held_numbers : (ds : List Dose) (behind : List ℕ) → doses_held (numbers_of ds ++ behind) (length ds) ≡ ds
held_numbers [] behind = refl
held_numbers (d ∷ ds) behind = ap (λ (r : List Dose). d ∷ r) (held_numbers ds behind)

-- ---- what is written

module _ (numbers : List ℕ) (count : ℕ) (slice : List ℕ) where
  abbrev ds : List Dose
  ds = doses_held numbers count

  written : (order : List ℕ) → write_tint numbers count slice ≡ done order
      → Writable ds × (count * 2 ≤ length numbers) × (order_bytes ds ≡ order)
  unfolding write_tint
  written order h =
      let c = counted_good ds _ count order h in
      let j = judged_good ds _ order c.2 in
      let t = passed_test (ltb (length numbers) (count * 2) || ltb (length slice) (length (order_bytes ds))) A.short (done (order_bytes ds)) order j.2 in
      let o = or-false (ltb (length numbers) (count * 2)) (ltb (length slice) (length (order_bytes ds))) t.0 in
      let room = ltb-false (length numbers) (count * 2) o.0 in
      let n = length-doses_held numbers count room in
      (record { some = omega (arith, c.0); in_order = j.0; small = j.1 }, room, same_done t.1)

  writes : Writable ds → 1 ≤ count → count ≤ 12 → count * 2 ≤ length numbers → length (order_bytes ds) ≤ length slice
      → write_tint numbers count slice ≡ done (order_bytes ds)
  unfolding write_tint
  writes w some few room long =
      counted-some ds _ count some few ∙ judge_good ds _ w.in_order w.small
      ∙ rw (le-ltb (length numbers) (count * 2) room, le-ltb (length slice) (length (order_bytes ds)) long) refl

-- ---- what is read

reads : (order room : List ℕ) (ds : List Dose) → read order ≡ done ds → length ds * 2 ≤ length room → read_tint order room ≡ done ds
unfolding read_tint
reads order room ds e h =
    let n = length-numbers_of ds in
    ap (judge_room room) e ∙ rw (le-ltb (length room) (length (numbers_of ds)) (omega arith)) refl

was_read : (room : List ℕ) (a : Answer (List Dose)) (ds : List Dose) → judge_room room a ≡ done ds → a ≡ done ds
was_read room (refused n) ds h = not_refused n ds h
was_read room (done x) ds h = ap done (same_done (passed_test (ltb (length room) (length (numbers_of x))) A.short (done x) ds h).1)

order_of : (order room : List ℕ) (ds : List Dose) → read_tint order room ≡ done ds → read order ≡ done ds
unfolding read_tint
order_of order room ds h = was_read room (read order) ds h

-- ---- there and back

reads_written : (numbers : List ℕ) (count : ℕ) (slice slice' : List ℕ) (bytes bytes' : ℕ) (room room' : List ℕ) (n n' result : ℕ)
    → WriteTintCall numbers count slice bytes 0 slice' bytes' → count * 2 ≤ length room
    → ReadTintCall (take bytes' slice') room n result room' n'
    → (result ≡ 0) × (n' ≡ count) × (room' ≡ take (count * 2) numbers ++ drop (count * 2) room)
reads_written numbers count slice slice' bytes bytes' room room' n n' result w h r =
    let a = by_zero (write_tint numbers count slice) (refusals_told.write_tint numbers count slice) w.answers in
    let order : List ℕ = a.0 in
    let o = written numbers count slice order a.1 in
    let ds : List Dose = doses_held numbers count in
    let m = length-doses_held numbers count o.1 in
    let s : slice' ≡ order ++ drop (length order) slice = w.writes ∙ ap (written_slice slice) a.1 in
    let b : bytes' ≡ length order = w.counts ∙ ap (written_bytes bytes) a.1 in
    let t : take bytes' slice' ≡ order_bytes ds = ap₂ take b s ∙ take-append_seam order (drop (length order) slice) ∙ sym o.2 in
    let e : read_tint (take bytes' slice') room ≡ done ds =
    reads (take bytes' slice') room ds (ap read t ∙ reads_order ds o.0) (omega arith) in
    let l : length (numbers_of ds) ≡ count * 2 = length-numbers_of ds ∙ ap (λ (k : ℕ). k * 2) m in (
      r.answers ∙ ap refusal e,
      r.counts ∙ ap (read_count n) e ∙ m,
      r.writes ∙ ap (read_numbers room) e ∙ ap₂ (λ (x : List ℕ) (k : ℕ). x ++ drop k room) (numbers_held numbers count o.1) l,
    )

writes_read : (order room room' : List ℕ) (n n' : ℕ) (slice slice' : List ℕ) (bytes bytes' result : ℕ) → Bytes order
    → ReadTintCall order room n 0 room' n' → length order ≤ length slice → WriteTintCall room' n' slice bytes result slice' bytes'
    → (result ≡ 0) × (bytes' ≡ length order) × (slice' ≡ order ++ drop (length order) slice)
writes_read order room room' n n' slice slice' bytes bytes' result b r h w =
    let a = by_zero (read_tint order room) (refusals_told.read_tint order room) r.answers in
    let ds : List Dose = a.0 in
    let e : read order ≡ done ds = order_of order room ds a.1 in
    let good = (order_read order ds e).0 in
    let few = read_few order ds e in
    let some = good.some in
    let behind : List ℕ = drop (length (numbers_of ds)) room in
    let m : n' ≡ length ds = r.counts ∙ ap (read_count n) a.1 in
    let s : room' ≡ numbers_of ds ++ behind = r.writes ∙ ap (read_numbers room) a.1 in
    let d : doses_held room' n' ≡ ds = ap₂ doses_held s m ∙ held_numbers ds behind in
    let l : length room' ≡ length ds * 2 + length behind =
    ap length s ∙ length-append (numbers_of ds) behind ∙ ap (λ (k : ℕ). k + length behind) (length-numbers_of ds) in
    let o : order_bytes ds ≡ order = encoded order ds b e in
    let long : length (order_bytes (doses_held room' n')) ≤ length slice =
    subst (λ (x : List ℕ). length x ≤ length slice) (sym (ap order_bytes d ∙ o)) h in
    let f : write_tint room' n' slice ≡ done order =
    writes room' n' slice (subst Writable (sym d) good) (omega arith) (omega arith) (omega arith) long ∙ ap done (ap order_bytes d ∙ o) in (
      w.answers ∙ ap refusal f,
      w.counts ∙ ap (written_bytes bytes) f,
      w.writes ∙ ap (written_slice slice) f,
    )

pub tint_round_trip : TintRoundTrip
tint_round_trip = record { reads_written = reads_written; writes_read = writes_read }

-- ---- what is supposed can be met: one dose, written and read

abbrev numbers : List ℕ
numbers = 12 ∷ 4800 ∷ 7 ∷ []

abbrev order : List ℕ
order = 1 ∷ 0 ∷ 3 ∷ 12 ∷ 0x12 ∷ 0xc0 ∷ []

one_written : WriteTintCall numbers 1 (replicate 8 9) 0 0 (order ++ (9 ∷ 9 ∷ [])) 6
unfolding write_tint judge_counted judge_doses order_bytes
one_written = record { answers = refl; writes = refl; counts = refl }

one_read : ReadTintCall order (replicate 3 5) 0 0 (12 ∷ 4800 ∷ 5 ∷ []) 1
unfolding read_tint read judge_doses
one_read = record { answers = refl; writes = refl; counts = refl }

pub read_again : (◌≡◌ {A = ℕ} 0 0) × (◌≡◌ {A = ℕ} 1 1) × (12 ∷ 4800 ∷ 5 ∷ [] ≡ take 2 numbers ++ drop 2 (replicate 3 5))
read_again =
    tint_round_trip.reads_written numbers 1 (replicate 8 9) (order ++ (9 ∷ 9 ∷ [])) 0 6 (replicate 3 5) (12 ∷ 4800 ∷ 5 ∷ [])
    0 1 0 one_written (lit≤ tt) one_read
