-- What the rules in step make of a block: of an item that arrives as it was before cancelling, of a block that fails the
-- check, and of a synchronising block. Assumes nothing.
use mathlib.Core.Path.{◌≡◌, refl, ap, sym, ◌∙◌}
use mathlib.Core.Logic.{◌⊎◌, inl, inr, ⊎_elim}
use mathlib.Core.Bool.{Bool, true, false, cond, not, ◌&&◌}
use mathlib.Core.List.{◌++◌, append_assoc}
use Prim.Native.Nat.{ℕ, zero, suc, ◌+◌, ◌-◌, ◌/◌, ◌≤◌, ◌<◌}
use native.Mathlib.Omega.{arith}
use lib.ListN.{length, take, drop, length-append}
use lib.Seq.{take_at, drop_at}
use lib.Dec.{eqb, ltb}
use borrow.Author.Tests.{eqb-true, eqb-false, ltb-true, ltb-false, lt-ltb, eq-eqb, ne_eqb}
use Rattle.crc.specs.Bits.{Bits, bit, number, binary, zeros}
use Rattle.crc.specs.Check.{remainder, passes}
use Rattle.crc.proofs.Rows.{length-binary, number-binary}
use Rattle.block.specs.Lengths.{is_length}
use Rattle.block.specs.Block.{service_of, payload_of, Verdict, passed, failed, verdict, service_sync, sync_sequence, tens, sync_block}
use Rattle.block.proofs.Lengths.{length_facts}
use Rattle.block.proofs.Block.{length-sync_block}
use Rattle.block.proofs.Truth.{cond_case, either, bit_false}
use Rattle.line.specs.Marks.{is_mark}
use Rattle.line.specs.Order.{longest_order, most_items, valid_length, item_count, is_letter, end_service, data_service, version, end_payload, item_service, item_payload, item_bits}
use Rattle.line.specs.Receiving.{Rule, reads_sync, check_fails, accepts, previous, out_of_sequence, ends, wrong_length, ends_again, anything_else, meaning, event_kind, Place, expected, last, next, other, place, place_rule, makes_items, end_rule, mark_rule, service_rule, verdict_rule, looks_sync, judge, or_wait, block_rule}
use Rattle.line.specs.declared.marks.Marks.{Marks}
use Rattle.line.specs.declared.receiver.Receiver.{Receiver}
use Rattle.line.proofs.OrWait.{same_data_or_end}
use Rattle.line.proofs.ServiceBits.{place_expected, place_last, place-next, by_place}
use Rattle.line.proofs.Items.{valid_most, item_count_fits, item_service_data, item_service_end, item_service-not_sync, item_payload_end, service_item_bits, payload_item_bits, passes-item_bits}
use Rattle.line.proofs.Delivery.Ends.{Neighbour}

-- ---- an item that arrives as it was before cancelling, with r items taken

-- item r, the data item before it or the one after it, or an end block
pub data Unharmed (k L r : ℕ) (ended : Bool) (i : ℕ) : Rule → Type 0 where
  expected_item : i < item_count k L → bit ended ≡ 0 → i ≡ r → Unharmed k L r ended i accepts
  last_item : i < item_count k L → bit ended ≡ 0 → i + 1 ≡ r → Unharmed k L r ended i previous
  next_item : i < item_count k L → bit ended ≡ 0 → i ≡ r + 1 → Unharmed k L r ended i out_of_sequence
  end_again : item_count k L ≤ i → ended ≡ true → Unharmed k L r ended i ends_again
  end_all : item_count k L ≤ i → ended ≡ false → r ≡ item_count k L → Unharmed k L r ended i (ends L)
  end_short : item_count k L ≤ i → ended ≡ false → (r ≡ item_count k L → ⊥) → Unharmed k L r ended i wrong_length

module _ (m : Marks) (k L r i : ℕ) (h : i < item_count k L) (few : item_count k L ≤ most_items) where
  -- by its distance d from item r - 1
  place_read : (d : ℕ) → i + 1 ≡ r + d → d ≤ 2
      → Unharmed k L r false i (place_rule r (place m.in_use r (data_service m i)))
  place_read zero e g = let q : r ≡ i + 1 = omega arith in rw (q, place_last m i) (last_item h refl refl)
  place_read (suc zero) e g =
      let q : i ≡ r = omega arith in
      rw (q, place_expected m r, lt-ltb r most_items (omega arith)) (expected_item (omega arith) refl refl)
  place_read (suc (suc d)) e g =
      let q : i ≡ r + 1 = omega arith in
      rw (q, place-next m r) (next_item (omega arith) refl refl)

  data_read : (ended : Bool) (payload : Bits) → Neighbour r (bit ended) i
      → Unharmed k L r ended i (service_rule m.in_use k r ended (data_service m i) payload)
  data_read ended payload b =
      rw (bit_false ended b.open_end, by_place m k r i payload) (place_read (i + 1 - r) (omega arith) (omega arith))

module _ (k L : ℕ) where
  end_version : number (take 8 (end_payload k L)) ≡ version
  unfolding end_payload
  end_version =
      ap (λ (l : Bits). number (take 8 l)) (append_assoc (binary 8 version) (binary 32 L) (zeros (k - 40)))
      ∙ ap number (take_at (binary 8 version) (binary 32 L ++ zeros (k - 40)) 8 (length-binary 8 version))
      ∙ number-binary 8 version (omega arith)

  end_length : L ≤ longest_order → number (take 32 (drop 8 (end_payload k L))) ≡ L
  unfolding end_payload
  end_length h =
      ap (λ (l : Bits). number (take 32 (drop 8 l))) (append_assoc (binary 8 version) (binary 32 L) (zeros (k - 40)))
      ∙ ap (λ (l : Bits). number (take 32 l))
      (drop_at (binary 8 version) (binary 32 L ++ zeros (k - 40)) 8 (length-binary 8 version))
      ∙ ap number (take_at (binary 32 L) (zeros (k - 40)) 32 (length-binary 32 L))
      ∙ number-binary 32 L (omega arith)

  end_read : (in_use : Bool) (r : ℕ) (ended : Bool) (i : ℕ) → valid_length L ≡ true → item_count k L ≤ i
      → Unharmed k L r ended i (service_rule in_use k r ended end_service (end_payload k L))
  unfolding service_rule is_letter end_rule
  end_read in_use r ended i valid h =
      cond_case (Unharmed k L r ended i) ended (end_again h)
      (λ e. rw (end_version, end_length (valid_most L valid), valid)
      (cond_case (Unharmed k L r ended i) (makes_items k L r) (λ c. end_all h e (sym (eqb-true (item_count k L) r c)))
      (λ c. end_short h e (λ m. eqb-false (item_count k L) r c (sym m)))))

module _ (m : Marks) (k L : ℕ) (content : Bits) (known : is_length k ≡ true) (long : length content ≡ L) where
  which : (i : ℕ) → (i < item_count k L) ⊎ (item_count k L ≤ i)
  which i =
      ⊎_elim (λ e. inl (ltb-true i (item_count k L) e)) (λ e. inr (ltb-false i (item_count k L) e)) (either (ltb i (item_count k L)))

  -- rule 1 never reads it
  item_never_sync : (i : ℕ) → looks_sync k (item_bits m k L content i) ≡ false
  unfolding looks_sync number
  item_never_sync i = rw (service_item_bits m k L i content, ne_eqb (item_service m k L i) 5 (item_service-not_sync m k L i)) refl

  -- it is read by its service bits
  pub item_read : (r : ℕ) (ended : Bool) (i : ℕ)
      → judge m.in_use k r ended (item_bits m k L content i) ≡ service_rule m.in_use k r ended (item_service m k L i) (item_payload k L content i)
  unfolding judge verdict
  item_read r ended i =
      rw (item_never_sync i, passes-item_bits m k L content i, service_item_bits m k L i content, payload_item_bits k L content known long m i) refl

  module _ (valid : valid_length L ≡ true) (r : ℕ) (ended : Bool) (i : ℕ) (b : i < item_count k L → Neighbour r (bit ended) i) where
    unharmed : (i < item_count k L) ⊎ (item_count k L ≤ i)
        → Unharmed k L r ended i (service_rule m.in_use k r ended (item_service m k L i) (item_payload k L content i))
    unharmed (inl h) =
        rw (item_service_data m k L i h)
        (data_read m k L r i h (item_count_fits k L known valid) ended (item_payload k L content i) (b h))
    unharmed (inr h) =
        rw (item_service_end m k L i h, item_payload_end k L i content h) (end_read k L m.in_use r ended i valid h)

    pub judge_item : Unharmed k L r ended i (judge m.in_use k r ended (item_bits m k L content i))
    judge_item = rw (item_read r ended i) (unharmed (which i))

-- ---- a block that fails the check

pub judge_fails : (in_use : Bool) (k r : ℕ) (ended : Bool) (row : Bits) → passes row ≡ false
    → (judge in_use k r ended row ≡ reads_sync) ⊎ (judge in_use k r ended row ≡ check_fails (remainder row))
unfolding judge verdict
judge_fails in_use k r ended row h =
    cond_case (λ (x : Rule). (x ≡ reads_sync) ⊎ (x ≡ check_fails (remainder row))) (looks_sync k row) (λ e. inl refl)
    (λ e. inr (ap (λ (b : Bool). verdict_rule in_use k r ended row (cond b (passed (number (service_of row))) (failed (remainder row)))) h))

-- ---- a synchronising block

sync_front : (k : ℕ) → is_length k ≡ true → length (service_sync ++ tens (k / 2)) ≡ k + 4
unfolding sync_block
sync_front k h = omega (arith, length-sync_block k (length_facts k h).0, length-append (service_sync ++ tens (k / 2)) sync_sequence)

-- unharmed, it is read by rule 1
pub judge_sync : (in_use : Bool) (k r : ℕ) (ended : Bool) → is_length k ≡ true → judge in_use k r ended (sync_block k) ≡ reads_sync
unfolding judge looks_sync sync_block
judge_sync in_use k r ended h =
    rw (
      drop_at (service_sync ++ tens (k / 2)) sync_sequence (k + 4) (sync_front k h),
      eq-eqb (number sync_sequence)
          (number sync_sequence) refl,
      eq-eqb (number service_sync) (number service_sync) refl,
    ) refl

-- any block: rule 1, rule 2, rules 3 to 6, or rule 7
pub data Judged : Rule → Type 0 where
  as_sync : Judged reads_sync
  fails : (n : ℕ) → Judged (check_fails n)
  as_data : {x : Rule} → (meaning x).data_or_end ≡ true → Judged x
  as_other : Judged anything_else

abbrev pub is_waiting : Rule → Bool
is_waiting x = (event_kind (meaning x).event).wait

-- what holds of rules 3 to 7 holds of the rule by any service bits
module _ (P : Rule → Type 0) (some : (x : Rule) → (meaning x).data_or_end ≡ true → is_waiting x ≡ false → P x) (none : P anything_else)
    (in_use : Bool) (k r : ℕ) (ended : Bool) where
  place_case : (p : Place) → P (place_rule r p)
  place_case expected = cond_case P (ltb r most_items) (λ e. some _ refl refl) (λ e. none)
  place_case last = some _ refl refl
  place_case next = some _ refl refl
  place_case other = none

  end_case : (payload : Bits) → P (end_rule k r ended payload)
  unfolding end_rule
  end_case payload =
      cond_case P ended (λ e. some _ refl refl)
      (λ e. cond_case P
      (eqb (number (take 8 payload)) version && valid_length (number (take 32 (drop 8 payload))) && makes_items k
      (number (take 32 (drop 8 payload))) r)
      (λ e. some _ refl refl) (λ e. some _ refl refl))

  mark_case : (service : ℕ) → P (mark_rule in_use r ended service)
  unfolding mark_rule
  mark_case service =
      cond_case P (in_use && is_mark service && not ended) (λ e. place_case (place in_use r service)) (λ e. none)

  pub service_case : (service : ℕ) (payload : Bits) → P (service_rule in_use k r ended service payload)
  unfolding service_rule
  service_case service payload =
      cond_case P (is_letter service)
      (λ a. cond_case P ended (λ e. some _ refl refl) (λ e. place_case (place in_use r service)))
      (λ a. cond_case P (eqb service end_service) (λ e. end_case payload) (λ e. mark_case service))

verdict-judged : (in_use : Bool) (k r : ℕ) (ended : Bool) (row : Bits) (v : Verdict) → Judged (verdict_rule in_use k r ended row v)
verdict-judged in_use k r ended row (failed n) = fails n
verdict-judged in_use k r ended row (passed service) =
    service_case Judged (λ x d w. as_data d) as_other in_use k r ended service (payload_of k row)

pub judged : (in_use : Bool) (k r : ℕ) (ended : Bool) (row : Bits) → Judged (judge in_use k r ended row)
unfolding judge
judged in_use k r ended row =
    cond_case Judged (looks_sync k row) (λ e. as_sync) (λ e. verdict-judged in_use k r ended row (verdict row))

-- the judging itself never comes to *wait*
verdict_never_waits : (in_use : Bool) (k r : ℕ) (ended : Bool) (row : Bits) (v : Verdict) → is_waiting (verdict_rule in_use k r ended row v) ≡ false
verdict_never_waits in_use k r ended row (failed n) = refl
verdict_never_waits in_use k r ended row (passed service) =
    service_case (λ (x : Rule). is_waiting x ≡ false) (λ x d w. w) refl in_use k r ended service (payload_of k row)

pub judge_never_waits : (in_use : Bool) (k r : ℕ) (ended : Bool) (row : Bits) → is_waiting (judge in_use k r ended row) ≡ false
unfolding judge
judge_never_waits in_use k r ended row =
    cond_case (λ (x : Rule). is_waiting x ≡ false) (looks_sync k row) (λ e. refl) (λ e. verdict_never_waits in_use k r ended row (verdict row))

-- ready or not
or_wait-judged : (ready : Bool) {x : Rule} → Judged x → Judged (or_wait ready x)
or_wait-judged ready as_sync = as_sync
or_wait-judged ready (fails n) = fails n
or_wait-judged ready {x} (as_data h) = as_data (same_data_or_end ready x ∙ h)
or_wait-judged ready as_other = as_other

pub block-judged : (s : Receiver) (row : Bits) (ready : Bool) → Judged (block_rule s row ready)
block-judged s row ready = or_wait-judged ready (judged s.setup.marks.in_use s.setup.k s.taken s.ended row)
