-- What a receiving call takes, by its event: an item exactly where it is accepted, the end exactly where it is ended; after
-- either nothing is held, in step and in range. Assumes nothing.
use mathlib.Core.Path.{◌≡◌, refl, sym, ◌∙◌}
use mathlib.Core.Bool.{Bool, true, false, not, ◌&&◌, ◌||◌, false≢true}
use mathlib.Core.List.{List}
use Prim.Native.Nat.{ℕ, ◌+◌, ◌≤◌, ◌<◌}
use native.Mathlib.Omega.{arith}
use borrow.Author.Tests.{ltb-true, lt-ltb}
use lib.Dec.{eqb, leb, ltb}
use lib.ListN.{take, drop}
use Rattle.crc.specs.Bits.{Bits, bit, number, bits_of}
use Rattle.block.specs.Answer.{done}
use Rattle.block.specs.Lengths.{block_length}
use Rattle.block.specs.Block.{payload_of, Verdict, passed, failed, verdict}
use Rattle.block.proofs.Lengths.{length_facts}
use Rattle.block.proofs.Truth.{cond_case, or_no, or_yes}
use Rattle.line.specs.Marks.{is_mark}
use Rattle.line.specs.Order.{most_items, valid_length, is_letter, end_service, version}
use Rattle.line.specs.Receiving.{Rule, unfinished, standing, sequence_found, reads_sync, check_fails, accepts, previous, out_of_sequence, ends, wrong_length, ends_again, anything_else, waits, meaning, is_accepted, is_ended, takes_block, Place, expected, last, next, other, place, place_rule, makes_items, end_rule, mark_rule, service_rule, verdict_rule, looks_sync, judge, or_wait, block_rule, after_good, last_bad, after_bad, after, finished_row, Reception, idle_rule, receive}
use Rattle.line.specs.declared.receiver.Receiver.{Receiver}
use Rattle.line.specs.declared.receiving.Phase.{Phase}
use Rattle.line.specs.declared.receiving.Phase.TheVariants as P
use Rattle.line.specs.declared.receiving.Event.{Event}
use Rattle.line.specs.declared.receiving.Event.TheVariants as E
use Rattle.line.proofs.OrWait.{at_ready, stores_nothing}
use Rattle.line.proofs.Delivery.BlockRules.{block-judged}
use Rattle.line.proofs.Pieces.Step.{judged_event}
use Rattle.line.proofs.ReceivingCall.{InRange, in_range, heard}
use Rattle.line.proofs.ReceptionCases.{received_case}

-- ---- an item is accepted only while there is room for it in r's range

abbrev Room : ℕ → Rule → Type 0
Room r x = (meaning x).stores ≡ true → r < most_items

module _ (in_use : Bool) (k r : ℕ) (ended : Bool) where
  place-room : (p : Place) → Room r (place_rule r p)
  place-room expected = cond_case (Room r) (ltb r most_items) (λ e h. ltb-true r most_items e) (λ e h. absurd (false≢true h))
  place-room last = λ h. absurd (false≢true h)
  place-room next = λ h. absurd (false≢true h)
  place-room other = λ h. absurd (false≢true h)

  end_room : (payload : Bits) → Room r (end_rule k r ended payload)
  unfolding end_rule
  end_room payload =
      let L : ℕ = number (take 32 (drop 8 payload)) in
      cond_case (Room r) ended (λ e h. absurd (false≢true h))
      (λ e. cond_case (Room r) (eqb (number (take 8 payload)) version && valid_length L && makes_items k L r) (λ f h. absurd (false≢true h))
      (λ f h. absurd (false≢true h)))

  service_room : (service : ℕ) (payload : Bits) → Room r (service_rule in_use k r ended service payload)
  unfolding service_rule mark_rule
  service_room service payload =
      cond_case (Room r) (is_letter service)
      (λ e. cond_case (Room r) ended (λ f h. absurd (false≢true h)) (λ f. place-room (place in_use r service)))
      (λ e. cond_case (Room r) (eqb service end_service) (λ f. end_room payload)
      (λ f. cond_case (Room r) (in_use && is_mark service && not ended) (λ g. place-room (place in_use r service)) (λ g h. absurd (false≢true h))))

  verdict-room : (row : Bits) (v : Verdict) → Room r (verdict_rule in_use k r ended row v)
  verdict-room row (failed n) = λ h. absurd (false≢true h)
  verdict-room row (passed service) = service_room service (payload_of k row)

  judge-room : (row : Bits) → Room r (judge in_use k r ended row)
  unfolding judge
  judge-room row = cond_case (Room r) (looks_sync k row) (λ e h. absurd (false≢true h)) (λ e. verdict-room row (verdict row))

-- not ready, none is stored
wait_room : (r : ℕ) (ready : Bool) (x : Rule) → Room r x → Room r (or_wait ready x)
wait_room r true x f = rw (at_ready x) f
wait_room r false x f = λ h. absurd (false≢true (sym (stores_nothing x) ∙ h))

block_room : (s : Receiver) (row : Bits) (ready : Bool) → Room s.taken (block_rule s row ready)
block_room s row ready =
    wait_room s.taken ready (judge s.setup.marks.in_use s.setup.k s.taken s.ended row)
    (judge-room s.setup.marks.in_use s.setup.k s.taken s.ended row)

-- ---- what is taken

-- in step, in range, nothing held
pub record Blank (t : Receiver) : Type 0 where
  pub range : InRange t
  pub in_step : t.phase ≡ P.InStep
  pub held : t.held ≡ 0

pub record Takes (s : Receiver) (event : Event) (t : Receiver) : Type 0 where
  pub taken : t.taken ≡ s.taken + bit (is_accepted event)
  pub ended : t.ended ≡ s.ended || is_ended event
  pub blank : takes_block event ≡ true → Blank t

module _ (s : Receiver) where
  -- nothing
  nothing : (event : Event) (t : Receiver) → is_accepted event ≡ false → is_ended event ≡ false → t.taken ≡ s.taken → t.ended ≡ s.ended
      → Takes s event t
  nothing event t n e r d =
      record {
        taken = rw n (omega arith);
        ended = rw (e, or_no s.ended) d;
        blank = λ h. absurd (false≢true (rw (n, e) at h));
      }

  module _ (range : InRange s) where
    good_blank : (taken : ℕ) (ended : Bool) → taken ≤ most_items → Blank (after_good s taken ended)
    good_blank taken ended h =
        let k = length_facts s.setup.k range.known in
        record {
          range =
              record {
                known = range.known;
                marks = range.marks;
                bad_row = omega arith;
                taken = h;
                held = lt-ltb 0 (block_length s.setup.k) (omega arith);
              };
          in_step = refl;
          held = refl;
        }

    bad_takes : (n : ℕ) (search : Bool) → Takes s (E.Bad n) (after_bad s search)
    bad_takes n search =
        cond_case (Takes s (E.Bad n)) search (λ e. nothing (E.Bad n) _ refl refl refl refl) (λ e. nothing (E.Bad n) _ refl refl refl refl)

    after-takes : (x : Rule) → (meaning x).uses_all ≡ false → Room s.taken x → Takes s (meaning x).event (after s x)
    after-takes unfinished u f = absurd (false≢true (sym u))
    after-takes (standing alarm) u f = absurd (false≢true (sym u))
    after-takes sequence_found u f = nothing E.Sync _ refl refl refl refl
    after-takes reads_sync u f = nothing E.Sync _ refl refl refl refl
    after-takes (check_fails n) u f = bad_takes n (leb last_bad (s.bad_row + 1))
    after-takes accepts u f =
        record {
          taken = refl;
          ended = sym (or_no s.ended);
          blank = λ h. good_blank (s.taken + 1) s.ended (omega (arith, f refl));
        }
    after-takes previous u f = nothing E.Previous _ refl refl refl refl
    after-takes out_of_sequence u f = nothing E.SequenceAlarm _ refl refl refl refl
    after-takes (ends L) u f =
        record {
          taken = omega arith;
          ended = sym (or_yes s.ended);
          blank = λ h. good_blank s.taken true range.taken;
        }
    after-takes wrong_length u f = nothing E.LengthAlarm _ refl refl refl refl
    after-takes ends_again u f = nothing E.Previous _ refl refl refl refl
    after-takes anything_else u f = bad_takes 0 (leb last_bad (s.bad_row + 1) || eqb s.taken 0)
    after-takes waits u f = nothing E.Wait _ refl refl refl refl

  idle-takes : (p : Phase) → Takes s (meaning (idle_rule p)).event s
  idle-takes P.Search = nothing E.None _ refl refl refl refl
  idle-takes P.InStep = nothing E.None _ refl refl refl refl
  idle-takes P.SequenceAlarm = nothing E.SequenceAlarm _ refl refl refl refl
  idle-takes P.LengthAlarm = nothing E.LengthAlarm _ refl refl refl refl

  pub received_takes : (line : List ℕ) (count : ℕ) (ready : Bool) (store : List ℕ) (x : Reception) → receive s line count ready store ≡ done x
      → Takes s (meaning x.rule).event x.state
  received_takes line count ready store x e =
      let range = in_range s (heard s line count ready store x e).0 in
      let row : Bits = finished_row s (take count (bits_of line)) in
      received_case s line count ready (λ (y : Reception). Takes s (meaning y.rule).event y.state) (λ z. idle-takes s.phase)
      (λ window used n. nothing E.None _ refl refl refl refl) (λ p used h n. nothing E.Sync _ refl refl refl refl)
      (nothing E.None _ refl refl refl refl)
      (λ p h. after-takes range (block_rule s row ready) (judged_event (block-judged s row ready)) (block_room s row ready))
      (nothing E.SequenceAlarm _ refl refl refl refl) (nothing E.LengthAlarm _ refl refl refl refl) store x e
