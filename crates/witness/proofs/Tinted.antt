-- A tint order of twelve doses, sent in two data items, the second damaged once, asked for again and repeated: all that
-- `TintDelivery` supposes is met, and so the machine reads the same doses. Assumes nothing.
use mathlib.Core.Path.{◌≡◌, refl}
use mathlib.Core.Bool.{Bool, true, ◌&&◌}
use mathlib.Core.List.{List, [], ◌∷◌, ◌++◌}
use native.Mathlib.Omega.{arith}
use Rattle.std.proofs.Common.{Result, Ok, None}
use Prim.Native.Nat.{ℕ, zero, suc, ◌/◌}
use lib.Dec.{ltb, lit<, lit≤}
use lib.ListN.{length, take, drop, replicate}
use borrow.Author.Tests.{ltb-true}
use Rattle.block.specs.Lengths.{is_length}
use Rattle.block.proofs.Truth.{and_true}
use Rattle.line.specs.Marks.{marks_in_range}
use Rattle.line.specs.Order.{item_count}
use Rattle.line.specs.LoopTime.{is_speed, block_time, has_entry, longest_loop, loop_time}
use Rattle.line.specs.Sending.{fresh_sender, open_sender}
use Rattle.line.specs.Receiving.{fresh_receiver, open_receiver}
use Rattle.line.specs.Course.{course, final}
use Rattle.line.specs.Delivery.{some, is_end, Assumptions, Openings}
use Rattle.line.specs.WholeOrder.{Bytes}
use Rattle.line.specs.declared.receiver.Opened.{Opened}
use Rattle.tint.specs.Format.{order_bytes, judge_doses}
use Rattle.tint.specs.Calls.{doses_of, judge_counted, write, Write, read, Read}
use Rattle.tint.specs.RoundTrip.{ReadAs}
use Rattle.tint.specs.Delivered.{TintDelivery}
use Rattle.tint.specs.declared.Refusal.{Refusal}
use Rattle.tint.specs.declared.Doses.{Doses}
use Rattle.tint.proofs.RoundTrip.{round_trip}
use Rattle.tint.proofs.Delivered.{tint_delivery}
use Rattle.witness.proofs.Meets.{meets}
use Rattle.witness.proofs.PeriodRows.{Row, all_calls, trace, no_marks}
use Rattle.witness.proofs.TwoItems.{Items, content_of, opened_of}
use Rattle.witness.proofs.Repeats.{repeats}
use Rattle.witness.proofs.TintCases.{dose}

-- ---- the doses, and their order written

-- the most steps of one canister, and of all: 4,800 and 20,000
abbrev doses : Doses
doses =
    record {
      count = 12;
      list =
          dose 1 4800 ∷ dose 2 1 ∷ dose 3 300 ∷ dose 4 256 ∷ dose 5 255 ∷ dose 6 4661 ∷ dose 7 3000 ∷ dose 8 2 ∷ dose 9 1000 ∷ dose 10 513
          ∷ dose 11 4096 ∷ dose 12 1116 ∷ [];
    }

-- the order's bytes: of its first item, and of its second
abbrev front : List ℕ
front =
    1 ∷ 0 ∷ 36
    ∷ 1 ∷ 0x12 ∷ 0xc0
    ∷ 2 ∷ 0 ∷ 1
    ∷ 3 ∷ 1 ∷ 0x2c
    ∷ 4 ∷ 1 ∷ 0
    ∷ 5 ∷ 0 ∷ 0xff
    ∷ 6 ∷ 0x12 ∷ 0x35
    ∷ 7 ∷ 0x0b ∷ 0xb8
    ∷ 8 ∷ 0 ∷ 2
    ∷ 9 ∷ 0x03 ∷ 0xe8
    ∷ []

abbrev back : List ℕ
back = 10 ∷ 0x02 ∷ 1 ∷ 11 ∷ 0x10 ∷ 0 ∷ 12 ∷ 0x04 ∷ 0x5c ∷ []

-- written over a slice of 45 bytes, which is then the order lent
abbrev slice : List ℕ
slice = replicate 45 6

abbrev order : List ℕ
order = front ++ (back ++ replicate 6 6)

pub written : Write doses slice (Ok 39) order
unfolding write judge_counted judge_doses order_bytes
written = record { answers = refl; writes = refl }

-- ---- the calls

-- the second item is filled with zeros
abbrev pub items : Items
items =
    record {
      order = order;
      L = 312;
      initial_store = replicate 61 9;
      one = front ++ replicate 31 9;
      two = front ++ (back ++ (replicate 21 0 ++ replicate 1 9));
    }

abbrev rows : List Row
rows = repeats items

pub tinted_computed : trace (opened_of items) rows ≡ rows
unfolding trace
tinted_computed = refl

pub tinted_meets : Assumptions 240 (content_of items) (course (opened_of items) (all_calls rows))
unfolding trace
tinted_meets = meets 240 (content_of items) (course (opened_of items) (all_calls rows)) refl

pub tinted_ended : some is_end (course (opened_of items) (all_calls rows)) ≡ true
unfolding trace
tinted_ended = refl

-- the store begins with the order
pub tinted_stored : take 39 (final (opened_of items) (all_calls rows)).store ≡ order_bytes (doses_of doses)
unfolding trace order_bytes
tinted_stored = refl

-- both ends opened without marks, at 200 bit/s with loop 0
abbrev machine : Opened
machine = record { state = fresh_receiver 240 no_marks; answer = Ok tt }

pub tinted_opened :
    Openings 240 200 0 312 None None order (fresh_sender 240 312 no_marks) machine items.initial_store
unfolding open_sender loop_time is_speed has_entry longest_loop block_time open_receiver is_length marks_in_range item_count
tinted_opened =
    record {
      sender = record { answers = refl };
      receiver = record { answers = refl; state = refl };
      alike = refl;
      not_refused = refl;
      room = omega arith;
    }

-- ---- the order read

abbrev pub result : Result Doses Refusal
result = Ok doses

pub tinted_read : Read (take (312 / 8) (final (opened_of items) (all_calls rows)).store) result
unfolding trace read judge_doses
tinted_read = record { answers = refl; doses = refl }

-- whether every number is a byte; and that it then is
abbrev are_bytes : List ℕ → Bool
are_bytes [] = true
are_bytes (x ∷ s) = ltb x 256 && are_bytes s

bytes : (s : List ℕ) → are_bytes s ≡ true → Bytes s
bytes [] h i = lit< tt
bytes (x ∷ s) h zero = ltb-true x 256 (and_true (ltb x 256) (are_bytes s) h).0
bytes (x ∷ s) h (suc i) = bytes s (and_true (ltb x 256) (are_bytes s) h).1 i

-- and written again it is the same bytes
pub read_back : Read (front ++ back) result
unfolding read judge_doses
read_back = record { answers = refl; doses = refl }

pub written_again : (◌≡◌ {A = Result ℕ Refusal} (Ok 39) (Ok (length (front ++ back)))) × (order ≡ (front ++ back) ++ drop (length (front ++ back)) slice)
written_again =
    round_trip.writes_read (front ++ back) slice order doses (Ok 39) (bytes (front ++ back) refl) read_back (lit≤ tt) written

pub tinted : ReadAs doses result
unfolding TintDelivery
tinted =
    tint_delivery doses slice order 39 written order (bytes order refl) refl 240 200 0 312 None None
    (fresh_sender 240 312 no_marks) machine items.initial_store refl (bytes items.initial_store refl) tinted_opened
    (all_calls rows) tinted_meets tinted_ended result tinted_read
