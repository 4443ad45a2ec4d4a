-- A session has at most as many periods that are not refused as its sender sends blocks. Assumes nothing.
use mathlib.Core.Path.{◌≡◌, refl, ap, ◌∙◌}
use mathlib.Core.Bool.{Bool, true}
use mathlib.Core.List.{List, [], ◌∷◌}
use Rattle.std.specs.Prelude.{Option, Some, None}
use Prim.Native.Nat.{ℕ, ◌+◌, ◌*◌, ◌^◌, ◌≤◌, ◌<◌}
use native.Mathlib.Omega.{arith}
use lib.ListN.{length, replicate}
use Rattle.block.specs.Answer.{Answer, refused, done}
use Rattle.block.specs.Lengths.{is_length}
use Rattle.line.specs.Marks.{marks_of}
use Rattle.line.specs.MostBlocks.{first_pair, later_pair}
use Rattle.line.specs.Order.{most_items, valid_length, item_count}
use Rattle.line.specs.Sending as S
use Rattle.line.specs.Sending.{send, open_sender}
use Rattle.line.specs.Receiving.{open_receiver, fresh_receiver}
use Rattle.line.proofs.Items.{item_count_fits}
use Rattle.line.proofs.MostBlocks.{blocks_left, send_lowers, fresh_left}
use Rattle.line.proofs.SenderRange.{opened}
use Rattle.line.specs.declared.sender.Sender.{Sender}
use Rattle.line.specs.declared.receiver.Receiver.{Receiver}
use Rattle.session.specs.LineOne.{Opening, line_one}
use Rattle.session.specs.Lines.{first_line, after_line, lines}
use Rattle.session.specs.Outcomes.{speed, loop_ms, code_size, store_room, kind_of, outcomes_unless_refused, line_outcomes, periods, receiver_outcomes, sender_outcomes, opening_outcomes, outcomes, line_count, items_of, MostPeriods}
use Rattle.session.specs.Period.{Outcome, PeriodResult, reading_of, line_bytes, sent_result, period}
use Rattle.session.specs.declared.period.Kind.{Kind}
use Rattle.session.specs.declared.period.Line.{Line}

-- so many lines at most, and one refusal at most behind them
pub record Few (most : ℕ) (os : List Outcome) : Type 0 where
  pub lines_few : line_count os ≤ most
  pub one_refusal : length os ≤ line_count os + 1

few_none : (most : ℕ) → Few most []
few_none most = record { lines_few = omega arith; one_refusal = omega arith }

few_refused : (most n : ℕ) → Few most (refused n ∷ [])
few_refused most n = record { lines_few = omega arith; one_refusal = omega arith }

-- ---- a period with a line is one with a block sent

sent_lowers : (kind : Kind) (s : Sender) (r : Receiver) (reading : Bool) (order store : List ℕ) (a : Answer S.Block)
    → send s order reading (replicate line_bytes 0) ≡ a → (l : Line) → (sent_result kind s r reading order store a).outcome ≡ done l
    → blocks_left (sent_result kind s r reading order store a).ends.sender < blocks_left s
sent_lowers kind s r reading order store (refused n) e l o = absurd (let z : ◌≡◌ {A = ℕ} 0 1 = cc in omega arith)
sent_lowers kind s r reading order store (done b) e l o = send_lowers s order reading (replicate line_bytes 0) b e

period_lowers : (kind : Kind) (s : Sender) (r : Receiver) (order store : List ℕ) (l : Line) → (period kind s r order store).outcome ≡ done l
    → blocks_left (period kind s r order store).ends.sender < blocks_left s
unfolding period
period_lowers kind s r order store l o =
    sent_lowers kind s r (reading_of kind r.back) order store (send s order (reading_of kind r.back) (replicate line_bytes 0)) refl l o

few_more : (most left : ℕ) (out : Outcome) (rest : List Outcome) → ((l : Line) → out ≡ done l → left < most) → Few left rest
    → Few most (out ∷ outcomes_unless_refused out rest)
few_more most left (refused n) rest h f = few_refused most n
few_more most left (done l) rest h f =
    record { lines_few = omega (arith, h l refl, f.lines_few); one_refusal = omega (arith, f.one_refusal) }

periods_few : (ls : List (List ℕ)) (s : Sender) (r : Receiver) (order store : List ℕ) → Few (blocks_left s) (periods s r order store ls)
unfolding periods
periods_few [] s r order store = few_none (blocks_left s)
periods_few (l ∷ ls) s r order store =
    by_kind (kind_of l) (λ c. periods c.ends.sender c.ends.receiver order c.store ls)
    (λ c. periods_few ls c.ends.sender c.ends.receiver order c.store)
  where
    by_kind : (k : Option Kind) (next : PeriodResult → List Outcome) → ((c : PeriodResult) → Few (blocks_left c.ends.sender) (next c))
        → Few (blocks_left s) (line_outcomes s r order store next k)
    by_kind None next few = few_none (blocks_left s)
    by_kind (Some kind) next few =
        let c : PeriodResult = period kind s r order store in
        few_more (blocks_left s) (blocks_left c.ends.sender) c.outcome (next c)
        (λ l e. period_lowers kind s r order store l e) (few c)

-- ---- both ends opened

abbrev most : ℕ → ℕ
most N = first_pair + later_pair * N

-- for a bound on the items of an order that is not refused
module _ (o : Opening) (N : ℕ) (fits : is_length o.k ≡ true → valid_length o.order.bits ≡ true → item_count o.k o.order.bits ≤ N)
    (ls : List (List ℕ)) where
  receiver_few : (s : Sender) → blocks_left s ≤ most N → (a : Answer (Unit {0})) → Few (most N) (receiver_outcomes o s ls a)
  receiver_few s h (refused n) = few_refused (most N) n
  receiver_few s h (done u) =
      let f = periods_few ls s (fresh_receiver o.k (marks_of code_size)) o.order.bytes (replicate store_room 0) in
      record { lines_few = omega (arith, f.lines_few); one_refusal = f.one_refusal }

  sender_few : (a : Answer Sender) → open_sender o.k speed loop_ms o.order.bits code_size o.order.bytes ≡ a
      → Few (most N) (sender_outcomes o ls a)
  sender_few (refused n) e = few_refused (most N) n
  sender_few (done s) e =
      let g = opened o.k speed loop_ms o.order.bits code_size o.order.bytes s e in
      let b = ap blocks_left g.state ∙ fresh_left o.k o.order.bits (marks_of code_size) in
      receiver_few s (omega (arith, b, fits g.known g.valid)) (open_receiver o.k code_size)

opening_few : (p : Option Opening) (N : ℕ)
    → ((o : Opening) → p ≡ Some o → is_length o.k ≡ true → valid_length o.order.bits ≡ true → item_count o.k o.order.bits ≤ N)
    → (ls : List (List ℕ)) → Few (most N) (opening_outcomes p ls)
opening_few None N fits ls = few_none (most N)
opening_few (Some o) N fits ls =
    sender_few o N (fits o refl) ls (open_sender o.k speed loop_ms o.order.bits code_size o.order.bytes) refl

pub most_periods : MostPeriods
unfolding MostPeriods outcomes
most_periods input =
    (opening_few (line_one (first_line input)) (items_of (line_one (first_line input)))
    (λ o e known valid. rw e (omega arith)) (lines (after_line input))).lines_few

-- no number of a period comes near the largest machine word
pub few_outcomes : (input : List ℕ) → length (outcomes input) < 2 ^ 64
unfolding outcomes
few_outcomes input =
    let f = opening_few (line_one (first_line input)) most_items (λ o e known valid. item_count_fits o.k o.order.bits known valid)
    (lines (after_line input)) in
    omega (arith, f.lines_few, f.one_refusal)
