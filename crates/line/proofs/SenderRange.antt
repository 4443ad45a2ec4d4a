-- The sending end stays in range: an opened sender is in range, every sending call keeps it so, and so no call from an
-- opened sender is refused for a spoiled state. Assumes nothing.
use mathlib.Core.Path.{◌≡◌, refl, ap, sym, subst, ◌∙◌}
use mathlib.Core.Logic.{◌≢◌, ◌⊎◌, inl, inr, ⊎_elim}
use mathlib.Core.Bool.{Bool, true, false, cond, not, ◌&&◌, ◌||◌}
use mathlib.Core.List.{List}
use Prim.Native.Nat.{ℕ, ◌+◌, ◌*◌, ◌≤◌}
use native.Mathlib.Omega.{arith}
use borrow.Author.Tests.{leb-true, ltb-false, eqb-false, le-leb, not-false}
use lib.Dec.{eqb, leb, ltb}
use lib.ListN.{length}
use Rattle.std.specs.Prelude.{Option, Result, Ok, Err}
use Rattle.block.specs.Answer as A
use Rattle.line.specs.Refusals as Refusals
use Rattle.line.specs.Refusals.{refusal_number}
use Rattle.block.specs.Answer.{Answer, refused, done, refuse_if}
use Rattle.block.specs.Lengths.{is_length, block_length}
use Rattle.block.specs.Calls.{too_short}
use Rattle.line.specs.LoopTime.{loop_time}
use Rattle.line.specs.Marks.{marks_of, marks_in_range}
use Rattle.line.specs.Order.{longest_order, valid_length, item_count}
use Rattle.line.specs.Sending.{fresh_sender, unless_refused, open_sender, OpenSender, Block, transmit, sender_items, at_last, last_run, sender_in_range, gave_up, send, send_state, send_bytes, sent_answer, Send}
use Rattle.line.specs.SendCalls.{SendCalls, none, call}
use Rattle.line.specs.Code.SendSteps.{Lent, judged, Sends}
use Rattle.line.specs.declared.marks.Marks.{Marks}
use Rattle.line.specs.declared.sender.Sender.{Sender}
use Rattle.line.specs.declared.sender.Next.{Next}
use Rattle.line.specs.declared.sender.Next.TheVariants.{Sync, Older, Newer}
use Rattle.line.specs.declared.Refusal.{Refusal}
use Rattle.line.specs.declared.Refusal.TheVariants as R
use Rattle.line.specs.declared.sender.Step.{Step}
use Rattle.block.proofs.Truth.{and_left, and_right, or-false}
use Rattle.block.proofs.Refusals.{passed_test}
use Rattle.line.proofs.Items.{other_valid}

-- ---- what the range says

pub record Range (k L : ℕ) (m : Marks) (newer run : ℕ) : Type 0 where
  pub known : is_length k ≡ true
  pub valid : valid_length L ≡ true
  pub marks : marks_in_range m ≡ true
  pub first : 1 ≤ newer
  pub last : newer ≤ item_count k L + 1
  pub cancels : run ≤ last_run

pub in_range : (s : Sender) → sender_in_range s ≡ true → Range s.setup.k s.setup.length s.setup.marks s.newer s.run
unfolding sender_in_range
in_range s h =
    let a = is_length s.setup.k in
    let b = valid_length s.setup.length in
    let c = marks_in_range s.setup.marks in
    let d = leb 1 s.newer in
    let e = leb s.newer (sender_items s + 1) in
    let f = leb s.run last_run in
    let abcde = and_left (a && b && c && d && e) f h in
    let abcd = and_left (a && b && c && d) e abcde in
    let abc = and_left (a && b && c) d abcd in
    let ab = and_left (a && b) c abc in
    record {
      known = and_left a b ab;
      valid = and_right a b ab;
      marks = and_right (a && b) c abc;
      first = leb-true 1 s.newer (and_right (a && b && c) d abcd);
      last = leb-true s.newer (sender_items s + 1) (and_right (a && b && c && d) e abcde);
      cancels = leb-true s.run last_run (and_right (a && b && c && d && e) f h);
    }

pub range_in : (s : Sender) → Range s.setup.k s.setup.length s.setup.marks s.newer s.run → sender_in_range s ≡ true
unfolding sender_in_range
range_in s r =
    simp (
      r.known,
      r.valid,
      r.marks,
      le-leb 1 s.newer r.first,
      le-leb s.newer (sender_items s + 1) r.last,
      le-leb s.run last_run r.cancels,
    )

-- ---- opening

passed_refusal : {A B : Type 0} (a : Answer A) (next : Answer B) (b : B) → unless_refused a next ≡ done b
    → ((u : A) × (a ≡ done u)) × (next ≡ done b)
passed_refusal (refused n) next b e = absurd (let z : ◌≡◌ {A = ℕ} 0 1 = cc in omega arith)
passed_refusal (done u) next b e = ((u, refl), e)

pub loop_goes : (k speed loop_ms : ℕ) (u : Unit {0}) → loop_time k speed loop_ms ≡ done u → is_length k ≡ true
unfolding loop_time
loop_goes k speed loop_ms u e = not-false (is_length k) (passed_test (not (is_length k)) A.block _ u e).0

-- what holds if a sender is opened
pub record Openable (k L : ℕ) (size : Option ℕ) (order : List ℕ) (s : Sender) : Type 0 where
  pub known : is_length k ≡ true
  pub valid : valid_length L ≡ true
  pub marks : marks_in_range (marks_of size) ≡ true
  pub lent : L ≤ 8 * length order
  pub state : s ≡ fresh_sender k L (marks_of size)

pub opened : (k speed loop_ms L : ℕ) (size : Option ℕ) (order : List ℕ) (s : Sender)
    → open_sender k speed loop_ms L size order ≡ done s → Openable k L size order s
unfolding open_sender
opened k speed loop_ms L size order s e =
    let p = passed_refusal (loop_time k speed loop_ms) _ s e in
    let q = passed_test (eqb L 0) Refusals.empty _ s p.1 in
    let r = passed_test (ltb longest_order L) Refusals.long _ s q.1 in
    let m = passed_test (not (marks_in_range (marks_of size))) Refusals.code_size _ s r.1 in
    let t = passed_test (too_short order L) A.short _ s m.1 in
    record {
      known = loop_goes k speed loop_ms p.0.0 p.0.1;
      valid = other_valid L (eqb-false L 0 q.0) (ltb-false longest_order L r.0);
      marks = not-false (marks_in_range (marks_of size)) m.0;
      lent = ltb-false (8 * length order) L t.0;
      state = cc t.1;
    }

pub opened_in_range : (k speed loop_ms L : ℕ) (size : Option ℕ) (order : List ℕ) (s : Sender)
    → OpenSender k speed loop_ms L size order (Ok s) → sender_in_range s ≡ true
unfolding fresh_sender
opened_in_range k speed loop_ms L size order s p =
    let o = opened k speed loop_ms L size order s (sym p.answers) in
    rw o.state
    (range_in (fresh_sender k L (marks_of size))
    (record {
      known = o.known;
      valid = o.valid;
      marks = o.marks;
      first = omega arith;
      last = omega arith;
      cancels = omega arith;
    }))

-- ---- a sending call

-- what holds if a call sends
pub record Sendable (s : Sender) (order : List ℕ) (reading : Bool) (slice : List ℕ) (b : Block) : Type 0 where
  pub range : sender_in_range s ≡ true
  pub unfinished : s.finished ≡ false
  pub going_on : s.run ≢ last_run
  pub lent : s.setup.length ≤ 8 * length order
  pub room : block_length s.setup.k ≤ 8 * length slice
  pub block : (transmit s s.next reading).block ≡ b

at_rest_or_short : (r t : Bool) (b : Block) (n : ℕ) → refuse_if r Refusals.rest (refuse_if t A.short (done b)) ≡ refused n
    → ((n ≡ Refusals.rest) × (r ≡ true)) ⊎ ((n ≡ A.short) × (t ≡ true))
at_rest_or_short true t b n e = inl (cc, refl)
at_rest_or_short false true b n e = inr (cc, refl)
at_rest_or_short false false b n e = absurd (let z : ◌≡◌ {A = ℕ} 0 1 = cc in omega arith)

module _ (s : Sender) (order : List ℕ) (reading : Bool) (slice : List ℕ) where
  pub sendable : (b : Block) → send s order reading slice ≡ done b → Sendable s order reading slice b
  unfolding send
  sendable b e =
      let p = passed_test (not (sender_in_range s)) A.spoiled _ b e in
      let q = passed_test (s.finished || gave_up s) Refusals.rest _ b p.1 in
      let r = passed_test (too_short order s.setup.length || too_short slice (block_length s.setup.k)) A.short _ b q.1 in
      let still = or-false s.finished (gave_up s) q.0 in
      let long = or-false (too_short order s.setup.length) (too_short slice (block_length s.setup.k)) r.0 in
      let d = r.1 in
      record {
        range = not-false (sender_in_range s) p.0;
        unfinished = still.0;
        going_on = eqb-false s.run last_run still.1;
        lent = ltb-false (8 * length order) s.setup.length long.0;
        room = ltb-false (8 * length slice) (block_length s.setup.k) long.1;
        block = cc;
      }

  -- on a state in range, a refusal is for a sender at rest or for a short slice
  pub send_refusals : sender_in_range s ≡ true → (n : ℕ) → send s order reading slice ≡ refused n
      → ((n ≡ Refusals.rest) × (s.finished || gave_up s ≡ true))
      ⊎ ((n ≡ A.short) × (too_short order s.setup.length || too_short slice (block_length s.setup.k) ≡ true))
  unfolding send
  send_refusals h n e =
      let t = too_short order s.setup.length || too_short slice (block_length s.setup.k) in
      at_rest_or_short (s.finished || gave_up s) t (transmit s s.next reading).block n (rw h at e)

-- ---- the state afterwards

next_newer : (newer n : ℕ) (t : Bool) → eqb newer (n + 1) ≡ t → newer ≤ n + 1
    → (1 ≤ newer) → (1 ≤ cond t newer (newer + 1)) × (cond t newer (newer + 1) ≤ n + 1)
next_newer newer n true e h g = (g, h)
next_newer newer n false e h g = let d = eqb-false newer (n + 1) e in (omega arith, omega arith)

transmit_in_range : (s : Sender) (next : Next) (reading : Bool) → sender_in_range s ≡ true → s.run ≢ last_run
    → sender_in_range (transmit s next reading).state ≡ true
unfolding transmit
transmit_in_range s Sync reading h g = range_in (transmit s Sync reading).state (in_range s h)
transmit_in_range s Older reading h g = range_in (transmit s Older reading).state (in_range s h)
transmit_in_range s Newer false h g =
    let r = in_range s h in
    let n = next_newer s.newer (sender_items s) (at_last s) refl r.last r.first in
    range_in (transmit s Newer false).state
    (record { known = r.known; valid = r.valid; marks = r.marks; first = n.0; last = n.1; cancels = omega arith })
transmit_in_range s Newer true h g =
    let r = in_range s h in
    range_in (transmit s Newer true).state
    (record {
      known = r.known;
      valid = r.valid;
      marks = r.marks;
      first = r.first;
      last = r.last;
      cancels = omega (arith, r.cancels);
    })

after-send : (s : Sender) (order : List ℕ) (reading : Bool) (slice : List ℕ) (a : Answer Block)
    → send s order reading slice ≡ a → sender_in_range s ≡ true → sender_in_range (send_state s reading a) ≡ true
after-send s order reading slice (refused n) e h = h
after-send s order reading slice (done b) e h =
    transmit_in_range s s.next reading h (sendable s order reading slice b e).going_on

pub send_in_range : (s : Sender) (order : List ℕ) (reading : Bool) (slice : List ℕ) (result : Step) (slice' : List ℕ)
    → Send s order reading slice result slice' → sender_in_range s ≡ true → sender_in_range result.state ≡ true
send_in_range s order reading slice result slice' p h =
    rw p.state (after-send s order reading slice (send s order reading slice) refl h)

pub calls_in_range : {s t : Sender} → SendCalls s t → sender_in_range s ≡ true → sender_in_range t ≡ true
calls_in_range none h = h
calls_in_range (call order reading slice result slice' p rest) h =
    calls_in_range rest (send_in_range _ order reading slice result slice' p h)

-- from an opened sender, after any calls, a call is refused only for a sender at rest or a short slice
module _ (k speed loop_ms L : ℕ) (size : Option ℕ) (order : List ℕ) (s t : Sender)
    (o : OpenSender k speed loop_ms L size order (Ok s)) (calls : SendCalls s t) (lent : List ℕ) (reading : Bool) (slice : List ℕ) (result : Step) (slice' : List ℕ)
    (p : Send t lent reading slice result slice') where
  pub send_refused_only : (r : Refusal) → result.answer ≡ Err r
      → ((refusal_number r ≡ Refusals.rest) × (t.finished || gave_up t ≡ true))
      ⊎ ((refusal_number r ≡ A.short) × (too_short lent t.setup.length || too_short slice (block_length t.setup.k) ≡ true))
  send_refused_only r e =
      send_refusals t lent reading slice (calls_in_range calls (opened_in_range k speed loop_ms L size order s o)) (refusal_number r)
      (sym (ap sent_answer (sym e) ∙ p.answers))

  -- never for a spoiled state
  pub send_never_spoiled : result.answer ≢ Err R.Spoiled
  send_never_spoiled e = ⊎_elim (λ w. omega arith) (λ w. omega arith) (send_refused_only R.Spoiled e)

-- ---- the answers of a call, refused or not

module _ (s : Sender) (order : List ℕ) (reading : Bool) (slice : List ℕ) where
  pub refused_call : (r : Refusal) → send s order reading slice ≡ refused (refusal_number r)
      → Send s order reading slice (record { state = s; answer = Err r }) slice
  refused_call r e =
      record { answers = sym e; state = ap (send_state s reading) (sym e); writes = ap (send_bytes s order slice) (sym e) }

  pub sent-call : (next : Next) → s.next ≡ next → send s order reading slice ≡ done (transmit s s.next reading).block
      → (result : Step) (slice' : List ℕ) → Sends s next reading order slice result slice'
      → Send s order reading slice result slice'
  sent-call next h e result slice' p =
      let q : Sends s s.next reading order slice result slice' =
      subst (λ (n : Next). Sends s n reading order slice result slice') (sym h) p
      in
      record {
        answers = q.answers ∙ sym e;
        state = q.state ∙ ap (send_state s reading) (sym e);
        writes = q.writes ∙ ap (send_bytes s order slice) (sym e);
      }

-- a call's tests, and what it answers by them
module _ (spoiled rest short : Bool) where
  abbrev tests : Result (Unit {0}) Refusal
  tests = cond spoiled (Err R.Spoiled) (cond rest (Err R.Rest) (cond short (Err R.Short) (Ok tt)))

  abbrev answer : Block → Answer Block
  answer b = refuse_if spoiled A.spoiled (refuse_if rest Refusals.rest (refuse_if short A.short (done b)))

same : (r s : Refusal) → ◌≡◌ {A = Result (Unit {0}) Refusal} (Err r) (Err s) → (n : ℕ) → refusal_number r ≡ n
    → ◌≡◌ {A = Answer Block} (refused n) (refused (refusal_number s))
same r s e n f = let d : r ≡ s = cc in ap refused (sym f ∙ ap refusal_number d)

refuses : (spoiled rest short : Bool) (b : Block) (r : Refusal) → tests spoiled rest short ≡ Err r
    → answer spoiled rest short b ≡ refused (refusal_number r)
refuses true rest short b r e = same R.Spoiled r e A.spoiled refl
refuses false true short b r e = same R.Rest r e Refusals.rest refl
refuses false false true b r e = same R.Short r e A.short refl
refuses false false false b r e = absurd (let z : ◌≡◌ {A = ℕ} 0 1 = cc in omega arith)

passes : (spoiled rest short : Bool) (u : Unit {0}) → tests spoiled rest short ≡ Ok u
    → (spoiled ≡ false) × (rest ≡ false) × (short ≡ false)
passes true rest short u e = absurd (let z : ◌≡◌ {A = ℕ} 0 1 = cc in omega arith)
passes false true short u e = absurd (let z : ◌≡◌ {A = ℕ} 0 1 = cc in omega arith)
passes false false true u e = absurd (let z : ◌≡◌ {A = ℕ} 0 1 = cc in omega arith)
passes false false false u e = (refl, refl, refl)

module _ (s : Sender) (order : List ℕ) (reading : Bool) (slice : List ℕ) where
  pub judged_refused : (r : Refusal) → judged s order slice ≡ Err r → send s order reading slice ≡ refused (refusal_number r)
  unfolding send
  judged_refused r e = refuses _ _ _ _ r e

  module _ (e : judged s order slice ≡ Ok tt) where
    tested : (not (sender_in_range s) ≡ false) × (s.finished || gave_up s ≡ false)
        × (too_short order s.setup.length || too_short slice (block_length s.setup.k) ≡ false)
    tested = passes _ _ _ tt e

    pub judged_lent : Lent s order slice
    judged_lent =
        let h = not-false (sender_in_range s) tested.0 in
        let n = eqb-false s.run last_run (or-false s.finished (gave_up s) tested.1).1 in
        let l = or-false (too_short order s.setup.length) (too_short slice (block_length s.setup.k)) tested.2 in
        record {
          sender = record { range = h; run = omega (arith, (in_range s h).cancels) };
          order_lent = ltb-false (8 * length order) s.setup.length l.0;
          room = ltb-false (8 * length slice) (block_length s.setup.k) l.1;
        }

    pub judged_sends : send s order reading slice ≡ done (transmit s s.next reading).block
    unfolding send
    judged_sends = simp (tested.0, tested.1, tested.2)
