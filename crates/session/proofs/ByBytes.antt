-- What the session yields over an input's bytes, one at a time, is the input's course. Assumes nothing.
use mathlib.Core.Path.{◌≡◌, refl, sym, ap, ◌∙◌}
use mathlib.Core.Bool.{Bool, true, false}
use mathlib.Core.List.{List, [], ◌∷◌, ◌++◌, append-nil}
use mathlib.Core.Logic.{⊎_elim}
use Rattle.std.specs.Prelude.{Option, Some, None}
use Prim.Native.Nat.{ℕ, ◌*◌, ◌≤◌, min}
use native.Mathlib.Omega.{arith}
use lib.Dec.{eqb}
use lib.ListN.{length, take, replicate, length-replicate}
use borrow.Author.Tests.{eqb-true}
use Rattle.block.specs.Answer.{Answer, refused, done}
use Rattle.block.proofs.Lengths.{length_facts}
use Rattle.block.proofs.Truth.{either}
use Rattle.line.specs.Marks.{marks_of}
use Rattle.line.specs.Sending.{open_sender, fresh_sender}
use Rattle.line.specs.Receiving.{open_receiver, fresh_receiver}
use Rattle.line.proofs.Items.{valid_most}
use Rattle.line.proofs.SenderRange.{opened}
use Rattle.line.specs.declared.marks.Marks.{Marks}
use Rattle.line.specs.declared.sender.Sender.{Sender}
use Rattle.line.specs.declared.receiver.Receiver.{Receiver}
use Rattle.session.specs.LineOne.{Opening, line_one, keep, limit, readable, said, read_all, start, next, next_order}
use Rattle.session.specs.Lines.{newline, first_line, after_line, joined, lines}
use Rattle.session.specs.Period.{Outcome, PeriodResult, ends_of, period}
use Rattle.session.specs.Outcomes.{speed, loop_ms, code_size, order_room, store_room, letter_kind, kind_of, outcomes_unless_refused, line_outcomes, periods, receiver_outcomes, sender_outcomes, opening_outcomes, outcomes}
use Rattle.session.specs.Session.{After, placed, opens, started, sender_opened, receiver_opened, after_period, fresh, takes, takes_order, takes_store, ends, listed, yields, ByBytes}
use Rattle.session.specs.declared.line_one.LineOne.{LineOne}
use Rattle.session.specs.declared.period.Kind.{Kind}
use Rattle.session.specs.declared.script.Place.{Place}
use Rattle.session.specs.declared.script.Place.TheVariants as P
use Rattle.session.specs.declared.script.Session.{Session}
use Rattle.session.proofs.LineOne.{line_one_lem}
use Rattle.session.proofs.Openings.{open_kept}
use Rattle.session.proofs.Orders.{period-kept, period_setup}

-- ---- after the run's end nothing is yielded

over_silent : (s : Session) (order store cs : List ℕ) → yields (placed s P.Over) order store cs ≡ []
unfolding yields takes takes_order takes_store ends
over_silent s order store [] = refl
over_silent s order store (c ∷ cs) = over_silent s order store cs

-- ---- the lines behind line one

abbrev session : Place → LineOne → Sender → Receiver → Session
session place o s r = record { place = place; opening = o; ends = ends_of s r }

-- a line that begins with a letter of no kind, or has more than its letter, is of another kind
other_letter : (c : ℕ) (ls : List (List ℕ)) (s : Sender) (r : Receiver) (order store : List ℕ) → letter_kind c ≡ None
    → periods s r order store (joined c ls) ≡ []
unfolding periods
other_letter c [] s r order store e = rw e
other_letter c ([] ∷ ls) s r order store e = rw e
other_letter c ((d ∷ l) ∷ ls) s r order store e = refl

longer_line : (c d : ℕ) (ls : List (List ℕ)) (s : Sender) (r : Receiver) (order store : List ℕ)
    → periods s r order store (joined c (joined d ls)) ≡ []
unfolding periods
longer_line c d [] s r order store = refl
longer_line c d (l ∷ ls) s r order store = refl

unless_nothing : (o : Outcome) → outcomes_unless_refused o [] ≡ []
unless_nothing (refused n) = refl
unless_nothing (done l) = refl

newline_no_letter : letter_kind newline ≡ None
unfolding letter_kind
newline_no_letter = refl

letter_no_newline : (c : ℕ) (kind : Kind) → letter_kind c ≡ Some kind → eqb c newline ≡ false
letter_no_newline c kind e = by_test (eqb c newline) refl
  where
    by_test : (t : Bool) → eqb c newline ≡ t → eqb c newline ≡ false
    by_test true h =
        let n : letter_kind c ≡ None = ap letter_kind (eqb-true c newline h) ∙ newline_no_letter in
        absurd (let z : ◌≡◌ {A = ℕ} 0 1 = cc in omega arith)
    by_test false h = h

-- after a period: the lines that follow, or the end
after-period : (o : LineOne) (c : PeriodResult) (order ds : List ℕ) (out : Outcome) (rest : List Outcome)
    → yields (session P.LineStart o c.ends.sender c.ends.receiver) order c.store ds ≡ rest
    → yields (session (after_period out) o c.ends.sender c.ends.receiver) order c.store ds ≡ outcomes_unless_refused out rest
after-period o c order ds (refused m) rest e =
    over_silent (session P.Over o c.ends.sender c.ends.receiver) order c.store ds
after-period o c order ds (done l) rest e = e

module _ (o : LineOne) (order : List ℕ) where
  abbrev lent : List ℕ
  lent = take o.kept order

  nothing_left : (s : Sender) (r : Receiver) (store : List ℕ)
      → yields (session P.LineStart o s r) order store [] ≡ periods s r lent store []
  unfolding yields ends periods
  nothing_left s r store = refl

  -- a line's first byte, and the rest of it where the byte is a letter
  first_byte : (s : Sender) (r : Receiver) (store : List ℕ) (c : ℕ) (cs : List ℕ) (k : Option Kind) → letter_kind c ≡ k
      → ((kind : Kind) → letter_kind c ≡ Some kind
      → yields (session (P.Kind kind) o s r) order store cs ≡ periods s r lent store (joined c (lines cs)))
      → yields (session P.LineStart o s r) order store (c ∷ cs) ≡ periods s r lent store (lines (c ∷ cs))
  unfolding yields takes takes_order takes_store periods
  first_byte s r store c cs None e rest =
      rw e
      (over_silent (session P.LineStart o s r) order store cs
      ∙ ⊎_elim (λ (t : eqb c newline ≡ true). rw t)
      (λ (t : eqb c newline ≡ false). rw t (sym (other_letter c (lines cs) s r lent store e))) (either (eqb c newline)))
  first_byte s r store c cs (Some kind) e rest =
      let t : eqb c newline ≡ false = letter_no_newline c kind e in
      rw (e, t) (rest kind e)

  -- the input ends behind a letter
  letter_last : (kind : Kind) (c : ℕ) (s : Sender) (r : Receiver) (store : List ℕ) → letter_kind c ≡ Some kind
      → yields (session (P.Kind kind) o s r) order store [] ≡ periods s r lent store (joined c [])
  unfolding yields ends periods
  letter_last kind c s r store e =
      let out : Outcome = (period kind s r lent store).outcome in
      rw e (ap (λ (l : List Outcome). out ∷ l) (sym (unless_nothing out)))

  -- a byte behind a letter: a newline brings the period and the lines that follow
  letter_then : (kind : Kind) (c : ℕ) (s : Sender) (r : Receiver) (store : List ℕ) (d : ℕ) (ds : List ℕ) → letter_kind c ≡ Some kind
      → (let x : PeriodResult = period kind s r lent store in
      yields (session P.LineStart o x.ends.sender x.ends.receiver) order x.store ds
      ≡ periods x.ends.sender x.ends.receiver lent x.store (lines ds))
      → yields (session (P.Kind kind) o s r) order store (d ∷ ds) ≡ periods s r lent store (joined c (lines (d ∷ ds)))
  unfolding yields takes takes_order takes_store periods
  letter_then kind c s r store d ds e rest =
      let x : PeriodResult = period kind s r lent store in
      let out : Outcome = x.outcome in
      ⊎_elim
      (λ (t : eqb d newline ≡ true).
      rw (t, e)
      (ap (λ (l : List Outcome). out ∷ l)
      (after-period o x order ds out (periods x.ends.sender x.ends.receiver lent x.store (lines ds)) rest)))
      (λ (t : eqb d newline ≡ false).
      rw t (over_silent (session (P.Kind kind) o s r) order store ds ∙ sym (longer_line c d (lines ds) s r lent store)))
      (either (eqb d newline))

  mutual
    line_start : (s : Sender) (r : Receiver) (store cs : List ℕ)
        → yields (session P.LineStart o s r) order store cs ≡ periods s r lent store (lines cs)
    line_start s r store [] = nothing_left s r store
    line_start s r store (c ∷ cs) =
        first_byte s r store c cs (letter_kind c) refl (λ kind e. letter-read kind c e s r store cs)

    letter-read : (kind : Kind) (c : ℕ) → letter_kind c ≡ Some kind → (s : Sender) (r : Receiver) (store cs : List ℕ)
        → yields (session (P.Kind kind) o s r) order store cs ≡ periods s r lent store (joined c (lines cs))
    letter-read kind c e s r store [] = letter_last kind c s r store e
    letter-read kind c e s r store (d ∷ ds) =
        let x : PeriodResult = period kind s r lent store in
        letter_then kind c s r store d ds e (line_start x.ends.sender x.ends.receiver x.store ds)

-- ---- line one ends

abbrev zero_store : List ℕ
zero_store = replicate store_room 0

module _ (o : LineOne) (s₀ : Sender) (r₀ : Receiver) (order : List ℕ) where
  abbrev before : Session
  before = session P.LineOne o s₀ r₀

  abbrev kept : Opening
  kept = record { k = o.k; order = record { bits = o.length; bytes = take o.kept order } }

  -- what is yielded, and what follows: nothing where the run is over, else the periods of these lines
  module _ (rest : Session → List Outcome) (ls : List (List ℕ)) (over : (s : Session) → rest (placed s P.Over) ≡ [])
      (begun : (s : Sender) → rest (session P.LineStart o s (fresh_receiver o.k (marks_of code_size)))
      ≡ periods s (fresh_receiver o.k (marks_of code_size)) (take o.kept order) zero_store ls) where
    abbrev then : After → List Outcome
    then t = listed t.yielded ++ rest t.session

    receiver_then : (s : Sender) (a : Answer (Unit {0})) → then (started before (receiver_opened before s a)) ≡ receiver_outcomes kept s ls a
    receiver_then s (refused n) = ap (λ (l : List Outcome). refused n ∷ l) (over before)
    receiver_then s (done u) = begun s

    sender_then : (a : Answer Sender) → then (started before (sender_opened before a)) ≡ sender_outcomes kept ls a
    sender_then (refused n) = ap (λ (l : List Outcome). refused n ∷ l) (over before)
    sender_then (done s) = receiver_then s (open_receiver o.k code_size)

    opens_then : then (opens before order) ≡ opening_outcomes (said o order) ls
    unfolding opens
    opens_then =
        ⊎_elim
        (λ (t : readable o.place ≡ true).
        rw t (sender_then (open_sender o.k speed loop_ms o.length code_size (take o.kept order))))
        (λ (t : readable o.place ≡ false). rw t (over before)) (either (readable o.place))

-- ---- line one is read

first_line_lem : (o : LineOne) (s : Sender) (r : Receiver) (order cs : List ℕ)
    → yields (session P.LineOne o s r) order zero_store cs
    ≡ opening_outcomes (read_all o (first_line cs) order) (lines (after_line cs))
unfolding yields takes takes_order takes_store ends read_all periods
first_line_lem o s r order [] =
    sym (append-nil (listed (opens (session P.LineOne o s r) order).yielded))
    ∙ opens_then o s r order (λ t. []) [] (λ t. refl) (λ t. refl)
first_line_lem o s r order (c ∷ cs) =
    ⊎_elim (λ (t : eqb c newline ≡ true).
    rw t
    (opens_then o s r order (λ x. yields x order zero_store cs) (lines cs) (λ x. over_silent x order zero_store cs)
    (λ x. line_start o order x (fresh_receiver o.k (marks_of code_size)) zero_store cs)))
    (λ (t : eqb c newline ≡ false). rw t (first_line_lem (next o c (length order)) s r (next_order o o.place c order) cs))
    (either (eqb c newline))

-- ---- what is kept of line one gives the same course

periods-kept : (ls : List (List ℕ)) (s : Sender) (r : Receiver) (order store : List ℕ) → s.setup.length ≤ 8 * order_room
    → periods s r (take order_room order) store ls ≡ periods s r order store ls
unfolding periods
periods-kept [] s r order store h = refl
periods-kept (l ∷ ls) s r order store h = by_kind (kind_of l)
    (λ kind.
    periods-kept ls (period kind s r order store).ends.sender (period kind s r order store).ends.receiver order
    (period kind s r order store).store (rw (period_setup kind s r order store) h))
  where
    following : List ℕ → PeriodResult → List Outcome
    following order c = periods c.ends.sender c.ends.receiver order c.store ls

    by_kind : (k : Option Kind)
        → ((kind : Kind)
        → following (take order_room order) (period kind s r order store) ≡ following order (period kind s r order store))
        → line_outcomes s r (take order_room order) store (following (take order_room order)) k
        ≡ line_outcomes s r order store (following order) k
    by_kind None rest = refl
    by_kind (Some kind) rest = rw (period-kept order_room kind s r order store h, rest kind)

fresh-length : (s : Sender) (k L : ℕ) (m : Marks) → s ≡ fresh_sender k L m → s.setup.length ≡ L
unfolding fresh_sender
fresh-length s k L m e = ap (λ (x : Sender). x.setup.length) e

keep-course : (p : Option Opening) (ls : List (List ℕ)) → opening_outcomes (keep order_room p) ls ≡ opening_outcomes p ls
keep-course None ls = refl
keep-course (Some o) ls =
    let L : ℕ = o.order.bits in
    let bytes : List ℕ = o.order.bytes in
    rw (open_kept o.k L bytes) (by_answer (open_sender o.k speed loop_ms L code_size bytes) refl)
  where
    p : Opening
    p = record { k = min o.k limit; order = record { bits = min o.order.bits limit; bytes = take order_room o.order.bytes } }

    fresh_kept : (s : Sender) (k : ℕ) → k ≡ o.k → s.setup.length ≤ 8 * order_room → (a : Answer (Unit {0}))
        → receiver_outcomes (record { k = k; order = p.order }) s ls a ≡ receiver_outcomes o s ls a
    fresh_kept s k e h (refused n) = refl
    fresh_kept s k e h (done u) = rw e (periods-kept ls s (fresh_receiver o.k (marks_of code_size)) o.order.bytes zero_store h)

    by_answer : (a : Answer Sender) → open_sender o.k speed loop_ms o.order.bits code_size o.order.bytes ≡ a
        → sender_outcomes p ls a ≡ sender_outcomes o ls a
    by_answer (refused n) e = refl
    by_answer (done s) e =
        let g = opened o.k speed loop_ms o.order.bits code_size o.order.bytes s e in
        let f = length_facts o.k g.known in
        let v = valid_most o.order.bits g.valid in
        let m : min o.k limit ≡ o.k = omega arith in
        let l : s.setup.length ≡ o.order.bits = fresh-length s o.k o.order.bits _ g.state in
        rw m (fresh_kept s o.k refl (omega arith) (open_receiver o.k code_size))

-- ---- the whole

pub by_bytes : ByBytes
unfolding ByBytes fresh outcomes
by_bytes input =
    first_line_lem start (fresh_sender 0 0 (marks_of code_size)) (fresh_receiver 0 (marks_of code_size)) (replicate order_room 0) input
    ∙ ap (λ (p : Option Opening). opening_outcomes p (lines (after_line input)))
    (line_one_lem (first_line input) (replicate order_room 0)
    ∙ ap (λ (n : ℕ). keep n (line_one (first_line input))) (length-replicate {A = ℕ} order_room 0))
    ∙ keep-course (line_one (first_line input)) (lines (after_line input))
