-- A call behind calls that were lent a row of bits, and any number of such calls. Assumes nothing.
use mathlib.Core.Path.{◌≡◌, refl, ap, sym, ◌∙◌}
use mathlib.Core.Logic.{⊎_elim}
use mathlib.Core.Bool.{Bool, true, false, cond, not, ◌&&◌}
use mathlib.Core.List.{List, [], ◌∷◌, ◌++◌, append-nil, append_assoc}
use native.Mathlib.Omega.{arith}
use Prim.Native.Nat.{ℕ, ◌+◌, ◌*◌, ◌≤◌}
use lib.ListN.{length, length-append, length-take}
use borrow.Author.Tests.{le-ltb}
use Rattle.crc.specs.Bits.{Bits, bits_of}
use Rattle.crc.proofs.Bytes.{length-bits_of}
use Rattle.block.specs.Answer as A
use Rattle.block.specs.Answer.{Answer, refused, done, refuse_if}
use Rattle.block.specs.Calls.{too_short}
use Rattle.line.specs.Receiving.{array_bytes, meaning, Reception, receiver_in_range, judge_store, receive, receive_store}
use Rattle.line.specs.Pieces.{Piece, lent, joined, total, Outcome, add_used, add_used_if_done, next_call, next_calls}
use Rattle.line.specs.declared.receiver.Receiver.{Receiver}
use Rattle.block.proofs.Truth.{cond_case, either}
use Rattle.line.proofs.ReceivingCall.{in_range}
use Rattle.line.proofs.Pieces.Step.{quiet_rule}
use Rattle.line.proofs.Pieces.Reception.{reads, Onward, Within, splits}

-- ---- a call that is lent a row of bits

-- all of its bits are there
abbrev pub Full : Piece → Type 0
Full p = length (lent p) ≡ p.count

abbrev pub outcome : Receiver → List ℕ → Answer Reception → Outcome
outcome s store answer = record { answer = answer; store = receive_store s store answer }

abbrev pub row_answer : Receiver → Bool → List ℕ → Bits → Answer Reception
row_answer s ready store row = refuse_if (not (receiver_in_range s)) A.spoiled (judge_store s store (reads s ready row))

abbrev row_outcome : Receiver → Bool → List ℕ → Bits → Outcome
row_outcome s ready store row = outcome s store (row_answer s ready store row)

pub receive_row : (s : Receiver) (ready : Bool) (store : List ℕ) (p : Piece) → Full p
    → receive s p.line p.count ready store ≡ row_answer s ready store (lent p)
unfolding receive
receive_row s ready store p h =
    let enough : too_short p.line p.count ≡ false =
    le-ltb (8 * length p.line) p.count (omega (arith, length-take p.count (bits_of p.line), length-bits_of p.line)) in
    rw (enough, h)

-- ---- two calls

-- the store is judged as it was before, from the state then
module _ (s t : Receiver) (store : List ℕ) (k : t.setup.k ≡ s.setup.k) (taken : t.taken ≡ s.taken) (n : ℕ) where
  judge-add_used : (y : Reception) → judge_store s store (add_used n y) ≡ add_used_if_done n (judge_store t store y)
  judge-add_used y = rw (k, taken) (go ((meaning y.rule).stores && too_short store (s.taken * s.setup.k + s.setup.k)))
    where
      go : (b : Bool) → cond b (refused A.short) (done (add_used n y)) ≡ add_used_if_done n (cond b (refused A.short) (done y))
      go true = refl
      go false = refl

  store_add_used : (answer : Answer Reception) → receive_store s store (add_used_if_done n answer) ≡ receive_store t store answer
  store_add_used (refused m) = refl
  store_add_used (done y) = rw (k, taken)

module _ (s : Receiver) (ready : Bool) (store : List ℕ) (a : Bits) (q : Piece) where
  abbrev first : Reception
  first = reads s ready a

  abbrev Same : Answer Reception → Type 0
  Same answer = outcome s store (judge_store s store (reads s ready (a ++ lent q))) ≡ next_call answer ready (receive_store s store answer) q

  calls_on : Onward s ready a first → Full q → Same (judge_store s store first)
  calls_on o h =
      let t : Receiver = first.state in
      let row : Bits = lent q in
      let keeps : (meaning first.rule).stores ≡ false = rw o.quiet at (quiet_rule first.rule).0 in
      rw (
        o.more row,
        judge-add_used s t store o.k o.taken (length a) (reads t ready row),
        store_add_used s t store o.k o.taken (length a) (judge_store t store (reads t ready row)),
        keeps,
        keeps,
        o.quiet,
        o.used,
        receive_row t ready store q h,
        o.range,
      )

  calls_stop : Within s ready a first → Same (judge_store s store first)
  calls_stop w =
      ap (λ (y : Reception). outcome s store (judge_store s store y)) (w.more (lent q))
      ∙ cond_case (λ (y : Answer Reception). outcome s store y ≡ next_call y ready (receive_store s store y) q)
      ((meaning first.rule).stores && too_short store (s.taken * s.setup.k + s.setup.k)) (λ t. refl) (λ t. rw w.event)

-- ---- any number of calls

-- the bits of pieces are all there, so those of the first and those of the others are
pub full_rest : (p : Piece) (ps : List Piece) → length (joined (p ∷ ps)) ≡ total (p ∷ ps) → Full p × (length (joined ps) ≡ total ps)
full_rest p ps e =
    let n = length-append (lent p) (joined ps) in
    (omega (arith, many ps, one p), omega (arith, many ps, one p))
  where
    one : (p : Piece) → length (lent p) ≤ p.count
    one p = omega (arith, length-take p.count (bits_of p.line))

    many : (ps : List Piece) → length (joined ps) ≤ total ps
    many [] = omega arith
    many (p ∷ ps) = omega (arith, length-append (lent p) (joined ps), one p, many ps)

module _ (s : Receiver) (ready : Bool) (store : List ℕ) (array : length s.bits ≡ array_bytes) where
  next-call : (a : Bits) (q : Piece) → Full q
      → row_outcome s ready store (a ++ lent q) ≡ next_call (row_answer s ready store a) ready (receive_store s store (row_answer s ready store a)) q
  next-call a q h =
      ⊎_elim
      (λ range. rw range (⊎_elim (λ o. calls_on s ready store a q o h) (calls_stop s ready store a q) (splits s ready (in_range s range) array a)))
      (λ range. rw range) (either (receiver_in_range s))

  pub next_calls_lem : (ps : List Piece) (a : Bits) → length (joined ps) ≡ total ps
      → row_outcome s ready store (a ++ joined ps) ≡ next_calls (row_outcome s ready store a) ready ps
  next_calls_lem [] a e = ap (row_outcome s ready store) (append-nil a)
  next_calls_lem (q ∷ ps) a e =
      let full = full_rest q ps e in
      ap (row_outcome s ready store) (sym (append_assoc a (lent q) (joined ps))) ∙ next_calls_lem ps (a ++ lent q) full.1
      ∙ ap (λ (y : Outcome). next_calls y ready ps) (next-call a q full.0)
