-- What is handed back where a block is complete: the rule that reads it, the reader's answer, the data moved and the store.
-- Assumes nothing.
use mathlib.Core.Path.{◌≡◌, refl, sym, ap, ◌∙◌, subst}
use mathlib.Core.Bool.{Bool, true, false, ◌||◌, or-false}
use Rattle.std.specs.Prelude.{Ok, Err, IsOk}
use mathlib.Core.List.{List, [], ◌∷◌, ◌++◌}
use Prim.Native.Nat.{ℕ, ◌+◌, ◌-◌, ◌*◌, ◌/◌, ◌%◌, ◌≤◌}
use native.Mathlib.Omega.{arith}
use borrow.Author.Tests.{le-ltb}
use lib.Dec.{leb}
use lib.ListN.{length, take, drop, length-drop}
use lib.Seq.{take_at, take-take, length-take-le}
use types.Run.{OneOf, miss}
use denote.Enum.Declared.{tag_of}
use Rattle.crc.specs.Bits.{Bits, bits_of, bytes_of}
use Rattle.crc.proofs.Bytes.{length-bits_of, bits_of-append, bits_of-bytes_of_exact}
use Rattle.block.specs.Answer.{done}
use Rattle.block.specs.Lengths.{block_length}
use Rattle.block.specs.Block.{payload_of, passed, failed, verdict}
use Rattle.block.specs.Calls.{too_short, built_answer, verdict_of, read_answer, carried_remainder, moved_bytes, MoveData}
use Rattle.block.specs.Packed.{ServicePacked}
use Rattle.std.specs.Prelude.{Result}
use Rattle.block.specs.declared.Refusal.{Refusal}
use Rattle.block.specs.declared.Read.{Read}
use Rattle.block.specs.declared.Read.TheVariants as B
use Rattle.block.proofs.Lengths.{whole_bytes}
use Rattle.block.proofs.Refusals.{service_done, move_done}
use Rattle.line.specs.Receiving.{last_bad, after_bad, Rule, reads_sync, check_fails, accepts, meaning, end_rule, service_rule, looks_sync, judge, or_wait, block_rule, stops, Reception, store_at}
use Rattle.line.specs.Code.ReceiveSteps.{rule_of, stepped, handed_back, judged, Handed}
use Rattle.line.specs.declared.receiver.Receiver.{Receiver}
use Rattle.line.specs.declared.receiving.Event.TheVariants as E
use Rattle.line.specs.declared.receiver.Step.{Step}
use Rattle.line.specs.declared.Refusal.TheVariants as N
use Rattle.line.specs.declared.rules.Rule as D
use Rattle.line.specs.declared.rules.Rule.TheVariants as C
use Rattle.line.specs.contracts.rules.Rule as code
use Rattle.line.proofs.LastItem.{drop-take}

-- ---- the store

-- a rule that stores nothing
pub handed_plain : (s : Receiver) (store : List ℕ) (x : Reception) → (meaning x.rule).stores ≡ false → Handed s store x (handed_back x) store
handed_plain s store x e = record { answers = rw e; state = rw e; writes = sym (simp e) }

-- a block whose check fails is never a reason of itself to search
pub handed_bad : (s : Receiver) (remainder used : ℕ)
    → stepped (after_bad s (leb last_bad (s.bad_row + 1) || false)) (E.Bad remainder) used
    ≡ handed_back (stops s (check_fails remainder) [] used)
handed_bad s remainder used = ap (λ (t : Bool). stepped (after_bad s t) (E.Bad remainder) used) (or-false (leb last_bad (s.bad_row + 1)))

-- every rule of the code but the first stores nothing
pub stores_nothing : (r : D.Rule) → OneOf (1 ∷ 2 ∷ 3 ∷ 4 ∷ 5 ∷ 6 ∷ 7 ∷ []) (tag_of code.the_type r) → (meaning (rule_of r)).stores ≡ false
stores_nothing C.Accepts h = absurd (miss (1 ∷ 2 ∷ 3 ∷ 4 ∷ 5 ∷ 6 ∷ 7 ∷ []) 0 tt h)
stores_nothing C.Previous h = refl
stores_nothing C.OutOfSequence h = refl
stores_nothing (C.Ends L) h = refl
stores_nothing C.WrongLength h = refl
stores_nothing C.EndsAgain h = refl
stores_nothing C.AnythingElse h = refl
stores_nothing C.Waits h = refl

module _ (s : Receiver) (row : Bits) (used : ℕ) (store : List ℕ) (r : Step) where
  pub handed_rule : (ready : Bool) (rule : Rule) → rule ≡ block_rule s row ready → (meaning rule).stores ≡ false
      → r ≡ handed_back (stops s rule [] used) → Handed s store (judged s row ready used) r store
  handed_rule ready rule e n h =
      subst (λ (y : Rule). Handed s store (stops s y row used) r store) e
      (subst (λ (y : Step). Handed s store (stops s rule row used) y store) (sym h) (handed_plain s store (stops s rule row used) n))

  -- rule 3, the store short
  pub handed_short : too_short store (s.taken * s.setup.k + s.setup.k) ≡ true → r ≡ record { state = s; answer = Err N.Short }
      → Handed s store (stops s accepts row used) r store
  handed_short q h =
      subst (λ (y : Step). Handed s store (stops s accepts row used) y store) (sym h)
      (record { answers = rw q; state = rw q; writes = sym (simp q) })

  -- rule 3, the data in the store
  pub handed_stored : (store' : List ℕ) → too_short store (s.taken * s.setup.k + s.setup.k) ≡ false
      → store' ≡ store_at (s.taken * s.setup.k) (payload_of s.setup.k row) store → r ≡ handed_back (stops s accepts [] used)
      → Handed s store (stops s accepts row used) r store'
  handed_stored store' q w h =
      subst (λ (y : Step). Handed s store (stops s accepts row used) y store') (sym h)
      (record { answers = rw q; state = rw q; writes = rw q w })

  pub handed_accepts : (ready : Bool) (store' : List ℕ) → accepts ≡ block_rule s row ready
      → Handed s store (stops s accepts row used) r store' → Handed s store (judged s row ready used) r store'
  handed_accepts ready store' e = subst (λ (y : Rule). Handed s store (stops s y row used) r store') e

-- ---- the rule of a row

module _ (s : Receiver) (row : Bits) (ready : Bool) where
  pub rule_sync : looks_sync s.setup.k row ≡ true → reads_sync ≡ block_rule s row ready
  unfolding judge
  rule_sync e = sym (rw e)

  pub rule_failed : (remainder : ℕ) → looks_sync s.setup.k row ≡ false → verdict row ≡ failed remainder
      → check_fails remainder ≡ block_rule s row ready
  unfolding judge
  rule_failed remainder e v = sym (rw (e, v))

  pub rule_passed : (service : ℕ) → looks_sync s.setup.k row ≡ false → verdict row ≡ passed service
      → or_wait ready (service_rule s.setup.marks.in_use s.setup.k s.taken s.ended service (payload_of s.setup.k row))
      ≡ block_rule s row ready
  unfolding judge
  rule_passed service e v = sym (rw (e, v))

-- ---- the reader's answer and the data moved

module _ (k : ℕ) (slice : List ℕ) (h : block_length k ≤ 8 * length slice) where
  abbrev row : Bits
  row = take (block_length k) (bits_of slice)

  module _ (whole : k % 8 ≡ 0) (answer : Result Read Refusal) (below : ServicePacked (8 * (k / 8)) slice answer) where
    answered : read_answer answer ≡ done (verdict row)
    answered =
        let p = subst (λ (x : ℕ). ServicePacked x slice answer) (whole_bytes k whole) below in
        p.answers ∙ service_done k slice (le-ltb (8 * length slice) (block_length k) h)

    -- nothing is refused here
    pub read_ok : IsOk answer
    read_ok = ok answer answered
      where
        ok : (a : Result Read Refusal) → read_answer a ≡ done (verdict row) → IsOk a
        ok (Ok v) e = refl
        ok (Err r) e = absurd (let z : ◌≡◌ {A = ℕ} 0 1 = cc in omega arith)

    pub read_verdict : (v : Read) → answer ≡ Ok v → verdict_of v ≡ verdict row
    read_verdict v e =
        let q : done (verdict_of v) ≡ done (verdict row) = sym (ap read_answer e) ∙ answered in
        cc

    pub check-passes : (service : ℕ) → answer ≡ Ok (B.Passed service) → verdict row ≡ passed service
    check-passes service e = sym (read_verdict (B.Passed service) e)

    -- any other answer is that the check fails
    pub check-not_passed : ((service : ℕ) → answer ≡ Ok (B.Passed service) → ⊥) → verdict row ≡ failed (carried_remainder (read_answer answer))
    check-not_passed n = go answer answered n
      where
        go : (a : Result Read Refusal) → read_answer a ≡ done (verdict row) → ((service : ℕ) → a ≡ Ok (B.Passed service) → ⊥)
            → verdict row ≡ failed (carried_remainder (read_answer a))
        go (Ok (B.Passed s)) e n = absurd (n s refl)
        go (Ok (B.Failed r)) e n = cc
        go (Err r) e n = absurd (let z : ◌≡◌ {A = ℕ} 0 1 = cc in omega arith)

  -- the first m data bytes
  same_data : (m : ℕ) → 8 * m ≤ k → payload_of (8 * m) (bits_of slice) ≡ take (8 * m) (payload_of k row)
  same_data m l =
      sym (take-take (8 * m) (block_length k - 4) (drop 4 (bits_of slice)) (omega arith))
      ∙ ap (take (8 * m)) (sym (drop-take 4 (block_length k) (bits_of slice) (omega arith) (omega (arith, length-bits_of slice))))
      ∙ sym (take-take (8 * m) k (drop 4 row) l)

  pub length_data : length (payload_of k row) ≡ k
  length_data =
      let n : length row ≡ block_length k = length-take-le (block_length k) (bits_of slice) (omega (arith, length-bits_of slice)) in
      length-take-le k (drop 4 row) (omega (arith, length-drop 4 row))

  module _ (m : ℕ) (l : 8 * m ≤ k) (payload : List ℕ) (room : m ≤ length payload) (answer : Result (Unit {0}) Refusal) (payload' : List ℕ)
      (p : MoveData m slice payload answer payload') where
    pub moved_ok : IsOk answer
    moved_ok = ok answer (p.answers ∙ move_done m slice payload (omega arith) room)
      where
        ok : (a : Result (Unit {0}) Refusal) → built_answer a ≡ done tt → IsOk a
        ok (Ok u) e = refl
        ok (Err r) e = absurd (let z : ◌≡◌ {A = ℕ} 0 1 = cc in omega arith)

    pub data_moved : payload' ≡ bytes_of m (take (8 * m) (payload_of k row)) ++ drop m payload
    data_moved =
        p.writes ∙ ap (moved_bytes m slice payload) (move_done m slice payload (omega arith) room)
        ∙ ap (λ (d : Bits). bytes_of m d ++ drop m payload) (same_data m l)

    pub bits_moved : take (8 * m) (bits_of payload') ≡ take (8 * m) (payload_of k row)
    bits_moved =
        let d : Bits = take (8 * m) (payload_of k row) in
        let n : length d ≡ 8 * m = length-take-le (8 * m) (payload_of k row) (omega (arith, length_data)) in
        ap (λ (x : List ℕ). take (8 * m) (bits_of x)) data_moved
        ∙ ap (take (8 * m)) (bits_of-append (bytes_of m d) (drop m payload) ∙ ap (λ (x : Bits). x ++ bits_of (drop m payload)) (bits_of-bytes_of_exact m d n))
        ∙ take_at d (bits_of (drop m payload)) (8 * m) n

-- rule 6 reads the first forty bits of the data alone
pub end_first_bits : (k r : ℕ) (ended : Bool) (row : Bits) → 40 ≤ length row → end_rule k r ended row ≡ end_rule k r ended (take 40 row)
unfolding end_rule
end_first_bits k r ended row l =
    let a : take 8 (take 40 row) ≡ take 8 row = take-take 8 40 row (omega arith) in
    let b : take 32 (drop 8 (take 40 row)) ≡ take 32 (drop 8 row) =
    ap (take 32) (drop-take 8 40 row (omega arith) l) ∙ take-take 32 (40 - 8) (drop 8 row) (omega arith) in
    rw (a, b)
