-- A call by k, and the call below the look-up that it comes to. Assumes nothing.
use Rattle.std.specs.Prelude.{Result, Ok, Err, is_ok}
use Rattle.block.specs.declared.Refusal.{Refusal}
use mathlib.Core.Path.{◌≡◌, refl, sym, ap, subst, ◌∙◌}
use mathlib.Core.Bool.{true, false, not}
use mathlib.Core.List.{List}
use Prim.Native.Nat.{ℕ, ◌*◌, ◌/◌}
use native.Mathlib.Omega.{arith}
use borrow.Author.Tests.{not-false}
use Rattle.block.specs.Answer as A
use Rattle.block.specs.Answer.{Answer, refused, done}
use Rattle.block.specs.Lengths.{is_length}
use Rattle.block.specs.Block.{Verdict}
use Rattle.block.specs.Calls.{refusal_number, build_block, BuildBlock, check_block, CheckBlock, read_answer, read_service, ReadService, read_block, ReadBlock, build_sync, BuildSync, cancel_block, CancelBlock}
use Rattle.block.specs.Packed.{length_answer, if_length, look_up, build_packed, BuildPacked, check_packed, CheckPacked, service_packed, ServicePacked, read_packed, ReadPacked, held_packed, SyncPacked, CancelPacked}
use Rattle.block.specs.EveryLength.{LookUpFirst}
use Rattle.block.specs.declared.Read.{Read}
use Rattle.block.proofs.Lengths.{length_bytes}
use Rattle.block.proofs.Refusals.{passed_test}

pub look_up_first : LookUpFirst
unfolding build_block build_packed check_block check_packed read_service service_packed read_block read_packed build_sync cancel_block held_packed
look_up_first = record {
  builds = λ k service payload slice. refl;
  checks = λ k slice. refl;
  reads_service = λ k slice. refl;
  reads = λ k slice payload. refl;
  synchronises = λ k slice. refl;
  cancels = λ k slice. refl;
}

-- ---- the look-up

unknown_refused : {X : Type 0} (k : ℕ) (next : Answer X) → is_length k ≡ false → if_length k next ≡ refused A.block
unknown_refused k next e = rw e

known_next : {X : Type 0} (k : ℕ) (next : Answer X) → is_length k ≡ true → if_length k next ≡ next
known_next k next e = rw e

known_done : {X : Type 0} (k : ℕ) (next : Answer X) (x : X) → if_length k next ≡ done x → is_length k ≡ true
known_done k next x e = not-false (is_length k) (passed_test (not (is_length k)) A.block next x e).0

-- what it says of k
pub found : (k m : ℕ) → look_up k ≡ done m → (is_length k ≡ true) × (8 * m ≡ k)
unfolding look_up
found k m e =
    let known = known_done k (done (k / 8)) m e in
    let same : done (k / 8) ≡ done m = sym (known_next k (done (k / 8)) known) ∙ e in
    let b : k / 8 ≡ m = cc in
    (known, rw (sym b) (length_bytes k known))

pub not_found : (k n : ℕ) → look_up k ≡ refused n → is_length k ≡ false
unfolding look_up
not_found k n e = no (is_length k) refl
  where
    no : (b : _) → is_length k ≡ b → is_length k ≡ false
    no true h = absurd (let z : done (k / 8) ≡ refused n = sym (known_next k (done (k / 8)) h) ∙ e in let y : ◌≡◌ {A = ℕ} 0 1 = cc in omega arith)
    no false h = h

-- whether it finds k
pub is_found : (k : ℕ) (answer : Result ℕ Refusal) → length_answer answer ≡ look_up k → is_ok answer ≡ is_length k
is_found k (Ok m) e = sym (found k m (sym e)).0
is_found k (Err r) e = sym (not_found k (refusal_number r) (sym e))

-- ---- each call where k is not known: refused as the look-up is, and nothing is written

module _ (k : ℕ) (r : Refusal) (e : look_up k ≡ refused (refusal_number r)) where
  refused_alike : {X : Type 0} (next : Answer X) → if_length k next ≡ refused (refusal_number r)
  unfolding look_up
  refused_alike next =
      let unknown = not_found k (refusal_number r) e in
      let same : refused A.block ≡ refused (refusal_number r) = sym (unknown_refused k (done (k / 8)) unknown) ∙ e in
      let n : A.block ≡ refusal_number r = cc in
      unknown_refused k next unknown ∙ ap (λ (x : ℕ). refused x) n

  pub build_unknown : (service : ℕ) (payload slice : List ℕ) → BuildBlock k service payload slice (Err r) slice
  build_unknown service payload slice =
      let e = look_up_first.builds k service payload slice ∙ refused_alike _ in
      record { answers = sym e; writes = rw e refl }

  pub check_unknown : (slice : List ℕ) → CheckBlock k slice (Err r)
  check_unknown slice = record { answers = sym (look_up_first.checks k slice ∙ refused_alike _) }

  pub service_unknown : (slice : List ℕ) → ReadService k slice (Err r)
  service_unknown slice = record { answers = sym (look_up_first.reads_service k slice ∙ refused_alike _) }

  pub read_unknown : (slice payload : List ℕ) → ReadBlock k slice payload (Err r) payload
  read_unknown slice payload =
      let e = look_up_first.reads k slice payload ∙ refused_alike _ in
      record { answers = sym e; writes = rw e refl }

  pub sync_unknown : (slice : List ℕ) → BuildSync k slice (Err r) slice
  sync_unknown slice =
      let e = look_up_first.synchronises k slice ∙ refused_alike _ in
      record { answers = sym e; writes = rw e refl }

  pub cancel_unknown : (slice : List ℕ) → CancelBlock k slice (Err r) slice
  cancel_unknown slice =
      let e = look_up_first.cancels k slice ∙ refused_alike _ in
      record { answers = sym e; writes = rw e refl }

-- ---- each call where k is known: the promise of the call below is its own

module _ (k : ℕ) (known : is_length k ≡ true) where
  builds_below : (service : ℕ) (payload slice : List ℕ) → build_block k service payload slice ≡ build_packed k service payload slice
  builds_below service payload slice = look_up_first.builds k service payload slice ∙ known_next k _ known

  reads_below : (slice payload : List ℕ) → read_block k slice payload ≡ read_packed k slice payload
  reads_below slice payload = look_up_first.reads k slice payload ∙ known_next k _ known

  cancels_below : (slice : List ℕ) → cancel_block k slice ≡ held_packed k slice
  cancels_below slice = look_up_first.cancels k slice ∙ known_next k _ known

  module _ (m : ℕ) (whole : 8 * m ≡ k) where
    pub build_known : (service : ℕ) (payload slice : List ℕ) (answer : Result (Unit {0}) Refusal) (slice' : List ℕ)
        → BuildPacked (8 * m) service payload slice answer slice' → BuildBlock k service payload slice answer slice'
    build_known service payload slice answer slice' below =
        let p = subst (λ (x : ℕ). BuildPacked x service payload slice answer slice') whole below in
        let e = builds_below service payload slice in
        record { answers = p.answers ∙ sym e; writes = rw e p.writes }

    pub check_known : (slice : List ℕ) (answer : Result ℕ Refusal) → CheckPacked (8 * m) slice answer → CheckBlock k slice answer
    check_known slice answer below =
        let p = subst (λ (x : ℕ). CheckPacked x slice answer) whole below in
        record { answers = p.answers ∙ sym (look_up_first.checks k slice ∙ known_next k _ known) }

    pub service_known : (slice : List ℕ) (answer : Result Read Refusal) → ServicePacked (8 * m) slice answer → ReadService k slice answer
    service_known slice answer below =
        let p = subst (λ (x : ℕ). ServicePacked x slice answer) whole below in
        record { answers = p.answers ∙ sym (look_up_first.reads_service k slice ∙ known_next k _ known) }

    pub read_known : (slice payload : List ℕ) (answer : Result Read Refusal) (payload' : List ℕ) → ReadPacked (8 * m) slice payload answer payload'
        → ReadBlock k slice payload answer payload'
    read_known slice payload answer payload' below =
        let p = subst (λ (x : ℕ). ReadPacked x slice payload answer payload') whole below in
        let e = reads_below slice payload in
        record { answers = p.answers ∙ sym e; writes = rw e p.writes }

    pub sync_known : (slice : List ℕ) (answer : Result (Unit {0}) Refusal) (slice' : List ℕ) → SyncPacked (8 * m) slice answer slice'
        → BuildSync k slice answer slice'
    sync_known slice answer slice' below =
        let p = subst (λ (x : ℕ). SyncPacked x slice answer slice') whole below in
        let e = look_up_first.synchronises k slice ∙ known_next k _ known in
        record { answers = p.answers ∙ sym e; writes = rw e p.writes }

    pub cancel_known : (slice : List ℕ) (answer : Result (Unit {0}) Refusal) (slice' : List ℕ) → CancelPacked (8 * m) slice answer slice'
        → CancelBlock k slice answer slice'
    cancel_known slice answer slice' below =
        let p = subst (λ (x : ℕ). CancelPacked x slice answer slice') whole below in
        let e = cancels_below slice in
        record { answers = p.answers ∙ sym e; writes = rw e p.writes }

-- ---- a call by k that is done: k is known, and the promise is that of the call below

pub built_below : (k service : ℕ) (payload slice slice' : List ℕ) → BuildBlock k service payload slice (Ok tt) slice'
    → (is_length k ≡ true) × BuildPacked k service payload slice (Ok tt) slice'
built_below k service payload slice slice' p =
    let known = known_done k _ tt (sym (look_up_first.builds k service payload slice) ∙ sym p.answers) in
    let e = sym (builds_below k known service payload slice) in
    (known, record { answers = p.answers ∙ sym e; writes = rw e p.writes })

pub read_below : (k : ℕ) (slice payload : List ℕ) (answer : Result Read Refusal) (payload' : List ℕ) → is_length k ≡ true
    → ReadBlock k slice payload answer payload' → ReadPacked k slice payload answer payload'
read_below k slice payload answer payload' known p =
    let e = sym (reads_below k known slice payload) in
    record { answers = p.answers ∙ sym e; writes = rw e p.writes }

-- where the answer is no refusal, k is known
pub read_done_below : (k : ℕ) (slice payload : List ℕ) (answer : Result Read Refusal) (payload' : List ℕ) (v : Verdict) → read_answer answer ≡ done v
    → ReadBlock k slice payload answer payload' → ReadPacked k slice payload answer payload'
read_done_below k slice payload answer payload' v d p =
    read_below k slice payload answer payload' (known_done k _ v (sym (look_up_first.reads k slice payload) ∙ sym p.answers ∙ d)) p

pub cancelled_below : (k : ℕ) (slice slice' : List ℕ) → CancelBlock k slice (Ok tt) slice'
    → (is_length k ≡ true) × CancelPacked k slice (Ok tt) slice'
cancelled_below k slice slice' p =
    let known = known_done k _ tt (sym (look_up_first.cancels k slice) ∙ sym p.answers) in
    let e = sym (cancels_below k known slice) in
    (known, record { answers = p.answers ∙ sym e; writes = rw e p.writes })
