-- Sending a block and reading one keep the invariant of the two ends. Assumes nothing.
use mathlib.Core.Path.{◌≡◌, refl}
use mathlib.Core.Logic.{◌⊎◌, inl, inr, ⊎_elim}
use Prim.Native.Nat.{ℕ, zero, suc, ◌+◌, ◌*◌, ◌≤◌, ◌<◌}
use native.Mathlib.Omega.{arith}
use Rattle.line.specs.declared.sender.Next.{Next}
use Rattle.line.specs.declared.sender.Next.TheVariants.{Sync, Older, Newer}
use Rattle.line.specs.declared.receiving.Event.{Event}
use Rattle.line.proofs.Delivery.Ends.{Ends, is_newer, is_sync, LineBlock, sync, item, SameReceiver, SameSender, Sends, Reads, Basic, Between, During, FromPair, syncing, below, last, cancelled, Alarmed, Idle, Busy, Neighbour}
use Rattle.line.proofs.Delivery.Ends as D

pub opened-idle : (N : ℕ) (s : Ends) → s.item ≡ 1 → s.run ≡ 0 → s.opening ≡ 1 → s.finished ≡ 0 → s.search ≡ 1
    → s.bad_row ≡ 0 → s.back ≡ 1 → s.taken ≡ 0 → s.ended ≡ 0 → s.alarm ≡ 0 → s.lost ≡ 0 → s.danger ≡ 0 → Idle N s Sync
opened-idle N s a b c d f g h i j k l m =
    record { basic = omega arith; all = λ y. absurd (omega arith); state = inr (omega arith) }

-- ---- where an alarm stands

pub alarmed-idle : {N : ℕ} {s : Ends} {n : Next} → Idle N s n → s.alarm ≡ 1 → Alarmed s
alarmed-idle h a = ⊎_elim (λ b. b) (λ b. absurd (omega arith)) h.state

pub alarmed_busy : {N : ℕ} {s : Ends} {n : Next} {f : LineBlock} → Busy N s n f → s.alarm ≡ 1 → Alarmed s
alarmed_busy h a = ⊎_elim (λ b. b) (λ b. absurd (omega arith)) h.state

-- ---- sending keeps it

all_kept : {N r e r' e' : ℕ} → r' ≡ r → e' ≡ e → (e ≡ 1 → r ≡ N) → e' ≡ 1 → r' ≡ N
all_kept {N} {r} {e} p q a h = let z : r ≡ N = a (omega arith) in omega arith

module _ {N : ℕ} {s t : Ends} {n n' : Next} {f : LineBlock} where
  busy_of : Idle N s n → SameReceiver s t → (Alarmed s → Basic N t × Alarmed t)
      → (Between s n → Basic N t × During t n' × FromPair N t n' f) → Busy N t n' f
  busy_of h r alarmed between =
      let all = all_kept r.taken r.ended h.all in
      ⊎_elim
      (λ a. let x = alarmed a in record { basic = x.0; all = all; state = inl x.1 })
      (λ b. let x = between b in record { basic = x.0; all = all; state = inr (x.1, x.2) })
      h.state

module _ {N : ℕ} {s t : Ends} {reading : ℕ} where
  pub send_keeps : {n n' : Next} {f : LineBlock} → Idle N s n → Sends N s reading t n n' f → Busy N t n' f
  send_keeps h (D.syncs r q d) =
      busy_of h r (λ a. (omega arith, omega arith)) (λ b. (omega arith, omega arith, syncing (omega arith)))
  send_keeps h (D.olders r q d e w) =
      busy_of h r (λ a. (omega arith, omega arith)) (λ b. (omega arith, omega arith, below (omega arith) w))
  send_keeps h (D.wholes r z e le w i u o f (inl l)) =
      busy_of h r (λ a. (omega arith, omega arith)) (λ b. (omega arith, omega arith, below (omega arith) w))
  send_keeps h (D.wholes r z e le w i u o f (inr l)) =
      busy_of h r (λ a. (omega arith, omega arith)) (λ b. (omega arith, omega arith, below (omega arith) w))
  send_keeps h (D.lasts r z e le w i u o f (inl l)) =
      busy_of h r (λ a. (omega arith, omega arith)) (λ b. (omega arith, omega arith, last (omega arith) (omega arith) w))
  send_keeps h (D.lasts r z e le w i u o f (inr l)) =
      busy_of h r (λ a. (omega arith, omega arith)) (λ b. (omega arith, omega arith, last (omega arith) (omega arith) w))
  send_keeps h (D.cancels_older r z e i u lt o o' f l d) =
      busy_of h r (λ a. (omega arith, omega arith)) (λ b. (omega arith, omega arith, cancelled refl))
  send_keeps h (D.cancels_sync r z e i u ge o f l d) =
      busy_of h r (λ a. (omega arith, omega arith)) (λ b. (omega arith, omega arith, cancelled refl))

-- ---- reading keeps it

newer_le : (n : Next) → is_newer n ≤ 1
newer_le Sync = omega arith
newer_le Older = omega arith
newer_le Newer = omega arith

-- a whole item on the line: the newer is next, and it is the one before, or the last
record Whole (N : ℕ) (s : Ends) (n : Next) (i : ℕ) : Type 0 where
  next : is_newer n ≡ 1
  not_sync : is_sync n ≡ 0
  as_data : i < N → s.item ≡ i + 1
  as_end : N ≤ i → s.item ≡ N + 1

whole_of : {N : ℕ} {s : Ends} {n : Next} {i w : ℕ} → Basic N s → FromPair N s n (item i w) → w ≡ 1 → Whole N s n i
whole_of g (below e l) h = record { next = refl; not_sync = refl; as_data = λ l. omega arith; as_end = λ l. omega arith }
whole_of g (last e q l) h = record { next = refl; not_sync = refl; as_data = λ l. absurd (omega arith); as_end = λ l. q }
whole_of g (cancelled z) h = absurd (omega arith)

sync_of : {N : ℕ} {s : Ends} {n : Next} → FromPair N s n sync
    → (is_newer n ≡ 0) × (is_sync n ≡ 0) × (4 ≤ s.run + 4 * s.opening + 4 * s.lost)
sync_of (syncing h) = (refl, refl, h)

pub zero-or_one : (n : ℕ) → n ≤ 1 → (n ≡ 0) ⊎ (n ≡ 1)
zero-or_one zero h = inl refl
zero-or_one (suc n) h = inr (omega arith)

pub neighbour : {N : ℕ} {s : Ends} {n : Next} {i : ℕ} → Busy N s n (item i 1) → s.alarm ≡ 0 → i < N
    → Neighbour s.taken s.ended i
neighbour {s = s} h a l =
    ⊎_elim
    (λ b. absurd (omega arith))
    (λ b. let v = (whole_of h.basic b.1 refl).as_data l in
    ⊎_elim (λ z. omega arith) (λ z. let q = h.all z in absurd (omega arith)) (zero-or_one s.ended h.basic.ended))
    h.state

module _ {N : ℕ} {s t : Ends} {n : Next} where
  -- while no alarm stands, the items and the end as they were
  kept : {f : LineBlock} → Busy N s n f → s.alarm ≡ 0 → t.taken ≡ s.taken → t.ended ≡ s.ended
      → (During s n → FromPair N s n f → Basic N t × (Alarmed t ⊎ Between t n)) → Idle N t n
  kept h a p q x =
      ⊎_elim
      (λ b. absurd (omega arith))
      (λ b. let y = x b.0 b.1 in record { basic = y.0; all = all_kept p q h.all; state = y.1 })
      h.state

  -- a whole item: with the facts on which item it is
  kept_whole : {i : ℕ} → Busy N s n (item i 1) → s.alarm ≡ 0 → (During s n → Whole N s n i → Idle N t n) → Idle N t n
  kept_whole h a x = ⊎_elim (λ b. absurd (omega arith)) (λ b. x b.0 (whole_of h.basic b.1 refl)) h.state

  -- an alarm comes only where a request was lost and no good block was read since, and the end is not taken
  alarmed : {f : LineBlock} → Busy N s n f → SameSender s t → D.Alarms s t 0 → s.danger ≡ 1 → s.ended ≡ 0 → Idle N t n
  alarmed h q r d e0 = record { basic = omega arith; all = all_kept r.taken r.ended h.all; state = inl (omega arith) }

  pub read_keeps : {f : LineBlock} {e : Event} → Busy N s n f → Reads N s t f e → Idle N t n
  read_keeps h (D.under_alarm_lem q r a) =
      ⊎_elim
      (λ b. record { basic = omega arith; all = all_kept r.taken r.ended h.all; state = inl (omega arith) })
      (λ b. absurd (omega arith))
      h.state
  read_keeps h (D.searches q r d a z) =
      kept h a r.taken r.ended (λ b c. (omega arith, inr (omega (arith, newer_le n))))
  read_keeps h (D.syncs q a r) =
      kept h a r.taken r.ended (λ b c. let c = sync_of c in (omega arith, inr (omega arith)))
  read_keeps h (D.bad_step q a lt f r) =
      kept h a.alarm r.taken r.ended (λ b c. (omega arith, inr (omega (arith, newer_le n))))
  read_keeps h (D.bad_eighth q a w f r) =
      kept h a.alarm r.taken r.ended (λ b c. (omega arith, inr (omega (arith, newer_le n))))
  read_keeps h (D.bad_first q a k0 r) =
      kept h a.alarm r.taken r.ended (λ b c. let c = sync_of c in (omega arith, inr (omega (arith, newer_le n))))
  read_keeps h (D.accepts q a i e0 m r) =
      kept_whole h a.alarm
      (λ b c. let v = c.as_data i in
      record { basic = omega arith; all = λ y. absurd (omega arith); state = inr (omega arith) })
  read_keeps h (D.repeats q a i e0 m r) =
      kept_whole h a.alarm
      (λ b c. let v = c.as_data i in
      record { basic = omega arith; all = λ y. absurd (omega arith); state = inr (omega arith) })
  read_keeps h (D.out_of_sequence q a i e0 m r) =
      kept_whole h a.alarm (λ b c. let v = c.as_data i in alarmed h q r (omega arith) e0)
  read_keeps h (D.ends q a i e0 m r) =
      kept_whole h a.alarm
      (λ b c. let v = c.as_end i in record { basic = omega arith; all = λ y. omega arith; state = inr (omega arith) })
  read_keeps h (D.ends_again q a i e0 r) =
      let z = h.all e0 in
      kept_whole h a.alarm
      (λ b c. let v = c.as_end i in record { basic = omega arith; all = λ y. omega arith; state = inr (omega arith) })
  read_keeps h (D.wrong_length q a i e0 m r) =
      kept_whole h a.alarm (λ b c. let v = c.as_end i in alarmed h q r (omega arith) e0)
  read_keeps h (D.waits q a r) =
      kept h a.alarm r.taken r.ended (λ b c. (omega arith, inr (omega (arith, newer_le n))))
