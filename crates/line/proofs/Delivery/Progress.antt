-- With nothing lost and the end not taken, each undisturbed block period brings a new block or the end, or lowers a rank
-- that is at most 5. Assumes nothing.
use mathlib.Core.Path.{◌≡◌, refl}
use mathlib.Core.Logic.{◌⊎◌, inl, inr, ⊎_elim}
use mathlib.Core.Bool.{Bool, true, false, true≢false}
use Prim.Native.Nat.{ℕ, ◌+◌, ◌*◌, ◌≤◌, ◌<◌}
use native.Mathlib.Omega.{arith}
use lib.Dec.{eqb}
use Rattle.line.specs.Receiving.{EventKind, event_kind, with_length, takes_block}
use Rattle.line.specs.declared.sender.Next.{Next}
use Rattle.line.specs.declared.sender.Next.TheVariants.{Sync, Older, Newer}
use Rattle.line.specs.declared.receiving.Event.{Event}
use Rattle.line.specs.declared.receiving.Event.TheVariants as E
use Rattle.line.proofs.Delivery.Ends.{Ends, LineBlock, sync, item, SameSender, Sends, Reads, Between, Idle, Busy, NotWhole}
use Rattle.line.proofs.Delivery.Ends as D
use Rattle.line.proofs.Delivery.Invariant.{zero-or_one, send_keeps, read_keeps}

-- the end, and the end with this length
abbrev pub ending : EventKind → Bool
ending v = with_length false (λ M. true) v.length

abbrev pub ending_with : ℕ → EventKind → Bool
ending_with L v = with_length false (λ M. eqb M L) v.length

abbrev pub rank : Ends → Next → ℕ
rank s Sync = 3
rank s Older = 2 + 3 * s.search
rank s Newer = 1 + 3 * s.back

pub rank_low : (s : Ends) (n : Next) → 1 ≤ rank s n
rank_low s Sync = omega arith
rank_low s Older = omega arith
rank_low s Newer = omega arith

pub rank_high : (s : Ends) (n m : Next) → Between s m → rank s n ≤ 5
rank_high s Sync m b = omega arith
rank_high s Older m b = omega arith
rank_high s Newer m b = omega arith

not_whole : (i w : ℕ) → NotWhole (item i w) → w ≡ 1 → ⊥
not_whole i w (inl p) h = let z : ◌≡◌ {A = ℕ} 0 1 = cc in omega arith
not_whole i w (inr p) h = let q : item i w ≡ item p.0 0 = p.1 in let z : ◌≡◌ {A = ℕ} w 0 = cc in omega arith

pub between_of : {N : ℕ} {s : Ends} {n : Next} → Idle N s n → s.lost ≡ 0 → Between s n
between_of h z = ⊎_elim (λ a. absurd (omega arith)) (λ b. b) h.state

pub sender_kept : {N : ℕ} {s t : Ends} {f : LineBlock} {e : Event} → Reads N s t f e → SameSender s t
sender_kept (D.under_alarm_lem q r a) = q
sender_kept (D.searches q r d a z) = q
sender_kept (D.syncs q a r) = q
sender_kept (D.bad_step q a lt f r) = q
sender_kept (D.bad_eighth q a w f r) = q
sender_kept (D.bad_first q a k0 r) = q
sender_kept (D.accepts q a i e0 m r) = q
sender_kept (D.repeats q a i e0 m r) = q
sender_kept (D.out_of_sequence q a i e0 m r) = q
sender_kept (D.ends q a i e0 m r) = q
sender_kept (D.ends_again q a i e0 r) = q
sender_kept (D.wrong_length q a i e0 m r) = q
sender_kept (D.waits q a r) = q

module _ {N : ℕ} {s t : Ends} where
  sync_read : {f : LineBlock} → Reads N s t f E.Sync → s.alarm ≡ 0 → t.search ≡ 0
  sync_read (D.under_alarm_lem q r a) z = absurd (omega arith)
  sync_read (D.syncs q a r) z = r.search

module _ {N : ℕ} {s t : Ends} {n : Next} where
  -- a whole item read in step, with nothing lost, brings news, or it is the one before, or it waits
  whole-read : {i w : ℕ} {e : Event} → Busy N s n (item i w) → Reads N s t (item i w) e → w ≡ 1 → s.lost ≡ 0
      → s.search ≡ 0 → s.ended ≡ 0 → (event_kind e).wait ≡ false → (takes_block e ≡ true) ⊎ ((t.back ≡ 0) × (i < s.taken))
  whole-read h (D.under_alarm_lem q r a) w1 n0 z0 e0 nw = absurd (⊎_elim (λ b. omega arith) (λ b. omega arith) h.state)
  whole-read h (D.searches q r d a z) w1 n0 z0 e0 nw = absurd (omega arith)
  whole-read {i} {w} h (D.bad_step q a lt f r) w1 n0 z0 e0 nw = absurd (not_whole i w f w1)
  whole-read {i} {w} h (D.bad_eighth q a w' f r) w1 n0 z0 e0 nw = absurd (not_whole i w f w1)
  whole-read h (D.accepts q a i e0 m r) w1 n0 z0 e1 nw = inl refl
  whole-read h (D.repeats q a i e0 m r) w1 n0 z0 e1 nw = inr (omega arith)
  whole-read h (D.out_of_sequence q a i e0 m r) w1 n0 z0 e1 nw =
      absurd (⊎_elim (λ b. omega arith) (λ b. omega arith) (read_keeps h (D.out_of_sequence q a i e0 m r)).state)
  whole-read h (D.ends q a i e0 m r) w1 n0 z0 e1 nw = inl refl
  whole-read h (D.ends_again q a i e0 r) w1 n0 z0 e1 nw = absurd (omega arith)
  whole-read h (D.wrong_length q a i e0 m r) w1 n0 z0 e1 nw =
      absurd (⊎_elim (λ b. omega arith) (λ b. omega arith) (read_keeps h (D.wrong_length q a i e0 m r)).state)
  whole-read h (D.waits q a r) w1 n0 z0 e1 nw = absurd (true≢false nw)

-- what an undisturbed period is at block level: the reading equals the return bit, a synchronising block is found, an item
-- that is not cancelled arrives whole, and none waits
pub record Undisturbed (s : Ends) (n : Next) (reading : ℕ) (f : LineBlock) (e : Event) : Type 0 where
  pub read : reading ≡ s.back
  pub synced : f ≡ sync → e ≡ E.Sync
  pub whole : (i w : ℕ) → f ≡ item i w → (n ≡ Newer → reading ≡ 0) → w ≡ 1
  pub no_wait : (event_kind e).wait ≡ false

older_newer : Older ≡ Newer → ⊥
older_newer p = let z : ◌≡◌ {A = ℕ} 0 1 = cc in omega arith

module _ {N : ℕ} {s t u : Ends} {reading : ℕ} where
  pub rank_falls : {n n' : Next} {f : LineBlock} {e : Event} → Idle N s n → Sends N s reading t n n' f → Reads N t u f e
      → Undisturbed s n reading f e → s.lost ≡ 0 → t.lost ≡ 0 → s.ended ≡ 0 → (takes_block e ≡ true)
      ⊎ (rank u n' < rank s n)
  rank_falls h (D.syncs r q d) y c m n e0 =
      let b = between_of h m in
      let z = sync_read (rw (c.synced refl) at y) (omega arith) in
      inr (omega arith)
  rank_falls h (D.olders {i = i} {w = w} r q d e l) y c m n e0 =
      let b = between_of h m in
      let q' = sender_kept y in
      let k = send_keeps {reading = reading} h (D.olders r q d e l) in
      let b' = between_of (read_keeps k y) (omega arith) in
      ⊎_elim
      (λ z. ⊎_elim inl (λ p. inr (omega arith))
      (whole-read k y (c.whole i w refl (λ p. absurd (older_newer p))) n (omega arith) (omega arith) c.no_wait))
      (λ z. inr (omega arith))
      (zero-or_one s.search b.search)
  rank_falls h (D.wholes {i = j} {w = w} r z e le l i u o f x) y c m n e0 =
      let b = between_of h m in
      let k = send_keeps h (D.wholes r z e le l i u o f x) in
      ⊎_elim inl (λ p. absurd (omega arith)) (whole-read k y (c.whole j w refl (λ p. z)) n (omega arith) (omega arith) c.no_wait)
  rank_falls h (D.lasts r z e le w i u o f l) y c m n e0 =
      let b = between_of h m in
      absurd (omega arith)
  rank_falls h (D.cancels_older r z e i x lt o o' f l d) y c m n e0 =
      let b = between_of h m in
      let q = sender_kept y in
      let b' = between_of (read_keeps (send_keeps h (D.cancels_older r z e i x lt o o' f l d)) y) (omega arith) in
      inr (omega arith)
  rank_falls h (D.cancels_sync r z e i u ge o f l d) y c m n e0 = inr (omega arith)
