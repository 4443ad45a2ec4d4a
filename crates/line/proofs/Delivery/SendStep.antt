-- A sending call that is not refused is a step of the two ends at block level. Assumes nothing.
use mathlib.Core.Path.{◌≡◌, refl, ap, ap₂, sym, ◌∙◌}
use mathlib.Core.Logic.{◌⊎◌, inl, inr, ⊎_elim}
use mathlib.Core.Bool.{Bool, true, false, cond, not, ◌&&◌, ◌||◌}
use Prim.Native.Nat.{ℕ, ◌+◌, ◌-◌, ◌*◌, ◌≤◌}
use native.Mathlib.Omega.{arith}
use lib.ListN.{length}
use lib.Dec.{leb}
use borrow.Author.Tests.{eqb-true, eqb-false, leb-true, leb-false}
use Rattle.crc.specs.Bits.{Bits, bit, xor_bits}
use Rattle.crc.specs.Check.{passes}
use Rattle.crc.specs.Damage.{Damage}
use Rattle.crc.proofs.Detect.{damaged_passes}
use Rattle.block.specs.Lengths.{block_length}
use Rattle.block.proofs.Truth.{cond_case, either, or-false, and_no}
use Rattle.line.specs.Order.{item_count, item_bits}
use Rattle.line.specs.Sending.{Block, Transmission, transmit, with_next, confirmed, repeated, at_last, sync_run, last_run, gave_up, plain_bits}
use Rattle.line.specs.Delivery.{is_used, is_cancelled}
use Rattle.line.specs.declared.sender.Sender.{Sender}
use Rattle.line.specs.declared.sender.Next.{Next}
use Rattle.line.specs.declared.sender.Next.TheVariants.{Sync, Older, Newer}
use Rattle.line.specs.declared.receiver.Receiver.{Receiver}
use Rattle.line.proofs.Items.{length-item_bits, passes-item_bits}
use Rattle.line.proofs.Delivery.Ends.{LineBlock, Sends, SameReceiver, Basic}
use Rattle.line.proofs.Delivery.Ends as D
use Rattle.line.proofs.Delivery.State.{Session, N, Fit, SenderSetup, alarm_stands, ends, CopyOf, syncing, whole, damaged}

-- a copy of an item is the item, or it fails the check
pub arrival : (o : Session) → Fit o → (i : ℕ) (copy : Bits) → length copy ≡ block_length o.k
    → Damage (xor_bits copy (item_bits o.marks o.k o.L o.content i))
    → (copy ≡ item_bits o.marks o.k o.L o.content i) ⊎ (passes copy ≡ false)
arrival o fit i copy long damage =
    ⊎_elim
    (λ e. inl (damaged_passes copy (item_bits o.marks o.k o.L o.content i)
    (long ∙ sym (length-item_bits o.k o.L o.content fit.known fit.content o.marks i)) damage
    (passes-item_bits o.marks o.k o.L o.content i) e))
    inr
    (either (passes copy))

-- ---- what stays

pub setup_kept : (s : Sender) (n : Next) (reading : Bool) → (transmit s n reading).state.setup ≡ s.setup
unfolding transmit
setup_kept s Sync reading = refl
setup_kept s Older reading = refl
setup_kept s Newer false = refl
setup_kept s Newer true = refl

pub run_kept : (s : Sender) (n : Next) (reading : Bool) → s.run ≤ last_run → gave_up s ≡ false
    → (transmit s n reading).state.run ≤ last_run
unfolding transmit
run_kept s Sync reading h g = h
run_kept s Older reading h g = h
run_kept s Newer false h g = omega arith
run_kept s Newer true h g = let e = eqb-false s.run last_run g in omega arith

abbrev same_receiver : (s t : Sender) (r : Receiver) (l d m e : ℕ) → SameReceiver (ends s r l d) (ends t r m e)
same_receiver s t r l d m e = record { search = refl; bad_row = refl; back = refl; taken = refl; ended = refl; alarm = refl }

-- ---- the step

-- a used reading of 0 against a return bit of 1
abbrev lost_by : Block → Receiver → Bool → Bool
lost_by block r reading = is_used block && r.back && not reading

pub record SendsBlock (o : Session) (s : Sender) (r : Receiver) (l d : ℕ) (n : Next) (reading : Bool) (copy : Bits)
    (x : Transmission) : Type 0 where
  pub line_block : LineBlock
  pub sends : Sends (N o) (ends s r l d) (bit reading)
      (ends x.state r (cond (lost_by x.block r reading) 1 l) (cond (lost_by x.block r reading) 1 d)) n
      x.state.next line_block
  pub copy_of : CopyOf o x.block copy line_block

module _ (o : Session) (fit : Fit o) (s : Sender) (r : Receiver) (l d : ℕ) (copy : Bits)
    (long : length copy ≡ block_length o.k)
    (same : SenderSetup o s.setup) (going : s.finished ≡ false)
    (basic : Basic (N o) (ends s r l d)) where
  abbrev Supposed : Transmission → Bool → Type 0
  Supposed x reading =
      Damage (xor_bits copy (plain_bits o.marks o.k o.L o.content x.block))
      × (is_cancelled x.block ≡ true → copy ≡ plain_bits o.marks o.k o.L o.content x.block → ⊥)
      × (lost_by x.block r reading ≡ true → alarm_stands r.phase ≡ false → d ≡ 0)

  items : item_count s.setup.k s.setup.length ≡ N o
  items = ap₂ item_count same.k same.L

  -- ---- the older item

  older_sends : (reading : Bool) (w : ℕ) → w ≤ 1
      → Sends (N o) (ends s r l d) (bit reading) (ends (with_next s Newer) r l d) Older Newer
      (LineBlock.item (s.newer - 1) w)
  older_sends reading w h =
      D.olders {i = s.newer - 1} (same_receiver s (with_next s Newer) r l d l d)
      (record { item = refl; run = refl; opening = refl; finished = refl; lost = refl }) refl
      (omega (arith, basic.low)) h

  -- ---- the newer item, reading 0

  excused : (b : Bool) → alarm_stands r.phase ≡ b → (b ≡ false → d ≡ 0) → d ≤ bit b
  excused true e h = omega (arith, basic.danger, basic.lost)
  excused false e h = omega (arith, h refl)

  loss : (b : Bool) → ((true && b && true) ≡ true → alarm_stands r.phase ≡ false → d ≡ 0)
      → ((bit b ≡ 0) × (cond (true && b && true) 1 l ≡ l) × (cond (true && b && true) 1 d ≡ d))
      ⊎ ((bit b ≡ 1) × (d ≤ bit (alarm_stands r.phase)) × (cond (true && b && true) 1 l ≡ 1)
      × (cond (true && b && true) 1 d ≡ 1))
  loss true h = inr (refl, excused (alarm_stands r.phase) refl (h refl), refl, refl)
  loss false h = inl (refl, refl, refl)

  newer_sends : (w : ℕ) → w ≤ 1 → ((true && r.back && true) ≡ true → alarm_stands r.phase ≡ false → d ≡ 0)
      → (at_last s ≡ true) ⊎ (at_last s ≡ false)
      → Sends (N o) (ends s r l d) 0
      (ends (confirmed s) r (cond (true && r.back && true) 1 l) (cond (true && r.back && true) 1 d))
      Newer Newer (LineBlock.item s.newer w)
  newer_sends w h ok (inl e) =
      D.lasts (same_receiver s (confirmed s) r l d _ _) refl refl
      (eqb-true s.newer _ e ∙ ap (λ (n : ℕ). n + 1) items) h
      (ap (λ (c : Bool). cond c s.newer (s.newer + 1)) e) refl refl (ap bit e) (loss r.back ok)
  newer_sends w h ok (inr e) =
      let q = eqb-false s.newer (item_count s.setup.k s.setup.length + 1) e in
      D.wholes (same_receiver s (confirmed s) r l d _ _) refl refl (omega (arith, basic.high, items)) h
      (ap (λ (c : Bool). cond c s.newer (s.newer + 1)) e) refl refl (ap bit e) (loss r.back ok)

  -- ---- the newer item, reading 1

  due : (b : Bool) → (b || leb sync_run (s.run + 1)) ≡ true → 4 ≤ s.run + 1 + 4 * bit b
  due true e = omega arith
  due false e = omega (arith, leb-true sync_run (s.run + 1) e)

  cancel_sends : Sends (N o) (ends s r l d) 1
      (ends (repeated s) r (cond (true && r.back && false) 1 l) (cond (true && r.back && false) 1 d))
      Newer (cond (s.opening || leb sync_run (s.run + 1)) Sync Older) (LineBlock.item s.newer 0)
  cancel_sends =
      cond_case (λ (n : Next). Sends (N o) (ends s r l d) 1
      (ends (repeated s) r (cond (true && r.back && false) 1 l) (cond (true && r.back && false) 1 d)) Newer n
      (LineBlock.item s.newer 0))
      (s.opening || leb sync_run (s.run + 1))
      (λ e.
      D.cancels_sync (same_receiver s (repeated s) r l d _ _) refl refl refl refl (due s.opening e) refl (ap bit going)
      (ap (λ (c : Bool). cond c 1 l) (and_no r.back)) (ap (λ (c : Bool). cond c 1 d) (and_no r.back)))
      (λ e.
      let q = or-false s.opening (leb sync_run (s.run + 1)) e in
      D.cancels_older (same_receiver s (repeated s) r l d _ _) refl refl refl refl (leb-false sync_run (s.run + 1) q.1)
      (ap bit q.0) (ap bit q.0) (ap bit going)
      (ap (λ (c : Bool). cond c 1 l) (and_no r.back)) (ap (λ (c : Bool). cond c 1 d) (and_no r.back)))

  pub sends_block : (n : Next) (reading : Bool) → Supposed (transmit s n reading) reading
      → SendsBlock o s r l d n reading copy (transmit s n reading)
  unfolding transmit plain_bits
  sends_block Sync reading ok =
      record {
        line_block = LineBlock.sync;
        sends =
            D.Sends.syncs (same_receiver s (with_next s Older) r l d l d)
            (record { item = refl; run = refl; opening = refl; finished = refl; lost = refl }) refl;
        copy_of = syncing refl;
      }
  sends_block Older reading ok =
      ⊎_elim
      (λ e. record {
        line_block = LineBlock.item (s.newer - 1) 1;
        sends = older_sends reading 1 (omega arith);
        copy_of = whole refl e;
      })
      (λ e. record {
        line_block = LineBlock.item (s.newer - 1) 0;
        sends = older_sends reading 0 (omega arith);
        copy_of = damaged refl e;
      })
      (arrival o fit (s.newer - 1) copy long ok.0)
  sends_block Newer false ok =
      ⊎_elim
      (λ e. record {
        line_block = LineBlock.item s.newer 1;
        sends = newer_sends 1 (omega arith) ok.2 (either (at_last s));
        copy_of = whole refl e;
      })
      (λ e. record {
        line_block = LineBlock.item s.newer 0;
        sends = newer_sends 0 (omega arith) ok.2 (either (at_last s));
        copy_of = damaged refl e;
      })
      (arrival o fit s.newer copy long ok.0)
  sends_block Newer true ok =
      ⊎_elim
      (λ e. absurd (ok.1 refl e))
      (λ e. record { line_block = LineBlock.item s.newer 0; sends = cancel_sends; copy_of = damaged refl e })
      (arrival o fit s.newer copy long ok.0)
