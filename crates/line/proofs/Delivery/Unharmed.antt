-- Blocks that arrive unharmed, in step: an item is never read by rule 1, a synchronising block never by rules 3 to 6.
-- Assumes nothing.
use mathlib.Core.Path.{◌≡◌, ap, sym, ◌∙◌}
use mathlib.Core.Bool.{Bool, true, false, true≢false}
use Prim.Native.Nat.{ℕ}
use native.Mathlib.Omega.{arith}
use lib.ListN.{length}
use Rattle.crc.specs.Bits.{Bits}
use Rattle.crc.specs.Check.{passes}
use Rattle.block.specs.Lengths.{is_length}
use Rattle.block.specs.Block.{sync_block}
use Rattle.block.proofs.Lengths.{length_facts}
use Rattle.block.proofs.Block.{sync_fails}
use Rattle.line.specs.Order.{item_service, item_payload, item_bits}
use Rattle.line.specs.Receiving.{Rule, reads_sync, meaning, service_rule, judge}
use Rattle.line.specs.declared.marks.Marks.{Marks}
use Rattle.line.proofs.Delivery.BlockRules.{item_read, judge_sync, service_case}

service_not_one : (in_use : Bool) (k r : ℕ) (ended : Bool) (service : ℕ) (payload : Bits)
    → service_rule in_use k r ended service payload ≡ reads_sync → ⊥
service_not_one =
    service_case (λ (x : Rule). x ≡ reads_sync → ⊥)
    (λ x d w q. true≢false (sym d ∙ ap (λ (y : Rule). (meaning y).data_or_end) q))
    (λ q. let v : ◌≡◌ {A = ℕ} 0 1 = cc in omega arith)

-- an item is never read by rule 1
pub item_not_one : (m : Marks) (k L : ℕ) (content : Bits) → is_length k ≡ true → length content ≡ L
    → (r : ℕ) (ended : Bool) (i : ℕ) → judge m.in_use k r ended (item_bits m k L content i) ≡ reads_sync → ⊥
item_not_one m k L content known long r ended i e =
    service_not_one m.in_use k r ended (item_service m k L i) (item_payload k L content i)
    (sym (item_read m k L content known long r ended i) ∙ e)

-- a synchronising block fails the check, and is read by rule 1 alone
pub sync_not_read : (in_use : Bool) (k r : ℕ) (ended : Bool) → is_length k ≡ true
    → (passes (sync_block k) ≡ false) × (judge in_use k r ended (sync_block k) ≡ reads_sync)
    × ((meaning (judge in_use k r ended (sync_block k))).data_or_end ≡ false)
sync_not_read in_use k r ended known =
    let f = length_facts k known in (
      sync_fails k f.0 (omega arith) f.2,
      judge_sync in_use k r ended known,
      ap (λ (x : Rule). (meaning x).data_or_end) (judge_sync in_use k r ended known),
    )
