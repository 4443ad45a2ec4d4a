-- `Checked::store_item` lends the data's place in the store. Assumes nothing.
use mathlib.Core.Path.{◌≡◌, ap, ◌∙◌}
use mathlib.Core.Bool.{true, false}
use mathlib.Core.List.{List, [], ◌++◌}
use Prim.Native.Nat.{ℕ, ◌+◌, ◌-◌, ◌*◌, ◌/◌, ◌≤◌, ◌<◌}
use native.Mathlib.Omega.{arith}
use borrow.Author.Rules.{rules}
use lib.ListN.{length, take, drop, get_or, length-drop}
use lib.Seq.{take_all, length-take-le}
use Rattle.crc.specs.Bits.{Bits, bits_of, bytes_of}
use Rattle.block.specs.Lengths.{is_length, block_length}
use Rattle.block.specs.Block.{payload_of}
use Rattle.block.specs.Calls.{too_short, MoveData}
use Rattle.block.specs.declared.Refusal.{Refusal}
use Rattle.std.specs.Prelude.{Result}
use Rattle.std.specs.Result.{IsOk}
use Rattle.block.proofs.Lengths.{length_facts, length_bytes}
use Rattle.line.specs.Receiving.{accepts, stops}
use Rattle.line.specs.ReceivingInPlace.{with_array}
use Rattle.line.specs.Code.ReceiveSteps.{handed_back, Handed}
use Rattle.line.specs.declared.receiver.Receiver.{Receiver}
use Rattle.line.specs.declared.receiver.Step.{Step}
use Rattle.line.proofs.StorePlace.{start-lt, room, put_back, accepted_store}
use Rattle.line.proofs.BlockFinished.{handed_stored, length_data, moved_ok, data_moved}
use Rattle.line.proofs.head.Checked.store_item.Goals as goal

module _ (s : Receiver) (known : is_length s.setup.k ≡ true) (slice store : List ℕ) (used : ℕ)
    (h : block_length s.setup.k ≤ 8 * length slice) (bytes : (i : ℕ) → get_or store i 0 < 256)
    (held : too_short store (s.taken * s.setup.k + s.setup.k) ≡ false) where
  abbrev k : ℕ
  k = s.setup.k

  abbrev start : ℕ
  start = s.taken * (k / 8)

  fits : start + k / 8 ≤ length store
  fits = room k s.taken known store held

  abbrev row : Bits
  row = take (block_length k) (bits_of slice)

  -- the place lent, and its length
  abbrev n : ℕ
  n = start + k / 8 - start

  same : n ≡ k / 8
  same = omega arith

  abbrev lent : List ℕ
  lent = take n (drop start store)

  wide : k / 8 ≤ length lent
  wide = omega (arith, same, fits, length-take-le n (drop start store) (omega (arith, same, fits, length-drop start store)))

  all_data : take (8 * (k / 8)) (payload_of k row) ≡ payload_of k row
  all_data = take_all (8 * (k / 8)) (payload_of k row) (omega (arith, length_bytes k known, length_data k slice h))

  moves : (answer : Result (Unit {0}) Refusal) (part : List ℕ) → MoveData (k / 8) slice lent answer part → IsOk answer
  moves answer part p = moved_ok k slice h (k / 8) (omega (arith, length_bytes k known)) lent wide answer part p

  stored : (answer : Result (Unit {0}) Refusal) (part : List ℕ) → MoveData (k / 8) slice lent answer part → (r : Step) → r ≡ handed_back (stops s accepts [] used)
      → Handed s store (stops s accepts row used) r (put_back k s.taken known store n part)
  stored answer part p r e =
      handed_stored s row used store r _ held
      (accepted_store k s.taken known store n part _ same (length_data k slice h) fits bytes
      (data_moved k slice h (k / 8) (omega (arith, length_bytes k known)) lent wide answer part p
      ∙ ap (λ (d : Bits). bytes_of (k / 8) d ++ drop (k / 8) lent) all_data))
      e

pub overflow_mul-start : goal.overflow_mul-start
overflow_mul-start c = let h = start-lt c.args.self.head.setup.k c.args.self.head.taken c.args.self.known c.args.self.items in
    omega arith

pub overflow_add-start : goal.overflow_add-start
overflow_add-start c = let h = start-lt c.args.self.head.setup.k c.args.self.head.taken c.args.self.known c.args.self.items in
    let f = length_facts c.args.self.head.setup.k c.args.self.known in
    omega arith

pub slice_bounds-move_data-end : goal.slice_bounds-move_data-end
slice_bounds-move_data-end c = room c.args.self.head.setup.k c.args.self.head.taken c.args.self.known c.args.store.now c.requires.1

pub unwrap-requires : goal.unwrap-requires
unwrap-requires c =
    moves (with_array c.args.self.head c.args.array.now) c.args.self.known c.args.row.now c.args.store.now c.args.used c.requires.0
    (λ i. search rules) c.requires.1 _ _ c.move_data.ensures

pub returns : goal.returns
returns c = stored (with_array c.args.self.head c.args.array.now) c.args.self.known c.args.row.now c.args.store.now c.args.used c.requires.0
    (λ i. search rules) c.requires.1 _ _ c.move_data.ensures _ c.stop.ensures
