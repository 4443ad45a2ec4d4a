-- Which answer each call below the look-up gives, from its tests. Assumes nothing.
use Rattle.std.specs.Prelude.{Ok, Err}
use Rattle.block.specs.declared.Refusal.{Refusal}
use Rattle.block.specs.declared.Refusal.TheVariants as N
use mathlib.Core.Path.{◌≡◌, refl, sym, ap, ◌∙◌}
use mathlib.Core.Bool.{Bool, true, false}
use mathlib.Core.List.{List, [], ◌∷◌, ◌++◌}
use Prim.Native.Nat.{ℕ, ◌+◌, ◌*◌, ◌≤◌, ◌<◌}
use native.Mathlib.Omega.{arith}
use borrow.Author.Tests.{lt-ltb, le-ltb, ltb-false}
use lib.ListN.{length, take, drop, length-drop}
use Rattle.crc.specs.Bits.{Bits, binary, bits_of, bytes_of}
use Rattle.crc.specs.Check.{remainder}
use Rattle.crc.proofs.Bytes.{length-bits_of}
use Rattle.block.specs.Answer as A
use Rattle.block.specs.Answer.{Answer, refused, done, refuse_if}
use Rattle.block.specs.Lengths.{block_length, payload_bytes, block_bytes}
use Rattle.block.specs.Block.{block_bits, payload_of, verdict, sync_block, cancelled}
use Rattle.block.specs.Calls.{refusal_number, verdict_of, too_short, overwritten, move_data, MoveData, read_bytes}
use Rattle.block.specs.Packed.{build_packed, BuildPacked, check_packed, CheckPacked, service_packed, read_packed, ReadPacked, held_packed, SyncPacked, CancelPacked}
use types.Run.{OneOf}
use denote.Enum.Declared.{tag_of}
use Rattle.block.specs.declared.Read.{Read}
use Rattle.block.specs.declared.Read.TheVariants as R
use Rattle.block.specs.contracts.Read.{the_type}
use Rattle.block.proofs.Truth.{or_yes}
use Rattle.block.proofs.Packing.{bytes_of-take}

-- a call that is done passed its test
pub passed_test : {X : Type 0} (t : Bool) (n : ℕ) (next : Answer X) (x : X) → refuse_if t n next ≡ done x → (t ≡ false) × (next ≡ done x)
passed_test true n next x h = absurd (let z : ◌≡◌ {A = ℕ} 0 1 = cc in omega arith)
passed_test false n next x h = (refl, h)

-- calls that make the same test are refused alike
same_refusal : {X Y : Type 0} (t : Bool) (m : ℕ) (x : X) (y : Y) (n : ℕ) → refuse_if t m (done x) ≡ refused n → refuse_if t m (done y) ≡ refused n
same_refusal true m x y n h = cc
same_refusal false m x y n h = absurd (let z : ◌≡◌ {A = ℕ} 0 1 = cc in omega arith)

-- ---- building one block

module _ (k service : ℕ) (payload slice : List ℕ) where
  build_refused : (n : Refusal) → build_packed k service payload slice ≡ refused (refusal_number n) → BuildPacked k service payload slice (Err n) slice
  build_refused n e = record { answers = sym e; writes = rw e refl }

  pub build_service : 15 < service → BuildPacked k service payload slice (Err N.Spoiled) slice
  unfolding build_packed
  build_service h = build_refused N.Spoiled (rw (lt-ltb 15 service h))

  module _ (small : service ≤ 15) where
    pub build_payload : 8 * length payload < k → BuildPacked k service payload slice (Err N.Short) slice
    unfolding build_packed
    build_payload h = build_refused N.Short (rw (le-ltb 15 service small, lt-ltb (8 * length payload) k h))

    pub build_slice : k ≤ 8 * length payload → 8 * length slice < block_length k → BuildPacked k service payload slice (Err N.Short) slice
    unfolding build_packed
    build_slice h g =
        build_refused N.Short
        (rw (le-ltb 15 service small, le-ltb (8 * length payload) k h, lt-ltb (8 * length slice) (block_length k) g))

    pub build_done : k ≤ 8 * length payload → block_length k ≤ 8 * length slice → (slice' : List ℕ)
        → slice' ≡ overwritten (block_bytes k) (block_bits (binary 4 service) (take k (bits_of payload))) slice
        → BuildPacked k service payload slice (Ok tt) slice'
    unfolding build_packed
    build_done h g slice' w =
        let e : build_packed k service payload slice ≡ done tt =
        rw (le-ltb 15 service small, le-ltb (8 * length payload) k h, le-ltb (8 * length slice) (block_length k) g) in
        record { answers = sym e; writes = rw e w }

-- ---- a slice that must hold a block

module _ (k : ℕ) (slice : List ℕ) where
  -- the n bits that are read
  abbrev row : Bits
  row = take (block_length k) (bits_of slice)

  module _ (short : too_short slice (block_length k) ≡ true) where
    pub check_slice : CheckPacked k slice (Err N.Short)
    unfolding check_packed
    check_slice = record { answers = sym (rw short) }

    pub sync_slice : SyncPacked k slice (Err N.Short) slice
    unfolding held_packed
    sync_slice = record { answers = sym (rw short); writes = rw short refl }

    pub cancel_slice : CancelPacked k slice (Err N.Short) slice
    unfolding held_packed
    cancel_slice = record { answers = sym (rw short); writes = rw short refl }

  module _ (held : too_short slice (block_length k) ≡ false) where
    pub check_done : check_packed k slice ≡ done (remainder row)
    unfolding check_packed
    check_done = rw held

    pub service_done : service_packed k slice ≡ done (verdict row)
    unfolding service_packed
    service_done = rw held

    pub held_done : held_packed k slice ≡ done tt
    unfolding held_packed
    held_done = rw held

    pub sync_done : (slice' : List ℕ) → slice' ≡ overwritten (block_bytes k) (sync_block k) slice → SyncPacked k slice (Ok tt) slice'
    sync_done slice' w = record { answers = sym held_done; writes = rw held_done w }

    pub cancel_done : (slice' : List ℕ)
        → slice' ≡ bytes_of (length slice) (cancelled (take (block_length k) (bits_of slice)) ++ drop (block_length k) (bits_of slice))
        → CancelPacked k slice (Ok tt) slice'
    cancel_done slice' w = record { answers = sym held_done; writes = rw held_done w }

  -- reading without the data goes by the check's answer: it is refused alike
  pub service_refused : (n : ℕ) → check_packed k slice ≡ refused n → service_packed k slice ≡ refused n
  unfolding check_packed service_packed
  service_refused n = same_refusal (too_short slice (block_length k)) A.short (remainder row) (verdict row) n

  -- and otherwise the remainder is the row's, and there is a first byte
  pub service_checked : (r : ℕ) → check_packed k slice ≡ done r
      → (r ≡ remainder row) × (0 < length slice) × (service_packed k slice ≡ done (verdict row))
  unfolding check_packed service_packed
  service_checked r e =
      let q = passed_test (too_short slice (block_length k)) A.short (done (remainder row)) r e in
      let same : done (remainder row) ≡ done r = q.1 in
      (cc, omega (arith, ltb-false (8 * length slice) (block_length k) q.0), rw q.0)

-- ---- moving its data

module _ (m : ℕ) (slice payload : List ℕ) where
  move_refused : move_data m slice payload ≡ refused A.short → MoveData m slice payload (Err N.Short) payload
  move_refused e = record { answers = sym e; writes = rw e refl }

  pub move_slice : length slice ≤ m → MoveData m slice payload (Err N.Short) payload
  unfolding move_data
  move_slice h = move_refused (rw (lt-ltb (8 * length slice) (8 * m + 4) (omega arith)))

  module _ (held : m < length slice) where
    pub move_payload : length payload < m → MoveData m slice payload (Err N.Short) payload
    unfolding move_data
    move_payload g =
        move_refused (rw (le-ltb (8 * length slice) (8 * m + 4) (omega arith), lt-ltb (8 * length payload) (8 * m) (omega arith)))

    -- the bytes that the code writes are those of the data bits
    pub data_bytes : bytes_of m (drop 4 (bits_of slice)) ≡ bytes_of m (payload_of (8 * m) (bits_of slice))
    data_bytes = sym (bytes_of-take m (drop 4 (bits_of slice)) (omega (arith, length-drop 4 (bits_of slice), length-bits_of slice)))

    module _ (room : m ≤ length payload) where
      pub move_done : move_data m slice payload ≡ done tt
      unfolding move_data
      move_done = rw (le-ltb (8 * length slice) (8 * m + 4) (omega arith), le-ltb (8 * length payload) (8 * m) (omega arith))

      pub moved : (payload' : List ℕ) → payload' ≡ bytes_of m (drop 4 (bits_of slice)) ++ drop m payload
          → MoveData m slice payload (Ok tt) payload'
      moved payload' w =
          record { answers = sym move_done; writes = rw move_done (w ∙ ap (λ (l : List ℕ). l ++ drop m payload) data_bytes) }

-- ---- reading one

module _ (k : ℕ) (slice payload : List ℕ) where
  read_refused : (n : Refusal) → read_packed k slice payload ≡ refused (refusal_number n) → ReadPacked k slice payload (Err n) payload
  read_refused n e = record { answers = sym e; writes = rw e refl }

  pub read_slice : 8 * length slice < block_length k → ReadPacked k slice payload (Err N.Short) payload
  unfolding read_packed
  read_slice h = read_refused N.Short (rw (lt-ltb (8 * length slice) (block_length k) h))

  pub read_payload : 8 * length payload < k → ReadPacked k slice payload (Err N.Short) payload
  unfolding read_packed
  read_payload h = read_refused N.Short (rw (lt-ltb (8 * length payload) k h, or_yes (too_short slice (block_length k))))

  module _ (held : block_length k ≤ 8 * length slice) (room : k ≤ 8 * length payload) where
    pub read_done : read_packed k slice payload ≡ done (verdict (row k slice))
    unfolding read_packed
    read_done = rw (le-ltb (8 * length slice) (block_length k) held, le-ltb (8 * length payload) k room)

    module _ (v : Read) (p : verdict_of v ≡ verdict (row k slice)) where
      read_writes : (payload' : List ℕ) → payload' ≡ read_bytes k slice payload (done (verdict_of v)) → ReadPacked k slice payload (Ok v) payload'
      read_writes payload' w =
          let e : done (verdict_of v) ≡ read_packed k slice payload = ap done p ∙ sym read_done in
          record { answers = e; writes = w ∙ ap (read_bytes k slice payload) e }

      -- a block that does not pass leaves the data as they were
      pub read_kept : OneOf (1 ∷ []) (tag_of the_type v) → ReadPacked k slice payload (Ok v) payload
      read_kept t = read_writes payload (kept v t)
        where
          kept : (a : Read) → OneOf (1 ∷ []) (tag_of the_type a) → payload ≡ read_bytes k slice payload (done (verdict_of a))
          kept (R.Passed s) t = absurd (omega arith)
          kept (R.Failed r) t = refl

      -- one that passes has its data moved
      pub read-moved : OneOf (0 ∷ []) (tag_of the_type v) → (payload' : List ℕ)
          → payload' ≡ overwritten (payload_bytes k) (payload_of k (bits_of slice)) payload → ReadPacked k slice payload (Ok v) payload'
      read-moved t payload' w = read_writes payload' (w ∙ moved_by v t)
        where
          moved_by : (a : Read) → OneOf (0 ∷ []) (tag_of the_type a)
              → overwritten (payload_bytes k) (payload_of k (bits_of slice)) payload ≡ read_bytes k slice payload (done (verdict_of a))
          moved_by (R.Passed s) t = refl
          moved_by (R.Failed r) t = absurd (omega arith)
