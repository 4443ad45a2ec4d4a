-- What a layer above takes from demand 3: with the end reported, the store begins with the order, and where the order is whole
-- bytes, with its bytes. Assumes nothing.
use Rattle.std.specs.Prelude.{◌≡◌, true, List, ℕ, ◌*◌, ◌<◌, take, get_or, Option}
use Rattle.crc.specs.Bits.{bits_of}
use Rattle.line.specs.Order.{order_bits}
use Rattle.line.specs.Course.{Call, opened, course, final}
use Rattle.line.specs.Delivery.{some, is_end, Assumptions, Openings}
use Rattle.line.specs.declared.sender.Sender.{Sender}
use Rattle.line.specs.declared.receiver.Opened as ReceiverOpened

-- a list of bytes: every number is below 256
abbrev pub Bytes : List ℕ → Type 0
Bytes s = (i : ℕ) → get_or s i 0 < 256

pub record StoresWhole (L : ℕ) (order initial_store store : List ℕ) : Type 0 where
  -- the store's first L bits are the order's
  pub bits : take L (bits_of store) ≡ take L (bits_of order)
  -- and so are its first bytes, if L is m bytes
  pub bytes : (m : ℕ) → L ≡ 8 * m → Bytes order → Bytes initial_store → take m store ≡ take m order

-- of every list of calls, from both openings on, that meets what demand 3 supposes and in which the machine reports the end
unfoldable pub WholeOrder : Type 0
WholeOrder =
    (k speed loop_ms L : ℕ) (sender_size receiver_size : Option ℕ) (order : List ℕ) (s : Sender) (o : ReceiverOpened.Opened)
    (initial_store : List ℕ) → Openings k speed loop_ms L sender_size receiver_size order s o initial_store
    → (calls : List Call)
    → Assumptions k (order_bits L order) (course (opened s o.state initial_store) calls)
    → some is_end (course (opened s o.state initial_store) calls) ≡ true
    → StoresWhole L order initial_store (final (opened s o.state initial_store) calls).store
