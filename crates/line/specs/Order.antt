-- The order as items: docs/PROTOCOL.md, section of this name. Assumes nothing.
use Rattle.std.specs.Prelude.{Bool, cond, ◌&&◌, ◌||◌, List, ◌++◌, ℕ, zero, suc, ◌+◌, ◌-◌, ◌*◌, ◌/◌, ◌%◌, eqb, leb, ltb, take, drop}
use Rattle.crc.specs.Bits.{Bits, binary, bits_of, zeros}
use Rattle.block.specs.Block.{block_bits}
use Rattle.line.specs.Marks.{mark}
use Rattle.line.specs.declared.marks.Marks.{Marks}

-- the longest order in bits
abbrev pub longest_order : ℕ
longest_order = 262144

-- the most data items that an order makes: those of the longest at the shortest k
abbrev pub most_items : ℕ
most_items = (longest_order + 240 - 1) / 240

-- a length that an order may have
unfoldable pub valid_length : ℕ → Bool
valid_length L = leb 1 L && leb L longest_order

-- N, the number of data items: L divided by k, rounded up
unfoldable pub item_count : ℕ → ℕ → ℕ
item_count k L = (L + k - 1) / k

-- ---- service bits

abbrev pub letter_a : ℕ
letter_a = 0b0011

abbrev pub letter_b : ℕ
letter_b = 0b1001

abbrev pub letter_c : ℕ
letter_c = 0b1100

abbrev pub end_service : ℕ
end_service = 0b1000

abbrev pub third : ℕ → ℕ
third zero = letter_a
third (suc zero) = letter_b
third (suc (suc n)) = letter_c

-- the letter of item i: A, B or C as i leaves 0, 1 or 2 when divided by 3
unfoldable pub letter : ℕ → ℕ
letter i = third (i % 3)

unfoldable pub is_letter : ℕ → Bool
is_letter service = eqb service letter_a || eqb service letter_b || eqb service letter_c

-- with marks: item 0 carries the mark of the code size, item i + 1 the letter of i
abbrev pub marked : ℕ → ℕ → ℕ
marked size zero = mark size
marked size (suc i) = letter i

-- the service bits of data item i
unfoldable pub data_service : Marks → ℕ → ℕ
data_service m i = cond m.in_use (marked m.size i) (letter i)

-- ---- items

-- the L bits of an order
abbrev pub order_bits : ℕ → List ℕ → Bits
order_bits L order = take L (bits_of order)

-- the order with its last item filled with zero bits
unfoldable pub filled : ℕ → ℕ → Bits → Bits
filled k L content = content ++ zeros (item_count k L * k - L)

-- an end block's data: one version byte, 1, then L in 32 bits, then zeros
abbrev pub version : ℕ
version = 1

unfoldable pub end_payload : ℕ → ℕ → Bits
end_payload k L = (binary 8 version ++ binary 32 L) ++ zeros (k - 40)

-- item i is a data item; items N and N + 1 are end blocks
abbrev pub is_data : ℕ → ℕ → ℕ → Bool
is_data k L i = ltb i (item_count k L)

unfoldable pub item_service : Marks → ℕ → ℕ → ℕ → ℕ
item_service m k L i = cond (is_data k L i) (data_service m i) end_service

unfoldable pub item_payload : ℕ → ℕ → Bits → ℕ → Bits
item_payload k L content i = cond (is_data k L i) (take k (drop (i * k) (filled k L content))) (end_payload k L)

unfoldable pub item_bits : Marks → ℕ → ℕ → Bits → ℕ → Bits
item_bits m k L content i = block_bits (binary 4 (item_service m k L i)) (item_payload k L content i)
