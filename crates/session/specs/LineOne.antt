-- Line one of a session: k, L and the order in hexadecimal, read from the whole line; and the reader that takes one byte
-- at a time. Assumes nothing.
use Rattle.std.specs.Prelude.{Bool, true, false, cond, ◌&&◌, List, [], ◌∷◌, ℕ, ◌+◌, ◌-◌, ◌*◌, ◌%◌, min, eqb, leb, ltb, length, take, set, Option, Some, None, option_map}
use Rattle.std.specs.Option.{option_map_or}
use Rattle.session.specs.declared.line_one.LineOne.{LineOne}
use Rattle.session.specs.declared.line_one.Place.{Place}
use Rattle.session.specs.declared.line_one.Place.TheVariants as P

-- ---- characters

abbrev pub is_blank : ℕ → Bool
is_blank c = eqb c 32

-- the value of a decimal digit
unfoldable pub decimal_value : ℕ → Option ℕ
decimal_value c = cond (leb 48 c && leb c 57) (Some (c - 48)) None

-- the value of a hexadecimal digit, upper or lower case
unfoldable pub hex_value : ℕ → Option ℕ
hex_value c =
    cond (leb 48 c && leb c 57) (Some (c - 48))
    (cond (leb 65 c && leb c 70) (Some (c - 55)) (cond (leb 97 c && leb c 102) (Some (c - 87)) None))

-- ---- the line: what stands from a place on, or none if it cannot be read

-- nothing may follow
abbrev pub line_end : List ℕ → Option (List ℕ)
line_end [] = Some []
line_end (c ∷ cs) = None

abbrev mutual
  -- the order's bytes, two digits a byte; a blank may trail
  pub hex_bytes : List ℕ → Option (List ℕ)
  hex_bytes [] = Some []
  hex_bytes (c ∷ cs) = option_map_or (λ high. half_byte high cs) (hex_value c) (cond (is_blank c) (line_end cs) None)

  -- the first digit of a byte was read
  pub half_byte : ℕ → List ℕ → Option (List ℕ)
  half_byte high [] = None
  half_byte high (c ∷ cs) =
      option_map_or (λ low. option_map (λ bytes. (high * 16 + low) ∷ bytes) (hex_bytes cs)) (hex_value c) None

-- behind the blank after L: nothing, or the order
abbrev pub order_field : List ℕ → Option (List ℕ)
order_field [] = Some []
order_field (c ∷ cs) = option_map_or (λ high. half_byte high cs) (hex_value c) None

pub record Order : Type 0 where
  pub bits : ℕ
  pub bytes : List ℕ

-- L so far, by its value
abbrev pub length_field : ℕ → List ℕ → Option Order
length_field L [] = Some (record { bits = L; bytes = [] })
length_field L (c ∷ cs) =
    option_map_or (λ digit. length_field (L * 10 + digit) cs) (decimal_value c)
    (cond (is_blank c) (option_map (λ bytes. record { bits = L; bytes = bytes }) (order_field cs)) None)

abbrev pub length_start : List ℕ → Option Order
length_start [] = None
length_start (c ∷ cs) = option_map_or (λ digit. length_field digit cs) (decimal_value c) None

pub record Opening : Type 0 where
  pub k : ℕ
  pub order : Order

-- k so far, by its value
abbrev pub k_field : ℕ → List ℕ → Option Opening
k_field k [] = None
k_field k (c ∷ cs) =
    option_map_or (λ digit. k_field (k * 10 + digit) cs) (decimal_value c)
    (cond (is_blank c) (option_map (λ order. record { k = k; order = order }) (length_start cs)) None)

abbrev pub line_one : List ℕ → Option Opening
line_one [] = None
line_one (c ∷ cs) = option_map_or (λ digit. k_field digit cs) (decimal_value c) None

-- ---- what is kept of it in fixed memory: k and L up to a number above every bound on them, and as many bytes of the
-- order as there is room for

abbrev pub limit : ℕ
limit = 1000000

abbrev pub keep : ℕ → Option Opening → Option Opening
keep room None = None
keep room (Some o) =
    Some
    (record {
      k = min o.k limit;
      order = record { bits = min o.order.bits limit; bytes = take room o.order.bytes };
    })

-- ---- the reader: its state after one byte, with this room for the order, and the order's slice

abbrev pub moved : LineOne → Place → LineOne
moved s place = record { place = place; k = s.k; length = s.length; kept = s.kept }

abbrev pub grown : ℕ → ℕ → ℕ
grown n digit = min (n * 10 + digit) limit

abbrev pub with_k : LineOne → ℕ → LineOne
with_k s digit = record { place = P.KDigits; k = grown s.k digit; length = s.length; kept = s.kept }

abbrev pub with_length : LineOne → ℕ → LineOne
with_length s digit = record { place = P.LengthDigits; k = s.k; length = grown s.length digit; kept = s.kept }

-- a blank leads to a place; any other character cannot be read
abbrev pub blank_next : LineOne → ℕ → Place → LineOne
blank_next s c place = cond (is_blank c) (moved s place) (moved s P.Unreadable)

-- a digit of a number, or the first digit of a byte of the order; a blank leads to the place behind
abbrev pub k_next : LineOne → ℕ → Place → LineOne
k_next s c behind = option_map_or (with_k s) (decimal_value c) (blank_next s c behind)

abbrev pub length_next : LineOne → ℕ → Place → LineOne
length_next s c behind = option_map_or (with_length s) (decimal_value c) (blank_next s c behind)

abbrev pub hex_next : LineOne → ℕ → Place → LineOne
hex_next s c behind = option_map_or (λ high. moved s (P.Half high)) (hex_value c) (blank_next s c behind)

abbrev pub low_digit : LineOne → ℕ → LineOne
low_digit s room =
    record { place = P.Bytes; k = s.k; length = s.length; kept = cond (ltb s.kept room) (s.kept + 1) s.kept }

unfoldable pub next_at : LineOne → Place → ℕ → ℕ → LineOne
next_at s P.K c room = k_next s c P.Unreadable
next_at s P.KDigits c room = k_next s c P.Length
next_at s P.Length c room = length_next s c P.Unreadable
next_at s P.LengthDigits c room = length_next s c P.Order
next_at s P.Order c room = hex_next s c P.Unreadable
next_at s (P.Half high) c room = option_map_or (λ low. low_digit s room) (hex_value c) (moved s P.Unreadable)
next_at s P.Bytes c room = hex_next s c P.Trailed
next_at s P.Trailed c room = moved s P.Unreadable
next_at s P.Unreadable c room = moved s P.Unreadable

abbrev pub next : LineOne → ℕ → ℕ → LineOne
next s c room = next_at s s.place c room

abbrev pub kept : ℕ → ℕ → List ℕ → List ℕ
kept n byte order = cond (ltb n (length order)) (set order n byte) order

unfoldable pub next_order : LineOne → Place → ℕ → List ℕ → List ℕ
next_order s P.K c order = order
next_order s P.KDigits c order = order
next_order s P.Length c order = order
next_order s P.LengthDigits c order = order
next_order s P.Order c order = order
next_order s (P.Half high) c order = option_map_or (λ low. kept s.kept (high % 16 * 16 + low) order) (hex_value c) order
next_order s P.Bytes c order = order
next_order s P.Trailed c order = order
next_order s P.Unreadable c order = order

abbrev pub start : LineOne
start = record { place = P.K; k = 0; length = 0; kept = 0 }

-- whether the line can be read where it ends here
abbrev pub readable : Place → Bool
readable P.K = false
readable P.KDigits = false
readable P.Length = false
readable P.LengthDigits = true
readable P.Order = true
readable (P.Half high) = false
readable P.Bytes = true
readable P.Trailed = true
readable P.Unreadable = false

-- and what it said
abbrev pub said : LineOne → List ℕ → Option Opening
said s order =
    cond (readable s.place) (Some (record { k = s.k; order = record { bits = s.length; bytes = take s.kept order } }))
    None

-- the reader over the bytes of a line
unfoldable pub read_all : LineOne → List ℕ → List ℕ → Option Opening
read_all s [] order = said s order
read_all s (c ∷ cs) order = read_all (next s c (length order)) cs (next_order s s.place c order)
