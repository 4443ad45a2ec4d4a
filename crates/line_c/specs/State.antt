-- The ends' states in bytes that the caller lends: the two layouts, little-endian and of any alignment. Assumes nothing.
use Rattle.std.specs.Prelude.{Result, Ok, Err, ◌≡◌, Bool, true, false, not, ◌&&◌, List, [], ◌∷◌, ◌++◌, ℕ, zero, suc, ◌+◌, ◌-◌, ◌*◌, ◌/◌, ◌%◌, ◌^◌, ◌<◌, eqb, leb, length, take, drop, get_or}
use Rattle.block.specs.Answer as A
use Rattle.block.specs.Answer.{Answer, refused, done, refuse_if}
use Rattle.line.specs.Refusals.{refusal_number}
use Rattle.line.specs.Receiving.{array_bytes}
use Rattle.line.specs.ReceivingInPlace.{with_array}
use Rattle.line.specs.declared.Refusal.{Refusal}
use Rattle.line.specs.declared.head.Head.{Head}
use Rattle.line.specs.declared.marks.Marks.{Marks}
use Rattle.line.specs.declared.sender.Sender.{Sender}
use Rattle.line.specs.declared.sender.Next.{Next}
use Rattle.line.specs.declared.sender.Next.TheVariants as N
use Rattle.line.specs.declared.receiver.Receiver.{Receiver}
use Rattle.line.specs.declared.receiving.Phase.{Phase}
use Rattle.line.specs.declared.receiving.Phase.TheVariants as P

-- ---- numbers, flags and enums

-- a number in four bytes, the lowest first: read at a place of the bytes, and its bytes
unfoldable pub word_at : List ℕ → ℕ → ℕ
word_at s at = get_or s at 0 + 256 * get_or s (at + 1) 0 + 65536 * get_or s (at + 2) 0 + 16777216 * get_or s (at + 3) 0

unfoldable pub word_bytes : ℕ → List ℕ
word_bytes n = n % 256 ∷ n / 256 % 256 ∷ n / 65536 % 256 ∷ n / 16777216 % 256 ∷ []

-- a truth value in a byte: 0 or 1
abbrev pub flag_at : List ℕ → ℕ → Bool
flag_at s at = eqb (get_or s at 0) 1

abbrev pub flag_byte : Bool → ℕ
flag_byte false = 0
flag_byte true = 1

-- what goes out next, and the receiver's phase, in a byte
abbrev pub next_of : ℕ → Next
next_of zero = N.Sync
next_of (suc zero) = N.Older
next_of (suc (suc n)) = N.Newer

abbrev pub next_byte : Next → ℕ
next_byte N.Sync = 0
next_byte N.Older = 1
next_byte N.Newer = 2

abbrev pub phase_of : ℕ → Phase
phase_of zero = P.Search
phase_of (suc zero) = P.InStep
phase_of (suc (suc zero)) = P.SequenceAlarm
phase_of (suc (suc (suc n))) = P.LengthAlarm

abbrev pub phase_byte : Phase → ℕ
phase_byte P.Search = 0
phase_byte P.InStep = 1
phase_byte P.SequenceAlarm = 2
phase_byte P.LengthAlarm = 3

-- ---- what the two layouts share: first the head, three numbers of four bytes and four bytes; last the marks, two bytes

abbrev pub head_size : ℕ
head_size = 16

unfoldable pub head_bytes : ℕ → ℕ → ℕ → ℕ → ℕ → ℕ → ℕ → List ℕ
head_bytes x y z d a b c = word_bytes x ++ (word_bytes y ++ (word_bytes z ++ (d ∷ a ∷ b ∷ c ∷ [])))

abbrev pub marks_size : ℕ
marks_size = 2

-- whether marks are in use, and the code size, a byte each
unfoldable pub marks_in : List ℕ → ℕ → Marks
marks_in s at = record { in_use = flag_at s at; size = get_or s (at + 1) 0 }

unfoldable pub marks_bytes : Marks → List ℕ
marks_bytes m = flag_byte m.in_use ∷ m.size ∷ []

-- the bytes are enough; those at 13, 14 and 15, flags or an enum, are at most these, and the marks' flag at most 1
unfoldable pub holds : ℕ → ℕ → ℕ → ℕ → List ℕ → Bool
holds size a b c s =
    leb size (length s) && leb (get_or s 13 0) a && leb (get_or s 14 0) b && leb (get_or s 15 0) c
    && leb (get_or s (size - marks_size) 0) 1

-- ---- the sender: k, length, newer, four bytes each; run, opening, next, finished, a byte each; then the marks

abbrev pub sender_size : ℕ
sender_size = head_size + marks_size

abbrev pub holds_sender : List ℕ → Bool
holds_sender s = holds sender_size 1 2 1 s

unfoldable pub sender_in : List ℕ → Sender
sender_in s =
    record {
      setup = record { k = word_at s 0; length = word_at s 4; marks = marks_in s head_size };
      newer = word_at s 8;
      run = get_or s 12 0;
      opening = flag_at s 13;
      next = next_of (get_or s 14 0);
      finished = flag_at s 15;
    }

-- bytes that hold no sender are refused as spoiled
unfoldable pub sender_of : List ℕ → Answer Sender
sender_of s = refuse_if (not (holds_sender s)) A.spoiled (done (sender_in s))

abbrev pub sender_head : Sender → List ℕ
sender_head s =
    head_bytes s.setup.k s.setup.length s.newer (s.run % 256) (flag_byte s.opening) (next_byte s.next)
    (flag_byte s.finished)

unfoldable pub sender_bytes : Sender → List ℕ
sender_bytes s = sender_head s ++ marks_bytes s.setup.marks

-- the fields that the layout can hold
pub record SenderFits (s : Sender) : Type 0 where
  pub k : s.setup.k < 2 ^ 32
  pub length : s.setup.length < 2 ^ 32
  pub newer : s.newer < 2 ^ 32
  pub run : s.run < 256

-- ---- the receiver: k, held, taken, four bytes each; row, back, ended, phase, a byte each; then the array and the marks

abbrev pub array_end : ℕ
array_end = head_size + array_bytes

abbrev pub receiver_size : ℕ
receiver_size = array_end + marks_size

abbrev pub holds_receiver : List ℕ → Bool
holds_receiver s = holds receiver_size 1 1 3 s

unfoldable pub receiver_in : List ℕ → Receiver
receiver_in s =
    record {
      setup = record { k = word_at s 0; marks = marks_in s array_end };
      bits = take array_bytes (drop head_size s);
      held = word_at s 4;
      bad_row = get_or s 12 0;
      back = flag_at s 13;
      taken = word_at s 8;
      ended = flag_at s 14;
      phase = phase_of (get_or s 15 0);
    }

-- bytes that hold no receiver are refused as spoiled
unfoldable pub receiver_of : List ℕ → Answer Receiver
receiver_of s = refuse_if (not (holds_receiver s)) A.spoiled (done (receiver_in s))

-- a head that the bytes hold, with their array
abbrev pub head_answer : List ℕ → Result Head Refusal → Answer Receiver
head_answer s (Ok h) = done (with_array h (take array_bytes (drop head_size s)))
head_answer s (Err r) = refused (refusal_number r)

abbrev pub receiver_head : Receiver → List ℕ
receiver_head s =
    head_bytes s.setup.k s.held s.taken (s.bad_row % 256) (flag_byte s.back) (flag_byte s.ended)
    (phase_byte s.phase)

unfoldable pub receiver_bytes : Receiver → List ℕ
receiver_bytes s = receiver_head s ++ (s.bits ++ marks_bytes s.setup.marks)

pub record ReceiverFits (s : Receiver) : Type 0 where
  pub k : s.setup.k < 2 ^ 32
  pub held : s.held < 2 ^ 32
  pub taken : s.taken < 2 ^ 32
  pub bad_row : s.bad_row < 256
  pub bits : length s.bits ≡ array_bytes
