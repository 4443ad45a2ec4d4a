-- How many blocks a sender sends at most: a number that starts at that bound, and that each block sent lowers. Assumes nothing.
use mathlib.Core.Path.{◌≡◌, refl, sym, ap, ◌∙◌}
use mathlib.Core.Bool.{Bool, true, false, cond, ◌||◌}
use mathlib.Core.List.{List}
use Prim.Native.Nat.{ℕ, min, ◌+◌, ◌-◌, ◌*◌, ◌≤◌, ◌<◌}
use native.Mathlib.Omega.{arith}
use borrow.Author.Tests.{eqb-false, leb-true, leb-false}
use lib.Dec.{eqb, leb}
use Rattle.std.specs.Prelude.{Result, Ok, Err}
use Rattle.block.specs.Answer.{done}
use Rattle.block.proofs.Truth.{cond_case}
use Rattle.line.specs.Marks.{marks_of}
use Rattle.line.specs.Order.{item_count}
use Rattle.line.specs.Sending.{fresh_sender, Block, transmit, sender_items, at_last, sync_run, last_run, send, send_state, sent_answer}
use Rattle.line.specs.SendCalls.{SendCalls, none, call}
use Rattle.line.specs.MostBlocks.{blocks_of, sent_blocks, first_pair, later_pair, MostBlocks}
use Rattle.line.specs.declared.marks.Marks.{Marks}
use Rattle.line.specs.declared.sender.Sender.{Sender}
use Rattle.line.specs.declared.sender.Next.{Next}
use Rattle.line.specs.declared.sender.Next.TheVariants.{Sync, Older, Newer}
use Rattle.line.specs.declared.sender.Sent.{Sent}
use Rattle.line.specs.declared.Refusal.{Refusal}
use Rattle.line.proofs.SenderRange.{in_range, sendable, opened}

-- the blocks of a pair up to its newer item
abbrev before_newer : Next → ℕ
before_newer Sync = 2
before_newer Older = 1
before_newer Newer = 0

-- the blocks of a pair up to a run of 64: three for each cancel, but two before the fourth once opening is over
abbrev pair_left : Bool → ℕ → Next → ℕ
pair_left true run next = before_newer next + 190 - 3 * run
pair_left false run next = min (before_newer next + 187 - 2 * run) (before_newer next + 190 - 3 * run)

-- the pair's, and those of the pairs after it
abbrev left : ℕ → ℕ → Bool → ℕ → Next → Bool → ℕ
left items newer opening run next finished = cond finished 0 (later_pair * (items + 1 - newer) + pair_left opening run next)

-- how many blocks a sender sends at most from a state on
unfoldable pub blocks_left : Sender → ℕ
blocks_left s = left (sender_items s) s.newer s.opening s.run s.next s.finished

pub fresh_left : (k L : ℕ) (m : Marks) → blocks_left (fresh_sender k L m) ≡ first_pair + later_pair * item_count k L
unfolding blocks_left fresh_sender
fresh_left k L m = omega arith

-- ---- each block sent lowers it

-- within a pair
next_lowers : (opening : Bool) (run : ℕ) (before after : Next) → run < last_run → before_newer after < before_newer before
    → pair_left opening run after < pair_left opening run before
next_lowers true run before after going h = omega arith
next_lowers false run before after going h = omega arith

-- by a cancel
cancel_lowers : (opening : Bool) (run : ℕ) → run < last_run
    → pair_left opening (run + 1) (cond (opening || leb sync_run (run + 1)) Sync Older) < pair_left opening run Newer
cancel_lowers true run going = omega arith
cancel_lowers false run going =
    cond_case (λ (n : Next). pair_left false (run + 1) n < pair_left false run Newer) (leb sync_run (run + 1))
    (λ e. omega (arith, leb-true sync_run (run + 1) e)) (λ e. omega (arith, leb-false sync_run (run + 1) e))

-- by a confirmation, the order's last one or not
confirmed_lowers : (items newer : ℕ) (opening : Bool) (run : ℕ) (last : Bool) → eqb newer (items + 1) ≡ last → newer ≤ items + 1 → run < last_run
    → left items (cond last newer (newer + 1)) false 0 Newer last < left items newer opening run Newer false
confirmed_lowers items newer true run true e h going = omega arith
confirmed_lowers items newer false run true e h going = omega arith
confirmed_lowers items newer true run false e h going = omega (arith, eqb-false newer (items + 1) e)
confirmed_lowers items newer false run false e h going = omega (arith, eqb-false newer (items + 1) e)

transmit_lowers : (s : Sender) (next : Next) (reading : Bool) → s.finished ≡ false → s.newer ≤ sender_items s + 1 → s.run < last_run
    → blocks_left (transmit s next reading).state < left (sender_items s) s.newer s.opening s.run next s.finished
unfolding blocks_left transmit
transmit_lowers s Sync reading u h going = rw u (omega (arith, next_lowers s.opening s.run Sync Older going (omega arith)))
transmit_lowers s Older reading u h going = rw u (omega (arith, next_lowers s.opening s.run Older Newer going (omega arith)))
transmit_lowers s Newer false u h going = rw u (confirmed_lowers (sender_items s) s.newer s.opening s.run (at_last s) refl h going)
transmit_lowers s Newer true u h going = rw u (omega (arith, cancel_lowers s.opening s.run going))

pub send_lowers : (s : Sender) (order : List ℕ) (reading : Bool) (slice : List ℕ) (b : Block) → send s order reading slice ≡ done b
    → blocks_left (send_state s reading (done b)) < blocks_left s
unfolding blocks_left
send_lowers s order reading slice b e =
    let g = sendable s order reading slice b e in
    let r = in_range s g.range in
    let going : s.run < last_run = omega (arith, g.going_on, r.cancels) in
    transmit_lowers s s.next reading g.unfinished r.last going

-- ---- any calls

-- a call that is refused sends no block and leaves the state
call_left : (s : Sender) (order : List ℕ) (reading : Bool) (slice : List ℕ) (sent : Result Sent Refusal) → sent_answer sent ≡ send s order reading slice
    → blocks_of sent + blocks_left (send_state s reading (sent_answer sent)) ≤ blocks_left s
call_left s order reading slice (Ok x) e = omega (arith, send_lowers s order reading slice _ (sym e))
call_left s order reading slice (Err r) e = omega arith

pub calls_left : {s t : Sender} (calls : SendCalls s t) → sent_blocks calls + blocks_left t ≤ blocks_left s
unfolding sent_blocks
calls_left none = omega arith
calls_left {s} (call order reading slice result slice' p rest) =
    let l = call_left s order reading slice result.answer p.answers in
    let e : result.state ≡ send_state s reading (sent_answer result.answer) = p.state ∙ ap (send_state s reading) (sym p.answers) in
    omega (arith, calls_left rest, ap blocks_left e)

pub most_blocks : MostBlocks
unfolding MostBlocks
most_blocks k speed loop_ms L size order s t o calls =
    let fresh : s ≡ fresh_sender k L (marks_of size) = (opened k speed loop_ms L size order s (sym o.answers)).state in
    omega (arith, calls_left calls, ap blocks_left fresh, fresh_left k L (marks_of size))
