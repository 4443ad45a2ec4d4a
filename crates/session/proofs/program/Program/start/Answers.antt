-- `Program::start` meets its contract. Assumes nothing.
use mathlib.Core.Path.{◌≡◌, refl, ap, ◌∙◌}
use mathlib.Core.Bool.{false}
use mathlib.Core.List.{List}
use Prim.Native.Nat.{ℕ}
use lib.ListN.{length, drop, replicate}
use lib.Seq.{take-append_seam}
use Rattle.session.specs.Buffer.{empty, held, Appends}
use Rattle.session.specs.Outcomes.{order_room, store_room}
use Rattle.session.specs.Program.{keeping, at_start, Output, output_room, first_turn}
use Rattle.session.specs.Session.{fresh}
use Rattle.session.specs.Text.{Text, room, holding, heading}
use Rattle.session.specs.declared.script.Session.{Session}
use Rattle.session.proofs.Outputs.{the_turn, made_of}
use Rattle.session.proofs.program.Program.start.Goals as goal

-- the heading put into the output, and a new session
begun : (s : Session) (text : Text) (bytes : List ℕ) (o₀ o : Output) → s ≡ fresh → text ≡ holding heading → bytes ≡ held text
    → o₀ ≡ empty output_room → Appends o₀ bytes o
    → the_turn (record { program = keeping s 0 (replicate order_room 0) (replicate store_room 0); output = o; over = false }) ≡ first_turn
unfolding fresh
begun s text bytes o₀ o e t b z a =
    let h : bytes ≡ heading = b ∙ ap held t ∙ take-append_seam heading (drop (length heading) (replicate room 0)) in
    made_of at_start _ heading o₀ o false z
    (ap (λ (x : Session). keeping x 0 (replicate order_room 0) (replicate store_room 0)) e) (rw h at a) (rw e refl)

pub returns : goal.returns
returns c = begun c.new.result c.heading_text.result c.as_slice.result.now c.new-output.result c.append.new.self c.new.ensures
    c.heading_text.ensures c.as_slice.ensures c.new-output.ensures c.append.ensures
