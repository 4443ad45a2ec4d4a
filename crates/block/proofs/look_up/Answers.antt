-- `look_up`: the keys of its `match` are the table's numbers, and each answer is its number of bytes. Assumes nothing.
use mathlib.Core.Path.{refl}
use borrow.Author.Tests.{ne_eqb}
use Rattle.block.specs.Lengths.{is_length}
use Rattle.block.specs.Packed.{look_up}
use Rattle.block.proofs.look_up.Goals as goal

pub returns-in-240 : goal.returns-in-240
unfolding look_up is_length
returns-in-240 c = record { answers = rw c.in-240.is refl }

pub returns-in-480 : goal.returns-in-480
unfolding look_up is_length
returns-in-480 c = record { answers = rw c.in-480.is refl }

pub returns-in-960 : goal.returns-in-960
unfolding look_up is_length
returns-in-960 c = record { answers = rw c.in-960.is refl }

pub returns-in-3840 : goal.returns-in-3840
unfolding look_up is_length
returns-in-3840 c = record { answers = rw c.in-3840.is refl }

pub returns-in_default : goal.returns-in_default
unfolding look_up is_length
returns-in_default c = let k = c.args.k in
    let none = c.in_default.in_default-own.rest in
    record {
      answers = simp (ne_eqb k 240 none.0.0.0.1, ne_eqb k 480 none.0.0.1, ne_eqb k 960 none.0.1, ne_eqb k 3840 none.1);
    }
