-- `bit_at` reads a bit of a slice. Assumes nothing.
use mathlib.Core.Path.{sym, ◌∙◌}
use Prim.Native.Nat.{◌-◌, ◌/◌, ◌%◌, ◌^◌}
use lib.ListN.{get_or}
use Rattle.line.proofs.SearchWindow.{get_d_bits_of, masked_odd}
use Rattle.line.proofs.window.bit_at.Goals as goal

pub returns : goal.returns
returns c = let a = c.args in
    masked_odd (get_or a.s.now (a.i / 8) 0 / 2 ^ (7 - a.i % 8)) ∙ sym (get_d_bits_of a.s.now a.i c.requires)
