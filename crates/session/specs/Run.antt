-- What the run program writes for an input: its heading, and the input's outcomes, each as a line of text. Assumes nothing.
use Rattle.std.specs.Prelude.{List, [], ◌∷◌, ◌++◌, ℕ, ◌+◌}
use Rattle.session.specs.Outcomes.{outcomes}
use Rattle.session.specs.Period.{Outcome}
use Rattle.session.specs.Text.{heading, outcome_text}

-- the periods are numbered, from n on
abbrev pub rendered : ℕ → List Outcome → List ℕ
rendered n [] = []
rendered n (o ∷ os) = outcome_text n o ++ rendered (n + 1) os

unfoldable pub run_text : List ℕ → List ℕ
run_text input = heading ++ rendered 0 (outcomes input)
