-- `Text::decimal`: the measure is the number.
use Rattle.session.proofs.text.Text.+decimal.Given as goal

abbrev pub decreases-decimal : goal.decreases-decimal
decreases-decimal l = l.n
