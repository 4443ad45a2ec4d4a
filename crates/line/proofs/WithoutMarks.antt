-- Without marks the definitions come down to those over the letters. Assumes nothing.
use mathlib.Core.Path.{refl}
use Rattle.line.specs.Marks.{marks_in_range}
use Rattle.line.specs.Order.{data_service}
use Rattle.line.specs.Receiving.{is_of, place, mark_rule, service_rule}
use Rattle.line.specs.WithoutMarks.{letter_place, letter_service_rule, WithoutMarks}

pub without_marks : WithoutMarks
unfolding marks_in_range data_service is_of place mark_rule service_rule letter_place letter_service_rule
without_marks =
    record { service_bits = λ m i e. rw e refl; rules = λ k r ended service payload. refl; no_size = λ m e. rw e refl }
