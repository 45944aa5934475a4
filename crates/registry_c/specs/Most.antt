-- The room that a report needs at most.
use Rattle.std.specs.Prelude.{ℕ, ◌-◌, ◌^◌, ◌<◌, ◌≤◌, List, length, min}
use Rattle.reg_text.specs.Most.{report_most}
use Rattle.registry_c.specs.Answers.{Tells}
use Rattle.registry_c.specs.declared.answer.Answer.{Answer}
use Rattle.registry_c.specs.declared.question.Question.TheVariants.{Report}

-- a length of room that is enough for the report of each day text of this length, or the largest length that there is
abbrev pub room_most : ℕ → ℕ
room_most day_length = min (report_most day_length) (2 ^ 64 - 1)

-- law: whoever settles with so much room has room for the whole report. The memory of a room is below 2^63 bytes
abbrev pub EachReportHasRoom : Type 0
EachReportHasRoom = (bytes old new : List ℕ) (answer : Answer) → Tells Report bytes answer old new
    → room_most (length bytes) ≤ length old → length old < 2 ^ 63 → answer.length ≤ length old
