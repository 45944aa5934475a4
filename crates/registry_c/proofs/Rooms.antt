-- A room of as many bytes as a report has at most has room for the report.
use Rattle.std.proofs.Common.{ℕ, ◌<◌, ◌≤◌, ◌^◌, List, length, Result, Ok, Err, ap, arith}
use Rattle.reg_text.specs.Most.{NoReportIsLonger}
use Rattle.registry_c.specs.Answers.{IsDue, answer_of}
use Rattle.registry_c.specs.Most.{room_most}
use Rattle.registry_c.specs.declared.fault.Fault.{Fault}
use Rattle.registry_c.specs.declared.fault.Fault.TheVariants as fault
use Rattle.registry_c.specs.declared.question.Question.TheVariants.{Report}

pub has-room : NoReportIsLonger → (bytes old : List ℕ) (outcome : Result (List ℕ) Fault) → IsDue Report bytes outcome
    → room_most (length bytes) ≤ length old → length old < 2 ^ 63 → (answer_of outcome).length ≤ length old
has-room law bytes old (Ok text) due most small = omega (arith, law bytes due.0 due.1, ap length due.2, most, small)
has-room law bytes old (Err (fault.Row row cause)) due most small = omega arith
has-room law bytes old (Err fault.NoAccount) due most small = omega arith
has-room law bytes old (Err fault.NoDate) due most small = omega arith
has-room law bytes old (Err fault.NoMemory) due most small = omega arith
