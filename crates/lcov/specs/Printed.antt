-- What is written of a report that a call made. Assumes nothing.
use Rattle.std.specs.Prelude.{ℕ}
use Rattle.model.specs.Bytes.{Bytes}
use Rattle.model.specs.Answer.{Answer, ◌>>=◌}
use Rattle.model.specs.Report.{Report}
use Rattle.model.specs.Output.{written}

-- what is printed of it, or why there is no report
abbrev pub printed_by : (Report → Bytes) → Answer Report → ℕ → Answer Bytes
printed_by print made room = made >>= λ report. written room (print report)
