-- `line_num::query` meets its contract. Assumes nothing.
use Rattle.std.proofs.Common.{ap, ◌∙◌, length}
use Rattle.model.specs.Calls.{call_answer}
use Rattle.model.proofs.CallLaws.{value_called}
use Rattle.line_num.specs.declared.Scan.{Scan}
use Rattle.line_num.specs.Scans.{scan_answer}
use Rattle.line_num.proofs.ScanLaws.{query_told}
use Rattle.line_num.proofs.query.Goals as goal

pub returns : goal.returns
returns c =
    value_called _ c.query_answer.result
    (c.query_answer.ensures ∙ ap (λ (g : Scan). call_answer (scan_answer g c.args.used (length c.args.list.now))) c.scan_all-found.ensures
    ∙ ap call_answer (query_told c.args.list.now c.args.used c.args.s c.args.e))
