-- `line_num::scan_all` meets its contract. Assumes nothing.
use Rattle.std.proofs.Common.{◌+◌, ap, ◌∙◌, arith, take, drop}
use Rattle.line_num_pairs.specs.Pairs.{pair}
use Rattle.line_num.specs.declared.Scan.{Scan}
use Rattle.line_num.specs.Scans.{scan_from}
use Rattle.line_num.proofs.ScanLaws.{scan_begun, scan_next, scan_done}
use Rattle.line_num.proofs.scan_all.Goals as goal

pub loop-i-init : goal.loop-i-init
loop-i-init c = ap (λ (f : Scan). scan_from f 0 (take c.args.used c.args.list.now)) c.scan_start-found.ensures ∙ scan_begun c.args.list.now c.args.used c.args.start c.args.end

pub loop-i-preserved : goal.loop-i-preserved
loop-i-preserved c =
    ap (λ (f : Scan). scan_from f (c.loop-i.i + 1) (drop (c.loop-i.i + 1) (take c.args.used c.args.list.now))) c.scanned-found.ensures
    ∙ scan_next c.args.list.now c.args.used c.loop-i.found c.loop-i.i (pair 0 0) (omega arith) ∙ c.loop-i.invariant

pub returns : goal.returns
returns c = scan_done c.args.list.now c.args.used c.loop-i.found c.loop-i.i (omega arith) ∙ c.loop-i.invariant
