-- `print_report::kind_end` meets its contract. Assumes nothing.
use Rattle.std.proofs.Common.{rules, arith, ◌≡◌, sym}
use Rattle.print_report.proofs.KindLaws.{running_start, running_next, running_other, running_end}
use Rattle.print_report.proofs.kind_end.Goals as goal

pub loop-at-init : goal.loop-at-init
loop-at-init c = search (running_start, rules)

pub loop-at-preserved : goal.loop-at-preserved
loop-at-preserved c = search (running_next, rules)

pub returns : goal.returns
returns c =
    let all : c.loop-at.at ≡ c.args.n = omega arith in
    rw (sym all) (search (running_end, rules))
