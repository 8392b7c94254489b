-- `line_num::scan_all`: the pass so far, over the ranges that are left, gives what the whole pass gives. Assumes nothing.
use Rattle.std.proofs.Common.{◌≡◌, take, drop}
use Rattle.line_num.specs.Scans.{scan_from, scan_of}
use Rattle.line_num.proofs.scan_all.Given as goal

abbrev pub invariant-loop-i : goal.invariant-loop-i
invariant-loop-i l = scan_from l.found l.i (drop l.i (take l.used l.list)) ≡ scan_of l.list l.used l.start l.end
