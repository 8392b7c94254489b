-- What the loop of `window_lines::mark_window` keeps. Assumes nothing.
use Rattle.bundle.specs.Marks.{MarkedAs}
use Rattle.text_choice.specs.Windows.{is_in_window}
use Rattle.window_lines.proofs.mark_window.Given as goal

abbrev pub invariant-loop-j : goal.invariant-loop-j
invariant-loop-j l = MarkedAs (is_in_window l.width l.i) l.j l.marks
