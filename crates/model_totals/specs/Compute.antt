-- One name that opens every definition here: a proof by computation says `unfolding open_all open_totals`. Assumes nothing.
use Rattle.model_totals.specs.Totals.{ratio_of, totals_of, sum_totals, share, print_ratio, columns, section_line, section_totals, last_totals, page, totals, totals_program}

unfoldable pub open_totals : {A : Type 0} → A → A
unfolding ratio_of totals_of sum_totals share print_ratio columns section_line section_totals last_totals page totals totals_program
open_totals a = a
