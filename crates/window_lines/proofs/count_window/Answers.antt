-- `window_lines::count_window` meets its contract. Assumes nothing.
use Rattle.std.proofs.Common.{◌≡◌, rules, Err}
use Rattle.bundle.proofs.BundleLaws.{well_sized, well_few}
use Rattle.joined_table.proofs.BundleLaws.{few-texts, texts-inside}
use Rattle.scratch_layout.proofs.LimitLaws.{limit_few}
use Rattle.window_lines.proofs.WindowLaws.{refused_window, held_window}
use Rattle.window_lines.proofs.count_window.Goals as goal

pub text_count-n-requires : goal.text_count-n-requires
text_count-n-requires c = search (well_sized, rules)

pub mark_window-requires : goal.mark_window-requires
mark_window-requires c = (search rules, search (few-texts, rules), search (few-texts, rules))

pub body_at-body-requires : goal.body_at-body-requires
body_at-body-requires c = (search (well_sized, rules), search (well_few, rules))

pub gather_marked-requires : goal.gather_marked-requires
gather_marked-requires c = record { texts_inside = search (texts-inside, rules) }

pub returns-in_err-entries : goal.returns-in_err-entries
returns-in_err-entries c =
    let e : c.from_residual.result ≡ Err c.in_err-entries.field-0.0 = search rules in
    rw e (refused_window _ _ _ _ _ _ _ c.body_at-body.ensures _ c.text_count-n.ensures c.mark_window.ensures _ _ c.gather_marked.ensures _ c.in_err-entries.was)

pub index_at-index-requires : goal.index_at-index-requires
index_at-index-requires c = search (limit_few, rules)

pub count_totals-totals-requires : goal.count_totals-totals-requires
count_totals-totals-requires c =
    let h = held_window _ _ _ _ _ _ _ c.body_at-body.ensures _ c.text_count-n.ensures c.mark_window.ensures _ _ c.gather_marked.ensures _ c.in_ok-entries.was c.gather_marked.auto.scratch _
    c.entry_limit-limit.ensures _ c.index_at-index.ensures in
    ((c.args.bundle.now, h.table), h.few)

pub returns : goal.returns
returns c =
    (held_window _ _ _ _ _ _ _ c.body_at-body.ensures _ c.text_count-n.ensures c.mark_window.ensures _ _ c.gather_marked.ensures _ c.in_ok-entries.was c.gather_marked.auto.scratch _
    c.entry_limit-limit.ensures _ c.index_at-index.ensures).line c.count_totals-totals.result c.count_totals-totals.ensures
