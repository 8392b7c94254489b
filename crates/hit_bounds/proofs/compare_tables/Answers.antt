-- `hit_bounds::compare_tables` meets its contract. Assumes nothing.
use Rattle.std.proofs.Common.{sym, ◌∙◌, arith}
use Rattle.table_section.specs.Sections.{entry_at}
use Rattle.hit_bounds.proofs.ListLaws.{same_length, rise_kept}
use Rattle.hit_bounds.proofs.AnswerLaws.{other_keys, count_above, both_counted}
use Rattle.hit_bounds.proofs.compare_tables.Goals as goal

pub counts_rise-requires : goal.counts_rise-requires
counts_rise-requires c =
    let low = c.requires.0.sections in
    let high = c.requires.1.sections in
    let keys = sym c.keys_agree.ensures ∙ c.if-keys_agree.true in
    let same = same_length (entry_at c.args.least.now c.args.low.now c.args.index) (entry_at c.args.greatest.now c.args.high.now c.args.index) c.args.l.kept c.args.h.kept keys in
    (low.store, high.store, omega (arith, low.room), high.room)

pub returns-then-counts_rise : goal.returns-then-counts_rise
returns-then-counts_rise c =
    let keys = sym c.keys_agree.ensures ∙ c.if-keys_agree.true in
    let rise = c.counts_rise.ensures c.args.least.now c.args.greatest.now in
    both_counted _ _ keys (rise_kept _ _ _ _ keys _ _ rise c.if-counts_rise.true) _ _ (c.count_hits-least_hits.ensures c.args.least.now) (c.count_hits-greatest_hits.ensures c.args.greatest.now)

pub returns-then-keys_agree : goal.returns-then-keys_agree
returns-then-keys_agree c =
    let keys = sym c.keys_agree.ensures ∙ c.if-keys_agree.true in
    let rise = c.counts_rise.ensures c.args.least.now c.args.greatest.now in
    count_above _ _ keys (rise_kept _ _ _ _ keys _ _ rise c.if-counts_rise.false) _ c.from.ensures

pub returns : goal.returns
returns c =
    let keys = sym c.keys_agree.ensures ∙ c.if-keys_agree.false in
    other_keys _ _ keys _ c.from-2.ensures
