-- `lcov::filter` meets its contract. Assumes nothing.
use Rattle.std.proofs.Common.{◌≡◌, rules, Err, true, length, take, map, sym, ◌∙◌}
use Rattle.tag_table.specs.Tags.{tag_of}
use Rattle.lcov.proofs.CallLaws.{called, reading_ready, reading_refused, reading_printed, filter_means, filter_bad}
use Rattle.model.specs.Printing.{print_sections, sections}
use Rattle.model.specs.Filter.{filter_section}
use Rattle.line_num_pairs.specs.Pairs.{ranges_in}
use Rattle.model.specs.Ranges.{well_formed_ranges}
use Rattle.lcov.proofs.filter.Goals as goal

pub returns-then-not-is_well_formed : goal.returns-then-not-is_well_formed
returns-then-not-is_well_formed c =
    let a = c.args in
    called (filter_bad _ a.bound a.text.now (ranges_in a.pairs.now) a.used (length a.scratch.now) a.out.now _
    (sym c.is_well_formed.ensures ∙ c.if-not-is_well_formed.true) c.from.ensures)

pub returns-in_err-kept : goal.returns-in_err-kept
returns-in_err-kept c =
    let a = c.args in
    let well : well_formed_ranges (ranges_in a.pairs.now) a.used ≡ true = sym c.is_well_formed.ensures ∙ c.if-not-is_well_formed.false in
    let e : c.from_residual.result ≡ Err c.in_err-kept.field-0.0 = search rules in
    rw e (called (reading_refused _ _ _ _ c.entry_limit-limit.ensures _ _ _ c.read_lines.ensures
    (λ report. print_sections (tag_of a.tags) (map (filter_section a.bound (take a.used (ranges_in a.pairs.now))) (sections report))) a.out.now _
    (filter_means _ a.bound a.text.now (ranges_in a.pairs.now) a.used (length a.scratch.now) a.out.now well) _ c.in_err-kept.was))

pub print_filtered-requires-clause-table : goal.print_filtered-requires-clause-table
print_filtered-requires-clause-table c =
    let a = c.args in
    let well : well_formed_ranges (ranges_in a.pairs.now) a.used ≡ true = sym c.is_well_formed.ensures ∙ c.if-not-is_well_formed.false in
    let ready = reading_ready _ _ _ _ c.entry_limit-limit.ensures _ _ _ c.read_lines.ensures _ c.in_ok-kept.was (search rules) c.index_at-index.ensures _
    c.spare_at-spare.ensures in
    (ready.0.0, ready.0.1, well)

pub print_filtered-requires-clause-used_bound : goal.print_filtered-requires-clause-used_bound
print_filtered-requires-clause-used_bound c =
    (reading_ready _ _ _ _ c.entry_limit-limit.ensures _ _ _ c.read_lines.ensures _ c.in_ok-kept.was (search rules) c.index_at-index.ensures _ c.spare_at-spare.ensures).1

pub returns : goal.returns
returns c =
    let a = c.args in
    let well : well_formed_ranges (ranges_in a.pairs.now) a.used ≡ true = sym c.is_well_formed.ensures ∙ c.if-not-is_well_formed.false in
    called (reading_printed _ _ _ _ c.entry_limit-limit.ensures _ _ _ c.read_lines.ensures
    (λ report. print_sections (tag_of a.tags) (map (filter_section a.bound (take a.used (ranges_in a.pairs.now))) (sections report))) a.out.now _
    (filter_means _ a.bound a.text.now (ranges_in a.pairs.now) a.used (length a.scratch.now) a.out.now well) _ c.in_ok-kept.was _ _
    (c.print_filtered.ensures.value, c.print_filtered.ensures.out_after))
