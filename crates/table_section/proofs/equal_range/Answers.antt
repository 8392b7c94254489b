-- `table_section::equal_range` meets its contract. Assumes nothing.
use Rattle.std.proofs.Common.{arith, sym, ◌∙◌}
use Rattle.compare.proofs.OrderLaws.{tells_less}
use Rattle.table_section.specs.Sections.{key_of, rows_from}
use Rattle.table_section.proofs.RangeLaws.{range_last, range-first, range_begun, range-found, range-new}
use Rattle.table_section.proofs.equal_range.Goals as goal

pub returns-then-is_past : goal.returns-then-is_past
returns-then-is_past c = range_last c.requires.0.rows (omega arith) cc

pub returns-then-is_lt : goal.returns-then-is_lt
returns-then-is_lt c =
    range-first c.requires.0 (omega arith) c.get-first.ensures (sym c.if-is_lt.true ∙ tells_less _ c.compare_sections-2.ensures c.is_lt.ensures)

pub upper_bound-hi-requires-clause-search_bounds : goal.upper_bound-hi-requires-clause-search_bounds
upper_bound-hi-requires-clause-search_bounds c =
    let here = c.has_key.ensures.same c.if-has_key.true in
    let a = c.args in
    range_begun a.text.now (rows_from a.words.now a.index a.at) (key_of a.text.now a.key) c.partition_point-lo.ensures here.0 here.1 c.get-same.ensures

pub returns-then-has_key : goal.returns-then-has_key
returns-then-has_key c =
    let here = c.has_key.ensures.same c.if-has_key.true in
    range-found _ _ _ c.partition_point-lo.ensures here.0 here.1 c.get-same.ensures c.upper_bound-hi.ensures

pub returns : goal.returns
returns c = range-new c.requires.0.rows c.partition_point-lo.ensures (c.has_key.ensures.other c.if-has_key.false)
