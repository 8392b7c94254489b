-- `table_section::compare_sections` meets its contract. Assumes nothing.
use Rattle.std.proofs.Common.{sym, ◌∙◌}
use Rattle.compare.proofs.OrderLaws.{tells_equal}
use Rattle.table_section.proofs.RangeLaws.{by-path, by_name}
use Rattle.table_section.proofs.compare_sections.Goals as goal

pub returns-then-is_eq : goal.returns-then-is_eq
returns-then-is_eq c =
    by-path _ _ _ _ _ (sym c.if-is_eq.true ∙ tells_equal _ c.compare_parts-tests.ensures c.is_eq.ensures) c.compare_path_parts.ensures

pub returns : goal.returns
returns c = by_name _ _ _ _ _ (sym c.if-is_eq.false ∙ tells_equal _ c.compare_parts-tests.ensures c.is_eq.ensures) c.compare_parts-tests.ensures
