-- `section_commit::with_known_test` meets its contract. Assumes nothing.
use Rattle.std.proofs.Common.{arith, refl, ◌∙◌, sym}
use Rattle.ordmap.proofs.Orderings.{is_eq}
use Rattle.model.specs.Bytes.{compare_bytes}
use Rattle.model.proofs.KeyOrder.{bytes-order}
use Rattle.compare.proofs.OrderLaws.{tells_equal}
use Rattle.table_section.specs.Sections.{test_of}
use Rattle.table_section.proofs.RangeLaws.{named_as}
use Rattle.section_commit.proofs.with_known_test.Goals as goal

pub compare_parts-tests-requires : goal.compare_parts-tests-requires
compare_parts-tests-requires c =
    let named = named_as c.get-first.ensures (c.requires.0.main.rows.whole 0 (omega arith)).named in
    (named.test, c.requires.1.test)

pub returns-then-is_eq : goal.returns-then-is_eq
returns-then-is_eq c =
    let named = named_as c.get-first.ensures (c.requires.0.main.rows.whole 0 (omega arith)).named in
    let equal = sym (tells_equal _ c.compare_parts-tests.ensures c.is_eq.ensures) ∙ c.if-is_eq.true in
    let text = c.args.text.now in
    record {
      named = record { test = named.test; path = c.requires.1.path };
      test = bytes-order.equal (is_eq (compare_bytes (test_of text c.get-first.result) (test_of text c.args.key)) equal);
      path = refl;
      tag = refl;
    }
