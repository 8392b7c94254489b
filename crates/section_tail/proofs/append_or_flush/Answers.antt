-- `section_tail::append_or_flush` meets its contract: one law for each way out. Assumes nothing.
use Rattle.std.proofs.Common.{◌∙◌, arith, sym, ap, rules}
use Rattle.table_item.specs.Combining.{seen_one}
use Rattle.table_item.proofs.CompareLaws.{inner_as}
use Rattle.section_tail.proofs.ItemLaws.{last_inner}
use Rattle.section_tail.proofs.UpsertLaws.{adds-calls}
use Rattle.section_tail.proofs.AddLaws.{sizes_as, included_last-row, included_next, inner_made}
use Rattle.section_tail.proofs.append_or_flush.Goals as goal

pub joins-requires : goal.joins-requires
joins-requires c =
    let s = c.requires.open_section in
    (inner_as c.get-last.ensures (last_inner _ s.0 s.1 (omega (arith, s.1))), s.2)

pub combine-requires : goal.combine-requires
combine-requires c = adds-calls _ _ (λ text. sym (c.requires.open_section.3.adding text))

pub returns-in-Some : goal.returns-in-Some
returns-in-Some c =
    let s = c.requires.open_section in
    let j = c.joins.ensures (search rules) in
    sizes_as c.with_tail.ensures
    (included_last-row c.args.row c.args.accumulate s.0 s.3 (c.calls_fit.ensures c.if-calls_fit.true) c.requires.used_bound.0 s.2 c.put.ensures.store
    c.put.ensures.spare (omega (arith, s.1)) s.1 c.get-last.ensures j.0 j.1
    (ap (seen_one _) (sym c.in-Some.is) ∙ c.combine.ensures.item _) (inner_made c.in-Some.is (c.combine.ensures.inner _)) c.put.ensures.rows)

pub returns-then-not-flushes_first : goal.returns-then-not-flushes_first
returns-then-not-flushes_first c =
    let s = c.requires.open_section in
    let p = c.put-then-not-flushes_first.ensures in
    sizes_as c.with_tail-then-not-flushes_first.ensures
    (included_next c.args.row c.args.accumulate s.0 s.3 (c.calls_fit.ensures c.if-calls_fit.true) c.requires.used_bound.0 s.2 p.store p.spare
    (omega arith) (s.0.alone s.1) (omega arith) p.rows)
