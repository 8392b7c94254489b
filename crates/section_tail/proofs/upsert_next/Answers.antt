-- `section_tail::upsert_next` meets its contract: the row is never refused. Assumes nothing.
use Rattle.std.proofs.Common.{◌≡◌, ℕ, ◌+◌, arith, ap, refl}
use Rattle.table.specs.Store.{row}
use Rattle.table_item.proofs.CompareLaws.{inner_as}
use Rattle.section_tail.proofs.UpsertLaws.{adds-calls, never_refused, one_more, one-greater}
use Rattle.section_tail.proofs.upsert_next.Goals as goal

pub returns-then-n-i : goal.returns-then-n-i
returns-then-n-i c =
    let m = c.requires.main_delta in
    let i = c.requires.i_bound in
    let ρ = c.swap_blocks.ensures.rows in
    rw c.with_one_more.ensures
    (one-greater c.args.sizes m.0 m.1 i.0 i.1 c.get-row.ensures (c.is_greatest.ensures c.if-is_greatest.true)
    c.swap_blocks.ensures.store ρ.below (ρ.third _ _ (omega arith) (omega arith) (omega arith)) ρ.above)

pub returns-then-is_greatest : goal.returns-then-is_greatest
returns-then-is_greatest c =
    let m = c.requires.main_delta in
    let i = c.requires.i_bound in
    let e : c.args.sizes.main ≡ c.args.i = omega arith in
    rw c.with_one_more-then-is_greatest.ensures
    (one-greater c.args.sizes m.0 m.1 i.0 i.1 c.get-row.ensures (c.is_greatest.ensures c.if-is_greatest.true)
    m.0.main.store (λ k x y. refl) (ap (λ (k : ℕ). row c.args.words.now c.args.index (c.args.at + k)) e) (λ k x y. refl))

pub upsert-got-requires-clause-main_delta : goal.upsert-got-requires-clause-main_delta
upsert-got-requires-clause-main_delta c =
    (c.requires.main_delta.0, inner_as c.get-row.ensures c.requires.i_bound.1, adds-calls _ _ c.is_calls.ensures)

pub returns-in_default : goal.returns-in_default
returns-in_default c =
    let m = c.requires.main_delta in
    never_refused c.args.sizes m.0 m.1 c.requires.i_bound.0 c.get-row.ensures c.requires.row_fits c.is_calls.ensures c.upsert-got.ensures c.in_default.is

pub returns : goal.returns
returns c =
    let m = c.requires.main_delta in
    one_more c.args.sizes m.0 m.1 c.requires.i_bound.0 c.get-row.ensures c.requires.row_fits c.is_calls.ensures c.upsert-got.ensures c.in-Ok.is
