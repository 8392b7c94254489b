-- `section_tail::upsert_row` meets its contract. Assumes nothing.
use Rattle.std.proofs.Common.{◌≡◌, Err, sym, rules}
use Rattle.section_tail.proofs.UpsertLaws.{adds-calls}
use Rattle.section_tail.proofs.AddLaws.{exact_items, exact_refused, exact_as, calls_as}
use Rattle.section_tail.proofs.upsert_row.Goals as goal

pub upsert-requires-clause-main_delta : goal.upsert-requires-clause-main_delta
upsert-requires-clause-main_delta c =
    (c.requires.open_section.0.parts, c.requires.open_section.2, adds-calls _ _ (λ text. sym (c.requires.open_section.3.adding text)))

pub returns-in_err-parts : goal.returns-in_err-parts
returns-in_err-parts c =
    let s = c.requires.open_section in
    let e : c.from_residual.result ≡ Err c.in_err-parts.field-0.0 = search rules in
    rw e (exact_refused c.args.row c.args.accumulate s.0 s.3 s.1 (exact_as c.in_err-parts.was c.upsert.ensures))

pub returns : goal.returns
returns c =
    let s = c.requires.open_section in
    calls_as c.more_calls.ensures (exact_items c.args.row c.args.accumulate s.0 s.3 s.1 (exact_as c.in_ok-parts.was c.upsert.ensures))
