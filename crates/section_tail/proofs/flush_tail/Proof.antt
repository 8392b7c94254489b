-- `section_tail::flush_tail` meets its contract: rows that ascend are main, and others are upserted one by one. Assumes nothing.
use mathlib.Core.Logic.{◌≢◌}
use native.Mathlib.Omega.{arith}
use Rattle.section_presort.proofs.PresortLaws.{presorted_none}
use Rattle.section_presort.proofs.ComposeLaws.{presorted_rows, presorted_trans}
use Rattle.section_tail.proofs.UpsertLaws.{emptied_already, tail_inner, tail_rows, presorted_inner, presorted_fits, emptied}
use borrow.Author.Rules.{rules}
use Rattle.section_tail.proofs.flush_tail.Statement.{statement}
use Rattle.section_tail.proofs.flush_tail.Tie as tie

abbrev start : tie.After-sort_by_kind → tie.Start
start r = r.before.before.before.before.before.before.before.before.before.before

-- the tail is not empty, as `omega` sees it here
some : (r : tie.After-sort_by_kind) → (start r).args.sizes.tail ≢ 0
some r = omega arith

-- the words after the rows of each kind are sorted, too
abbrev kinds : tie.After-sort_within_kinds → tie.After-sort_by_kind
kinds v = v.before.before.before.before.before.before

pub flush_tail_spec : {M : Type 1} → statement M
flush_tail_spec =
    tie.close
    (tie.spec
    (λ c. emptied_already c.before.before.before.before.requires.0 (omega arith))
    (λ c. search rules)
    (λ c κs. let κ = c.before.before.before.before.before.before.before.before.before.requires.0 in
    let z = κ.alone (omega arith) in
    ((κ.parts.main, omega arith, omega (arith, κ.room), tail_inner κ (omega arith) (omega arith)), (c.before.before.before.before.before.before.before.before.before.requires.1, c.before.before.before.before.before.before.before.before.before.requires.2, presorted_fits κ (omega arith) (presorted_none _ _ κ.parts.main.store) (omega arith))))
    (λ c. search rules)
    (λ c. let κ = c.before.before.before.before.before.before.before.before.before.before.before.before.requires.0 in
    emptied κ (omega arith) (presorted_none _ _ κ.parts.main.store) (omega arith) c.before.before.upsert_all.ensures)
    (λ c κs. let κ = c.before.before.before.before.before.before.before.before.before.requires.0 in
    let z = κ.alone (omega arith) in
    (tail_rows κ (omega arith) (omega arith), omega arith, c.before.before.before.before.before.before.before.before.before.requires.1, omega (arith, c.before.before.before.before.before.before.before.before.before.requires.2, κ.room)))
    (λ c κs. let κ = (start c.before.before).requires.0 in
    let z = κ.alone (some c.before.before) in
    (c.before.before.sort_by_kind.ensures.store, omega (arith, κ.room), presorted_inner κ (some c.before.before) c.before.before.sort_by_kind.ensures (omega arith)))
    (λ c κs. let s = start c.before.before.before.before.before in
    let κ = s.requires.0 in
    let z = κ.alone (some c.before.before.before.before.before) in (
      (c.before.before.sorted_prefix_len-sorted.ensures.0, c.before.before.sorted_prefix_len-sorted.ensures.1, omega (arith, κ.room), presorted_inner κ (some c.before.before.before.before.before) c.before.before.before.before.before.sort_by_kind.ensures (omega arith)),
      (s.requires.1, omega (arith, s.requires.2, c.before.before.before.before.before.sort_by_kind.auto.words), presorted_fits κ (some c.before.before.before.before.before) c.before.before.before.before.before.sort_by_kind.ensures (omega arith)),
    ))
    (λ c. search rules)
    (λ c. emptied (start c.before.before.before.before.before.before.before.before).requires.0 (some c.before.before.before.before.before.before.before.before) c.before.before.before.before.before.before.before.before.sort_by_kind.ensures (omega arith) c.before.before.upsert_all-then-sorted-m.ensures)
    (λ c κs. let s = start c.before.before.before.before.before in
    let κ = s.requires.0 in
    let z = κ.alone (some c.before.before.before.before.before) in
    (presorted_rows (tail_rows κ (some c.before.before.before.before.before) (omega arith)) c.before.before.before.before.before.sort_by_kind.ensures, s.requires.1, omega (arith, s.requires.2, κ.room, c.before.before.before.before.before.sort_by_kind.auto.words)))
    (λ c κs. let r = kinds c.before.before in
    let κ = (start r).requires.0 in
    let z = κ.alone (some r) in
    let ρ = presorted_trans r.sort_by_kind.ensures c.before.before.sort_within_kinds.ensures in
    (ρ.store, omega (arith, κ.room), presorted_inner κ (some r) ρ (omega arith)))
    (λ c κs. let r = kinds c.before.before.before.before in
    let s = start r in
    let κ = s.requires.0 in
    let z = κ.alone (some r) in
    let ρ = presorted_trans r.sort_by_kind.ensures c.before.before.before.before.sort_within_kinds.ensures in (
      (c.before.sorted_prefix_len-n.ensures.0, c.before.sorted_prefix_len-n.ensures.1, omega (arith, κ.room), presorted_inner κ (some r) ρ (omega arith)),
      (s.requires.1, omega (arith, s.requires.2, r.sort_by_kind.auto.words, c.before.before.before.before.sort_within_kinds.auto.words), presorted_fits κ (some r) ρ (omega arith)),
    ))
    (λ c. search rules)
    (λ c. let r = kinds c.before.before.before.before.before.before.before in
    emptied (start r).requires.0 (some r) (presorted_trans r.sort_by_kind.ensures c.before.before.before.before.before.before.before.sort_within_kinds.ensures) (omega arith) c.before.before.upsert_all-2.ensures))
