-- `section_tail::flush_all` meets its contract: the tail is flushed, and then the delta is merged. Assumes nothing.
use native.Mathlib.Omega.{arith}
use Rattle.section_upsert.proofs.MergeLaws.{parts-rising, main_now}
use Rattle.section_tail.proofs.UpsertLaws.{in_order}
use borrow.Author.Rules.{rules}
use Rattle.section_tail.proofs.flush_all.Statement.{statement}
use Rattle.section_tail.proofs.flush_all.Tie as tie

abbrev emptied : tie.After-interleave-arg-1 → tie.After-flush_tail-all
emptied a = a.before.before.before

abbrev start : tie.After-flush_tail-all → tie.Start
start y = y.before.before.before.before

pub flush_all_spec : {M : Type 1} → statement M
flush_all_spec =
    tie.close
    (tie.spec
    (λ c κs. search rules)
    (λ c κs. let y = emptied c in
    let s = start y in
    let π = y.flush_tail-all.ensures.still.parts in (
      (π.main.store, π.delta.room),
      (s.requires.1, omega (arith, π.delta.room, s.requires.2, y.flush_tail-all.auto.words), parts-rising π _ (omega arith)),
    ))
    (λ c. let y = emptied c.before.before.before in omega (arith, y.flush_tail-all.ensures.still.parts.delta.room))
    (λ c. search rules)
    (λ c. let y = emptied c.before.before.before in
    in_order y.flush_tail-all.ensures (main_now y.flush_tail-all.ensures.still.parts c.before.before.interleave.ensures.0 c.before.before.interleave.ensures.1)))
