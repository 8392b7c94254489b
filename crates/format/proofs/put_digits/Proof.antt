use Prim.Native.Nat.{◌^◌, ◌<◌}
use mathlib.Core.Path.{◌∙◌}
use native.Mathlib.Omega.{arith}
use native.Mathlib.Nat.{lt_of_lt_of_le}
use lib.Dec.{lit≤}
use borrow.Author.Rules.{rules}
use Rattle.format.proofs.PowerLaws.{begun_none, begun_again, begun_over, last-below, last-long, last-held}
use Rattle.format.proofs.put_digits.Statement.{statement}
use Rattle.format.proofs.put_digits.Tie as tie

small : (s : tie.Start) → s.args.v < 2 ^ 64
small s = s.ranges.v.fits

-- at most eight digits, in one run
abbrev low : tie.After-put_run-all → tie.Start
low o = o.before.before.before.before.before.before

-- more, in two
abbrev high : tie.After-put_run-high → tie.Start
high o = o.before.before.before.before.before.before

abbrev first : tie.After-put_run-all-2 → tie.After-put_run-high
first o = o.before.before.before.before

pub put_digits_spec : {M : Type 1} → statement M
put_digits_spec =
    tie.close
    (tie.spec
    (λ c. search rules)
    (λ c κs. (begun_none _ 8 _ c.before.if-v.true, omega arith, omega arith, omega arith, c.before.before.before.before.before.requires))
    (λ c κs. let s = low c.before.before.before in
    let b = c.before.before.before.put_run-all.ensures.0 in
    (omega (arith, last-long (small s) s.requires b, s.requires, c.before.before.before.put_run-all.auto.out), last-below (small s) s.requires b))
    (λ c. search rules)
    (λ c. let s = low c.before.before.before.before.before.before in
    let b = c.before.before.before.before.before.before.put_run-all.ensures.0 in
    (c.before.before.put_last.ensures.0 ∙ last-long (small s) s.requires b, c.before.before.put_last.ensures.1 ∙ last-held (small s) s.requires b))
    (λ c κs. (begun_none _ 20 _ (lt_of_lt_of_le (small c.before.before.before.before.before) (lit≤ tt)), omega arith, omega arith, omega arith, c.before.before.before.before.before.requires))
    (λ c κs. (begun_again c.before.before.before.put_run-high.ensures.0, omega arith, omega arith, omega arith, omega (arith, (high c.before.before.before).requires, c.before.before.before.put_run-high.auto.out)))
    (λ c κs. let o = first c.before.before.before in
    let s = high o in
    let b = begun_over o.put_run-high.ensures.0 c.before.before.before.put_run-all-2.ensures.0 c.before.before.before.put_run-all-2.ensures.1 in
    (omega (arith, last-long (small s) s.requires b, s.requires, o.put_run-high.auto.out, c.before.before.before.put_run-all-2.auto.out), last-below (small s) s.requires b))
    (λ c. search rules)
    (λ c. let o = first c.before.before.before.before.before.before in
    let s = high o in
    let b = begun_over o.put_run-high.ensures.0 c.before.before.before.before.before.before.put_run-all-2.ensures.0 c.before.before.before.before.before.before.put_run-all-2.ensures.1 in
    (c.before.before.put_last-2.ensures.0 ∙ last-long (small s) s.requires b, c.before.before.put_last-2.ensures.1 ∙ last-held (small s) s.requires b)))
