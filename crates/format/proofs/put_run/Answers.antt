use Rattle.std.proofs.Common.{ℕ, ◌≡◌, ◌-◌, ◌<◌, ◌≤◌, ◌^◌, get_or, arith, rules}
use Rattle.format.proofs.PowerLaws.{powers, power_at, run_at, run-few, run_none, run_digit}
use Rattle.format.proofs.put_run.Goals as goal

-- the entry of the table
power : (k to : ℕ) → to < k → k ≤ 20 → get_or powers (k - 1) 0 ≡ 10 ^ (k - 1)
power k to h upper = power_at (k - 1) (omega arith)

pub bounds-out-at : goal.bounds-out-at
bounds-out-at c =
    let l = c.loop-k in
    run_at _ _ _ _ _ _ _ _ c.ranges.v.fits l.invariant c.loop-k-test.true _ (power _ _ c.loop-k-test.true l.invariant.upper)

pub overflow_add-at : goal.overflow_add-at
overflow_add-at c =
    let l = c.loop-k in
    let few = run-few _ _ _ _ _ _ _ _ c.ranges.v.fits l.invariant c.loop-k-test.true _ (power _ _ c.loop-k-test.true l.invariant.upper) in
    record { fits = omega (arith, few) }

pub loop-k-preserved-then-power-v : goal.loop-k-preserved-then-power-v
loop-k-preserved-then-power-v c =
    let l = c.loop-k in
    run_digit _ _ _ _ _ _ _ _ c.ranges.v.fits l.invariant c.loop-k-test.true _ (power _ _ c.loop-k-test.true l.invariant.upper) _ (search rules) c.digit_of-next.ensures

pub loop-k-preserved : goal.loop-k-preserved
loop-k-preserved c =
    let l = c.loop-k in
    run_none _ _ _ _ _ _ _ _ c.ranges.v.fits l.invariant c.loop-k-test.true _ (power _ _ c.loop-k-test.true l.invariant.upper) (search rules)
