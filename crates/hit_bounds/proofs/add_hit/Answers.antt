-- `hit_bounds::add_hit` meets its contract. Assumes nothing.
use Rattle.std.proofs.Common.{arith}
use Rattle.hit_bounds.proofs.KeyLaws.{function-hit, branch-hit, line-hit}
use Rattle.hit_bounds.proofs.add_hit.Goals as goal

pub returns-then-kind-eq-FUNCTION : goal.returns-then-kind-eq-FUNCTION
returns-then-kind-eq-FUNCTION c = λ text. function-hit _ _ _ c.count_of.ensures (λ e. omega arith) text (omega arith)

pub returns-then-kind-eq-BRANCH : goal.returns-then-kind-eq-BRANCH
returns-then-kind-eq-BRANCH c = λ text. branch-hit _ _ _ c.count_of.ensures (λ e. omega arith) text (omega arith)

pub returns : goal.returns
returns c = λ text. line-hit _ _ _ c.count_of.ensures (λ e. omega arith) text (λ e. omega arith) (λ e. omega arith)
