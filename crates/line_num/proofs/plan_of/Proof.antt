-- `line_num::plan_of` meets its contract. Assumes nothing.
use borrow.Author.Rules.{rules}
use Rattle.line_num.proofs.StepLaws.{plan_short, plan_ill, plan_dropped, plan_put, plan_full}
use Rattle.line_num.proofs.plan_of.Statement.{statement}
use Rattle.line_num.proofs.plan_of.Tie as tie

pub plan_of_spec : {M : Type 1} → statement M
plan_of_spec =
    tie.close
    (tie.spec
    (λ c κs. search rules)
    (λ c. search (plan_short, rules))
    (λ c κs. search rules)
    (λ c. search (plan_ill, rules))
    (λ c κs. search rules)
    (λ c. search (plan_dropped, rules))
    (λ c. search rules)
    (λ c. search rules)
    (λ c. search rules)
    (λ c κs. search rules)
    (λ c. search (plan_put, rules))
    (λ c κs. search rules)
    (λ c. search (plan_full, rules)))
