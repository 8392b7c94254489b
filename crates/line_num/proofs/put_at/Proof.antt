-- `line_num::put_at` meets its contract. Assumes nothing.
use borrow.Author.Rules.{rules}
use Rattle.line_num.proofs.StepLaws.{put_past, put_stays, put_joined, put_last, put_zero}
use Rattle.line_num.proofs.put_at.Statement.{statement}
use Rattle.line_num.proofs.put_at.Tie as tie

pub put_at_spec : {M : Type 1} → statement M
put_at_spec =
    tie.close
    (tie.spec
    (λ c κs. search rules)
    (λ c κs. search rules)
    (λ c. search (put_past, rules))
    (λ c κs. search rules)
    (λ c κs. search rules)
    (λ c. search (put_stays, rules))
    (λ c. search (put_joined, rules))
    (λ c. search (put_last, rules))
    (λ c. search (put_zero, rules)))
