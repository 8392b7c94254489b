-- `line_num_pairs::put_joined` meets its contract. Assumes nothing.
use native.Mathlib.Omega.{arith}
use borrow.Author.Rules.{rules}
use Rattle.line_num_pairs.proofs.JoinLaws.{put_list}
use Rattle.line_num_pairs.proofs.put_joined.Statement.{statement}
use Rattle.line_num_pairs.proofs.put_joined.Tie as tie

pub put_joined_spec : {M : Type 1} → statement M
put_joined_spec =
    tie.close
    (tie.spec
    (λ c κs. search rules)
    (λ c κs. omega arith)
    (λ c. omega arith)
    (λ c. omega arith)
    (λ c. omega arith)
    (λ c κs. search rules)
    (λ c. search rules)
    (λ c. search (put_list, rules)))
