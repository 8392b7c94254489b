-- `line_num_pairs::query` meets its contract. Assumes nothing.
use borrow.Author.Rules.{rules}
use Rattle.model.proofs.CallLaws.{value_called}
use Rattle.line_num_pairs.proofs.CallLaws.{told_well, query_malformed, query_held}
use Rattle.line_num_pairs.proofs.query.Statement.{statement}
use Rattle.line_num_pairs.proofs.query.Tie as tie

pub query_spec : {M : Type 1} → statement M
query_spec =
    tie.close
    (tie.spec
    (λ c κs. search rules)
    (λ c κs. search rules)
    (λ c. search (value_called, query_malformed, rules))
    (λ c κs. search (told_well, rules))
    (λ c. search (value_called, query_held, rules)))
