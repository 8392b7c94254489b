-- `line_num_pairs::put_range` meets its contract. Assumes nothing.
use borrow.Author.Rules.{rules}
use Rattle.line_num_pairs.proofs.SpanLaws.{pair_placed}
use Rattle.line_num_pairs.proofs.put_range.Statement.{statement}
use Rattle.line_num_pairs.proofs.put_range.Tie as tie

pub put_range_spec : {M : Type 1} → statement M
put_range_spec =
    tie.close
    (tie.spec
    (λ c. search rules)
    (λ c. search rules)
    (λ c. search rules)
    (λ c. search (pair_placed, rules)))
