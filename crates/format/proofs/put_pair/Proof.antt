use borrow.Author.Rules.{rules}
use Rattle.format.proofs.PairLaws.{pair-first, pair_at_lem, pair-room, pair_fits, pair_len, pair-out}
use Rattle.format.proofs.put_pair.Statement.{statement}
use Rattle.format.proofs.put_pair.Tie as tie

pub put_pair_spec : {M : Type 1} → statement M
put_pair_spec =
    tie.close
    (tie.spec
    (λ c κs. search (pair-first, rules))
    (λ c. search (pair_at_lem, rules))
    (λ c. search (pair_at_lem, rules))
    (λ c. search rules)
    (λ c κs. search (pair-room, rules))
    (λ c. search (pair_fits, rules))
    (λ c. search rules)
    (λ c. search (pair_len, pair-out, rules)))
