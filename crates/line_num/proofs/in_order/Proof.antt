-- `line_num::in_order` meets its contract. Assumes nothing.
use borrow.Author.Rules.{rules}
use Rattle.line_num.proofs.ScanLaws.{order_ill, order-low, order_told}
use Rattle.line_num.proofs.in_order.Statement.{statement}
use Rattle.line_num.proofs.in_order.Tie as tie

pub in_order_spec : {M : Type 1} → statement M
in_order_spec =
    tie.close
    (tie.spec
    (λ c. search (order_ill, rules))
    (λ c. search rules)
    (λ c. search (order-low, rules))
    (λ c. search (order_told, rules)))
