-- `line_num_pairs::insert` meets its contract. Assumes nothing.
use mathlib.Core.Bool.{not}
use mathlib.Core.Path.{ap}
use native.Mathlib.Omega.{arith}
use borrow.Author.Rules.{rules}
use Rattle.model.proofs.CallLaws.{insert_called}
use Rattle.line_num_pairs.proofs.CallLaws.{Meets, told_well, malformed_answer, malformed_slice, dropped_answer, dropped-slice, full_answer, full_slice, put_answer, put_slice}
use Rattle.line_num_pairs.proofs.insert.Statement.{statement}
use Rattle.line_num_pairs.proofs.insert.Tie as tie

-- where the walk starts, seen from the joined range
abbrev start : tie.After-join_from-joined → tie.Start
start c = c.before.before.before.before.before

meets : (c : tie.After-join_from-joined)
    → Meets (start c).args.pairs.now (start c).args.used (start c).args.start (start c).args.end c.before.ends_before-first.result c.join_from-joined.result.range c.join_from-joined.result.past
meets c =
    record {
      well = told_well _ _ _ c.before.before.before.before.is_well_formed.ensures (ap not c.before.before.before.if-not-is_well_formed.false);
      right = omega arith;
      cut = c.before.ends_before-first.ensures.1;
      joined = c.join_from-joined.ensures.1;
    }

pub insert_spec : {M : Type 1} → statement M
insert_spec =
    tie.close
    (tie.spec
    (λ c κs. search rules)
    (λ c κs. search rules)
    (λ c. search rules)
    (λ c. insert_called _ _ _ _ (search (malformed_answer, rules)) (search (malformed_slice, rules)))
    (λ c κs. search rules)
    (λ c. search rules)
    (λ c. insert_called _ _ _ _ (search (dropped_answer, told_well, rules)) (search (dropped-slice, told_well, rules)))
    (λ c κs. search (told_well, rules))
    (λ c κs. (omega arith, omega arith, search rules))
    (λ c. omega arith)
    (λ c. search rules)
    (λ c. omega arith)
    (λ c κs. search rules)
    (λ c. search rules)
    (λ c. let μ = meets c.before.before.before in insert_called _ _ _ _ (full_answer _ _ _ _ _ _ _ μ (omega arith) _ c.from-then-pairs-n.ensures) (full_slice _ _ _ _ _ _ _ μ (omega arith)))
    (λ c κs. omega arith)
    (λ c. search rules)
    (λ c. let μ = meets c.before.before.before.before.before in insert_called _ _ _ _ (put_answer _ _ _ _ _ _ _ μ (omega arith)) (put_slice _ _ _ _ _ _ _ μ (omega arith) _ c.before.put_joined.ensures)))
