-- `line_num::insert` meets its contract. Assumes nothing.
use Rattle.std.proofs.Common.{ap, ◌∙◌, length}
use Rattle.model.proofs.CallLaws.{insert_called}
use Rattle.line_num.specs.declared.Scan.{Scan}
use Rattle.line_num.specs.declared.Plan.{Plan}
use Rattle.line_num.specs.Steps.{plan_of, answer_of, rewritten}
use Rattle.line_num.proofs.InsertLaws.{plan_fits, insert_told}
use Rattle.line_num.proofs.insert.Goals as goal

pub rewrite-requires : goal.rewrite-requires
rewrite-requires c = rw c.plan_of-plan.ensures (plan_fits c.scan_all-found.result c.args.used (length c.args.list.now))

pub returns : goal.returns
returns c =
    let told = insert_told c.args.list.now c.args.used c.args.start c.args.end in
    insert_called _ c.args.list.now c.rewrite.new.list c.insert_answer.result
    (c.insert_answer.ensures ∙ ap (λ (g : Scan). answer_of g c.args.used (length c.args.list.now)) c.scan_all-found.ensures ∙ told.0)
    (c.rewrite.ensures ∙ ap (λ (p : Plan). rewritten p c.args.list.now) c.plan_of-plan.ensures
    ∙ ap (λ (g : Scan). rewritten (plan_of g c.args.used (length c.args.list.now)) c.args.list.now) c.scan_all-found.ensures ∙ told.1)
