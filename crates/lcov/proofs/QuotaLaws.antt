-- The calls with quotas: what the joint gather made is printed, and the marks are left as the definition says. Assumes nothing.
use Rattle.model.specs.declared.Refusal.{Refusal}
use Prim.Native.Nat.{ℕ}
use mathlib.Core.Path.{◌≡◌, refl, ap, ◌∙◌}
use mathlib.Core.Bool.{Bool, true, false}
use mathlib.Core.List.{List, []}
use lib.ListN.{length}
use Rattle.model.specs.declared.Kind.{Kind}
use Rattle.model.specs.declared.Fault.{Fault}
use Rattle.model.specs.declared.Fault.TheVariants.{MalformedBundle, MalformedLabs}
use Rattle.model.specs.declared.Mode.TheVariants.{Checked}
use Rattle.std.specs.Prelude.{if◌then◌else◌, Result, Ok, Err}
use Rattle.model.specs.Bytes.{Bytes}
use Rattle.model.specs.Answer.{Answer, accepted, refused, refuse, unplaced, ◌>>=◌}
use Rattle.model.specs.TagTable.{load_tags, tagged}
use Rattle.model.specs.Report.{Report}
use Rattle.model.specs.Printing.{print_report}
use Rattle.model.specs.Output.{written, output_after}
use Rattle.model.specs.Calls.{WriteCall, length_answer}
use Rattle.model.specs.Bundle.{well_formed}
use Rattle.model.specs.Gather.{entry_limit, gather_texts, gather_many}
use Rattle.model.proofs.CallLaws.{write_called}
use Rattle.tag_table.specs.Loading.{LoadedTags, LoadedAs}
use Rattle.tag_table.specs.declared.tags.Tags.{Tags}
use Rattle.tag_table.specs.Tags.{tag_of}
use Rattle.text_choice.specs.Quotas.{are_labs, let_in_texts, LabsAnswer, joint_of, marks_after, gather_labs, gather_quotas}
use Rattle.joined_table.specs.Gathering.{seen_bundle, HeldBundle}
use Rattle.lab_quotas.specs.Labs.{gather_joint, LabsGathered}
use Rattle.lcov.specs.Printed.{printed_by}
use Rattle.lcov.specs.Quotas.{QuotasCall}
use Rattle.lcov.proofs.CallLaws.{gathered_called}

-- the answer is the joint gather printed
quotas_means : (tag : Kind → Bytes) (bundle : Bytes) (labs quotas : List ℕ) (words room : ℕ)
    → joint_of (gather_quotas tag bundle labs quotas words room) ≡ printed_by (print_report tag) (gather_joint tag bundle labs quotas words) room
unfolding gather_quotas gather_joint
quotas_means tag bundle labs quotas words room = go (well_formed bundle) (are_labs bundle labs quotas)
  where
    go : (b c : Bool)
        → joint_of (if b then (if c then accepted (gather_labs tag bundle labs quotas words room) else refuse MalformedLabs) else refuse MalformedBundle)
        ≡ printed_by (print_report tag)
        (if b then (if c then gather_texts tag Checked (entry_limit words) (let_in_texts tag (entry_limit words) bundle labs quotas) [] else refuse MalformedLabs) else refuse MalformedBundle) room
    go true true = refl
    go true false = refl
    go false c = refl

pub quotas_printed : (tag : Kind → Bytes) (bundle : Bytes) (labs quotas : List ℕ) (words : ℕ) (ws marks marks' : List ℕ) (got : Result ℕ Refusal)
    → LabsGathered tag bundle labs quotas words ws marks marks' got → length ws ≡ words → (out out' : Bytes) (r : Result ℕ Refusal)
    → WriteCall (printed_by (print_report tag) (seen_bundle bundle ws (entry_limit (length ws)) got) (length out)) out out' r
    → QuotasCall (gather_quotas tag bundle labs quotas words (length out)) out out' marks marks' r
quotas_printed tag bundle labs quotas words ws marks marks' got g long out out' r c =
    record {
      call = gathered_called (gather_joint tag bundle labs quotas words) bundle words ws got g.joint long (print_report tag) out out' r
          (joint_of (gather_quotas tag bundle labs quotas words (length out))) (quotas_means tag bundle labs quotas words (length out)) c;
      marked = g.marked (length out);
    }

-- ---- a lent table of tags

module _ (table out : Bytes) (got : Result Tags Fault) (l : LoadedAs table got) (call : (Kind → Bytes) → Answer LabsAnswer) (marks : List ℕ) where
  pub quotas_refused : (fault : Fault) (r : Result ℕ Refusal) → got ≡ Err fault → r ≡ Err (unplaced fault) → QuotasCall (tagged table call) out out marks marks r
  unfolding marks_after length_answer output_after
  quotas_refused fault r e q =
      let no-tags : load_tags table ≡ refuse fault = rw e at l in
      rw (q, no-tags) (record { call = write_called (refused (unplaced fault)) out out (Err (unplaced fault)) refl refl; marked = refl })

  pub quotas_called : (tags : Tags) (out' : Bytes) (marks' : List ℕ) (r : Result ℕ Refusal) → got ≡ Ok tags → QuotasCall (call (tag_of tags)) out out' marks marks' r
      → QuotasCall (tagged table call) out out' marks marks' r
  quotas_called tags out' marks' r e c = let τ : LoadedTags table tags = rw e at l in rw τ.is c
