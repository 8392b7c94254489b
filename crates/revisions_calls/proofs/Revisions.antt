-- Bundles with revisions, for the calls: `revisions_calls-tables` at the end. Assumes nothing.
use Prim.Native.Nat.{ℕ}
use mathlib.Core.Path.{◌≡◌, sym, ap, ◌∙◌}
use lib.ListN.{length}
use Rattle.ordmap.specs.Result.{value}
use Rattle.ordmap.proofs.Results.{accepted_inj, value-accepted}
use Rattle.model.specs.declared.Kind.{Kind}
use Rattle.model.specs.Bytes.{Bytes}
use Rattle.model.specs.Answer.{Answer}
use Rattle.model.specs.Tags.{Lawful}
use Rattle.model.specs.Printing.{print_report}
use Rattle.model.specs.Gather.{entry_limit, read_and_print}
use Rattle.model.specs.Joined.{joined_report}
use Rattle.model.proofs.TagLaws.{default_tag_lawful}
use Rattle.model.proofs.TagTableLaws.{loads_lawful}
use Rattle.text_choice.specs.Revisions.{gather_revisions}
use Rattle.text_choice.proofs.Revisions.{revisions}
use Rattle.lcov.proofs.Demand.{wrote_of, of_wrote, written-accepted, accepted-written, refused-stays}
use Rattle.revisions_calls.specs.Revisions.{WriteAlike, RevisionsCalls, RevisionsCallsTables}

module _ (tag : Kind → Bytes) where
  abbrev answer : Bytes → ℕ → Bytes → Answer Bytes
  answer bundle words out = gather_revisions tag bundle words (length out)

  -- answers that are accepted alike write alike
  write_alike : (a b : Bytes)
      → ((words words₂ room : ℕ) → entry_limit words₂ ≡ entry_limit words → value (gather_revisions tag a words room) ≡ value (gather_revisions tag b words₂ room))
      → WriteAlike tag a b
  write_alike a b same = record {
    alike = λ words words₂ out out' out₂ out₂' r r₂ limits room c c₂ bytes.
        (let alike : value (answer a words out) ≡ value (answer b words₂ out₂) =
        same words words₂ (length out) limits ∙ ap (λ (n : ℕ). value (gather_revisions tag b words₂ n)) (sym room) in (
          λ w. wrote_of out₂ out₂' r₂ (answer b words₂ out₂) c₂ bytes
              (value-accepted (answer b words₂ out₂) (sym alike ∙ ap value (of_wrote out out' r (answer a words out) c bytes w))),
          λ w. wrote_of out out' r (answer a words out) c bytes
              (value-accepted (answer a words out) (alike ∙ ap value (of_wrote out₂ out₂' r₂ (answer b words₂ out₂) c₂ bytes w))),
        ));
  }

  pub revisions_calls : Lawful tag → RevisionsCalls tag
  revisions_calls L =
      let claim = revisions tag L in
      record {
        accepts = λ bundle words out out' r c.
            (let exactly = claim.accepts bundle words (length out) in (
              λ i. exactly.0 (written-accepted out out' r (answer bundle words out) c i),
              λ a. accepted-written out out' r (answer bundle words out) c (exactly.1 a),
            ));
        writes = λ bundle words out out' r c reports a.
            wrote_of out out' r (answer bundle words out) c (print_report tag (joined_report reports)) (claim.writes bundle words (length out) reports a);
        untouched = λ bundle words out out' r c. refused-stays out out' r (answer bundle words out) c;
        reads_back = λ bundle words out out' r c reports a bytes w words₂ out₂ out₂' r₂ limits room c₂.
            (let wrote = of_wrote out out' r (answer bundle words out) c bytes w in
            let same = accepted_inj (sym wrote ∙ claim.writes bundle words (length out) reports a) in
            let (report, back) = claim.reads_back bundle words (length out) reports a bytes same words₂ (length out₂) limits room in
            (report, wrote_of out₂ out₂' r₂ (read_and_print tag bytes words₂ (length out₂)) c₂ bytes back));
        any_order = λ a b v w s o. write_alike a b (λ words words₂ room l. claim.any_order a b words words₂ room v w s l (o words));
        rest = λ a b v w m n e. write_alike a b (λ words words₂ room l. claim.rest a b words words₂ room v w m n l e);
      }

pub revisions_calls-tables : RevisionsCallsTables
revisions_calls-tables = record {
  default = revisions_calls _ default_tag_lawful;
  lent = λ table tag loads. revisions_calls tag (loads_lawful table tag loads);
  gathers = λ table tag loads bundle words out out' r. (λ c. rw loads at c, λ c. rw loads c);
}
