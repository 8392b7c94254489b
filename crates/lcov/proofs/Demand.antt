-- Demand 3 holds of the calls: DEMAND 3 is `demand3_tables` at the end. Assumes nothing.
use Rattle.std.specs.Prelude.{Result, Ok, Err}
use Prim.Native.Nat.{ℕ}
use mathlib.Core.Path.{◌≡◌, refl, sym, ap, subst, ◌∙◌}
use mathlib.Core.List.{List, ◌++◌}
use lib.ListN.{length, drop, take}
use lib.Seq.{take_at}
use Rattle.ordmap.specs.Result.{value, IsAccepted}
use Rattle.ordmap.proofs.Results.{impossible, accepted_inj, value-accepted}
use Rattle.model.specs.declared.Kind.{Kind}
use Rattle.model.specs.declared.Mode.TheVariants.{Checked}
use Rattle.model.specs.declared.Refusal.{Refusal}
use Rattle.model.specs.Bytes.{Bytes}
use Rattle.model.specs.Answer.{Answer, accepted, refused}
use Rattle.model.specs.Report.{Report}
use Rattle.model.specs.Printing.{print_report}
use Rattle.model.specs.Output.{output_after}
use Rattle.model.specs.Calls.{WriteCall, length_answer}
use Rattle.model.proofs.CallLaws.{length_exact}
use Rattle.model.specs.Gather.{read_and_print, gather}
use Rattle.model.specs.Joined.{joined_report}
use Rattle.model.specs.Tags.{Lawful}
use Rattle.model.specs.TagTable.{load_tags, tagged, tags_of, are_tags}
use Rattle.model.proofs.TagLaws.{default_tag_lawful}
use Rattle.model.proofs.TagTableLaws.{loads_lawful}
use Rattle.model.proofs.Demand.{demand3}
use Rattle.lcov.specs.Demand.{GatherCall, GatherTagged, IsWritten, Wrote, AcceptsAndWrites, Demand3Calls, Demand3Tables}

-- ---- what was written is the answer

abbrev Written : ℕ → Result ℕ Refusal
Written n = Ok n

module _ (out out' : Bytes) (r : Result ℕ Refusal) where
  pub wrote_of : (g : Answer Bytes) → WriteCall g out out' r → (bytes : Bytes) → g ≡ accepted bytes → Wrote bytes out out' r
  unfolding length_answer output_after
  wrote_of g c bytes e = record { number = length_exact g r c.returns ∙ ap length_answer e; front = c.leaves ∙ ap (λ (a : Answer Bytes). output_after a out) e }

  pub of_wrote : (g : Answer Bytes) → WriteCall g out out' r → (bytes : Bytes) → Wrote bytes out out' r → g ≡ accepted bytes
  unfolding length_answer output_after
  of_wrote (accepted bs) c bytes w =
      let both : Written (length bs) ≡ Written (length bytes) = sym (length_exact {A = ℕ} (accepted bs) r c.returns) ∙ w.number in
      let long : length bs ≡ length bytes = written_inj both in
      let fronts : bs ++ drop (length bs) out ≡ bytes ++ drop (length bytes) out = sym c.leaves ∙ w.front in
      let same : bs ≡ bytes =
      sym (take_at bs (drop (length bs) out) (length bytes) long) ∙ ap (take (length bytes)) fronts ∙ take_at bytes (drop (length bytes) out) (length bytes) refl in
      ap (λ (l : Bytes). accepted l) same
    where
      written_inj : {m n : ℕ} → Written m ≡ Written n → m ≡ n
      written_inj p = cc
  of_wrote (refused q) c bytes w = absurd (clash (sym w.number ∙ length_exact {A = ℕ} (refused q) r c.returns))
    where
      clash : {n : ℕ} {q : Refusal} → Written n ≡ Err q → ⊥
      clash p = impossible cc

  pub written-accepted : (g : Answer Bytes) → WriteCall g out out' r → IsWritten r → IsAccepted g
  unfolding length_answer
  written-accepted (accepted bs) c i = tt
  written-accepted (refused q) c i = rw (length_exact {A = ℕ} (refused q) r c.returns) at i

  pub accepted-written : (g : Answer Bytes) → WriteCall g out out' r → IsAccepted g → IsWritten r
  unfolding length_answer
  accepted-written (accepted bs) c i = rw (length_exact {A = ℕ} (accepted bs) r c.returns) tt
  accepted-written (refused q) c i = absurd i

  pub refused-stays : (g : Answer Bytes) → WriteCall g out out' r → (q : Refusal) → r ≡ Err q → out' ≡ out
  unfolding length_answer output_after
  refused-stays (accepted bs) c q e = absurd (clash (sym (length_exact {A = ℕ} (accepted bs) r c.returns) ∙ e))
    where
      clash : {n : ℕ} {q : Refusal} → Written n ≡ Err q → ⊥
      clash p = impossible cc
  refused-stays (refused p) c q e = c.leaves

-- ---- one call of the gather

pub accepts_and_writes : (tag : Kind → Bytes) → Lawful tag → (bundle : Bytes) (words : ℕ) (out out' : Bytes) (r : Result ℕ Refusal) → GatherCall tag bundle words out out' r
    → AcceptsAndWrites tag bundle words out out' r
accepts_and_writes tag L bundle words out out' r c =
    let d = demand3 tag L in
    let exactly = d.accepts bundle words (length out) in
    let g : Answer Bytes = gather tag Checked bundle words (length out) in
    record {
      accepts = (λ i. exactly.0 (written-accepted out out' r g c i), λ a. accepted-written out out' r g c (exactly.1 a));
      writes = λ reports a. wrote_of out out' r g c (print_report tag (joined_report reports)) (d.writes bundle words (length out) reports a);
      untouched = λ q e. refused-stays out out' r g c q e;
    }

pub gathered_demand : (tag : Kind → Bytes) → Lawful tag → (bundle : Bytes) (words : ℕ) (out out' : Bytes) (r : Result ℕ Refusal) → GatherCall tag bundle words out out' r
    → GatherCall tag bundle words out out' r × AcceptsAndWrites tag bundle words out out' r
gathered_demand tag L bundle words out out' r c = (c, accepts_and_writes tag L bundle words out out' r c)

-- ---- two calls

pub demand3_calls : (tag : Kind → Bytes) → Lawful tag → Demand3Calls tag
demand3_calls tag L =
    let d = demand3 tag L in
    record {
      gathers = accepts_and_writes tag L;
      once = d.once;
      ordered = d.ordered;
      keys = d.keys;
      values = d.values;
      reads_back = λ bundle words out out' r c reports a bytes w words₂ out₂ out₂' r₂ limits room c₂.
          (let wrote = of_wrote out out' r (gather tag Checked bundle words (length out)) c bytes w in
          let same = accepted_inj (sym wrote ∙ d.writes bundle words (length out) reports a) in
          let (report, back) = d.reads_back bundle words (length out) reports a bytes same words₂ (length out₂) limits room in
          (report, wrote_of out₂ out₂' r₂ (read_and_print tag bytes words₂ (length out₂)) c₂ bytes back));
      any_order = λ a b well-a well-b same words words₂ limits spelled out out' out₂ out₂' r r₂ room c c₂ bytes.
          (let g : Answer Bytes = gather tag Checked a words (length out) in
          let g₂ : Answer Bytes = gather tag Checked b words₂ (length out₂) in
          let alike : value g ≡ value g₂ =
          d.any_order a b words words₂ (length out) well-a well-b same limits spelled ∙ ap (λ (n : ℕ). value (gather tag Checked b words₂ n)) (sym room) in (
            λ w. wrote_of out₂ out₂' r₂ g₂ c₂ bytes (value-accepted g₂ (sym alike ∙ ap value (of_wrote out out' r g c bytes w))),
            λ w. wrote_of out out' r g c bytes (value-accepted g (alike ∙ ap value (of_wrote out₂ out₂' r₂ g₂ c₂ bytes w))),
          ));
    }

-- ---- calls that are lent a table

pub demand3_tables : Demand3Tables
demand3_tables =
    record {
      default = demand3_calls _ default_tag_lawful;
      lent = λ table tag loads. demand3_calls tag (loads_lawful table tag loads);
      gathers = λ table tag loads bundle words out out' r. (λ c. rw loads at c, λ c. rw loads c);
      reads = λ table tag loads text words out out' r. (λ c. rw loads at c, λ c. rw loads c);
    }

-- what one such call promises
pub tagged_demand : (table bundle : Bytes) (words : ℕ) (out out' : Bytes) (r : Result ℕ Refusal) → GatherTagged table bundle words out out' r
    → GatherTagged table bundle words out out' r × ((tag : Kind → Bytes) → load_tags table ≡ accepted tag → AcceptsAndWrites tag bundle words out out' r)
tagged_demand table bundle words out out' r c =
    (c, λ tag loads. accepts_and_writes tag (loads_lawful table tag loads) bundle words out out' r ((demand3_tables.gathers table tag loads bundle words out out' r).0 c))
