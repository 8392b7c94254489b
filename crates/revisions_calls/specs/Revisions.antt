-- Bundles with revisions, for what the calls `gather_revisions` and `read_text` return and leave in the lent output. The clauses are those of
-- crate text_choice's Revisions; `IsWritten` and `Wrote` are demand 3's (crate lcov). Assumes nothing.
use Rattle.std.specs.Prelude.{ℕ, ◌≤◌, ◌≡◌, ◌↔◌, true, List, length, Result, Err}
use Rattle.std.proofs.Math.Option.{none}
use Rattle.model.specs.declared.Kind.{Kind}
use Rattle.model.specs.declared.Refusal.{Refusal}
use Rattle.model.specs.Bytes.{Bytes}
use Rattle.model.specs.Answer.{accepted}
use Rattle.model.specs.Tags.{default_tag}
use Rattle.model.specs.TagTable.{load_tags, tagged}
use Rattle.model.specs.Report.{Report}
use Rattle.model.specs.Reading.{read_text}
use Rattle.model.specs.Printing.{print_report}
use Rattle.model.specs.Calls.{WriteCall}
use Rattle.model.specs.Bundle.{contents}
use Rattle.model.specs.Gather.{entry_limit}
use Rattle.model.specs.Joined.{joined_report}
use Rattle.text_choice.specs.Choice.{SameLabelled, SpelledOnce}
use Rattle.text_choice.specs.RevisionBundle.{well_formed_revisions, highest_texts, same_pair, paired_texts, first_repeat}
use Rattle.text_choice.specs.Revisions.{gather_revisions, AcceptableRevisions}
use Rattle.lcov.specs.Demand.{ReadCall, IsWritten, Wrote}

-- a call of `gather_revisions` with so many words of scratch: the very promise of that call
abbrev pub RevisionsCall : (tag : Kind → Bytes) → Bytes → ℕ → Bytes → Bytes → Result ℕ Refusal → Type 0
RevisionsCall tag bundle words out out' r = WriteCall (gather_revisions tag bundle words (length out)) out out' r

-- a call of `gather_revisions_tagged`, which is lent a table of tags
abbrev pub RevisionsTagged : Bytes → Bytes → ℕ → Bytes → Bytes → Result ℕ Refusal → Type 0
RevisionsTagged table bundle words out out' r = WriteCall (tagged table (λ tag. gather_revisions tag bundle words (length out))) out out' r

-- two calls under one entry limit, with outputs of one length, that write alike
pub record WriteAlike (tag : Kind → Bytes) (a b : Bytes) : Type 0 where
  pub alike : (words words₂ : ℕ) (out out' out₂ out₂' : Bytes) (r r₂ : Result ℕ Refusal) → entry_limit words₂ ≡ entry_limit words → length out₂ ≡ length out
      → RevisionsCall tag a words out out' r → RevisionsCall tag b words₂ out₂ out₂' r₂
      → (bytes : Bytes) → Wrote bytes out out' r ↔ Wrote bytes out₂ out₂' r₂

pub record RevisionsCalls (tag : Kind → Bytes) : Type 0 where
  -- accepted exactly when the gather of the chosen texts is to be, and then their joined report is written
  pub accepts : (bundle : Bytes) (words : ℕ) (out out' : Bytes) (r : Result ℕ Refusal) → RevisionsCall tag bundle words out out' r
      → IsWritten r ↔ ((reports : List Report) × AcceptableRevisions tag bundle words (length out) reports)
  pub writes : (bundle : Bytes) (words : ℕ) (out out' : Bytes) (r : Result ℕ Refusal) → RevisionsCall tag bundle words out out' r
      → (reports : List Report) → AcceptableRevisions tag bundle words (length out) reports → Wrote (print_report tag (joined_report reports)) out out' r
  -- what is not accepted leaves the output
  pub untouched : (bundle : Bytes) (words : ℕ) (out out' : Bytes) (r : Result ℕ Refusal) → RevisionsCall tag bundle words out out' r
      → (q : Refusal) → r ≡ Err q → out' ≡ out
  -- what was written is read as the same report, and the same bytes are written
  pub reads_back : (bundle : Bytes) (words : ℕ) (out out' : Bytes) (r : Result ℕ Refusal) → RevisionsCall tag bundle words out out' r
      → (reports : List Report) → AcceptableRevisions tag bundle words (length out) reports → (bytes : Bytes) → Wrote bytes out out' r
      → (words₂ : ℕ) (out₂ out₂' : Bytes) (r₂ : Result ℕ Refusal) → entry_limit words₂ ≡ entry_limit words → length bytes ≤ length out₂
      → ReadCall tag bytes words₂ out₂ out₂' r₂
      → (read_text tag (entry_limit words₂) bytes ≡ accepted (joined_report reports)) × Wrote bytes out₂ out₂' r₂
  -- any order, each text taking its run number and revision along
  pub any_order : (a b : Bytes) → well_formed_revisions a ≡ true → well_formed_revisions b ≡ true → SameLabelled same_pair (paired_texts a) (paired_texts b)
      → ((words : ℕ) → SpelledOnce tag words (highest_texts a)) → WriteAlike tag a b
  -- the number, order and contents of the texts that are not chosen do not count
  pub rest : (a b : Bytes) → well_formed_revisions a ≡ true → well_formed_revisions b ≡ true → first_repeat a ≡ none → first_repeat b ≡ none
      → contents (highest_texts a) ≡ contents (highest_texts b) → WriteAlike tag a b

-- for the calls without a table, and for those that are lent one: every table that loads has it
pub record RevisionsCallsTables : Type 0 where
  pub default : RevisionsCalls default_tag
  pub lent : (table : Bytes) (tag : Kind → Bytes) → load_tags table ≡ accepted tag → RevisionsCalls tag
  -- a call that is lent such a table is a call under its tags
  pub gathers : (table : Bytes) (tag : Kind → Bytes) → load_tags table ≡ accepted tag
      → (bundle : Bytes) (words : ℕ) (out out' : Bytes) (r : Result ℕ Refusal) → RevisionsTagged table bundle words out out' r ↔ RevisionsCall tag bundle words out out' r
