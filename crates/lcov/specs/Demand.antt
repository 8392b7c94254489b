-- Demand 3 of the request for what the calls `gather_checked` and `read_text` return and leave in the lent output: one record says all of
-- it. `Acceptable` and `joined_report` are those of model/specs. Assumes nothing.
use Rattle.std.specs.Prelude.{ℕ, ◌≤◌, ◌≡◌, ◌↔◌, true, length, drop, Result, Ok, Err}
use mathlib.Core.List.{List, ◌++◌, Memᴰ as Member}
use Rattle.model.specs.declared.Kind.{Kind}
use Rattle.model.specs.declared.Fault.{Fault}
use Rattle.model.specs.declared.Mode.TheVariants.{Checked}
use Rattle.model.specs.declared.Refusal.{Refusal}
use Rattle.model.specs.Bytes.{Bytes}
use Rattle.model.specs.Answer.{accepted, unplaced}
use Rattle.model.specs.Tags.{default_tag}
use Rattle.model.specs.TagTable.{load_tags, tagged}
use Rattle.ordmap.specs.Keyed.{Sorted}
use Rattle.model.specs.Report.{Entry, Report, Key, compare_keys, entry_key}
use Rattle.model.specs.Reading.{read_text}
use Rattle.model.specs.Printing.{print_report}
use Rattle.model.specs.Calls.{WriteCall}
use Rattle.model.specs.Bundle.{well_formed, texts}
use Rattle.model.specs.Gather.{entry_limit, read_and_print, gather}
use Rattle.model.specs.Joined.{all_entries, HasKey, items_at, joined_item, joined_report, read_all, SameTexts, one_spelling}
use Rattle.model.specs.Demand.{Acceptable}

-- ---- calls

-- a call of `gather_checked` with so many words of scratch, and one of `read_text`: the very promises of these calls
abbrev pub GatherCall : (tag : Kind → Bytes) → Bytes → ℕ → Bytes → Bytes → Result ℕ Refusal → Type 0
GatherCall tag bundle words out out' r = WriteCall (gather tag Checked bundle words (length out)) out out' r

abbrev pub ReadCall : (tag : Kind → Bytes) → Bytes → ℕ → Bytes → Bytes → Result ℕ Refusal → Type 0
ReadCall tag text words out out' r = WriteCall (read_and_print tag text words (length out)) out out' r

-- calls of `gather_checked_tagged` and `read_text_tagged`, which are lent a table of tags
abbrev pub GatherTagged : Bytes → Bytes → ℕ → Bytes → Bytes → Result ℕ Refusal → Type 0
GatherTagged table bundle words out out' r = WriteCall (tagged table (λ tag. gather tag Checked bundle words (length out))) out out' r

abbrev pub ReadTagged : Bytes → Bytes → ℕ → Bytes → Bytes → Result ℕ Refusal → Type 0
ReadTagged table text words out out' r = WriteCall (tagged table (λ tag. read_and_print tag text words (length out))) out out' r

-- "Accepted means answered with the written length"
abbrev pub IsWritten : Result ℕ Refusal → Type 0
IsWritten (Ok n) = Unit {0}
IsWritten (Err r) = ⊥

-- exactly these bytes were written: their number is handed back, they are the output's front, and the bytes past them stay
pub record Wrote (bytes out out' : Bytes) (r : Result ℕ Refusal) : Type 0 where
  pub number : r ≡ Ok (length bytes)
  pub front : out' ≡ bytes ++ drop (length bytes) out

-- ---- the demand

-- "The checked gather accepts it exactly when [..] It then writes exactly the joined report so printed"
pub record AcceptsAndWrites (tag : Kind → Bytes) (bundle : Bytes) (words : ℕ) (out out' : Bytes) (r : Result ℕ Refusal) : Type 0 where
  pub accepts : IsWritten r ↔ ((reports : List Report) × Acceptable tag bundle words (length out) reports)
  pub writes : (reports : List Report) → Acceptable tag bundle words (length out) reports
      → Wrote (print_report tag (joined_report reports)) out out' r
  -- what is not accepted leaves the output
  pub untouched : (q : Refusal) → r ≡ Err q → out' ≡ out

pub record Demand3Calls (tag : Kind → Bytes) : Type 0 where
  pub gathers : (bundle : Bytes) (words : ℕ) (out out' : Bytes) (r : Result ℕ Refusal) → GatherCall tag bundle words out out' r
      → AcceptsAndWrites tag bundle words out out' r
  -- "every entry that some report read has and no other": a report read has a key at most once, and so has the joined report, whose keys
  -- are those of all reports
  pub once : (limit : ℕ) (text : Bytes) (report : Report) → read_text tag limit text ≡ accepted report → Sorted entry_key compare_keys report
  pub ordered : (reports : List Report) → Sorted entry_key compare_keys (joined_report reports)
  pub keys : (reports : List Report) (key : Key) → HasKey key (joined_report reports) ↔ HasKey key (all_entries reports)
  -- "each count the sum over the reports read (a function's held at 2^64 − 1), the given starts and checksums"
  pub values : (reports : List Report) (e : Entry) → Member e (joined_report reports) → e.item ≡ joined_item (items_at (entry_key e) reports)
  -- "Reading what it wrote, under the same entry limit and with room for as many bytes, is accepted and gives the same report and the
  -- same bytes."
  pub reads_back : (bundle : Bytes) (words : ℕ) (out out' : Bytes) (r : Result ℕ Refusal) → GatherCall tag bundle words out out' r
      → (reports : List Report) → Acceptable tag bundle words (length out) reports → (bytes : Bytes) → Wrote bytes out out' r
      → (words₂ : ℕ) (out₂ out₂' : Bytes) (r₂ : Result ℕ Refusal) → entry_limit words₂ ≡ entry_limit words → length bytes ≤ length out₂
      → ReadCall tag bytes words₂ out₂ out₂' r₂
      → (read_text tag (entry_limit words₂) bytes ≡ accepted (joined_report reports)) × Wrote bytes out₂ out₂' r₂
  -- "Where each section's path has one spelling, all orders, under the same entry limit and output length, are accepted alike and write
  -- the same bytes."
  pub any_order : (a b : Bytes) → well_formed a ≡ true → well_formed b ≡ true → SameTexts (texts a) (texts b)
      → (words words₂ : ℕ) → entry_limit words₂ ≡ entry_limit words
      → ((reports : List Report) → read_all tag (entry_limit words) (texts a) ≡ accepted reports → one_spelling reports ≡ true)
      → (out out' out₂ out₂' : Bytes) (r r₂ : Result ℕ Refusal) → length out₂ ≡ length out
      → GatherCall tag a words out out' r → GatherCall tag b words₂ out₂ out₂' r₂
      → (bytes : Bytes) → Wrote bytes out out' r ↔ Wrote bytes out₂ out₂' r₂

-- DEMAND 3 for the calls without a table, and for those that are lent one: every table that loads has it, by one law of its tags
pub record Demand3Tables : Type 0 where
  pub default : Demand3Calls default_tag
  pub lent : (table : Bytes) (tag : Kind → Bytes) → load_tags table ≡ accepted tag → Demand3Calls tag
  -- a call that is lent such a table is a call under its tags
  pub gathers : (table : Bytes) (tag : Kind → Bytes) → load_tags table ≡ accepted tag
      → (bundle : Bytes) (words : ℕ) (out out' : Bytes) (r : Result ℕ Refusal) → GatherTagged table bundle words out out' r ↔ GatherCall tag bundle words out out' r
  pub reads : (table : Bytes) (tag : Kind → Bytes) → load_tags table ≡ accepted tag
      → (text : Bytes) (words : ℕ) (out out' : Bytes) (r : Result ℕ Refusal) → ReadTagged table text words out out' r ↔ ReadCall tag text words out out' r
