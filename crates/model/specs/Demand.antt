-- Demand 3 of the request, whole, for any table of tags. Clause by clause:
--   "Take any well-formed bundle, its texts in any order.": each field is about all bundles, so about every order of their texts.
--   "The checked gather accepts it exactly when": `accepts`, an equivalence; and, in `Acceptable` and `Gatherable`,
--     "every text is readable as 01 defines": `readable`, with the reports read, one for each time a text is named;
--     "and, key by key over the reports read, given start lines agree": `starts_agree_lem`;
--     "given checksums agree": `checksums_agree_lem`;
--     "no line's or branch's counts add up past 2^64 − 1": `sums_fit_lem`;
--     "and the joined report fits the entry limit": `within_limit`;
--     "and, printed as 01 prints it, the output lent.": `within_room`.
--   "It then writes exactly the joined report so printed": `writes`; and of the joined report
--     "every entry that some report read has and no other": `keys`, each once by `ordered`;
--     "each count the sum over the reports read (a function's held at 2^64 − 1), the given starts and checksums": `values`, which are
--     `joined_as` of Joined.antt at each key. A report read has a key at most once, by `once`: one term of a sum is one report's.
--   "Reading what it wrote, under the same entry limit and with room for as many bytes, is accepted and gives the same report and the
--   same bytes.": `reads_back`.
--   "Where each section's path has one spelling, all orders, under the same entry limit and output length, are accepted alike and
--   write the same bytes.": `any_order`.
-- Assumes nothing.
use Rattle.std.specs.Prelude.{ℕ, ◌≤◌, ◌≡◌, ◌↔◌, true, length}
use mathlib.Core.List.{List, Memᴰ as Member}
use Rattle.ordmap.specs.Result.{value, IsAccepted}
use Rattle.ordmap.specs.Keyed.{Sorted}
use Rattle.model.specs.declared.Kind.{Kind}
use Rattle.model.specs.declared.Mode.TheVariants.{Checked}
use Rattle.model.specs.Bytes.{Bytes}
use Rattle.model.specs.Answer.{accepted}
use Rattle.model.specs.Report.{Entry, Report, Key, compare_keys, entry_key}
use Rattle.model.specs.Reading.{read_text}
use Rattle.model.specs.Printing.{print_report}
use Rattle.model.specs.Bundle.{Text, well_formed, texts}
use Rattle.model.specs.Gather.{entry_limit, read_and_print, gather}
use Rattle.model.specs.Joined.{
  all_entries,
  HasKey,
  items_at,
  joined_item,
  joined_report,
  read_all,
  starts_agree,
  checksums_agree,
  sums_fit,
  SameTexts,
  one_spelling,
}

module _ (tag : Kind → Bytes) where
  -- texts that the checked gather is to join, and the reports read
  pub record Gatherable (limit : ℕ) (texts : List Text) (reports : List Report) : Type 0 where
    pub readable : read_all tag limit texts ≡ accepted reports
    pub starts_agree_lem : starts_agree reports ≡ true
    pub checksums_agree_lem : checksums_agree reports ≡ true
    pub sums_fit_lem : sums_fit reports ≡ true
    pub within_limit : length (joined_report reports) ≤ limit

  -- a bundle that it is to accept
  pub record Acceptable (bundle : Bytes) (words room : ℕ) (reports : List Report) : Type 0 where
    pub well_formed_lem : well_formed bundle ≡ true
    pub gatherable : Gatherable (entry_limit words) (texts bundle) reports
    pub within_room : length (print_report tag (joined_report reports)) ≤ room

  pub record Demand3 : Type 0 where
    -- accepted exactly then
    pub accepts : (bundle : Bytes) (words room : ℕ)
        → IsAccepted (gather tag Checked bundle words room) ↔ ((reports : List Report) × Acceptable bundle words room reports)
    -- and what is written is the joined report, printed
    pub writes : (bundle : Bytes) (words room : ℕ) (reports : List Report) → Acceptable bundle words room reports
        → gather tag Checked bundle words room ≡ accepted (print_report tag (joined_report reports))
    -- a report read is strictly ascending by key
    pub once : (limit : ℕ) (text : Bytes) (report : Report) → read_text tag limit text ≡ accepted report → Sorted entry_key compare_keys report
    -- so is the joined report, whose keys are those of all reports
    pub ordered : (reports : List Report) → Sorted entry_key compare_keys (joined_report reports)
    pub keys : (reports : List Report) (key : Key) → HasKey key (joined_report reports) ↔ HasKey key (all_entries reports)
    -- at each key: the sums, the given starts and checksums, and the first spelling
    pub values : (reports : List Report) (e : Entry) → Member e (joined_report reports) → e.item ≡ joined_item (items_at (entry_key e) reports)
    -- what was written is read as the same report, and the same bytes are written
    pub reads_back : (bundle : Bytes) (words room : ℕ) (reports : List Report) → Acceptable bundle words room reports
        → (bytes : Bytes) → bytes ≡ print_report tag (joined_report reports)
        → (words' room' : ℕ) → entry_limit words' ≡ entry_limit words → length bytes ≤ room'
        → (read_text tag (entry_limit words') bytes ≡ accepted (joined_report reports)) × (read_and_print tag bytes words' room' ≡ accepted bytes)
    -- two orders: accepted alike, with the same bytes
    pub any_order : (a b : Bytes) (words words' room : ℕ) → well_formed a ≡ true → well_formed b ≡ true → SameTexts (texts a) (texts b)
        → entry_limit words' ≡ entry_limit words
        → ((reports : List Report) → read_all tag (entry_limit words) (texts a) ≡ accepted reports → one_spelling reports ≡ true)
        → value (gather tag Checked a words room) ≡ value (gather tag Checked b words' room)
