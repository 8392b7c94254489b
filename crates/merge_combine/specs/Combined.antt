-- What two rows of one key make. Assumes nothing.
use Rattle.std.specs.Prelude.{ℕ, zero, suc, ◌+◌, ◌≡◌, Bool, true, false, leb, ltb, if◌then◌else◌, Result, Ok, Err}
use Rattle.table.specs.declared.Row.{Row}
use Rattle.model.specs.declared.Fault.{Fault}
use Rattle.model.specs.declared.Fault.TheVariants.{CountOverflow}
use Rattle.model.specs.declared.Mode.{Mode}
use Rattle.model.specs.declared.Mode.TheVariants.{Checked, Lossy}
use Rattle.model.specs.Bytes.{Bytes}
use Rattle.model.specs.Limits.{u64_max}
use Rattle.model.specs.Answer.{Answer, accepted, refuse}
use Rattle.model.specs.Report.{Entry, combine_entries}
use Rattle.table_section.specs.Sections.{entry_of, RowInBounds}
use Rattle.merge_combine.specs.declared.Choice.{Choice}
use Rattle.merge_combine.specs.declared.Choice.TheVariants.{Earlier, Later, Neither}

-- a value that only one gives is kept; two given values must be equal, or the later one wins
abbrev pub choice_of : Mode → ℕ → ℕ → Bool → Choice
choice_of mode earlier zero alike = Earlier
choice_of mode zero (suc k) alike = Later
choice_of Checked (suc j) (suc k) true = Earlier
choice_of Checked (suc j) (suc k) false = Neither
choice_of Lossy (suc j) (suc k) alike = Later

-- a row of the old one's key
abbrev pub made : Row → ℕ → ℕ → ℕ → ℕ → Row
made old tag k2 k3 count = record {
  test = old.test;
  test_len = old.test_len;
  path = old.path;
  path_len = old.path_len;
  tag = tag;
  k1 = old.k1;
  k2 = k2;
  k3 = k3;
  count = count;
}

-- the row with the larger end line of two, by what is given of the other row and of this one
abbrev pub with_larger_end : ℕ → ℕ → Row → Row → Row
with_larger_end zero m r other = r
with_larger_end (suc n) zero r other = made r other.tag r.k2 other.k3 r.count
with_larger_end (suc n) (suc m) r other = if ltb r.k3 other.k3 then made r other.tag r.k2 other.k3 r.count else r

-- the row with a count added to its own
abbrev pub summed : Row → ℕ → Result Row Fault
summed r more = if leb (r.count + more) u64_max then Ok (made r r.tag r.k2 r.k3 (r.count + more)) else Err CountOverflow

abbrev pub seen_combined : Bytes → Result Row Fault → Answer Entry
seen_combined text (Ok r) = accepted (entry_of text r)
seen_combined text (Err fault) = refuse fault

abbrev pub CombinedInBounds : Bytes → Result Row Fault → Type 0
CombinedInBounds text (Ok r) = RowInBounds text r
CombinedInBounds text (Err fault) = Unit {0}

-- the answer is what the model makes of the two entries
pub record RowsCombined (text : Bytes) (mode : Mode) (old new : Row) (r : Result Row Fault) : Type 0 where
  pub is : seen_combined text r ≡ combine_entries mode (entry_of text old) (entry_of text new)
  pub whole : CombinedInBounds text r
