-- A valid report: what each report that was read or joined is, and what makes it one that, printed, is read back. No definition
-- of docs/SPEC.md needs it; the proofs and the contracts of the code do. Assumes nothing.
use Rattle.std.specs.Prelude.{◌≤◌, ◌≡◌, false}
use mathlib.Core.List.{Memᴰ as Member}
use Rattle.std.proofs.Math.Option.{Option, none, some}
use Rattle.ordmap.specs.Keyed.{Sorted}
use Rattle.model.specs.Bytes.{Bytes, ascii, newline, same_bytes, Free}
use Rattle.model.specs.Path.{components}
use Rattle.model.specs.Limits.{u32_max, u64_max}
use Rattle.model.specs.Line.{trimmed, begins_with_end}
use Rattle.model.specs.Report.{
  Extent,
  Item,
  section_item,
  function_item,
  branch_item,
  line_item,
  Entry,
  Report,
  section_key,
  in_section,
  compare_keys,
  entry_key,
}
use Rattle.model.specs.Printing.{is_section}

-- bytes with no byte 10 in them and no byte 13 at their end
pub record LineText (bytes : Bytes) : Type 0 where
  pub one_line : Free newline bytes
  pub clean_end : trimmed bytes ≡ bytes

-- what is given meets P
abbrev pub Given : {A : Type 0} → (A → Type 0) → Option A → Type 0
Given P none = Unit {0}
Given P (some a) = P a

-- a checksum that is given is not "-"
pub record ChecksumText (bytes : Bytes) : Type 0 where
  pub text : LineText bytes
  pub not_dash : same_bytes bytes (ascii "-") ≡ false

-- what FN can say of a function with this name. A name that begins as an end line does is read with an end line before it: printed
-- without one, it would lose its beginning
pub record ExtentFits (name : Bytes) (x : Extent) : Type 0 where
  pub start : x.start ≤ u32_max
  pub end : Given (λ end. (x.start ≤ end) × (end ≤ u32_max)) x.end
  pub name_whole : x.end ≡ none → begins_with_end name ≡ false

-- an item that a line can hold: numbers in range, texts of one line
abbrev pub ItemFits : Item → Type 0
ItemFits (section_item spelling) = LineText spelling
ItemFits (function_item f) = LineText f.name × Given (ExtentFits f.name) f.extent × (f.count ≤ u64_max)
ItemFits (branch_item line block branch taken) = (line ≤ u32_max) × (block ≤ u32_max) × (branch ≤ u32_max) × Given (λ n. n ≤ u64_max) taken
ItemFits (line_item line count checksum) = (line ≤ u32_max) × (count ≤ u64_max) × Given ChecksumText checksum

pub record Valid (report : Report) : Type 0 where
  -- strictly ascending by key
  pub sorted : Sorted entry_key compare_keys report
  pub tests : (e : Entry) → Member e report → LineText e.test
  pub fits : (e : Entry) → Member e report → ItemFits e.item
  -- a section's path is that of its spelling
  pub spelled : (e : Entry) (spelling : Bytes) → Member e report → e.item ≡ section_item spelling → components spelling ≡ e.path
  -- each entry's section has its own entry, which its key puts first
  pub headed : (e : Entry) → Member e report → (spelling : Bytes) × Member (in_section (section_key e) (section_item spelling)) report
  -- and a function, branch or line
  pub filled : (e : Entry) → Member e report → (f : Entry) × Member f report × (section_key f ≡ section_key e) × (is_section f.item ≡ false)
