-- Reports: entries by key, and the merge of `Report::merge` and `merge_lossy`. Assumes nothing.
use Prim.Native.Nat.{ℕ, ◌+◌, Ordering, min, max}
use Rattle.std.specs.Prelude.{Bool, List, [], ◌∷◌, leb, eqb, if◌then◌else◌}
use Rattle.std.proofs.Math.Option.{Option, none, some}
use Rattle.model.specs.declared.Fault.{Fault}
use Rattle.model.specs.declared.Fault.TheVariants.{TooManyEntries, UnmatchedFunctionLine, UnmatchedChecksum, CountOverflow}
use Rattle.model.specs.declared.Mode.{Mode}
use Rattle.model.specs.declared.Mode.TheVariants.{Checked, Lossy}
use Rattle.ordmap.specs.Keyed.{add_all}
use Rattle.model.specs.Order.{compare_pair}
use Rattle.model.specs.Bytes.{Bytes, compare_bytes, same_bytes}
use Rattle.model.specs.Path.{Path, compare_paths}
use Rattle.model.specs.Answer.{Answer, accepted, ◌>>=◌, refuse}
use Rattle.model.specs.Limits.{u64_max}

-- what FN says of a function: where it starts and, where it says so, ends
pub record Extent : Type 0 where
  pub start : ℕ
  pub end : Option ℕ

abbrev pub extent_at : ℕ → Option ℕ → Extent
extent_at start end = record { start = start; end = end }

-- a function: its name, what FN says of it, and how often it was called
pub record Function : Type 0 where
  pub name : Bytes
  pub extent : Option Extent
  pub count : ℕ

abbrev pub function_of : Bytes → Option Extent → ℕ → Function
function_of name extent count = record { name = name; extent = extent; count = count }

-- the function, with another extent and count
abbrev pub updated : Function → Option Extent → ℕ → Function
updated f extent count = record { name = f.name; extent = extent; count = count }

-- what a section holds. Its own item has the first spelling of its path
pub data Item : Type 0 where
  section_item : (spelling : Bytes) → Item
  function_item : (f : Function) → Item
  branch_item : (line block branch : ℕ) (taken : Option ℕ) → Item
  line_item : (line count : ℕ) (checksum : Option Bytes) → Item

-- an item of the section with a test name and a path
pub record Entry : Type 0 where
  pub test : Bytes
  pub path : Path
  pub item : Item

-- entries in strictly ascending order of their keys; a section's own entry comes before those in it
abbrev pub Report : Type 0
Report = List Entry

-- ---- keys

-- the key of an item in its section: the section itself, functions by name, branches by line, block and branch, lines by number
unfoldable pub item_key : Item → List ℕ
item_key (section_item spelling) = 0 ∷ []
item_key (function_item f) = 1 ∷ f.name
item_key (branch_item line block branch taken) = 2 ∷ line ∷ block ∷ branch ∷ []
item_key (line_item line count checksum) = 3 ∷ line ∷ []

unfoldable pub compare_items : Item → Item → Ordering
compare_items a b = compare_bytes (item_key a) (item_key b)

-- the key of a section: test name, then path
abbrev pub SectionKey : Type 0
SectionKey = Bytes × Path

unfoldable pub compare_sections : SectionKey → SectionKey → Ordering
compare_sections = compare_pair compare_bytes compare_paths

abbrev pub section_key : Entry → SectionKey
section_key e = (e.test, e.path)

-- an item, as an entry of a section
abbrev pub in_section : SectionKey → Item → Entry
in_section section item = record { test = section.0; path = section.1; item = item }

-- the key of an entry: its section's, then its item's
abbrev pub Key : Type 0
Key = SectionKey × List ℕ

unfoldable pub compare_keys : Key → Key → Ordering
compare_keys = compare_pair compare_sections compare_bytes

unfoldable pub entry_key : Entry → Key
entry_key e = (section_key e, item_key e.item)

-- ---- values

unfoldable pub extent_of : Item → Option Extent
extent_of (section_item spelling) = none
extent_of (function_item f) = f.extent
extent_of (branch_item line block branch taken) = none
extent_of (line_item line count checksum) = none

abbrev pub given_start : Option Extent → Option ℕ
given_start none = none
given_start (some x) = some x.start

abbrev pub given_end : Option Extent → Option ℕ
given_end none = none
given_end (some x) = x.end

abbrev pub start_of : Item → Option ℕ
start_of item = given_start (extent_of item)

abbrev pub end_of : Item → Option ℕ
end_of item = given_end (extent_of item)

unfoldable pub taken_of : Item → Option ℕ
taken_of (section_item spelling) = none
taken_of (function_item f) = none
taken_of (branch_item line block branch taken) = taken
taken_of (line_item line count checksum) = none

unfoldable pub checksum_of : Item → Option Bytes
checksum_of (section_item spelling) = none
checksum_of (function_item f) = none
checksum_of (branch_item line block branch taken) = none
checksum_of (line_item line count checksum) = checksum

-- how often a function, branch or line was run; a branch with no taken count, 0 times
unfoldable pub count_of : Item → ℕ
count_of (section_item spelling) = 0
count_of (function_item f) = f.count
count_of (branch_item line block branch none) = 0
count_of (branch_item line block branch (some taken)) = taken
count_of (line_item line count checksum) = count

-- ---- merge

-- a sum that must fit a u64
unfoldable pub sum : Fault → ℕ → ℕ → Answer ℕ
sum fault a b = if leb (a + b) u64_max then accepted (a + b) else refuse fault

-- none adds nothing
unfoldable pub sum_taken : Option ℕ → Option ℕ → Answer (Option ℕ)
sum_taken taken none = accepted taken
sum_taken none (some b) = accepted (some b)
sum_taken (some a) (some b) = sum CountOverflow a b >>= λ taken. accepted (some taken)

module _ {A : Type 0} (same : A → A → Bool) where
  -- what only one gives is kept; two that are given must agree, or the later one wins
  unfoldable pub agree : Mode → Fault → Option A → Option A → Answer (Option A)
  agree mode fault none later = accepted later
  agree mode fault (some a) none = accepted (some a)
  agree Checked fault (some a) (some b) = if same a b then accepted (some a) else refuse fault
  agree Lossy fault (some a) (some b) = accepted (some b)

-- the larger of two, or the one given
abbrev pub larger : Option ℕ → Option ℕ → Option ℕ
larger none b = b
larger (some a) none = some a
larger (some a) (some b) = some (max a b)

-- two FN of one start line
abbrev pub join_extents : Extent → Extent → Extent
join_extents a b = extent_at a.start (larger a.end b.end)

-- what only one gives is kept; of two FN the start lines must agree and the larger end line is kept, or the later FN wins
unfoldable pub combine_extents : Mode → Option Extent → Option Extent → Answer (Option Extent)
combine_extents mode none later = accepted later
combine_extents mode (some a) none = accepted (some a)
combine_extents Checked (some a) (some b) = if eqb a.start b.start then accepted (some (join_extents a b)) else refuse UnmatchedFunctionLine
combine_extents Lossy (some a) (some b) = accepted (some b)

-- an item, and a later one of the same key
unfoldable pub combine_items : Mode → Item → Item → Answer Item
combine_items mode (section_item spelling) later = accepted (section_item spelling)
combine_items mode (function_item f) later = do
  both ← combine_extents mode f.extent (extent_of later)
  accepted (function_item (updated f both (min (f.count + count_of later) u64_max)))
combine_items mode (branch_item line block branch taken) later = do
  total ← sum_taken taken (taken_of later)
  accepted (branch_item line block branch total)
combine_items mode (line_item line count checksum) later = do
  both ← agree same_bytes mode UnmatchedChecksum checksum (checksum_of later)
  total ← sum CountOverflow count (count_of later)
  accepted (line_item line total both)

unfoldable pub combine_entries : Mode → Entry → Entry → Answer Entry
combine_entries mode earlier later = do
  both ← combine_items mode earlier.item later.item
  accepted (in_section (section_key earlier) both)

-- a report with the entries of another joined to it, "key by key in order": new entries are taken over, those of a known key combined
unfoldable pub merge : Mode → Report → Report → Answer Report
merge mode into other = add_all entry_key compare_keys (combine_entries mode) other into

module _ {A : Type 0} where
  -- the value, where the number of entries is at most the limit
  unfoldable pub within : ℕ → ℕ → A → Answer A
  within limit entries a = if leb entries limit then accepted a else refuse TooManyEntries
