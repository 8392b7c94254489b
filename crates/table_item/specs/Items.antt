-- The item that a row is, together with the text. Assumes nothing.
use Rattle.std.specs.Prelude.{ℕ, zero, suc, ◌+◌, ◌*◌, ◌/◌, ◌%◌, ◌≤◌, ◌≡◌, length, take, drop, Option as LentOption, Some, None}
use Rattle.std.proofs.Math.Option.{Option, none, some}
use Rattle.table.specs.declared.Row.{Row}
use Rattle.model.specs.declared.Part.{Part}
use Rattle.model.specs.Bytes.{Bytes}
use Rattle.model.specs.Report.{Extent, extent_at, Function, function_of, Item, section_item, function_item, branch_item, line_item}

-- the part of the text that has a start and a length
abbrev pub part : Bytes → ℕ → ℕ → Bytes
part text start len = take len (drop start text)

-- ---- kinds

-- the tag is twice the kind, and one more where the end line, the taken count or the checksum is given
abbrev pub kind_of : Row → ℕ
kind_of r = r.tag / 2

abbrev pub function_kind : ℕ
function_kind = 1

abbrev pub branch_kind : ℕ
branch_kind = 2

abbrev pub line_kind : ℕ
line_kind = 3

-- a header row has no optional value, so its tag plus one is free to mark a deleted row
abbrev pub tombstone_tag : ℕ
tombstone_tag = 1

-- by kind: a section's header row, a function, a branch, a line
abbrev pub by_kind : {A : Type 0} → ℕ → A → A → A → A → A
by_kind zero a b c d = a
by_kind (suc zero) a b c d = b
by_kind (suc (suc zero)) a b c d = c
by_kind (suc (suc (suc k))) a b c d = d

-- a value, where the tag says that it is given
abbrev pub if_given : {A : Type 0} → ℕ → A → Option A
if_given zero a = none
if_given (suc k) a = some a

-- ---- functions

-- line numbers are below this
abbrev pub line_numbers : ℕ
line_numbers = 4_294_967_296

-- what FN says, in one word: 0 where there is no FN; one more than the start line; or, where the tag says that an end line is given, the
-- start line and `line_numbers` times the end line
abbrev pub extent_in : ℕ → ℕ → Option Extent
extent_in zero zero = none
extent_in zero (suc start) = some (extent_at start none)
extent_in (suc k) both = some (extent_at (both % line_numbers) (some (both / line_numbers)))

-- the tag and the word of an FN
abbrev pub extent_tag : LentOption ℕ → ℕ
extent_tag (Some line) = 3
extent_tag None = 2

abbrev pub extent_word : ℕ → LentOption ℕ → ℕ
extent_word start (Some line) = start + line * line_numbers
extent_word start None = start + 1

-- functions without a start line come first
abbrev pub start_key : Option Extent → ℕ
start_key none = 0
start_key (some x) = suc x.start

abbrev pub function_in : Bytes → Row → Function
function_in text r = function_of (part text r.k1 r.k2) (extent_in (r.tag % 2) r.k3) r.count

-- ---- items

unfoldable pub item_of : Bytes → Row → Item
item_of text r =
    by_kind (kind_of r)
    (section_item (part text r.path r.path_len))
    (function_item (function_in text r))
    (branch_item r.k1 r.k2 r.k3 (if_given (r.tag % 2) r.count))
    (line_item r.k1 r.count (if_given (r.tag % 2) (part text r.k2 r.k3)))

-- the kind is one of the four, and a function's name and a line's checksum are in the text
pub record ItemInBounds (text : Bytes) (r : Row) : Type 0 where
  pub kind : kind_of r ≤ line_kind
  pub name : kind_of r ≡ function_kind → r.k1 + r.k2 ≤ length text
  pub checksum : kind_of r ≡ line_kind → r.tag % 2 ≡ 1 → r.k2 + r.k3 ≤ length text

-- a function, a branch or a line
pub record ItemRow (text : Bytes) (r : Row) : Type 0 where
  pub good : ItemInBounds text r
  pub inner : function_kind ≤ kind_of r

-- ---- the rows of FN, FNDA, BRDA and DA

abbrev pub part_in : Bytes → Part → Bytes
part_in text p = part text p.start p.len

abbrev pub PartInside : Bytes → Part → Type 0
PartInside text p = p.start + p.len ≤ length text

abbrev pub checksum_part : Bytes → LentOption Part → Option Bytes
checksum_part text (Some p) = some (part_in text p)
checksum_part text None = none

abbrev pub ChecksumInside : Bytes → LentOption Part → Type 0
ChecksumInside text (Some p) = PartInside text p
ChecksumInside text None = Unit {0}

-- a row with no test name and path yet
abbrev pub item_row : ℕ → ℕ → ℕ → ℕ → ℕ → Row
item_row tag k1 k2 k3 count = record { test = 0; test_len = 0; path = 0; path_len = 0; tag = tag; k1 = k1; k2 = k2; k3 = k3; count = count }

-- with any text the row is an item of it, a proper one where the item's parts are inside
pub record Makes (r : Row) (item : Bytes → Item) (Inside : Bytes → Type 0) : Type 0 where
  pub is : (text : Bytes) → item_of text r ≡ item text
  pub inner : (text : Bytes) → Inside text → ItemRow text r
