-- The joined report of a bundle's reports, said by keys and sums and not by merges; when the checked gather accepts, and
-- bundles in two orders. Assumes nothing.
use Prim.Native.Nat.{Ordering}
use Rattle.std.specs.Prelude.{ℕ, ◌+◌, min, ◌≡◌, Bool, true, ◌&&◌, leb, eqb}
use mathlib.Core.List.{List, [], ◌∷◌, map, Memᴰ as Member}
use Rattle.std.proofs.Math.Option.{Option, none, some}
use Rattle.ordmap.specs.Keyed.{with_key}
use Rattle.ordmap.specs.Gathering.{flat, times, read_all as readEach}
use Rattle.model.specs.declared.Kind.{Kind}
use Rattle.model.specs.Lists.{all}
use Rattle.model.specs.Bytes.{Bytes, same_bytes}
use Rattle.model.specs.Answer.{Answer}
use Rattle.model.specs.Limits.{u64_max}
use Rattle.model.specs.Report.{
  Item,
  section_item,
  function_item,
  branch_item,
  line_item,
  Entry,
  Report,
  section_key,
  in_section,
  Key,
  compare_keys,
  entry_key,
  Extent,
  extent_at,
  updated,
  start_of,
  end_of,
  larger,
  taken_of,
  checksum_of,
  count_of,
}
use Rattle.model.specs.Reading.{read_text}
use Rattle.model.specs.Bundle.{Text, contents}

-- ---- the reports read

module _ (tag : Kind → Bytes) where
  -- the reports of texts, one for each time a text is named, or the first refusal
  abbrev pub read_all : ℕ → List Text → Answer (List Report)
  read_all limit texts = readEach (read_text tag limit) (contents texts)

-- ---- all keys

-- an entry into entries with one for each key; one that is there stays
unfoldable pub insert_key : Entry → List Entry → List Entry
insert_key e [] = e ∷ []
insert_key e (x ∷ xs) =
    elim (compare_keys (entry_key e) (entry_key x)) [ Ordering.lt ↦ e ∷ x ∷ xs | Ordering.eq ↦ x ∷ xs | Ordering.gt ↦ x ∷ insert_key e xs ]

-- an entry for each key, in key order
unfoldable pub distinct_keys : List Entry → List Entry
distinct_keys [] = []
distinct_keys (e ∷ es) = insert_key e (distinct_keys es)

-- the entries of all reports, in the order of the texts
abbrev pub all_entries : List Report → List Entry
all_entries reports = flat reports

-- some entry has the key
abbrev pub HasKey : Key → List Entry → Type 0
HasKey key es = (e : Entry) × Member e es × (entry_key e ≡ key)

-- the items that the reports have at a key, in the order of the texts
unfoldable pub items_at : Key → List Report → List Item
items_at key reports = map (λ e. e.item) (with_key entry_key compare_keys key (all_entries reports))

-- ---- the value of a key

module _ {A : Type 0} where
  -- the given one, or none if none is given
  unfoldable pub given : List (Option A) → Option A
  given [] = none
  given (none ∷ rest) = given rest
  given (some a ∷ rest) = some a

  -- all that are given agree with a
  unfoldable pub all_agree : (A → A → Bool) → A → List (Option A) → Bool
  all_agree same a [] = true
  all_agree same a (none ∷ rest) = all_agree same a rest
  all_agree same a (some b ∷ rest) = same a b && all_agree same a rest

  -- all that are given agree
  unfoldable pub agreeing : (A → A → Bool) → List (Option A) → Bool
  agreeing same [] = true
  agreeing same (none ∷ rest) = agreeing same rest
  agreeing same (some a ∷ rest) = all_agree same a rest

unfoldable pub total : List ℕ → ℕ
total [] = 0
total (n ∷ ns) = n + total ns

-- none adds nothing
abbrev pub add_given : Option ℕ → Option ℕ → Option ℕ
add_given none b = b
add_given (some a) none = some a
add_given (some a) (some b) = some (a + b)

-- the sum of the given ones, none if none is given
unfoldable pub total_given : List (Option ℕ) → Option ℕ
total_given [] = none
total_given (n ∷ ns) = add_given n (total_given ns)

-- the largest of the given ones, none if none is given
unfoldable pub largest : List (Option ℕ) → Option ℕ
largest [] = none
largest (n ∷ ns) = larger n (largest ns)

-- a start line, if there is one, and an end line
abbrev pub extent_from : Option ℕ → Option ℕ → Option Extent
extent_from none end = none
extent_from (some start) end = some (extent_at start end)

-- the joined item of items with one key, of the first one's kind: "A section's path is spelled as in the first text whose report has
-- that key. A start or checksum is the given one, or none if no report gives one. A line's count is the sum of its counts. A branch's
-- is the sum of the given ones, none if none is given. A function's is the sum or 2^64 − 1, whichever is less." A function's end is the
-- largest given.
unfoldable pub joined_as : Item → List Item → Item
joined_as (section_item spelling) items = section_item spelling
joined_as (function_item f) items =
    function_item (updated f (extent_from (given (map start_of items)) (largest (map end_of items))) (min (total (map count_of items)) u64_max))
joined_as (branch_item line block branch taken) items = branch_item line block branch (total_given (map taken_of items))
joined_as (line_item line count checksum) items =
    line_item line (total (map count_of items)) (given (map checksum_of items))

-- a key of the joined report has an item, so the first line is never needed
unfoldable pub joined_item : List Item → Item
joined_item [] = section_item []
joined_item (first ∷ rest) = joined_as first (first ∷ rest)

unfoldable pub joined_entry : List Report → Entry → Entry
joined_entry reports e = in_section (section_key e) (joined_item (items_at (entry_key e) reports))

-- the joined report: "Its keys are all of theirs"
unfoldable pub joined_report : List Report → Report
joined_report reports = map (joined_entry reports) (distinct_keys (all_entries reports))

-- ---- when the checked gather accepts

-- the items at each key that some report has pass a test
abbrev pub at_each_key : (List Item → Bool) → List Report → Bool
at_each_key test reports = all (λ e. test (items_at (entry_key e) reports)) (all_entries reports)

-- given start lines agree
abbrev pub starts_agree : List Report → Bool
starts_agree reports = at_each_key (λ items. agreeing eqb (map start_of items)) reports

-- given checksums agree
abbrev pub checksums_agree : List Report → Bool
checksums_agree reports = at_each_key (λ items. agreeing same_bytes (map checksum_of items)) reports

-- the count of a line or branch, whose sums must fit; a function's are held instead
unfoldable pub summed_of : Item → ℕ
summed_of (section_item spelling) = 0
summed_of (function_item f) = 0
summed_of (branch_item line block branch taken) = count_of (branch_item line block branch taken)
summed_of (line_item line count checksum) = count

-- no line's or branch's counts add up past 2^64 − 1
abbrev pub sums_fit : List Report → Bool
sums_fit reports = at_each_key (λ items. leb (total (map summed_of items)) u64_max) reports

-- ---- two orders

-- lists of texts that are one in two orders: both name the same text contents, each equally often
abbrev pub SameTexts : List Text → List Text → Type 0
SameTexts a b = (bytes : Bytes) → times same_bytes bytes (contents a) ≡ times same_bytes bytes (contents b)

-- the spellings of a section's path
unfoldable pub spellings : List Item → List (Option Bytes)
spellings [] = []
spellings (section_item spelling ∷ items) = some spelling ∷ spellings items
spellings (function_item f ∷ items) = spellings items
spellings (branch_item line block branch taken ∷ items) = spellings items
spellings (line_item line count checksum ∷ items) = spellings items

-- every section's path has one spelling: all reports that have its key spell it with the same bytes
abbrev pub one_spelling : List Report → Bool
one_spelling reports = at_each_key (λ items. agreeing same_bytes (spellings items)) reports
