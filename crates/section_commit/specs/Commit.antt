-- The kept sections in two sorted parts: main, and behind it the delta, which is merged into main later. A replaced row
-- of main is a tombstone until compaction. Assumes nothing.
use Prim.Native.Nat.{ℕ, ◌+◌, ◌<◌, Ordering}
use Rattle.std.specs.Prelude.{◌≡◌, ◌≢◌, true, false, List, [], ◌∷◌, map, length}
use Rattle.table.specs.declared.Row.{Row}
use Rattle.table.specs.Places.{PartitionPoint}
use Rattle.table.specs.Rows.{word, UnchangedOutside}
use Rattle.ordmap.specs.Keyed.{by_order}
use Rattle.table_tombstone.specs.Live.{is_live, live_rows}
use Rattle.model.specs.Bytes.{Bytes}
use Rattle.model.specs.Report.{Report, section_key, compare_sections}
use Rattle.model.specs.Reading.{keep_section}
use Rattle.table_item.specs.Items.{kind_of}
use Rattle.table_item.specs.SortedItems.{items_at}
use Rattle.section_commit.specs.declared.KeptSizes.{KeptSizes}
use Rattle.table_section.specs.Sections.{test_of, path_of, entry_of, key_of, NamesInBounds, rows_from, entries_from, SectionsFrom, PastRow}

-- ---- two parts as one report

module _ {E K : Type 0} (key : E → K) (cmp : K → K → Ordering) where
  -- x and what `rest` makes of those behind it, among ys
  abbrev pub merge_sorted_from : E → (List E → List E) → List E → List E
  merge_sorted_from x rest [] = x ∷ rest []
  merge_sorted_from x rest (y ∷ ys) =
      let first = x ∷ rest (y ∷ ys) in
      let both = x ∷ rest ys in
      let second = y ∷ merge_sorted_from x rest ys in
      by_order (cmp (key x) (key y)) first both second

  -- two lists as one, in the order of their keys; no key is in both
  abbrev pub merge_sorted : List E → List E → List E
  merge_sorted [] ys = ys
  merge_sorted (x ∷ xs) ys = merge_sorted_from x (λ l. merge_sorted xs l) ys

-- two reports as one, in the order of their sections
abbrev pub merge_reports : Report → Report → Report
merge_reports xs ys = merge_sorted section_key compare_sections xs ys

-- the entries of the live ones of the first n rows f
abbrev pub live_entries_of : Bytes → (ℕ → Row) → ℕ → Report
live_entries_of text f n = map (entry_of text) (live_rows f n)

-- the report of main and of the delta behind it
abbrev pub kept_at : Bytes → List ℕ → ℕ → ℕ → ℕ → Report
kept_at text ws index main-size delta-size = merge_reports (live_entries_of text (rows_from ws index 0) main-size) (entries_from text ws index main-size delta-size)

-- a header row that caches its insert position in main, and how many items follow it, of which nothing is promised
abbrev pub with_position : Row → ℕ → ℕ → Row
with_position r place items = record {
  test = r.test;
  test_len = r.test_len;
  path = r.path;
  path_len = r.path_len;
  tag = r.tag;
  k1 = place;
  k2 = items;
  k3 = r.k3;
  count = r.count;
}

-- r is the insert position of the delta's j-th entry: how many entries of main come before it
abbrev pub PositionOf : Bytes → List ℕ → ℕ → ℕ → ℕ → ℕ → Type 0
PositionOf text ws index main-size j r = PartitionPoint (PastRow false text (rows_from ws index 0) (key_of text (rows_from ws index main-size j))) main-size r

-- each part is sorted, and the delta's header rows cache their insert positions; tombstones are in main, behind the
-- live rows of their section, and no section is live in both parts
pub record InParts (text ws : List ℕ) (index used main-size delta-size deleted : ℕ) : Type 0 where
  pub main : SectionsFrom text ws index used 0 main-size
  pub delta : SectionsFrom text ws index used main-size delta-size
  pub front : (i j : ℕ) → i < j → j < main-size
      → compare_sections (key_of text (rows_from ws index 0 i)) (key_of text (rows_from ws index 0 j)) ≡ Ordering.eq
      → is_live (rows_from ws index 0 j) ≡ true → is_live (rows_from ws index 0 i) ≡ true
  pub live : (j : ℕ) → j < delta-size → is_live (rows_from ws index main-size j) ≡ true
  pub apart : (i j : ℕ) → i < main-size → is_live (rows_from ws index 0 i) ≡ true → j < delta-size
      → compare_sections (key_of text (rows_from ws index main-size j)) (key_of text (rows_from ws index 0 i)) ≢ Ordering.eq
  pub positions : (j : ℕ) → j < delta-size → kind_of (rows_from ws index main-size j) ≡ 0 → PositionOf text ws index main-size j (rows_from ws index main-size j).k1
  pub count : length (live_rows (rows_from ws index 0) main-size) + deleted ≡ main-size

-- the words hold the parts
abbrev pub KeptSections : List ℕ → List ℕ → ℕ → ℕ → KeptSizes → Type 0
KeptSections text ws index used p = InParts text ws index used p.main p.delta p.tombstones

-- the report that the parts are
abbrev pub report_of : Bytes → List ℕ → ℕ → KeptSizes → Report
report_of text ws index p = kept_at text ws index p.main p.delta

-- ---- the delta merged

-- the n words from at on are a number, and no other word has changed
pub record Filled (ws ws' : List ℕ) (at n value : ℕ) : Type 0 where
  pub there : (k : ℕ) → k < n → word ws' (at + k) ≡ value
  pub kept : UnchangedOutside ws ws' at (at + n)

-- the words from spare on are the delta's insert positions, and no other word has changed
pub record PositionsWritten (text ws ws' : List ℕ) (index spare main-size delta-size : ℕ) : Type 0 where
  pub kept : UnchangedOutside ws ws' spare (spare + delta-size)
  pub places : (j : ℕ) → j < delta-size → PositionOf text ws index main-size j (word ws' (spare + j))

-- the parts have changed, and the report has not
pub record SameReport (text ws ws' : List ℕ) (index used : ℕ) (p r : KeptSizes) : Type 0 where
  pub report : report_of text ws' index r ≡ report_of text ws index p
  pub held : KeptSections text ws' index used r

-- all entries are in main, and there is no tombstone: the first n entries are the report
pub record MergedAndCompacted (text ws ws' : List ℕ) (index used : ℕ) (p : KeptSizes) (n : ℕ) : Type 0 where
  pub report : entries_from text ws' index 0 n ≡ report_of text ws index p
  pub held : InParts text ws' index used n 0 0

-- ---- the end of a section

-- r has the test name, the path and the tag of the key, at any offsets in the text
pub record SameNameBytes (text : Bytes) (key r : Row) : Type 0 where
  pub named : NamesInBounds text r
  pub test : test_of text r ≡ test_of text key
  pub path : path_of text r ≡ path_of text key
  pub tag : r.tag ≡ key.tag

-- the open section, which follows the delta, is kept as the model keeps it
pub record Committed (text ws ws' : List ℕ) (index used : ℕ) (p : KeptSizes) (n : ℕ) (key : Row) (r : KeptSizes) : Type 0 where
  pub report : report_of text ws' index r
      ≡ keep_section (test_of text key) (path_of text key) (items_at text ws index (p.main + p.delta + 1) n) (report_of text ws index p)
  pub held : KeptSections text ws' index used r
