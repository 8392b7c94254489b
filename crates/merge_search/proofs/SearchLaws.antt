-- The place of a key among entries in ascending order. Assumes nothing.
use Prim.Native.Nat.{ℕ, ◌+◌, ◌-◌, ◌≤◌, ◌<◌, compare, Ordering}
use native.Mathlib.Omega.{arith}
use mathlib.Core.Path.{◌≡◌, refl, sym, ap, ◌∙◌}
use mathlib.Core.Logic.{◌≢◌}
use mathlib.Core.Bool.{true, false}
use mathlib.Core.List.{List}
use lib.Dec.{compare_is_eq, eqb, leb, ltb}
use borrow.Author.Tests.{leb-true, lt-ltb, le-ltb, eq-eqb, ne_eqb}
use Rattle.table.specs.declared.Row.{Row}
use Rattle.table.specs.Store.{row}
use Rattle.table.specs.Places.{PartitionPoint, SearchBounds}
use Rattle.table.proofs.PlaceLaws.{by-eq}
use Rattle.table.proofs.BinarySearch.{Falling, by-test, bounds_done}
use Rattle.ordmap.specs.Compare.{lex}
use Rattle.ordmap.proofs.Orderings.{is_eq, said}
use Rattle.ordmap.proofs.Results.{impossible}
use Rattle.model.specs.Order.{is_less}
use Rattle.model.specs.Bytes.{Bytes}
use Rattle.model.specs.Report.{Entry, section_key, entry_key, compare_items, compare_sections, compare_keys}
use Rattle.model.proofs.KeyOrder.{keys-order, sections-order}
use Rattle.std.specs.Prelude.{Ok, Err}
use Rattle.table_item.specs.Items.{item_of, kind_of, branch_kind, line_kind, ItemInBounds}
use Rattle.table_item.proofs.CompareLaws.{branches, lines, lines-before}
use Rattle.table_item.proofs.SearchLaws.{is_lt, sorted_at}
use Rattle.table_section.specs.Sections.{entry_of, entry_at, key_of, RowInBounds}
use Rattle.merge_search.specs.Names.{SameNamePositions, LinesOfOne}
use Rattle.merge_search.specs.Search.{EntriesAscending, compare_entries, Before, Between, Passed, GallopBounds, SearchResult}
use Rattle.merge_search.proofs.NameLaws.{same_key}

-- ---- entries compared

pub by-item : (a b : Entry) (o : Ordering) → true ≡ compare_is_eq (compare_sections (section_key a) (section_key b)) → o ≡ compare_items a.item b.item → o ≡ compare_entries a b
unfolding compare_keys entry_key compare_items
by-item a b o h e =
    e ∙ sym (ap (λ (x : Ordering). lex x (compare_items a.item b.item)) (is_eq (compare_sections (section_key a) (section_key b)) (sym h)))

pub by-section : (a b : Entry) (o : Ordering) → false ≡ compare_is_eq (compare_sections (section_key a) (section_key b)) → o ≡ compare_sections (section_key a) (section_key b) → o ≡ compare_entries a b
unfolding compare_keys entry_key compare_items
by-section a b o h e = e ∙ go (compare_sections (section_key a) (section_key b)) h
  where
    go : (x : Ordering) → false ≡ compare_is_eq x → x ≡ lex x (compare_items a.item b.item)
    go Ordering.lt h = refl
    go Ordering.eq h = cc
    go Ordering.gt h = refl

-- names at the same offsets are those of one section
one_section : (text : Bytes) {x y : Row} → SameNamePositions x y → true ≡ compare_is_eq (compare_sections (key_of text x) (key_of text y))
one_section text {x} ν = sym (ap compare_is_eq (ap (compare_sections (key_of text x)) (sym (same_key text ν)) ∙ sections-order.same (key_of text x)))

-- the numbers of two lines decide
module _ {text : Bytes} {x y : Row} (wx : RowInBounds text x) (wy : RowInBounds text y) (both : LinesOfOne x y) where
  of_one : (o : Ordering) → o ≡ compare_items (item_of text x) (item_of text y) → o ≡ compare_entries (entry_of text x) (entry_of text y)
  of_one o = by-item (entry_of text x) (entry_of text y) o (one_section text both.names)

  pub by_lines : (o : Ordering) → o ≡ compare x.k1 y.k1 → o ≡ compare_entries (entry_of text x) (entry_of text y)
  by_lines o e =
      of_one o (lines text text x y wx.good wy.good (omega (arith, both.left, both.right)) (omega (arith, both.left, both.right)) both.left o e)

  pub same_lines : eqb x.k1 y.k1 ≡ compare_is_eq (compare_entries (entry_of text x) (entry_of text y))
  same_lines = ap compare_is_eq (by_lines _ refl)

  pub less-lines : ltb x.k1 y.k1 ≡ is_less (compare_entries (entry_of text x) (entry_of text y))
  less-lines = lines-before text text x y wx.good wy.good both.left both.right ∙ ap is_less (of_one _ refl)

-- rows that are told to be one item's by their numbers
module _ (x y : Row) (text : Bytes) (gx : ItemInBounds text x) (gy : ItemInBounds text y) (kinds : kind_of x ≡ kind_of y) (first : x.k1 ≡ y.k1) where
  pub equal-lines : kind_of x ≡ line_kind → compare_items (item_of text x) (item_of text y) ≡ Ordering.eq
  equal-lines e = sym (lines text text x y gx gy (omega arith) (omega arith) e Ordering.eq (sym (said Ordering.eq x.k1 y.k1 first)))

  pub equal-branches : kind_of x ≡ branch_kind → x.k2 ≡ y.k2 → x.k3 ≡ y.k3 → compare_items (item_of text x) (item_of text y) ≡ Ordering.eq
  equal-branches e second third = sym (branches text text x y gx gy (omega arith) (omega arith) e Ordering.eq (sym same))
    where
      same : lex (compare x.k1 y.k1) (lex (compare x.k2 y.k2) (compare x.k3 y.k3)) ≡ Ordering.eq
      same = rw (said Ordering.eq x.k1 y.k1 first, said Ordering.eq x.k2 y.k2 second, said Ordering.eq x.k3 y.k3 third)

-- equal items of sections whose names are at the same offsets
pub equal-entries : (text : Bytes) {x y : Row} → SameNamePositions x y → compare_items (item_of text x) (item_of text y) ≡ Ordering.eq
    → compare_entries (entry_of text x) (entry_of text y) ≡ Ordering.eq
equal-entries text {x} {y} ν e = sym (by-item (entry_of text x) (entry_of text y) Ordering.eq (one_section text ν) (sym e))

-- a row that the store handed out
pub whole_as : {text : Bytes} {r q : Row} → r ≡ q → RowInBounds text q → RowInBounds text r
whole_as e w = rw e w

-- ---- which entries come before a key

module _ {text ws : List ℕ} {index used n : ℕ} (key : Row) (ρ : EntriesAscending text ws index used n) where
  pub before_falls : Falling (Before text ws index key) n
  before_falls k j l h t =
      by-eq k j
      (λ q. rw q t)
      (λ q. ap is_less (keys-order.trans (sorted_at entry_key compare_keys (entry_at text ws index) n ρ.sorted k j (omega arith) h) (is_lt _ t)))

  module _ {lo hi : ℕ} (σ : GallopBounds (Before text ws index key) n lo hi) where
    pub span-bounds : SearchBounds (Before text ws index key) n lo hi
    span-bounds = record {
      ends = σ.ends;
      most = σ.most;
      past = σ.past;
      rest = λ k l h. by-test (Before text ws index key k)
          (λ t. let z : true ≡ false = sym (before_falls hi k l h t) ∙ σ.stop (omega arith) in cc)
          (λ e. e);
    }

module _ (text ws : List ℕ) (index : ℕ) (key : Row) where
  pub passed-before : (from : ℕ) → Passed text ws index key from → (k : ℕ) → k < from → Before text ws index key k ≡ true
  passed-before from p k l = ap is_less (p k l)

  pub passed_partition : {n i : ℕ} → PartitionPoint (Before text ws index key) n i → Passed text ws index key i
  passed_partition κ k l = is_lt _ (κ.past k l)

-- ---- the answers of the searches

module _ {text ws : List ℕ} {index used n : ℕ} (key : Row) (ρ : EntriesAscending text ws index used n) where
  -- an entry that comes before the key is passed with all before it
  pub passed-up : (at : ℕ) → at < n → Before text ws index key at ≡ true → Passed text ws index key (at + 1)
  passed-up at h t k l = is_lt _ (before_falls key ρ k at (omega arith) h t)

  pub passed-greater : (at : ℕ) → at < n → is_less (compare_entries (entry_of text key) (entry_at text ws index at)) ≡ false
      → compare_is_eq (compare_entries (entry_of text key) (entry_at text ws index at)) ≡ false → Passed text ws index key (at + 1)
  passed-greater at h a b = passed-up at h (go (compare_entries (entry_of text key) (entry_at text ws index at)) refl a b)
    where
      go : (o : Ordering) → compare_entries (entry_of text key) (entry_at text ws index at) ≡ o → is_less o ≡ false → compare_is_eq o ≡ false → Before text ws index key at ≡ true
      go Ordering.lt q a b = cc
      go Ordering.eq q a b = cc
      go Ordering.gt q a b = ap is_less (keys-order.less q)

pub spans : (text ws : List ℕ) (index n : ℕ) (key : Row) (lo hi : ℕ) → lo ≤ hi → hi ≤ n → Passed text ws index key lo
    → (hi < n → Before text ws index key hi ≡ false) → GallopBounds (Before text ws index key) n lo hi
spans text ws index n key lo hi a b p s = record { ends = a; most = b; past = passed-before text ws index key lo p; stop = s }

-- the entry before a place comes before the key, and the one there does not
module _ {text ws : List ℕ} {index used n : ℕ} (key : Row) (ρ : EntriesAscending text ws index used n) (at : ℕ) (h : 0 < at) (l : at < n) where
  pub partition_here : Before text ws index key at ≡ false → Before text ws index key (at - 1) ≡ true → PartitionPoint (Before text ws index key) n at
  partition_here f t = bounds_done (span-bounds key ρ (spans text ws index n key at at (omega arith) (omega arith) passed (λ g. f))) (omega arith)
    where
      passed : Passed text ws index key at
      passed = let z : at - 1 + 1 ≡ at = omega arith in rw z at (passed-up key ρ (at - 1) (omega arith) t)

module _ (text ws : List ℕ) (index n i : ℕ) (key : Row) (κ : PartitionPoint (Before text ws index key) n i) where
  pub result_end : n ≤ i → SearchResult text ws index n key (Err i)
  result_end h = (κ.most, passed_partition text ws index key κ, λ l. absurd (omega arith))

  pub result_known : i < n → compare_is_eq (compare_entries (entry_of text key) (entry_at text ws index i)) ≡ true → SearchResult text ws index n key (Ok i)
  result_known h q = (h, passed_partition text ws index key κ, is_eq _ q)

  pub result_gap : i < n → compare_is_eq (compare_entries (entry_of text key) (entry_at text ws index i)) ≡ false → SearchResult text ws index n key (Err i)
  result_gap h q = (κ.most, passed_partition text ws index key κ, λ l. go (compare_entries (entry_of text key) (entry_at text ws index i)) refl q)
    where
      go : (o : Ordering) → compare_entries (entry_of text key) (entry_at text ws index i) ≡ o → compare_is_eq o ≡ false → compare_entries (entry_of text key) (entry_at text ws index i) ≡ Ordering.lt
      go Ordering.lt p n = p
      go Ordering.eq p n = cc
      go Ordering.gt p n = let z : true ≡ false = sym (ap is_less (keys-order.less p)) ∙ κ.rest i (omega arith) h in impossible cc

-- ---- a line between two

-- the rows that were read show it
pub between : {ws : List ℕ} {index at : ℕ} {key before here : Row} → before ≡ row ws index (at - 1) → here ≡ row ws index at
    → LinesOfOne before key → LinesOfOne here key → before.k1 < key.k1 → leb key.k1 here.k1 ≡ true → Between ws index key at
between {key = key} {here = r} e f b h l m = record { before = rw e at b; here = rw f at h; past = rw e at l; up_to = rw f at (leb-true key.k1 r.k1 m) }

flipped : {x y : Row} → LinesOfOne x y → LinesOfOne y x
flipped λ' = record {
  left = λ'.right;
  right = λ'.left;
  names = record {
    test = sym λ'.names.test;
    test_len = sym λ'.names.test_len;
    path = sym λ'.names.path;
    path_len = sym λ'.names.path_len;
  };
}

module _ {text ws : List ℕ} {index used n : ℕ} (key : Row) (whole : RowInBounds text key) (ρ : EntriesAscending text ws index used n) (at : ℕ) (h : 0 < at) (l : at < n)
    (β : Between ws index key at) where
  between_partition : PartitionPoint (Before text ws index key) n at
  between_partition = partition_here key ρ at h l
      (sym (less-lines (ρ.whole at l) whole β.here) ∙ le-ltb _ _ β.up_to)
      (sym (less-lines (ρ.whole (at - 1) (omega arith)) whole β.before) ∙ lt-ltb _ _ β.past)

  stands : eqb key.k1 (row ws index at).k1 ≡ compare_is_eq (compare_entries (entry_of text key) (entry_at text ws index at))
  stands = same_lines whole (ρ.whole at l) (flipped β.here)

  pub between_known : {here : Row} → here ≡ row ws index at → key.k1 ≡ here.k1 → SearchResult text ws index n key (Ok at)
  between_known e q = result_known text ws index n at key between_partition l (sym stands ∙ eq-eqb _ _ (rw e at q))

  pub between_gap : {here : Row} → here ≡ row ws index at → key.k1 ≢ here.k1 → SearchResult text ws index n key (Err at)
  between_gap e q = result_gap text ws index n at key between_partition l (sym stands ∙ ne_eqb _ _ (rw e at q))
