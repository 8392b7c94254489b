-- The kinds of a table's rows: a section's header row first, then its functions, branches and lines. Assumes nothing.
use Prim.Native.Nat.{ℕ, zero, suc, ◌+◌, ◌≤◌, ◌<◌, compare, Ordering}
use native.Mathlib.Omega.{arith}
use mathlib.Core.Path.{◌≡◌, refl, sym, ap, ap₂, ◌∙◌}
use mathlib.Core.Logic.{◌≢◌}
use mathlib.Core.List.{List, [], ◌∷◌, ◌++◌, map}
use mathlib.Core.Option.{Option}
use Rattle.ordmap.specs.Compare.{lex}
use Rattle.ordmap.specs.Keyed.{Sorted}
use Rattle.ordmap.proofs.Orderings.{saying}
use Rattle.ordmap.proofs.Members.{sorted-right}
use Rattle.ordmap.proofs.Results.{impossible}
use Rattle.table.specs.declared.Row.{Row}
use Rattle.table.specs.Places.{tabulate}
use Rattle.table.specs.Store.{row}
use Rattle.table.proofs.PlaceLaws.{by-eq, by-lt}
use Rattle.model.specs.Bytes.{Bytes, compare_bytes}
use Rattle.model.specs.Lists.{concat_map}
use Rattle.model.specs.Report.{Function, Item, section_item, function_item, branch_item, line_item, Entry, Report, SectionKey, item_key, entry_key, compare_keys, in_section}
use Rattle.model.proofs.Blocks.{SortedEntries, Block, block_entries, blocks_entries, blocks_of, sorted-items}
use Rattle.table_item.specs.Items.{kind_of, function_kind, branch_kind, line_kind, by_kind, item_of}
use Rattle.table_section.specs.Sections.{entry_at, entries_at}
use Rattle.section.specs.Table.{Table}
use Rattle.print_report.specs.Printing.{IsKindRange}

-- ---- items

-- an item's kind, first in its key
abbrev pub kind_in : Item → ℕ
kind_in (section_item spelling) = 0
kind_in (function_item f) = 1
kind_in (branch_item line block branch taken) = 2
kind_in (line_item line count checksum) = 3

kind-first : (i : Item) → (rest : List ℕ) × (item_key i ≡ kind_in i ∷ rest)
unfolding item_key
kind-first (section_item spelling) = ([], refl)
kind-first (function_item f) = (f.name, refl)
kind-first (branch_item line block branch taken) = (line ∷ block ∷ branch ∷ [], refl)
kind-first (line_item line count checksum) = (line ∷ [], refl)

first-up : (a b : ℕ) (s t : List ℕ) → compare_bytes (a ∷ s) (b ∷ t) ≡ Ordering.lt → a ≤ b
unfolding compare_bytes
first-up a b s t h = go (compare a b) refl h
  where
    go : (o : Ordering) → compare a b ≡ o → lex o (compare_bytes s t) ≡ Ordering.lt → a ≤ b
    go Ordering.lt e q = omega (arith, saying a b Ordering.lt e)
    go Ordering.eq e q = omega (arith, saying a b Ordering.eq e)
    go Ordering.gt e q = impossible cc

-- by key, kinds don't go down
kinds_up : (i j : Item) → compare_bytes (item_key i) (item_key j) ≡ Ordering.lt → kind_in i ≤ kind_in j
kinds_up i j h =
    let (s, p) = kind-first i in
    let (t, q) = kind-first j in
    first-up (kind_in i) (kind_in j) s t (sym (ap₂ compare_bytes p q) ∙ h)

-- ---- entries

-- behind an entry of the kind, kinds do not descend until the next header entry
abbrev Rising : ℕ → Report → Type 0
Rising kind [] = Unit {0}
Rising kind (x ∷ xs) = (kind_in x.item ≢ 0 → kind ≤ kind_in x.item) × Rising (kind_in x.item) xs

rising-items : (key : SectionKey) (i : Item) (items : List Item) (rest : Report) → Sorted item_key compare_bytes (i ∷ items)
    → ((kind : ℕ) → Rising kind rest) → Rising (kind_in i) (map (in_section key) items ++ rest)
rising-items key i [] rest s h = h (kind_in i)
rising-items key i (j ∷ items) rest s h = ((λ n. kinds_up i j s.0.0), rising-items key j items rest s.1 h)

rising_blocks : (blocks : List Block) → SortedEntries (blocks_entries blocks) → (kind : ℕ) → Rising kind (blocks_entries blocks)
unfolding concat_map
rising_blocks [] s kind = tt
rising_blocks (b ∷ bs) s kind = (
  (λ n. absurd (n refl)),
  rising-items (b.test, b.path) (section_item b.spelling) b.items (blocks_entries bs)
      (sorted-items b.test b.path (section_item b.spelling ∷ b.items) (blocks_entries bs) s)
      (rising_blocks bs (sorted-right entry_key compare_keys (block_entries b) (blocks_entries bs) s)),
)

rising_at : (f : ℕ → Entry) (n kind : ℕ) → Rising kind (tabulate f n) → (k : ℕ) → suc k < n → kind_in (f (suc k)).item ≢ 0
    → kind_in (f k).item ≤ kind_in (f (suc k)).item
unfolding tabulate
rising_at f zero kind r k h n = absurd (omega arith)
rising_at f (suc zero) kind r k h n = absurd (omega arith)
rising_at f (suc (suc m)) kind r zero h n = r.1.0 n
rising_at f (suc (suc m)) kind r (suc k) h n = rising_at (λ i. f (suc i)) (suc m) (kind_in (f 0).item) r.1 k (omega arith) n

rising-first : (f : ℕ → Entry) (n : ℕ) → Rising 4 (tabulate f n) → 0 < n → kind_in (f 0).item ≢ 0 → 4 ≤ kind_in (f 0).item
unfolding tabulate
rising-first f zero r h n = absurd (omega arith)
rising-first f (suc m) r h n = r.0 n

-- ---- rows

kind-by : (kind : ℕ) (p : Bytes) (f : Function) (l b h : ℕ) (t : Option ℕ) (x y : ℕ) (z : Option Bytes) → kind ≤ line_kind
    → kind_in (by_kind kind (section_item p) (function_item f) (branch_item l b h t) (line_item x y z)) ≡ kind
kind-by zero p f l b h t x y z i = refl
kind-by (suc zero) p f l b h t x y z i = refl
kind-by (suc (suc zero)) p f l b h t x y z i = refl
kind-by (suc (suc (suc zero))) p f l b h t x y z i = refl
kind-by (suc (suc (suc (suc kind)))) p f l b h t x y z i = absurd (omega arith)

kind_of_lem : (text : Bytes) (r : Row) → kind_of r ≤ line_kind → kind_in (item_of text r) ≡ kind_of r
unfolding item_of
kind_of_lem text r h = kind-by (kind_of r) _ _ _ _ _ _ _ _ _ h

module _ {text ws : List ℕ} {index used n : ℕ} (τ : Table text ws index used n) where
  pub kind_at : (k : ℕ) → k < n → kind_in (entry_at text ws index k).item ≡ kind_of (row ws index k)
  kind_at k h = kind_of_lem text (row ws index k) (τ.whole k h).good.kind

  rising : Rising 4 (entries_at text ws index n)
  rising =
      let (blocks, e, shaped) = blocks_of (entries_at text ws index n) τ.valid in
      rw e (rising_blocks blocks (rw e at τ.valid.sorted) 4)

  -- the first row is a section's header
  pub first-header : 0 < n → kind_of (row ws index 0) ≡ 0
  first-header h =
      by-eq (kind_of (row ws index 0)) 0 (λ e. e)
      (λ e. absurd (omega (arith, kind_at 0 h, (τ.whole 0 h).good.kind, rising-first (entry_at text ws index) n rising h (λ z. e (sym (kind_at 0 h) ∙ z)))))

  rows-up : (k : ℕ) → suc k < n → kind_of (row ws index (suc k)) ≢ 0 → kind_of (row ws index k) ≤ kind_of (row ws index (suc k))
  rows-up k h e =
      omega (
        arith,
        kind_at k (omega arith),
        kind_at (suc k) h,
        rising_at (entry_at text ws index) n 4 rising k h (λ z. e (sym (kind_at (suc k) h) ∙ z)),
      )

  -- past a section's functions, branches and lines the next section starts
  pub next-header : {from f b l : ℕ} → 0 < from → IsKindRange ws index n from function_kind f → IsKindRange ws index n f branch_kind b → IsKindRange ws index n b line_kind l
      → l < n → kind_of (row ws index l) ≡ 0
  next-header {from} {f} {b} {l} z φ β λs h = by-eq (kind_of (row ws index l)) 0 (λ e. e) (λ e. absurd (go l refl e))
    where
      go : (k : ℕ) → l ≡ k → kind_of (row ws index l) ≢ 0 → ⊥
      go zero z' e = omega (arith, φ.least, β.least, λs.least)
      go (suc p) z' e =
          let up : kind_of (row ws index p) ≤ kind_of (row ws index l) = rw z' (rows-up p (omega arith) (λ q. e (ap (λ (j : ℕ). kind_of (row ws index j)) z' ∙ q))) in
          let most : kind_of (row ws index l) ≤ line_kind = (τ.whole l h).good.kind in
          by-lt b l
          (λ q. omega (arith, up, most, λs.each p (omega arith) (omega arith), λs.ends h))
          (λ q. let zb : b ≡ l = omega (arith, λs.least) in
          by-lt f b
          (λ q'. omega (arith, up, most, β.each p (omega arith) (omega arith), rw zb at (β.ends (omega arith)), λs.ends h))
          (λ q'. let zf : f ≡ l = omega (arith, β.least) in
          omega (arith, most, rw zf at (φ.ends (omega arith)), rw zb at (β.ends (omega arith)), λs.ends h)))

-- ---- the end of a kind's range

-- the rows from a place on are of the kind
pub record Running (ws : List ℕ) (index n from kind at : ℕ) : Type 0 where
  pub least : from ≤ at
  pub most : at ≤ n
  pub each : (k : ℕ) → from ≤ k → k < at → kind_of (row ws index k) ≡ kind

module _ {ws : List ℕ} {index n from kind : ℕ} where
  pub running_start : from ≤ n → Running ws index n from kind from
  running_start h = record { least = omega arith; most = h; each = λ k l i. absurd (omega arith) }

  module _ {at : ℕ} (ρ : Running ws index n from kind at) where
    pub running_next : {r : Row} → at < n → r ≡ row ws index at → kind_of r ≡ kind → Running ws index n from kind (at + 1)
    running_next h e q = record {
      least = omega (arith, ρ.least);
      most = omega arith;
      each = λ k l i. by-eq k at (λ z. rw z (ap kind_of (sym e) ∙ q)) (λ z. ρ.each k l (omega arith));
    }

    pub running_other : {r : Row} → r ≡ row ws index at → kind_of r ≢ kind → IsKindRange ws index n from kind at
    running_other e q = record { least = ρ.least; most = ρ.most; each = ρ.each; ends = λ h z. q (ap kind_of e ∙ z) }

    pub running_end : n ≤ at → IsKindRange ws index n from kind at
    running_end h = record { least = ρ.least; most = ρ.most; each = ρ.each; ends = λ l. absurd (omega arith) }
