-- The delta is merged, and the tombstones are compacted. Assumes nothing.
use mathlib.Core.Path.{◌≡◌, refl, sym, ap, subst, ◌∙◌}
use mathlib.Core.Logic.{◌≢◌}
use mathlib.Core.Bool.{Bool, true, false}
use mathlib.Core.List.{List, ◌∷◌, map}
use Prim.Native.Nat.{Ordering}
use Prim.Native.Nat.{ℕ, zero, suc, ◌+◌, ◌<◌}
use native.Mathlib.Omega.{arith}
use lib.ListN.{length}
use Rattle.table.specs.declared.Row.{Row}
use Rattle.table.specs.Places.{tabulate}
use Rattle.table.specs.Store.{row, Store}
use Rattle.table.proofs.TabulateLaws.{tabulate_cong, map-tabulate}
use Rattle.model.specs.Report.{compare_sections}
use Rattle.std.specs.Prelude.{if◌then◌else◌}
use Rattle.model.specs.Lists.{filter}
use Rattle.model.proofs.ListLaws.{All}
use Rattle.table_tombstone.specs.Live.{is_live, live_rows, Compacted}
use Rattle.table_tombstone.proofs.LiveLaws.{live_all, live-each, live-most}
use Rattle.table_section.specs.Sections.{entry_of, key_of, RowInBounds, rows_from, entries_from, SectionsFrom}
use Rattle.section_commit.specs.declared.KeptSizes.{KeptSizes}
use Rattle.section_commit.specs.Commit.{kept_at, InParts, KeptSections, SameReport, MergedAndCompacted}
use Rattle.section_commit.proofs.HeldLaws.{all-main, kept-main}
use Rattle.section_commit.proofs.PairLaws.{all_at_lem, Pairs, pairs-tabulate, pairs_at, pairs_select}

module _ {text ws ws' : List ℕ} {index used main-size deleted r : ℕ} (π : InParts text ws index used main-size 0 deleted) (σ : Store ws' index used)
    (ς : Compacted (row ws index) (row ws' index) main-size r) where
  abbrev E : ℕ → Row
  E = rows_from ws index 0

  abbrev G : ℕ → Row
  G = rows_from ws' index 0

  -- the remaining rows are the live ones
  rows : tabulate G r ≡ live_rows E main-size
  rows =
      tabulate_cong G (row ws' index) r (λ k l. ap (row ws' index) (let e : 0 + k ≡ k = omega arith in e))
      ∙ ς.rows
      ∙ ap (filter is_live) (tabulate_cong (row ws index) E main-size (λ k l. ap (row ws index) (let e : k ≡ 0 + k = omega arith in e)))

  -- what holds of each live row holds of each remaining row
  each : (P : Row → Type 0) → ((k : ℕ) → k < main-size → is_live (E k) ≡ true → P (E k)) → (k : ℕ) → k < r → P (G k)
  each P h = all_at_lem P G r (subst (All P) (sym rows) (live-each P E main-size h))

  abbrev InOrder : Row → Row → Type 0
  InOrder a b = compare_sections (key_of text a) (key_of text b) ≢ Ordering.gt

  ordered : (i j : ℕ) → i < j → j < r → InOrder (G i) (G j)
  ordered = pairs_at InOrder G r (subst (Pairs InOrder) (sym rows)
      (pairs_select InOrder is_live (tabulate E main-size) (pairs-tabulate InOrder E main-size π.main.rows.ordered)))

  sections : SectionsFrom text ws' index used 0 r
  sections = record {
    store = σ;
    room = omega (arith, ς.most, π.main.room);
    rows = record { whole = each (RowInBounds text) (λ k l a. π.main.rows.whole k l); ordered = ordered };
  }

  entries : entries_from text ws' index 0 r ≡ kept_at text ws index main-size 0
  entries = sym (map-tabulate (entry_of text) G r) ∙ ap (map (entry_of text)) rows ∙ sym (kept-main text ws index main-size)

  pub compacted_parts : InParts text ws' index used r 0 0
  compacted_parts = all-main sections (each (λ (a : Row). is_live a ≡ true) (λ k l a. a))

  -- what `merge_and_compact` promises, after the delta is merged
  pub main_compacted : {ws₀ : List ℕ} {p : KeptSizes} → SameReport text ws₀ ws index used p (record { main = main-size; delta = 0; tombstones = deleted })
      → MergedAndCompacted text ws₀ ws' index used p r
  main_compacted same = record { report = entries ∙ same.report; held = compacted_parts }

-- where all n rows count as live, each row is live
live_full : (f : ℕ → Row) (n : ℕ) → length (live_rows f n) ≡ n → (k : ℕ) → k < n → is_live (f k) ≡ true
unfolding tabulate filter
live_full f zero e k l = absurd (omega arith)
live_full f (suc n) e k l = go (is_live (f 0)) refl e k l (live_full (λ i. f (suc i)) n)
  where
    go : (b : Bool) → is_live (f 0) ≡ b → length (if b then f 0 ∷ live_rows (λ i. f (suc i)) n else live_rows (λ i. f (suc i)) n) ≡ suc n → (k : ℕ) → k < suc n
        → (length (live_rows (λ i. f (suc i)) n) ≡ n → (k : ℕ) → k < n → is_live (f (suc k)) ≡ true) → is_live (f k) ≡ true
    go true t e zero l rest = t
    go true t e (suc k) l rest = rest (omega arith) k (omega arith)
    go false t e k l rest = absurd (omega (arith, live-most (λ i. f (suc i)) n))

-- and so none is to be dropped
pub main-whole : {text ws₀ ws : List ℕ} {index used main-size : ℕ} {p : KeptSizes}
    → SameReport text ws₀ ws index used p (record { main = main-size; delta = 0; tombstones = 0 }) → MergedAndCompacted text ws₀ ws index used p main-size
main-whole {text} {ws₀} {ws} {index} {used} {main-size} same =
    let all : (k : ℕ) → k < main-size → is_live (rows_from ws index 0 k) ≡ true = live_full (rows_from ws index 0) main-size (omega (arith, same.held.count)) in
    record {
      report =
          sym (map-tabulate (entry_of text) (rows_from ws index 0) main-size)
          ∙ ap (map (entry_of text)) (sym (live_all (rows_from ws index 0) main-size all))
          ∙ sym (kept-main text ws index main-size)
          ∙ same.report;
      held = same.held;
    }

-- ---- what `merge_and_compact` owes: numbers are known by others

report_as : {text ws ws' : List ℕ} {index used : ℕ} {p q r : KeptSizes} → q ≡ r → SameReport text ws ws' index used p q → SameReport text ws ws' index used p r
report_as e σ = rw e at σ

module _ {text ws₀ ws : List ℕ} {index used : ℕ} {p : KeptSizes} (r : KeptSizes) (none : r.delta ≡ 0) (same : SameReport text ws₀ ws index used p r) where
  pub all_whole : r.tombstones ≡ 0 → MergedAndCompacted text ws₀ ws index used p r.main
  all_whole e = main-whole (report_as (λ i. record { main = r.main; delta = none i; tombstones = e i }) same)

  pub all_compacted : {ws' : List ℕ} {n : ℕ} → Store ws' index used → Compacted (row ws index) (row ws' index) r.main n
      → MergedAndCompacted text ws₀ ws' index used p n
  all_compacted σ ς =
      let same' = report_as (λ i. record { main = r.main; delta = none i; tombstones = r.tombstones }) same in
      main_compacted same'.held σ ς same'

-- ---- what `maintain` owes

pub many_compacted : {text ws ws' : List ℕ} {index used n : ℕ} {p : KeptSizes} → MergedAndCompacted text ws ws' index used p n
    → SameReport text ws ws' index used p (record { main = n; delta = 0; tombstones = 0 })
many_compacted {text} {ws} {ws'} {index} {used} {n} {p} σ = record {
  report =
      kept-main text ws' index n
      ∙ ap (map (entry_of text)) (live_all (rows_from ws' index 0) n (live_full (rows_from ws' index 0) n (omega (arith, σ.held.count))))
      ∙ map-tabulate (entry_of text) (rows_from ws' index 0) n
      ∙ σ.report;
  held = σ.held;
}

pub many_same : {text ws : List ℕ} {index used : ℕ} (p : KeptSizes) → KeptSections text ws index used p → SameReport text ws ws index used p p
many_same p π = record { report = refl; held = π }
