-- Entries by their places: those still to come, and those among which a key has its place. Assumes nothing.
use Prim.Native.Nat.{Ordering}
use Prim.Native.Nat.{ℕ, zero, suc, ◌+◌, ◌-◌, ◌≤◌, ◌<◌}
use native.Mathlib.Omega.{arith}
use native.Mathlib.Nat.{zero-add}
use mathlib.Core.Path.{◌≡◌, refl, ap, ap₂, ◌∙◌}
use mathlib.Core.Bool.{false}
use mathlib.Core.Option.{none}
use mathlib.Core.List.Memᴰ.{head as here}
use mathlib.Core.List.Memᴰ.{tail as there}
use mathlib.Core.List.{List, [], ◌∷◌, ◌++◌, Memᴰ as Member}
use lib.Dec.{compare_is_eq}
use Rattle.table.specs.declared.Row.{Row}
use Rattle.table.specs.Places.{tabulate}
use Rattle.table.proofs.PlaceLaws.{by-eq, by-lt}
use Rattle.table.proofs.TabulateLaws.{tabulate_cong, tabulate-split}
use Rattle.ordmap.specs.Keyed.{Sorted, find}
use Rattle.ordmap.proofs.Members.{sorted-right}
use Rattle.model.specs.Report.{Entry, Report, Key, entry_key, compare_keys}
use Rattle.model.proofs.KeyOrder.{keys-order}
use Rattle.table_section.specs.Sections.{entry_of, entry_at, entries_at}
use Rattle.table_item.proofs.SearchLaws.{sorted_at}
use Rattle.std.specs.Prelude.{Ok, Err}
use Rattle.merge_search.specs.Search.{EntriesAscending, SearchResult, compare_entries}

-- ---- the entries still to come

abbrev pub rest_from : (ℕ → Entry) → ℕ → ℕ → Report
rest_from f m k = tabulate (λ i. f (k + i)) (m - k)

pub rest-next : (f : ℕ → Entry) (m k : ℕ) → k < m → rest_from f m k ≡ f k ∷ rest_from f m (k + 1)
unfolding tabulate
rest-next f m k h =
    ap (tabulate (λ i. f (k + i))) (let z : m - k ≡ suc (m - (k + 1)) = omega arith in z)
    ∙ ap₂ (λ (x : Entry) (xs : Report). x ∷ xs) (ap f (let z : k + 0 ≡ k = omega arith in z))
    (tabulate_cong (λ i. f (k + suc i)) (λ i. f (k + 1 + i)) (m - (k + 1)) (λ i l. ap f (let z : k + suc i ≡ k + 1 + i = omega arith in z)))

pub rest_sorted : (f : ℕ → Entry) (m k : ℕ) → k ≤ m → Sorted entry_key compare_keys (tabulate f m) → Sorted entry_key compare_keys (rest_from f m k)
rest_sorted f m k h s = sorted-right entry_key compare_keys (tabulate f k) (rest_from f m k) (go (tabulate f m) split s)
  where
    split : tabulate f m ≡ tabulate f k ++ rest_from f m k
    split = ap (tabulate f) (let z : m ≡ k + (m - k) = omega arith in z) ∙ tabulate-split f k (m - k)

    go : (l : Report) → l ≡ tabulate f k ++ rest_from f m k → Sorted entry_key compare_keys l → Sorted entry_key compare_keys (tabulate f k ++ rest_from f m k)
    go l e t = rw e at t

pub rest-start : (f : ℕ → Entry) (m : ℕ) → rest_from f m 0 ≡ tabulate f m
rest-start f m = ap (tabulate (λ i. f (0 + i))) (let z : m - 0 ≡ m = omega arith in z) ∙ tabulate_cong (λ i. f (0 + i)) f m (λ i l. ap f (zero-add i))

pub rest_end : (f : ℕ → Entry) (m k : ℕ) → m ≤ k → rest_from f m k ≡ []
unfolding tabulate
rest_end f m k h = ap (tabulate (λ i. f (k + i))) (let z : m - k ≡ 0 = omega arith in z)

-- ---- entries by their places

-- what holds at each place holds of each
pub each-tabulate : (P : Entry → Type 0) (f : ℕ → Entry) (n : ℕ) → ((j : ℕ) → j < n → P (f j)) → (a : Entry) → Member a (tabulate f n) → P a
unfolding tabulate
each-tabulate P f zero h a x'' = elim x'' [ ]
each-tabulate P f (suc n) h a (here e) = rw e (h 0 (omega arith))
each-tabulate P f (suc n) h a (there i) = each-tabulate P (λ j. f (suc j)) n (λ j l. h (suc j) (omega arith)) a i

-- a key that no entry has is not found
none-tabulate : (k : Key) (f : ℕ → Entry) (n : ℕ) → ((j : ℕ) → j < n → compare_is_eq (compare_keys k (entry_key (f j))) ≡ false)
    → find entry_key compare_keys k (tabulate f n) ≡ none
unfolding tabulate
none-tabulate k f zero h = refl
none-tabulate k f (suc n) h = rw (h 0 (omega arith)) (none-tabulate k (λ j. f (suc j)) n (λ j l. h (suc j) (omega arith)))

-- one more entry at the end
pub tabulate-last : (g f : ℕ → Entry) (p : ℕ) (e : Entry) → ((j : ℕ) → j < p → g j ≡ f j) → g p ≡ e → tabulate g (p + 1) ≡ tabulate f p ++ e ∷ []
unfolding tabulate
tabulate-last g f p e h last =
    tabulate-split g p 1
    ∙ ap₂ (λ (l m : Report). l ++ m) (tabulate_cong g f p h) (ap (λ (x : Entry). x ∷ []) (ap g (let z : p + 0 ≡ p = omega arith in z) ∙ last))

-- the place of a key that none of the entries has
module _ {text ws : List ℕ} {index used n i : ℕ} (r : Row) (ρ : EntriesAscending text ws index used n) (s : SearchResult text ws index n r (Err i)) where
  pub result_rest : (k : ℕ) → i ≤ k → k < n → compare_entries (entry_of text r) (entry_at text ws index k) ≡ Ordering.lt
  result_rest k l h =
      by-eq i k
      (λ e. rw (← e) (s.2 (omega arith)))
      (λ e. keys-order.trans (s.2 (omega arith)) (sorted_at entry_key compare_keys (entry_at text ws index) n ρ.sorted i k (omega arith) h))

  pub result_none : find entry_key compare_keys (entry_key (entry_of text r)) (entries_at text ws index n) ≡ none
  result_none =
      none-tabulate (entry_key (entry_of text r)) (entry_at text ws index) n
      (λ k l. by-lt k i (λ h. ap compare_is_eq (keys-order.greater (s.1 k h))) (λ h. ap compare_is_eq (result_rest k h l)))
