-- Two tables, entry by entry. Assumes nothing.
use Prim.Native.Nat.{ℕ, zero, suc, ◌+◌, ◌≤◌, ◌<◌}
use native.Mathlib.Omega.{arith}
use mathlib.Core.Path.{◌≡◌, refl, sym, ap, ◌∙◌}
use mathlib.Core.Logic.{◌≢◌}
use mathlib.Core.Bool.{Bool, true, false, ◌&&◌}
use mathlib.Core.List.{List, [], ◌∷◌, map-append}
use lib.Dec.{leb, ltb, eqb, compare_is_eq}
use lib.ListN.{length-map}
use borrow.Author.Tests.{le-leb, lt-leb, eqb-true, eqb-false}
use Rattle.ordmap.proofs.Results.{impossible}
use Rattle.std.specs.Prelude.{if◌then◌else◌}
use Rattle.model.specs.Lists.{filter}
use Rattle.model.specs.Bytes.{Bytes}
use Rattle.model.specs.Limits.{max_entries}
use Rattle.model.specs.Report.{Item, Entry, Report, compare_keys, entry_key, count_of}
use Rattle.model.specs.Printing.{is_function, is_branch, is_line, hits}
use Rattle.model.proofs.ListLaws.{select_append, select_length}
use Rattle.model_totals.proofs.HitLaws.{one, hit-step, hits-append, hits_at_most}
use Rattle.model_bounds.specs.declared.Hits.{Hits}
use Rattle.model_bounds.specs.Bounds.{items_of, hits_in, same_keys, counts_rise, hits_of}
use Rattle.table.specs.declared.Row.{Row}
use Rattle.table.specs.Store.{row}
use Rattle.table.specs.Places.{tabulate}
use Rattle.table.proofs.TabulateLaws.{length-tabulate}
use Rattle.table_item.specs.Items.{item_of}
use Rattle.table_section.specs.Sections.{entry_of, entry_at, entries_at}
use Rattle.merge.proofs.RestLaws.{tabulate-last}
use Rattle.hit_bounds.specs.Pairs.{HitsBelow, hit_of, with_hit}

-- what holds of the first i places and of the next one
pub all-next : (p : ℕ → Bool) (i : ℕ) → ((k : ℕ) → k < i → p k ≡ true) → p i ≡ true → (k : ℕ) → k < i + 1 → p k ≡ true
all-next p i h e k l = go (eqb k i) refl
  where
    go : (t : Bool) → eqb k i ≡ t → p k ≡ true
    go true q = rw (eqb-true k i q) e
    go false q = h k (omega (arith, eqb-false k i q))

-- ---- keys

abbrev pub same_at : (ℕ → Entry) → (ℕ → Entry) → ℕ → Bool
same_at f g k = compare_is_eq (compare_keys (entry_key (f k)) (entry_key (g k)))

-- as the code has the rows in locals
pub key_at_lem : (a b : Bytes) (x y x' y' : Row) (r : Bool) → x ≡ x' → y ≡ y' → r ≡ compare_is_eq (compare_keys (entry_key (entry_of a x)) (entry_key (entry_of b y)))
    → (t : Bool) → r ≡ t → compare_is_eq (compare_keys (entry_key (entry_of a x')) (entry_key (entry_of b y'))) ≡ t
key_at_lem a b x y x' y' r p q e t f = rw (← p, ← q) (sym e ∙ f)

keys-all : (f g : ℕ → Entry) (n : ℕ) → ((k : ℕ) → k < n → same_at f g k ≡ true) → same_keys (tabulate f n) (tabulate g n) ≡ true
unfolding same_keys tabulate
keys-all f g zero h = refl
keys-all f g (suc n) h = rw (h 0 (omega arith)) (keys-all (λ i. f (suc i)) (λ i. g (suc i)) n (λ k l. h (suc k) (omega arith)))

keys_not : (f g : ℕ → Entry) (n k : ℕ) → k < n → same_at f g k ≡ false → same_keys (tabulate f n) (tabulate g n) ≡ false
unfolding same_keys tabulate
keys_not f g zero k l h = absurd (omega arith)
keys_not f g (suc n) zero l h = rw h
keys_not f g (suc n) (suc k) l h = go (same_at f g 0) (keys_not (λ i. f (suc i)) (λ i. g (suc i)) n k (omega arith) h)
  where
    go : (t : Bool) → same_keys (tabulate (λ i. f (suc i)) n) (tabulate (λ i. g (suc i)) n) ≡ false
        → (t && same_keys (tabulate (λ i. f (suc i)) n) (tabulate (λ i. g (suc i)) n)) ≡ false
    go true e = e
    go false e = refl

keys-other : (f g : ℕ → Entry) (n m : ℕ) → n ≢ m → same_keys (tabulate f n) (tabulate g m) ≡ false
unfolding same_keys tabulate
keys-other f g zero zero h = absurd (h refl)
keys-other f g zero (suc m) h = refl
keys-other f g (suc n) zero h = refl
keys-other f g (suc n) (suc m) h = go (same_at f g 0) (keys-other (λ i. f (suc i)) (λ i. g (suc i)) n m (λ e. h (ap suc e)))
  where
    go : (t : Bool) → same_keys (tabulate (λ i. f (suc i)) n) (tabulate (λ i. g (suc i)) m) ≡ false
        → (t && same_keys (tabulate (λ i. f (suc i)) n) (tabulate (λ i. g (suc i)) m)) ≡ false
    go true e = e
    go false e = refl

pub keys-long : (f g : ℕ → Entry) (n m : ℕ) → n ≢ m → false ≡ same_keys (tabulate f n) (tabulate g m)
keys-long f g n m h = sym (keys-other f g n m h)

pub keys_differ : (f g : ℕ → Entry) (n m k : ℕ) → n ≡ m → k < n → same_at f g k ≡ false → false ≡ same_keys (tabulate f n) (tabulate g m)
keys_differ f g n m k e l h = rw (← e) (sym (keys_not f g n k l h))

pub keys-same : (f g : ℕ → Entry) (n m i : ℕ) → n ≡ m → n ≤ i → ((k : ℕ) → k < i → same_at f g k ≡ true) → true ≡ same_keys (tabulate f n) (tabulate g m)
keys-same f g n m i e l h = rw (← e) (sym (keys-all f g n (λ k o. h k (omega arith))))

-- lists with the same keys are equally long
pub same_length : (f g : ℕ → Entry) (n m : ℕ) → same_keys (tabulate f n) (tabulate g m) ≡ true → n ≡ m
unfolding same_keys tabulate
same_length f g zero zero h = refl
same_length f g zero (suc m) h = impossible cc
same_length f g (suc n) zero h = impossible cc
same_length f g (suc n) (suc m) h = ap suc (same_length (λ i. f (suc i)) (λ i. g (suc i)) n m (go (same_at f g 0) h))
  where
    go : (t : Bool) → (t && same_keys (tabulate (λ i. f (suc i)) n) (tabulate (λ i. g (suc i)) m)) ≡ true
        → same_keys (tabulate (λ i. f (suc i)) n) (tabulate (λ i. g (suc i)) m) ≡ true
    go true e = e
    go false e = impossible cc

-- ---- counts

abbrev pub rises_at : (ℕ → Entry) → (ℕ → Entry) → ℕ → Bool
rises_at f g k = leb (count_of (f k).item) (count_of (g k).item)

-- as the code has the rows in locals
pub count_at : (x : ℕ) {r r' : Row} → r ≡ r' → ((text : Bytes) → x ≡ count_of (item_of text r)) → (text : Bytes) → x ≡ count_of (item_of text r')
count_at x e h text = rw (← e) (h text)

rise_all : (f g : ℕ → Entry) (n : ℕ) → ((k : ℕ) → k < n → rises_at f g k ≡ true) → counts_rise (tabulate f n) (tabulate g n) ≡ true
unfolding counts_rise tabulate
rise_all f g zero h = refl
rise_all f g (suc n) h = rw (h 0 (omega arith)) (rise_all (λ i. f (suc i)) (λ i. g (suc i)) n (λ k l. h (suc k) (omega arith)))

rise_not : (f g : ℕ → Entry) (n k : ℕ) → k < n → rises_at f g k ≡ false → counts_rise (tabulate f n) (tabulate g n) ≡ false
unfolding counts_rise tabulate
rise_not f g zero k l h = absurd (omega arith)
rise_not f g (suc n) zero l h = rw h
rise_not f g (suc n) (suc k) l h = go (rises_at f g 0) (rise_not (λ i. f (suc i)) (λ i. g (suc i)) n k (omega arith) h)
  where
    go : (t : Bool) → counts_rise (tabulate (λ i. f (suc i)) n) (tabulate (λ i. g (suc i)) n) ≡ false
        → (t && counts_rise (tabulate (λ i. f (suc i)) n) (tabulate (λ i. g (suc i)) n)) ≡ false
    go true e = e
    go false e = refl

pub rise_at : {x y p q : ℕ} → x ≡ p → y ≡ q → x ≤ y → leb p q ≡ true
rise_at {x} {y} e h l = rw (← e, ← h) (le-leb x y l)

module _ (f g : ℕ → Entry) where
  pub rise_above : (n k : ℕ) → k < n → (x y : ℕ) → x ≡ count_of (f k).item → y ≡ count_of (g k).item → y < x → false ≡ counts_rise (tabulate f n) (tabulate g n)
  rise_above n k l x y e h o = sym (rise_not f g n k l (rw (← e, ← h) (lt-leb x y o)))

  pub rise_same : (n i : ℕ) → n ≤ i → ((k : ℕ) → k < i → rises_at f g k ≡ true) → true ≡ counts_rise (tabulate f n) (tabulate g n)
  rise_same n i l h = sym (rise_all f g n (λ k o. h k (omega arith)))

-- the first m of both, where lists of n and m have the same keys
pub rise_kept : (f g : ℕ → Entry) (n m : ℕ) → same_keys (tabulate f n) (tabulate g m) ≡ true → (t u : Bool) → t ≡ counts_rise (tabulate f m) (tabulate g m) → t ≡ u
    → counts_rise (tabulate f n) (tabulate g m) ≡ u
rise_kept f g n m keys t u e h = ap (λ (k : ℕ). counts_rise (tabulate f k) (tabulate g m)) (same_length f g n m keys) ∙ sym e ∙ h

-- ---- hits

one_hit : (kind : Item → Bool) (i : Item) → hits (filter kind (i ∷ [])) ≡ hit_of kind i
unfolding filter hits
one_hit kind i = go (kind i && ltb 0 (count_of i)) (hit-step (kind i) i [])
  where
    go : (t : Bool) → hits (filter kind (i ∷ [])) ≡ one t + 0 → hits (filter kind (i ∷ [])) ≡ (if t then 1 else 0)
    go true e = e
    go false e = e

hits_next : (kind : Item → Bool) (f : ℕ → Entry) (n : ℕ) → hits_in kind (tabulate f (n + 1)) ≡ hits_in kind (tabulate f n) + hit_of kind (f n).item
unfolding hits_in
hits_next kind f n =
    let front : List Item = items_of (tabulate f n) in
    let last : List Item = (f n).item ∷ [] in
    ap (λ (r : Report). hits (filter kind (items_of r))) (tabulate-last f f n (f n) (λ j l. refl) refl)
    ∙ ap (λ (is : List Item). hits (filter kind is)) (map-append (λ (e : Entry). e.item) (tabulate f n) (f n ∷ []))
    ∙ ap hits (select_append kind front last)
    ∙ hits-append (filter kind front) (filter kind last)
    ∙ ap (λ (h : ℕ). hits (filter kind front) + h) (one_hit kind (f n).item)

hits-most : (kind : Item → Bool) (f : ℕ → Entry) (n : ℕ) → hits_in kind (tabulate f n) ≤ n
unfolding hits_in
hits-most kind f n =
    let items : List Item = items_of (tabulate f n) in
    omega (arith, hits_at_most (filter kind items), select_length kind items, length-map (tabulate f n) (λ (e : Entry). e.item), length-tabulate f n)

pub hits-none : (f : ℕ → Entry) → record { lines = 0; functions = 0; branches = 0 } ≡ hits_of (tabulate f 0)
unfolding hits_in tabulate hits filter
hits-none f = refl

-- the hits of the first n entries, one entry further, and room for one more
module _ (f : ℕ → Entry) (n : ℕ) where
  hits_further : (h : Hits) → h ≡ hits_of (tabulate f n) → with_hit (f n).item h ≡ hits_of (tabulate f (n + 1))
  hits_further h e = rw e (rw (hits_next is_line f n, hits_next is_function f n, hits_next is_branch f n))

  pub hits-below : (h : Hits) → h ≡ hits_of (tabulate f n) → n < max_entries → HitsBelow max_entries h
  hits-below h e l =
      rw e
      record {
        lines_below = omega (arith, hits-most is_line f n);
        functions_below = omega (arith, hits-most is_function f n);
        branches_below = omega (arith, hits-most is_branch f n);
      }

module _ (text ws : List ℕ) (index i : ℕ) where
  pub hits-step : {r : Row} {h h' : Hits} → r ≡ row ws index i → h ≡ hits_of (entries_at text ws index i) → h' ≡ with_hit (item_of text r) h
      → h' ≡ hits_of (entries_at text ws index (i + 1))
  hits-step {r} {h} e was is = (rw e at is) ∙ hits_further (entry_at text ws index) i h was

  pub hits_done : (n : ℕ) {h : Hits} → i ≡ n → h ≡ hits_of (entries_at text ws index i) → h ≡ hits_of (entries_at text ws index n)
  hits_done n e was = rw e at was
