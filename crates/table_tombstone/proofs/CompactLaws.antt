-- The loop of `compact`: of the first i row numbers, those of live rows are in front, in order, and those of deleted
-- rows in the spare words. Assumes nothing.
use mathlib.Core.Path.{◌≡◌, refl, sym, ap, ◌∙◌}
use mathlib.Core.Bool.{true, false, not}
use mathlib.Core.List.{List}
use Prim.Native.Nat.{ℕ, ◌+◌, ◌*◌, ◌-◌, ◌≤◌, ◌<◌}
use native.Mathlib.Omega.{arith}
use lib.Dec.{eqb}
use lib.ListN.{length, set, length-set}
use lib.Seq.{get_or-set_same, get_or-set_other}
use Rattle.table.specs.declared.Row.{Row}
use Rattle.table.specs.Places.{Unchanged}
use Rattle.table.specs.Rows.{tag_word, row_words, word, row_at, UnchangedOutside, Moved}
use Rattle.table.specs.Store.{number, Index, Store, row}
use Rattle.table.proofs.PlaceLaws.{by-eq, by-lt}
use Rattle.table.proofs.WordLaws.{same_row}
use Rattle.table_item.specs.Items.{tombstone_tag}
use Rattle.table_tombstone.specs.Live.{is_live, one_for, Compacted}
use Rattle.table_tombstone.proofs.CountLaws.{live-count, live-count-none, live-count-next, live-count-most, live-count-past, deleted_past, live_at, deleted_at, gathered}
use Rattle.table_tombstone.proofs.MarkLaws.{tag-room}

-- ---- row numbers, compacted

-- f is what each position had, g what it has: of the first n, the live come first, then the deleted
pub record Partitioned (rows : ℕ → Row) (f g : ℕ → ℕ) (used n : ℕ) : Type 0 where
  pub live : (k : ℕ) → k < n → is_live (rows k) ≡ true → g (live-count rows k) ≡ f k
  pub deleted : (k j : ℕ) → k < n → is_live (rows k) ≡ false → j + live-count rows k ≡ live-count rows n + k → g j ≡ f k
  pub over : Unchanged f g n used

-- the place j has what the place m had
data Source (rows : ℕ → Row) (n j m : ℕ) : Type 0 where
  live : m < n → is_live (rows m) ≡ true → j ≡ live-count rows m → Source rows n j m
  deleted : m < n → is_live (rows m) ≡ false → j + live-count rows m ≡ live-count rows n + m → Source rows n j m
  over : n ≤ m → j ≡ m → Source rows n j m

-- no two places have what one had
source_once : {rows : ℕ → Row} {n j k m : ℕ} → Source rows n j m → Source rows n k m → j ≡ k
source_once (live a t e) (live b u f) = omega arith
source_once (live a t e) (deleted b u f) = let z : true ≡ false = sym t ∙ u in cc
source_once (live a t e) (over b f) = omega arith
source_once (deleted a t e) (live b u f) = let z : true ≡ false = sym u ∙ t in cc
source_once (deleted a t e) (deleted b u f) = omega arith
source_once (deleted a t e) (over b f) = omega arith
source_once (over a e) (live b u f) = omega arith
source_once (over a e) (deleted b u f) = omega arith
source_once (over a e) (over b f) = omega arith

module _ {rows : ℕ → Row} {f g : ℕ → ℕ} {used n : ℕ} (h : n ≤ used) (π : Partitioned rows f g used n) where
  abbrev From : ℕ → Type 0
  From j = (m : ℕ) × (m < used) × Source rows n j m × (g j ≡ f m)

  from : (j : ℕ) → j < used → From j
  from j l =
      by-lt j (live-count rows n)
      (λ a. lives (live_at rows n j a))
      (λ a. by-lt j n
      (λ b. died a (deleted_at rows n (j - live-count rows n) (omega arith)))
      (λ b. (j, l, over b refl, π.over j b l)))
    where
      lives : (m : ℕ) × (m < n) × (is_live (rows m) ≡ true) × (live-count rows m ≡ j) → From j
      lives (m, a, t, e) = (m, omega arith, live a t (sym e), ap g (sym e) ∙ π.live m a t)

      died : live-count rows n ≤ j → (m : ℕ) × (m < n) × (is_live (rows m) ≡ false) × (live-count rows m + (j - live-count rows n) ≡ m) → From j
      died b (m, a, t, e) =
          let z : j + live-count rows m ≡ live-count rows n + m = omega arith in
          (m, omega arith, deleted a t z, π.deleted m j a t z)

  -- numbers that are parted are an index still
  pub parted_index : Index f used → Index g used
  parted_index ι = record { below = λ j l. below j (from j l); once = λ j k l m e. once j k (from j l) (from k m) e }
    where
      below : (j : ℕ) → From j → g j < used
      below j (m, l, s, e) = rw e (ι.below m l)

      once : (j k : ℕ) → From j → From k → g j ≡ g k → j ≡ k
      once j k (m, l, s, e) (m', l', s', e') x =
          let y : m ≡ m' = ι.once m m' l l' (sym e ∙ x ∙ e') in
          source_once (rw y at s) s'

-- ---- rows in the order of an index

module _ {ws ws' : List ℕ} {index used n : ℕ} (σ : Store ws index used) (h : n ≤ used)
    (π : Partitioned (row ws index) (number ws index) (number ws' index) used n) where
  pub parted_store : length ws' ≡ length ws → Store ws' index used
  parted_store e = record {
    rows_end = σ.rows_end;
    index_end = omega (arith, σ.index_end);
    numbers = parted_index h π σ.numbers;
  }

  pub parted_rows : {hi : ℕ} → UnchangedOutside ws ws' index hi → {v : ℕ} → v ≡ live-count (row ws index) n → Compacted (row ws index) (row ws' index) n v
  unfolding row
  parted_rows κ e = rw e (record {
    rows = gathered (row ws' index) (row ws index) n (λ k l t. along (live-count (row ws index) k) k (omega arith) (π.live k l t));
    most = live-count-most (row ws index) n;
  })
    where
      -- the rows are not written, so a place that has the number of another has its row
      along : (k m : ℕ) → m < used → number ws' index k ≡ number ws index m → row ws' index k ≡ row ws index m
      along k m l e = ap (row_at ws') e ∙ same_row κ (number ws index m) (omega (arith, σ.numbers.below m l, σ.rows_end))

-- ---- the loop

-- where the words are
pub record Fits (ws : List ℕ) (index used n spare : ℕ) : Type 0 where
  pub store : Store ws index used
  pub rows : n ≤ used
  pub behind : index + used ≤ spare
  pub room : spare + n ≤ length ws

-- of the first i positions, v are live
pub record Compacting (ws₀ ws : List ℕ) (index used n spare i v : ℕ) : Type 0 where
  pub size : length ws ≡ length ws₀
  pub most : i ≤ n
  pub count : v ≡ live-count (row ws₀ index) i
  pub kept : UnchangedOutside ws₀ ws index (spare + n)
  pub rest : Unchanged (number ws₀ index) (number ws index) i used
  pub live : (k : ℕ) → k < i → is_live (row ws₀ index k) ≡ true → number ws index (live-count (row ws₀ index) k) ≡ number ws₀ index k
  pub deleted : (k j : ℕ) → k < i → is_live (row ws₀ index k) ≡ false → j + live-count (row ws₀ index) k ≡ k → word ws (spare + j) ≡ number ws₀ index k

pub compacting_start : (ws : List ℕ) (index used n spare : ℕ) → Compacting ws ws index used n spare 0 0
compacting_start ws index used n spare = record {
  size = refl;
  most = omega arith;
  count = sym (live-count-none (row ws index));
  kept = record { below = λ j l. refl; above = λ j l. refl };
  rest = λ k l h. refl;
  live = λ k l t. absurd (omega arith);
  deleted = λ k j l t e. absurd (omega arith);
}

module _ {ws₀ ws : List ℕ} {index used n spare i v : ℕ} (φ : Fits ws₀ index used n spare) (η : Compacting ws₀ ws index used n spare i v) where
  pub compacting_most : v ≤ i
  compacting_most = omega (arith, η.count, live-count-most (row ws₀ index) i)

  module _ (l : i < n) where
    same_number : number ws index i ≡ number ws₀ index i
    same_number = η.rest i (omega arith) (omega (arith, φ.rows))

    -- the tag's word is in bounds
    pub compacting_room : number ws index i * row_words + tag_word < index
    compacting_room = omega (arith, same_number, tag-room i φ.store (omega (arith, φ.rows)))

    same_tag : word ws (number ws index i * row_words + tag_word) ≡ (row ws₀ index i).tag
    unfolding row
    same_tag = η.kept.below (number ws index i * row_words + tag_word) compacting_room ∙ ap (λ (j : ℕ). word ws₀ (j * row_words + tag_word)) same_number

    -- the number goes to both, of which one is free still
    abbrev ws₁ : List ℕ
    ws₁ = set ws (spare + (i - v)) (number ws index i)

    abbrev ws₂ : List ℕ
    ws₂ = set ws₁ (index + v) (number ws index i)

    module _ {s : ℕ} (told : s ≡ one_for (not (eqb (word ws (number ws index i * row_words + tag_word)) tombstone_tag))) where
      other : (k : ℕ) → (k ≡ index + v → ⊥) → (k ≡ spare + (i - v) → ⊥) → word ws₂ k ≡ word ws k
      other k a b =
          get_or-set_other ws₁ (index + v) k (number ws index i) 0 a ∙ get_or-set_other ws (spare + (i - v)) k (number ws index i) 0 b

      low : word ws₂ (index + v) ≡ number ws₀ index i
      low = get_or-set_same ws₁ (index + v) (number ws index i) 0 (simp length-set (omega (arith, η.size, compacting_most, φ.rows, φ.behind, φ.room))) ∙ same_number

      high : word ws₂ (spare + (i - v)) ≡ number ws₀ index i
      high =
          get_or-set_other ws₁ (index + v) (spare + (i - v)) (number ws index i) 0 (omega (arith, compacting_most, φ.rows, φ.behind))
          ∙ get_or-set_same ws (spare + (i - v)) (number ws index i) 0 (omega (arith, η.size, φ.room))
          ∙ same_number

      pub compacting_next : Compacting ws₀ ws₂ index used n spare (i + 1) (v + s)
      compacting_next = record {
        size = simp length-set η.size;
        most = omega arith;
        count =
            ap (λ (m : ℕ). m + s) η.count
            ∙ ap (λ (m : ℕ). live-count (row ws₀ index) i + m) (told ∙ ap (λ (t : ℕ). one_for (not (eqb t tombstone_tag))) same_tag)
            ∙ sym (live-count-next (row ws₀ index) i);
        kept = record {
          below = λ k a. other k (omega arith) (omega (arith, φ.behind)) ∙ η.kept.below k a;
          above = λ k a. other k (omega (arith, compacting_most, φ.rows, φ.behind)) (omega arith) ∙ η.kept.above k a;
        };
        rest = λ k a b. other (index + k) (omega (arith, compacting_most)) (omega (arith, φ.behind)) ∙ η.rest k (omega arith) b;
        live = λ k a t. by-eq k i
            (λ z. rw z (ap (number ws₂ index) (sym η.count) ∙ low))
            (λ z. other (index + live-count (row ws₀ index) k)
            (omega (arith, η.count, live-count-past (row ws₀ index) k i (omega arith) t))
            (omega (arith, live-count-most (row ws₀ index) k, φ.rows, φ.behind))
            ∙ η.live k (omega arith) t);
        deleted = λ k j a t e. by-eq k i
            (λ z. let y : j ≡ i - v = omega (arith, η.count, ap (live-count (row ws₀ index)) z) in rw (y, z) high)
            (λ z. other (spare + j)
            (omega (arith, compacting_most, φ.rows, φ.behind))
            (omega (arith, η.count, deleted_past (row ws₀ index) k i (omega arith) t))
            ∙ η.deleted k j (omega arith) t e);
      }

  -- all positions are visited, and the deleted are copied back behind the live
  module _ {ws' : List ℕ} (done : n ≤ i) (e : length ws' ≡ length ws) (μ : Moved ws ws' spare (index + v) (n - v)) where
    all : i ≡ n
    all = omega (arith, η.most)

    compacted : Partitioned (row ws₀ index) (number ws₀ index) (number ws' index) used n
    compacted = record {
      live = λ k l t.
          μ.kept.below (index + live-count (row ws₀ index) k) (omega (arith, all, η.count, live-count-past (row ws₀ index) k i (omega (arith, all)) t))
          ∙ η.live k (omega (arith, all)) t;
      deleted = λ k j l t x.
          let c : live-count (row ws₀ index) n ≡ v = ap (live-count (row ws₀ index)) (sym all) ∙ sym η.count in
          μ.shifted (index + j) (spare + (j - v))
          (omega (arith, c, live-count-most (row ws₀ index) k))
          (omega (arith, c, deleted_past (row ws₀ index) k n l t))
          (omega (arith, c, live-count-most (row ws₀ index) k))
          ∙ η.deleted k (j - v) (omega (arith, all)) t (omega (arith, c, live-count-most (row ws₀ index) k));
      over = λ k l m. μ.kept.above (index + k) (omega (arith, compacting_most, all)) ∙ η.rest k (omega (arith, all)) m;
    }

    pub compacted_store : Store ws' index used
    compacted_store = parted_store φ.store φ.rows compacted (e ∙ η.size)

    pub compacted_rows : Compacted (row ws₀ index) (row ws' index) n v
    compacted_rows = parted_rows φ.store φ.rows compacted kept (η.count ∙ ap (live-count (row ws₀ index)) all)
      where
        kept : UnchangedOutside ws₀ ws' index (spare + n)
        kept = record {
          below = λ k l. μ.kept.below k (omega arith) ∙ η.kept.below k l;
          above = λ k l. μ.kept.above k (omega (arith, compacting_most, φ.rows, φ.behind)) ∙ η.kept.above k l;
        }
