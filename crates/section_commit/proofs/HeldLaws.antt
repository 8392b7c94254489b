-- The parts of the kept sections: unchanged rows, the number of entries, and an empty delta. Assumes nothing.
use mathlib.Core.Path.{◌≡◌, sym, ap, ap₂, subst, ◌∙◌}
use mathlib.Core.Bool.{Bool, true, false}
use mathlib.Core.List.{List, [], ◌∷◌, map}
use Prim.Native.Nat.{Ordering}
use Prim.Native.Nat.{ℕ, ◌+◌, ◌≤◌, ◌<◌}
use native.Mathlib.Omega.{arith}
use lib.ListN.{length, length-map}
use Rattle.table.specs.declared.Row.{Row}
use Rattle.table.specs.Places.{tabulate, Unchanged, PartitionPoint}
use Rattle.table.specs.Store.{row, Store}
use Rattle.table.proofs.TabulateLaws.{length-tabulate, tabulate_cong}
use Rattle.model.specs.Bytes.{Bytes}
use Rattle.model.specs.Report.{Entry, SectionKey, compare_sections}
use Rattle.model.proofs.ListLaws.{All}
use Rattle.model.proofs.KeyOrder.{sections-order}
use Rattle.table_item.specs.Items.{kind_of}
use Rattle.table_tombstone.specs.Live.{is_live, live_rows}
use Rattle.table_tombstone.proofs.LiveLaws.{live_cong, live_all, live-each}
use Rattle.table_section.specs.Sections.{entry_of, key_of, entry_at, entries_at, Sections, rows_from, entries_from, SectionsFrom, is_past}
use Rattle.table_item.proofs.AllLaws.{all-tabulate}
use Rattle.section_commit.specs.Commit.{merge_reports, live_entries_of, kept_at, InParts, PositionOf}
use Rattle.section_commit.proofs.MergeLaws.{merged-none, merged-length}

-- ---- the entries of live rows

all_map : {A B : Type 0} (P : B → Type 0) (f : A → B) (l : List A) → All (λ a. P (f a)) l → All P (map f l)
all_map P f [] h = tt
all_map P f (x ∷ l) h = (h.0, all_map P f l h.1)

module _ (text : Bytes) where
  pub live-entries-each : (P : Entry → Type 0) (f : ℕ → Row) (n : ℕ) → ((k : ℕ) → k < n → is_live (f k) ≡ true → P (entry_of text (f k))) → All P (live_entries_of text f n)
  live-entries-each P f n h = all_map P (entry_of text) (live_rows f n) (live-each (λ r. P (entry_of text r)) f n h)

  pub live-entries_cong : (g f : ℕ → Row) (n : ℕ) → ((k : ℕ) → k < n → g k ≡ f k) → live_entries_of text g n ≡ live_entries_of text f n
  live-entries_cong g f n h = ap (map (entry_of text)) (live_cong g f n h)

  pub live-entries-length : (f : ℕ → Row) (n : ℕ) → length (live_entries_of text f n) ≡ length (live_rows f n)
  live-entries-length f n = length-map (live_rows f n) (entry_of text)

-- ---- rows that are as they were

pub same_from : {text ws : List ℕ} (ws' : List ℕ) {index used at n : ℕ} (used' : ℕ) → SectionsFrom text ws index used at n → Store ws' index used'
    → at + n ≤ used' → Unchanged (row ws index) (row ws' index) at (at + n) → SectionsFrom text ws' index used' at n
same_from ws' {at = at} used' σ σ' room s = record {
  store = σ';
  room = room;
  rows = record {
    whole = λ k l. rw (s (at + k) (omega arith) (omega arith)) (σ.rows.whole k l);
    ordered = λ i j l h. rw (s (at + i) (omega arith) (omega arith), s (at + j) (omega arith) (omega arith)) (σ.rows.ordered i j l h);
  };
}

pub partition_as : {test test' : ℕ → Bool} {n r : ℕ} → ((k : ℕ) → k < n → test' k ≡ test k) → PartitionPoint test n r → PartitionPoint test' n r
partition_as e c = record {
  most = c.most;
  past = λ k l. e k (omega (arith, c.most)) ∙ c.past k l;
  rest = λ k l h. e k h ∙ c.rest k l h;
}

-- the rows of the delta are unchanged, and those of main keep their keys
module _ {text ws : List ℕ} (ws' : List ℕ) {index used main-size delta-size deleted : ℕ} (π : InParts text ws index used main-size delta-size deleted)
    (keys : (k : ℕ) → k < main-size → key_of text (rows_from ws' index 0 k) ≡ key_of text (rows_from ws index 0 k))
    (s : Unchanged (row ws index) (row ws' index) main-size (main-size + delta-size)) where
  delta-row : (j : ℕ) → j < delta-size → rows_from ws' index main-size j ≡ rows_from ws index main-size j
  delta-row j l = s (main-size + j) (omega arith) (omega arith)

  pub position_as : (j : ℕ) {r : ℕ} → j < delta-size → PositionOf text ws index main-size j r → PositionOf text ws' index main-size j r
  position_as j l c = partition_as
      (λ k h. ap₂ (λ (a b : SectionKey). is_past false (compare_sections a b)) (ap (key_of text) (delta-row j l)) (keys k h))
      c

  pub cached_as : (j : ℕ) → j < delta-size → kind_of (rows_from ws' index main-size j) ≡ 0
      → PositionOf text ws' index main-size j (rows_from ws' index main-size j).k1
  cached_as j l h =
      subst (λ (r : Row). PositionOf text ws' index main-size j r.k1) (sym (delta-row j l))
      (position_as j l (π.positions j l (ap kind_of (sym (delta-row j l)) ∙ h)))

pub parts_as : {text ws : List ℕ} (ws' : List ℕ) {index used main-size delta-size deleted : ℕ} (used' : ℕ) → InParts text ws index used main-size delta-size deleted
    → Store ws' index used'
    → main-size + delta-size ≤ used' → Unchanged (row ws index) (row ws' index) 0 (main-size + delta-size) → InParts text ws' index used' main-size delta-size deleted
parts_as {text} {ws} ws' {index} {used} {main-size} {delta-size} {deleted} used' π σ room s =
    let later : Unchanged (row ws index) (row ws' index) main-size (main-size + delta-size) = λ k l h. s k (omega arith) h in
    let early : (k : ℕ) → k < main-size → rows_from ws' index 0 k ≡ rows_from ws index 0 k = λ k l. s (0 + k) (omega arith) (omega arith) in
    record {
      main = same_from ws' used' π.main σ (omega arith) (λ k l h. s k l (omega arith));
      delta = same_from ws' used' π.delta σ room later;
      front = λ i j l h. rw (early i (omega arith), early j h) (π.front i j l h);
      live = λ j l. rw (later (main-size + j) (omega arith) (omega arith)) (π.live j l);
      apart = λ i j l a h. rw (early i l, later (main-size + j) (omega arith) (omega arith)) (π.apart i j l (ap is_live (sym (early i l)) ∙ a) h);
      positions = cached_as ws' π (λ k l. ap (key_of text) (early k l)) later;
      count = ap (λ (l : List Row). length l + deleted) (live_cong (rows_from ws' index 0) (rows_from ws index 0) main-size early) ∙ π.count;
    }

pub kept_as : (text ws ws' : List ℕ) (index main-size delta-size : ℕ) → Unchanged (row ws index) (row ws' index) 0 (main-size + delta-size)
    → kept_at text ws' index main-size delta-size ≡ kept_at text ws index main-size delta-size
kept_as text ws ws' index main-size delta-size s =
    ap₂ merge_reports
    (live-entries_cong text (rows_from ws' index 0) (rows_from ws index 0) main-size (λ k l. s (0 + k) (omega arith) (omega arith)))
    (tabulate_cong (λ k. entry_of text (rows_from ws' index main-size k)) (λ k. entry_of text (rows_from ws index main-size k)) delta-size
    (λ k l. ap (entry_of text) (s (main-size + k) (omega arith) (omega arith))))

-- ---- how many entries there are

-- all rows but the tombstones
pub kept-length : {text ws : List ℕ} {index used main-size delta-size deleted : ℕ} → InParts text ws index used main-size delta-size deleted
    → length (kept_at text ws index main-size delta-size) + deleted ≡ main-size + delta-size
kept-length {text} {ws} {index} {used} {main-size} {delta-size} {deleted} π =
    let all : length (kept_at text ws index main-size delta-size)
    ≡ length (live_entries_of text (rows_from ws index 0) main-size) + length (entries_from text ws index main-size delta-size) =
    merged-length (live_entries_of text (rows_from ws index 0) main-size) (entries_from text ws index main-size delta-size)
    (live-entries-each text _ (rows_from ws index 0) main-size
    (λ i l a. all-tabulate _ (λ k. entry_of text (rows_from ws index main-size k)) delta-size
    (λ j h e. π.apart i j l a h (ap (compare_sections (key_of text (rows_from ws index main-size j))) (sections-order.equal e)
    ∙ sections-order.same (key_of text (rows_from ws index main-size j)))))) in
    omega (arith, all, live-entries-length text (rows_from ws index 0) main-size, length-tabulate (λ k. entry_of text (rows_from ws index main-size k)) delta-size, π.count)

-- ---- the delta is empty

module _ {text ws : List ℕ} {index used n : ℕ} (σ : SectionsFrom text ws index used 0 n) where
  pub none-delta : {deleted : ℕ}
      → ((i j : ℕ) → i < j → j < n → compare_sections (key_of text (rows_from ws index 0 i)) (key_of text (rows_from ws index 0 j)) ≡ Ordering.eq
      → is_live (rows_from ws index 0 j) ≡ true → is_live (rows_from ws index 0 i) ≡ true)
      → length (live_rows (rows_from ws index 0) n) + deleted ≡ n → InParts text ws index used n 0 deleted
  none-delta front count = record {
    main = σ;
    delta = record {
      store = σ.store;
      room = omega (arith, σ.room);
      rows = record { whole = λ k l. absurd (omega arith); ordered = λ i j l h. absurd (omega arith) };
    };
    front = front;
    live = λ j l. absurd (omega arith);
    apart = λ i j l a h. absurd (omega arith);
    positions = λ j l h. absurd (omega arith);
    count = count;
  }

  -- and there is no tombstone
  pub all-main : ((k : ℕ) → k < n → is_live (rows_from ws index 0 k) ≡ true) → InParts text ws index used n 0 0
  all-main a = none-delta (λ i j l h e q. a i (omega arith))
      (omega (arith, ap length (live_all (rows_from ws index 0) n a), length-tabulate (rows_from ws index 0) n))

pub kept-main : (text ws : List ℕ) (index n : ℕ) → kept_at text ws index n 0 ≡ live_entries_of text (rows_from ws index 0) n
unfolding tabulate
kept-main text ws index n = merged-none (live_entries_of text (rows_from ws index 0) n)

pub main-sections : {text ws : List ℕ} {index used n : ℕ} → SectionsFrom text ws index used 0 n → Sections text ws index used n
main-sections {text} {ws} {index} σ = record {
  store = σ.store;
  room = omega (arith, σ.room);
  whole = λ k l. let e : 0 + k ≡ k = omega arith in rw e at (σ.rows.whole k l);
  ordered = λ i j l h.
      let e : 0 + i ≡ i = omega arith in
      let f : 0 + j ≡ j = omega arith in
      rw (e, f) at (σ.rows.ordered i j l h);
}

pub main-entries : (text ws : List ℕ) (index n : ℕ) → entries_at text ws index n ≡ entries_from text ws index 0 n
main-entries text ws index n =
    tabulate_cong (entry_at text ws index) (λ k. entry_of text (rows_from ws index 0 k)) n
    (λ k l. ap (entry_at text ws index) (let e : k ≡ 0 + k = omega arith in e))
