-- The delta's insert positions in main, and the merge of the delta. Assumes nothing.
use mathlib.Core.Path.{◌≡◌, refl, sym, ap, subst, ◌∙◌}
use mathlib.Core.Logic.{◌≢◌}
use mathlib.Core.Bool.{Bool, true, false}
use mathlib.Core.List.{List, map}
use Prim.Native.Nat.{ℕ, ◌+◌, ◌-◌, ◌≤◌, ◌<◌, compare, Ordering}
use native.Mathlib.Omega.{arith}
use lib.Dec.{compare_is_eq}
use lib.ListN.{length}
use Rattle.table.specs.declared.Row.{Row}
use Rattle.table.specs.Places.{tabulate, Unchanged, PartitionPoint}
use Rattle.table.specs.Rows.{word, UnchangedOutside}
use Rattle.table.specs.Store.{Store, row}
use Rattle.table.proofs.PlaceLaws.{by-eq, by-lt}
use Rattle.table.proofs.StoreLaws.{behind-store, behind-rows}
use Rattle.table.proofs.TabulateLaws.{map-tabulate}
use Rattle.ordmap.specs.Compare.{lex}
use Rattle.ordmap.specs.Result.{accepted}
use Rattle.ordmap.proofs.Orderings.{is_eq}
use Rattle.ordmap.proofs.Results.{impossible, accepted_inj}
use Rattle.std.specs.Prelude.{if◌then◌else◌}
use Rattle.model.specs.Lists.{filter}
use Rattle.model.specs.Bytes.{Bytes}
use Rattle.model.specs.Report.{SectionKey, compare_sections}
use Rattle.model.proofs.KeyOrder.{sections-order}
use Rattle.table_item.specs.Items.{kind_of}
use Rattle.table_interleave.specs.Interleaved.{Ascending, Interleaved, InsertPositions}
use Rattle.table_interleave.proofs.InterleavedLaws.{interleaved_as, interleaved_each, interleaved_pairs}
use Rattle.table_interleave.proofs.PositionLaws.{interleaved_pass}
use Rattle.table_tombstone.specs.Live.{is_live}
use Rattle.table_section.specs.Sections.{entry_of, key_of, RowInBounds, rows_from, Ordered, SectionsFrom, is_past, PastRow}
use Rattle.table_section.proofs.RangeLaws.{past_falls, goes_greater}
use Rattle.table_item.proofs.AllLaws.{all-tabulate}
use Rattle.table_section.proofs.SpliceLaws.{less_not_greater}
use Rattle.section_commit.specs.Commit.{merge_sorted, merge_reports, live_entries_of, kept_at, InParts, PositionOf, Filled, PositionsWritten, SameReport}
use Rattle.section_commit.proofs.MergeLaws.{pass_merge}
use Rattle.section_commit.proofs.HeldLaws.{position_as, parts_as, kept-length, live-entries-length, none-delta, kept-main}
use Rattle.section_commit.proofs.MarkLaws.{mark_of, compare_marks, marks-order, Front, live-entries_both}
use Rattle.section_commit.proofs.PairLaws.{pairs-tabulate}

-- ---- the insert position of an entry of the delta

-- a header row has it cached
pub position_cached : {text ws : List ℕ} {index used main-size delta-size deleted : ℕ} (j : ℕ) {a : Row} → InParts text ws index used main-size delta-size deleted → j < delta-size
    → a ≡ rows_from ws index main-size j → kind_of a ≡ 0 → PositionOf text ws index main-size j a.k1
position_cached {text} {ws} {index} {used} {main-size} j π l e h =
    subst (λ (b : Row). PositionOf text ws index main-size j b.k1) (sym e) (π.positions j l (ap kind_of (sym e) ∙ h))

-- an entry of the section of the one before it
pub position_again : (text : Bytes) (ws : List ℕ) (index main-size i j : ℕ) {r : ℕ} {a b : Row} → a ≡ rows_from ws index main-size j
    → b ≡ rows_from ws index main-size i
    → true ≡ compare_is_eq (compare_sections (key_of text a) (key_of text b)) → PositionOf text ws index main-size i r → PositionOf text ws index main-size j r
position_again text ws index main-size i j {r} {a} {b} p q e c =
    let z : key_of text (rows_from ws index main-size i) ≡ key_of text (rows_from ws index main-size j) =
    ap (key_of text) (sym q) ∙ sym (sections-order.equal (is_eq (compare_sections (key_of text a) (key_of text b)) (sym e))) ∙ ap (key_of text) p in
    subst (λ (k : SectionKey). PartitionPoint (PastRow false text (rows_from ws index 0) k) main-size r) z c

-- an entry as the store handed it out
pub position_row : (text : Bytes) (ws : List ℕ) (index main-size j : ℕ) {r : ℕ} {a : Row} → a ≡ rows_from ws index main-size j
    → PartitionPoint (PastRow false text (rows_from ws index 0) (key_of text a)) main-size r → PositionOf text ws index main-size j r
position_row text ws index main-size j {r} p c = subst (λ (a : Row). PartitionPoint (PastRow false text (rows_from ws index 0) (key_of text a)) main-size r) p c

-- between two entries of one section all are of it
section_between : {text : Bytes} {f : ℕ → Row} {n : ℕ} → Ordered text f n → (j i m : ℕ) → j ≤ i → i ≤ m → m < n → compare_sections (key_of text (f j)) (key_of text (f m)) ≡ Ordering.eq
    → compare_sections (key_of text (f j)) (key_of text (f i)) ≡ Ordering.eq
section_between {text} {f} {n} σ j i m a b l e = go (compare_sections (key_of text (f j)) (key_of text (f i))) refl
  where
    key : SectionKey
    key = key_of text (f j)

    -- the key is past none that is less than the last, and is past none from its own on
    up_to : is_past true (compare_sections key (key_of text (f i))) ≡ true
    up_to = past_falls key true σ i m b l (ap (is_past true) e)

    from : is_past false (compare_sections key (key_of text (f i))) ≡ true → ⊥
    from t = let z : true ≡ false = sym (past_falls key false σ j i a (omega arith) t) ∙ ap (is_past false) (sections-order.same key) in impossible cc

    go : (o : Ordering) → compare_sections key (key_of text (f i)) ≡ o → o ≡ Ordering.eq
    go Ordering.lt q = let z : false ≡ true = sym (ap (is_past true) q) ∙ up_to in impossible cc
    go Ordering.eq q = refl
    go Ordering.gt q = absurd (from (ap (is_past false) q))

-- an entry is of its own section
pub section_itself : (text : Bytes) (f : ℕ → Row) (j : ℕ) → compare_sections (key_of text (f j)) (key_of text (f (j + 0))) ≡ Ordering.eq
section_itself text f j = let z : j + 0 ≡ j = omega arith in rw z (sections-order.same (key_of text (f j)))

-- ---- words filled with a number

-- ---- the loop: the insert positions of the first j are written

pub record WritingPositions (text ws₀ ws : List ℕ) (index spare main-size delta-size j : ℕ) : Type 0 where
  pub size : length ws ≡ length ws₀
  pub most : j ≤ delta-size
  pub kept : UnchangedOutside ws₀ ws spare (spare + delta-size)
  pub places : (i : ℕ) → i < j → PositionOf text ws₀ index main-size i (word ws (spare + i))

pub writing_none : (text ws : List ℕ) (index spare main-size delta-size : ℕ) → WritingPositions text ws ws index spare main-size delta-size 0
writing_none text ws index spare main-size delta-size = record {
  size = refl;
  most = omega arith;
  kept = record { below = λ k l. refl; above = λ k l. refl };
  places = λ i l. absurd (omega arith);
}

module _ {text ws₀ ws : List ℕ} {index used spare main-size delta-size deleted j : ℕ} (π : InParts text ws₀ index used main-size delta-size deleted) (b : index + used ≤ spare)
    (η : WritingPositions text ws₀ ws index spare main-size delta-size j) where
  same : Unchanged (row ws₀ index) (row ws index) 0 (main-size + delta-size)
  same k l h = behind-rows π.main.store η.kept b k l (omega (arith, π.delta.room))

  later : Unchanged (row ws₀ index) (row ws index) main-size (main-size + delta-size)
  later k l h = same k (omega arith) h

  same_keys_lem : (k : ℕ) → k < main-size → key_of text (rows_from ws index 0 k) ≡ key_of text (rows_from ws₀ index 0 k)
  same_keys_lem k l = ap (key_of text) (same (0 + k) (omega arith) (omega arith))

  pub writing_parts : InParts text ws index used main-size delta-size deleted
  writing_parts = parts_as ws used π (behind-store π.main.store η.kept b η.size) π.delta.room same

  -- the one before is written
  pub writing_last : j < delta-size → 0 < j → PositionOf text ws index main-size (j - 1) (word ws (spare + (j - 1)))
  writing_last l z = position_as ws π same_keys_lem later (j - 1) (omega arith) (η.places (j - 1) (omega arith))

  -- entries up to one of the section of the j-th
  module _ (r rest : ℕ) (c : PositionOf text ws index main-size j r) (l : j + rest < delta-size)
      (e : compare_sections (key_of text (rows_from ws index main-size j)) (key_of text (rows_from ws index main-size (j + rest))) ≡ Ordering.eq) where
    position_between : (i : ℕ) → j ≤ i → i ≤ j + rest → PositionOf text ws₀ index main-size i r
    position_between i a b =
        let k : key_of text (rows_from ws index main-size j) ≡ key_of text (rows_from ws index main-size i)
        = sections-order.equal (section_between writing_parts.delta.rows j i (j + rest) a b l e) in
        position_as ws₀ writing_parts (λ k p. sym (same_keys_lem k p)) (λ k p q. sym (later k p q)) i (omega arith)
        (subst (λ (key : SectionKey). PartitionPoint (PastRow false text (rows_from ws index 0) key) main-size r) k c)

    pub writing_run : {ws' : List ℕ} → Filled ws ws' (spare + j) (rest + 1) r → length ws' ≡ length ws → WritingPositions text ws₀ ws' index spare main-size delta-size (j + (rest + 1))
    writing_run {ws'} φ size = record {
      size = size ∙ η.size;
      most = omega arith;
      kept = record {
        below = λ k h. φ.kept.below k (omega arith) ∙ η.kept.below k h;
        above = λ k h. φ.kept.above k (omega arith) ∙ η.kept.above k h;
      };
      places = λ i h. by-lt i j
          (λ x. rw (φ.kept.below (spare + i) (omega arith)) (η.places i x))
          (λ x. let z : spare + i ≡ spare + j + (i - j) = omega arith in
          let w : word ws' (spare + i) ≡ r = ap (word ws') z ∙ φ.there (i - j) (omega arith) in
          rw w (position_between i (omega arith) (omega arith)));
    }

pub writing_done : {text ws₀ ws : List ℕ} {index spare main-size delta-size j : ℕ} → WritingPositions text ws₀ ws index spare main-size delta-size j → delta-size ≤ j
    → PositionsWritten text ws₀ ws index spare main-size delta-size
writing_done η h = record { kept = η.kept; places = λ i l. η.places i (omega arith) }

-- ---- the merged parts

not_past : (o : Ordering) → is_past false o ≡ false → o ≢ Ordering.gt
not_past Ordering.lt g h = impossible cc
not_past Ordering.eq g h = impossible cc
not_past Ordering.gt g h = impossible cc

-- a row that is not less than the key of a live one, and deleted where it has that key, comes behind it
mark_behind : (o : Ordering) (b : Bool) → o ≢ Ordering.gt → (o ≡ Ordering.eq → b ≡ false) → lex o (compare 0 (if b then 0 else 1)) ≡ Ordering.lt
mark_behind Ordering.lt b g h = refl
mark_behind Ordering.eq b g h = rw (h refl) refl
mark_behind Ordering.gt b g h = absurd (g refl)

module _ {text ws ws₁ : List ℕ} {index used spare main-size delta-size deleted : ℕ} (π : InParts text ws index used main-size delta-size deleted)
    (ν : PositionsWritten text ws ws₁ index spare main-size delta-size) where
  abbrev position : ℕ → ℕ
  position j = word ws₁ (spare + j)

  abbrev x : ℕ → Row
  x i = rows_from ws index 0 i

  abbrev y : ℕ → Row
  y j = rows_from ws index main-size j

  past : (j i : ℕ) → j < delta-size → i < position j → compare_sections (key_of text (x i)) (key_of text (y j)) ≡ Ordering.lt
  past j i l m = sections-order.less (goes_greater _ ((ν.places j l).past i m))

  rest : (j i : ℕ) → j < delta-size → position j ≤ i → i < main-size → compare_sections (key_of text (y j)) (key_of text (x i)) ≢ Ordering.gt
  rest j i l m h = not_past _ ((ν.places j l).rest i m h)

  pub cached_rising : Ascending position main-size delta-size
  cached_rising = record {
    most = λ j l. (ν.places j l).most;
    rising = λ i j l h. by-eq i j (λ e. omega (arith, ap position e)) (λ e. by-lt (position j) (position i) (λ z. absurd (back i j (omega arith) h z)) (λ z. z));
  }
    where
      -- an entry between the two places would come before itself
      back : (i j : ℕ) → i < j → j < delta-size → position j < position i → ⊥
      back i j l h z =
          let a : compare_sections (key_of text (x (position j))) (key_of text (y i)) ≡ Ordering.lt = past i (position j) (omega arith) z in
          rest j (position j) h (omega arith) (omega (arith, (ν.places i (let q : i < delta-size = omega arith in q)).most))
          (up (compare_sections (key_of text (y i)) (key_of text (y j))) refl a)
        where
          up : (o : Ordering) → compare_sections (key_of text (y i)) (key_of text (y j)) ≡ o
              → compare_sections (key_of text (x (position j))) (key_of text (y i)) ≡ Ordering.lt
              → compare_sections (key_of text (y j)) (key_of text (x (position j))) ≡ Ordering.gt
          up Ordering.lt e a = sections-order.greater (sections-order.trans a e)
          up Ordering.eq e a = let k : key_of text (y i) ≡ key_of text (y j) = sections-order.equal e in rw k at (sections-order.greater a)
          up Ordering.gt e a = absurd (π.delta.rows.ordered i j l h e)

  same_key : (i j : ℕ) → compare_sections (key_of text (y j)) (key_of text (x i)) ≡ Ordering.eq → i < main-size → j < delta-size → is_live (x i) ≡ false
  same_key i j e l h = go (is_live (x i)) refl
    where
      go : (b : Bool) → is_live (x i) ≡ b → is_live (x i) ≡ false
      go true t = absurd (π.apart i j l t h e)
      go false t = t

  positions : InsertPositions (mark_of text) compare_marks x y position main-size delta-size
  positions = record {
    most = λ j l. (ν.places j l).most;
    past = λ j i l m. rw (past j i l m);
    rest = λ j i l m h. rw (π.live j l) (mark_behind (compare_sections (key_of text (y j)) (key_of text (x i))) (is_live (x i)) (rest j i l m h)
        (λ e. same_key i j e h l));
  }

  front : (i j : ℕ) → i < j → j < main-size → Front text (x i) (x j)
  front i j l h d a = go (compare_sections (key_of text (x i)) (key_of text (x j))) refl
    where
      go : (o : Ordering) → compare_sections (key_of text (x i)) (key_of text (x j)) ≡ o → compare_sections (key_of text (x i)) (key_of text (x j)) ≡ Ordering.lt
      go Ordering.lt e = e
      go Ordering.eq e = let z : true ≡ false = sym (π.front i j l h e a) ∙ d in impossible cc
      go Ordering.gt e = absurd (π.main.rows.ordered i j l h e)

  module _ {ws₂ : List ℕ} (b : index + used ≤ spare) (σ : Store ws₂ index used)
      (ω : Interleaved (row ws₁ index) (row ws₂ index) (λ j. word ws₁ (spare + j)) used 0 main-size delta-size) where
    abbrev z : ℕ → Row
    z k = rows_from ws₂ index 0 k

    room : 0 + main-size + delta-size ≤ used
    room = omega (arith, π.delta.room)

    interleaved : Interleaved (row ws index) (row ws₂ index) position used 0 main-size delta-size
    interleaved = interleaved_as room (λ k l. behind-rows π.main.store ν.kept b k (omega arith) l) (λ k l. refl) ω

    second : (j : ℕ) → row ws index (0 + main-size + j) ≡ row ws index (main-size + j)
    second j = ap (row ws index) (let e : 0 + main-size + j ≡ main-size + j = omega arith in e)

    -- the rows after are those of both parts
    mixed : tabulate z (main-size + delta-size) ≡ merge_sorted (mark_of text) compare_marks (tabulate x main-size) (tabulate y delta-size)
    mixed =
        accepted_inj (sym (interleaved_pass (λ (r : Row). r) interleaved {x = x} {y = y} {z = z} (λ i l. refl) (λ j l. sym (second j)) (λ k l. refl)
        (mark_of text) compare_marks (λ e f. accepted e) marks-order positions cached_rising)
        ∙ pass_merge (mark_of text) compare_marks (tabulate x main-size) (tabulate y delta-size))

    report : live_entries_of text z (main-size + delta-size) ≡ kept_at text ws index main-size delta-size
    report =
        ap (λ (l : List Row). map (entry_of text) (filter is_live l)) mixed
        ∙ live-entries_both text (tabulate x main-size) (tabulate y delta-size) (pairs-tabulate (Front text) x main-size front)
        (all-tabulate (λ r. is_live r ≡ true) y delta-size π.live)
        ∙ ap (merge_reports (live_entries_of text x main-size)) (map-tabulate (entry_of text) y delta-size)

    abbrev InOrder : Row → Row → Type 0
    InOrder a b = compare_sections (key_of text a) (key_of text b) ≢ Ordering.gt

    whole : (m : ℕ) → 0 ≤ m → m < 0 + main-size + delta-size → RowInBounds text (row ws index m)
    whole m l h = by-lt m main-size
        (λ z. let e : 0 + m ≡ m = omega arith in rw e at (π.main.rows.whole m z))
        (λ z. let e : main-size + (m - main-size) ≡ m = omega arith in rw e at (π.delta.rows.whole (m - main-size) (omega arith)))

    ordered : (k l : ℕ) → k < l → l < main-size + delta-size → InOrder (z k) (z l)
    ordered = interleaved_pairs cached_rising interleaved InOrder π.main.rows.ordered
        (λ i j l h. rw (second i, second j) (π.delta.rows.ordered i j l h))
        (λ i j l h. rw (second j) (less_not_greater (past j i l h)))
        (λ i j l h m. rw (second j) (rest j i l h m))

    -- of two rows of one section, the first is live if the second is
    abbrev LivesToo : Row → Row → Type 0
    LivesToo a b = compare_sections (key_of text a) (key_of text b) ≡ Ordering.eq → is_live b ≡ true → is_live a ≡ true

    fronts : (k l : ℕ) → k < l → l < main-size + delta-size → LivesToo (z k) (z l)
    fronts = interleaved_pairs cached_rising interleaved LivesToo π.front
        (λ i j l h e a. rw (second i) (π.live i (omega arith)))
        (λ i j l h. rw (second j) (λ e a. let q : Ordering.lt ≡ Ordering.eq = sym (past j i l h) ∙ e in impossible cc))
        (λ i j l h m e a. rw (second j) (π.live j l))

    sections : SectionsFrom text ws₂ index used 0 (main-size + delta-size)
    sections = record {
      store = σ;
      room = omega (arith, room);
      rows = record {
        whole = λ k l. interleaved_each cached_rising interleaved (RowInBounds text) whole (0 + k) (omega arith) (omega arith);
        ordered = ordered;
      };
    }

    pub main-all : SameReport text ws ws₂ index used (record { main = main-size; delta = delta-size; tombstones = deleted })
        (record { main = main-size + delta-size; delta = 0; tombstones = deleted })
    main-all = record {
      report = kept-main text ws₂ index (main-size + delta-size) ∙ report;
      held = none-delta sections fronts (omega (arith, live-entries-length text z (main-size + delta-size), ap length report, kept-length π));
    }
