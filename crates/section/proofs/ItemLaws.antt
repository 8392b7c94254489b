-- A line that adds an item. Assumes nothing.
use mathlib.Core.Path.{◌≡◌, refl, sym, ap, ◌∙◌}
use mathlib.Core.Logic.{◌⊎◌, inl, inr}
use mathlib.Core.Bool.{Bool, true, false, cond}
use mathlib.Core.List.{List, [], ◌∷◌}
use mathlib.Core.Option.{Option}
use Prim.Native.Nat.{ℕ, suc, ◌+◌, ◌≤◌, ◌<◌}
use native.Mathlib.Omega.{arith}
use borrow.Author.Tests.{leb-true, leb-false}
use lib.Dec.{leb}
use lib.ListN.{length}
use Rattle.table.specs.declared.Row.{Row}
use Rattle.table.specs.Places.{Unchanged}
use Rattle.table.specs.Store.{row}
use Rattle.ordmap.specs.Result.{accepted, refused, bind}
use Rattle.ordmap.specs.Keyed.{add}
use Rattle.ordmap.proofs.Results.{accepted_inj, not_accepted, not_refused, bind-accepted}
use Rattle.model.specs.declared.Fault.{Fault}
use Rattle.model.specs.declared.Fault.TheVariants.{TooManyEntries}
use Rattle.model.specs.declared.Refusal.{Refusal}
use Rattle.model.specs.Bytes.{Bytes, compare_bytes}
use Rattle.model.specs.Answer.{Answer, refuse, unplaced}
use Rattle.model.specs.Report.{Item, item_key, within}
use Rattle.model.specs.Reading.{State as ModelState, entries, open_section, enter_item}
use Rattle.table_item.specs.Items.{item_of}
use Rattle.table_item.specs.Combining.{combine_of}
use Rattle.section_upsert.proofs.UpsertLaws.{within-fits, within-past}
use Rattle.section_tail.specs.declared.OpenSizes.{OpenSizes}
use Rattle.section_tail.specs.Tail.{rows_of, end_of, items_of, OpenSection}
use Rattle.section_tail.specs.RowAdded.{RowAdded}
use Rattle.section_tail.proofs.TailLaws.{add_most}
use Rattle.section_tail.proofs.ItemLaws.{held-length, held_exact}
use Rattle.section.specs.declared.State.{State}
use Rattle.std.specs.Prelude.{Result, Ok, Err}
use Rattle.section.specs.Reading.{capacity, RowReserved, with_open, state_of, StateRoom, HoldsState, counted, StepOf}
use Rattle.section.proofs.StateLaws.{FlushedIfOver, full_outside, kept_size, same_kept, same-sections, with_used, more-valid, more_state, step_as}

-- ---- counts

module _ {A : Type 0} where
  within-accepted : (limit n : ℕ) (a : A) {b : A} → within limit n a ≡ accepted b → (n ≤ limit) × (a ≡ b)
  unfolding within
  within-accepted limit n a {b} p = go (leb n limit) refl p
    where
      go : (t : Bool) → leb n limit ≡ t → ◌≡◌ {A = Answer A} (cond t (accepted a) (refuse TooManyEntries)) (accepted b) → (n ≤ limit) × (a ≡ b)
      go true e q = (leb-true n limit e, accepted_inj q)
      go false e q = absurd (not_accepted q)

  within-refused : (limit n : ℕ) (a : A) {r : Refusal} → within limit n a ≡ refused r → (r ≡ unplaced TooManyEntries) × (limit < n)
  unfolding within
  within-refused limit n a {r} p = go (leb n limit) refl p
    where
      go : (t : Bool) → leb n limit ≡ t → ◌≡◌ {A = Answer A} (cond t (accepted a) (refuse TooManyEntries)) (refused r)
          → (r ≡ unplaced TooManyEntries) × (limit < n)
      go true e q = absurd (not_refused q)
      go false e q = (cc, leb-false n limit e)

-- the entries of a state with an open section
pub count_open : (s : ModelState) (path : Option Bytes) (l : List Item) → entries (open_section s path l) ≡ length s.kept + suc (length l)
unfolding entries open_section
count_open s path l = refl

-- ---- the answer of `section_tail::add_row` is the step's

-- the answer as a match has it, and the place of spare words as the code has it
pub adding_as : {text ws ws' : List ℕ} {index used rows most at : ℕ} {s : OpenSizes} {r : Row} {adds : Bool} {a b : Result OpenSizes Fault} → a ≡ b → rows ≡ most
    → RowAdded text ws ws' index used (index + rows) at s r adds a → RowAdded text ws ws' index used (index + most) at s r adds b
adding_as e f ε = rw (e, f) at ε

pub flushed_as : {text ws ws' : List ℕ} {index used rows all at most : ℕ} {s t : OpenSizes} → rows ≡ all
    → FlushedIfOver text ws ws' index used (index + rows) at most s t → FlushedIfOver text ws ws' index used (index + all) at most s t
flushed_as e φ = rw e at φ

module _ {text ws : List ℕ} {index limit : ℕ} {st : State} (ζ : HoldsState text ws index limit st) (h : st.kept < st.used) (r : Row) (adds : Bool) where
  abbrev S : ModelState
  S = state_of text ws index st

  abbrev added : Answer (List Item)
  added = add item_key compare_bytes (combine_of adds) (item_of text r) S.items

  abbrev answer : Answer ModelState
  answer = counted limit (enter_item (combine_of adds) (item_of text r) S)

  -- the items counted within the rows that there are
  abbrev in_rows : List Item → Answer (List Item)
  in_rows items = within st.used (st.kept + 1 + length items) items

  abbrev number : List Item → ℕ
  number l = length S.kept + suc (length l)

  answer_accepted : (l : List Item) → added ≡ accepted l → answer ≡ within limit (number l) (open_section S S.path l)
  unfolding enter_item
  answer_accepted l p = rw p (ap (λ (k : ℕ). within limit k (open_section S S.path l)) (count_open S S.path l))

  answer_refused : {x : Refusal} → added ≡ refused x → answer ≡ refused x
  unfolding enter_item
  answer_refused p = rw p

  size : length S.kept + st.tombstones ≡ st.kept
  size = kept_size ζ

  -- after the row is added, the entries are counted as far as needed
  module _ {ws₁ ws' : List ℕ} {s t : OpenSizes} (ε : RowAdded text ws ws₁ index st.used (index + capacity limit) (st.kept + 1) st.sizes r adds (Ok s))
      (φ : FlushedIfOver text ws₁ ws' index st.used (index + capacity limit) (st.kept + 1) (limit + st.tombstones) s t) where
    -- the items that the model has
    items-are : added ≡ accepted (items_of text ws' index (st.kept + 1) t)
    items-are = go (bind-accepted added in_rows (sym ε.items))
      where
        go : (l : List Item) × (added ≡ accepted l) × (in_rows l ≡ accepted (items_of text ws₁ index (st.kept + 1) s))
            → added ≡ accepted (items_of text ws' index (st.kept + 1) t)
        go (l, a, w) = a ∙ ap accepted ((within-accepted st.used (st.kept + 1 + length l) l w).1 ∙ sym φ.items)

    others : Unchanged (row ws index) (row ws' index) 0 st.kept
    others j p q = φ.others j p (omega arith) ∙ ε.others j p (omega arith)

    pub added_next : end_of (st.kept + 1) t ≤ limit + st.tombstones → length ws' ≡ length ws
        → StepOf text ws' index limit answer (Ok (with_open st st.used t))
    unfolding open_section
    added_next m len =
        let l = items_of text ws' index (st.kept + 1) t in
        record {
          is =
              (λ i. accepted (record { kept = same_kept ws' ζ others i; test = S.test; inside = true; path = S.path; items = l }))
              ∙ sym (answer_accepted l items-are ∙ within-fits limit (number l) (open_section S S.path l)
              (omega (arith, held-length φ.still, size)));
          valid = record {
            space = record {
              room = record { rows = ζ.space.room.rows; words = omega (arith, ζ.space.room.words) };
              store = φ.still.parts.main.store;
              delta = ζ.space.delta;
              kept = ζ.space.kept;
              most = ζ.space.most;
              tombstones = ζ.space.tombstones;
            };
            sections = same-sections ws' ζ others st.used φ.still.parts.main.store ζ.space.kept;
            open_items = λ q. φ.still;
            opened = h;
            fits = omega arith;
            test = ζ.test;
            path = ζ.path;
          };
        }

    pub added-past : limit + st.tombstones < end_of (st.kept + 1) t → StepOf text ws' index limit answer (Err TooManyEntries)
    added-past m =
        let l = items_of text ws' index (st.kept + 1) t in
        record { is = sym (answer_accepted l items-are ∙ within-past limit (number l) (open_section S S.path l) (past φ.exact)); valid = tt }
      where
        past : (end_of (st.kept + 1) t ≤ limit + st.tombstones) ⊎ (t.tail ≡ 0) → limit < number (items_of text ws' index (st.kept + 1) t)
        past (inl q) = absurd (omega arith)
        past (inr q) = omega (arith, held_exact φ.still q, size)

  pub added-refused : {ws' : List ℕ} (fault : Fault)
      → RowAdded text ws ws' index st.used (index + capacity limit) (st.kept + 1) st.sizes r adds (Err fault)
      → (end_of (st.kept + 1) st.sizes < st.used) ⊎ (st.used ≡ capacity limit) → StepOf text ws' index limit answer (Err fault)
  added-refused fault ε free = record { is = go added refl ε.items; valid = tt }
    where
      -- the rows end only where more would be past the limit
      full : (l : List Item) → added ≡ accepted l → st.used < st.kept + 1 + length l → limit < number l
      full l a m = by-free free
        where
          by-free : (end_of (st.kept + 1) st.sizes < st.used) ⊎ (st.used ≡ capacity limit) → limit < number l
          by-free (inl q) =
              let most = add_most item_key compare_bytes (combine_of adds) (item_of text r) S.items l a in
              let few : length S.items ≤ rows_of st.sizes = held-length (ζ.open_items h) in
              absurd (omega arith)
          by-free (inr q) = omega (arith, size, ζ.space.tombstones)

      go : (x : Answer (List Item)) → added ≡ x → refuse fault ≡ bind x in_rows → refuse fault ≡ answer
      go (refused x) a e = let z : unplaced fault ≡ x = cc in ap refused z ∙ sym (answer_refused a)
      go (accepted l) a e =
          let (z, m) = within-refused st.used (st.kept + 1 + length l) l (sym e) in
          ap refused z ∙ sym (answer_accepted l a ∙ within-past limit (number l) (open_section S S.path l) (full l a m))

-- the first item of a section
enter_first : (combine : Item → Item → Answer Item) (item : Item) (s : ModelState) → s.items ≡ []
    → enter_item combine item s ≡ accepted (open_section s s.path (item ∷ []))
unfolding enter_item
enter_first combine item s e = rw e

-- no row may be had for the section itself
pub added_none : {text ws : List ℕ} {index limit : ℕ} {st : State} → HoldsState text ws index limit st → (r : Row) (adds : Bool)
    → limit + st.tombstones ≤ st.kept
    → StepOf text ws index limit (counted limit (enter_item (combine_of adds) (item_of text r) (state_of text ws index st))) (Err TooManyEntries)
added_none {text} {ws} {index} {limit} {st} ζ r adds h =
    let S = state_of text ws index st in
    let next = open_section S S.path (item_of text r ∷ []) in
    let size : length S.kept + st.tombstones ≡ st.kept = kept_size ζ in
    let n : entries next ≡ length S.kept + 2 = count_open S S.path (item_of text r ∷ []) in
    record {
      is = sym (ap (counted limit) (enter_first (combine_of adds) (item_of text r) S (full_outside ζ h))
          ∙ within-past limit (entries next) next (omega (arith, n, size)));
      valid = tt;
    }

-- ---- what `on_item` owes, once there are rows for the section itself and for one item more

-- the row for the section itself is there
pub header-free : {ws ws' : List ℕ} {index limit header : ℕ} {st : State} → StateRoom ws index limit st → RowReserved ws ws' index st.used limit st.kept header
    → st.kept < limit + st.tombstones → st.kept < header
header-free {limit = limit} {header = header} {st = st} ς ρ h = go ρ.free
  where
    go : (st.kept < header) ⊎ (header ≡ capacity limit) → st.kept < header
    go (inl q) = q
    go (inr q) = omega (arith, ς.tombstones)

module _ {text ws ws₁ : List ℕ} {index limit header : ℕ} {st : State} (ζ : HoldsState text ws index limit st)
    (ρ : RowReserved ws ws₁ index st.used limit st.kept header)
    (len : length ws₁ ≡ length ws) (h : st.kept < header) where
  module _ {ws₂ : List ℕ} {used : ℕ} (ρ' : RowReserved ws₁ ws₂ index header limit (end_of (st.kept + 1) st.sizes) used)
      (len' : length ws₂ ≡ length ws₁) where
    there : HoldsState text ws₂ index limit (with_used st used)
    there = more-valid (more-valid ζ ρ len) ρ' len'

    header-there : st.kept < used
    header-there = omega (arith, ρ'.more)

    pub line_open : OpenSection text ws₂ index used (index + capacity limit) (st.kept + 1) st.sizes
    line_open = there.open_items header-there

    module _ (r : Row) (adds : Bool) where
      same_answer : counted limit (enter_item (combine_of adds) (item_of text r) (state_of text ws₂ index (with_used st used)))
          ≡ counted limit (enter_item (combine_of adds) (item_of text r) (state_of text ws index st))
      same_answer = ap (λ (s : ModelState). counted limit (enter_item (combine_of adds) (item_of text r) s))
          (more_state (more-valid ζ ρ len) ρ' ∙ more_state ζ ρ)

      module _ {ws₃ ws₄ : List ℕ} {s t : OpenSizes}
          (ε : RowAdded text ws₂ ws₃ index used (index + capacity limit) (st.kept + 1) st.sizes r adds (Ok s))
          (φ : FlushedIfOver text ws₃ ws₄ index used (index + capacity limit) (st.kept + 1) (limit + st.tombstones) s t) where
        pub line-next : end_of (st.kept + 1) t ≤ limit + st.tombstones → length ws₄ ≡ length ws₂
            → StepOf text ws₄ index limit (counted limit (enter_item (combine_of adds) (item_of text r) (state_of text ws index st)))
            (Ok (with_open st used t))
        line-next m len'' = step_as same_answer (added_next there header-there r adds ε φ m len'')

        pub line-past : limit + st.tombstones < end_of (st.kept + 1) t
            → StepOf text ws₄ index limit (counted limit (enter_item (combine_of adds) (item_of text r) (state_of text ws index st)))
            (Err TooManyEntries)
        line-past m = step_as same_answer (added-past there header-there r adds ε φ m)

      pub line_refused : {ws₃ : List ℕ} (fault : Fault)
          → RowAdded text ws₂ ws₃ index used (index + capacity limit) (st.kept + 1) st.sizes r adds (Err fault)
          → StepOf text ws₃ index limit (counted limit (enter_item (combine_of adds) (item_of text r) (state_of text ws index st))) (Err fault)
      line_refused fault ε = step_as same_answer (added-refused there header-there r adds fault ε ρ'.free)
