-- A valid state stays valid, and the same for the model, where rows are added behind those in use. Assumes nothing.
use mathlib.Core.Path.{◌≡◌, refl, sym, ◌∙◌}
use mathlib.Core.Logic.{◌⊎◌, inl, inr}
use mathlib.Core.Bool.{Bool, true, false}
use mathlib.Core.List.{List, []}
use Prim.Native.Nat.{ℕ, ◌+◌, ◌-◌, ◌≤◌, ◌<◌}
use native.Mathlib.Omega.{arith}
use lib.ListN.{length}
use Rattle.table.specs.Places.{tabulate, Unchanged}
use Rattle.table.specs.Store.{row, Store}
use Rattle.model.specs.declared.Fault.{Fault}
use Rattle.model.specs.declared.Part.{Part}
use Rattle.model.specs.Lists.{filter}
use Rattle.model.specs.Answer.{Answer}
use Rattle.model.specs.Reading.{State as ModelState, outside, path_or}
use Rattle.table_item.specs.Items.{part_in, PartInside}
use Rattle.section_upsert.specs.MainDelta.{merge_items}
use Rattle.section_upsert.proofs.UpsertLaws.{parted_none}
use Rattle.section_tail.specs.declared.OpenSizes.{OpenSizes}
use Rattle.section_tail.specs.Tail.{include_all, calls_in, rows_of, end_of, items_of, OpenSection, TailFlushed}
use Rattle.section_tail.proofs.ItemLaws.{same-held, same_included}
use Rattle.section_tail.proofs.UpsertLaws.{none_open as none-in-main}
use Rattle.section.specs.declared.State.{State}
use Rattle.std.specs.Prelude.{Result, Ok}
use Rattle.section_commit.specs.declared.KeptSizes.{KeptSizes}
use Rattle.section_commit.specs.Commit.{InParts, KeptSections, report_of}
use Rattle.section_commit.proofs.HeldLaws.{parts_as, kept_as, kept-length, all-main}
use Rattle.section.specs.Reading.{slack, capacity, SectionRoom, RowReserved, with_open, with_path, with_closed, main_of, kept_sizes_of, path_in, state_of, Opened, RowsWithinLimit, PathInside, StateRoom, HoldsState, StepOf}

-- ---- rows that are ready

-- ---- the rows of the open section counted

-- the same items of the open section, whose rows are at most `most`, or which has no tail
pub record FlushedIfOver (text ws ws' : List ℕ) (index used spare at most : ℕ) (s r : OpenSizes) : Type 0 where
  pub items : items_of text ws' index at r ≡ items_of text ws index at s
  pub still : OpenSection text ws' index used spare at r
  pub others : Unchanged (row ws index) (row ws' index) 0 at
  pub exact : (end_of at r ≤ most) ⊎ (r.tail ≡ 0)

pub flushed_there : {text ws : List ℕ} {index used spare at most : ℕ} {s : OpenSizes} → OpenSection text ws index used spare at s → end_of at s ≤ most
    → FlushedIfOver text ws ws index used spare at most s s
flushed_there κ l = record { items = refl; still = κ; others = λ k p q. refl; exact = inl l }

pub flushed_emptied : {text ws ws' : List ℕ} {index used spare at : ℕ} (most : ℕ) {s r : OpenSizes} → TailFlushed text ws ws' index used spare at s r
    → FlushedIfOver text ws ws' index used spare at most s r
flushed_emptied most η = record { items = η.items; still = η.still; others = η.others; exact = inr η.none }

-- ---- nothing is open

pub no_items : (text ws : List ℕ) (index at : ℕ) (s : OpenSizes) → rows_of s ≡ 0 → items_of text ws index at s ≡ []
unfolding include_all merge_items tabulate
no_items text ws index at s z =
    let x : s.main ≡ 0 = omega arith in
    let y : s.delta ≡ 0 = omega arith in
    let q : s.tail ≡ 0 = omega arith in
    rw (x, y, q)

none_open : {text ws : List ℕ} {index used spare at : ℕ} {s : OpenSizes} → Store ws index used → at ≤ used → rows_of s ≡ 0 → OpenSection text ws index used spare at s
unfolding calls_in merge_items tabulate
none_open {s = s} σ l z =
    let x : s.main ≡ 0 = omega arith in
    let y : s.delta ≡ 0 = omega arith in
    let q : s.tail ≡ 0 = omega arith in
    record {
      parts = rw (x, y) (parted_none (none-in-main σ l));
      alone = λ h. y;
      counted = λ h. absurd (h q);
      room = omega arith;
      inner = λ k m. absurd (omega arith);
      calls = λ h. rw (x, y, q) (omega arith);
    }

-- ---- states

-- inside, the open section has its rows; outside, it has no items
pub by-inside : {C : Type 0} {text ws : List ℕ} {index limit : ℕ} {st : State} → HoldsState text ws index limit st
    → (st.kept < st.used → C) → (rows_of st.sizes ≡ 0 → items_of text ws index (st.kept + 1) st.sizes ≡ [] → C) → C
by-inside {C} {text} {ws} {index} {limit} {st} ζ f g = go st.inside ζ.opened
  where
    go : (b : Bool) → Opened b st → C
    go true o = f o
    go false o = g o (no_items text ws index (st.kept + 1) st.sizes o)

-- inside, all rows but the tombstones are within the limit
pub rows_fit : {text ws : List ℕ} {index limit : ℕ} {st : State} → HoldsState text ws index limit st → st.kept < limit + st.tombstones
    → st.kept + 1 + rows_of st.sizes ≤ limit + st.tombstones
rows_fit {limit = limit} {st = st} ζ h = go st.inside ζ.opened ζ.fits
  where
    go : (b : Bool) → Opened b st → RowsWithinLimit b limit st → st.kept + 1 + rows_of st.sizes ≤ limit + st.tombstones
    go true o f = f
    go false o f = omega (arith, o)

-- where no row is left for a section, none is open
pub full_outside : {text ws : List ℕ} {index limit : ℕ} {st : State} → HoldsState text ws index limit st → limit + st.tombstones ≤ st.kept
    → items_of text ws index (st.kept + 1) st.sizes ≡ []
full_outside {text} {ws} {index} {limit} {st} ζ h = go st.inside ζ.opened ζ.fits
  where
    go : (b : Bool) → Opened b st → RowsWithinLimit b limit st → items_of text ws index (st.kept + 1) st.sizes ≡ []
    go true o f = absurd (omega arith)
    go false o f = no_items text ws index (st.kept + 1) st.sizes o

-- the kept rows are the first
pub kept-rows : {text ws : List ℕ} {index limit : ℕ} {st : State} → HoldsState text ws index limit st → main_of st + st.delta ≡ st.kept
kept-rows ζ = omega (arith, ζ.space.delta)

-- and all but the tombstones are entries
pub kept_size : {text ws : List ℕ} {index limit : ℕ} {st : State} → HoldsState text ws index limit st
    → length (state_of text ws index st).kept + st.tombstones ≡ st.kept
kept_size ζ = kept-length ζ.sections ∙ kept-rows ζ

-- they stay where the rows stay
module _ {text ws : List ℕ} (ws' : List ℕ) {index limit : ℕ} {st : State} (ζ : HoldsState text ws index limit st)
    (s : Unchanged (row ws index) (row ws' index) 0 st.kept) where
  all_same : Unchanged (row ws index) (row ws' index) 0 (main_of st + st.delta)
  all_same k l h = s k l (omega (arith, kept-rows ζ))

  pub same_kept : report_of text ws' index (kept_sizes_of st) ≡ (state_of text ws index st).kept
  same_kept = kept_as text ws ws' index (main_of st) st.delta all_same

  pub same-sections : (used' : ℕ) → Store ws' index used' → st.kept ≤ used' → KeptSections text ws' index used' (kept_sizes_of st)
  same-sections used' σ l = parts_as ws' used' ζ.sections σ (omega (arith, kept-rows ζ)) all_same

-- the state with more rows in use
abbrev pub with_used : State → ℕ → State
with_used st used = record {
  kept = st.kept;
  delta = st.delta;
  tombstones = st.tombstones;
  used = used;
  sizes = st.sizes;
  inside = st.inside;
  test = st.test;
  path = st.path;
  has_path = st.has_path;
}

module _ {text ws ws' : List ℕ} {index limit place r : ℕ} {st : State} (ζ : HoldsState text ws index limit st)
    (ρ : RowReserved ws ws' index st.used limit place r) where
  items-below : st.kept < st.used → end_of (st.kept + 1) st.sizes ≤ st.used
  items-below o = (ζ.open_items o).room

  pub more-valid : length ws' ≡ length ws → HoldsState text ws' index limit (with_used st r)
  more-valid len =
      record {
        space = record {
          room = record { rows = ζ.space.room.rows; words = omega (arith, ζ.space.room.words) };
          store = ρ.store;
          delta = ζ.space.delta;
          kept = omega (arith, ζ.space.kept, ρ.more);
          most = ρ.most;
          tombstones = ζ.space.tombstones;
        };
        sections = same-sections ws' ζ (λ k p q. ρ.rows k p (omega (arith, ζ.space.kept))) r ρ.store (omega (arith, ζ.space.kept, ρ.more));
        open_items = λ h. by-inside ζ
            (λ o. same_included text ws ws' index (st.kept + 1) st.sizes (λ k p q. ρ.rows k p (omega (arith, items-below o))) r (ζ.open_items o) ρ.store
            (omega (arith, items-below o, ρ.more)) ρ.spare)
            (λ z e. none_open ρ.store (omega arith) z);
        opened = still st.inside ζ.opened;
        fits = within st.inside ζ.fits;
        test = ζ.test;
        path = ζ.path;
      }
    where
      still : (b : Bool) → Opened b st → Opened b (with_used st r)
      still true o = omega (arith, ρ.more)
      still false o = o

      within : (b : Bool) → RowsWithinLimit b limit st → RowsWithinLimit b limit (with_used st r)
      within true f = f
      within false f = f

  pub more_state : state_of text ws' index (with_used st r) ≡ state_of text ws index st
  more_state = λ i. record {
    kept = same_kept ws' ζ (λ k p q. ρ.rows k p (omega (arith, ζ.space.kept))) i;
    test = part_in text st.test;
    inside = st.inside;
    path = path_in text st.has_path st.path;
    items = items i;
  }
    where
      items : items_of text ws' index (st.kept + 1) st.sizes ≡ items_of text ws index (st.kept + 1) st.sizes
      items =
          by-inside ζ
          (λ o. same-held text ws ws' index (st.kept + 1) st.sizes (λ k p q. ρ.rows k p (omega (arith, items-below o))))
          (λ z e. no_items text ws' index (st.kept + 1) st.sizes z ∙ sym e)

-- a state whose header row is in use may be inside
pub inside-valid : {text ws : List ℕ} {index limit : ℕ} {st : State} → HoldsState text ws index limit st → st.kept < st.used
    → st.kept + 1 + rows_of st.sizes ≤ limit + st.tombstones
    → HoldsState text ws index limit (with_open st st.used st.sizes)
inside-valid ζ h f = record {
  space = record {
    room = ζ.space.room;
    store = ζ.space.store;
    delta = ζ.space.delta;
    kept = ζ.space.kept;
    most = ζ.space.most;
    tombstones = ζ.space.tombstones;
  };
  sections = ζ.sections;
  open_items = ζ.open_items;
  opened = h;
  fits = f;
  test = ζ.test;
  path = ζ.path;
}

-- ---- the path

-- the state with a path
module _ {ws : List ℕ} {index limit : ℕ} {st named : State} {path : Part} (e : named ≡ with_path st path) where
  room : StateRoom ws index limit st → StateRoom ws index limit (with_path st path)
  room ς = record { room = ς.room; store = ς.store; delta = ς.delta; kept = ς.kept; most = ς.most; tombstones = ς.tombstones }

  pub named-valid : {text : List ℕ} → HoldsState text ws index limit st → PartInside text path → HoldsState text ws index limit named
  named-valid {text} ζ i = rw e there
    where
      still : (b : Bool) → Opened b st → Opened b (with_path st path)
      still true o = o
      still false o = o

      within : (b : Bool) → RowsWithinLimit b limit st → RowsWithinLimit b limit (with_path st path)
      within true f = f
      within false f = f

      there : HoldsState text ws index limit (with_path st path)
      there = record {
        space = room ζ.space;
        sections = ζ.sections;
        open_items = ζ.open_items;
        opened = still st.inside ζ.opened;
        fits = within st.inside ζ.fits;
        test = ζ.test;
        path = i;
      }

-- where no SF came the path is empty, as the model has it
module _ (text : List ℕ) where
  pub path_or_lem : (b : Bool) (path : Part) → PathInside text b path → part_in text path ≡ path_or (path_in text b path)
  path_or_lem true path i = refl
  path_or_lem false path e = rw e

pub outside-valid : {text ws : List ℕ} {index limit kept delta tombstones used : ℕ} {test : Part} → SectionRoom ws index limit → used ≤ capacity limit
    → tombstones ≤ slack limit → delta ≤ kept → kept ≤ limit + tombstones
    → InParts text ws index used (kept - delta) delta tombstones → PartInside text test → HoldsState text ws index limit (with_closed kept delta tombstones used test)
outside-valid ρ m d l f σ i = record {
  space = record { room = ρ; store = σ.main.store; delta = l; kept = omega (arith, σ.delta.room); most = m; tombstones = d };
  sections = σ;
  open_items = λ q. none_open σ.main.store (omega arith) refl;
  opened = refl;
  fits = f;
  test = i;
  path = refl;
}

-- ---- before the first line

pub start-valid : {text ws : List ℕ} {index limit : ℕ} → SectionRoom ws index limit
    → HoldsState text ws index limit (with_closed 0 0 0 0 (record { start = 0; len = 0 }))
start-valid ρ =
    outside-valid ρ (omega arith) (omega arith) (omega arith) (omega arith)
    (all-main (record {
      store = record {
        rows_end = omega arith;
        index_end = omega (arith, ρ.words);
        numbers = record { below = λ k l. absurd (omega arith); once = λ k j l. absurd (omega arith) };
      };
      room = omega arith;
      rows = record { whole = λ k l. absurd (omega arith); ordered = λ i j l h. absurd (omega arith) };
    }) (λ k l. absurd (omega arith)))
    (omega arith)

pub start_state : (text ws : List ℕ) (index : ℕ) → state_of text ws index (with_closed 0 0 0 0 (record { start = 0; len = 0 })) ≡ outside [] []
unfolding outside filter include_all merge_items tabulate
start_state text ws index = refl

-- ---- answers

pub step_as : {text ws : List ℕ} {index limit : ℕ} {a b : Answer ModelState} {r : Result State Fault} → a ≡ b → StepOf text ws index limit a r
    → StepOf text ws index limit b r
step_as e σ = rw e at σ

pub next_as : {text ws : List ℕ} {index limit : ℕ} {a : Answer ModelState} {st st' : State} → st ≡ st' → StepOf text ws index limit a (Ok st')
    → StepOf text ws index limit a (Ok st)
next_as e σ = rw e σ

-- the place of spare words as the code has it
pub open_as : {text ws : List ℕ} {index used at rows most : ℕ} {s : OpenSizes} → rows ≡ most → OpenSection text ws index used (index + most) at s
    → OpenSection text ws index used (index + rows) at s
open_as e κ = rw e κ

-- and the parts
pub held_as : {text ws : List ℕ} {index used : ℕ} {p q : KeptSizes} → p ≡ q → KeptSections text ws index used q → KeptSections text ws index used p
held_as e π = rw e π
