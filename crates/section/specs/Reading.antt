-- The state between two lines, read back from the words. Assumes nothing.
use Rattle.std.specs.Prelude.{ℕ, ◌+◌, ◌-◌, ◌*◌, ◌/◌, ◌≤◌, ◌<◌, ◌≡◌, ◌⊎◌, Bool, true, false, List, length, Result, Ok, Err}
use Rattle.std.proofs.Math.Option.{Option, none, some}
use Rattle.table.specs.Places.{Unchanged}
use Rattle.table.specs.Rows.{row_words, UnchangedOutside}
use Rattle.table.specs.Store.{row, Store}
use Rattle.model.specs.declared.Part.{Part}
use Rattle.model.specs.declared.Fault.{Fault}
use Rattle.model.specs.Bytes.{Bytes}
use Rattle.model.specs.Answer.{Answer, accepted, ◌>>=◌, refuse}
use Rattle.model.specs.Report.{within}
use Rattle.model.specs.Reading.{State as ModelState, entries}
use Rattle.table_item.specs.Items.{part_in, PartInside}
use Rattle.section_tail.specs.declared.OpenSizes.{OpenSizes}
use Rattle.section_tail.specs.Tail.{rows_of, items_of, OpenSection}
use Rattle.section.specs.declared.State.{State}
use Rattle.table_section.specs.Sections.{entries_at, Sections}
use Rattle.section_commit.specs.declared.KeptSizes.{KeptSizes}
use Rattle.section_commit.specs.Commit.{KeptSections, report_of}

-- ---- the words

-- the largest number of tombstones
abbrev pub slack : ℕ → ℕ
slack limit = limit / 8

-- the number of rows: one for each entry within the limit, and the slack for tombstones
abbrev pub capacity : ℕ → ℕ
capacity limit = limit + slack limit

-- the words for the rows, their index, and twice as many spare words behind it
pub record SectionRoom (ws : List ℕ) (index limit : ℕ) : Type 0 where
  pub rows : capacity limit * row_words ≤ index
  pub words : index + capacity limit + capacity limit + capacity limit ≤ length ws

-- there is a row at the place, or no more may be had; the spare words stay
pub record RowReserved (ws ws' : List ℕ) (index used limit place r : ℕ) : Type 0 where
  pub store : Store ws' index r
  pub more : used ≤ r
  pub most : r ≤ capacity limit
  pub rows : Unchanged (row ws index) (row ws' index) 0 used
  pub free : (place < r) ⊎ (r ≡ capacity limit)
  pub spare : UnchangedOutside ws ws' 0 (index + capacity limit)

-- ---- states

abbrev pub with_open : State → ℕ → OpenSizes → State
with_open st used sizes = record {
  kept = st.kept;
  delta = st.delta;
  tombstones = st.tombstones;
  used = used;
  sizes = sizes;
  inside = true;
  test = st.test;
  path = st.path;
  has_path = st.has_path;
}

abbrev pub with_path : State → Part → State
with_path st path = record {
  kept = st.kept;
  delta = st.delta;
  tombstones = st.tombstones;
  used = st.used;
  sizes = st.sizes;
  inside = st.inside;
  test = st.test;
  path = path;
  has_path = true;
}

abbrev pub no_part : Part
no_part = record { start = 0; len = 0 }

abbrev pub with_closed : ℕ → ℕ → ℕ → ℕ → Part → State
with_closed kept delta tombstones used test = record {
  kept = kept;
  delta = delta;
  tombstones = tombstones;
  used = used;
  sizes = record { main = 0; delta = 0; tail = 0; flushes = 0; calls = 0 };
  inside = false;
  test = test;
  path = no_part;
  has_path = false;
}

-- the number of kept rows in main
abbrev pub main_of : State → ℕ
main_of st = st.kept - st.delta

-- the kept rows in their parts
abbrev pub kept_sizes_of : State → KeptSizes
kept_sizes_of st = record { main = main_of st; delta = st.delta; tombstones = st.tombstones }

-- the path, if its SF came
abbrev pub path_in : Bytes → Bool → Part → Option Bytes
path_in text true path = some (part_in text path)
path_in text false path = none

-- the model's state that the words are
abbrev pub state_of : Bytes → List ℕ → ℕ → State → ModelState
state_of text ws index st = record {
  kept = report_of text ws index (kept_sizes_of st);
  test = part_in text st.test;
  inside = st.inside;
  path = path_in text st.has_path st.path;
  items = items_of text ws index (st.kept + 1) st.sizes;
}

-- inside, the section's header row is in use; outside, nothing is open
abbrev pub Opened : Bool → State → Type 0
Opened true st = st.kept < st.used
Opened false st = rows_of st.sizes ≡ 0

-- all rows but the tombstones are within the limit
abbrev pub RowsWithinLimit : Bool → ℕ → State → Type 0
RowsWithinLimit true limit st = st.kept + 1 + rows_of st.sizes ≤ limit + st.tombstones
RowsWithinLimit false limit st = st.kept ≤ limit + st.tombstones

-- without SF the path is empty
abbrev pub PathInside : Bytes → Bool → Part → Type 0
PathInside text true path = PartInside text path
PathInside text false path = path ≡ no_part

-- the words have room for the state
pub record StateRoom (ws : List ℕ) (index limit : ℕ) (st : State) : Type 0 where
  pub room : SectionRoom ws index limit
  pub store : Store ws index st.used
  pub delta : st.delta ≤ st.kept
  pub kept : st.kept ≤ st.used
  pub most : st.used ≤ capacity limit
  pub tombstones : st.tombstones ≤ slack limit

-- the words hold the state
pub record HoldsState (text ws : List ℕ) (index limit : ℕ) (st : State) : Type 0 where
  pub space : StateRoom ws index limit st
  pub sections : KeptSections text ws index st.used (kept_sizes_of st)
  pub open_items : st.kept < st.used → OpenSection text ws index st.used (index + capacity limit) (st.kept + 1) st.sizes
  pub opened : Opened st.inside st
  pub fits : RowsWithinLimit st.inside limit st
  pub test : PartInside text st.test
  pub path : PathInside text st.has_path st.path

-- ---- steps

-- after the effect the entries are counted
abbrev pub counted : ℕ → Answer ModelState → Answer ModelState
counted limit answer = answer >>= λ next. within limit (entries next) next

abbrev pub seen_step : Bytes → List ℕ → ℕ → Result State Fault → Answer ModelState
seen_step text ws index (Ok st) = accepted (state_of text ws index st)
seen_step text ws index (Err fault) = refuse fault

abbrev pub ValidStep : Bytes → List ℕ → ℕ → ℕ → Result State Fault → Type 0
ValidStep text ws index limit (Ok st) = HoldsState text ws index limit st
ValidStep text ws index limit (Err fault) = Unit {0}

-- the step's answer is the model's, and its state is fit for the next line
pub record StepOf (text ws' : List ℕ) (index limit : ℕ) (answer : Answer ModelState) (r : Result State Fault) : Type 0 where
  pub is : seen_step text ws' index r ≡ answer
  pub valid : ValidStep text ws' index limit r

-- the step is an effect on the state that the words ws hold, and the words ws' hold what comes of it
abbrev pub StepBy : (ModelState → Answer ModelState) → List ℕ → List ℕ → List ℕ → ℕ → ℕ → State → Result State Fault → Type 0
StepBy effect text ws ws' index limit st r = StepOf text ws' index limit (counted limit (effect (state_of text ws index st))) r

-- ---- the end of the text

-- the kept entries are the first n rows, in order
pub record AllInMain (text ws ws' : List ℕ) (index : ℕ) (st : State) (n : ℕ) : Type 0 where
  pub entries : entries_at text ws' index n ≡ (state_of text ws index st).kept
  pub sections : Sections text ws' index st.used n
