-- The two filters compared: where the next greater start bounds a function, all stays that stays where the next start does, and the same
-- where all starts of a section differ. Assumes nothing.
use Rattle.std.specs.Prelude.{ℕ, ◌≡◌, ◌≢◌}
use mathlib.Core.List.{List, [], ◌∷◌, Memᴰ as Member}
use Rattle.model.specs.declared.Bound.TheVariants.{NextStart, GreaterStart}
use Rattle.model.specs.declared.Kind.{Kind}
use Rattle.model.specs.declared.Range.{Range}
use Rattle.model.specs.Lists.{filter}
use Rattle.model.specs.Bytes.{Bytes}
use Rattle.model.specs.Answer.{accepted}
use Rattle.model.specs.Report.{Item, Report}
use Rattle.model.specs.Reading.{read_text}
use Rattle.model.specs.Printing.{Section, functions_of, sections}
use Rattle.model.specs.Gather.{entry_limit}
use Rattle.model.specs.Filter.{start_line, has_start, filter_section, filter_text}

-- no two functions start on one line
abbrev pub StartsDiffer : List Item → Type 0
StartsDiffer [] = Unit {0}
StartsDiffer (f ∷ fs) = ((g : Item) → Member g fs → start_line f ≢ start_line g) × StartsDiffer fs

module _ (tag : Kind → Bytes) where
  pub record Filters : Type 0 where
    -- in each section of a text that is read
    pub keeps_all : (limit : ℕ) (text : Bytes) (report : Report) → read_text tag limit text ≡ accepted report
        → (section : Section) → Member section (sections report) → (ranges : List Range) (item : Item)
        → Member item (filter_section NextStart ranges section).items → Member item (filter_section GreaterStart ranges section).items
    -- both answer the same, refusals and needed lengths included
    pub same : (text : Bytes) (slice : List Range) (used words room : ℕ)
        → ((report : Report) → read_text tag (entry_limit words) text ≡ accepted report → (section : Section) → Member section (sections report)
        → StartsDiffer (filter has_start (functions_of section.items)))
        → filter_text tag GreaterStart text slice used words room ≡ filter_text tag NextStart text slice used words room
