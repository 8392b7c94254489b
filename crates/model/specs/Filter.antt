-- The filter: `LineNum::apply` on each section of a text's report. `Bound` tells the two filters apart. Assumes nothing.
use Rattle.std.specs.Prelude.{ℕ, ◌-◌, Bool, true, false, List, [], ◌∷◌, ◌++◌, map, ltb, take, if◌then◌else◌}
use Rattle.std.proofs.Math.Option.{Option, none, some}
use Rattle.model.specs.declared.Bound.{Bound}
use Rattle.model.specs.declared.Bound.TheVariants.{NextStart, GreaterStart}
use Rattle.model.specs.declared.Fault.TheVariants.{MalformedRanges}
use Rattle.model.specs.declared.Kind.{Kind}
use Rattle.model.specs.declared.Range.{Range}
use Rattle.model.specs.Lists.{filter, sort}
use Rattle.model.specs.Bytes.{Bytes}
use Rattle.model.specs.Answer.{Answer, ◌>>=◌, refuse}
use Rattle.model.specs.Limits.{u32_max}
use Rattle.model.specs.Report.{Item, section_item, function_item, branch_item, line_item, compare_items, start_of, end_of}
use Rattle.model.specs.Reading.{read_text}
use Rattle.model.specs.Printing.{Section, is_branch, is_line, functions_of, sections, print_sections}
use Rattle.model.specs.Output.{written}
use Rattle.model.specs.Gather.{entry_limit}
use Rattle.model.specs.Ranges.{holds, well_formed_ranges}

-- the line of a branch or line
unfoldable pub line_of : Item → ℕ
line_of (section_item spelling) = 0
line_of (function_item f) = 0
line_of (branch_item line block branch taken) = line
line_of (line_item line count checksum) = line

-- branches and lines stay if their line is held
unfoldable pub is_held : List Range → Item → Bool
is_held ranges item = holds ranges (line_of item) (line_of item)

-- a start line; functions without one are removed before
unfoldable pub start_line : Item → ℕ
start_line item = elim (start_of item) [ none ↦ 0 | some start ↦ start ]

unfoldable pub has_start : Item → Bool
has_start item = elim (start_of item) [ none ↦ false | some start ↦ true ]

-- of the functions behind one that starts at a line, those that can bound it: all, or those that start at a greater line
unfoldable pub bounding : Bound → ℕ → List Item → List Item
bounding NextStart start behind = behind
bounding GreaterStart start behind = filter (λ f. ltb start (start_line f)) behind

-- one before the start of the first that bounds it, where 0 stays 0; 2^32 - 1 where there is none
unfoldable pub end_before : List Item → ℕ
end_before [] = u32_max
end_before (next ∷ rest) = start_line next - 1

-- an end that FN gives goes before the reckoned one
abbrev pub end_or : ℕ → Option ℕ → ℕ
end_or reckoned none = reckoned
end_or reckoned (some end) = end

-- where a function ends: as FN says, or as those behind it say
unfoldable pub end_line : Bound → Item → List Item → ℕ
end_line bound item behind = end_or (end_before (bounding bound (start_line item) behind)) (end_of item)

-- functions in printing order: each stays if the range from its start to its end queries yes
unfoldable pub held_functions : Bound → List Range → List Item → List Item
held_functions bound ranges [] = []
held_functions bound ranges (f ∷ fs) =
    if holds ranges (start_line f) (end_line bound f fs) then f ∷ held_functions bound ranges fs else held_functions bound ranges fs

unfoldable pub filter_items : Bound → List Range → List Item → List Item
filter_items bound ranges items =
    sort compare_items (held_functions bound ranges (filter has_start (functions_of items)))
    ++ filter (is_held ranges) (filter is_branch items)
    ++ filter (is_held ranges) (filter is_line items)

-- an emptied section stays
unfoldable pub filter_section : Bound → List Range → Section → Section
filter_section bound ranges s = record { test = s.test; spelling = s.spelling; items = filter_items bound ranges s.items }

module _ (tag : Kind → Bytes) where
  -- filter a text by the used pairs of a slice of ranges
  unfoldable pub filter_text : Bound → Bytes → List Range → ℕ → ℕ → ℕ → Answer Bytes
  filter_text bound text slice used words room =
      if well_formed_ranges slice used
      then (read_text tag (entry_limit words) text >>= λ report. written room (print_sections tag (map (filter_section bound (take used slice)) (sections report))))
      else refuse MalformedRanges
