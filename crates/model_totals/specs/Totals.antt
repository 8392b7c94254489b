-- The page of totals: for each section of a gathered report how many functions, branches and lines were hit and found, and the sums. Assumes
-- nothing.
use Rattle.std.specs.Prelude.{ℕ, zero, suc, ◌+◌, ◌*◌, ◌/◌, Bool, List, [], ◌∷◌, ◌++◌, map, length}
use Rattle.std.proofs.Math.Option.{Option, none, some}
use Rattle.model.specs.declared.Kind.{Kind}
use Rattle.model.specs.declared.Mode.TheVariants.{Checked}
use Rattle.model.specs.Lists.{filter, concat_map}
use Rattle.model.specs.Bytes.{Bytes, ascii, newline, slash}
use Rattle.model.specs.Answer.{Answer, ◌>>=◌}
use Rattle.model.specs.Number.{decimal}
use Rattle.model.specs.Tags.{default_tag}
use Rattle.model.specs.Report.{Item, Report}
use Rattle.model.specs.Printing.{Section, is_function, is_branch, is_line, hits, sections}
use Rattle.model.specs.Output.{written}
use Rattle.model.specs.Gather.{gather_bundle, program_of}
use Rattle.model_totals.specs.declared.Ratio.{Ratio}
use Rattle.model_totals.specs.declared.Totals.{Totals}

-- ---- numbers

-- of the items of one kind
unfoldable pub ratio_of : (Item → Bool) → List Item → Ratio
ratio_of kind items = record { hit = hits (filter kind items); found = length (filter kind items) }

unfoldable pub totals_of : List Item → Totals
totals_of items = record { functions = ratio_of is_function items; branches = ratio_of is_branch items; lines = ratio_of is_line items }

abbrev pub add_ratios : Ratio → Ratio → Ratio
add_ratios a b = record { hit = a.hit + b.hit; found = a.found + b.found }

abbrev pub add_totals : Totals → Totals → Totals
add_totals a b =
    record {
      functions = add_ratios a.functions b.functions;
      branches = add_ratios a.branches b.branches;
      lines = add_ratios a.lines b.lines;
    }

abbrev pub no_ratio : Ratio
no_ratio = record { hit = 0; found = 0 }

abbrev pub no_totals : Totals
no_totals = record { functions = no_ratio; branches = no_ratio; lines = no_ratio }

unfoldable pub sum_totals : List Totals → Totals
sum_totals [] = no_totals
sum_totals (t ∷ ts) = add_totals t (sum_totals ts)

-- in tenths of a percent, rounded down; none where nothing was found
unfoldable pub share : Ratio → Option ℕ
share r = elim r.found [ zero ↦ none | suc n ↦ some (1000 * r.hit / suc n) ]

-- ---- lines

abbrev pub blank : ℕ
blank = 32

abbrev pub print_share : Option ℕ → Bytes
print_share none = ascii "-"
print_share (some tenths) = decimal tenths

unfoldable pub print_ratio : Ratio → Bytes
print_ratio r = decimal r.hit ++ slash ∷ decimal r.found

-- functions, branches, lines and the lines' share
unfoldable pub columns : Totals → Bytes
columns t =
    print_ratio t.functions ++ blank ∷ print_ratio t.branches ++ blank ∷ print_ratio t.lines ++ blank ∷ print_share (share t.lines)

-- the columns of a section, its test name and its path, as the report would print them
unfoldable pub section_line : Section → Bytes
section_line s = columns (totals_of s.items) ++ blank ∷ s.test ++ blank ∷ s.spelling

-- the numbers of each section
unfoldable pub section_totals : Report → List Totals
section_totals report = map (λ s. totals_of s.items) (sections report)

-- the numbers of the last line: the columns summed
unfoldable pub last_totals : Report → Totals
last_totals report = sum_totals (section_totals report)

-- byte 10 ends each line; the last one has no names
unfoldable pub page : Report → Bytes
page report = concat_map (λ s. section_line s ++ newline ∷ []) (sections report) ++ (columns (last_totals report) ++ newline ∷ [])

-- ---- the call and the program

module _ (tag : Kind → Bytes) where
  -- the bundle gathered, checked, and the page of the joined report written
  unfoldable pub totals : Bytes → ℕ → ℕ → Answer Bytes
  totals bundle words room = do
    report ← gather_bundle tag Checked bundle words
    written room (page report)

-- the program `totals`, with the sizes of `gather`
unfoldable pub totals_program : Bytes → Bytes
totals_program input = program_of (totals default_tag) input
