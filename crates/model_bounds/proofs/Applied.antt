-- A text between two others, to which the claims of bounds are applied: their premises can be met. Assumes nothing.
use mathlib.Core.Path.{◌≡◌, refl}
use mathlib.Core.List.{List, [], ◌∷◌, map}
use mathlib.Core.Option.{none, some}
use Rattle.model.specs.Bytes.{Bytes, ascii}
use Rattle.model.specs.Answer.{accepted}
use Rattle.model.specs.Path.{components}
use Rattle.model.specs.Tags.{default_tag}
use Rattle.model.specs.Report.{extent_at, function_of, section_item, function_item, branch_item, line_item, Item, Report, in_section}
use Rattle.model.specs.Reading.{read_text}
use Rattle.model.specs.Compute.{open_all}
use Rattle.model.proofs.Read.{read_text-valid}
use Rattle.model_bounds.specs.Bounds.{hits_of, hit_bounds}
use Rattle.model_bounds.specs.Claims.{Within}
use Rattle.model_bounds.specs.Compute.{open_bounds}
use Rattle.model_bounds.proofs.BoundsLaws.{between_tested, bounds_claim}
use Rattle.model_bounds.proofs.Examples.{hitting, from_to, low_text, high_text}

-- another spelling, no start, a checksum, a taken of 0
abbrev mid_text : Bytes
mid_text = ascii "SF:a/b\nFNDA:0,f\nBRDA:1,0,0,0\nDA:1,1,c\nDA:2,4\nend_of_record\n"

-- what the three texts are read as
abbrev held : Bytes → List Item → Report
held spelling items = map (in_section ([], components (ascii "a/b"))) (section_item spelling ∷ items)

abbrev low_report : Report
low_report =
    held (ascii "a//b") (function_item (function_of (ascii "f") (some (extent_at 1 none)) 0) ∷ branch_item 1 0 0 none ∷ line_item 1 0 none ∷ line_item 2 3 none ∷ [])

abbrev mid_report : Report
mid_report =
    held (ascii "a/b") (function_item (function_of (ascii "f") none 0) ∷ branch_item 1 0 0 (some 0) ∷ line_item 1 1 (some (ascii "c")) ∷ line_item 2 4 none ∷ [])

abbrev high_report : Report
high_report =
    held (ascii "a/b/") (function_item (function_of (ascii "f") (some (extent_at 2 none)) 5) ∷ branch_item 1 0 0 (some 1) ∷ line_item 1 1 none ∷ line_item 2 4 none ∷ [])

low_read : read_text default_tag 256 low_text ≡ accepted low_report
unfolding open_all
low_read = refl

mid_read : read_text default_tag 256 mid_text ≡ accepted mid_report
unfolding open_all
mid_read = refl

high_read : read_text default_tag 256 high_text ≡ accepted high_report
unfolding open_all
high_read = refl

call_told : hit_bounds default_tag low_text high_text 8_192 ≡ accepted (from_to (hitting 1 0 0) (hitting 2 1 1))
unfolding open_all open_bounds
call_told = refl

-- the claim's premises are met by a text between the two
pub mid_within : Within (from_to (hitting 1 0 0) (hitting 2 1 1)) (hits_of mid_report)
unfolding open_all open_bounds
mid_within =
    bounds_claim.texts_within default_tag low_text high_text mid_text 8_192 256 (from_to (hitting 1 0 0) (hitting 2 1 1)) mid_report call_told
    (record { low = low_report; high = high_report; low_read = low_read; high_read = high_read }) mid_read
    (between_tested low_report high_report mid_report (read_text-valid default_tag 256 low_text low_read).0 (read_text-valid default_tag 256 high_text high_read).0
    (read_text-valid default_tag 256 mid_text mid_read).0 refl refl refl refl)

pub mid_hits : hits_of mid_report ≡ hitting 2 0 0
unfolding open_all open_bounds
mid_hits = refl
