-- Cases (a) to (l) of SPEC 11.1, as one claim about the definitions and one proof, by computation. Assumes nothing.
use Prim.Native.Nat.{Ordering}
use Rattle.std.specs.Prelude.{ℕ, ◌≡◌, refl, true, List, [], ◌∷◌, ◌++◌, length}
use Rattle.std.proofs.Math.Option.{none, some}
use Rattle.model.specs.declared.Range.{Range}
use Rattle.model.specs.Bytes.{Bytes, ascii}
use Rattle.model.specs.Path.{compare_paths, components}
use Rattle.model.specs.Answer.{accepted, refused, with_values}
use Rattle.model.specs.Record.{line_data, end_of_record}
use Rattle.model.specs.Tags.{default_tag}
use Rattle.model.specs.Line.{read_line}
use Rattle.model.specs.Report.{extent_at, function_of, section_item, function_item}
use Rattle.model.specs.Reading.{read_text}
use Rattle.model.specs.Gather.{gather_program}
use Rattle.model.specs.Ranges.{half_open, insert_range, holds}
use Rattle.model.specs.Filter.{filter_text}
use Rattle.model.specs.declared.Bound.TheVariants.{NextStart, GreaterStart}
use Rattle.model.specs.Compute.{open_all}

-- a refusal's number, line and field; text and needed length are 0
abbrev pub at_line : ℕ → ℕ → ℕ → List ℕ
at_line number line field = number ∷ 0 ∷ line ∷ field ∷ 0 ∷ []

abbrev pub range : ℕ → ℕ → Range
range start end = record { start = start; end = end }

-- the text of case (k): two functions on one line
abbrev pub two_templates : Bytes
two_templates = ascii "SF:a\nFN:3,f\nFN:3,g\nend_of_record\n"

-- and three, with a fourth behind
abbrev pub three_templates : Bytes
three_templates = ascii "SF:a\nFN:3,f\nFN:3,g\nFN:3,h\nFN:7,i\nend_of_record\n"

-- the seven lines of case (l)
abbrev pub sample_text : Bytes
sample_text = ascii "TN:a\nSF:m.c\nFN:3,f\nFNDA:2,f\nDA:3,2\nDA:4,0\nend_of_record\n"

-- n = 2, T = 56, starts 0 0, lengths 56 56, then the text
abbrev pub sample_bundle : Bytes
sample_bundle =
    2 ∷ 0 ∷ 0 ∷ 0 ∷ 56 ∷ 0 ∷ 0 ∷ 0 ∷ []
    ++ 0 ∷ 0 ∷ 0 ∷ 0 ∷ 0 ∷ 0 ∷ 0 ∷ 0 ∷ []
    ++ 56 ∷ 0 ∷ 0 ∷ 0 ∷ 56 ∷ 0 ∷ 0 ∷ 0 ∷ []
    ++ sample_text

pub record Cases : Type 0 where
  pub a : (with_values (read_line default_tag (ascii "FN:5")) ≡ refused (at_line 2 1 2)) × (with_values (read_line default_tag (ascii "FNF:1,2")) ≡ refused (at_line 3 1 0))
  pub b : (read_line default_tag (ascii "DA:1,2,") ≡ accepted (line_data 1 2 (some []))) × (read_line default_tag (ascii "DA:1,2,-") ≡ accepted (line_data 1 2 none))
  pub c : with_values (read_line default_tag (ascii "BRDA:1,0,0,")) ≡ refused (at_line 4 1 4)
  pub d :
      (read_line default_tag (ascii "DA:4294967295,0") ≡ accepted (line_data 4_294_967_295 0 none))
      × (with_values (read_line default_tag (ascii "DA:4294967296x,0")) ≡ refused (at_line 6 1 1))
      × (with_values (read_line default_tag (ascii "DA:4294967295x,0")) ≡ refused (at_line 5 1 1))
  pub e : read_line default_tag (ascii "end_of_record:z") ≡ accepted end_of_record
  pub f : (read_text default_tag 256 (ascii "TN:a\n") ≡ accepted []) × (with_values (read_text default_tag 256 (ascii "TN:a\nSF:b\n")) ≡ refused (at_line 8 3 0))
  pub g :
      read_text default_tag 256 (ascii "FNDA:2,f\nFN:3,f\nend_of_record\n")
      ≡ accepted
      (record { test = []; path = []; item = section_item [] }
      ∷ record { test = []; path = []; item = function_item (function_of (ascii "f") (some (extent_at 3 none)) 0) }
      ∷ [])
  pub h :
      (compare_paths (components (ascii "a//b")) (components (ascii "a/./b")) ≡ Ordering.eq)
      × (compare_paths (components (ascii "./a")) (components (ascii "a")) ≡ Ordering.lt)
      × (compare_paths (components (ascii "a/b")) (components (ascii "a-b")) ≡ Ordering.lt)
  pub i :
      (insert_range (range 3 4) (insert_range (range 1 2) []) ≡ range 1 4 ∷ [])
      × (insert_range (range 4 5) (insert_range (range 1 2) []) ≡ range 1 2 ∷ range 4 5 ∷ [])
  pub j : (holds (insert_range (half_open 0 0) []) 0 0 ≡ true) × (insert_range (half_open 5 5) [] ≡ [])
  -- in both filters; and of starts 3, 3, 3 and 7 the first three end at 6 in the second
  pub k :
      (filter_text default_tag NextStart two_templates (range 3 3 ∷ []) 1 8_192 65_536
      ≡ accepted (ascii "TN:\nSF:a\nFN:3,g\nFNDA:0,g\nFNF:1\nFNH:0\nend_of_record\n"))
      × (filter_text default_tag GreaterStart two_templates (range 3 3 ∷ []) 1 8_192 65_536
      ≡ accepted (ascii "TN:\nSF:a\nFN:3,f\nFN:3,g\nFNDA:0,f\nFNDA:0,g\nFNF:2\nFNH:0\nend_of_record\n"))
      × (filter_text default_tag GreaterStart three_templates (range 6 6 ∷ []) 1 8_192 65_536
      ≡ accepted (ascii "TN:\nSF:a\nFN:3,f\nFN:3,g\nFN:3,h\nFNDA:0,f\nFNDA:0,g\nFNDA:0,h\nFNF:3\nFNH:0\nend_of_record\n"))
      × (filter_text default_tag GreaterStart three_templates (range 7 7 ∷ []) 1 8_192 65_536
      ≡ accepted (ascii "TN:\nSF:a\nFN:7,i\nFNDA:0,i\nFNF:1\nFNH:0\nend_of_record\n"))
  pub l :
      (length sample_text ≡ 56)
      × (gather_program sample_bundle
      ≡ ascii "TN:a\nSF:m.c\nFN:3,f\nFNDA:4,f\nFNF:1\nFNH:1\nDA:3,4\nDA:4,0\nLF:2\nLH:1\nend_of_record\n")

pub cases : Cases
unfolding open_all
cases =
    record {
      a = (refl, refl);
      b = (refl, refl);
      c = refl;
      d = (refl, refl, refl);
      e = refl;
      f = (refl, refl);
      g = refl;
      h = (refl, refl, refl);
      i = (refl, refl);
      j = (refl, refl);
      k = (refl, refl, refl, refl);
      l = (refl, refl);
    }
