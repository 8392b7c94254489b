-- Points that the requirements leave open, as docs/DECISIONS.md decides them, and the refusals that the Rust does not know: one claim about
-- the definitions, on the smallest inputs, and one proof, by computation. Assumes nothing.
use Rattle.std.specs.Prelude.{ℕ, ◌+◌, ◌*◌, ◌≡◌, refl, true, false, List, [], ◌∷◌, ◌++◌, eqb, length, replicate, drop, if◌then◌else◌, Some, None}
use Prim.Native.String.{String}
use Rattle.std.proofs.Math.Option.{none, some}
use Rattle.model.specs.declared.Bound.{Bound}
use Rattle.model.specs.declared.Bound.TheVariants.{NextStart, GreaterStart}
use Rattle.model.specs.declared.Kind.{Kind}
use Rattle.model.specs.declared.Mode.{Mode}
use Rattle.model.specs.declared.Mode.TheVariants.{Checked, Lossy}
use Rattle.model.specs.declared.Part.{Part}
use Rattle.model.specs.declared.Range.{Range}
use Rattle.model.specs.declared.Record.{Record as LentRecord}
use Rattle.model.specs.declared.Record.TheVariants as Lent
use Rattle.model.specs.Bytes.{Bytes, ascii}
use Rattle.model.specs.Path.{root, current, name, components}
use Rattle.model.specs.Answer.{accepted, refused, with_values}
use Rattle.model.specs.declared.Counted.{Counted}
use Rattle.model.specs.Number.{read_field}
use Rattle.model.specs.Record.{Record, test_name, source_file, function_name, branch_data, line_data, end_of_record}
use Rattle.model.specs.Tags.{default_tag}
use Rattle.model.specs.TagTable.{place_of, tagged, table_of}
use Rattle.model.specs.Line.{read_line}
use Rattle.model.specs.Parts.{print_line}
use Rattle.model.specs.Output.{output_after}
use Rattle.model.specs.Gather.{read_and_print, gather, gather_program}
use Rattle.model.specs.Ranges.{half_open, insert_call, slice_after, query_call}
use Rattle.model.specs.Filter.{filter_text}
use Rattle.model_vectors.specs.Asked.{Told, gives, refuses, refuses_in, range, bundle_of, open_asked}

-- ---- what is asked

abbrev pub line : Bytes → Told Record
line bytes = with_values (read_line default_tag bytes)

-- a number field
abbrev pub number : ℕ → Bytes → Told Counted
number max field = with_values (read_field max field)

-- one text, under E entries
abbrev pub text : ℕ → Bytes → Told Bytes
text limit bytes = with_values (read_and_print default_tag bytes (32 * limit) 65_536)

-- texts, under E entries, and an output of so many bytes
abbrev pub gathered : Mode → ℕ → ℕ → List Bytes → Told Bytes
gathered mode limit room texts = with_values (gather default_tag mode (bundle_of texts) (32 * limit) room)

abbrev pub bundle : Bytes → Told Bytes
bundle bytes = with_values (gather default_tag Checked bytes 8_192 65_536)

-- 14, and the length that was needed
abbrev pub needs : {A : Type 0} → ℕ → Told A
needs n = refused (14 ∷ 0 ∷ 0 ∷ 0 ∷ n ∷ [])

abbrev pub most : Bytes
most = ascii "18446744073709551615"

-- a section with one line
abbrev pub section : Bytes → Bytes → Bytes
section path held = ascii "SF:" ++ path ++ ascii "\nDA:" ++ held ++ ascii "\nend_of_record\n"

-- a section with one function
abbrev pub function : String → Bytes
function held = ascii "FN:" ++ ascii held ++ ascii "\nend_of_record\n"

abbrev pub part : ℕ → ℕ → Part
part start len = record { start = start; len = len }

abbrev pub printed : LentRecord → ℕ → Told Bytes
printed lent room = with_values (print_line default_tag (ascii "abc") lent room)

abbrev pub pairs : List Range
pairs = range 1 2 ∷ range 5 6 ∷ range 9 9 ∷ []

-- ---- lines

pub record Lines : Type 0 where
  -- an empty body is one empty field
  pub empty_body : (line (ascii "FN") ≡ refuses 4 1 1) × (line (ascii "FN:") ≡ refuses 4 1 1)
  -- a blank line, or one with byte 13 alone, has no known tag
  pub blank : (line [] ≡ refuses 1 1 0) × (line (ascii "\r") ≡ refuses 1 1 0) × (text 8 (ascii "\n") ≡ refuses 1 1 0)
  -- byte 10 inside a lone line is a byte like others
  pub inner_newline : line (ascii "TN:a\nb\n") ≡ gives (test_name (ascii "a\nb"))
  -- the first byte decides; a number that begins with '+' is signed, be there digits or not
  pub plus_first :
      (line (ascii "LF:+") ≡ refuses 19 1 1)
      × (line (ascii "LF:++1") ≡ refuses 19 1 1)
      × (line (ascii "BRDA:1,0,0,+-") ≡ refuses 19 1 4)
      × (line (ascii "LF:-+") ≡ refuses 5 1 1)
  -- left to right: an earlier field first, then 19, then what is missing or too many
  pub plus_order :
      (line (ascii "DA:x,+1") ≡ refuses 5 1 1) × (line (ascii "FN:+5") ≡ refuses 19 1 1) × (line (ascii "LF:+1,2") ≡ refuses 19 1 1)
  -- only number fields have a sign
  pub plus_elsewhere :
      (line (ascii "FN:1,+f") ≡ gives (function_name 1 none (ascii "+f")))
      × (line (ascii "DA:1,2,+5") ≡ gives (line_data 1 2 (some (ascii "+5"))))
      × (line (ascii "TN:+5") ≡ gives (test_name (ascii "+5")))
      × (line (ascii "end_of_record:+1") ≡ gives end_of_record)
  -- a number field by itself: leading zeros are digits read, and a comma is none
  pub digits_read :
      (number 9 (ascii "007") ≡ gives (record { value = 7; digits = 3 }))
      × (number 9 (ascii "1,2") ≡ refuses 5 0 0)
      × (number 9 (ascii ",") ≡ refuses 5 0 0)
      × (number 9 (ascii "+") ≡ refuses 19 0 0)
      × (number 9 [] ≡ refuses 4 0 0)
      × (number 9 (ascii "10x") ≡ refuses 6 0 0)
  -- a record keeps the values alone
  pub values_kept : line (ascii "BRDA:10,2,003,-") ≡ gives (branch_data 10 2 3 none)
  -- an end line is digits alone between two commas
  pub end_form :
      (line (ascii "FN:1,2") ≡ gives (function_name 1 none (ascii "2")))
      × (line (ascii "FN:1,,x") ≡ gives (function_name 1 none (ascii ",x")))
      × (line (ascii "FN:1,+2,f") ≡ gives (function_name 1 none (ascii "+2,f")))
      × (line (ascii "FN:1, 2,f") ≡ gives (function_name 1 none (ascii " 2,f")))
      × (line (ascii "FN:1,2x,f") ≡ gives (function_name 1 none (ascii "2x,f")))
      × (line (ascii "FN:1,4294967296x,f") ≡ gives (function_name 1 none (ascii "4294967296x,f")))
  -- its value is a u32, and at least the start line
  pub end_value :
      (line (ascii "FN:1,4294967296,f") ≡ refuses 6 1 2)
      × (line (ascii "FN:1,0000000000000000000000000000002,f") ≡ gives (function_name 1 (some 2) (ascii "f")))
      × (line (ascii "FN:5,5,f") ≡ gives (function_name 5 (some 5) (ascii "f")))
      × (line (ascii "FN:5,4,f") ≡ refuses 23 1 0)
  -- the name is all behind the second comma
  pub end_name :
      (line (ascii "FN:1,2,") ≡ gives (function_name 1 (some 2) []))
      × (line (ascii "FN:1,2,3,f") ≡ gives (function_name 1 (some 2) (ascii "3,f")))
      × (line (ascii "FN:5,4,") ≡ refuses 23 1 0)
  -- the fields come first
  pub end_order :
      (line (ascii "FN:5") ≡ refuses 2 1 2)
      × (line (ascii "FN:+9,1,f") ≡ refuses 19 1 1)
      × (line (ascii "FN:x,1,f") ≡ refuses 5 1 1)
      × (line (ascii "FN:9999999999,1,f") ≡ refuses 6 1 1)
  -- the printer refuses no end, and can print what does not read back
  pub end_printed :
      (printed (Lent.FunctionName 5 (Some 4) (part 0 1)) 20 ≡ gives (ascii "FN:5,4,a\n"))
      × (with_values (print_line default_tag (ascii "4,f") (Lent.FunctionName 5 None (part 0 3)) 20) ≡ gives (ascii "FN:5,4,f\n"))
  -- only exactly "-" is no checksum
  pub dash_comma : line (ascii "DA:1,2,-,") ≡ gives (line_data 1 2 (some (ascii "-,")))
  -- byte 10 is written, and counted in the needed length; the output stays where it is too short
  pub newline_counted : (printed Lent.EndOfRecord 14 ≡ gives (ascii "end_of_record\n")) × (printed Lent.EndOfRecord 13 ≡ needs 14)
  -- 17 before 14, and never for a record without a text part
  pub part_outside :
      (printed (Lent.TestName (part 1 2)) 6 ≡ gives (ascii "TN:bc\n"))
      × (printed (Lent.TestName (part 2 2)) 0 ≡ refuses 17 0 0)
      × (printed (Lent.TestName (part 3 0)) 0 ≡ needs 4)
      × (printed (Lent.LinesHit 0) 0 ≡ needs 5)
  -- bytes past those written stay
  pub rest_stays : output_after (print_line default_tag [] (Lent.LinesHit 7) 7) (ascii "1234567") ≡ ascii "LH:7\n67"

-- ---- paths, texts

pub record Texts : Type 0 where
  pub paths :
      (components (ascii "/./a") ≡ root ∷ name (ascii "a") ∷ [])
      × (components (ascii "./.") ≡ current ∷ [])
      × (components [] ≡ [])
  -- a lone end_of_record opens and drops a section: nothing is left to be counted; any other line counts
  pub no_entries : (text 0 (ascii "end_of_record\n") ≡ gives []) × (text 0 (ascii "SF:a\n") ≡ refuses 10 1 0) × (text 0 (ascii "LF:1\n") ≡ refuses 10 1 0)
  -- the open section counts beside the kept one that it will replace
  pub both_count :
      (text 2 (section (ascii "a") (ascii "1,1")) ≡ gives (ascii "TN:\nSF:a\nDA:1,1\nLF:1\nLH:1\nend_of_record\n"))
      × (text 2 (section (ascii "a") (ascii "1,1") ++ section (ascii "a") (ascii "1,1")) ≡ refuses 10 4 0)
      × (text 3 (section (ascii "a") (ascii "1,1") ++ section (ascii "a") (ascii "1,1")) ≡ refuses 10 5 0)
      × (text 4 (section (ascii "a") (ascii "1,1") ++ section (ascii "a") (ascii "1,1")) ≡ gives (ascii "TN:\nSF:a\nDA:1,1\nLF:1\nLH:1\nend_of_record\n"))
  -- a dropped section leaves no name and no spelling behind
  pub dropped :
      text 8 (ascii "TN:x\nSF:a//b\nend_of_record\n" ++ section (ascii "a/b") (ascii "1,1"))
      ≡ gives (ascii "TN:\nSF:a/b\nDA:1,1\nLF:1\nLH:1\nend_of_record\n")
  -- 8 is met after the last line
  pub ended : (text 8 (ascii "SF:a") ≡ refuses 8 2 0) × (text 8 (ascii "SF:a\n") ≡ refuses 8 2 0)
  -- SF lines are counted, not paths; 25 comes before the entries are counted
  pub second_path :
      (text 8 (ascii "SF:\nSF:a\nend_of_record\n") ≡ refuses 25 2 0)
      × (text 8 (ascii "SF\nSF\n") ≡ refuses 25 2 0)
      × (text 8 (ascii "SF:a\nSF:a\n") ≡ refuses 25 2 0)
      × (text 1 (ascii "SF:a\nSF:b\n") ≡ refuses 25 2 0)
  -- they are counted anew in each section, and one may stand anywhere in it
  pub one_path_each :
      (text 8 (ascii "SF:a\nend_of_record\nSF:b\nend_of_record\n") ≡ gives [])
      × (text 8 (ascii "SF:a\nSF:b\nend_of_record\n") ≡ refuses 25 2 0)
      × (text 8 (ascii "DA:1,1\nSF:a\nDA:2,1\nend_of_record\n") ≡ gives (ascii "TN:\nSF:a\nDA:1,1\nDA:2,1\nLF:2\nLH:2\nend_of_record\n"))
  -- FN gives start and end line anew, FNDA gives neither, and functions are ordered by start line; 23 comes before the entries are counted
  pub end_later :
      (text 8 (ascii "FN:1,9,f\nFN:1,f\nend_of_record\n") ≡ gives (ascii "TN:\nSF:\nFN:1,f\nFNDA:0,f\nFNF:1\nFNH:0\nend_of_record\n"))
      × (text 8 (ascii "FN:1,9,f\nFNDA:3,f\nend_of_record\n") ≡ gives (ascii "TN:\nSF:\nFN:1,9,f\nFNDA:3,f\nFNF:1\nFNH:1\nend_of_record\n"))
      × (text 3 (ascii "FN:2,2,a\nFN:1,9,b\nend_of_record\n") ≡ gives (ascii "TN:\nSF:\nFN:1,9,b\nFN:2,2,a\nFNDA:0,b\nFNDA:0,a\nFNF:2\nFNH:0\nend_of_record\n"))
      × (text 0 (ascii "FN:5,4,f\n") ≡ refuses 23 1 0)
  -- 9 is met at the FNDA line
  pub calls_past : text 8 (ascii "FNDA:" ++ most ++ ascii ",f\nFNDA:1,f\nend_of_record\n") ≡ refuses 9 2 0

-- ---- gathers

pub record Gathers : Type 0 where
  -- a bundle that is too short, and one with no texts but text bytes
  pub bundles : (bundle (ascii "1234567") ≡ refuses 16 0 0) × (bundle (0 ∷ 0 ∷ 0 ∷ 0 ∷ 1 ∷ 0 ∷ 0 ∷ 0 ∷ 65 ∷ []) ≡ gives [])
  -- in a merge 10 has line 0; the report joined so far does not count while the next text is read
  pub limit_in_merge :
      (gathered Checked 2 65_536 (section (ascii "a") (ascii "1,1") ∷ section (ascii "b") (ascii "1,1") ∷ []) ≡ refuses_in 10 1 0 0)
      × (gathered Checked 4 65_536 (section (ascii "a") (ascii "1,1") ∷ section (ascii "b") (ascii "1,1") ∷ [])
      ≡ gives (ascii "TN:\nSF:a\nDA:1,1\nLF:1\nLH:1\nend_of_record\nTN:\nSF:b\nDA:1,1\nLF:1\nLH:1\nend_of_record\n"))
  -- E is tested after the whole text: 12 of a later key comes before 10
  pub conflict_first :
      gathered Checked 4 65_536 (section (ascii "b") (ascii "1,1,x") ∷ (section (ascii "a") (ascii "1,1") ++ section (ascii "b") (ascii "1,1,y")) ∷ [])
      ≡ refuses_in 12 1 0 0
  -- 12 before 13 at one line
  pub checksum_first :
      gathered Checked 8 65_536 (section (ascii "a") (ascii "1," ++ most ++ ascii ",x") ∷ section (ascii "a") (ascii "1,1,y") ∷ []) ≡ refuses_in 12 1 0 0
  -- lossy: the later checksum wins, 13 and 10 still come, functions stop at 2^64 − 1
  pub lossy :
      (gathered Lossy 8 65_536 (section (ascii "a") (ascii "1,1,x") ∷ section (ascii "a") (ascii "1,1,y") ∷ [])
      ≡ gives (ascii "TN:\nSF:a\nDA:1,2,y\nLF:1\nLH:1\nend_of_record\n"))
      × (gathered Lossy 8 65_536 (section (ascii "a") (ascii "1," ++ most ++ ascii ",x") ∷ section (ascii "a") (ascii "1,1,y") ∷ []) ≡ refuses_in 13 1 0 0)
      × (gathered Lossy 2 65_536 (section (ascii "a") (ascii "1,1") ∷ section (ascii "b") (ascii "1,1") ∷ []) ≡ refuses_in 10 1 0 0)
      × (gathered Lossy 8 65_536 ((ascii "FNDA:" ++ most ++ ascii ",f\nend_of_record\n") ∷ ascii "FNDA:1,f\nend_of_record\n" ∷ [])
      ≡ gives (ascii "TN:\nSF:\nFNDA:" ++ most ++ ascii ",f\nFNF:1\nFNH:1\nend_of_record\n"))
  -- checked: the larger end line, or the one given, in both orders
  pub end_joined :
      (gathered Checked 8 65_536 (function "1,9,f" ∷ function "1,f" ∷ []) ≡ gives (ascii "TN:\nSF:\nFN:1,9,f\nFNDA:0,f\nFNF:1\nFNH:0\nend_of_record\n"))
      × (gathered Checked 8 65_536 (function "1,f" ∷ function "1,9,f" ∷ []) ≡ gives (ascii "TN:\nSF:\nFN:1,9,f\nFNDA:0,f\nFNF:1\nFNH:0\nend_of_record\n"))
      × (gathered Checked 8 65_536 (function "1,9,f" ∷ function "1,5,f" ∷ []) ≡ gives (ascii "TN:\nSF:\nFN:1,9,f\nFNDA:0,f\nFNF:1\nFNH:0\nend_of_record\n"))
      × (gathered Checked 8 65_536 (function "1,5,f" ∷ function "1,9,f" ∷ []) ≡ gives (ascii "TN:\nSF:\nFN:1,9,f\nFNDA:0,f\nFNF:1\nFNH:0\nend_of_record\n"))
      × (gathered Checked 8 65_536 (function "1,9,f" ∷ function "2,9,f" ∷ []) ≡ refuses_in 11 1 0 0)
  -- lossy: the later FN wins with its end line or none, and FNDA changes neither line
  pub end_lossy :
      (gathered Lossy 8 65_536 (function "1,9,f" ∷ function "1,f" ∷ []) ≡ gives (ascii "TN:\nSF:\nFN:1,f\nFNDA:0,f\nFNF:1\nFNH:0\nend_of_record\n"))
      × (gathered Lossy 8 65_536 (function "1,9,f" ∷ ascii "FNDA:1,f\nend_of_record\n" ∷ []) ≡ gives (ascii "TN:\nSF:\nFN:1,9,f\nFNDA:1,f\nFNF:1\nFNH:1\nend_of_record\n"))
  -- an output that is exactly as long as needed; an empty report needs none
  pub exact_fit :
      (gathered Checked 8 40 (section (ascii "a") (ascii "1,1") ∷ []) ≡ gives (ascii "TN:\nSF:a\nDA:1,1\nLF:1\nLH:1\nend_of_record\n"))
      × (gathered Checked 8 39 (section (ascii "a") (ascii "1,1") ∷ []) ≡ needs 40)
      × (gathered Checked 0 0 [] ≡ gives [])
  -- the printed length depends on which spelling is first: two orders are accepted alike only where a path has one
  pub spelling_first :
      (gathered Checked 8 40 (section (ascii "a") (ascii "1,1") ∷ section (ascii "a/") (ascii "1,1") ∷ [])
      ≡ gives (ascii "TN:\nSF:a\nDA:1,2\nLF:1\nLH:1\nend_of_record\n"))
      × (gathered Checked 8 40 (section (ascii "a/") (ascii "1,1") ∷ section (ascii "a") (ascii "1,1") ∷ []) ≡ needs 41)
  -- the program: a refusal as numbers, with 0 for what does not apply
  pub program : gather_program (ascii "12345678") ≡ ascii "refused 16 0 0 0\n"

-- ---- a lent table of tags

-- the default tags but for those of TN and SF
abbrev pub house : Bytes → Bytes → Kind → Bytes
house a b kind = if eqb (place_of kind) 0 then a else (if eqb (place_of kind) 1 then b else default_tag kind)

abbrev pub under : Bytes → Bytes → Told Record
under table bytes = with_values (tagged table (λ tag. read_line tag bytes))

pub record Tables : Type 0 where
  -- the default table, lent, is the default
  pub default : (under (table_of default_tag) (ascii "TN:x") ≡ line (ascii "TN:x")) × (under (table_of default_tag) (ascii "x") ≡ line (ascii "x"))
  -- a tag is its bytes up to its length, and byte 0 is allowed
  pub equal_slots : (under (table_of (house (ascii "A") (65 ∷ 0 ∷ []))) (ascii "A:x") ≡ gives (test_name (ascii "x")))
      × (under (table_of (house (ascii "A") (65 ∷ 0 ∷ []))) (65 ∷ 0 ∷ ascii ":x") ≡ gives (source_file (ascii "x")))
  -- only three bytes are forbidden
  pub any_byte : (under (table_of (house (ascii "FN,") (43 ∷ 49 ∷ 32 ∷ 255 ∷ []))) (ascii "FN,:x") ≡ gives (test_name (ascii "x")))
      × (under (table_of (house (ascii "T:") (ascii "SF"))) (ascii "T:x") ≡ refuses 21 0 0)
      × (under (table_of (house (ascii "T\n") (ascii "SF"))) (ascii "T") ≡ refuses 21 0 0)
      × (under (table_of (house (ascii "T\r") (ascii "SF"))) (ascii "T") ≡ refuses 21 0 0)
  -- all single-tag rules for all thirteen tags, then 22
  pub all_first : (under (table_of (house (ascii "A") (ascii "A"))) (ascii "A:x") ≡ refuses 22 0 0)
      × (under (table_of (λ kind. if eqb (place_of kind) 12 then [] else house (ascii "A") (ascii "A") kind)) (ascii "A:x") ≡ refuses 21 0 0)
  -- a length that is too short leaves bytes past it that are not 0; a slice has 221 bytes
  pub past_length : (under (1 ∷ drop 1 (table_of default_tag)) (ascii "T:x") ≡ refuses 21 0 0) × (under [] (ascii "TN:x") ≡ refuses 21 0 0)
      × (under (table_of default_tag ++ 0 ∷ []) (ascii "TN:x") ≡ refuses 21 0 0)
  -- the table replaces the default, and a tag that is a prefix is another
  pub replaced : (under (table_of (house (ascii "F") (ascii "SF"))) (ascii "TN:x") ≡ refuses 1 1 0)
      × (under (table_of (house (ascii "F") (ascii "FND"))) (ascii "FND:x") ≡ gives (source_file (ascii "x")))
      × (under (table_of (house (ascii "F") (ascii "FND"))) (ascii "FNDA:1,f") ≡ line (ascii "FNDA:1,f"))
  -- before anything else is looked at
  pub first : (with_values (tagged [] (λ tag. gather tag Checked (0 ∷ 0 ∷ 0 ∷ []) 8_192 65_536)) ≡ refuses 21 0 0)
      × (with_values (tagged (table_of (house (ascii "A") (ascii "A"))) (λ tag. filter_text tag NextStart [] [] 1 8_192 65_536)) ≡ refuses 22 0 0)
  -- the needed length has the table's tags
  pub needed : with_values (tagged (table_of (house (ascii "sixteen bytes ..") (ascii "SF"))) (λ tag. print_line tag [] (Lent.TestName (part 0 0)) 17)) ≡ needs 18

-- ---- ranges and the filters

-- a text by one range
abbrev pub filtered : Bound → Bytes → Range → Told Bytes
filtered bound bytes r = with_values (filter_text default_tag bound bytes (r ∷ []) 1 8_192 65_536)

abbrev pub InBoth : (Bound → Type 0) → Type 0
InBoth claim = claim NextStart × claim GreaterStart

pub record Ranges : Type 0 where
  -- a dropped range: the pairs past the used ones are zeroed; 18 is tried first
  pub insert_dropped :
      (slice_after (insert_call pairs 1 (range 4 3)) pairs ≡ range 1 2 ∷ range 0 0 ∷ range 0 0 ∷ [])
      × (with_values (insert_call pairs 4 (range 4 3)) ≡ refuses 18 0 0)
  -- full exactly where the result has no room: joining needs none
  pub insert_full : (with_values (insert_call pairs 3 (range 4 7)) ≡ gives (range 1 2 ∷ range 4 7 ∷ range 9 9 ∷ []))
      × (with_values (insert_call (range 1 2 ∷ []) 1 (range 4 4)) ≡ refuses 15 0 0)
  -- a gap is one line or more
  pub gap : with_values (query_call (range 1 2 ∷ range 3 4 ∷ []) 2 0 0) ≡ refuses 18 0 0
  -- a query with e below s is answered by the same rule
  pub backwards : (with_values (query_call pairs 3 2 1) ≡ gives true) × (with_values (query_call pairs 3 6 4) ≡ gives false)
  -- half-open ranges end at 0 where b is 0
  pub half_open_lem : (half_open 0 0 ≡ range 0 0) × (half_open 3 0 ≡ range 3 0)
  -- both filters try 18, then the text, then 14
  pub filter_order : InBoth (λ bound. (with_values (filter_text default_tag bound (ascii "X") (range 2 1 ∷ []) 1 8_192 0) ≡ refuses 18 0 0)
      × (with_values (filter_text default_tag bound (ascii "X") [] 0 8_192 0) ≡ refuses 1 1 0)
      × (with_values (filter_text default_tag bound (section (ascii "a") (ascii "1,1")) [] 0 8_192 0) ≡ needs 23))
  -- functions without a start line are removed before end lines are computed
  pub startless : InBoth (λ bound. filtered bound (ascii "FN:3,f\nFNDA:1,g\nend_of_record\n") (range 9 9)
      ≡ gives (ascii "TN:\nSF:\nFN:3,f\nFNDA:0,f\nFNF:1\nFNH:0\nend_of_record\n"))
  -- a start line bounds the function before it; a function's own end line stands in place of that bound
  pub own_end : InBoth (λ bound. (filtered bound (ascii "FN:3,f\nFN:5,6,g\nend_of_record\n") (range 7 7) ≡ gives (ascii "TN:\nSF:\nend_of_record\n"))
      × (filtered bound (ascii "FN:3,20,f\nFN:9,g\nend_of_record\n") (range 9 9)
      ≡ gives (ascii "TN:\nSF:\nFN:3,20,f\nFN:9,g\nFNDA:0,f\nFNDA:0,g\nFNF:2\nFNH:0\nend_of_record\n")))
  -- with an end line of its own, a function of that start still ends there
  pub one_start_own : filtered GreaterStart (ascii "FN:3,a\nFN:3,5,b\nFN:7,d\nend_of_record\n") (range 6 6)
      ≡ gives (ascii "TN:\nSF:\nFN:3,a\nFNDA:0,a\nFNF:1\nFNH:0\nend_of_record\n")
  -- the starts of another section bound nothing
  pub one_section : filtered GreaterStart (ascii "SF:a\nFN:3,f\nend_of_record\nSF:b\nFN:7,g\nend_of_record\n") (range 9 9)
      ≡ gives (ascii "TN:\nSF:a\nFN:3,f\nFNDA:0,f\nFNF:1\nFNH:0\nend_of_record\nTN:\nSF:b\nFN:7,g\nFNDA:0,g\nFNF:1\nFNH:0\nend_of_record\n")

-- ---- the proof

pub lines : Lines
unfolding open_asked
lines =
    record {
      empty_body = (refl, refl);
      blank = (refl, refl, refl);
      inner_newline = refl;
      plus_first = (refl, refl, refl, refl);
      plus_order = (refl, refl, refl);
      plus_elsewhere = (refl, refl, refl, refl);
      digits_read = (refl, refl, refl, refl, refl, refl);
      values_kept = refl;
      end_form = (refl, refl, refl, refl, refl, refl);
      end_value = (refl, refl, refl, refl);
      end_name = (refl, refl, refl);
      end_order = (refl, refl, refl, refl);
      end_printed = (refl, refl);
      dash_comma = refl;
      newline_counted = (refl, refl);
      part_outside = (refl, refl, refl, refl);
      rest_stays = refl;
    }

pub texts : Texts
unfolding open_asked
texts =
    record {
      paths = (refl, refl, refl);
      no_entries = (refl, refl, refl);
      both_count = (refl, refl, refl, refl);
      dropped = refl;
      ended = (refl, refl);
      second_path = (refl, refl, refl, refl);
      one_path_each = (refl, refl, refl);
      end_later = (refl, refl, refl, refl);
      calls_past = refl;
    }

pub gathers : Gathers
unfolding open_asked
gathers =
    record {
      bundles = (refl, refl);
      limit_in_merge = (refl, refl);
      conflict_first = refl;
      checksum_first = refl;
      lossy = (refl, refl, refl, refl);
      end_joined = (refl, refl, refl, refl, refl);
      end_lossy = (refl, refl);
      exact_fit = (refl, refl, refl);
      spelling_first = (refl, refl);
      program = refl;
    }

pub ranges : Ranges
unfolding open_asked
ranges =
    record {
      insert_dropped = (refl, refl);
      insert_full = (refl, refl);
      gap = refl;
      backwards = (refl, refl);
      half_open_lem = (refl, refl);
      filter_order = ((refl, refl, refl), (refl, refl, refl));
      startless = (refl, refl);
      own_end = ((refl, refl), (refl, refl));
      one_start_own = refl;
      one_section = refl;
    }

pub tables : Tables
unfolding open_asked
tables =
    record {
      default = (refl, refl);
      equal_slots = (refl, refl);
      any_byte = (refl, refl, refl, refl);
      all_first = (refl, refl);
      past_length = (refl, refl, refl);
      replaced = (refl, refl, refl);
      first = (refl, refl);
      needed = refl;
    }
