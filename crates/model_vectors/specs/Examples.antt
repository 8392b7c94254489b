-- Worked examples, with the answers of the Rust. Made by tools/vectors/make.py. Assumes nothing.
use Rattle.std.specs.Prelude.{refl, true, false, List, [], ◌∷◌}
use Rattle.std.proofs.Math.Option.{none, some}
use Rattle.model.specs.declared.Mode.TheVariants.{Checked, Lossy}
use Rattle.model.specs.Bytes.{ascii}
use Rattle.model.specs.Record.{branch_data, line_data}
use Rattle.model.specs.Ranges.{half_open}
use Rattle.model_vectors.specs.Asked.{Agrees, Line, ask_line, Paths, ask_paths, Text, ask_text, Gather, ask_gather, Inserts, ask_inserts, Query, ask_query, Filtered, ask_filter, gives, refuses, refuses_in, range, less, equal, open_asked}

abbrev pub lines : List Line
lines =
    (ascii "DA:3,2,c", gives (line_data 3 2 (some (ascii "c")), ascii "DA:3,2,c"))
    ∷ (ascii "BRDA:3,0,1,-", gives (branch_data 3 0 1 none, ascii "BRDA:3,0,1,-"))
    ∷ (ascii "FN:4294967296,f", refuses 6 1 1)
    ∷ []

pub lines_agree : Agrees ask_line lines
unfolding open_asked
lines_agree = refl

abbrev pub paths : List Paths
paths =
    equal (ascii "a//b") (ascii "a/./b")
    ∷ less (ascii "a/b") (ascii "a-b")
    ∷ []

pub paths_agree : Agrees ask_paths paths
unfolding open_asked
paths_agree = refl

abbrev pub texts : List Text
texts =
    (ascii "SF:a\nDA:1,1\nDA:1,2\nend_of_record\n", gives (ascii "TN:\nSF:a\nDA:1,2\nLF:1\nLH:1\nend_of_record\n"))
    ∷ (ascii "TN:a\nSF:b\n", refuses 8 3 0)
    ∷ []

pub texts_agree : Agrees ask_text texts
unfolding open_asked
texts_agree = refl

abbrev pub gathers : List Gather
gathers = (
  (Checked, ascii "TN:a\nSF:m.c\nFN:3,f\nFNDA:2,f\nDA:3,2\nend_of_record\n" ∷ ascii "TN:a\nSF:m.c\nFN:3,f\nFNDA:5,f\nDA:3,5\nDA:4,0\nend_of_record\n" ∷ []),
  gives (ascii "TN:a\nSF:m.c\nFN:3,f\nFNDA:7,f\nFNF:1\nFNH:1\nDA:3,7\nDA:4,0\nLF:2\nLH:1\nend_of_record\n"),
)
    ∷ (
      (Checked, ascii "TN:a\nSF:m.c\nFN:3,f\nFNDA:2,f\nDA:3,2\nend_of_record\n" ∷ ascii "TN:a\nSF:m.c\nFN:4,f\nend_of_record\n" ∷ []),
      refuses_in 11 1 0 0,
    )
    ∷ (
      (Lossy, ascii "TN:a\nSF:m.c\nFN:3,f\nFNDA:2,f\nDA:3,2\nend_of_record\n" ∷ ascii "TN:a\nSF:m.c\nFN:4,f\nend_of_record\n" ∷ []),
      gives (ascii "TN:a\nSF:m.c\nFN:4,f\nFNDA:2,f\nFNF:1\nFNH:1\nDA:3,2\nLF:1\nLH:1\nend_of_record\n"),
    )
    ∷ []

pub gathers_agree : Agrees ask_gather gathers
unfolding open_asked
gathers_agree = refl

abbrev pub inserts : List Inserts
inserts =
    (range 1 2 ∷ range 4 5 ∷ range 3 3 ∷ [], gives (range 1 5 ∷ []))
    ∷ (half_open 5 7 ∷ half_open 9 9 ∷ [], gives (range 5 6 ∷ []))
    ∷ []

pub inserts_agree : Agrees ask_inserts inserts
unfolding open_asked
inserts_agree = refl

abbrev pub queries : List Query
queries =
    ((range 1 3 ∷ [], 3, 2), gives true)
    ∷ ((range 1 2 ∷ range 5 6 ∷ [], 3, 4), gives false)
    ∷ []

pub queries_agree : Agrees ask_query queries
unfolding open_asked
queries_agree = refl

abbrev pub filters : List Filtered
filters = (
  (ascii "SF:a\nFN:3,f\nFN:5,g\nDA:4,1\nDA:6,1\nend_of_record\n", range 4 4 ∷ []),
  gives (ascii "TN:\nSF:a\nFN:3,f\nFNDA:0,f\nFNF:1\nFNH:0\nDA:4,1\nLF:1\nLH:1\nend_of_record\n"),
)
    ∷ []

pub filters_agree : Agrees ask_filter filters
unfolding open_asked
filters_agree = refl
