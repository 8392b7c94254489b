-- The records of a section whose items fit their lines: each is one line that is read back. Assumes nothing.
use Prim.Native.Nat.{ℕ, ◌≤◌}
use native.Mathlib.Nat.{le_trans}
use mathlib.Core.Path.{refl}
use mathlib.Core.List.{List, [], ◌∷◌, ◌++◌}
use mathlib.Core.Option.{Option, none, some}
use lib.Dec.{ltb, lit<}
use lib.ListN.{length}
use Rattle.model.specs.declared.Kind.{Kind}
use Rattle.model.specs.declared.Kind.TheVariants as K
use Rattle.model.specs.Lists.{filter, sort, concat_map}
use Rattle.model.specs.Bytes.{Bytes, newline, comma, colon, joined, Free}
use Rattle.model.specs.Limits.{u32_max}
use Rattle.model.specs.Number.{decimal}
use Rattle.model.specs.Record.{
  Record,
  test_name,
  source_file,
  function_name,
  function_data,
  functions_found,
  functions_hit,
  branch_data,
  branches_found,
  branches_hit,
  line_data,
  lines_found,
  lines_hit,
  end_of_record,
}
use Rattle.model.specs.Tags.{Lawful}
use Rattle.model.specs.Line.{print_end, print_fields, print_taken, print_checksum, print_record}
use Rattle.model.specs.Report.{Extent, updated, Item, section_item, function_item, branch_item, line_item, count_of}
use Rattle.model.specs.Printing.{is_function, is_branch, is_line, compare_printed, functions_of, start_record, data_record, hits, group, section_records}
use Rattle.model.specs.Valid.{LineText, ItemFits}
use Rattle.model.proofs.ListLaws.{All, all_append, all_select, all-sort, all_results, select_length, sort-length}
use Rattle.model.proofs.ByteLaws.{free-append}
use Rattle.model.proofs.TagLaws.{tag-newline}
use Rattle.model.proofs.Clean.{RecordFits}
use Rattle.model.proofs.LineLaws.{decimal-digits, digits-free}
use Rattle.model.proofs.TextLaws.{OneLine}

decimal-free : (v : ℕ) → Free newline (decimal v)
decimal-free v = digits-free newline (decimal v) (lit< tt) (decimal-digits v)

more-free : (v : ℕ) (rest : Bytes) → Free newline rest → Free newline (decimal v ++ comma ∷ rest)
more-free v rest f = free-append newline (decimal v) (comma ∷ rest) (decimal-free v) (refl, f)

taken_free : (taken : Option ℕ) → Free newline (print_taken taken)
unfolding print_taken
taken_free none = (refl, tt)
taken_free (some v) = decimal-free v

module _ (tag : Kind → Bytes) (L : Lawful tag) where
  tagged-free : (k : Kind) (body : Bytes) → Free newline body → Free newline (tag k ++ colon ∷ body)
  tagged-free k body f = free-append newline (tag k) (colon ∷ body) (tag-newline tag L k) (refl, f)

  pub print_free : (r : Record) → RecordFits r → Free newline (print_record tag r)
  unfolding print_record print_fields print_end print_checksum joined
  print_free (test_name name) w = tagged-free K.TestName name w.one_line
  print_free (source_file path) w = tagged-free K.SourceFile path w.one_line
  print_free (function_name start none name) w = tagged-free K.FunctionName (decimal start ++ comma ∷ name) (more-free start name w.1.one_line)
  print_free (function_name start (some end) name) w =
      tagged-free K.FunctionName (decimal start ++ comma ∷ (decimal end ++ comma ∷ name))
      (more-free start (decimal end ++ comma ∷ name) (more-free end name w.1.one_line))
  print_free (function_data count name) w = tagged-free K.FunctionData (decimal count ++ comma ∷ name) (more-free count name w.1.one_line)
  print_free (functions_found found) w = tagged-free K.FunctionsFound (decimal found) (decimal-free found)
  print_free (functions_hit hit) w = tagged-free K.FunctionsHit (decimal hit) (decimal-free hit)
  print_free (branch_data line block branch taken) w =
      tagged-free K.BranchData (decimal line ++ comma ∷ (decimal block ++ comma ∷ (decimal branch ++ comma ∷ print_taken taken)))
      (more-free line (decimal block ++ comma ∷ (decimal branch ++ comma ∷ print_taken taken))
      (more-free block (decimal branch ++ comma ∷ print_taken taken) (more-free branch (print_taken taken) (taken_free taken))))
  print_free (branches_found found) w = tagged-free K.BranchesFound (decimal found) (decimal-free found)
  print_free (branches_hit hit) w = tagged-free K.BranchesHit (decimal hit) (decimal-free hit)
  print_free (line_data line count none) w = tagged-free K.LineData (decimal line ++ comma ∷ decimal count) (more-free line (decimal count) (decimal-free count))
  print_free (line_data line count (some checksum)) w =
      tagged-free K.LineData (decimal line ++ comma ∷ (decimal count ++ comma ∷ checksum))
      (more-free line (decimal count ++ comma ∷ checksum) (more-free count checksum w.2.text.one_line))
  print_free (lines_found found) w = tagged-free K.LinesFound (decimal found) (decimal-free found)
  print_free (lines_hit hit) w = tagged-free K.LinesHit (decimal hit) (decimal-free hit)
  print_free end_of_record w = tag-newline tag L K.EndOfRecord

  pub one-lines : (rs : List Record) → All RecordFits rs → OneLine tag rs
  one-lines [] w = tt
  one-lines (r ∷ rs) w = (print_free r w.0, one-lines rs w.1)

-- ---- the records of a section

starts_fit : (i : Item) → ItemFits i → All RecordFits (start_record i)
unfolding start_record
starts_fit (section_item spelling) f = tt
starts_fit (function_item fn) f = go fn.extent f
  where
    item : Option Extent → Item
    item extent = function_item (updated fn extent fn.count)

    go : (extent : Option Extent) → ItemFits (item extent) → All RecordFits (start_record (item extent))
    go none g = tt
    go (some x) g = ((g.1, g.0), tt)
starts_fit (branch_item line block branch taken) f = tt
starts_fit (line_item line count checksum) f = tt

data_fit : (i : Item) → ItemFits i → All RecordFits (data_record i)
unfolding data_record
data_fit (section_item spelling) f = tt
data_fit (function_item fn) f = ((f.2, f.0), tt)
data_fit (branch_item line block branch taken) f = (f, tt)
data_fit (line_item line count checksum) f = (f, tt)

group-fits : (found hit : ℕ → Record) → ((n : ℕ) → n ≤ u32_max → RecordFits (found n)) → ((n : ℕ) → n ≤ u32_max → RecordFits (hit n))
    → (l : List Item) → All ItemFits l → length l ≤ u32_max → All RecordFits (group found hit l)
unfolding group hits
group-fits found hit wf wh [] f h = tt
group-fits found hit wf wh (i ∷ is) f h =
    all_append RecordFits (concat_map data_record (i ∷ is)) (found (length (i ∷ is)) ∷ hit (hits (i ∷ is)) ∷ [])
    (all_results ItemFits RecordFits data_record data_fit (i ∷ is) f)
    (wf (length (i ∷ is)) h, (wh (hits (i ∷ is)) (le_trans (select_length (λ x. ltb 0 (count_of x)) (i ∷ is)) h), tt))

pub section-fits : (test spelling : Bytes) (items : List Item) → LineText test → LineText spelling → All ItemFits items → length items ≤ u32_max
    → All RecordFits (section_records (record { test = test; spelling = spelling; items = items }))
unfolding section_records functions_of
section-fits test spelling items t s f h =
    all_append RecordFits
    (test_name test ∷ source_file spelling ∷ [] ++ concat_map start_record fs ++ group functions_found functions_hit fs ++ group branches_found branches_hit bs ++ group lines_found lines_hit ls)
    (end_of_record ∷ [])
    (all_append RecordFits
    (test_name test ∷ source_file spelling ∷ [] ++ concat_map start_record fs ++ group functions_found functions_hit fs ++ group branches_found branches_hit bs)
    (group lines_found lines_hit ls)
    (all_append RecordFits
    (test_name test ∷ source_file spelling ∷ [] ++ concat_map start_record fs ++ group functions_found functions_hit fs)
    (group branches_found branches_hit bs)
    (all_append RecordFits
    (test_name test ∷ source_file spelling ∷ [] ++ concat_map start_record fs)
    (group functions_found functions_hit fs) (
      t,
      (s, all_results ItemFits RecordFits start_record starts_fit fs fits),
    )
    (group-fits functions_found functions_hit (λ n g. g) (λ n g. g) fs fits
    (rw (sort-length compare_printed (filter is_function items)) (le_trans (select_length is_function items) h))))
    (group-fits branches_found branches_hit (λ n g. g) (λ n g. g) bs
    (all_select ItemFits is_branch items f) (le_trans (select_length is_branch items) h)))
    (group-fits lines_found lines_hit (λ n g. g) (λ n g. g) ls
    (all_select ItemFits is_line items f) (le_trans (select_length is_line items) h)))
    (tt, tt)
  where
    fs : List Item
    fs = sort compare_printed (filter is_function items)

    bs : List Item
    bs = filter is_branch items

    ls : List Item
    ls = filter is_line items

    fits : All ItemFits fs
    fits = all-sort ItemFits compare_printed (filter is_function items) (all_select ItemFits is_function items f)
