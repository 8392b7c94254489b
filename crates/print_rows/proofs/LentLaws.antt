-- The lent records of rows, and the lines that they print. Assumes nothing.
use Rattle.std.specs.Prelude.{Option as LentOption, Some, None}
use Prim.Native.Nat.{ℕ, zero, suc, ◌+◌, ◌-◌, ◌/◌, ◌%◌, ◌≤◌, ◌<◌}
use mathlib.Core.Path.{◌≡◌, refl, sym, ap, ◌∙◌}
use mathlib.Core.Logic.{◌≢◌}
use mathlib.Core.Option.{Option, none, some}
use mathlib.Core.List.{[], ◌∷◌, ◌++◌, append-nil}
use native.Mathlib.Omega.{arith}
use lib.ListN.{length}
use mir.Val as Val
use mir.Syntax.{w32}
use borrow.Author.Tests.{le-leb, lt-ltb}
use Rattle.table.specs.declared.Row.{Row}
use Rattle.model.specs.declared.Kind.{Kind}
use Rattle.model.specs.declared.Part.{Part}
use Rattle.model.specs.declared.Record.{Record as LentRecord}
use Rattle.model.specs.declared.Record.TheVariants as Lent
use Rattle.model.specs.Bytes.{Bytes, newline}
use Rattle.model.specs.Answer.{accepted}
use Rattle.model.specs.Lists.{concat_map}
use Rattle.model.specs.Number.{decimal}
use Rattle.model.specs.Record.{Record, test_name, source_file, function_name, function_data, functions_found, functions_hit, branch_data, branches_found, branches_hit, line_data, lines_found, lines_hit, end_of_record}
use Rattle.model.specs.Report.{extent_at, Extent, updated, Item, extent_of, end_of, section_item, function_item, branch_item, line_item, count_of}
use Rattle.model.specs.Parts.{part_of, given_in, checksum_in, record_in}
use Rattle.model.specs.Line.{print_record}
use Rattle.model.specs.Printing.{start_record, data_record, print_records}
use Rattle.model.specs.Valid.{ItemFits}
use Rattle.table_item.specs.Items.{part, by_kind, if_given, extent_in, start_key, function_in, item_of, ItemInBounds}
use Rattle.table_item.proofs.RowLaws.{started_kind, started_item}
use Rattle.record_display.specs.Lines.{line_in, counted}
use Rattle.record_display.proofs.LineLaws.{part-there, line_made}
use Rattle.print_rows.specs.Emit.{end_len, found_of, hit_of, hit_one, lent_part, lent_taken, lent_checksum}

-- ---- one record

part_in_lem : (text : Bytes) (p : Part) (start len : ℕ) → p ≡ lent_part start len → start + len ≤ length text → part_of text p ≡ accepted (part text start len)
part_in_lem text p start len is inside = rw is (part-there text (lent_part start len) (le-leb (start + len) (length text) inside))

module _ (tag : Kind → Bytes) (text : Bytes) where
  pub one_line : (a : LentRecord) (made : Record) → record_in text a ≡ accepted made → line_in tag text a ≡ print_records tag (made ∷ [])
  unfolding print_records concat_map
  one_line a made e = line_made tag text a made e ∙ sym (append-nil (print_record tag made ++ (newline ∷ [])))

  pub end_line_lem : line_in tag text Lent.EndOfRecord ≡ print_records tag (end_of_record ∷ [])
  unfolding record_in
  end_line_lem = one_line Lent.EndOfRecord end_of_record refl

  module _ (p : Part) (start len : ℕ) (is : p ≡ lent_part start len) (inside : start + len ≤ length text) where
    pub test-line : line_in tag text (Lent.TestName p) ≡ print_records tag (test_name (part text start len) ∷ [])
    unfolding record_in
    test-line = one_line (Lent.TestName p) (test_name (part text start len)) (rw (part_in_lem text p start len is inside))

    pub path-line : line_in tag text (Lent.SourceFile p) ≡ print_records tag (source_file (part text start len) ∷ [])
    unfolding record_in
    path-line = one_line (Lent.SourceFile p) (source_file (part text start len)) (rw (part_in_lem text p start len is inside))

-- ---- what is given of a row

pub taken_none : (m n : ℕ) → m ≡ 0 → None ≡ lent_taken m n
taken_none m n e = rw e

taken_in_lem : (m n : ℕ) → given_in (lent_taken m n) ≡ if_given m n
unfolding given_in
taken_in_lem zero n = refl
taken_in_lem (suc m) n = refl

checksum_in_lem : (text : Bytes) (m start len : ℕ) → m < 2 → (m ≡ 1 → start + len ≤ length text) → checksum_in text (lent_checksum m start len) ≡ accepted (if_given m (part text start len))
unfolding checksum_in
checksum_in_lem text zero start len h g = refl
checksum_in_lem text (suc zero) start len h g = rw (part_in_lem text (lent_part start len) start len refl (g refl))
checksum_in_lem text (suc (suc m)) start len h g = absurd (omega arith)

-- a key that is not 0 is one more than the start line
pub key-start : {n k : ℕ} → k ≡ n → k ≢ 0 → n ≡ suc (k - 1)
key-start e h = omega arith

-- the length of an end line
pub end-given : (end : LentOption ℕ) (line n : ℕ) → end ≡ Some line → n ≡ length (decimal line) → 1 + n ≡ end_len (given_in end)
unfolding given_in
end-given end line n e h = rw (e, h)

pub end_absent : (end : LentOption ℕ) → end ≡ None → 0 ≡ end_len (given_in end)
unfolding given_in
end_absent end e = rw e

-- ---- a row's items

module _ (text : Bytes) (row : Row) where
  -- by kind k and what is given, m
  abbrev pub item : ℕ → ℕ → Item
  item k m =
      by_kind k
      (section_item (part text row.path row.path_len))
      (function_item (updated (function_in text row) (extent_in m row.k3) row.count))
      (branch_item row.k1 row.k2 row.k3 (if_given m row.count))
      (line_item row.k1 row.count (if_given m (part text row.k2 row.k3)))

  pub item-is : (k : ℕ) → row.tag / 2 ≡ k → item_of text row ≡ item k (row.tag % 2)
  unfolding item_of
  item-is k e = rw e

  -- FN's start line
  pub start_fits : (start : ℕ) → start_key (extent_of (item_of text row)) ≡ suc start → ItemFits (item_of text row) → Val.Fits w32 start
  start_fits start is f = let g : ItemFits (function_item (updated (function_in text row) (some (extent_at start (end_of (item_of text row)))) row.count)) = rw (started_item text row start is) at f in
      record { fits = omega (arith, g.1.start) }

  module _ (fits : ItemFits (item_of text row)) where
    branch_fits : row.tag / 2 ≡ 2 → ItemFits (item 2 (row.tag % 2))
    branch_fits e = rw (item-is 2 e) at fits

    pub line-fits : row.tag / 2 ≡ 2 → Val.Fits w32 row.k1
    line-fits e = record { fits = omega (arith, (branch_fits e).0) }

    pub block_fits : row.tag / 2 ≡ 2 → Val.Fits w32 row.k2
    block_fits e = record { fits = omega (arith, (branch_fits e).1) }

    pub branch-number-fits : row.tag / 2 ≡ 2 → Val.Fits w32 row.k3
    branch-number-fits e = record { fits = omega (arith, (branch_fits e).2) }

    pub line-number-fits : row.tag / 2 ≡ 3 → Val.Fits w32 row.k1
    line-number-fits e = let f : ItemFits (item 3 (row.tag % 2)) = rw (item-is 3 e) at fits in record { fits = omega (arith, f.0) }

  -- ---- hit or not

  not_hit : (k m : ℕ) → (1 ≤ k → (k ≡ 2 → m ≢ 0) → row.count ≡ 0) → 0 ≡ hit_one (item k m)
  unfolding count_of
  not_hit zero m h = refl
  not_hit (suc zero) m h = rw (h (omega arith) (λ e z. omega arith))
  not_hit (suc (suc zero)) zero h = refl
  not_hit (suc (suc zero)) (suc m) h = rw (h (omega arith) (λ e z. omega arith))
  not_hit (suc (suc (suc k))) m h = rw (h (omega arith) (λ e z. omega arith))

  is-hit : (k m : ℕ) → 1 ≤ k → (k ≡ 2 → m ≢ 0) → row.count ≢ 0 → 1 ≡ hit_one (item k m)
  unfolding count_of
  is-hit zero m h f n = absurd (omega arith)
  is-hit (suc zero) m h f n = rw (lt-ltb 0 row.count (omega arith))
  is-hit (suc (suc zero)) zero h f n = absurd (f refl refl)
  is-hit (suc (suc zero)) (suc m) h f n = rw (lt-ltb 0 row.count (omega arith))
  is-hit (suc (suc (suc k))) m h f n = rw (lt-ltb 0 row.count (omega arith))

  pub no_count : row.count ≡ 0 → 0 ≡ hit_one (item_of text row)
  unfolding item_of
  no_count e = not_hit (row.tag / 2) (row.tag % 2) (λ h f. e)

  pub section-count : row.tag < 2 → 0 ≡ hit_one (item_of text row)
  unfolding item_of
  section-count e = not_hit (row.tag / 2) (row.tag % 2) (λ h f. absurd (omega arith))

  pub untaken_count : row.tag ≡ 4 → 0 ≡ hit_one (item_of text row)
  unfolding item_of
  untaken_count e = not_hit (row.tag / 2) (row.tag % 2) (λ h f. absurd (f (omega arith) (omega arith)))

  pub hit-count : row.count ≢ 0 → 2 ≤ row.tag → row.tag ≢ 4 → 1 ≡ hit_one (item_of text row)
  unfolding item_of
  hit-count n h f = is-hit (row.tag / 2) (row.tag % 2) (omega arith) (λ e z. f (omega arith)) n

-- ---- a row's records

module _ (tag : Kind → Bytes) (text : Bytes) (row : Row) where
  -- FN of a row that has a start line
  module _ (start : ℕ) (is : start_key (extent_of (item_of text row)) ≡ suc start) where
    pub start-line : (end : LentOption ℕ) (p : Part) → given_in end ≡ end_of (item_of text row) → ItemInBounds text row → p ≡ lent_part row.k1 row.k2
        → line_in tag text (Lent.FunctionName start end p) ≡ print_records tag (start_record (item_of text row))
    unfolding start_record record_in
    start-line end p e g q =
        one_line tag text (Lent.FunctionName start end p) (function_name start (end_of (item_of text row)) (part text row.k1 row.k2))
        (rw (part_in_lem text p row.k1 row.k2 q (g.name (started_kind text row start is)), e))
        ∙ ap (λ (i : Item). print_records tag (start_record i)) (sym (started_item text row start is))

  pub no_start : start_key (extent_of (item_of text row)) ≡ 0 → print_records tag (start_record (item_of text row)) ≡ []
  unfolding extent_of start_record print_records concat_map
  no_start e = go (item_of text row) e
    where
      go : (i : Item) → start_key (extent_of i) ≡ 0 → print_records tag (start_record i) ≡ []
      go (section_item spelling) e = refl
      go (function_item f) e = by-extent f.extent e
        where
          by-extent : (x : Option Extent) → start_key x ≡ 0 → print_records tag (start_record (function_item (updated f x f.count))) ≡ []
          by-extent none e = refl
          by-extent (some x) e = absurd (omega arith)
      go (branch_item line block branch taken) e = refl
      go (line_item line count checksum) e = refl

  pub function-line : (p : Part) → row.tag / 2 ≡ 1 → ItemInBounds text row → p ≡ lent_part row.k1 row.k2 → line_in tag text (Lent.FunctionData row.count p) ≡ print_records tag (data_record (item_of text row))
  unfolding data_record record_in
  function-line p e g q =
      rw (item-is text row 1 e) (one_line tag text (Lent.FunctionData row.count p) (function_data row.count (part text row.k1 row.k2)) (rw (part_in_lem text p row.k1 row.k2 q (g.name e))))

  pub branch-line : (t : LentOption ℕ) → row.tag / 2 ≡ 2 → t ≡ lent_taken (row.tag % 2) row.count → line_in tag text (Lent.BranchData row.k1 row.k2 row.k3 t) ≡ print_records tag (data_record (item_of text row))
  unfolding data_record record_in
  branch-line t e q =
      rw (item-is text row 2 e) (one_line tag text (Lent.BranchData row.k1 row.k2 row.k3 t) (branch_data row.k1 row.k2 row.k3 (if_given (row.tag % 2) row.count)) (rw (q, taken_in_lem)))

  pub checked_line : (c : LentOption Part) → row.tag / 2 ≡ 3 → ItemInBounds text row → c ≡ lent_checksum (row.tag % 2) row.k2 row.k3 → line_in tag text (Lent.LineData row.k1 row.count c) ≡ print_records tag (data_record (item_of text row))
  unfolding data_record record_in
  checked_line c e g q =
      rw (item-is text row 3 e)
      (one_line tag text (Lent.LineData row.k1 row.count c) (line_data row.k1 row.count (if_given (row.tag % 2) (part text row.k2 row.k3)))
      (rw (q, checksum_in_lem text (row.tag % 2) row.k2 row.k3 (omega arith) (g.checksum e))))

  pub count-line : row.tag ≡ 6 → line_in tag [] (counted row.k1 row.count) ≡ print_records tag (data_record (item_of text row))
  unfolding data_record item_of record_in checksum_in
  count-line e = rw e (one_line tag [] (counted row.k1 row.count) (line_data row.k1 row.count none) refl)

  pub no_data : ItemInBounds text row → row.tag / 2 ≢ 1 → row.tag / 2 ≢ 2 → row.tag / 2 ≢ 3 → print_records tag (data_record (item_of text row)) ≡ []
  unfolding data_record print_records concat_map
  no_data g f b l = let few = g.kind in let z : row.tag / 2 ≡ 0 = omega arith in rw (item-is text row 0 z)

-- ---- how many were found and hit

by-other : {A : Type 0} (kind : ℕ) (a b c d : A) → 1 ≤ kind → kind ≢ 1 → kind ≢ 2 → d ≡ by_kind kind a b c d
by-other zero a b c d h n m = absurd (omega arith)
by-other (suc zero) a b c d h n m = absurd (n refl)
by-other (suc (suc zero)) a b c d h n m = absurd (m refl)
by-other (suc (suc (suc kind))) a b c d h n m = refl

module _ (kind n : ℕ) where
  pub functions_found_lem : kind ≡ 1 → (text : Bytes) → record_in text (Lent.FunctionsFound n) ≡ accepted (found_of kind n)
  unfolding record_in
  functions_found_lem e text = rw e

  pub branches_found_lem : kind ≡ 2 → (text : Bytes) → record_in text (Lent.BranchesFound n) ≡ accepted (found_of kind n)
  unfolding record_in
  branches_found_lem e text = rw e

  pub functions_hit_lem : kind ≡ 1 → (text : Bytes) → record_in text (Lent.FunctionsHit n) ≡ accepted (hit_of kind n)
  unfolding record_in
  functions_hit_lem e text = rw e

  pub branches_hit_lem : kind ≡ 2 → (text : Bytes) → record_in text (Lent.BranchesHit n) ≡ accepted (hit_of kind n)
  unfolding record_in
  branches_hit_lem e text = rw e

  module _ (least : 1 ≤ kind) (no_function : kind ≢ 1) (no-branch : kind ≢ 2) where
    pub lines_found_lem : (text : Bytes) → record_in text (Lent.LinesFound n) ≡ accepted (found_of kind n)
    unfolding record_in
    lines_found_lem text = ap accepted (by-other kind (functions_found n) (functions_found n) (branches_found n) (lines_found n) least no_function no-branch)

    pub lines_hit_lem : (text : Bytes) → record_in text (Lent.LinesHit n) ≡ accepted (hit_of kind n)
    unfolding record_in
    lines_hit_lem text = ap accepted (by-other kind (functions_hit n) (functions_hit n) (branches_hit n) (lines_hit n) least no_function no-branch)
