-- How long the lines of items are, and what a row says of that. Assumes nothing.
use Rattle.std.specs.Prelude.{Option as LentOption}
use Prim.Native.Nat.{ℕ, suc, ◌+◌, ◌/◌, ◌%◌, ◌≤◌, min}
use native.Mathlib.Omega.{arith}
use mathlib.Core.Path.{◌≡◌, refl, ap, ◌∙◌}
use mathlib.Core.Logic.{◌≢◌}
use mathlib.Core.List.{[], ◌∷◌}
use mathlib.Core.Option.{Option, none, some}
use lib.ListN.{length, length-append, length-take, length-drop}
use Rattle.table.specs.declared.Row.{Row}
use Rattle.model.specs.Bytes.{Bytes, joined}
use Rattle.model.specs.Limits.{u64_max}
use Rattle.model.specs.Line.{print_end, print_taken, print_checksum, print_fields, print_record}
use Rattle.model.specs.Lists.{concat_map}
use Rattle.model.specs.Number.{decimal}
use Rattle.model.specs.declared.Kind.{Kind}
use Rattle.model.specs.declared.Kind.TheVariants as Kd
use Rattle.model.specs.Parts.{given_in}
use Rattle.model.specs.Record.{function_name}
use Rattle.model.specs.Report.{Extent, updated, Item, extent_of, end_of, section_item, function_item, branch_item, line_item}
use Rattle.model.specs.Printing.{start_record, data_record, print_records}
use Rattle.table_item.specs.Items.{part, start_key, item_of, ItemInBounds}
use Rattle.table_item.proofs.RowLaws.{started_kind, started_item}
use Rattle.print_rows.specs.Emit.{end_len}
use Rattle.print_rows.proofs.LentLaws.{item, item-is}
use Rattle.print_rows.proofs.PassLaws.{lines}

-- ---- items

abbrev pub data_len : (tag : Kind → Bytes) → Item → ℕ
data_len tag (section_item spelling) = 0
data_len tag (function_item f) = 3 + length (tag Kd.FunctionData) + length (decimal f.count) + length f.name
data_len tag (branch_item line block branch none) = 6 + length (tag Kd.BranchData) + length (decimal line) + length (decimal block) + length (decimal branch)
data_len tag (branch_item line block branch (some taken)) = 5 + length (tag Kd.BranchData) + length (decimal line) + length (decimal block) + length (decimal branch) + length (decimal taken)
data_len tag (line_item line count none) = 3 + length (tag Kd.LineData) + length (decimal line) + length (decimal count)
data_len tag (line_item line count (some checksum)) = 4 + length (tag Kd.LineData) + length (decimal line) + length (decimal count) + length checksum

pub data_length : (tag : Kind → Bytes) (i : Item) → length (lines tag (data_record i)) ≡ data_len tag i
unfolding data_record print_records concat_map print_record print_fields joined print_taken print_checksum
data_length tag (section_item spelling) = refl
data_length tag (function_item f) = simp length-append (omega arith)
data_length tag (branch_item line block branch none) = simp length-append (omega arith)
data_length tag (branch_item line block branch (some taken)) = simp length-append (omega arith)
data_length tag (line_item line count none) = simp length-append (omega arith)
data_length tag (line_item line count (some checksum)) = simp length-append (omega arith)

-- how long FN is, where there is one
abbrev pub start_len : (tag : Kind → Bytes) → Item → ℕ
start_len tag (section_item spelling) = 0
start_len tag (function_item f) = elim f.extent [ none ↦ 0 | some x ↦ 3 + length (tag Kd.FunctionName) + length (decimal x.start) + end_len x.end + length f.name ]
start_len tag (branch_item line block branch taken) = 0
start_len tag (line_item line count checksum) = 0

pub start-length : (tag : Kind → Bytes) (i : Item) → length (lines tag (start_record i)) ≡ start_len tag i
unfolding start_record print_records concat_map print_record print_fields print_end joined
start-length tag (section_item spelling) = refl
start-length tag (function_item f) = go f.extent
  where
    by_end : (start : ℕ) (end : Option ℕ) → length (lines tag (function_name start end f.name ∷ [])) ≡ 3 + length (tag Kd.FunctionName) + length (decimal start) + end_len end + length f.name
    by_end start none = simp length-append (omega arith)
    by_end start (some end) = simp length-append (omega arith)

    function : Option Extent → Item
    function extent = function_item (updated f extent f.count)

    go : (extent : Option Extent) → length (lines tag (start_record (function extent))) ≡ start_len tag (function extent)
    go none = refl
    go (some x) = by_end x.start x.end
start-length tag (branch_item line block branch taken) = refl
start-length tag (line_item line count checksum) = refl

-- ---- rows

part_length : (text : Bytes) (start len : ℕ) → start + len ≤ length text → length (part text start len) ≡ len
part_length text start len h = simp (length-take, length-drop) (omega arith)

module _ (tag : Kind → Bytes) (text : Bytes) (row : Row) where
  data_at : (k m : ℕ) → row.tag / 2 ≡ k → row.tag % 2 ≡ m → length (lines tag (data_record (item_of text row))) ≡ data_len tag (item text row k m)
  data_at k m e q = ap (λ (i : Item). length (lines tag (data_record i))) (item-is text row k e ∙ ap (item text row k) q) ∙ data_length tag (item text row k m)

  module _ (good : ItemInBounds text row) (at r : ℕ) where
    -- r is the place behind the row's data line
    abbrev Past : Type 0
    Past = r ≡ min (at + length (lines tag (data_record (item_of text row)))) u64_max

    pub past-line : (t : ℕ) → t ≡ length (tag Kd.LineData) → (a b : ℕ) → row.tag / 2 ≡ 3 → row.tag % 2 ≡ 0 → a ≡ length (decimal row.k1) → b ≡ length (decimal row.count)
        → r ≡ min (at + (3 + t + a + b)) u64_max → Past
    past-line t tag_is a b e q p s h = omega (arith, data_at 3 0 e q)

    pub past_checked : (t : ℕ) → t ≡ length (tag Kd.LineData) → (a b n : ℕ) → row.tag / 2 ≡ 3 → row.tag % 2 ≢ 0 → a ≡ length (decimal row.k1) → b ≡ length (decimal row.count)
        → n ≡ min (at + (3 + t + a + b + 1)) u64_max → r ≡ min (n + row.k3) u64_max → Past
    past_checked t tag_is a b n e q p s h l =
        let one : row.tag % 2 ≡ 1 = omega arith in
        omega (arith, data_at 3 1 e one, part_length text row.k2 row.k3 (good.checksum e one))

    pub past_untaken : (t : ℕ) → t ≡ length (tag Kd.BranchData) → (a b c : ℕ) → row.tag / 2 ≡ 2 → row.tag % 2 ≡ 0 → a ≡ length (decimal row.k1) → b ≡ length (decimal row.k2)
        → c ≡ length (decimal row.k3) → r ≡ min (at + (t + a + b + c + 6)) u64_max → Past
    past_untaken t tag_is a b c e q p s u h = omega (arith, data_at 2 0 e q)

    pub past-taken : (t : ℕ) → t ≡ length (tag Kd.BranchData) → (a b c d : ℕ) → row.tag / 2 ≡ 2 → row.tag % 2 ≢ 0 → a ≡ length (decimal row.k1) → b ≡ length (decimal row.k2)
        → c ≡ length (decimal row.k3) → d ≡ length (decimal row.count) → r ≡ min (at + (t + a + b + c + 5 + d)) u64_max → Past
    past-taken t tag_is a b c d e q p s v u h = let one : row.tag % 2 ≡ 1 = omega arith in omega (arith, data_at 2 1 e one)

    pub past-function : (t : ℕ) → t ≡ length (tag Kd.FunctionData) → (a n : ℕ) → row.tag / 2 ≡ 1 → a ≡ length (decimal row.count) → n ≡ min (at + (3 + t + a)) u64_max
        → r ≡ min (n + row.k2) u64_max → Past
    past-function t tag_is a n e p h l = omega (arith, data_at 1 (row.tag % 2) e refl, part_length text row.k1 row.k2 (good.name e))

    pub past-none : r ≡ at → at ≤ u64_max → row.tag / 2 ≢ 1 → row.tag / 2 ≢ 2 → row.tag / 2 ≢ 3 → Past
    past-none q h f b l =
        let few = good.kind in
        let z : row.tag / 2 ≡ 0 = omega arith in
        omega (arith, data_at 0 (row.tag % 2) z refl)

    pub past-start : (start : ℕ) → start_key (extent_of (item_of text row)) ≡ suc start → (end : LentOption ℕ) → given_in end ≡ end_of (item_of text row)
        → (t : ℕ) → t ≡ length (tag Kd.FunctionName) → (a b n : ℕ) → a ≡ length (decimal start) → b ≡ end_len (given_in end) → n ≡ min (at + (3 + t + a + b)) u64_max → r ≡ min (n + row.k2) u64_max
        → r ≡ min (at + length (lines tag (start_record (item_of text row)))) u64_max
    past-start start is end g t tag_is a b n p s h l =
        let k = started_kind text row start is in
        let long = ap (λ (i : Item). length (lines tag (start_record i))) (started_item text row start is) ∙ start-length tag _ in
        let same : b ≡ end_len (end_of (item_of text row)) = s ∙ ap end_len g in
        omega (arith, long, same, part_length text row.k1 row.k2 (good.name k))
