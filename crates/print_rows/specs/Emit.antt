-- Bytes that are only measured, or written at a place of the output; and rows handed on as the lines that they print. Assumes nothing.
use Rattle.std.specs.Prelude.{ℕ, zero, suc, ◌+◌, ◌*◌, ◌≤◌, ◌<◌, min, ◌≡◌, Bool, true, false, List, ◌++◌, ltb, length, take, drop, if◌then◌else◌, Option as LentOption, Some, None}
use Rattle.std.proofs.Math.Option.{Option, none, some}
use Rattle.table.specs.Rows.{row_words, word, row_at}
use Rattle.model.specs.declared.Part.{Part}
use Rattle.model.specs.Bytes.{Bytes}
use Rattle.model.specs.Limits.{u64_max}
use Rattle.model.specs.Number.{decimal}
use Rattle.model.specs.Record.{Record, functions_found, functions_hit, branches_found, branches_hit, lines_found, lines_hit}
use Rattle.model.specs.Report.{Item, count_of}
use Rattle.model.specs.Printing.{start_record, data_record}
use Rattle.model.specs.Valid.{ItemFits}
use Rattle.table_item.specs.Items.{by_kind, item_of, ItemInBounds}

-- ---- bytes

-- the output with bytes at a place
abbrev pub put_at : Bytes → ℕ → Bytes → Bytes
put_at out at bytes = take at out ++ (bytes ++ drop (at + length bytes) out)

abbrev pub out_after : Bool → Bytes → ℕ → Bytes → Bytes
out_after true out at bytes = put_at out at bytes
out_after false out at bytes = out

-- what is written has room
abbrev pub RoomFor : Bool → Bytes → ℕ → Bytes → Type 0
RoomFor true out at bytes = at + length bytes ≤ length out
RoomFor false out at bytes = Unit {0}

-- the bytes come at `at`, and r is the place behind them, held at 2^64 − 1
pub record Emitted (write : Bool) (out out' : Bytes) (at : ℕ) (bytes : Bytes) (r : ℕ) : Type 0 where
  pub next : r ≡ min (at + length bytes) u64_max
  pub after : out' ≡ out_after write out at bytes

-- ---- rows

-- the item of the k-th row, whose number is at word numbers + k
abbrev pub numbered_item : Bytes → List ℕ → ℕ → ℕ → Item
numbered_item text ws numbers k = item_of text (row_at ws (word ws (numbers + k)))

-- the words from `numbers` on are the numbers of n rows
pub record Numbered (ws : List ℕ) (numbers n : ℕ) : Type 0 where
  pub words : numbers + n ≤ length ws
  pub inside : (k : ℕ) → k < n → word ws (numbers + k) * row_words + row_words ≤ length ws

-- these rows can be printed
pub record Printable (text ws : List ℕ) (numbers n : ℕ) : Type 0 where
  pub numbered : Numbered ws numbers n
  pub good : (k : ℕ) → k < n → ItemInBounds text (row_at ws (word ws (numbers + k)))
  pub fits : (k : ℕ) → k < n → ItemFits (numbered_item text ws numbers k)

-- what one pass over rows prints of an item: FN, or FNDA, BRDA or DA
abbrev pub pass_records : Bool → Item → List Record
pass_records true = start_record
pass_records false = data_record

-- the records of the numbers found and hit, by kind of row; a section's header row has none
abbrev pub found_of : ℕ → ℕ → Record
found_of kind n = by_kind kind (functions_found n) (functions_found n) (branches_found n) (lines_found n)

abbrev pub hit_of : ℕ → ℕ → Record
hit_of kind n = by_kind kind (functions_hit n) (functions_hit n) (branches_hit n) (lines_hit n)

-- 1 for an item that is hit
abbrev pub hit_one : Item → ℕ
hit_one item = if ltb 0 (count_of item) then 1 else 0

-- the length of an end line and the comma before it
abbrev pub end_len : Option ℕ → ℕ
end_len none = 0
end_len (some end) = 1 + length (decimal end)

-- ---- what records hold of rows

-- a part of the text, lent by its start and length
abbrev pub lent_part : ℕ → ℕ → Part
lent_part start len = record { start = start; len = len }

-- a branch's taken count, and a line's checksum, where the tag says that they are given
abbrev pub lent_taken : ℕ → ℕ → LentOption ℕ
lent_taken zero count = None
lent_taken (suc k) count = Some count

abbrev pub lent_checksum : ℕ → ℕ → ℕ → LentOption Part
lent_checksum zero start len = None
lent_checksum (suc k) start len = Some (lent_part start len)
