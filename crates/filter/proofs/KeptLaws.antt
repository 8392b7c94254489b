-- The lines of what stays of a section, piece after piece. Assumes nothing.
use Prim.Native.Nat.{ℕ, ◌+◌, ◌*◌, ◌^◌, ◌≤◌, ◌<◌}
use mathlib.Core.Path.{refl, sym}
use mathlib.Core.Bool.{Bool}
use mathlib.Core.List.{List, [], ◌∷◌, ◌++◌, append-nil}
use lib.ListN.{length}
use Rattle.table.specs.declared.Row.{Row}
use Rattle.model.specs.declared.Kind.{Kind}
use Rattle.model.specs.Bytes.{Bytes}
use Rattle.model.specs.Limits.{u64_max}
use Rattle.model.specs.Record.{end_of_record}
use Rattle.model.specs.Printing.{print_records}
use Rattle.table_item.specs.Items.{branch_kind, line_kind}
use Rattle.print_sort.specs.Sorting.{items_by}
use Rattle.print_rows.specs.Emit.{RoomFor, Emitted}
use Rattle.print_report.specs.Printing.{head_lines, function_lines, group_lines}
use Rattle.print_report.proofs.GoingLaws.{Going, going_start, going_room, going_next, going_done}
use Rattle.filter.specs.declared.Kept.{Kept}
use Rattle.filter.specs.Filtered.{kept_lines}

-- the lines are to be printed at a place, with room for them
pub record Begun (tag : Kind → Bytes) (write : Bool) (text ws out : List ℕ) (header : Row) (numbers at : ℕ) (kept : Kept) : Type 0 where
  pub room : RoomFor write out at (kept_lines tag text ws header numbers kept)
  pub few : length out * 1 < 2 ^ 63
  pub place : at ≤ u64_max

module _ {tag : Kind → Bytes} {write : Bool} {text ws out : List ℕ} {header : Row} {numbers at : ℕ} {kept : Kept} (β : Begun tag write text ws out header numbers at kept) where
  abbrev head : Bytes
  head = head_lines tag text header

  abbrev functions : Bytes
  functions = function_lines tag (items_by text ws numbers kept.functions)

  abbrev branches : Bytes
  branches = group_lines tag branch_kind (items_by text ws (numbers + kept.functions) kept.branches)

  abbrev lines : Bytes
  lines = group_lines tag line_kind (items_by text ws (numbers + kept.functions + kept.branches) kept.lines)

  abbrev end : Bytes
  end = print_records tag (end_of_record ∷ [])

  abbrev all : Bytes
  all = kept_lines tag text ws header numbers kept

  at_head : Going write out out at at all all
  at_head = going_start β.room β.few β.place

  pub head_room : RoomFor write out at head
  head_room = going_room at_head head (functions ++ (branches ++ (lines ++ end))) refl

  module _ {out₁ : Bytes} {a : ℕ} (ε₁ : Emitted write out out₁ at head a) where
    at_functions : Going write out out₁ at a all (functions ++ (branches ++ (lines ++ end)))
    at_functions = going_next at_head head (functions ++ (branches ++ (lines ++ end))) refl ε₁

    pub functions-room : RoomFor write out₁ a functions
    functions-room = going_room at_functions functions (branches ++ (lines ++ end)) refl

    module _ {out₂ : Bytes} {b : ℕ} (ε₂ : Emitted write out₁ out₂ a functions b) where
      at_branches : Going write out out₂ at b all (branches ++ (lines ++ end))
      at_branches = going_next at_functions functions (branches ++ (lines ++ end)) refl ε₂

      pub branches-room : RoomFor write out₂ b branches
      branches-room = going_room at_branches branches (lines ++ end) refl

      module _ {out₃ : Bytes} {c : ℕ} (ε₃ : Emitted write out₂ out₃ b branches c) where
        at_lines : Going write out out₃ at c all (lines ++ end)
        at_lines = going_next at_branches branches (lines ++ end) refl ε₃

        pub lines-room : RoomFor write out₃ c lines
        lines-room = going_room at_lines lines end refl

        module _ {out₄ : Bytes} {d : ℕ} (ε₄ : Emitted write out₃ out₄ c lines d) where
          at_end : Going write out out₄ at d all end
          at_end = going_next at_lines lines end refl ε₄

          pub end-room : RoomFor write out₄ d end
          end-room = going_room at_end end [] (sym (append-nil end))

          pub kept_done : {out₅ : Bytes} {e : ℕ} → Emitted write out₄ out₅ d end e → Emitted write out out₅ at all e
          kept_done ε₅ = going_done (going_next at_end end [] (sym (append-nil end)) ε₅) refl
