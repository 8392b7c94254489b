-- Functions printed by their numbers: written in printing order, measured in the index's order. Assumes nothing.
use Prim.Native.Nat.{ℕ, ◌+◌}
use mathlib.Core.Path.{◌≡◌, sym, ap, ◌∙◌}
use mathlib.Core.Bool.{Bool, false}
use mathlib.Core.List.{List}
use lib.ListN.{length}
use Rattle.model.specs.declared.Kind.{Kind}
use Rattle.model.specs.Bytes.{Bytes}
use Rattle.model.specs.Lists.{sort}
use Rattle.model.specs.Report.{Item}
use Rattle.model.specs.Printing.{compare_printed}
use Rattle.table_item.specs.SortedItems.{items_at}
use Rattle.print_sort.specs.Sorting.{items_by, InPrintOrder}
use Rattle.print_rows.specs.Emit.{RoomFor, Emitted}
use Rattle.print_rows.proofs.EmitLaws.{measured_as, room_as, emitted_as}
use Rattle.print_report.specs.Printing.{function_lines}
use Rattle.print_report.proofs.OrderLaws.{functions-sorted}
use Rattle.print_report.proofs.TableLaws.{index-items}

no_room : (write : Bool) (out : Bytes) (at : ℕ) (bytes : Bytes) → write ≡ false → RoomFor write out at bytes
no_room write out at bytes e = rw e tt

measured_in : {write : Bool} {out out' : Bytes} {at r : ℕ} (a b : Bytes) → write ≡ false → length a ≡ length b → Emitted write out out' at a r → Emitted write out out' at b r
measured_in {write} {out} {out'} {at} {r} a b e l ε = rw e (measured_as {a = a} {b = b} l (rw e at ε))

module _ (tag : Kind → Bytes) (text ws : List ℕ) (index from m : ℕ) where
  abbrev lines : Bytes
  lines = function_lines tag (sort compare_printed (items_at text ws index from m))

  -- written in printing order
  module _ {ws' : List ℕ} {spare : ℕ} (ρ : InPrintOrder text ws ws' index from m spare) where
    pub sorted-room : (write : Bool) (out : Bytes) (at : ℕ) → RoomFor write out at lines → RoomFor write out at (function_lines tag (items_by text ws' spare m))
    sorted-room write out at h = room_as write out at _ _ (ap (function_lines tag) ρ.sorted) h

    pub sorted_done : {write : Bool} {out out' : Bytes} {at r : ℕ} → Emitted write out out' at (function_lines tag (items_by text ws' spare m)) r → Emitted write out out' at lines r
    sorted_done {write} ε = emitted_as write _ _ (ap (function_lines tag) ρ.sorted) ε

  -- measured in the index's order
  pub index-room : (write : Bool) (out : Bytes) (at : ℕ) → write ≡ false → RoomFor write out at (function_lines tag (items_by text ws (index + from) m))
  index-room write out at e = no_room write out at _ e

  pub index_done : {write : Bool} {out out' : Bytes} {at r : ℕ} → write ≡ false → Emitted write out out' at (function_lines tag (items_by text ws (index + from) m)) r
      → Emitted write out out' at lines r
  index_done e ε =
      measured_in (function_lines tag (items_by text ws (index + from) m)) lines e
      (ap (λ (items : List Item). length (function_lines tag items)) (index-items text ws index from m) ∙ sym (functions-sorted tag compare_printed (items_at text ws index from m))) ε
