-- A section's lines, stage after stage: TN and SF, functions, branches and lines, and the end. Assumes nothing.
use Prim.Native.Nat.{ℕ, ◌+◌, ◌*◌, ◌-◌, ◌^◌, ◌≤◌, ◌<◌}
use native.Mathlib.Omega.{arith}
use mathlib.Core.Path.{◌≡◌, refl, sym, ap, ap₂, ◌∙◌}
use mathlib.Core.Bool.{Bool}
use mathlib.Core.List.{List, [], ◌∷◌, ◌++◌, append_assoc}
use lib.ListN.{length}
use Rattle.table.specs.declared.Row.{Row}
use Rattle.table.specs.Store.{row}
use Rattle.model.specs.declared.Kind.{Kind}
use Rattle.model.specs.Bytes.{Bytes}
use Rattle.model.specs.Limits.{u64_max}
use Rattle.model.specs.Lists.{sort}
use Rattle.model.specs.Record.{end_of_record}
use Rattle.model.specs.Printing.{compare_printed, print_records}
use Rattle.table_item.specs.Items.{kind_of, branch_kind, line_kind}
use Rattle.table_item.specs.SortedItems.{items_at}
use Rattle.print_sort.specs.Sorting.{items_by}
use Rattle.print_rows.specs.Emit.{RoomFor, Emitted}
use Rattle.print_rows.proofs.EmitLaws.{room_as, emitted_as}
use Rattle.print_report.specs.declared.KindRanges.{KindRanges}
use Rattle.print_report.specs.Printing.{printed_from, PrintableTable, UnchangedBefore, AreKindRanges, head_lines, function_lines, group_lines, branch_lines, line_lines, GroupRows, SectionPrinted}
use Rattle.print_report.proofs.KindLaws.{next-header}
use Rattle.print_report.proofs.SplitLaws.{section-printed}
use Rattle.print_report.proofs.TableLaws.{printable-kept, items_kept, index-printable}
use Rattle.print_report.proofs.GoingLaws.{Going, going_start, going_room, going_next}

-- the section at place lo is to be printed, with room for it and all behind it
pub record Here (tag : Kind → Bytes) (write : Bool) (text ws out : List ℕ) (index used n spare lo at : ℕ) (header : Row) (r : KindRanges) : Type 0 where
  pub spacious : PrintableTable text ws index used n spare
  pub more : lo < n
  pub kind : kind_of (row ws index lo) ≡ 0
  pub is : header ≡ row ws index lo
  pub runs : AreKindRanges ws index n (lo + 1) r
  pub room : RoomFor write out at (printed_from tag text index n ws lo)
  pub few : length out * 1 < 2 ^ 63
  pub place : at ≤ u64_max

pub here : {tag : Kind → Bytes} {write : Bool} {text ws out : List ℕ} {index used n spare lo at : ℕ} {header : Row} {r : KindRanges}
    → PrintableTable text ws index used n spare × (lo < n) × (kind_of (row ws index lo) ≡ 0) → header ≡ row ws index lo → AreKindRanges ws index n (lo + 1) r
    → RoomFor write out at (printed_from tag text index n ws lo) → length out * 1 < 2 ^ 63 → at ≤ u64_max
    → Here tag write text ws out index used n spare lo at header r
here π is runs room few place =
    record { spacious = π.0; more = π.1; kind = π.2; is = is; runs = runs; room = room; few = few; place = place }

module _ {tag : Kind → Bytes} {write : Bool} {text ws out : List ℕ} {index used n spare lo at : ℕ} {header : Row} {r : KindRanges}
    (η : Here tag write text ws out index used n spare lo at header r) where
  abbrev functions : Bytes
  functions = function_lines tag (sort compare_printed (items_at text ws index (lo + 1) (r.functions - (lo + 1))))

  abbrev branches : Bytes
  branches = group_lines tag branch_kind (items_at text ws index r.functions (r.branches - r.functions))

  abbrev lines : Bytes
  lines = group_lines tag line_kind (items_at text ws index r.branches (r.lines - r.branches))

  abbrev end : Bytes
  end = print_records tag (end_of_record ∷ [])

  abbrev rest : Bytes
  rest = printed_from tag text index n ws r.lines

  all : printed_from tag text index n ws lo ≡ head_lines tag text header ++ (functions ++ (branches ++ lines ++ (end ++ rest)))
  all =
      section-printed tag η.spacious.table η.kind η.more η.runs.functions η.runs.branches η.runs.lines
      ∙ ap₂ (λ (o : Row) (t : Bytes). head_lines tag text o ++ (functions ++ t)) (sym η.is) (sym (append_assoc branches lines (end ++ rest)))

  -- ---- TN and SF

  at_head : Going write out out at at (printed_from tag text index n ws lo) (printed_from tag text index n ws lo)
  at_head = going_start η.room η.few η.place

  pub header-named : (header.test + header.test_len ≤ length text) × (header.path + header.path_len ≤ length text)
  header-named = let ν = (η.spacious.table.whole lo η.more).named in rw η.is (ν.test, ν.path)

  pub head_room : RoomFor write out at (head_lines tag text header)
  head_room = going_room at_head (head_lines tag text header) (functions ++ (branches ++ lines ++ (end ++ rest))) all

  -- ---- functions

  module _ {out₁ : Bytes} {a : ℕ} (ε₁ : Emitted write out out₁ at (head_lines tag text header) a) where
    at_functions : Going write out out₁ at a (printed_from tag text index n ws lo) (functions ++ (branches ++ lines ++ (end ++ rest)))
    at_functions = going_next at_head (head_lines tag text header) (functions ++ (branches ++ lines ++ (end ++ rest))) all ε₁

    pub functions-room : RoomFor write out₁ a functions
    functions-room = going_room at_functions functions (branches ++ lines ++ (end ++ rest)) refl

    -- ---- branches and lines: the spare words have been written to

    module _ {ws' out₂ : Bytes} {b : ℕ} (ε₂ : Emitted write out₁ out₂ a functions b) (σ : UnchangedBefore ws ws' spare) where
      same_lines : (kind from to : ℕ) → to ≤ n
          → group_lines tag kind (items_by text ws' (index + from) (to - from)) ≡ group_lines tag kind (items_at text ws index from (to - from))
      same_lines kind from to h = ap (group_lines tag kind) (items_kept η.spacious σ from to h)

      groups_is : branch_lines tag text ws' index r ++ line_lines tag text ws' index r ≡ branches ++ lines
      groups_is =
          ap₂ ◌++◌ (same_lines branch_kind r.functions r.branches η.runs.branches.most) (same_lines line_kind r.branches r.lines η.runs.lines.most)

      at_groups : Going write out out₂ at b (printed_from tag text index n ws lo) (branches ++ lines ++ (end ++ rest))
      at_groups = going_next at_functions functions (branches ++ lines ++ (end ++ rest)) refl ε₂

      pub groups_room : RoomFor write out₂ b (branch_lines tag text ws' index r ++ line_lines tag text ws' index r)
      groups_room =
          room_as write out₂ b (branch_lines tag text ws' index r ++ line_lines tag text ws' index r) (branches ++ lines) groups_is
          (going_room at_groups (branches ++ lines) (end ++ rest) refl)

      pub group-rows : GroupRows text ws' index r
      group-rows =
          let τ = (printable-kept η.spacious σ).table in
          record {
            branches = index-printable τ r.functions r.branches η.runs.branches.least η.runs.branches.most;
            lines = index-printable τ r.branches r.lines η.runs.lines.least η.runs.lines.most;
            order = (η.runs.branches.least, η.runs.lines.least);
            few = omega (arith, η.spacious.few, η.runs.lines.most);
          }

      -- ---- the end

      module _ {out₃ : Bytes} {c : ℕ} (ε₃ : Emitted write out₂ out₃ b (branch_lines tag text ws' index r ++ line_lines tag text ws' index r) c) where
        at_end : Going write out out₃ at c (printed_from tag text index n ws lo) (end ++ rest)
        at_end =
            going_next at_groups (branches ++ lines) (end ++ rest) refl
            (emitted_as write (branch_lines tag text ws' index r ++ line_lines tag text ws' index r) (branches ++ lines) groups_is ε₃)

        pub end-room : RoomFor write out₃ c end
        end-room = going_room at_end end rest refl

        pub section_done : {out₄ : Bytes} {d : ℕ} → Emitted write out₃ out₄ c end d
            → SectionPrinted (printed_from tag text index n) write ws ws' out out₄ index n lo spare at (record { next = r.lines; at = d })
        section_done ε₄ =
            let γ = going_next at_end end rest refl ε₄ in
            record {
              lines = γ.done;
              first = γ.is;
              emitted = γ.emitted;
              more = omega (arith, η.runs.functions.least, η.runs.branches.least, η.runs.lines.least);
              most = η.runs.lines.most;
              header = next-header η.spacious.table (omega arith) η.runs.functions η.runs.branches η.runs.lines;
              spared = σ;
            }
