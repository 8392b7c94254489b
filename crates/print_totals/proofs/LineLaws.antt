-- The line of a section, and the loop over a table's sections. Assumes nothing.
use Prim.Native.Nat.{ℕ, ◌+◌, ◌*◌, ◌-◌, ◌^◌, ◌≤◌, ◌<◌}
use native.Mathlib.Omega.{arith}
use mathlib.Core.Path.{◌≡◌, refl, sym, ap, ap₂, ◌∙◌}
use mathlib.Core.Bool.{Bool}
use mathlib.Core.List.{List, [], ◌∷◌, ◌++◌, map, append_assoc}
use lib.ListN.{length, take, drop}
use Rattle.table.specs.declared.Row.{Row}
use Rattle.table.specs.Store.{row}
use Rattle.model.specs.Bytes.{Bytes, newline}
use Rattle.model.specs.Limits.{u64_max, max_entries}
use Rattle.model.specs.Lists.{concat_map}
use Rattle.model.specs.Report.{Report}
use Rattle.model.specs.Printing.{Section, sections}
use Rattle.table_item.specs.Items.{part, kind_of}
use Rattle.table_section.specs.Sections.{test_of, path_of}
use Rattle.section.specs.Table.{Table}
use Rattle.print_rows.specs.Emit.{RoomFor, Emitted, Numbered}
use Rattle.print_rows.proofs.EmitLaws.{room_as, emitted_both, emitted_as}
use Rattle.print_report.specs.declared.KindRanges.{KindRanges}
use Rattle.print_report.specs.Printing.{entries_from, AreKindRanges}
use Rattle.print_report.proofs.KindLaws.{first-header, next-header}
use Rattle.print_report.proofs.SplitLaws.{items-functions, items-branches, items-lines, section_at, sections_at}
use Rattle.print_report.proofs.TableLaws.{index-printable}
use Rattle.print_report.proofs.LoopLaws.{entries-all, entries_none}
use Rattle.print_report.proofs.GoingLaws.{Going, going_start, going_room, going_next, going_done}
use Rattle.model_totals.specs.declared.Totals.{Totals}
use Rattle.model_totals.specs.Totals.{blank, totals_of, add_totals, no_totals, sum_totals, columns, section_line, section_totals, last_totals, page}
use Rattle.print_totals.specs.declared.Line.{Line}
use Rattle.print_totals.specs.Counting.{AtMost, SectionCounted, name_columns, lines_from, totals_from, page_at, LinePrinted}
use Rattle.print_totals.proofs.CountLaws.{section-most, section-totals, totals_assoc, totals-none, none-totals, none-most, totals-most, totals_wider}

-- ---- a blank and a name

module _ (text : Bytes) (start len : ℕ) (write : Bool) (out : Bytes) (at : ℕ) (room : RoomFor write out at (blank ∷ part text start len)) where
  slice_is : take (start + len - start) (drop start text) ≡ part text start len
  slice_is = ap (λ (n : ℕ). take n (drop start text)) (let e : start + len - start ≡ len = omega arith in e)

  module _ (few : length out * 1 < 2 ^ 63) {out₁ : Bytes} {r₁ : ℕ} (ε : Emitted write out out₁ at (blank ∷ []) r₁) where
    pub name-emitted : {out₂ : Bytes} {r₂ : ℕ} → Emitted write out₁ out₂ r₁ (take (start + len - start) (drop start text)) r₂
        → Emitted write out out₂ at (blank ∷ part text start len) r₂
    name-emitted ε₂ = emitted_both write out at (blank ∷ []) (part text start len) room few ε (emitted_as write _ _ slice_is ε₂)

-- ---- a section's names

module _ (text : Bytes) (header : Row) (write : Bool) (out : Bytes) (at : ℕ) (few : length out * 1 < 2 ^ 63) (place : at ≤ u64_max)
    (room : RoomFor write out at (name_columns text header)) where
  abbrev test : Bytes
  test = blank ∷ test_of text header

  abbrev spelling : Bytes
  spelling = blank ∷ path_of text header

  at_test : Going write out out at at (name_columns text header) (name_columns text header)
  at_test = going_start room few place

  module _ {out₁ : Bytes} {r₁ : ℕ} (ε₁ : Emitted write out out₁ at test r₁) where
    at_path : Going write out out₁ at r₁ (name_columns text header) (spelling ++ (newline ∷ []))
    at_path = going_next at_test test (spelling ++ (newline ∷ [])) refl ε₁

    module _ {out₂ : Bytes} {r₂ : ℕ} (ε₂ : Emitted write out₁ out₂ r₁ spelling r₂) where
      at_newline : Going write out out₂ at r₂ (name_columns text header) (newline ∷ [])
      at_newline = going_next at_path spelling (newline ∷ []) refl ε₂

      pub names-emitted : {out₃ : Bytes} {r₃ : ℕ} → Emitted write out₂ out₃ r₂ (newline ∷ []) r₃ → Emitted write out out₃ at (name_columns text header) r₃
      names-emitted ε₃ = going_done (going_next at_newline (newline ∷ []) [] refl ε₃) refl

-- ---- the section at a position

line-parts : (c test spelling rest : Bytes)
    → ((c ++ (blank ∷ test) ++ (blank ∷ spelling)) ++ (newline ∷ [])) ++ rest ≡ c ++ (((blank ∷ test) ++ ((blank ∷ spelling) ++ (newline ∷ []))) ++ rest)
line-parts c test spelling rest = parts (blank ∷ test) (blank ∷ spelling) (newline ∷ [])
  where
    parts : (t p e : Bytes) → ((c ++ t ++ p) ++ e) ++ rest ≡ c ++ ((t ++ (p ++ e)) ++ rest)
    parts t p e = simp append_assoc

-- the section at position lo is to be printed, with room for it and all behind it
pub record Here (write : Bool) (text ws out : List ℕ) (index n lo at : ℕ) (header : Row) (r : KindRanges) (t : Totals) : Type 0 where
  pub table : Table text ws index n n
  pub few : n ≤ max_entries
  pub more : lo < n
  pub kind : kind_of (row ws index lo) ≡ 0
  pub is : header ≡ row ws index lo
  pub runs : AreKindRanges ws index n (lo + 1) r
  pub counted : SectionCounted text ws index (lo + 1) r t
  pub room : RoomFor write out at (lines_from text ws index n lo)
  pub small : length out * 1 < 2 ^ 63
  pub place : at ≤ u64_max

-- the rows of a table are numbered
pub table-numbered : {text ws : List ℕ} {index n : ℕ} → Table text ws index n n → Numbered ws index n
table-numbered {text} {ws} {index} {n} τ =
    let ν = (index-printable τ 0 n (omega arith) (omega arith)).numbered in
    let z : index + 0 ≡ index = omega arith in
    let m : n - 0 ≡ n = omega arith in
    rw (z, m) at ν

module _ {write : Bool} {text ws out : List ℕ} {index n lo at : ℕ} {header : Row} {r : KindRanges} {t : Totals} (η : Here write text ws out index n lo at header r t) where
  abbrev section : Section
  section = section_at η.table η.kind η.more η.runs.functions η.runs.branches η.runs.lines

  counted_is : t ≡ totals_of section.items
  counted_is =
      section-totals η.runs η.counted section.items
      (items-functions η.table η.kind η.more η.runs.functions η.runs.branches η.runs.lines)
      (items-branches η.table η.kind η.more η.runs.functions η.runs.branches η.runs.lines)
      (items-lines η.table η.kind η.more η.runs.functions η.runs.branches η.runs.lines)

  split : sections (entries_from text ws index n lo) ≡ section ∷ sections (entries_from text ws index n r.lines)
  split = sections_at η.table η.kind η.more η.runs.functions η.runs.branches η.runs.lines

  abbrev rest : Bytes
  rest = lines_from text ws index n r.lines

  all : lines_from text ws index n lo ≡ columns t ++ (name_columns text header ++ rest)
  unfolding concat_map section_line
  all =
      ap (concat_map (λ s. section_line s ++ newline ∷ [])) split
      ∙ line-parts (columns (totals_of section.items)) (test_of text (row ws index lo)) (path_of text (row ws index lo)) rest
      ∙ ap₂ (λ (u : Totals) (h : Row). columns u ++ (name_columns text h ++ rest)) (sym counted_is) (sym η.is)

  pub summed : totals_from text ws index n lo ≡ add_totals t (totals_from text ws index n r.lines)
  unfolding last_totals section_totals sum_totals
  summed = ap (λ (l : List Section). sum_totals (map (λ s. totals_of s.items) l)) split ∙ ap (λ (u : Totals). add_totals u (totals_from text ws index n r.lines)) (sym counted_is)

  pub counted-small : AtMost max_entries t
  counted-small = totals_wider (omega (arith, η.few, η.runs.lines.most)) (section-most η.runs η.counted)

  at_columns : Going write out out at at (lines_from text ws index n lo) (lines_from text ws index n lo)
  at_columns = going_start η.room η.small η.place

  pub columns-room : RoomFor write out at (columns t)
  columns-room = going_room at_columns (columns t) (name_columns text header ++ rest) all

  module _ {out₁ : Bytes} {a : ℕ} (ε : Emitted write out out₁ at (columns t) a) where
    at_names : Going write out out₁ at a (lines_from text ws index n lo) (name_columns text header ++ rest)
    at_names = going_next at_columns (columns t) (name_columns text header ++ rest) all ε

    pub names-room : RoomFor write out₁ a (name_columns text header)
    names-room = going_room at_names (name_columns text header) rest refl

    pub line_done : {out₂ : Bytes} {b : ℕ} → Emitted write out₁ out₂ a (name_columns text header) b
        → LinePrinted write text ws out out₂ index n lo at (record { next = r.lines; at = b; totals = t })
    line_done ε₂ =
        let γ = going_next at_names (name_columns text header) rest refl ε₂ in
        record {
          line = γ.done;
          first = γ.is;
          emitted = γ.emitted;
          sums = summed;
          small = totals_wider (omega (arith, η.runs.functions.least, η.runs.branches.least, η.runs.lines.least)) (section-most η.runs η.counted);
          more = omega (arith, η.runs.functions.least, η.runs.branches.least, η.runs.lines.least);
          most = η.runs.lines.most;
          header = next-header η.table (omega arith) η.runs.functions η.runs.branches η.runs.lines;
        }

-- ---- the loop

-- the last line
abbrev last_line : Bytes → List ℕ → ℕ → ℕ → Bytes
last_line text ws index n = columns (totals_from text ws index n 0) ++ newline ∷ []

-- the page from a position on
abbrev page_from : Bytes → List ℕ → ℕ → ℕ → ℕ → Bytes
page_from text ws index n lo = lines_from text ws index n lo ++ last_line text ws index n

page-is : (text ws : List ℕ) (index n : ℕ) → page_from text ws index n 0 ≡ page_at text ws index n
unfolding page
page-is text ws index n = ap page (entries-all text ws index n)

-- the lines before position lo are printed, and their numbers summed
pub record Counting (write : Bool) (text ws out₀ out : List ℕ) (index n lo at : ℕ) (sums : Totals) : Type 0 where
  pub going : Going write out₀ out 0 at (page_from text ws index n 0) (page_from text ws index n lo)
  pub summed : add_totals sums (totals_from text ws index n lo) ≡ totals_from text ws index n 0
  pub small : AtMost lo sums
  pub most : lo ≤ n
  pub header : lo < n → kind_of (row ws index lo) ≡ 0
  pub size : length out ≡ length out₀

pub counting_start : {write : Bool} {text ws out : List ℕ} {index n : ℕ} → Table text ws index n n → RoomFor write out 0 (page_at text ws index n) → length out * 1 < 2 ^ 63
    → Counting write text ws out out index n 0 0 no_totals
counting_start {write} {text} {ws} {out} {index} {n} τ h few = record {
  going = going_start (room_as write out 0 _ _ (page-is text ws index n) h) few (omega arith);
  summed = none-totals (totals_from text ws index n 0);
  small = none-most;
  most = omega arith;
  header = first-header τ;
  size = refl;
}

module _ {write : Bool} {text ws out₀ out : List ℕ} {index n lo at : ℕ} {sums : Totals} (κ : Counting write text ws out₀ out index n lo at sums) where
  pub lines-room : RoomFor write out at (lines_from text ws index n lo)
  lines-room = going_room κ.going (lines_from text ws index n lo) (last_line text ws index n) refl

  pub counting_next : {out' : Bytes} {r : Line} {next : Totals} → LinePrinted write text ws out out' index n lo at r → length out' ≡ length out → next ≡ add_totals sums r.totals
      → Counting write text ws out₀ out' index n r.next r.at next
  counting_next {out'} {r} {next} λp e q = rw q (record {
    going = going_next κ.going λp.line (page_from text ws index n r.next)
        (ap (λ (l : Bytes). l ++ last_line text ws index n) λp.first ∙ append_assoc λp.line (lines_from text ws index n r.next) (last_line text ws index n))
        λp.emitted;
    summed = totals_assoc sums r.totals (totals_from text ws index n r.next) ∙ ap (add_totals sums) (sym λp.sums) ∙ κ.summed;
    small = totals_wider (omega (arith, λp.more)) (totals-most sums r.totals κ.small λp.small);
    most = λp.most;
    header = λp.header;
    size = e ∙ κ.size;
  })

  -- past the last section
  module _ (done : n ≤ lo) where
    sums-are : sums ≡ totals_from text ws index n 0
    unfolding last_totals section_totals sum_totals sections
    sums-are = sym (totals-none sums) ∙ ap (λ (report : Report). add_totals sums (last_totals report)) (sym (entries_none text ws index n lo done)) ∙ κ.summed

    left_is : page_from text ws index n lo ≡ columns sums ++ (newline ∷ [])
    unfolding sections concat_map
    left_is =
        ap (λ (report : Report). concat_map (λ s. section_line s ++ newline ∷ []) (sections report) ++ last_line text ws index n) (entries_none text ws index n lo done)
        ∙ ap (λ (t : Totals). columns t ++ newline ∷ []) (sym sums-are)

    pub last-small : n ≤ max_entries → AtMost max_entries sums
    last-small few = totals_wider (omega (arith, κ.most)) κ.small

    pub last-room : RoomFor write out at (columns sums)
    last-room = going_room κ.going (columns sums) (newline ∷ []) left_is

    module _ {out₁ : Bytes} {a : ℕ} (ε : Emitted write out out₁ at (columns sums) a) where
      at_end : Going write out₀ out₁ 0 a (page_from text ws index n 0) (newline ∷ [])
      at_end = going_next κ.going (columns sums) (newline ∷ []) left_is ε

      pub newline-room : RoomFor write out₁ a (newline ∷ [])
      newline-room = going_room at_end (newline ∷ []) [] refl

      pub page_done : {out₂ : Bytes} {b : ℕ} → Emitted write out₁ out₂ a (newline ∷ []) b → Emitted write out₀ out₂ 0 (page_at text ws index n) b
      page_done ε₂ = emitted_as write _ _ (page-is text ws index n) (going_done (going_next at_end (newline ∷ []) [] refl ε₂) refl)
