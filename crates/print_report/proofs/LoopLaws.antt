-- The loop over a table's sections, and the answer. Assumes nothing.
use Prim.Native.Nat.{ℕ, ◌+◌, ◌*◌, ◌-◌, ◌^◌, ◌≤◌, ◌<◌}
use native.Mathlib.Omega.{arith}
use native.Mathlib.Nat.{zero-add}
use mathlib.Core.Path.{◌≡◌, refl, sym, ap, ◌∙◌}
use mathlib.Core.Bool.{Bool, true}
use mathlib.Core.List.{List, [], ◌++◌}
use lib.ListN.{length}
use Rattle.table.specs.Places.{tabulate}
use Rattle.table.specs.Store.{row}
use Rattle.table.proofs.TabulateLaws.{tabulate_cong}
use Rattle.model.specs.declared.Kind.{Kind}
use Rattle.model.specs.Bytes.{Bytes}
use Rattle.model.specs.Lists.{concat_map}
use Rattle.model.specs.Printing.{sections, print_records, print_sections, print_report}
use Rattle.table_item.specs.Items.{kind_of}
use Rattle.table_section.specs.Sections.{entry_at, entries_at}
use Rattle.print_rows.specs.Emit.{RoomFor, Emitted}
use Rattle.print_rows.proofs.EmitLaws.{room_as}
use Rattle.print_report.specs.declared.Printed.{Printed}
use Rattle.print_report.specs.Printing.{entries_from, printed_from, PrintableTable, UnchangedBefore, SectionPrinted, RequiredLength}
use Rattle.print_report.proofs.KindLaws.{first-header}
use Rattle.print_report.proofs.TableLaws.{spared-none, spared_both, row_kept, entries-kept}
use Rattle.print_report.proofs.GoingLaws.{Going, going_start, going_next, going_done, room-left}

-- ---- what is printed

-- `printed` says of words and a place what the entries from there on print: the same where only spare words are written to, and nothing past
-- the last entry
pub record Prints (printed : List ℕ → ℕ → Bytes) (ws : List ℕ) (n spare : ℕ) : Type 0 where
  pub same : (ws' : List ℕ) → UnchangedBefore ws ws' spare → (lo : ℕ) → printed ws' lo ≡ printed ws lo
  pub none : (lo : ℕ) → n ≤ lo → printed ws lo ≡ []

-- past the last entry there is none
pub entries_none : (text ws : List ℕ) (index n lo : ℕ) → n ≤ lo → entries_from text ws index n lo ≡ []
unfolding tabulate
entries_none text ws index n lo h = ap (tabulate (λ k. entry_at text ws index (lo + k))) (let e : n - lo ≡ 0 = omega arith in e)

module _ (tag : Kind → Bytes) {text ws : List ℕ} {index used n spare : ℕ} (π : PrintableTable text ws index used n spare) where
  pub report_prints : Prints (printed_from tag text index n) ws n spare
  unfolding print_report print_sections print_records sections concat_map
  report_prints = record {
    same = λ ws' σ lo. ap (print_report tag) (entries-kept π σ lo);
    none = λ lo h. ap (print_report tag) (entries_none text ws index n lo h);
  }

-- from the first place on, all entries
pub entries-all : (text ws : List ℕ) (index n : ℕ) → entries_from text ws index n 0 ≡ entries_at text ws index n
entries-all text ws index n =
    ap (tabulate (λ k. entry_at text ws index (0 + k))) (let e : n - 0 ≡ n = omega arith in e)
    ∙ tabulate_cong (λ k. entry_at text ws index (0 + k)) (entry_at text ws index) n (λ k h. ap (entry_at text ws index) (zero-add k))

-- ---- the loop

-- the sections before place lo are printed
pub record Looping (printed : List ℕ → ℕ → Bytes) (write : Bool) (ws₀ ws out₀ out : List ℕ) (index n spare lo at : ℕ) : Type 0 where
  pub spared : UnchangedBefore ws₀ ws spare
  pub going : Going write out₀ out 0 at (printed ws₀ 0) (printed ws₀ lo)
  pub most : lo ≤ n
  pub header : lo < n → kind_of (row ws₀ index lo) ≡ 0
  pub size : length out ≡ length out₀

pub loop_start : {printed : List ℕ → ℕ → Bytes} {write : Bool} {text ws out : List ℕ} {index used n spare : ℕ} → PrintableTable text ws index used n spare
    → RoomFor write out 0 (printed ws 0) → length out * 1 < 2 ^ 63 → Looping printed write ws ws out out index n spare 0 0
loop_start π h few = record {
  spared = spared-none;
  going = going_start h few (omega arith);
  most = omega arith;
  header = first-header π.table;
  size = refl;
}

module _ {printed : List ℕ → ℕ → Bytes} {write : Bool} {text ws₀ ws out₀ out : List ℕ} {index used n spare lo at : ℕ}
    (π : PrintableTable text ws₀ index used n spare) (δ : Prints printed ws₀ n spare) (Λ : Looping printed write ws₀ ws out₀ out index n spare lo at) where
  pub loop_header : lo < n → kind_of (row ws index lo) ≡ 0
  loop_header h = ap kind_of (row_kept π Λ.spared lo h) ∙ Λ.header h

  pub loop_room : RoomFor write out at (printed ws lo)
  loop_room = room_as write out at (printed ws lo) (printed ws₀ lo) (δ.same ws Λ.spared lo) (room-left Λ.going)

  pub loop_next : {ws' out' : List ℕ} {r : Printed} → SectionPrinted printed write ws ws' out out' index n lo spare at r → length out' ≡ length out
      → Looping printed write ws₀ ws' out₀ out' index n spare r.next r.at
  loop_next {ws'} {out'} {r} ς e = record {
    spared = spared_both Λ.spared ς.spared;
    going = going_next Λ.going ς.lines (printed ws₀ r.next)
        (sym (δ.same ws Λ.spared lo) ∙ ς.first ∙ ap (λ (t : Bytes). ς.lines ++ t) (δ.same ws Λ.spared r.next)) ς.emitted;
    most = ς.most;
    header = λ h. ap kind_of (sym (row_kept π Λ.spared r.next h)) ∙ ς.header h;
    size = e ∙ Λ.size;
  }

  pub loop_done : n ≤ lo → Emitted write out₀ out 0 (printed ws₀ 0) at
  loop_done h = going_done Λ.going (δ.none lo h)

-- ---- the answer

-- before the writing: only the words from `spare` on change, and `needed` is enough for all bytes
pub record Measured (printed : List ℕ → ℕ → Bytes) (bytes : Bytes) (ws ws₁ out out₁ : List ℕ) (n spare needed : ℕ) : Type 0 where
  pub prints : Prints printed ws n spare
  pub is : printed ws 0 ≡ bytes
  pub spared : UnchangedBefore ws ws₁ spare
  pub enough : RequiredLength out out₁ (printed ws 0) needed
  pub few : length out * 1 < 2 ^ 63

module _ {printed : List ℕ → ℕ → Bytes} {bytes : Bytes} {ws ws₁ out out₁ : List ℕ} {n spare needed : ℕ}
    (μ : Measured printed bytes ws ws₁ out out₁ n spare needed) where
  again : printed ws₁ 0 ≡ bytes
  again = μ.prints.same ws₁ μ.spared 0 ∙ μ.is

  pub enough_bytes : RequiredLength out out₁ bytes needed
  enough_bytes = rw μ.is at μ.enough

  pub room_again : RoomFor true out₁ 0 bytes → RoomFor true out₁ 0 (printed ws₁ 0)
  room_again h = room_as true out₁ 0 (printed ws₁ 0) bytes again h

  pub emitted_again : {out₂ : Bytes} {len : ℕ} → Emitted true out₁ out₂ 0 (printed ws₁ 0) len → Emitted true out₁ out₂ 0 bytes len
  emitted_again ε = rw again at ε

-- what the length of a report promises
pub report_measured : (tag : Kind → Bytes) {text ws ws₁ out out₁ : List ℕ} {index used n spare needed : ℕ} → PrintableTable text ws index used n spare
    → UnchangedBefore ws ws₁ spare → RequiredLength out out₁ (printed_from tag text index n ws 0) needed → length out * 1 < 2 ^ 63
    → Measured (printed_from tag text index n) (print_report tag (entries_at text ws index n)) ws ws₁ out out₁ n spare needed
report_measured tag {text} {ws} {index = index} {n = n} π spared enough few = record {
  prints = report_prints tag π;
  is = ap (print_report tag) (entries-all text ws index n);
  spared = spared;
  enough = enough;
  few = few;
}
