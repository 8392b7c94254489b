-- Parts of a line as parts of the text, and the rows of its items. Assumes nothing.
use Rattle.std.specs.Prelude.{Option as LentOption, Some, None}
use Prim.Native.Nat.{ℕ, zero, suc, ◌+◌, ◌%◌, ◌≤◌}
use mathlib.Core.Path.{◌≡◌, refl, sym, ap, ◌∙◌}
use mathlib.Core.Bool.{Bool, true, false, cond}
use mathlib.Core.List.{List, [], ◌∷◌}
use mathlib.Core.Option.{Option, none, some}
use native.Mathlib.Omega.{arith}
use borrow.Author.Tests.{leb-true}
use denote.Enum.Declared.{tag_of}
use types.Run.{OneOf, miss}
use lib.Dec.{leb}
use lib.ListN.{length, take, drop, length-take}
use lib.Seq.{take-take, drop-drop}
use Rattle.ordmap.proofs.Results.{accepted_inj, not_accepted, impossible}
use Rattle.table.specs.declared.Row.{Row}
use Rattle.model.specs.declared.Fault.TheVariants.{PartOutside}
use Rattle.model.specs.declared.Part.{Part}
use Rattle.model.specs.declared.Record.{Record as LentRecord}
use Rattle.model.specs.declared.Record.TheVariants as Lent
use Rattle.model.specs.contracts.Record.{the_type}
use Rattle.model.specs.Bytes.{Bytes}
use Rattle.model.specs.Answer.{Answer, accepted, refuse}
use Rattle.model.specs.Report.{extent_at, Function, function_of, section_item, function_item, branch_item, line_item}
use Rattle.model.specs.Parts.{part_of, given_in}
use Rattle.table_item.specs.Items.{part, if_given, function_in, part_in, PartInside, checksum_part, ChecksumInside, by_kind, kind_of, function_kind, item_of, Makes}
use Rattle.report_parser.specs.Effect.{no_part, text_part, PartWithin, ChecksumWithin, TextsWithin, moved_part, moved_checksum, AddsItem, RowOf}

-- ---- parts

part-take : (m n len : ℕ) (bytes : Bytes) → m + n ≤ len → take n (drop m (take len bytes)) ≡ take n (drop m bytes)
part-take zero n len bytes h = take-take n len bytes (omega arith)
part-take (suc m) n zero bytes h = absurd (omega arith)
part-take (suc m) n (suc len) [] h = refl
part-take (suc m) n (suc len) (x ∷ xs) h = part-take m n len xs (omega arith)

-- a part that lies in the first len bytes
pub part-read : (len : ℕ) (bytes : Bytes) (p : Part) {b : Bytes} → part_of (take len bytes) p ≡ accepted b → PartWithin len p × (part_in bytes p ≡ b)
unfolding part_of
part-read len bytes p {b} e = go (leb (p.start + p.len) (length (take len bytes))) refl e
  where
    go : (t : Bool) → leb (p.start + p.len) (length (take len bytes)) ≡ t
        → ◌≡◌ {A = Answer Bytes} (cond t (accepted (take p.len (drop p.start (take len bytes)))) (refuse PartOutside)) (accepted b)
        → PartWithin len p × (part_in bytes p ≡ b)
    go true f q =
        let w : PartWithin len p = omega (arith, leb-true (p.start + p.len) (length (take len bytes)) f, length-take len bytes) in
        (w, sym (part-take p.start p.len len bytes w) ∙ accepted_inj q)
    go false f q = absurd (not_accepted q)

pub moved-is : (text : Bytes) (at : ℕ) (p : Part) → part_in text (moved_part at p) ≡ part_in (drop at text) p
moved-is text at p = ap (λ (b : Bytes). take p.len b) (sym (drop-drop p.start at text))

-- ---- checksums

pub given-within : {len : ℕ} {checksum : LentOption Part} (p : Part) → checksum ≡ Some p → ChecksumWithin len checksum → PartWithin len p
given-within p e w = rw e at w

pub given-moved : (at : ℕ) {checksum : LentOption Part} {q : Part} (p : Part) → checksum ≡ Some p → q ≡ moved_part at p → Some q ≡ moved_checksum at checksum
given-moved at p e f = rw (e, f)

checksum-is : (text : Bytes) (at : ℕ) (checksum : LentOption Part) → checksum_part text (moved_checksum at checksum) ≡ checksum_part (drop at text) checksum
checksum-is text at (Some p) = ap (λ (b : Bytes). some b) (moved-is text at p)
checksum-is text at None = refl

checksum-inside : (text : Bytes) (at len : ℕ) (checksum : LentOption Part) → at + len ≤ length text → ChecksumWithin len checksum → ChecksumInside text (moved_checksum at checksum)
checksum-inside text at len (Some p) h w = omega arith
checksum-inside text at len None h w = tt

-- ---- rows

abbrev textless : List ℕ
textless = 4 ∷ 5 ∷ 6 ∷ 7 ∷ 8 ∷ 9 ∷ 10 ∷ 11 ∷ 12 ∷ []

-- the record as a match has it
pub text_as : (lent found : LentRecord) (p : Part) → lent ≡ found → p ≡ text_part found → p ≡ text_part lent
text_as lent found p e h = rw e h

-- a record of another kind has no text
pub no_text : (lent : LentRecord) → OneOf textless (tag_of the_type lent) → no_part ≡ text_part lent
no_text (Lent.TestName p) h = absurd (miss textless 0 tt h)
no_text (Lent.SourceFile p) h = absurd (miss textless 1 tt h)
no_text (Lent.FunctionName start end p) h = absurd (miss textless 2 tt h)
no_text (Lent.FunctionData count p) h = absurd (miss textless 3 tt h)
no_text (Lent.FunctionsFound found) h = refl
no_text (Lent.FunctionsHit hit) h = refl
no_text (Lent.BranchData line block branch taken) h = refl
no_text (Lent.BranchesFound found) h = refl
no_text (Lent.BranchesHit hit) h = refl
no_text (Lent.LineData line count checksum) h = refl
no_text (Lent.LinesFound found) h = refl
no_text (Lent.LinesHit hit) h = refl
no_text Lent.EndOfRecord h = refl

function-row : (text : Bytes) (r : Row) (f : Function) → item_of text r ≡ function_item f → kind_of r ≡ function_kind
unfolding item_of
function-row text r f e = go (kind_of r) e
  where
    go : (kind : ℕ)
        → by_kind kind
        (section_item (part text r.path r.path_len))
        (function_item (function_in text r))
        (branch_item r.k1 r.k2 r.k3 (if_given (r.tag % 2) r.count))
        (line_item r.k1 r.count (if_given (r.tag % 2) (part text r.k2 r.k3)))
        ≡ function_item f → kind ≡ function_kind
    go zero q = impossible cc
    go (suc zero) q = refl
    go (suc (suc zero)) q = impossible cc
    go (suc (suc (suc k))) q = impossible cc

-- the record as a match has it
pub within_as : {len : ℕ} {lent found : LentRecord} → lent ≡ found → TextsWithin len lent → TextsWithin len found
within_as e w = rw e at w

pub row_as : {at len : ℕ} {lent found : LentRecord} {r : Row} → lent ≡ found → RowOf at len found r → RowOf at len lent r
row_as e ω = rw e ω

module _ {at len : ℕ} {r : Row} where
  pub start_of : {start : ℕ} {end : LentOption ℕ} {p q : Part} → q ≡ moved_part at p → TextsWithin len (Lent.FunctionName start end p)
      → Makes r (λ text. function_item (function_of (part_in text q) (some (extent_at start (given_in end))) 0)) (λ text. PartInside text q) → RowOf at len (Lent.FunctionName start end p) r
  start_of {start} {end} {p} f w μ = record {
    is = λ text. μ.is text ∙ rw f (ap (λ (b : Bytes). function_item (function_of b (some (extent_at start (given_in end))) 0)) (moved-is text at p));
    inner = λ text h. μ.inner text (rw f (omega (arith, w.text)));
    adds = λ k. absurd (omega arith);
  }

  pub calls_of_lem : {count : ℕ} {p q : Part} → q ≡ moved_part at p → TextsWithin len (Lent.FunctionData count p)
      → Makes r (λ text. function_item (function_of (part_in text q) none count)) (λ text. PartInside text q) → RowOf at len (Lent.FunctionData count p) r
  calls_of_lem {count} {p} {q} f w μ = record {
    is = λ text. μ.is text ∙ rw f (ap (λ (b : Bytes). function_item (function_of b none count)) (moved-is text at p));
    inner = λ text h. μ.inner text (rw f (omega (arith, w.text)));
    adds = λ k. function-row [] r (function_of (part_in [] q) none count) (μ.is []);
  }

  pub branch_of : {line block branch : ℕ} {taken : LentOption ℕ} → Makes r (λ text. branch_item line block branch (given_in taken)) (λ text. Unit {0})
      → RowOf at len (Lent.BranchData line block branch taken) r
  branch_of μ = record { is = μ.is; inner = λ text h. μ.inner text tt; adds = λ k. absurd (omega arith) }

  pub line_of : {line count : ℕ} {checksum given : LentOption Part} → given ≡ moved_checksum at checksum → TextsWithin len (Lent.LineData line count checksum)
      → Makes r (λ text. line_item line count (checksum_part text given)) (λ text. ChecksumInside text given) → RowOf at len (Lent.LineData line count checksum) r
  line_of {line} {count} {checksum} f w μ = record {
    is = λ text. μ.is text ∙ rw f (ap (λ (c : Option Bytes). line_item line count c) (checksum-is text at checksum));
    inner = λ text h. μ.inner text (rw f (checksum-inside text at len checksum h w.checksum));
    adds = λ k. absurd (omega arith);
  }

abbrev itemless : List ℕ
itemless = 0 ∷ 1 ∷ 4 ∷ 5 ∷ 7 ∷ 8 ∷ 10 ∷ 11 ∷ 12 ∷ []

-- a record of another kind adds none
no_item : (lent : LentRecord) → OneOf itemless (tag_of the_type lent) → AddsItem lent → ⊥
no_item (Lent.TestName p) h a = a
no_item (Lent.SourceFile p) h a = a
no_item (Lent.FunctionName start end p) h a = absurd (miss itemless 2 tt h)
no_item (Lent.FunctionData count p) h a = absurd (miss itemless 3 tt h)
no_item (Lent.FunctionsFound found) h a = a
no_item (Lent.FunctionsHit hit) h a = a
no_item (Lent.BranchData line block branch taken) h a = absurd (miss itemless 6 tt h)
no_item (Lent.BranchesFound found) h a = a
no_item (Lent.BranchesHit hit) h a = a
no_item (Lent.LineData line count checksum) h a = absurd (miss itemless 9 tt h)
no_item (Lent.LinesFound found) h a = a
no_item (Lent.LinesHit hit) h a = a
no_item Lent.EndOfRecord h a = a

pub other_of : {at len : ℕ} {r : Row} (lent : LentRecord) → OneOf itemless (tag_of the_type lent) → AddsItem lent → RowOf at len lent r
other_of lent h a = absurd (no_item lent h a)
