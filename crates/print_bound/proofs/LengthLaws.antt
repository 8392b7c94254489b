-- How long numbers and the lines of records are. Assumes nothing.
use Prim.Native.Nat.{ℕ, zero, suc, ◌+◌, ◌/◌, ◌^◌, ◌≤◌, ◌<◌}
use native.Mathlib.Omega.{arith}
use native.Mathlib.Nat.{pow-suc, div-lt_iff_lt-mul}
use mathlib.Core.Path.{◌≡◌, refl}
use mathlib.Core.Bool.{Bool, true, false}
use mathlib.Core.List.{[], ◌∷◌}
use lib.Dec.{ltb, lit≤}
use lib.ListN.{length, length-append}
use borrow.Author.Tests.{ltb-true, ltb-false}
use Rattle.model.specs.declared.Kind.{Kind}
use Rattle.model.specs.declared.Kind.TheVariants as Kd
use Rattle.model.specs.Bytes.{Bytes, joined}
use Rattle.model.specs.Limits.{max_entries}
use Rattle.model.specs.Line.{print_fields, print_record}
use Rattle.model.specs.Lists.{concat_map}
use Rattle.model.specs.Number.{decimal, decimal_digits}
use Rattle.model.specs.Record.{Record, test_name, source_file, functions_found, functions_hit, branches_found, branches_hit, lines_found, lines_hit, end_of_record}
use Rattle.model.specs.Report.{Item}
use Rattle.model.specs.Printing.{start_record, data_record, print_records}
use Rattle.model.proofs.NumberLaws.{decimal_digits-small, decimal_digits_large}
use Rattle.print_rows.proofs.PassLaws.{lines}
use Rattle.print_rows.proofs.LengthLaws.{start_len, start-length, data_len, data_length}
use Rattle.print_bound.specs.Bound.{item_lines}

-- ---- numbers

digits-below : (k n v : ℕ) → v < 10 ^ suc k → length (decimal_digits n v) ≤ suc k
unfolding decimal_digits
digits-below k zero v h = omega arith
digits-below zero (suc n) v h = rw (decimal_digits-small n v h) (omega arith)
digits-below (suc k) (suc n) v h = go (ltb v 10) refl (λ b. digits-below k n (v / 10) b)
  where
    go : (d : Bool) → ltb v 10 ≡ d → (v / 10 < 10 ^ suc k → length (decimal_digits n (v / 10)) ≤ suc k) → length (decimal_digits (suc n) v) ≤ suc (suc k)
    go true e rest = rw (decimal_digits-small n v (ltb-true v 10 e)) (omega arith)
    go false e rest =
        rw (decimal_digits_large n v (ltb-false v 10 e), length-append)
        (omega (arith, rest ((div-lt_iff_lt-mul (lit≤ tt)).1 (rw pow-suc at h))))

pub five_digits : (v : ℕ) → v < 100000 → length (decimal v) ≤ 5
unfolding decimal
five_digits v h = digits-below 4 20 v h

-- ---- records

-- a line that says how many has at most m bytes
abbrev pub Short : (tag : Kind → Bytes) → (ℕ → Record) → ℕ → Type 0
Short tag made m = (k : ℕ) → k ≤ max_entries → length (lines tag (made k ∷ [])) ≤ m

pub shorts : (tag : Kind → Bytes) → Short tag functions_found (7 + length (tag Kd.FunctionsFound)) × Short tag functions_hit (7 + length (tag Kd.FunctionsHit)) × Short tag branches_found (7 + length (tag Kd.BranchesFound)) × Short tag branches_hit (7 + length (tag Kd.BranchesHit)) × Short tag lines_found (7 + length (tag Kd.LinesFound)) × Short tag lines_hit (7 + length (tag Kd.LinesHit))
unfolding print_records concat_map print_record print_fields joined
shorts tag = (
  (λ k h. simp length-append (omega (arith, five_digits k (omega arith)))),
  (λ k h. simp length-append (omega (arith, five_digits k (omega arith)))),
  (λ k h. simp length-append (omega (arith, five_digits k (omega arith)))),
  (λ k h. simp length-append (omega (arith, five_digits k (omega arith)))),
  (λ k h. simp length-append (omega (arith, five_digits k (omega arith)))),
  (λ k h. simp length-append (omega (arith, five_digits k (omega arith)))),
)

pub head_length : (tag : Kind → Bytes) (test path : Bytes) → length (lines tag (test_name test ∷ source_file path ∷ [])) ≡ 4 + length (tag Kd.TestName) + length (tag Kd.SourceFile) + length test + length path
unfolding print_records concat_map print_record print_fields joined
head_length tag test path = simp length-append (omega arith)

pub end-length : (tag : Kind → Bytes) → length (lines tag (end_of_record ∷ [])) ≡ 1 + length (tag Kd.EndOfRecord)
unfolding print_records concat_map print_record
end-length tag = simp length-append (omega arith)

-- ---- items

pub item-length : (tag : Kind → Bytes) (i : Item) → length (item_lines tag i) ≡ start_len tag i + data_len tag i
unfolding item_lines
item-length tag i = omega (arith, length-append (lines tag (start_record i)) (lines tag (data_record i)), start-length tag i, data_length tag i)
