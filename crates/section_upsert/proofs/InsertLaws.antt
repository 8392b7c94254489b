-- What `combine_at` and `insert_delta` do to the words. Assumes nothing.
use mathlib.Core.Path.{◌≡◌, ◌∙◌}
use mathlib.Core.Bool.{Bool}
use mathlib.Core.List.{List}
use Prim.Native.Nat.{ℕ, suc, ◌+◌, ◌-◌, ◌≤◌, ◌<◌}
use native.Mathlib.Omega.{arith}
use lib.ListN.{length, set, length-set}
use lib.Seq.{get_or-set_same, get_or-set_other}
use Rattle.table.specs.declared.Row.{Row}
use Rattle.table.specs.Places.{Updated, RowsMoved}
use Rattle.table.specs.Rows.{word, UnchangedOutside, Moved}
use Rattle.table.specs.Store.{row, Store}
use Rattle.table.proofs.StoreLaws.{behind-store, behind-rows}
use Rattle.std.specs.Prelude.{Option as LentOption}
use Rattle.section_upsert.specs.MainDelta.{DeltaInserted}
use Rattle.section_upsert.specs.Upserted.{RowCombined}

-- the answer as a match has it
pub replacing_as : {ws ws' : List ℕ} {index used i : ℕ} {r : Row} {adds : Bool} {a b : LentOption Row} → a ≡ b → RowCombined ws ws' index used i r adds a
    → RowCombined ws ws' index used i r adds b
replacing_as e χ = rw e at χ

-- the row is put behind the delta and moved to its position; the insert positions behind it are shifted up by one, and
-- its own is written
module _ {ws ws₁ ws₂ ws₃ : List ℕ} (index used spare from p k i : ℕ) (r : Row) (k≤p : k ≤ p) (free : from + p < used) (b : index + used ≤ spare) (room : spare + used ≤ length ws₃)
    (π : Updated (row ws index) (row ws₁ index) used (from + p) r) (κ₁ : UnchangedOutside ws ws₁ 0 (index + used)) (σ : Store ws₂ index used)
    (β : RowsMoved (row ws₁ index) (row ws₂ index) used (from + k) (from + p) 1) (κ₂ : UnchangedOutside ws₁ ws₂ 0 (index + used))
    (μ : Moved ws₂ ws₃ (spare + k) (spare + k + 1) (p - k)) (len : length ws₃ ≡ length ws₂) where
  abbrev ws₄ : List ℕ
  ws₄ = set ws₃ (spare + k) i

  written : UnchangedOutside ws₂ ws₄ spare (spare + p + 1)
  written = record {
    below = λ j l. get_or-set_other ws₃ (spare + k) j i 0 (omega arith) ∙ μ.kept.below j (omega arith);
    above = λ j l. get_or-set_other ws₃ (spare + k) j i 0 (omega arith) ∙ μ.kept.above j (omega arith);
  }

  same : (m : ℕ) → m < used → row ws₄ index m ≡ row ws₂ index m
  same m l = behind-rows σ written b m (omega arith) l

  older : (j : ℕ) → word ws₂ (spare + j) ≡ word ws (spare + j)
  older j = κ₂.above (spare + j) (omega arith) ∙ κ₁.above (spare + j) (omega arith)

  pub inserted : DeltaInserted ws (set ws₃ (spare + k) i) index used spare from p k i r
  inserted = record {
    store = behind-store σ written b (simp length-set len);
    rows = record {
      below = λ j l. same (from + j) (omega arith) ∙ β.below (from + j) (omega arith) (omega arith) ∙ π.others (from + j) (omega arith) (omega arith);
      here = same (from + k) (omega arith) ∙ β.there (from + k) (from + p) (omega arith) (omega arith) (omega arith) ∙ π.there;
      up = λ j l m. same (from + suc j) (omega arith) ∙ β.up (from + suc j) (from + j) (omega arith) (omega arith) (omega arith) ∙ π.others (from + j) (omega arith) (omega arith);
    };
    places = record {
      below = λ j l. get_or-set_other ws₃ (spare + k) (spare + j) i 0 (omega arith) ∙ μ.kept.below (spare + j) (omega arith) ∙ older j;
      here = get_or-set_same ws₃ (spare + k) i 0 (omega arith);
      up = λ j l m. get_or-set_other ws₃ (spare + k) (spare + suc j) i 0 (omega arith) ∙ μ.shifted (spare + suc j) (spare + j) (omega arith) (omega arith) (omega arith) ∙ older j;
    };
    others = λ m l h. same m (omega arith) ∙ β.below m l (omega arith) ∙ π.others m (omega arith) (omega arith);
    behind = λ m l h. same m h ∙ β.above m (omega arith) h ∙ π.others m h (omega arith);
  }
