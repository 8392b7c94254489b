-- Words that are written only inside the slots. Assumes nothing.
use Rattle.std.proofs.Common.{◌≡◌, ℕ, ◌+◌, ◌<◌, ◌≤◌, List, ◌∙◌, arith}
use Rattle.table.specs.declared.Row.{Row}
use Rattle.table.specs.Rows.{UnchangedOutside}
use Rattle.table.specs.Store.{row}
use Rattle.table.proofs.StoreLaws.{behind-rows}
use Rattle.table_item.specs.Items.{ItemInBounds}
use Rattle.table_item.specs.SortedItems.{SortedItems}

pub kept_trans : {ws ws₁ ws₂ : List ℕ} {lo hi : ℕ} → UnchangedOutside ws ws₁ lo hi → UnchangedOutside ws₁ ws₂ lo hi → UnchangedOutside ws ws₂ lo hi
kept_trans κ κ₁ = record { below = λ j l. κ₁.below j l ∙ κ.below j l; above = λ j l. κ₁.above j l ∙ κ.above j l }

-- a row that is read while words behind the index are written is an item, as it was before
pub row-inner : {text ws ws' : List ℕ} {index used at n lo hi i : ℕ} {r : Row} → SortedItems text ws index used at n → UnchangedOutside ws ws' lo hi
    → index + used ≤ lo → i < n → r ≡ row ws' index (at + i) → ItemInBounds text r
row-inner {at = at} {i = i} ο κ h l e = rw (e ∙ behind-rows ο.store κ h (at + i) (omega arith) (omega (arith, ο.room))) (ο.inner i l).good
