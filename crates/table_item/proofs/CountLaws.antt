-- What two rows of one key make. Assumes nothing.
use mathlib.Core.Path.{◌≡◌, refl, sym, ap, ap₂, ◌∙◌}
use mathlib.Core.Logic.{◌≢◌}
use mathlib.Core.Bool.{Bool, true, false, not}
use mathlib.Core.Option.{Option}
use Prim.Native.Nat.{ℕ, zero, suc, ◌+◌, ◌≤◌, ◌<◌}
use borrow.Author.Tests.{le-leb, lt-leb}
use Rattle.table.specs.declared.Row.{Row}
use Rattle.model.specs.declared.Fault.TheVariants.{CallOverflow}
use Rattle.model.specs.Limits.{u64_max}
use Rattle.model.specs.Bytes.{Bytes}
use Rattle.model.specs.Answer.{Answer, accepted, refuse, ◌>>=◌}
use Rattle.model.specs.Report.{Function, updated, Item, section_item, function_item, branch_item, line_item, count_of, sum}
use Rattle.model.specs.Reading.{add_calls}
use Rattle.table_item.specs.Items.{kind_of, function_kind, by_kind, function_in, item_of}
use Rattle.table_item.specs.Combining.{Adds, combine_of}

abbrev pub with_count : Row → ℕ → Row
with_count r n = record {
  test = r.test;
  test_len = r.test_len;
  path = r.path;
  path_len = r.path_len;
  tag = r.tag;
  k1 = r.k1;
  k2 = r.k2;
  k3 = r.k3;
  count = n;
}

pub function-item : (text : Bytes) (r : Row) → kind_of r ≡ function_kind
    → item_of text r ≡ function_item (function_in text r)
unfolding item_of
function-item text r e = rw e

-- what is no function is replaced
other_item : (kind : ℕ) → kind ≢ function_kind → (p : Bytes) (f : Function) (l b h : ℕ) (t : Option ℕ) (x y : ℕ) (z : Option Bytes) (later : Item)
    → accepted later ≡ add_calls (by_kind kind (section_item p) (function_item f) (branch_item l b h t) (line_item x y z)) later
unfolding add_calls
other_item zero e p f l b h t x y z later = refl
other_item (suc zero) e p f l b h t x y z later = absurd (e refl)
other_item (suc (suc zero)) e p f l b h t x y z later = refl
other_item (suc (suc (suc kind))) e p f l b h t x y z later = refl

-- ---- one law for each way out

module _ (text : Bytes) (old r : Row) where
  pub combined_replaced : (adds : Bool) → not adds ≡ true → accepted (item_of text r) ≡ combine_of adds (item_of text old) (item_of text r)
  combined_replaced true e = cc
  combined_replaced false e = refl

  pub combined_other : (adds : Bool) → kind_of old ≢ function_kind → accepted (item_of text r) ≡ combine_of adds (item_of text old) (item_of text r)
  unfolding item_of
  combined_other true e = other_item (kind_of old) e _ _ _ _ _ _ _ _ _ (item_of text r)
  combined_other false e = refl

  abbrev summed : Answer Item
  summed = sum CallOverflow old.count r.count >>= λ total. accepted (function_item (updated (function_in text old) (function_in text old).extent total))

  added : kind_of old ≡ function_kind → kind_of r ≡ function_kind → add_calls (item_of text old) (item_of text r) ≡ summed
  unfolding add_calls count_of
  added a b = ap₂ add_calls (function-item text old a) (function-item text r b)

  module _ (adds : Bool) (e : not adds ≡ false) (a : kind_of old ≡ function_kind) (b : Adds adds r) where
    both : combine_of adds (item_of text old) (item_of text r) ≡ summed
    both = go adds e b
      where
        go : (adds : Bool) → not adds ≡ false → Adds adds r → combine_of adds (item_of text old) (item_of text r) ≡ summed
        go true e b = added a b
        go false e b = cc

    pub combined_sum : old.count + r.count ≤ u64_max → accepted (item_of text (with_count old (old.count + r.count))) ≡ combine_of adds (item_of text old) (item_of text r)
    unfolding sum
    combined_sum h = ap (λ (i : Item). accepted i) (function-item text (with_count old (old.count + r.count)) a) ∙ sym (both ∙ rw (le-leb (old.count + r.count) u64_max h))

    pub combined_past : u64_max < old.count + r.count → refuse CallOverflow ≡ combine_of adds (item_of text old) (item_of text r)
    unfolding sum
    combined_past h = sym (both ∙ rw (lt-leb (old.count + r.count) u64_max h))
