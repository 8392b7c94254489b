-- Rows compared as items: by kind, and within a kind by name or numbers. Assumes nothing.
use mathlib.Core.Path.{◌≡◌, refl, sym, ap, ap₂, ◌∙◌}
use mathlib.Core.Logic.{◌≢◌}
use mathlib.Core.List.{List, [], ◌∷◌}
use mathlib.Core.Option.{Option}
use Prim.Native.Nat.{ℕ, zero, suc, ◌≤◌, ◌<◌, compare, Ordering}
use native.Mathlib.Omega.{arith}
use Rattle.table.specs.declared.Row.{Row}
use Rattle.ordmap.specs.Compare.{lex}
use lib.Dec.{ltb}
use borrow.Author.Tests.{lt-ltb, le-ltb}
use Rattle.ordmap.proofs.Orderings.{said, Says, says}
use Rattle.model.specs.Order.{is_less}
use Rattle.model.specs.Bytes.{Bytes, compare_bytes}
use Rattle.model.proofs.KeyOrder.{bytes-order}
use Rattle.model.specs.Report.{Function, section_item, function_item, branch_item, line_item, item_key, compare_items}
use Rattle.table_item.specs.Items.{part, kind_of, function_kind, branch_kind, line_kind, by_kind, item_of, ItemInBounds, ItemRow}

-- a row that the store handed out
pub inner_as : {text : Bytes} {r q : Row} → r ≡ q → ItemRow text q → ItemRow text r
inner_as e ι = rw e ι

-- a part compared with itself
pub same-part : (text : Bytes) (a n b m : ℕ) → a ≡ b → n ≡ m → Ordering.eq ≡ compare_bytes (part text a n) (part text b m)
same-part text a n b m e f = rw (e, f) (sym (bytes-order.same (part text b m)))

lex-equal : (o : Ordering) → lex o Ordering.eq ≡ o
lex-equal Ordering.lt = refl
lex-equal Ordering.eq = refl
lex-equal Ordering.gt = refl

less-is : (a b : ℕ) → ltb a b ≡ is_less (compare a b)
less-is a b = go (compare a b) (says a b)
  where
    go : (o : Ordering) → Says o a b → ltb a b ≡ is_less o
    go Ordering.lt h = lt-ltb a b h
    go Ordering.eq h = le-ltb a b (omega arith)
    go Ordering.gt h = le-ltb a b (omega arith)

-- ---- keys

-- the key after the kind
abbrev rest_of : ℕ → Bytes → Row → List ℕ
rest_of kind text r = by_kind kind [] (part text r.k1 r.k2) (r.k1 ∷ r.k2 ∷ r.k3 ∷ []) (r.k1 ∷ [])

key-by : (kind : ℕ) (p : Bytes) (f : Function) (l b h : ℕ) (t : Option ℕ) (x y : ℕ) (z : Option Bytes) → kind ≤ line_kind
    → item_key (by_kind kind (section_item p) (function_item f) (branch_item l b h t) (line_item x y z)) ≡ kind ∷ by_kind kind [] f.name (l ∷ b ∷ h ∷ []) (x ∷ [])
unfolding item_key
key-by zero p f l b h t x y z i = refl
key-by (suc zero) p f l b h t x y z i = refl
key-by (suc (suc zero)) p f l b h t x y z i = refl
key-by (suc (suc (suc zero))) p f l b h t x y z i = refl
key-by (suc (suc (suc (suc kind)))) p f l b h t x y z i = absurd (omega arith)

pub key_of : (text : Bytes) (r : Row) → kind_of r ≤ line_kind → item_key (item_of text r) ≡ kind_of r ∷ rest_of (kind_of r) text r
unfolding item_of
key_of text r h = key-by (kind_of r) _ _ _ _ _ _ _ _ _ h

-- ---- one law for each way out

-- of rows of two texts, which may be one
module _ (text other : Bytes) (x y : Row) (gx : ItemInBounds text x) (gy : ItemInBounds other y) where
  abbrev compared : Ordering
  compared = compare_items (item_of text x) (item_of other y)

  by_kinds : (o : Ordering) → compare (kind_of x) (kind_of y) ≡ o → compared ≡ lex o (compare_bytes (rest_of (kind_of x) text x) (rest_of (kind_of y) other y))
  unfolding compare_items compare_bytes
  by_kinds o e =
      ap₂ compare_bytes (key_of text x gx.kind) (key_of other y gy.kind)
      ∙ ap (λ (p : Ordering). lex p (compare_bytes (rest_of (kind_of x) text x) (rest_of (kind_of y) other y))) e

  pub kinds_less : kind_of x < kind_of y → Ordering.lt ≡ compared
  kinds_less h = sym (by_kinds Ordering.lt (said Ordering.lt (kind_of x) (kind_of y) h))

  pub kinds_greater : kind_of y < kind_of x → Ordering.gt ≡ compared
  kinds_greater h = sym (by_kinds Ordering.gt (said Ordering.gt (kind_of x) (kind_of y) h))

  module _ (h : kind_of y ≤ kind_of x) (l : kind_of x ≤ kind_of y) where
    one-kind : (kind : ℕ) → kind_of x ≡ kind → compared ≡ compare_bytes (rest_of kind text x) (rest_of kind other y)
    one-kind kind e =
        let f : kind_of y ≡ kind = omega arith in
        by_kinds Ordering.eq (said Ordering.eq (kind_of x) (kind_of y) (omega arith))
        ∙ ap₂ (λ (i j : ℕ). compare_bytes (rest_of i text x) (rest_of j other y)) e f

    pub functions : kind_of x ≡ function_kind → (o : Ordering) → o ≡ compare_bytes (part text x.k1 x.k2) (part other y.k1 y.k2) → o ≡ compared
    functions e o q = q ∙ sym (one-kind function_kind e)

    pub branches : kind_of x ≡ branch_kind → (o : Ordering) → o ≡ lex (compare x.k1 y.k1) (lex (compare x.k2 y.k2) (compare x.k3 y.k3)) → o ≡ compared
    unfolding compare_bytes
    branches e o q =
        q ∙ sym (one-kind branch_kind e ∙ ap (λ (p : Ordering). lex (compare x.k1 y.k1) (lex (compare x.k2 y.k2) p)) (lex-equal (compare x.k3 y.k3)))

    pub lines : kind_of x ≡ line_kind → (o : Ordering) → o ≡ compare x.k1 y.k1 → o ≡ compared
    unfolding compare_bytes
    lines e o q = q ∙ sym (one-kind line_kind e ∙ lex-equal (compare x.k1 y.k1))

    pub sections : kind_of x ≢ function_kind → kind_of x ≢ branch_kind → kind_of x ≢ line_kind → Ordering.eq ≡ compared
    unfolding compare_bytes
    sections a b c = sym (one-kind 0 (omega (arith, gx.kind)))

  pub lines-before : kind_of x ≡ line_kind → kind_of y ≡ line_kind → ltb x.k1 y.k1 ≡ is_less compared
  lines-before e f = less-is x.k1 y.k1 ∙ ap is_less (lines (omega arith) (omega arith) e (compare x.k1 y.k1) refl)

  pub branches-before : kind_of x ≡ branch_kind → kind_of y ≡ branch_kind
      → is_less (lex (compare x.k1 y.k1) (lex (compare x.k2 y.k2) (compare x.k3 y.k3))) ≡ is_less compared
  branches-before e f = ap is_less (branches (omega arith) (omega arith) e (lex (compare x.k1 y.k1) (lex (compare x.k2 y.k2) (compare x.k3 y.k3))) refl)
