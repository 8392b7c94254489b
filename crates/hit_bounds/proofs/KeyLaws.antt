-- The keys and counts of two rows of two texts. Assumes nothing.
use Prim.Native.Nat.{ℕ, zero, suc, ◌+◌, ◌%◌, compare, Ordering}
use native.Mathlib.Omega.{arith}
use mathlib.Core.Path.{◌≡◌, refl, sym, ap, ◌∙◌}
use mathlib.Core.Logic.{◌≢◌}
use mathlib.Core.Bool.{Bool, true, false, ◌&&◌}
use lib.Dec.{eqb, ltb, compare_is_eq}
use borrow.Author.Tests.{eq-eqb, ne_eqb, ltb-true, ltb-false, lt-ltb}
use Rattle.ordmap.specs.Compare.{lex}
use Rattle.std.specs.Prelude.{if◌then◌else◌}
use Rattle.model.specs.Bytes.{Bytes, compare_bytes}
use Rattle.model.specs.Path.{components, compare_paths}
use Rattle.model.specs.Report.{Item, item_key, compare_items, compare_sections, compare_keys, entry_key, count_of}
use Rattle.model.specs.Printing.{is_function, is_branch, is_line}
use Rattle.model_bounds.specs.declared.Hits.{Hits}
use Rattle.table.specs.declared.Row.{Row}
use Rattle.table_item.specs.Items.{part, kind_of, function_kind, branch_kind, line_kind, item_of, ItemInBounds}
use Rattle.table_item.proofs.CompareLaws as Items
use Rattle.table_section.specs.Sections.{entry_of, key_of, test_of, path_of}
use Rattle.hit_bounds.specs.Pairs.{same_branch, with_hit}

equal-lex : (o p : Ordering) → compare_is_eq (lex o p) ≡ (compare_is_eq o && compare_is_eq p)
equal-lex Ordering.lt p = refl
equal-lex Ordering.eq p = refl
equal-lex Ordering.gt p = refl

-- ---- sections

module _ (a b : Bytes) (x y : Row) (tests : Bool) (is : tests ≡ compare_is_eq (compare_bytes (test_of a x) (test_of b y))) where
  pub other_test : tests ≡ false → false ≡ compare_is_eq (compare_sections (key_of a x) (key_of b y))
  unfolding compare_sections
  other_test h =
      let differ : compare_is_eq (compare_bytes (test_of a x) (test_of b y)) ≡ false = sym is ∙ h in
      rw (equal-lex (compare_bytes (test_of a x) (test_of b y)) (compare_paths (components (path_of a x)) (components (path_of b y))), differ)

  pub same_test : tests ≡ true → (paths : Bool) → paths ≡ compare_is_eq (compare_paths (components (path_of a x)) (components (path_of b y)))
      → paths ≡ compare_is_eq (compare_sections (key_of a x) (key_of b y))
  unfolding compare_sections
  same_test h paths p =
      let same : compare_is_eq (compare_bytes (test_of a x) (test_of b y)) ≡ true = sym is ∙ h in
      rw (equal-lex (compare_bytes (test_of a x) (test_of b y)) (compare_paths (components (path_of a x)) (components (path_of b y))), same) p

-- ---- items

module _ (x y : Row) where
  pub other-line : x.k1 ≢ y.k1 → false ≡ same_branch x y
  other-line h = rw (ne_eqb x.k1 y.k1 h)

  pub other_block : x.k1 ≡ y.k1 → x.k2 ≢ y.k2 → false ≡ same_branch x y
  other_block e h = rw (eq-eqb x.k1 y.k1 e, ne_eqb x.k2 y.k2 h)

  pub last-number : x.k1 ≡ y.k1 → x.k2 ≡ y.k2 → eqb x.k3 y.k3 ≡ same_branch x y
  last-number e f = rw (eq-eqb x.k1 y.k1 e, eq-eqb x.k2 y.k2 f)

module _ (a b : Bytes) (x y : Row) (gx : ItemInBounds a x) (gy : ItemInBounds b y) where
  pub other-kind : kind_of x ≢ kind_of y → false ≡ compare_is_eq (compare_items (item_of a x) (item_of b y))
  other-kind h = go (ltb (kind_of x) (kind_of y)) refl
    where
      go : (t : Bool) → ltb (kind_of x) (kind_of y) ≡ t → false ≡ compare_is_eq (compare_items (item_of a x) (item_of b y))
      go true e = ap compare_is_eq (Items.kinds_less a b x y gx gy (ltb-true (kind_of x) (kind_of y) e))
      go false e = ap compare_is_eq (Items.kinds_greater a b x y gx gy (omega (arith, ltb-false (kind_of x) (kind_of y) e)))

  module _ (one-kind : kind_of x ≡ kind_of y) where
    pub functions : kind_of x ≡ function_kind → (r : Bool) → r ≡ compare_is_eq (compare_bytes (part a x.k1 x.k2) (part b y.k1 y.k2))
        → r ≡ compare_is_eq (compare_items (item_of a x) (item_of b y))
    functions e r q = q ∙ ap compare_is_eq (Items.functions a b x y gx gy (omega arith) (omega arith) e (compare_bytes (part a x.k1 x.k2) (part b y.k1 y.k2)) refl)

    pub branches : kind_of x ≡ branch_kind → (r : Bool) → r ≡ same_branch x y → r ≡ compare_is_eq (compare_items (item_of a x) (item_of b y))
    branches e r q =
        q
        ∙ sym (equal-lex (compare x.k1 y.k1) (lex (compare x.k2 y.k2) (compare x.k3 y.k3))
        ∙ ap (λ (t : Bool). eqb x.k1 y.k1 && t) (equal-lex (compare x.k2 y.k2) (compare x.k3 y.k3)))
        ∙ ap compare_is_eq (Items.branches a b x y gx gy (omega arith) (omega arith) e (lex (compare x.k1 y.k1) (lex (compare x.k2 y.k2) (compare x.k3 y.k3))) refl)

    pub lines : kind_of x ≡ line_kind → eqb x.k1 y.k1 ≡ compare_is_eq (compare_items (item_of a x) (item_of b y))
    lines e = ap compare_is_eq (Items.lines a b x y gx gy (omega arith) (omega arith) e (compare x.k1 y.k1) refl)

    pub headers : kind_of x ≢ function_kind → kind_of x ≢ branch_kind → kind_of x ≢ line_kind → true ≡ compare_is_eq (compare_items (item_of a x) (item_of b y))
    headers f g h = ap compare_is_eq (Items.sections a b x y gx gy (omega arith) (omega arith) f g h)

-- ---- keys

module _ (a b : Bytes) (x y : Row) (items : Bool) (is : items ≡ compare_is_eq (compare_items (item_of a x) (item_of b y))) where
  abbrev keys : Bool
  keys = compare_is_eq (compare_keys (entry_key (entry_of a x)) (entry_key (entry_of b y)))

  keys-are : keys ≡ (compare_is_eq (compare_sections (key_of a x) (key_of b y)) && compare_is_eq (compare_items (item_of a x) (item_of b y)))
  unfolding compare_keys entry_key compare_items
  keys-are = equal-lex (compare_sections (key_of a x) (key_of b y)) (compare_bytes (item_key (item_of a x)) (item_key (item_of b y)))

  pub other_item : items ≡ false → false ≡ keys
  other_item h =
      let differ : compare_is_eq (compare_items (item_of a x) (item_of b y)) ≡ false = sym is ∙ h in
      sym (keys-are ∙ rw differ (none (compare_is_eq (compare_sections (key_of a x) (key_of b y)))))
    where
      none : (t : Bool) → (t && false) ≡ false
      none true = refl
      none false = refl

  pub same_item : items ≡ true → (sections : Bool) → sections ≡ compare_is_eq (compare_sections (key_of a x) (key_of b y)) → sections ≡ keys
  same_item h sections s =
      let same : compare_is_eq (compare_items (item_of a x) (item_of b y)) ≡ true = sym is ∙ h in
      s ∙ sym (keys-are ∙ rw same (all (compare_is_eq (compare_sections (key_of a x) (key_of b y)))))
    where
      all : (t : Bool) → (t && true) ≡ t
      all true = refl
      all false = refl

-- ---- counts

count_by : (text : Bytes) (r : Row) (kind given : ℕ) → kind_of r ≡ kind → r.tag % 2 ≡ given → kind ≢ 0 → r.tag ≢ 4 → r.count ≡ count_of (item_of text r)
unfolding item_of count_of
count_by text r zero given k g h t = absurd (h refl)
count_by text r (suc zero) given k g h t = rw k
count_by text r (suc (suc zero)) zero k g h t = absurd (t (omega arith))
count_by text r (suc (suc zero)) (suc given) k g h t = rw (k, g)
count_by text r (suc (suc (suc kind))) given k g h t = rw k

module _ (r : Row) where
  pub header-count : kind_of r ≡ 0 → (text : Bytes) → 0 ≡ count_of (item_of text r)
  unfolding item_of count_of
  header-count k text = rw k

  pub untaken_count : r.tag ≡ 4 → (text : Bytes) → 0 ≡ count_of (item_of text r)
  unfolding item_of count_of
  untaken_count t text =
      let k : kind_of r ≡ 2 = omega arith in
      let g : r.tag % 2 ≡ 0 = omega arith in
      rw (k, g)

  pub given-count : kind_of r ≢ 0 → r.tag ≢ 4 → (text : Bytes) → r.count ≡ count_of (item_of text r)
  given-count h t text = count_by text r (kind_of r) (r.tag % 2) refl refl h t

-- ---- hits

-- what an item is counted as
record Is (item : Item) (line function branch : Bool) : Type 0 where
  is-line : is_line item ≡ line
  is-function : is_function item ≡ function
  is-branch : is_branch item ≡ branch

kind-is : (text : Bytes) (r : Row) (kind : ℕ) → kind_of r ≡ kind → kind ≢ 0 → Is (item_of text r) (ltb 2 kind) (eqb kind 1) (eqb kind 2)
unfolding item_of is_line is_function is_branch
kind-is text r zero k h = absurd (h refl)
kind-is text r (suc zero) k h = record { is-line = rw k; is-function = rw k; is-branch = rw k }
kind-is text r (suc (suc zero)) k h = record { is-line = rw k; is-function = rw k; is-branch = rw k }
kind-is text r (suc (suc (suc kind))) k h = record {
  is-line = rw k (sym (lt-ltb 2 (suc (suc (suc kind))) (omega arith)));
  is-function = rw k (sym (ne_eqb (suc (suc (suc kind))) 1 (λ z. omega arith)));
  is-branch = rw k (sym (ne_eqb (suc (suc (suc kind))) 2 (λ z. omega arith)));
}

hits-same : {a b c d e f : ℕ} → a ≡ d → b ≡ e → c ≡ f → ◌≡◌ {A = Hits} (record { lines = a; functions = b; branches = c }) (record { lines = d; functions = e; branches = f })
hits-same p q r = rw (p, q, r)

module _ (r : Row) (h : Hits) (count : ℕ) (is : (text : Bytes) → count ≡ count_of (item_of text r)) where
  pub no_hit : count ≡ 0 → (text : Bytes) → h ≡ with_hit (item_of text r) h
  no_hit e text = hits-same (none (is_line (item_of text r)) h.lines) (none (is_function (item_of text r)) h.functions) (none (is_branch (item_of text r)) h.branches)
    where
      none : (t : Bool) (n : ℕ) → n ≡ n + (if t && ltb 0 (count_of (item_of text r)) then 1 else 0)
      none true n = rw (← (is text), e) (omega arith)
      none false n = omega arith

  module _ (some : count ≢ 0) (text : Bytes) where
    hit : ltb 0 (count_of (item_of text r)) ≡ true
    hit = rw (← (is text)) (lt-ltb 0 count (omega arith))

    inner : kind_of r ≢ 0
    inner z = some (is text ∙ sym (header-count r z text))

    -- an item of this kind
    added : (line function branch : Bool) → Is (item_of text r) line function branch
        → record {
          lines = h.lines + (if line && true then 1 else 0);
          functions = h.functions + (if function && true then 1 else 0);
          branches = h.branches + (if branch && true then 1 else 0);
        } ≡ with_hit (item_of text r) h
    added line function branch i = rw (i.is-line, i.is-function, i.is-branch, hit)

    pub function-hit : kind_of r ≡ function_kind → record { lines = h.lines; functions = h.functions + 1; branches = h.branches } ≡ with_hit (item_of text r) h
    function-hit k = hits-same (omega arith) refl (omega arith) ∙ added false true false (kind-is text r 1 k (λ z. omega arith))

    pub branch-hit : kind_of r ≡ branch_kind → record { lines = h.lines; functions = h.functions; branches = h.branches + 1 } ≡ with_hit (item_of text r) h
    branch-hit k = hits-same (omega arith) (omega arith) refl ∙ added false false true (kind-is text r 2 k (λ z. omega arith))

    pub line-hit : kind_of r ≢ function_kind → kind_of r ≢ branch_kind → record { lines = h.lines + 1; functions = h.functions; branches = h.branches } ≡ with_hit (item_of text r) h
    line-hit f b =
        let line : ltb 2 (kind_of r) ≡ true = lt-ltb 2 (kind_of r) (omega (arith, inner)) in
        let i : Is (item_of text r) true false false =
        rw (line, ne_eqb (kind_of r) 1 f, ne_eqb (kind_of r) 2 b) at (kind-is text r (kind_of r) refl inner) in
        hits-same refl (omega arith) (omega arith) ∙ added true false false i
