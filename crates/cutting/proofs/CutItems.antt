-- What a filter keeps of a section's items: some of them, in their order, and of the branches and lines those that the ranges hold. Which functions
-- are kept does not matter: any that are among those with a start. Assumes nothing.
use Prim.Native.Nat.{Ordering}
use mathlib.Core.Path.{◌≡◌, refl, sym, ap, ◌∙◌}
use mathlib.Core.Bool.{Bool, true, false, true≢false}
use mathlib.Core.List.Memᴰ.{head as here}
use mathlib.Core.List.Memᴰ.{tail as there}
use mathlib.Core.List.{List, [], ◌∷◌, ◌++◌, append-nil, Memᴰ as Member}
use mathlib.Core.List.Memᴰ
use mathlib.Core.Logic.{⊎_elim}
use mathlib.Core.Option.{none}
use Rattle.ordmap.specs.Keyed.{Order, Above, Sorted, find}
use Rattle.ordmap.proofs.Maps.{some≢none, above-trans}
use Rattle.ordmap.proofs.Members.{sorted-append}
use Rattle.model.specs.declared.Bound.{Bound}
use Rattle.model.specs.declared.Range.{Range}
use Rattle.std.specs.Prelude.{if◌then◌else◌}
use Rattle.model.specs.Lists.{filter, insert_sorted, sort}
use Rattle.model.specs.Bytes.{compare_bytes}
use Rattle.model.specs.Report.{Item, section_item, function_item, branch_item, line_item, item_key, compare_items}
use Rattle.model.specs.Printing.{is_function, is_branch, is_line, compare_printed, functions_of}
use Rattle.model.specs.Ranges.{holds}
use Rattle.model.specs.Filter.{is_held, has_start, start_line, end_line, held_functions, filter_items}
use Rattle.model.proofs.KeyOrder.{bytes-order}
use Rattle.model.proofs.ListLaws.{All, all_append, all_select, all-sort, all_map, select_append, select_all, select_none, select_sorted, select_member}
use Rattle.model.proofs.SortLaws.{Distinct, distinct_sorted, find-sort, distinct_sort}
use Rattle.model.proofs.Passes.{SortedItems, InSection}
use Rattle.model.proofs.SectionLaws.{by_kind}
use Rattle.cutting.specs.Cutting.{is_line_or_branch, is_held_line_or_branch}
use Rattle.cutting.proofs.Subs.{Sub, done, keep, leave, sub_trans, sub_All, sub_select, sub-missing, sub_of_members}

-- ---- lists

module _ {A : Type 0} (P : A → Type 0) where
  pub all_at_lem : {a : A} {l : List A} → All P l → Member a l → P a
  all_at_lem h (here e) = rw e h.0
  all_at_lem h (there i) = all_at_lem h.1 i

  pub all_of : (l : List A) → ((a : A) → Member a l → P a) → All P l
  all_of [] h = tt
  all_of (x ∷ xs) h = (h x (here refl), all_of xs (λ a i. h a (there i)))

-- two tests that agree on a list
pub select_same : {A : Type 0} (t u : A → Bool) (l : List A) → All (λ a. t a ≡ u a) l → filter t l ≡ filter u l
unfolding filter
select_same t u [] h = refl
select_same t u (x ∷ xs) h = ap (λ (b : Bool). if b then x ∷ filter t xs else filter t xs) h.0 ∙ go (u x) (select_same t u xs h.1)
  where
    go : (b : Bool) → filter t xs ≡ filter u xs → (if b then x ∷ filter t xs else filter t xs) ≡ (if b then x ∷ filter u xs else filter u xs)
    go true e = ap (λ l. x ∷ l) e
    go false e = e

pub select_passes : {A : Type 0} (test : A → Bool) (l : List A) → All (λ a. test a ≡ true) (filter test l)
select_passes test l = all_of (λ a. test a ≡ true) (filter test l) (λ a i. (select_member test l i).1)

-- ---- sorting elements of distinct keys

module _ {E K : Type 0} (key : E → K) (cmp : K → K → Ordering) (L : Order cmp) (c : E → E → Ordering) (by : (a b : E) → c a b ≡ cmp (key a) (key b)) where
  insert-above : (k : K) (x : E) (l : List E) → cmp k (key x) ≡ Ordering.lt → Above key cmp k l → Above key cmp k (insert_sorted c x l)
  unfolding insert_sorted
  insert-above k x [] h a = (h, tt)
  insert-above k x (y ∷ ys) h a = go (c x y) refl (insert-above k x ys h a.1)
    where
      go : (o : Ordering) → c x y ≡ o → Above key cmp k (insert_sorted c x ys) → Above key cmp k (insert_sorted c x (y ∷ ys))
      go Ordering.lt o ih = rw (o, insert_sorted) (h, a)
      go Ordering.eq o ih = rw (o, insert_sorted) (h, a)
      go Ordering.gt o ih = rw (o, insert_sorted) (a.0, ih)

  insert-sorted : (x : E) (l : List E) → find key cmp (key x) l ≡ none → Sorted key cmp l → Sorted key cmp (insert_sorted c x l)
  unfolding insert_sorted
  insert-sorted x [] n s = (tt, tt)
  insert-sorted x (y ∷ ys) n s = go (c x y) refl (λ m. insert-sorted x ys m s.1)
    where
      go : (o : Ordering) → c x y ≡ o → (find key cmp (key x) ys ≡ none → Sorted key cmp (insert_sorted c x ys)) → Sorted key cmp (insert_sorted c x (y ∷ ys))
      go Ordering.lt o ih =
          let h : cmp (key x) (key y) ≡ Ordering.lt = sym (by x y) ∙ o in
          rw (o, insert_sorted) ((h, above-trans key cmp L ys h s.0), s)
      go Ordering.eq o ih =
          let h : cmp (key x) (key y) ≡ Ordering.eq = sym (by x y) ∙ o in
          absurd (some≢none (rw h at n))
      go Ordering.gt o ih =
          let h : cmp (key x) (key y) ≡ Ordering.gt = sym (by x y) ∙ o in
          rw (o, insert_sorted) (insert-above (key y) x ys (L.less h) s.0, ih (rw h at n))

  same-found : (l : List E) → Distinct key cmp L l → (k : K) → find key cmp k (sort c l) ≡ find key cmp k l
  same-found l d k =
      ap (find key cmp k) (sym (append-nil (sort c l)))
      ∙ find-sort key cmp L c [] l (rw (append-nil l) d) k
      ∙ ap (find key cmp k) (append-nil l)

  pub sort_sorted : (l : List E) → Distinct key cmp L l → Sorted key cmp (sort c l)
  unfolding sort
  sort_sorted [] d = tt
  sort_sorted (x ∷ xs) d = insert-sorted x (sort c xs) (same-found xs d.1 (key x) ∙ d.0) (sort_sorted xs d.1)

module _ {E K : Type 0} (key : E → K) (cmp : K → K → Ordering) (L : Order cmp) where
  pub sort_distinct : (c : E → E → Ordering) (l : List E) → Distinct key cmp L l → Distinct key cmp L (sort c l)
  sort_distinct c l d = rw (append-nil (sort c l)) at (distinct_sort key cmp L c [] l (rw (append-nil l) d))

  pub sub_distinct : {l m : List E} → Sub l m → Distinct key cmp L m → Distinct key cmp L l
  sub_distinct done d = d
  sub_distinct (keep {x = x} s) d = (sub-missing key cmp (key x) s d.0, sub_distinct s d.1)
  sub_distinct (leave s) d = sub_distinct s d.1

-- ---- kinds

function-branch : (a b : Item) → is_function a ≡ true → is_branch b ≡ true → compare_bytes (item_key a) (item_key b) ≡ Ordering.lt
unfolding is_function is_branch item_key compare_bytes
function-branch (section_item p) b h i = absurd (true≢false (sym h))
function-branch (branch_item l k n t) b h i = absurd (true≢false (sym h))
function-branch (line_item l c s) b h i = absurd (true≢false (sym h))
function-branch (function_item f) (section_item p) h i = absurd (true≢false (sym i))
function-branch (function_item f) (function_item g) h i = absurd (true≢false (sym i))
function-branch (function_item f) (branch_item l k m t) h i = refl
function-branch (function_item f) (line_item l d t) h i = absurd (true≢false (sym i))

before-line : (a b : Item) → is_line a ≡ false → is_line b ≡ true → compare_bytes (item_key a) (item_key b) ≡ Ordering.lt
unfolding is_line item_key compare_bytes
before-line a (section_item p) h i = absurd (true≢false (sym i))
before-line a (function_item g) h i = absurd (true≢false (sym i))
before-line a (branch_item l k m t) h i = absurd (true≢false (sym i))
before-line (section_item p) (line_item l d t) h i = refl
before-line (function_item f) (line_item l d t) h i = refl
before-line (branch_item l k n s) (line_item m d t) h i = refl
before-line (line_item l c s) (line_item m d t) h i = absurd (true≢false h)

function-other : (a : Item) → is_function a ≡ true → (is_line a ≡ false) × (is_line_or_branch a ≡ false)
unfolding is_function is_branch is_line is_line_or_branch
function-other (section_item p) h = absurd (true≢false (sym h))
function-other (function_item f) h = (refl, refl)
function-other (branch_item l k n t) h = absurd (true≢false (sym h))
function-other (line_item l c s) h = absurd (true≢false (sym h))

branch-other : (a : Item) → is_branch a ≡ true → (is_line a ≡ false) × (is_line_or_branch a ≡ true)
unfolding is_branch is_line is_line_or_branch
branch-other (section_item p) h = absurd (true≢false (sym h))
branch-other (function_item f) h = absurd (true≢false (sym h))
branch-other (branch_item l k n t) h = (refl, refl)
branch-other (line_item l c s) h = absurd (true≢false (sym h))

line_other : (a : Item) → is_line a ≡ true → is_line_or_branch a ≡ true
unfolding is_branch is_line is_line_or_branch
line_other (section_item p) h = absurd (true≢false (sym h))
line_other (function_item f) h = absurd (true≢false (sym h))
line_other (branch_item l k n t) h = absurd (true≢false (sym h))
line_other (line_item l c s) h = refl

-- ---- what is kept

-- what a filter keeps of items, where it keeps `choose` of the functions in printing order
module _ (ranges : List Range) (choose : List Item → List Item) where
  unfoldable pub kept_items : List Item → List Item
  kept_items items =
      sort compare_items (choose (filter has_start (functions_of items)))
      ++ filter (is_held ranges) (filter is_branch items)
      ++ filter (is_held ranges) (filter is_line items)

module _ (ranges : List Range) (choose : List Item → List Item) (chosen : (l : List Item) → Sub (choose l) l) (items : List Item) where
  fs : List Item
  fs = sort compare_items (choose (filter has_start (functions_of items)))

  bs : List Item
  bs = filter (is_held ranges) (filter is_branch items)

  ls : List Item
  ls = filter (is_held ranges) (filter is_line items)

  -- functions, in printing order
  among : Sub (choose (filter has_start (functions_of items))) (functions_of items)
  among = sub_trans (chosen (filter has_start (functions_of items))) (sub_select has_start (functions_of items))

  fs_all : (P : Item → Type 0) → All P (filter is_function items) → All P fs
  unfolding fs functions_of
  fs_all P h = all-sort P compare_items (choose (filter has_start (functions_of items))) (sub_All P among (all-sort P compare_printed (filter is_function items) h))

  fs_kind : All (λ i. is_function i ≡ true) fs
  fs_kind = fs_all (λ i. is_function i ≡ true) (select_passes is_function items)

  bs_kind : All (λ i. is_branch i ≡ true) bs
  unfolding bs
  bs_kind = all_select (λ i. is_branch i ≡ true) (is_held ranges) (filter is_branch items) (select_passes is_branch items)

  ls_kind : All (λ i. is_line i ≡ true) ls
  unfolding ls
  ls_kind = all_select (λ i. is_line i ≡ true) (is_held ranges) (filter is_line items) (select_passes is_line items)

  pub kept-all : (P : Item → Type 0) → All P items → All P (kept_items ranges choose items)
  unfolding kept_items fs bs ls
  kept-all P h =
      all_append P (fs ++ bs) ls
      (all_append P fs bs (fs_all P (all_select P is_function items h)) (all_select P (is_held ranges) (filter is_branch items) (all_select P is_branch items h)))
      (all_select P (is_held ranges) (filter is_line items) (all_select P is_line items h))

  module _ (sorted : SortedItems items) where
    fs_sorted : SortedItems fs
    unfolding fs functions_of compare_items
    fs_sorted =
        sort_sorted item_key compare_bytes bytes-order compare_items (λ a b. refl) (choose (filter has_start (functions_of items)))
        (sub_distinct item_key compare_bytes bytes-order among
        (sort_distinct item_key compare_bytes bytes-order compare_printed (filter is_function items)
        (distinct_sorted item_key compare_bytes bytes-order (filter is_function items) (select_sorted is_function item_key compare_bytes items sorted))))

    pub kept-sorted : SortedItems (kept_items ranges choose items)
    unfolding kept_items fs bs ls
    kept-sorted =
        sorted-append item_key compare_bytes (fs ++ bs) ls
        (sorted-append item_key compare_bytes fs bs fs_sorted
        (select_sorted (is_held ranges) item_key compare_bytes (filter is_branch items) (select_sorted is_branch item_key compare_bytes items sorted))
        (λ a b i j. function-branch a b (all_at_lem (λ i. is_function i ≡ true) fs_kind i) (all_at_lem (λ i. is_branch i ≡ true) bs_kind j)))
        (select_sorted (is_held ranges) item_key compare_bytes (filter is_line items) (select_sorted is_line item_key compare_bytes items sorted))
        (λ a b i j. before-line a b (no_line i) (all_at_lem (λ i. is_line i ≡ true) ls_kind j))
      where
        no_line : {a : Item} → Member a (fs ++ bs) → is_line a ≡ false
        no_line {a} i =
            ⊎_elim (λ (j : Member a fs). (function-other a (all_at_lem (λ i. is_function i ≡ true) fs_kind j)).0)
            (λ (j : Member a bs). (branch-other a (all_at_lem (λ i. is_branch i ≡ true) bs_kind j)).0)
            (Memᴰ.append_cases fs i)

    -- SOME OF THE ITEMS, in their order
    pub kept-sub : Sub (kept_items ranges choose items) items
    kept-sub =
        sub_of_members item_key compare_bytes bytes-order (kept_items ranges choose items) items kept-sorted sorted
        (λ a i. all_at_lem (λ a. Member a items) (kept-all (λ a. Member a items) (all_of (λ a. Member a items) items (λ a j. j))) i)

    -- THE BRANCHES AND LINES that are held
    pub kept-counts : All InSection items → filter is_line_or_branch (kept_items ranges choose items) ≡ filter (is_held_line_or_branch ranges) items
    unfolding kept_items fs bs ls is_held_line_or_branch
    kept-counts inside =
        select_append is_line_or_branch (fs ++ bs) ls
        ∙ ap (λ (l : List Item). l ++ filter is_line_or_branch ls) (select_append is_line_or_branch fs bs)
        ∙ rw (no_functions, all-branches, all_lines) (sym parts)
      where
        no_functions : filter is_line_or_branch fs ≡ []
        no_functions = select_none is_line_or_branch fs (all_map (λ i. is_function i ≡ true) (λ i. is_line_or_branch i ≡ false) (λ i h. (function-other i h).1) fs fs_kind)

        all-branches : filter is_line_or_branch bs ≡ bs
        all-branches = select_all is_line_or_branch bs (all_map (λ i. is_branch i ≡ true) (λ i. is_line_or_branch i ≡ true) (λ i h. (branch-other i h).1) bs bs_kind)

        all_lines : filter is_line_or_branch ls ≡ ls
        all_lines = select_all is_line_or_branch ls (all_map (λ i. is_line i ≡ true) (λ i. is_line_or_branch i ≡ true) line_other ls ls_kind)

        held_as : (i : Item) → is_line_or_branch i ≡ true → is_held_line_or_branch ranges i ≡ is_held ranges i
        held_as i h = rw h

        f : filter (is_held_line_or_branch ranges) (filter is_function items) ≡ []
        f =
            select_none (is_held_line_or_branch ranges) (filter is_function items)
            (all_map (λ i. is_function i ≡ true) (λ i. is_held_line_or_branch ranges i ≡ false) (λ i h. rw (function-other i h).1) (filter is_function items)
            (select_passes is_function items))

        b : filter (is_held_line_or_branch ranges) (filter is_branch items) ≡ bs
        b =
            select_same (is_held_line_or_branch ranges) (is_held ranges) (filter is_branch items)
            (all_map (λ i. is_branch i ≡ true) (λ i. is_held_line_or_branch ranges i ≡ is_held ranges i) (λ i h. held_as i (branch-other i h).1) (filter is_branch items)
            (select_passes is_branch items))

        l : filter (is_held_line_or_branch ranges) (filter is_line items) ≡ ls
        l =
            select_same (is_held_line_or_branch ranges) (is_held ranges) (filter is_line items)
            (all_map (λ i. is_line i ≡ true) (λ i. is_held_line_or_branch ranges i ≡ is_held ranges i) (λ i h. held_as i (line_other i h)) (filter is_line items)
            (select_passes is_line items))

        parts : filter (is_held_line_or_branch ranges) items ≡ bs ++ ls
        parts =
            ap (filter (is_held_line_or_branch ranges)) (sym (by_kind items sorted inside))
            ∙ select_append (is_held_line_or_branch ranges) (filter is_function items) (filter is_branch items ++ filter is_line items)
            ∙ ap (λ (r : List Item). filter (is_held_line_or_branch ranges) (filter is_function items) ++ r)
            (select_append (is_held_line_or_branch ranges) (filter is_branch items) (filter is_line items))
            ∙ rw (f, b, l)

-- ---- the filter, by either bound

pub held-sub : (bound : Bound) (ranges : List Range) (l : List Item) → Sub (held_functions bound ranges l) l
unfolding held_functions
held-sub bound ranges [] = done
held-sub bound ranges (f ∷ fs) = go (holds ranges (start_line f) (end_line bound f fs)) (held-sub bound ranges fs)
  where
    go : (b : Bool) → Sub (held_functions bound ranges fs) fs → Sub (if b then f ∷ held_functions bound ranges fs else held_functions bound ranges fs) (f ∷ fs)
    go true s = keep s
    go false s = leave s

-- its choice of functions
pub filter-keeps : (bound : Bound) (ranges : List Range) (items : List Item) → filter_items bound ranges items ≡ kept_items ranges (held_functions bound ranges) items
unfolding filter_items kept_items
filter-keeps bound ranges items = refl
