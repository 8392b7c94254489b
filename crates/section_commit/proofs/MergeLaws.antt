-- Laws of two reports as one. Assumes nothing.
use mathlib.Core.Path.{◌≡◌, refl, sym, ap, ◌∙◌}
use mathlib.Core.Logic.{◌≢◌}
use mathlib.Core.List.{List, [], ◌∷◌, ◌++◌, map}
use Prim.Native.Nat.{◌+◌, Ordering}
use native.Mathlib.Omega.{arith}
use lib.ListN.{length}
use Rattle.ordmap.specs.Result.{Result, accepted, map_accepted}
use Rattle.ordmap.specs.Keyed.{by_order}
use Rattle.ordmap.specs.OnePass.{one_pass}
use Rattle.ordmap.proofs.Results.{impossible}
use Rattle.model.specs.Bytes.{Bytes}
use Rattle.model.specs.Path.{components}
use Rattle.model.specs.Report.{Item, section_item, Entry, Report, SectionKey, section_key, in_section, compare_sections}
use Rattle.model.specs.Reading.{spelling_of, replace_section}
use Rattle.model.proofs.ListLaws.{All, all_append}
use Rattle.model.proofs.KeyOrder.{sections-order}
use Rattle.section_commit.specs.Commit.{merge_sorted, merge_reports}
use Rattle.table_section.proofs.ReplaceLaws.{Compared, replaced}

module _ {E K : Type 0} (key : E → K) (cmp : K → K → Ordering) where
  merge_none : (xs : List E) → merge_sorted key cmp xs [] ≡ xs
  merge_none [] = refl
  merge_none (x ∷ xs) = ap (λ (l : List E). x ∷ l) (merge_none xs)

pub merged-none : (xs : Report) → merge_reports xs [] ≡ xs
merged-none xs = merge_none section_key compare_sections xs

-- no entry is lost, where no key is in both
abbrev Apart : Report → Entry → Type 0
Apart ys x = All (λ y. compare_sections (section_key x) (section_key y) ≢ Ordering.eq) ys

length_from : (x : Entry) (xs ys : Report) → Apart ys x → All (Apart ys) xs
    → ((l : Report) → All (Apart l) xs → length (merge_reports xs l) ≡ length xs + length l)
    → length (merge_reports (x ∷ xs) ys) ≡ length (x ∷ xs) + length ys
length_from x xs [] h a rest = omega (arith, rest [] a)
length_from x xs (y ∷ ys) h a rest = go (compare_sections (section_key x) (section_key y)) refl (length_from x xs ys h.1 (fewer xs a) rest)
  where
    fewer : (l : Report) → All (Apart (y ∷ ys)) l → All (Apart ys) l
    fewer [] b = tt
    fewer (z ∷ l) b = (b.0.1, fewer l b.1)

    go : (o : Ordering) → compare_sections (section_key x) (section_key y) ≡ o → length (merge_reports (x ∷ xs) ys) ≡ length (x ∷ xs) + length ys
        → length (by_order o (x ∷ merge_reports xs (y ∷ ys)) (x ∷ merge_reports xs ys) (y ∷ merge_reports (x ∷ xs) ys)) ≡ length
        (x ∷ xs) + length (y ∷ ys)
    go Ordering.lt e r = omega (arith, rest (y ∷ ys) a)
    go Ordering.eq e r = absurd (h.0 e)
    go Ordering.gt e r = omega (arith, r)

pub merged-length : (xs ys : Report) → All (λ x. All (λ y. compare_sections (section_key x) (section_key y) ≢ Ordering.eq) ys) xs
    → length (merge_reports xs ys) ≡ length xs + length ys
merged-length [] ys a = omega arith
merged-length (x ∷ xs) ys a = length_from x xs ys a.0 a.1 (λ l b. merged-length xs l b)

-- what holds of each entry of both
module _ (P : Entry → Type 0) where
  all_from : (x : Entry) (xs ys : Report) → P x → All P ys → ((l : Report) → All P l → All P (merge_reports xs l)) → All P (merge_reports (x ∷ xs) ys)
  all_from x xs [] h b rest = (h, rest [] tt)
  all_from x xs (y ∷ ys) h b rest = go (compare_sections (section_key x) (section_key y)) (all_from x xs ys h b.1 rest)
    where
      go : (o : Ordering) → All P (merge_reports (x ∷ xs) ys)
          → All P (by_order o (x ∷ merge_reports xs (y ∷ ys)) (x ∷ merge_reports xs ys) (y ∷ merge_reports (x ∷ xs) ys))
      go Ordering.lt r = (h, rest (y ∷ ys) b)
      go Ordering.eq r = (h, rest ys b.1)
      go Ordering.gt r = (b.0, r)

  pub all-merged : (xs ys : Report) → All P xs → All P ys → All P (merge_reports xs ys)
  all-merged [] ys a b = b
  all-merged (x ∷ xs) ys a b = all_from x xs ys a.0 b (λ l c. all-merged xs l a.1 c)

-- ---- by a key between the entries

between : (k a b : SectionKey) → compare_sections k a ≡ Ordering.gt → compare_sections k b ≢ Ordering.gt → compare_sections a b ≡ Ordering.lt
between k a b g h = go (compare_sections k b) refl
  where
    go : (o : Ordering) → compare_sections k b ≡ o → compare_sections a b ≡ Ordering.lt
    go Ordering.lt e = sections-order.trans (sections-order.less g) e
    go Ordering.eq e = let z : k ≡ b = sections-order.equal e in rw z at (sections-order.less g)
    go Ordering.gt e = absurd (h e)

module _ (key : SectionKey) where
  -- the key is not greater
  abbrev From : Report → Type 0
  From l = All (λ e. compare_sections key (section_key e) ≢ Ordering.gt) l

  not_below : (o : Ordering) → o ≢ Ordering.gt → (l : Report) → Compared key o l → From l
  not_below o h [] a = tt
  not_below o h (x ∷ l) a = (λ e. h (sym a.0 ∙ e), not_below o h l a.1)

  -- what is less than the key comes first
  split : (A B C D : Report) → Compared key Ordering.gt A → From B → Compared key Ordering.gt C → From D
      → merge_reports (A ++ B) (C ++ D) ≡ merge_reports A C ++ merge_reports B D
  split [] B [] D a b c d = refl
  split [] [] (y ∷ C) D a b c d = refl
  split [] (x ∷ B) (y ∷ C) D a b c d =
      let o : compare_sections (section_key x) (section_key y) ≡ Ordering.gt = sections-order.greater
      (between key (section_key y) (section_key x) c.0 b.0) in
      rw o (ap (λ (l : Report). y ∷ l) (split [] (x ∷ B) C D a b c.1 d))
  split (x ∷ A) B [] [] a b c d = ap (λ (l : Report). x ∷ l) (split A B [] [] a.1 b c d)
  split (x ∷ A) B [] (w ∷ D) a b c d =
      let o : compare_sections (section_key x) (section_key w) ≡ Ordering.lt = between key (section_key x) (section_key w) a.0 d.0 in
      rw o (ap (λ (l : Report). x ∷ l) (split A B [] (w ∷ D) a.1 b c d))
  split (x ∷ A) B (y ∷ C) D a b c d =
      go (compare_sections (section_key x) (section_key y)) (split A B (y ∷ C) D a.1 b c d) (split A B C D a.1 b c.1 d)
      (split (x ∷ A) B C D a b c.1 d)
    where
      go : (o : Ordering) → merge_reports (A ++ B) (y ∷ C ++ D) ≡ merge_reports A (y ∷ C) ++ merge_reports B D
          → merge_reports (A ++ B) (C ++ D) ≡ merge_reports A C ++ merge_reports B D
          → merge_reports (x ∷ A ++ B) (C ++ D) ≡ merge_reports (x ∷ A) C ++ merge_reports B D
          → by_order o (x ∷ merge_reports (A ++ B) (y ∷ C ++ D)) (x ∷ merge_reports (A ++ B) (C ++ D)) (y ∷ merge_reports (x ∷ A ++ B) (C ++ D))
          ≡ by_order o (x ∷ merge_reports A (y ∷ C)) (x ∷ merge_reports A C) (y ∷ merge_reports (x ∷ A) C) ++ merge_reports B D
      go Ordering.lt p q r = ap (λ (l : Report). x ∷ l) p
      go Ordering.eq p q r = ap (λ (l : Report). x ∷ l) q
      go Ordering.gt p q r = ap (λ (l : Report). y ∷ l) r

  -- what has the key comes before what is greater
  first : (B M D : Report) → Compared key Ordering.lt B → Compared key Ordering.eq M → merge_reports B (M ++ D) ≡ M ++ merge_reports B D
  first [] M D b m = refl
  first (x ∷ B) [] D b m = refl
  first (x ∷ B) (y ∷ M) D b m =
      let z : key ≡ section_key y = sections-order.equal m.0 in
      let o : compare_sections (section_key x) (section_key y) ≡ Ordering.gt = rw z at (sections-order.greater b.0) in
      rw o (ap (λ (l : Report). y ∷ l) (first (x ∷ B) M D b m.1))

  -- and so where both are in the first report
  first-header : (M B D : Report) → Compared key Ordering.eq M → Compared key Ordering.lt D → merge_reports (M ++ B) D ≡ M ++ merge_reports B D
  first-header [] B D m d = refl
  first-header (x ∷ M) B [] m d = ap (λ (l : Report). x ∷ l) (first-header M B [] m.1 d)
  first-header (x ∷ M) B (y ∷ D) m d =
      let z : key ≡ section_key x = sections-order.equal m.0 in
      let o : compare_sections (section_key x) (section_key y) ≡ Ordering.lt = rw z at d.0 in
      rw o (ap (λ (l : Report). x ∷ l) (first-header M B (y ∷ D) m.1 d))

  from_greater : (D : Report) → Compared key Ordering.lt D → From D
  from_greater D d = not_below Ordering.lt (λ e. impossible cc) D d

  from_key : (M D : Report) → Compared key Ordering.eq M → Compared key Ordering.lt D → From (M ++ D)
  from_key M D m d = all_append _ M D (not_below Ordering.eq (λ e. impossible cc) M m) (from_greater D d)

  module _ (A B C D : Report) (a : Compared key Ordering.gt A) (b : Compared key Ordering.lt B) (c : Compared key Ordering.gt C)
      (d : Compared key Ordering.lt D) where
    -- a section of the second report, whose key no section of the first has
    around : (M : Report) → Compared key Ordering.eq M → merge_reports (A ++ B) (C ++ (M ++ D)) ≡ merge_reports A C ++ (M ++ merge_reports B D)
    around M m =
        split A B C (M ++ D) a (from_greater B b) c (from_key M D m d) ∙ ap (λ (l : Report). merge_reports A C ++ l) (first B M D b m)

    -- a section of the first report, whose key no section of the second has
    around-header : (M : Report) → Compared key Ordering.eq M → merge_reports (A ++ (M ++ B)) (C ++ D) ≡ merge_reports A C ++ (M ++ merge_reports B D)
    around-header M m =
        split A (M ++ B) C D a (from_key M B m b) c (from_greater D d) ∙ ap (λ (l : Report). merge_reports A C ++ l) (first-header M B D m d)

  header-key : (items : List Item) → Compared key Ordering.eq (map (in_section key) items)
  header-key [] = tt
  header-key (i ∷ items) = (sections-order.same key, header-key items)

-- the section's entries in place of those that have its key, in the first report, S, or in the second, T
module _ (test path : Bytes) (items : List Item) (A S B C T D : Report) (a : Compared (test, components path) Ordering.gt A)
    (s : Compared (test, components path) Ordering.eq S) (b : Compared (test, components path) Ordering.lt B)
    (c : Compared (test, components path) Ordering.gt C) (t : Compared (test, components path) Ordering.eq T)
    (d : Compared (test, components path) Ordering.lt D) where
  abbrev key : SectionKey
  key = (test, components path)

  -- the entries that it has then, spelled as those before
  abbrev pub anew : Report → Report
  anew before = map (in_section key) (section_item (spelling_of path before) ∷ items)

  replaced-around : (M : Report) → Compared key Ordering.eq M
      → replace_section test path items (merge_reports A C ++ (M ++ merge_reports B D)) ≡ merge_reports A C ++ (anew M ++ merge_reports B D)
  replaced-around M m = replaced test path items (merge_reports A C) M (merge_reports B D) (all-merged _ A C a c) m (all-merged _ B D b d)

  -- they come into the second report
  pub in_second : (M : Report) → Compared key Ordering.eq M → merge_reports (A ++ B) (C ++ (anew M ++ D)) ≡ merge_reports A C ++ (anew M ++ merge_reports B D)
  in_second M m = around key A B C D a b c d (anew M) (header-key key (section_item (spelling_of path M) ∷ items))

  -- or into the first
  pub in_first : (M : Report) → Compared key Ordering.eq M → merge_reports (A ++ (anew M ++ B)) (C ++ D) ≡ merge_reports A C ++ (anew M ++ merge_reports B D)
  in_first M m = around-header key A B C D a b c d (anew M) (header-key key (section_item (spelling_of path M) ∷ items))

  -- one of the second report is replaced there
  pub second-by-second : merge_reports (A ++ B) (C ++ (anew T ++ D)) ≡ replace_section test path items (merge_reports (A ++ B) (C ++ (T ++ D)))
  second-by-second =
      in_second T t ∙ sym (ap (replace_section test path items) (around key A B C D a b c d T t) ∙ replaced-around T t)

  -- one of the first is replaced there, or in the second
  pub first-by-first : merge_reports (A ++ (anew S ++ B)) (C ++ D) ≡ replace_section test path items (merge_reports (A ++ (S ++ B)) (C ++ D))
  first-by-first =
      in_first S s ∙ sym (ap (replace_section test path items) (around-header key A B C D a b c d S s) ∙ replaced-around S s)

  pub first-by-second : merge_reports (A ++ B) (C ++ (anew S ++ D)) ≡ replace_section test path items (merge_reports (A ++ (S ++ B)) (C ++ D))
  first-by-second =
      in_second S s ∙ sym (ap (replace_section test path items) (around-header key A B C D a b c d S s) ∙ replaced-around S s)

-- ---- as one pass

module _ {E K : Type 0} (key : E → K) (cmp : K → K → Ordering) where
  abbrev Pass : Type 0
  Pass = Result (Unit {0}) (List E)

  -- one pass that would keep the first of two of one key
  abbrev pub pass : List E → List E → Pass
  pass xs ys = one_pass key cmp (λ e f. accepted e) xs ys

  pass_from_lem : (x : E) (xs ys : List E) → ((l : List E) → pass xs l ≡ accepted (merge_sorted key cmp xs l))
      → pass (x ∷ xs) ys ≡ accepted (merge_sorted key cmp (x ∷ xs) ys)
  pass_from_lem x xs [] rest = ap (λ (l : List E). accepted (x ∷ l)) (sym (merge_none key cmp xs))
  pass_from_lem x xs (y ∷ ys) rest = go (cmp (key x) (key y)) (pass_from_lem x xs ys rest)
    where
      go : (o : Ordering) → pass (x ∷ xs) ys ≡ accepted (merge_sorted key cmp (x ∷ xs) ys)
          → ◌≡◌ {A = Pass}
          (by_order o (map_accepted (λ l. x ∷ l) (pass xs (y ∷ ys))) (map_accepted (λ l. x ∷ l) (pass xs ys))
          (map_accepted (λ l. y ∷ l) (pass (x ∷ xs) ys)))
          (accepted (by_order o (x ∷ merge_sorted key cmp xs (y ∷ ys)) (x ∷ merge_sorted key cmp xs ys) (y ∷ merge_sorted key cmp (x ∷ xs) ys)))
      go Ordering.lt r = ap (map_accepted (λ l. x ∷ l)) (rest (y ∷ ys))
      go Ordering.eq r = ap (map_accepted (λ l. x ∷ l)) (rest ys)
      go Ordering.gt r = ap (map_accepted (λ l. y ∷ l)) r

  pub pass_merge : (xs ys : List E) → pass xs ys ≡ accepted (merge_sorted key cmp xs ys)
  pass_merge [] ys = refl
  pass_merge (x ∷ xs) ys = pass_from_lem x xs ys (λ l. pass_merge xs l)
