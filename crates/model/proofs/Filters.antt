-- The two filters compared, section by section and text by text: what specs/Filters.antt says. Assumes nothing.
use Prim.Native.Nat.{ℕ, ◌-◌, ◌≤◌, Ordering}
use mathlib.Core.Path.{◌≡◌, refl, sym, ap}
use mathlib.Core.Logic.{⊎_elim}
use mathlib.Core.Bool.{Bool, true, false}
use mathlib.Core.List.Memᴰ
use mathlib.Core.List.Memᴰ.{head as here}
use mathlib.Core.List.Memᴰ.{tail as there}
use mathlib.Core.List.{List, [], ◌∷◌, ◌++◌, map, Memᴰ as Member}
use lib.ListN.{take}
use Rattle.model.specs.declared.Bound.{Bound}
use Rattle.model.specs.declared.Bound.TheVariants.{NextStart, GreaterStart}
use Rattle.model.specs.declared.Fault.TheVariants.{MalformedRanges}
use Rattle.model.specs.declared.Kind.{Kind}
use Rattle.model.specs.declared.Range.{Range}
use Rattle.std.specs.Prelude.{if◌then◌else◌}
use Rattle.model.specs.Lists.{filter, insert_sorted, sort}
use Rattle.model.specs.Bytes.{Bytes}
use Rattle.model.specs.Answer.{Answer, accepted, refused, refuse, ◌>>=◌}
use Rattle.model.specs.Limits.{u32_max}
use Rattle.model.specs.Report.{Item, section_item, function_item, branch_item, line_item, Entry, Report, compare_items}
use Rattle.model.specs.Reading.{read_text}
use Rattle.model.specs.Printing.{Section, is_section, is_function, is_branch, is_line, items_here, section_here, sections, compare_printed, functions_of, print_sections}
use Rattle.model.specs.Output.{written}
use Rattle.model.specs.Gather.{entry_limit}
use Rattle.model.specs.Ranges.{well_formed_ranges}
use Rattle.model.specs.Filter.{is_held, start_line, has_start, held_functions, filter_items, filter_section, filter_text}
use Rattle.model.specs.Filters.{StartsDiffer, Filters}
use Rattle.model.specs.Valid.{Valid}
use Rattle.model.proofs.ListLaws.{select_member}
use Rattle.model.proofs.Read.{read_text-valid}
use Rattle.model.proofs.FilterLaws.{held_more, start_fits, ascend-sort, ascend_select, held_same}

-- ---- members of sorted lists, and of lists one after the other

module _ {A : Type 0} {a : A} where
  insert_members : (c : A → A → Ordering) (x : A) (l : List A)
      → (Member a (insert_sorted c x l) → Member a (x ∷ l)) × (Member a (x ∷ l) → Member a (insert_sorted c x l))
  unfolding insert_sorted
  insert_members c x [] = (λ m. m, λ m. m)
  insert_members c x (y ∷ ys) = go (c x y) refl (insert_members c x ys)
    where
      past : Member a (x ∷ ys) → Member a (x ∷ y ∷ ys)
      past (here e) = here e
      past (there i) = there (there i)

      go : (o : Ordering) → c x y ≡ o → (Member a (insert_sorted c x ys) → Member a (x ∷ ys)) × (Member a (x ∷ ys) → Member a (insert_sorted c x ys))
          → (Member a (insert_sorted c x (y ∷ ys)) → Member a (x ∷ y ∷ ys)) × (Member a (x ∷ y ∷ ys) → Member a (insert_sorted c x (y ∷ ys)))
      go Ordering.lt o ih = rw (o, insert_sorted) (λ m. m, λ m. m)
      go Ordering.eq o ih = rw (o, insert_sorted) (λ m. m, λ m. m)
      go Ordering.gt o ih = rw (o, insert_sorted) (out, into)
        where
          out : Member a (y ∷ insert_sorted c x ys) → Member a (x ∷ y ∷ ys)
          out (here e) = there (here e)
          out (there i) = past (ih.0 i)

          into : Member a (x ∷ y ∷ ys) → Member a (y ∷ insert_sorted c x ys)
          into (here e) = there (ih.1 (here e))
          into (there (here e)) = here e
          into (there (there i)) = there (ih.1 (there i))

  cons-more : (x : A) (l m : List A) → (Member a l → Member a m) → Member a (x ∷ l) → Member a (x ∷ m)
  cons-more x l m h (here e) = here e
  cons-more x l m h (there i) = there (h i)

  sort_members : (c : A → A → Ordering) (l : List A) → (Member a (sort c l) → Member a l) × (Member a l → Member a (sort c l))
  unfolding sort
  sort_members c [] = (λ m. m, λ m. m)
  sort_members c (x ∷ xs) =
      let ih = sort_members c xs in (
        λ m. cons-more x (sort c xs) xs ih.0 ((insert_members c x (sort c xs)).0 m),
        λ m. (insert_members c x (sort c xs)).1 (cons-more x xs (sort c xs) ih.1 m),
      )

  append-more : (l m rest : List A) → (Member a l → Member a m) → Member a (l ++ rest) → Member a (m ++ rest)
  append-more l m rest h i =
      ⊎_elim (λ (j : Member a l). Memᴰ.append_left rest (h j)) (λ (j : Member a rest). Memᴰ.append_right m j) (Memᴰ.append_cases l i)

items_more : (ranges : List Range) (items : List Item) → ((f : Item) → Member f items → start_line f ≤ u32_max) → (a : Item)
    → Member a (filter_items NextStart ranges items) → Member a (filter_items GreaterStart ranges items)
unfolding filter_items functions_of
items_more ranges items fits a =
    append-more (functions NextStart ++ branches) (functions GreaterStart ++ branches) (filter (is_held ranges) (filter is_line items))
    (append-more (functions NextStart) (functions GreaterStart) branches (λ i.
    (sort_members compare_items (held GreaterStart)).1 (held_more ranges started started_fit a ((sort_members compare_items (held NextStart)).0 i))))
  where
    started : List Item
    started = filter has_start (functions_of items)

    held : Bound → List Item
    held bound = held_functions bound ranges started

    functions : Bound → List Item
    functions bound = sort compare_items (held bound)

    branches : List Item
    branches = filter (is_held ranges) (filter is_branch items)

    started_fit : (f : Item) → Member f started → start_line f ≤ u32_max
    started_fit f i =
        let (j, s) = select_member has_start (functions_of items) i in
        let (k, t) = select_member is_function items ((sort_members compare_printed (filter is_function items)).0 j) in
        fits f k

-- ---- the items of a section are entries of the report

abbrev EntryOf : Item → Report → Type 0
EntryOf i report = (e : Entry) × Member e report × (e.item ≡ i)

later_entry : (i : Item) (e : Entry) (es : Report) → EntryOf i es → EntryOf i (e ∷ es)
later_entry i e es (d, m, q) = (d, there m, q)

item-here : (es : Report) (i : Item) → Member i (items_here es) → EntryOf i es
unfolding items_here
item-here [] i m = absurd (Memᴰ.not-nil m)
item-here (e ∷ es) i m = go (is_section e.item) m (λ j. later_entry i e es (item-here es i j))
  where
    go : (t : Bool) → Member i (if t then [] else e.item ∷ items_here es) → (Member i (items_here es) → EntryOf i (e ∷ es)) → EntryOf i (e ∷ es)
    go true m ih = absurd (Memᴰ.not-nil m)
    go false (here q) ih = (e, here refl, sym q)
    go false (there j) ih = ih j

section-here : (e : Entry) (items : List Item) (s : Section) → Member s (section_here e items) → s.items ≡ items
unfolding section_here
section-here e items s m = go e.item m
  where
    go : (i : Item) → Member s (section_here (record { test = e.test; path = e.path; item = i }) items) → s.items ≡ items
    go (section_item spelling) (here q) = ap (λ (r : Section). r.items) q
    go (section_item spelling) (there j) = absurd (Memᴰ.not-nil j)
    go (function_item f) j = absurd (Memᴰ.not-nil j)
    go (branch_item line block branch taken) j = absurd (Memᴰ.not-nil j)
    go (line_item line count checksum) j = absurd (Memᴰ.not-nil j)

section-entry : (report : Report) (s : Section) → Member s (sections report) → (i : Item) → Member i s.items → EntryOf i report
unfolding sections
section-entry [] s m i j = absurd (Memᴰ.not-nil m)
section-entry (e ∷ es) s m i j =
    later_entry i e es (⊎_elim
    (λ (k : Member s (section_here e (items_here es))). item-here es i (rw (section-here e (items_here es) s k) at j))
    (λ (k : Member s (sections es)). section-entry es s k i j)
    (Memᴰ.append_cases (section_here e (items_here es)) m))

section-more : (report : Report) → Valid report → (s : Section) → Member s (sections report) → (ranges : List Range) (a : Item)
    → Member a (filter_section NextStart ranges s).items → Member a (filter_section GreaterStart ranges s).items
unfolding filter_section
section-more report R s m ranges a =
    items_more ranges s.items (λ f i. let (e, k, q) = section-entry report s m f i in rw q at (start_fits e.item (R.fits e k))) a

-- ---- the answers

section-same : (ranges : List Range) (s : Section) → StartsDiffer (filter has_start (functions_of s.items))
    → filter_section GreaterStart ranges s ≡ filter_section NextStart ranges s
unfolding filter_section filter_items functions_of
section-same ranges s d =
    rw (held_same ranges (filter has_start (sort compare_printed (filter is_function s.items)))
    (ascend_select has_start (sort compare_printed (filter is_function s.items)) (ascend-sort (filter is_function s.items))) d)

map_same : {A B : Type 0} (f g : A → B) (l : List A) → ((a : A) → Member a l → f a ≡ g a) → map f l ≡ map g l
map_same f g [] h = refl
map_same f g (x ∷ xs) h = rw (h x (here refl), map_same f g xs (λ a i. h a (there i)))

module _ (tag : Kind → Bytes) where
  text_same : (text : Bytes) (slice : List Range) (used words room : ℕ)
      → ((report : Report) → read_text tag (entry_limit words) text ≡ accepted report → (s : Section) → Member s (sections report)
      → StartsDiffer (filter has_start (functions_of s.items)))
      → filter_text tag GreaterStart text slice used words room ≡ filter_text tag NextStart text slice used words room
  unfolding filter_text
  text_same text slice used words room d = go (well_formed_ranges slice used) (read_text tag (entry_limit words) text) refl
    where
      printed : Bound → Report → Answer Bytes
      printed bound report = written room (print_sections tag (map (filter_section bound (take used slice)) (sections report)))

      go : (t : Bool) (a : Answer Report) → read_text tag (entry_limit words) text ≡ a
          → (if t then (a >>= printed GreaterStart) else refuse MalformedRanges) ≡ (if t then (a >>= printed NextStart) else refuse MalformedRanges)
      go false a e = refl
      go true (refused r) e = refl
      go true (accepted report) e =
          ap (λ (l : List Section). written room (print_sections tag l))
          (map_same (filter_section GreaterStart (take used slice)) (filter_section NextStart (take used slice)) (sections report)
          (λ s i. section-same (take used slice) s (d report e s i)))

  pub filters : Filters tag
  filters = record {
    keeps_all = λ limit text report e. section-more report (read_text-valid tag limit text e).0;
    same = text_same;
  }
