-- The joined report is what the entries add up to: sorted, with what the entries of each key make, and exactly when they can be joined.
-- Assumes nothing.
use Prim.Native.Nat.{ℕ, Ordering}
use mathlib.Core.Path.{◌≡◌, refl, sym, ap, ◌∙◌}
use mathlib.Core.Logic.{◌↔◌}
use mathlib.Core.Bool.{Bool, true}
use mathlib.Core.List.Memᴰ
use mathlib.Core.List.Memᴰ.{head as here}
use mathlib.Core.List.Memᴰ.{tail as there}
use mathlib.Core.List.{List, [], ◌∷◌, Memᴰ as Member}
use mathlib.Core.Option.{Option, none, some, map as mapSome}
use Rattle.ordmap.specs.Result.{accepted, map_accepted}
use Rattle.ordmap.specs.Keyed.{by_order, Sorted, Keyed, find, with_key, join_all, add, add_all}
use Rattle.ordmap.proofs.Results.{accepted_inj}
use Rattle.ordmap.proofs.Maps.{ext}
use Rattle.ordmap.proofs.Members.{only_member, member_only, find_some, find_none, map-sorted, find-map}
use Rattle.ordmap.proofs.Adding.{add-sorted}
use Rattle.ordmap.proofs.Exact.{add_all-exactly}
use Rattle.model.specs.declared.Mode.TheVariants.{Checked}
use Rattle.model.specs.Lists.{all}
use Rattle.model.specs.Answer.{Answer}
use Rattle.model.specs.Report.{Item, item_key, section_item, function_item, branch_item, line_item, Entry, Report, Key, compare_keys, entry_key, combine_entries, in_section}
use Rattle.model.specs.Joined.{insert_key, distinct_keys, all_entries, HasKey, items_at, joined_as, joined_item, joined_entry, joined_report}
use Rattle.model.proofs.ListLaws.{all-each, each_all}
use Rattle.model.proofs.KeyOrder.{keys-order}
use Rattle.model.proofs.Items.{Counted, joinable, joins}
use Rattle.model.proofs.Entries.{entries_keyed, items, joined_at, entries_closed, exactly}

-- ---- an entry for each key

-- the earlier of two entries
abbrev keep : Entry → Entry → Answer Entry
keep x e = accepted x

keep_keyed : Keyed entry_key compare_keys keep
keep_keyed = record { keeps = λ {x} {e} {y} h p. ap entry_key (sym (accepted_inj p)) }

insert-adds : (e : Entry) (l : List Entry) → add entry_key compare_keys keep e l ≡ accepted (insert_key e l)
unfolding insert_key
insert-adds e [] = refl
insert-adds e (x ∷ xs) = go (compare_keys (entry_key e) (entry_key x)) (insert-adds e xs)
  where
    go : (o : Ordering) → add entry_key compare_keys keep e xs ≡ accepted (insert_key e xs)
        → by_order o (accepted (e ∷ x ∷ xs)) (accepted (x ∷ xs)) (map_accepted (λ ys. x ∷ ys) (add entry_key compare_keys keep e xs))
        ≡ accepted (elim o [ Ordering.lt ↦ e ∷ x ∷ xs | Ordering.eq ↦ x ∷ xs | Ordering.gt ↦ x ∷ insert_key e xs ])
    go Ordering.lt ih = refl
    go Ordering.eq ih = refl
    go Ordering.gt ih = ap (map_accepted (λ ys. x ∷ ys)) ih

distinct_sorted : (es : List Entry) → Sorted entry_key compare_keys (distinct_keys es)
unfolding distinct_keys
distinct_sorted [] = tt
distinct_sorted (e ∷ es) =
    add-sorted entry_key compare_keys keep keys-order keep_keyed e (distinct_keys es) (insert_key e (distinct_keys es)) (distinct_sorted es)
    (insert-adds e (distinct_keys es))

insert_member : (e : Entry) (l : List Entry) {a : Entry} → Member a (insert_key e l) → Member a (e ∷ l)
unfolding insert_key
insert_member e [] i = i
insert_member e (x ∷ xs) {a} i = go (compare_keys (entry_key e) (entry_key x)) i (λ j. insert_member e xs j)
  where
    past : Member a (e ∷ xs) → Member a (e ∷ x ∷ xs)
    past (here h) = here h
    past (there j) = there (there j)

    go : (o : Ordering) → Member a (elim o [ Ordering.lt ↦ e ∷ x ∷ xs | Ordering.eq ↦ x ∷ xs | Ordering.gt ↦ x ∷ insert_key e xs ])
        → (Member a (insert_key e xs) → Member a (e ∷ xs)) → Member a (e ∷ x ∷ xs)
    go Ordering.lt i ih = i
    go Ordering.eq i ih = there i
    go Ordering.gt (here h) ih = there (here h)
    go Ordering.gt (there i) ih = past (ih i)

insert-keeps : (e : Entry) (l : List Entry) {a : Entry} → Member a l → Member a (insert_key e l)
unfolding insert_key
insert-keeps e [] {a = a} i = elim i [ ]
insert-keeps e (x ∷ xs) {a} i = go (compare_keys (entry_key e) (entry_key x)) i (λ j. insert-keeps e xs j)
  where
    go : (o : Ordering) → Member a (x ∷ xs) → (Member a xs → Member a (insert_key e xs))
        → Member a (elim o [ Ordering.lt ↦ e ∷ x ∷ xs | Ordering.eq ↦ x ∷ xs | Ordering.gt ↦ x ∷ insert_key e xs ])
    go Ordering.lt i ih = there i
    go Ordering.eq i ih = i
    go Ordering.gt (here h) ih = here h
    go Ordering.gt (there i) ih = there (ih i)

insert-new : (e : Entry) (l : List Entry) → HasKey (entry_key e) (insert_key e l)
unfolding insert_key
insert-new e [] = (e, here refl, refl)
insert-new e (x ∷ xs) = go (compare_keys (entry_key e) (entry_key x)) refl (insert-new e xs)
  where
    go : (o : Ordering) → compare_keys (entry_key e) (entry_key x) ≡ o → HasKey (entry_key e) (insert_key e xs)
        → HasKey (entry_key e) (elim o [ Ordering.lt ↦ e ∷ x ∷ xs | Ordering.eq ↦ x ∷ xs | Ordering.gt ↦ x ∷ insert_key e xs ])
    go Ordering.lt p ih = (e, here refl, refl)
    go Ordering.eq p ih = (x, here refl, sym (keys-order.equal p))
    go Ordering.gt p (a, i, h) = (a, there i, h)

pub distinct_member : (es : List Entry) {a : Entry} → Member a (distinct_keys es) → Member a es
unfolding distinct_keys
distinct_member [] i = i
distinct_member (e ∷ es) {a} i = go (insert_member e (distinct_keys es) i) (λ j. distinct_member es j)
  where
    go : Member a (e ∷ distinct_keys es) → (Member a (distinct_keys es) → Member a es) → Member a (e ∷ es)
    go (here h) ih = here h
    go (there j) ih = there (ih j)

pub distinct_key : (es : List Entry) {a : Entry} → Member a es → HasKey (entry_key a) (distinct_keys es)
unfolding distinct_keys
distinct_key [] {a = a} x' = elim x' [ ]
distinct_key (e ∷ es) (here h) = rw (ap entry_key h) (insert-new e (distinct_keys es))
distinct_key (e ∷ es) (there i) =
    let (b, j, k) = distinct_key es i in
    (b, insert-keeps e (distinct_keys es) j, k)

-- ---- the joined report

joined_as-key : (j : Item) (js : List Item) → item_key (joined_as j js) ≡ item_key j
unfolding joined_as item_key
joined_as-key (section_item spelling) js = refl
joined_as-key (function_item f) js = refl
joined_as-key (branch_item line block branch taken) js = refl
joined_as-key (line_item line count checksum) js = refl

joined_item-key : (k : List ℕ) (is : List Item) {i : Item} → Member i is → ((j : Item) → Member j is → item_key j ≡ k) → item_key (joined_item is) ≡ k
unfolding joined_item
joined_item-key k [] {i = i} m h = elim m [ ]
joined_item-key k (j ∷ js) m h = joined_as-key j (j ∷ js) ∙ h j (here refl)

pub joinable_none : joinable [] ≡ true
unfolding joinable
joinable_none = refl

module _ (reports : List Report) where
  abbrev pub at : Key → List Entry
  at k = with_key entry_key compare_keys k (all_entries reports)

  pub joined_key : (a : Entry) → Member a (distinct_keys (all_entries reports)) → entry_key (joined_entry reports a) ≡ entry_key a
  unfolding joined_entry items_at entry_key
  joined_key a i =
      ap (λ (k : List ℕ). ((a.test, a.path), k))
      (joined_item-key (item_key a.item) (items (at (entry_key a)))
      (Memᴰ.map (λ e. e.item) (member_only entry_key compare_keys keys-order refl (distinct_member (all_entries reports) i))) each)
    where
      each : (j : Item) → Member j (items (at (entry_key a))) → item_key j ≡ item_key a.item
      each j m =
          let (f, n, q) = Memᴰ.of_map (λ e. e.item) (at (entry_key a)) m in
          ap item_key (sym q) ∙ ap (λ (k : Key). k.1) (only_member entry_key compare_keys keys-order (entry_key a) (all_entries reports) n).1

  pub joined-sorted : Sorted entry_key compare_keys (joined_report reports)
  unfolding joined_report
  joined-sorted =
      map-sorted entry_key compare_keys (joined_entry reports) (distinct_keys (all_entries reports)) joined_key (distinct_sorted (all_entries reports))

  -- at each key the joined report has what the entries of that key make
  pub joined-found : (k : Key) → find entry_key compare_keys k (joined_report reports) ≡ joined_at (at k)
  unfolding joined_report joined_entry items_at entry_key
  joined-found k =
      find-map entry_key compare_keys (joined_entry reports) k (distinct_keys (all_entries reports)) joined_key
      ∙ go (find entry_key compare_keys k (distinct_keys (all_entries reports))) refl (at k) refl
    where
      made : Key → List Entry → Entry
      made k l = in_section k.0 (joined_item (items l))

      go : (o : Option Entry) → find entry_key compare_keys k (distinct_keys (all_entries reports)) ≡ o → (l : List Entry) → at k ≡ l
          → mapSome (joined_entry reports) o ≡ joined_at l
      go none p [] q = refl
      go none p (e ∷ l) q =
          let (i, h) = only_member entry_key compare_keys keys-order k (all_entries reports) {a = e} (rw q (here refl)) in
          let (b, j, g) = distinct_key (all_entries reports) i in
          absurd (find_none entry_key compare_keys keys-order p j (g ∙ h))
      go (some d) p [] q =
          let (i, h) = find_some entry_key compare_keys keys-order k (distinct_keys (all_entries reports)) p in
          absurd (Memᴰ.not-nil (rw q at (member_only entry_key compare_keys keys-order h (distinct_member (all_entries reports) i))))
      go (some d) p (e ∷ l) q =
          let (i, h) = find_some entry_key compare_keys keys-order k (distinct_keys (all_entries reports)) p in
          let (j, g) = only_member entry_key compare_keys keys-order k (all_entries reports) {a = e} (rw q (here refl)) in
          ap (λ (k : Key). some (made k (at k))) h ∙ ap (λ (l : List Entry). some (made k l)) q ∙ ap (λ (k : Key). some (made k (e ∷ l))) (sym g)

  -- what all entries' keys pass, each key passes
  pub at_each : (test : List Item → Bool) → test [] ≡ true → all (λ e. test (items_at (entry_key e) reports)) (all_entries reports) ≡ true
      → (k : Key) → test (items (at k)) ≡ true
  unfolding items_at
  at_each test t h k = go (at k) refl
    where
      go : (l : List Entry) → at k ≡ l → test (items (at k)) ≡ true
      go [] q = rw q t
      go (x ∷ l) q =
          let (i, e) = only_member entry_key compare_keys keys-order k (all_entries reports) {a = x} (rw q (here refl)) in
          ap (λ (k : Key). test (items (at k))) (sym e) ∙ all-each (λ e. test (items (at (entry_key e)))) (all_entries reports) h x i

  module _ (counted : (e : Entry) → Member e (all_entries reports) → Counted e.item) where
    at_key : (k : Key) (u : Option Entry)
        → (join_all (combine_entries Checked) none (at k) ≡ accepted u) ↔ ((joinable (items (at k)) ≡ true) × (u ≡ joined_at (at k)))
    at_key k =
        exactly (join_all (combine_entries Checked) none (at k)) (joinable (items (at k))) (joined_at (at k))
        (entries_closed k (at k) (λ e i. (only_member entry_key compare_keys keys-order k (all_entries reports) i).1)
        (λ e i. counted e (only_member entry_key compare_keys keys-order k (all_entries reports) i).0))

    -- EXACTLY: the entries add up exactly when they can be joined at each key, and to the joined report
    pub report-exactly : (n : Report)
        → (add_all entry_key compare_keys (combine_entries Checked) (all_entries reports) [] ≡ accepted n)
        ↔ ((joins reports ≡ true) × (n ≡ joined_report reports))
    unfolding items_at
    report-exactly n = (to, from)
      where
        adds : (n : Report) → (add_all entry_key compare_keys (combine_entries Checked) (all_entries reports) [] ≡ accepted n)
            ↔ (Sorted entry_key compare_keys n × ((k : Key) → join_all (combine_entries Checked) none (at k) ≡ accepted (find entry_key compare_keys k n)))
        adds n = add_all-exactly entry_key compare_keys (combine_entries Checked) keys-order (entries_keyed Checked) (all_entries reports) [] n tt

        to : add_all entry_key compare_keys (combine_entries Checked) (all_entries reports) [] ≡ accepted n
            → (joins reports ≡ true) × (n ≡ joined_report reports)
        to p =
            let (s, f) = (adds n).0 p in (
              each_all (λ e. joinable (items_at (entry_key e) reports)) (all_entries reports)
                  (λ e i. ((at_key (entry_key e) (find entry_key compare_keys (entry_key e) n)).0 (f (entry_key e))).0),
              ext entry_key compare_keys keys-order n (joined_report reports) s joined-sorted
                  (λ k. ((at_key k (find entry_key compare_keys k n)).0 (f k)).1 ∙ sym (joined-found k)),
            )

        from : (joins reports ≡ true) × (n ≡ joined_report reports)
            → add_all entry_key compare_keys (combine_entries Checked) (all_entries reports) [] ≡ accepted n
        from (h, e) =
            (adds (joined_report reports)).1 (
              joined-sorted,
              λ k. (at_key k (find entry_key compare_keys k (joined_report reports))).1 (at_each joinable joinable_none h k, joined-found k),
            )
            ∙ ap (λ (r : Report). accepted r) (sym e)

-- ---- the joined report's keys and values

pub joined-keys : (reports : List Report) (key : Key) → HasKey key (joined_report reports) ↔ HasKey key (all_entries reports)
unfolding joined_report
joined-keys reports key = (to, from)
  where
    to : HasKey key (joined_report reports) → HasKey key (all_entries reports)
    to (e, i, h) =
        let (d, j, q) = Memᴰ.of_map (joined_entry reports) (distinct_keys (all_entries reports)) i in
        (d, distinct_member (all_entries reports) j, sym (joined_key reports d j) ∙ ap entry_key q ∙ h)

    from : HasKey key (all_entries reports) → HasKey key (joined_report reports)
    from (e, i, h) =
        let (d, j, q) = distinct_key (all_entries reports) i in
        (joined_entry reports d, Memᴰ.map (joined_entry reports) j, joined_key reports d j ∙ q ∙ h)

pub joined-values : (reports : List Report) (e : Entry) → Member e (joined_report reports) → e.item ≡ joined_item (items_at (entry_key e) reports)
unfolding joined_report joined_entry
joined-values reports e i =
    let (d, j, q) = Memᴰ.of_map (joined_entry reports) (distinct_keys (all_entries reports)) i in
    ap (λ (x : Entry). x.item) (sym q)
    ∙ ap (λ (k : Key). joined_item (items_at k reports)) (sym (joined_key reports d j) ∙ ap entry_key q)
