-- The lines of one printed section: the items that they leave are the section's. Assumes nothing.
use Prim.Native.Nat.{ℕ, suc, ◌+◌, ◌≤◌}
use native.Mathlib.Nat.{zero-add}
use native.Mathlib.Omega.{arith}
use mathlib.Core.Path.{◌≡◌, refl, sym, ap, ◌∙◌}
use mathlib.Core.Bool.{Bool, true, false, cond, true≢false}
use mathlib.Core.List.{List, [], ◌∷◌, ◌++◌}
use mathlib.Core.Option.{Option, none, some, IsSome}
use lib.Dec.{compare_is_eq, leb}
use lib.ListN.{length}
use borrow.Author.Tests.{le-leb}
use Rattle.ordmap.specs.Keyed.{Sorted, Keyed, find, add, step as meet}
use Rattle.ordmap.proofs.Maps.{some≢none, ext, find_head, keys-equal}
use Rattle.ordmap.proofs.Adding.{add-accepted}
use Rattle.ordmap.proofs.Sizes.{length_of_keys}
use Rattle.model.specs.Lists.{concat_map}
use Rattle.model.specs.Bytes.{Bytes, compare_bytes}
use Rattle.model.specs.Answer.{Answer, accepted}
use Rattle.model.specs.Limits.{u64_max}
use Rattle.model.specs.Record.{Record}
use Rattle.model.specs.Report.{Extent, Function, function_of, updated, Item, section_item, function_item, branch_item, line_item, Report, item_key, count_of, sum, within}
use Rattle.model.specs.Reading.{State, open_section, entries, replace, add_calls, enter_item, ignored, effect}
use Rattle.model.specs.Printing.{is_section, start_record, data_record, hits, group}
use Rattle.model.specs.Valid.{ItemFits}
use Rattle.model.proofs.KeyOrder.{bytes-order}
use Rattle.model.proofs.SortLaws.{Distinct}
use Rattle.model.proofs.Read.{replace_keyed, add_calls_keyed}
use Rattle.model.proofs.ListLaws.{All}
use Rattle.model.proofs.RunLaws.{take-effect, run, run-append}

-- ---- options

module _ {A : Type 0} where
  abbrev pub first : Option A → Option A → Option A
  first none o = o
  first (some a) o = some a

  abbrev pub through : (A → Option A) → Option A → Option A
  through f none = none
  through f (some a) = f a

  first_some : (o p : Option A) → IsSome p → IsSome (first o p)
  first_some none p i = i
  first_some (some a) p i = tt

  through_some : (f : A → Option A) (o : Option A) → IsSome (through f o) → IsSome o
  through_some f none i = i
  through_some f (some a) i = tt

-- ---- items by key

abbrev pub at : List ℕ → List Item → Option Item
at k items = find item_key compare_bytes k items

abbrev pub SortedItems : List Item → Type 0
SortedItems items = Sorted item_key compare_bytes items

abbrev pub DistinctItems : List Item → Type 0
DistinctItems items = Distinct item_key compare_bytes bytes-order items

abbrev pub InSection : Item → Type 0
InSection i = is_section i ≡ false

-- what the FN line of an item leaves
abbrev pub started : Item → Option Item
started (section_item spelling) = none
started (function_item f) = elim f.extent [ none ↦ none | some x ↦ some (function_item (updated f (some x) 0)) ]
started (branch_item line block branch taken) = none
started (line_item line count checksum) = none

-- ---- a section with items that is open

abbrev pub inside : Report → Bytes → Bytes → List Item → State
inside kept test path m = record { kept = kept; test = test; inside = true; path = some path; items = m }

-- what is held of the items still to come is what their FN lines left
abbrev pub Ready : List Item → List Item → Type 0
Ready m rest = (k : List ℕ) (e : Item) → at k rest ≡ some e → at k m ≡ started e

module _ (items : List Item) where
  -- m is what the lines of all items but `rest` leave, where the line of an item leaves `want` of it
  pub record Pass (want : Item → Option Item) (m rest : List Item) : Type 0 where
    pub sorted : SortedItems m
    pub distinct : DistinctItems rest
    pub meets : (k : List ℕ) → first (through want (at k rest)) (at k m) ≡ through want (at k items)

  pass_next : (want : Item → Option Item) (m n : List Item) (e : Item) (rest : List Item) → Pass want m (e ∷ rest) → SortedItems n
      → ((k : List ℕ) → at k n ≡ cond (compare_is_eq (compare_bytes k (item_key e))) (first (want e) (at k m)) (at k m))
      → Pass want n rest
  pass_next want m n e rest p s found =
      record { sorted = s; distinct = p.distinct.1; meets = λ k. go k (compare_is_eq (compare_bytes k (item_key e))) refl (found k) (p.meets k) }
    where
      go : (k : List ℕ) (b : Bool) → compare_is_eq (compare_bytes k (item_key e)) ≡ b → at k n ≡ cond b (first (want e) (at k m)) (at k m)
          → first (through want (cond b (some e) (at k rest))) (at k m) ≡ through want (at k items)
          → first (through want (at k rest)) (at k n) ≡ through want (at k items)
      go k true q f h =
          let none-there : at k rest ≡ none = rw (keys-equal item_key compare_bytes bytes-order q) p.distinct.0 in
          rw (none-there, f) h
      go k false q f h = rw f h

  among : (want : Item → Option Item) (m rest : List Item) → Pass want m rest → (k : List ℕ) → IsSome (at k m) → IsSome (at k items)
  among want m rest p k i =
      let w : IsSome (first (through want (at k rest)) (at k m)) = first_some (through want (at k rest)) (at k m) i in
      through_some want (at k items) (rw (p.meets k) at w)

module _ (limit : ℕ) (kept : Report) (test path : Bytes) (items : List Item) where
  abbrev holding : List Item → State
  holding m = inside kept test path m

  -- the entries of an open section whose items are among the section's
  counted : SortedItems items → length kept + suc (length items) ≤ limit → (m : List Item) → SortedItems m → ((k : List ℕ) → IsSome (at k m) → IsSome (at k items))
      → within limit (entries (holding m)) (holding m) ≡ accepted (holding m)
  unfolding within entries
  counted t room m s h =
      let n : length m ≤ length items = length_of_keys item_key compare_bytes bytes-order m items s t h in
      let l : leb (length kept + suc (length m)) limit ≡ true = le-leb (length kept + suc (length m)) limit (omega arith) in
      rw l

  -- ---- a line that adds an item

  module _ (t : SortedItems items) (room : length kept + suc (length items) ≤ limit) where
    entry_pass : (want : Item → Option Item) (combine : Item → Item → Answer Item) (r : Record) (m : List Item) (new e y : Item) (rest : List Item)
        → ((s : State) → effect r s ≡ enter_item combine new s)
        → Keyed item_key compare_bytes combine → item_key new ≡ item_key e → want e ≡ some y
        → meet combine (at (item_key e) m) new ≡ accepted y
        → Pass items want m (e ∷ rest)
        → (n : List Item) × (take-effect limit r (holding m) ≡ accepted (holding n)) × Pass items want n rest
        × ((k : List ℕ) → at k n ≡ cond (compare_is_eq (compare_bytes k (item_key e))) (some y) (at k m))
    unfolding enter_item open_section
    entry_pass want combine r m new e y rest eff C kn w h p = go (add-accepted item_key compare_bytes combine bytes-order C new m p.sorted (rw kn h))
      where
        go : (n : List Item) × (add item_key compare_bytes combine new m ≡ accepted n) × SortedItems n
            × ((k : List ℕ) → at k n ≡ cond (compare_is_eq (compare_bytes k (item_key new))) (some y) (at k m))
            → (n : List Item) × (take-effect limit r (holding m) ≡ accepted (holding n)) × Pass items want n rest
            × ((k : List ℕ) → at k n ≡ cond (compare_is_eq (compare_bytes k (item_key e))) (some y) (at k m))
        go (n, q, s, f) = (n, rw (eff (holding m), q) (counted t room n s (among items want n rest next)), next, found)
          where
            found : (k : List ℕ) → at k n ≡ cond (compare_is_eq (compare_bytes k (item_key e))) (some y) (at k m)
            found k = f k ∙ ap (λ (j : List ℕ). cond (compare_is_eq (compare_bytes k j)) (some y) (at k m)) kn

            next : Pass items want n rest
            next = pass_next items want m n e rest p s (λ k. found k ∙ rw w)

    -- ---- FN lines

    replaced : (o : Option Item) (e : Item) → meet replace o e ≡ accepted e
    replaced none e = refl
    replaced (some x) e = refl

    start_skip : (m : List Item) (e : Item) (rest : List Item) → started e ≡ none → Pass items started m (e ∷ rest) → Pass items started m rest
    start_skip m e rest w p = pass_next items started m m e rest p p.sorted (λ k. rw w (go (compare_is_eq (compare_bytes k (item_key e))) (at k m)))
      where
        go : (b : Bool) (o : Option Item) → o ≡ cond b o o
        go true o = refl
        go false o = refl

    start-one : (m : List Item) (e : Item) (rest : List Item) → Pass items started m (e ∷ rest)
        → (n : List Item) × (run limit (start_record e) (holding m) ≡ accepted (holding n)) × Pass items started n rest
    unfolding start_record run effect item_key
    start-one m (section_item spelling) rest p = (m, refl, start_skip m (section_item spelling) rest refl p)
    start-one m (function_item f) rest p = go f.extent p
      where
        item : Option Extent → Item
        item extent = function_item (updated f extent f.count)

        go : (extent : Option Extent) → Pass items started m (item extent ∷ rest)
            → (n : List Item) × (run limit (start_record (item extent)) (holding m) ≡ accepted (holding n)) × Pass items started n rest
        go none p = (m, refl, start_skip m (item none) rest refl p)
        go (some x) p =
            let y : Item = function_item (updated f (some x) 0) in
            let (n, q, next, found) = entry_pass started replace (Record.function_name x.start x.end f.name) m y (item (some x)) y rest (λ s. refl) replace_keyed refl refl (replaced (at (item_key y) m) y) p in
            (n, rw q, next)
    start-one m (branch_item line block branch taken) rest p = (m, refl, start_skip m (branch_item line block branch taken) rest refl p)
    start-one m (line_item line count checksum) rest p = (m, refl, start_skip m (line_item line count checksum) rest refl p)

    pub start_pass : (m es : List Item) → Pass items started m es
        → (n : List Item) × (run limit (concat_map start_record es) (holding m) ≡ accepted (holding n)) × Pass items started n []
    unfolding concat_map run
    start_pass m [] p = (m, refl, p)
    start_pass m (e ∷ es) p =
        let (n, q, next) = start-one m e es p in
        let (l, q', last) = start_pass n es next in
        (l, run-append limit (start_record e) (concat_map start_record es) (holding m) (holding n) q ∙ q', last)

    -- ---- FNDA, BRDA and DA lines

    ready_next : (m n : List Item) (e : Item) (rest : List Item) → DistinctItems (e ∷ rest) → Ready m (e ∷ rest)
        → ((k : List ℕ) → at k n ≡ cond (compare_is_eq (compare_bytes k (item_key e))) (some e) (at k m)) → Ready n rest
    ready_next m n e rest d h found k x q = go (compare_is_eq (compare_bytes k (item_key e))) refl (found k) (h k x)
      where
        go : (b : Bool) → compare_is_eq (compare_bytes k (item_key e)) ≡ b → at k n ≡ cond b (some e) (at k m)
            → (cond b (some e) (at k rest) ≡ some x → at k m ≡ started x) → at k n ≡ started x
        go true b f g =
            let none-there : at k rest ≡ none = rw (keys-equal item_key compare_bytes bytes-order b) d.0 in
            absurd (some≢none (sym q ∙ none-there))
        go false b f g = f ∙ g q

    data_entry : (combine : Item → Item → Answer Item) (r : Record) (m : List Item) (new e : Item) (rest : List Item)
        → ((s : State) → effect r s ≡ enter_item combine new s) → Keyed item_key compare_bytes combine → item_key new ≡ item_key e
        → meet combine (started e) new ≡ accepted e
        → Pass items some m (e ∷ rest) → Ready m (e ∷ rest)
        → (n : List Item) × (run limit (r ∷ []) (holding m) ≡ accepted (holding n)) × Pass items some n rest × Ready n rest
    unfolding run
    data_entry combine r m new e rest eff C kn h p ready =
        let held : at (item_key e) m ≡ started e = ready (item_key e) e (find_head item_key compare_bytes bytes-order e rest) in
        let (n, q, next, f) = entry_pass some combine r m new e e rest eff C kn refl (rw held h) p in
        (n, rw q, next, ready_next m n e rest p.distinct ready f)

    add_to_start : (f : Function) → f.count ≤ u64_max
        → meet add_calls (started (function_item f)) (function_item (function_of f.name none f.count)) ≡ accepted (function_item f)
    unfolding add_calls sum count_of
    add_to_start f h = go f.extent
      where
        item : Option Extent → Item
        item extent = function_item (updated f extent f.count)

        go : (extent : Option Extent) → meet add_calls (started (item extent)) (item none) ≡ accepted (item extent)
        go none = refl
        go (some x) = rw (zero-add f.count) (rw (le-leb f.count u64_max h))

    data_one : (m : List Item) (e : Item) (rest : List Item) → InSection e → ItemFits e → Pass items some m (e ∷ rest) → Ready m (e ∷ rest)
        → (n : List Item) × (run limit (data_record e) (holding m) ≡ accepted (holding n)) × Pass items some n rest × Ready n rest
    unfolding data_record effect item_key is_section
    data_one m (section_item spelling) rest i f p ready = absurd (true≢false i)
    data_one m (function_item fn) rest i f p ready =
        let new : Item = function_item (function_of fn.name none fn.count) in
        data_entry add_calls (Record.function_data fn.count fn.name) m new (function_item fn) rest (λ s. refl) add_calls_keyed refl (add_to_start fn f.2) p ready
    data_one m (branch_item line block branch taken) rest i f p ready =
        let e : Item = branch_item line block branch taken in
        data_entry replace (Record.branch_data line block branch taken) m e e rest (λ s. refl) replace_keyed refl refl p ready
    data_one m (line_item line count checksum) rest i f p ready =
        let e : Item = line_item line count checksum in
        data_entry replace (Record.line_data line count checksum) m e e rest (λ s. refl) replace_keyed refl refl p ready

    data_pass : (m es rest : List Item) → All InSection es → All ItemFits es → Pass items some m (es ++ rest) → Ready m (es ++ rest)
        → (n : List Item) × (run limit (concat_map data_record es) (holding m) ≡ accepted (holding n)) × Pass items some n rest × Ready n rest
    unfolding concat_map run
    data_pass m [] rest i f p ready = (m, refl, p, ready)
    data_pass m (e ∷ es) rest i f p ready =
        let (n, q, next, ready') = data_one m e (es ++ rest) i.0 f.0 p ready in
        let (l, q', last, ready'') = data_pass n es rest i.1 f.1 next ready' in
        (l, run-append limit (data_record e) (concat_map data_record es) (holding m) (holding n) q ∙ q', last, ready'')

    -- ---- a group

    ignored-one : (r : Record) (m rest : List Item) → ((s : State) → effect r s ≡ ignored s) → Pass items some m rest
        → take-effect limit r (holding m) ≡ accepted (holding m)
    unfolding ignored open_section
    ignored-one r m rest eff p = rw (eff (holding m)) (counted t room m p.sorted (among items some m rest p))

    pub group_pass : (found hit : ℕ → Record) → ((n : ℕ) (s : State) → effect (found n) s ≡ ignored s) → ((n : ℕ) (s : State) → effect (hit n) s ≡ ignored s)
        → (m es rest : List Item) → All InSection es → All ItemFits es → Pass items some m (es ++ rest) → Ready m (es ++ rest)
        → (n : List Item) × (run limit (group found hit es) (holding m) ≡ accepted (holding n)) × Pass items some n rest × Ready n rest
    unfolding group run
    group_pass found hit ef eh m [] rest i f p ready = (m, refl, p, ready)
    group_pass found hit ef eh m (e ∷ es) rest i f p ready =
        let (n, q, next, ready') = data_pass m (e ∷ es) rest i f p ready in
        let tail : List Record = found (length (e ∷ es)) ∷ hit (hits (e ∷ es)) ∷ [] in (
          n,
          run-append limit (concat_map data_record (e ∷ es)) tail (holding m) (holding n) q
              ∙ rw (ignored-one (found (length (e ∷ es))) n rest (ef (length (e ∷ es))) next, ignored-one (hit (hits (e ∷ es))) n rest (eh (hits (e ∷ es))) next),
          next,
          ready',
        )

    -- ---- all the lines that add items, in printing order

    -- what the FN lines leave is ready for the others
    pub after-starts : (m all : List Item) → ((k : List ℕ) → at k all ≡ at k items) → DistinctItems all → Pass items started m [] → Pass items some m all × Ready m all
    after-starts m all same d p =
        (record { sorted = p.sorted; distinct = d; meets = λ k. rw (same k) (go (at k items) (at k m) (p.meets k)) }, ready)
      where
        go : (o h : Option Item) → h ≡ through started o → first (through some o) h ≡ through some o
        go none h q = q
        go (some e) h q = refl

        ready : Ready m all
        ready k e q = p.meets k ∙ ap (through started) (sym (same k) ∙ q)

    pub all_entered : (m : List Item) → Pass items some m [] → m ≡ items
    all_entered m p = ext item_key compare_bytes bytes-order m items p.sorted t (λ k. p.meets k ∙ go (at k items))
      where
        go : (o : Option Item) → through some o ≡ o
        go none = refl
        go (some e) = refl
