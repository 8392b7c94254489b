-- What reading yields: a report sorted strictly by key, in range, each section with its own entry and something in it. Assumes nothing.
use Prim.Native.Nat.{ℕ, suc, ◌+◌, ◌≤◌, zero-le, Ordering}
use native.Mathlib.Omega.{arith}
use mathlib.Core.Path.{◌≡◌, refl, sym, ap, ◌∙◌}
use mathlib.Core.Logic.{⊎_elim}
use mathlib.Core.Bool.{Bool, true, false, true≢false}
use mathlib.Core.List.Memᴰ
use mathlib.Core.List.Memᴰ.{head as here}
use mathlib.Core.List.Memᴰ.{tail as there}
use mathlib.Core.List.{List, [], ◌∷◌, ◌++◌, map, Memᴰ as Member}
use mathlib.Core.Option.{Option, none, some}
use lib.Dec.{compare_is_eq, leb}
use lib.ListN.{length}
use borrow.Author.Tests.{leb-true}
use Rattle.ordmap.specs.Keyed.{Above, Sorted, Keyed, add}
use Rattle.ordmap.proofs.Results.{accepted_inj, not_accepted, bind-accepted}
use Rattle.ordmap.proofs.Members.{above-each, sorted-append, add-each}
use Rattle.ordmap.proofs.Orderings.{is_eq}
use Rattle.ordmap.proofs.Adding.{add-sorted}
use Rattle.ordmap.proofs.Gathered.{within-accepted, map_refused-accepted}
use Rattle.model.specs.declared.Fault.{Fault}
use Rattle.model.specs.declared.Fault.TheVariants.{UnexpectedRecord, UnexpectedEof, CallOverflow, TooManyEntries, SecondSourceFile}
use Rattle.model.specs.declared.Kind.{Kind}
use Rattle.model.specs.Order.{is_less, is_greater}
use Rattle.std.specs.Prelude.{if◌then◌else◌}
use Rattle.model.specs.Lists.{filter}
use Rattle.model.specs.Bytes.{Bytes, compare_bytes}
use Rattle.model.specs.Path.{components}
use Rattle.model.specs.Answer.{Answer, accepted, refused, refuse, on_line}
use Rattle.model.specs.Limits.{u64_max}
use Rattle.model.specs.Record.{
  Record,
  test_name,
  source_file,
  function_name,
  function_data,
  functions_found,
  functions_hit,
  branch_data,
  branches_found,
  branches_hit,
  line_data,
  lines_found,
  lines_hit,
  end_of_record,
}
use Rattle.model.specs.Line.{read_record}
use Rattle.model.specs.Report.{extent_at, function_of, Item, section_item, function_item, branch_item, line_item, item_key, Entry, Report, SectionKey, section_key, compare_sections, compare_keys, entry_key, count_of, sum, within, in_section}
use Rattle.model.specs.Reading.{
  lines,
  State,
  outside,
  open_section,
  entries,
  path_or,
  spelling_of,
  replace_section,
  keep_section,
  replace,
  add_calls,
  enter_item,
  ignored,
  name_section,
  effect,
  step,
  read_lines,
  read_text,
}
use Rattle.model.specs.Printing.{is_section}
use Rattle.model.specs.Valid.{LineText, ItemFits, Valid}
use Rattle.model.proofs.ListLaws.{select_member, member_select, select_sorted}
use Rattle.model.proofs.KeyOrder.{bytes-order, sections-order}
use Rattle.model.proofs.Clean.{clean_none, Lines, lines-free, RecordFits, read_record-fits}

-- ---- the invariant

-- the state between two lines
pub record Reading (s : State) : Type 0 where
  pub kept : Valid s.kept
  pub test : LineText s.test
  pub path : LineText (path_or s.path)
  pub sorted : Sorted item_key compare_bytes s.items
  pub fits : (i : Item) → Member i s.items → ItemFits i × (is_section i ≡ false)

-- ---- comparisons

is-less : (o : Ordering) → is_less o ≡ true → o ≡ Ordering.lt
is-less Ordering.lt h = refl
is-less Ordering.eq h = cc
is-less Ordering.gt h = cc

is_greater_lem : (o : Ordering) → is_greater o ≡ true → o ≡ Ordering.gt
is_greater_lem Ordering.lt h = cc
is_greater_lem Ordering.eq h = cc
is_greater_lem Ordering.gt h = refl

-- ---- keys

section-less : (a b : Entry) → compare_sections (section_key a) (section_key b) ≡ Ordering.lt → compare_keys (entry_key a) (entry_key b) ≡ Ordering.lt
unfolding compare_keys entry_key
section-less a b h = rw h

own_first : (p : Bytes) (i : Item) → is_section i ≡ false → compare_bytes (item_key (section_item p)) (item_key i) ≡ Ordering.lt
unfolding item_key compare_bytes is_section
own_first p (section_item spelling) h = absurd (true≢false h)
own_first p (function_item f) h = refl
own_first p (branch_item line block branch taken) h = refl
own_first p (line_item line count checksum) h = refl

-- the items of one section, as entries
module _ (s : SectionKey) where
  in_section_lem : (i j : Item) → compare_keys (entry_key (in_section s i)) (entry_key (in_section s j)) ≡ compare_bytes (item_key i) (item_key j)
  unfolding compare_keys entry_key
  in_section_lem i j = let e : compare_sections s s ≡ Ordering.eq = sections-order.same s in rw e

  in_above : (i : Item) (l : List Item) → Above item_key compare_bytes (item_key i) l → Above entry_key compare_keys (entry_key (in_section s i)) (map (in_section s) l)
  in_above i [] h = tt
  in_above i (j ∷ l) h = (in_section_lem i j ∙ h.0, in_above i l h.1)

  in_sorted : (l : List Item) → Sorted item_key compare_bytes l → Sorted entry_key compare_keys (map (in_section s) l)
  in_sorted [] h = tt
  in_sorted (i ∷ l) h = (in_above i l h.0, in_sorted l h.1)

-- ---- the end of a section

module _ (test path : Bytes) (items : List Item) (first : Item) (m : Member first items) (kept : Report) (R : Valid kept) (ct : LineText test)
    (cp : LineText path) (si : Sorted item_key compare_bytes items) (fi : (i : Item) → Member i items → ItemFits i × (is_section i ≡ false)) where
  abbrev key : SectionKey
  key = (test, components path)

  abbrev side : (Ordering → Bool) → Report
  side holds = filter (λ e. holds (compare_sections key (section_key e))) kept

  abbrev own : Bytes
  own = spelling_of path (side compare_is_eq)

  abbrev mid : Report
  mid = map (in_section key) (section_item own ∷ items)

  side_member : (holds : Ordering → Bool) {e : Entry} → Member e (side holds) → Member e kept × (holds (compare_sections key (section_key e)) ≡ true)
  side_member holds i = select_member (λ e. holds (compare_sections key (section_key e))) kept i

  own_good : LineText own × (components own ≡ components path)
  unfolding spelling_of
  own_good = go (side compare_is_eq) refl
    where
      at : (e : Entry) → Member e kept → section_key e ≡ key → (i : Item) → e.item ≡ i → (l : Report)
          → LineText (spelling_of path (in_section (section_key e) i ∷ l))
          × (components (spelling_of path (in_section (section_key e) i ∷ l)) ≡ components path)
      at e n k (section_item p) q l = (rw q at (R.fits e n), R.spelled e p n q ∙ ap (λ (s : SectionKey). s.1) k)
      at e n k (function_item f) q l = (cp, refl)
      at e n k (branch_item line block branch taken) q l = (cp, refl)
      at e n k (line_item line count checksum) q l = (cp, refl)

      go : (l : Report) → side compare_is_eq ≡ l → LineText (spelling_of path l) × (components (spelling_of path l) ≡ components path)
      go [] q = (cp, refl)
      go (e ∷ l) q =
          let (n, h) = side_member compare_is_eq {e = e} (rw q (here refl)) in
          at e n (sym (sections-order.equal (is_eq (compare_sections key (section_key e)) h))) e.item refl l

  less_side : {a : Entry} → Member a (side is_greater) → compare_sections (section_key a) key ≡ Ordering.lt
  less_side {a} i = sections-order.less (is_greater_lem (compare_sections key (section_key a)) (side_member is_greater i).1)

  greater_side : {a : Entry} → Member a (side is_less) → compare_sections key (section_key a) ≡ Ordering.lt
  greater_side {a} i = is-less (compare_sections key (section_key a)) (side_member is_less i).1

  mid_key : {b : Entry} → Member b mid → section_key b ≡ key
  mid_key j = let (i, n, q) = Memᴰ.of_map (in_section key) (section_item own ∷ items) j in ap section_key (sym q)

  abbrev all_three : Report
  all_three = side is_greater ++ (mid ++ side is_less)

  three_sorted : Sorted entry_key compare_keys all_three
  three_sorted =
      sorted-append entry_key compare_keys (side is_greater) (mid ++ side is_less)
      (select_sorted (λ e. is_greater (compare_sections key (section_key e))) entry_key compare_keys kept R.sorted)
      (sorted-append entry_key compare_keys mid (side is_less)
      (in_sorted key (section_item own ∷ items)
      (above-each item_key compare_bytes (item_key (section_item own)) items (λ i n. own_first own i (fi i n).1), si))
      (select_sorted (λ e. is_less (compare_sections key (section_key e))) entry_key compare_keys kept R.sorted)
      (λ a b i j. section-less a b (ap (λ (s : SectionKey). compare_sections s (section_key b)) (mid_key i) ∙ greater_side j)))
      (λ a b i j. ⊎_elim (λ n. section-less a b (ap (λ (s : SectionKey). compare_sections (section_key a) s) (mid_key n) ∙ less_side i))
      (λ n. section-less a b (sections-order.trans (less_side i) (greater_side n))) (Memᴰ.append_cases mid j))

  -- an entry of the result is a kept one of another section, with all its section, or one of this section
  three_cases : {P : Type 0} {e : Entry} → Member e all_three
      → (Member e kept → ((f : Entry) → Member f kept → section_key f ≡ section_key e → Member f all_three) → P)
      → ((i : Item) → Member i (section_item own ∷ items) → in_section key i ≡ e → P) → P
  three_cases {P} {e} n other this = ⊎_elim low (λ h. ⊎_elim here_in high (Memᴰ.append_cases mid h)) (Memᴰ.append_cases (side is_greater) n)
    where
      same : (holds : Ordering → Bool) {f : Entry} → Member e (side holds) → Member f kept → section_key f ≡ section_key e → Member f (side holds)
      same holds i j q =
          member_select (λ x. holds (compare_sections key (section_key x))) kept j
          (ap (λ (s : SectionKey). holds (compare_sections key s)) q ∙ (side_member holds i).1)

      low : Member e (side is_greater) → P
      low i = other (side_member is_greater i).0 (λ f j q. Memᴰ.append_left (mid ++ side is_less) (same is_greater i j q))

      high : Member e (side is_less) → P
      high i = other (side_member is_less i).0 (λ f j q. Memᴰ.append_right (side is_greater) (Memᴰ.append_right mid (same is_less i j q)))

      here_in : Member e mid → P
      here_in i = let (x, j, q) = Memᴰ.of_map (in_section key) (section_item own ∷ items) i in this x j q

  in_mid : {i : Item} → Member i (section_item own ∷ items) → Member (in_section key i) all_three
  in_mid i = Memᴰ.append_right (side is_greater) (Memᴰ.append_left (side is_less) (Memᴰ.map (in_section key) i))

  pub replace-valid : Valid all_three
  unfolding is_section
  replace-valid =
      record {
        sorted = three_sorted;
        tests = λ e n. three_cases n (λ i s. R.tests e i) (λ i j q. rw (← q) ct);
        fits = λ e n. three_cases n (λ i s. R.fits e i) (λ i j q. rw (← q) (item-fits j));
        spelled = λ e p n q. three_cases n (λ i s. R.spelled e p i q) (λ i j r. own_spelled i p j (ap (λ (x : Entry). x.item) r ∙ q) ∙ ap (λ (x : Entry). x.path) r);
        headed = λ e n. three_cases n (λ i s. let (p, j) = R.headed e i in (p, s (in_section (section_key e) (section_item p)) j refl)) (λ i j q. (own, rw (← q) (in_mid (here refl))));
        filled =
            λ e n. three_cases n (λ i s. let (f, j, k, l) = R.filled e i in (f, s f j k, k, l))
            (λ i j q. (in_section key first, in_mid (there m), ap section_key q, (fi first m).1));
      }
    where
      item-fits : {i : Item} → Member i (section_item own ∷ items) → ItemFits i
      item-fits (here h) = rw h own_good.0
      item-fits (there j) = (fi _ j).0

      own_spelled : (i : Item) (p : Bytes) → Member i (section_item own ∷ items) → i ≡ section_item p → components p ≡ components path
      own_spelled i p (here h) q = let e : p ≡ own = cc in ap components e ∙ own_good.1
      own_spelled i p (there j) q = absurd (true≢false (sym (ap is_section q) ∙ (fi i j).1))

keep_valid : (test path : Bytes) (items : List Item) (kept : Report) → Valid kept → LineText test → LineText path → Sorted item_key compare_bytes items
    → ((i : Item) → Member i items → ItemFits i × (is_section i ≡ false)) → Valid (keep_section test path items kept)
unfolding keep_section replace_section
keep_valid test path [] kept R ct cp si fi = R
keep_valid test path (i ∷ items) kept R ct cp si fi = replace-valid test path (i ∷ items) i (here refl) kept R ct cp si fi

-- ---- the effect of a record

pub replace_keyed : Keyed item_key compare_bytes replace
replace_keyed = record { keeps = λ {x} {e} {y} h p. ap item_key (sym (accepted_inj p)) ∙ sym h }

pub sum_fits : (fault : Fault) (a b : ℕ) {n : ℕ} → sum fault a b ≡ accepted n → n ≤ u64_max
unfolding sum
sum_fits fault a b {n} p = go (leb (a + b) u64_max) refl p
  where
    go : (t : Bool) → leb (a + b) u64_max ≡ t → ◌≡◌ {A = Answer ℕ} (if t then accepted (a + b) else refuse fault) (accepted n) → n ≤ u64_max
    go true e q = omega (arith, accepted_inj q, leb-true (a + b) u64_max e)
    go false e q = absurd (not_accepted q)

pub add_calls_keyed : Keyed item_key compare_bytes add_calls
unfolding add_calls item_key
add_calls_keyed = record { keeps = λ {x} {e} {y} h p. kept x e y h p }
  where
    kept : (x e y : Item) → item_key x ≡ item_key e → add_calls x e ≡ accepted y → item_key y ≡ item_key x
    kept (section_item spelling) e y h p = ap item_key (sym (accepted_inj p)) ∙ sym h
    kept (function_item f) e y h p =
        let (n, q, g) = bind-accepted (sum CallOverflow f.count (count_of e)) _ p in
        ap item_key (sym (accepted_inj g))
    kept (branch_item line block branch taken) e y h p = ap item_key (sym (accepted_inj p)) ∙ sym h
    kept (line_item line count checksum) e y h p = ap item_key (sym (accepted_inj p)) ∙ sym h

-- an item of the open section
abbrev OpenItem : Item → Type 0
OpenItem i = ItemFits i × (is_section i ≡ false)

add_calls-fits : (e : Item) → OpenItem e → (x y : Item) → OpenItem x → add_calls x e ≡ accepted y → OpenItem y
unfolding add_calls is_section
add_calls-fits e g (section_item spelling) y h p = rw (← (accepted_inj p)) g
add_calls-fits e g (function_item f) y h p =
    let (n, q, a) = bind-accepted (sum CallOverflow f.count (count_of e)) _ p in
    rw (← (accepted_inj a)) ((h.0.0, h.0.1, sum_fits CallOverflow f.count (count_of e) q), refl)
add_calls-fits e g (branch_item line block branch taken) y h p = rw (← (accepted_inj p)) g
add_calls-fits e g (line_item line count checksum) y h p = rw (← (accepted_inj p)) g

open_reading : (s : State) (path : Option Bytes) (items : List Item) → Reading s → LineText (path_or path) → Sorted item_key compare_bytes items
    → ((i : Item) → Member i items → OpenItem i) → Reading (open_section s path items)
unfolding open_section
open_reading s path items R cp si fi = record { kept = R.kept; test = R.test; path = cp; sorted = si; fits = fi }

outside_reading : (kept : Report) (test : Bytes) → Valid kept → LineText test → Reading (outside kept test)
unfolding outside
outside_reading kept test R ct =
    record { kept = R; test = ct; path = clean_none; sorted = tt; fits = λ i m. absurd (Memᴰ.not-nil m) }

enter_reading : (combine : Item → Item → Answer Item) (i : Item) (s : State) {t : State} → Keyed item_key compare_bytes combine → OpenItem i
    → ((x y : Item) → OpenItem x → combine x i ≡ accepted y → OpenItem y) → Reading s → enter_item combine i s ≡ accepted t → Reading t
unfolding enter_item
enter_reading combine i s C g h R p =
    let (items, q, f) = bind-accepted (add item_key compare_bytes combine i s.items) _ p in
    rw (← (accepted_inj f))
    (open_reading s s.path items R R.path (add-sorted item_key compare_bytes combine bytes-order C i s.items items R.sorted q)
    (add-each item_key compare_bytes combine OpenItem i s.items items g h R.fits q))

ignored_reading : (s : State) {t : State} → Reading s → ignored s ≡ accepted t → Reading t
unfolding ignored
ignored_reading s R p = rw (← (accepted_inj p)) (open_reading s s.path s.items R R.path R.sorted R.fits)

replaced : (i : Item) → OpenItem i → (x y : Item) → OpenItem x → replace x i ≡ accepted y → OpenItem y
replaced i g x y h p = rw (← (accepted_inj p)) g

effect_reading : (r : Record) (s : State) {t : State} → RecordFits r → Reading s → effect r s ≡ accepted t → Reading t
unfolding effect name_section is_section
effect_reading (test_name name) s {t} f R p = go s.inside p
  where
    go : (b : Bool) → ◌≡◌ {A = Answer State} (if b then refuse UnexpectedRecord else accepted (outside s.kept name)) (accepted t) → Reading t
    go true q = absurd (not_accepted q)
    go false q = rw (← (accepted_inj q)) (outside_reading s.kept name R.kept f)
effect_reading (source_file path) s {t} f R p = go s.path p
  where
    go : (o : Option Bytes) → ◌≡◌ {A = Answer State} (elim o [ none ↦ accepted (open_section s (some path) s.items) | some earlier ↦ refuse SecondSourceFile ]) (accepted t) → Reading t
    go none q = rw (← (accepted_inj q)) (open_reading s (some path) s.items R f R.sorted R.fits)
    go (some earlier) q = absurd (not_accepted q)
effect_reading (function_name start end name) s f R p =
    let e : Item = function_item (function_of name (some (extent_at start end)) 0) in
    let g : OpenItem e = ((f.1, f.0, zero-le), refl) in
    enter_reading replace e s replace_keyed g (replaced e g) R p
effect_reading (function_data count name) s f R p =
    let e : Item = function_item (function_of name none count) in
    let g : OpenItem e = ((f.1, tt, f.0), refl) in
    enter_reading add_calls e s add_calls_keyed g (add_calls-fits e g) R p
effect_reading (functions_found found) s f R p = ignored_reading s R p
effect_reading (functions_hit hit) s f R p = ignored_reading s R p
effect_reading (branch_data line block branch taken) s f R p =
    let g : OpenItem (branch_item line block branch taken) = (f, refl) in
    enter_reading replace (branch_item line block branch taken) s replace_keyed g (replaced (branch_item line block branch taken) g) R p
effect_reading (branches_found found) s f R p = ignored_reading s R p
effect_reading (branches_hit hit) s f R p = ignored_reading s R p
effect_reading (line_data line count checksum) s f R p =
    let g : OpenItem (line_item line count checksum) = (f, refl) in
    enter_reading replace (line_item line count checksum) s replace_keyed g (replaced (line_item line count checksum) g) R p
effect_reading (lines_found found) s f R p = ignored_reading s R p
effect_reading (lines_hit hit) s f R p = ignored_reading s R p
effect_reading end_of_record s f R p =
    rw (← (accepted_inj p))
    (outside_reading (keep_section s.test (path_or s.path) s.items s.kept) []
    (keep_valid s.test (path_or s.path) s.items s.kept R.kept R.test R.path R.sorted R.fits) clean_none)

-- ---- a text

-- an empty report is valid
pub empty_valid : Valid []
empty_valid =
    record {
      sorted = tt;
      tests = λ e i. absurd (Memᴰ.not-nil i);
      fits = λ e i. absurd (Memᴰ.not-nil i);
      spelled = λ e p i q. absurd (Memᴰ.not-nil i);
      headed = λ e i. absurd (Memᴰ.not-nil i);
      filled = λ e i. absurd (Memᴰ.not-nil i);
    }

-- the kept report is no longer than what is counted
kept-entries : (s : State) → length s.kept ≤ entries s
unfolding entries
kept-entries s = omega arith

module _ (tag : Kind → Bytes) where
  -- one line: the state stays as it should be, and within the limit
  step_reading : (limit : ℕ) (bytes : Bytes) (s : State) {t : State} → Lines (bytes ∷ []) → Reading s → step tag limit bytes s ≡ accepted t
      → Reading t × (entries t ≤ limit)
  unfolding step within
  step_reading limit bytes s {t} l R p =
      let (r, e, q) = bind-accepted (read_record tag bytes) _ p in
      let (u, f, g) = bind-accepted (effect r s) _ q in
      let (h, i) = within-accepted (record { fault = TooManyEntries; text = 0; line = 0; field = 0; needed = 0 }) limit (entries u) u g in
      (rw (← h) (effect_reading r s (read_record-fits tag bytes l.0 e) R f), rw (← h) i)

  read_lines-valid : (limit k : ℕ) (ls : List Bytes) (s : State) {report : Report} → Lines ls → Reading s → entries s ≤ limit
      → read_lines tag limit k ls s ≡ accepted report → Valid report × (length report ≤ limit)
  unfolding read_lines
  read_lines-valid limit k [] s {report} l R h p = go s.inside p
    where
      go : (b : Bool) → ◌≡◌ {A = Answer Report} (if b then on_line k (refuse UnexpectedEof) else accepted s.kept) (accepted report)
          → Valid report × (length report ≤ limit)
      go true q = absurd (not_accepted q)
      go false q = (rw (← (accepted_inj q)) R.kept, omega (arith, h, kept-entries s, ap length (accepted_inj q)))
  read_lines-valid limit k (bytes ∷ ls) s l R h p =
      let (t, e, q) = bind-accepted (on_line k (step tag limit bytes s)) _ p in
      let (T, i) = step_reading limit bytes s (l.0, tt) R (map_refused-accepted _ (step tag limit bytes s) e) in
      read_lines-valid limit (suc k) ls t l.1 T i q

  -- READ: what a text that is readable gives
  pub read_text-valid : (limit : ℕ) (text : Bytes) {report : Report} → read_text tag limit text ≡ accepted report → Valid report × (length report ≤ limit)
  unfolding read_text outside entries
  read_text-valid limit text p =
      read_lines-valid limit 1 (lines text) (outside [] []) (lines-free text) (outside_reading [] [] empty_valid clean_none) zero-le p
