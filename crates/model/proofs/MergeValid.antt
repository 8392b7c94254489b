-- A merge of valid reports, checked or lossy, is a valid report; so is what a gather of readable texts joins. Assumes nothing.
use Prim.Native.Nat.{ℕ, ◌+◌, ◌≤◌, max}
use native.Mathlib.Omega.{arith}
use mathlib.Core.Path.{◌≡◌, refl, sym, ap, ◌∙◌, subst}
use mathlib.Core.Bool.{Bool, true, false}
use mathlib.Core.List.{List, [], ◌∷◌, Memᴰ as Member}
use mathlib.Core.Option.{Option, none, some}
use lib.Dec.{eqb}
use borrow.Author.Tests.{eqb-true}
use lib.ListN.{length}
use Rattle.ordmap.specs.Keyed.{add_all}
use Rattle.ordmap.specs.OnePass.{one_pass}
use Rattle.ordmap.proofs.Results.{impossible, accepted_inj, not_accepted, bind-accepted}
use Rattle.ordmap.proofs.Adding.{add_all-sorted}
use Rattle.ordmap.proofs.OnePassLaws.{one_pass-adds}
use Rattle.ordmap.proofs.Origins.{Origin, before, added, combined, origin, key-before, key-added}
use Rattle.model.specs.declared.Fault.{Fault}
use Rattle.model.specs.declared.Fault.TheVariants.{UnmatchedFunctionLine, UnmatchedChecksum, CountOverflow}
use Rattle.model.specs.declared.Mode.{Mode}
use Rattle.model.specs.declared.Mode.TheVariants.{Checked, Lossy}
use Rattle.std.specs.Prelude.{if◌then◌else◌}
use Rattle.model.specs.Bytes.{Bytes, same_bytes}
use Rattle.model.specs.Path.{components}
use Rattle.model.specs.Answer.{Answer, accepted, refuse}
use Rattle.model.specs.Limits.{u32_max, u64_max}
use Rattle.model.specs.Report.{Extent, Function, Item, item_key, section_item, function_item, branch_item, line_item, Entry, Report, section_key, in_section, Key, compare_keys, entry_key, extent_of, larger, join_extents, combine_extents, taken_of, checksum_of, count_of, sum, sum_taken, agree, combine_items, combine_entries, merge}
use Rattle.model.specs.Printing.{is_section}
use Rattle.model.specs.Valid.{LineText, Given, ExtentFits, ItemFits, Valid}
use Rattle.model.proofs.KeyOrder.{keys-order}
use Rattle.model.proofs.Clean.{TakenFits, ChecksumFits}
use Rattle.model.proofs.Entries.{entries_keyed}
use Rattle.model.proofs.Read.{sum_fits}

-- ---- items

-- an item of a function's key has an extent that fits the function's name
extent-fits : (f : Function) (j : Item) → item_key (function_item f) ≡ item_key j → ItemFits j → Given (ExtentFits f.name) (extent_of j)
unfolding extent_of item_key
extent-fits f (section_item spelling) e h = tt
extent-fits f (function_item g) e h = let q : g.name ≡ f.name = cc in rw (← q) h.1
extent-fits f (branch_item line block branch taken) e h = tt
extent-fits f (line_item line count checksum) e h = tt

taken-fits : (i : Item) → ItemFits i → TakenFits (taken_of i)
unfolding taken_of
taken-fits (section_item spelling) f = tt
taken-fits (function_item fn) f = tt
taken-fits (branch_item line block branch taken) f = f.3
taken-fits (line_item line count checksum) f = tt

checksum-fits : (i : Item) → ItemFits i → ChecksumFits (checksum_of i)
unfolding checksum_of
checksum-fits (section_item spelling) f = tt
checksum-fits (function_item fn) f = tt
checksum-fits (branch_item line block branch taken) f = tt
checksum-fits (line_item line count checksum) f = f.2

-- what two agree on is what one of them gave
agree-fits : {A : Type 0} (P : A → Type 0) (same : A → A → Bool) (mode : Mode) (fault : Fault) (s t : Option A) {u : Option A} → Given P s → Given P t
    → agree same mode fault s t ≡ accepted u → Given P u
unfolding agree
agree-fits P same mode fault none t f g p = rw (← (accepted_inj p)) g
agree-fits P same mode fault (some a) none f g p = rw (← (accepted_inj p)) f
agree-fits P same Lossy fault (some a) (some b) f g p = rw (← (accepted_inj p)) g
agree-fits {A} P same Checked fault (some a) (some b) {u} f g p = go (same a b) p
  where
    go : (t : Bool) → ◌≡◌ {A = Answer (Option A)} (if t then accepted (some a) else refuse fault) (accepted u) → Given P u
    go true q = rw (← (accepted_inj q)) f
    go false q = absurd (not_accepted q)

sum_taken-fits : (s t : Option ℕ) {u : Option ℕ} → TakenFits s → TakenFits t → sum_taken s t ≡ accepted u → TakenFits u
unfolding sum_taken
sum_taken-fits s none f g p = rw (← (accepted_inj p)) f
sum_taken-fits none (some b) f g p = rw (← (accepted_inj p)) g
sum_taken-fits (some a) (some b) f g p =
    let (n, q, e) = bind-accepted (sum CountOverflow a b) _ p in
    rw (← (accepted_inj e)) (sum_fits CountOverflow a b q)

-- the end of two FN of one start line is that of one of them, and there is none only where neither gives one
join_fits : (name : Bytes) (a b : Extent) → a.start ≡ b.start → ExtentFits name a → ExtentFits name b → ExtentFits name (join_extents a b)
join_fits name a b e f g = record { start = f.start; end = ends a.end b.end f.end g.end; name_whole = λ n. f.name_whole (left a.end b.end n) }
  where
    ends : (x y : Option ℕ) → Given (λ n. (a.start ≤ n) × (n ≤ u32_max)) x → Given (λ n. (b.start ≤ n) × (n ≤ u32_max)) y
        → Given (λ n. (a.start ≤ n) × (n ≤ u32_max)) (larger x y)
    ends none none h k = tt
    ends none (some y) h k = (omega (arith, e, k.0), k.1)
    ends (some x) none h k = h
    ends (some x) (some y) h k = (omega (arith, h.0), omega (arith, h.1, k.1))

    left : (x y : Option ℕ) → larger x y ≡ none → x ≡ none
    left none y n = refl
    left (some x) none n = n
    left (some x) (some y) n = impossible cc

extents_fit : (name : Bytes) (mode : Mode) (x y : Option Extent) {u : Option Extent} → Given (ExtentFits name) x → Given (ExtentFits name) y
    → combine_extents mode x y ≡ accepted u → Given (ExtentFits name) u
unfolding combine_extents
extents_fit name mode none y f g p = rw (← (accepted_inj p)) g
extents_fit name mode (some a) none f g p = rw (← (accepted_inj p)) f
extents_fit name Lossy (some a) (some b) f g p = rw (← (accepted_inj p)) g
extents_fit name Checked (some a) (some b) {u} f g p = go (eqb a.start b.start) refl p
  where
    go : (t : Bool) → eqb a.start b.start ≡ t → ◌≡◌ {A = Answer (Option Extent)} (if t then accepted (some (join_extents a b)) else refuse UnmatchedFunctionLine) (accepted u)
        → Given (ExtentFits name) u
    go true e q = rw (← (accepted_inj q)) (join_fits name a b (eqb-true a.start b.start e) f g)
    go false e q = absurd (not_accepted q)

combine_fits : (mode : Mode) (i j : Item) {k : Item} → item_key i ≡ item_key j → ItemFits i → ItemFits j → combine_items mode i j ≡ accepted k → ItemFits k
unfolding combine_items
combine_fits mode (section_item spelling) j κ f g p = rw (← (accepted_inj p)) f
combine_fits mode (function_item fn) j κ f g p =
    let (u, q, e) = bind-accepted (combine_extents mode fn.extent (extent_of j)) _ p in
    let s : Given (ExtentFits fn.name) u = extents_fit fn.name mode fn.extent (extent_of j) f.1 (extent-fits fn j κ g) q in
    rw (← (accepted_inj e)) (f.0, s, omega arith)
combine_fits mode (branch_item line block branch taken) j κ f g p =
    let (u, q, e) = bind-accepted (sum_taken taken (taken_of j)) _ p in
    rw (← (accepted_inj e)) (f.0, f.1, f.2, sum_taken-fits taken (taken_of j) f.3 (taken-fits j g) q)
combine_fits mode (line_item line count checksum) j κ f g p =
    let (u, q, e) = bind-accepted (agree same_bytes mode UnmatchedChecksum checksum (checksum_of j)) _ p in
    let (n, r, d) = bind-accepted (sum CountOverflow count (count_of j)) _ e in
    let c : ChecksumFits u = agree-fits _ same_bytes mode UnmatchedChecksum checksum (checksum_of j) f.2 (checksum-fits j g) q in
    rw (← (accepted_inj d)) (f.0, sum_fits CountOverflow count (count_of j) r, c)

-- only a section's own item, the earlier one, makes a section's own item
combine_section : (mode : Mode) (i j : Item) {p : Bytes} → combine_items mode i j ≡ accepted (section_item p) → i ≡ section_item p
unfolding combine_items
combine_section mode (section_item spelling) j q = accepted_inj q
combine_section mode (function_item f) j q = let (u, r, e) = bind-accepted (combine_extents mode f.extent (extent_of j)) _ q in cc
combine_section mode (branch_item line block branch taken) j q = let (u, r, e) = bind-accepted (sum_taken taken (taken_of j)) _ q in cc
combine_section mode (line_item line count checksum) j q =
    let (u, r, e) = bind-accepted (agree same_bytes mode UnmatchedChecksum checksum (checksum_of j)) _ q in
    let (n, s, d) = bind-accepted (sum CountOverflow count (count_of j)) _ e in cc

combine_entry : (mode : Mode) (x e : Entry) {a : Entry} → combine_entries mode x e ≡ accepted a
    → (k : Item) × (combine_items mode x.item e.item ≡ accepted k) × (in_section (section_key x) k ≡ a)
unfolding combine_entries
combine_entry mode x e p =
    let (k, q, f) = bind-accepted (combine_items mode x.item e.item) _ p in
    (k, q, accepted_inj f)

-- an item's key says whether it is a section
section-key : (i : Item) (p : Bytes) → item_key i ≡ item_key (section_item p) → (q : Bytes) × (i ≡ section_item q)
unfolding item_key
section-key (section_item spelling) p e = (spelling, refl)
section-key (function_item f) p e = (p, cc)
section-key (branch_item line block branch taken) p e = (p, cc)
section-key (line_item line count checksum) p e = (p, cc)

not_section : (i j : Item) → item_key i ≡ item_key j → is_section j ≡ false → is_section i ≡ false
unfolding item_key is_section
not_section (section_item p) (section_item q) e h = h
not_section (section_item p) (function_item f) e h = cc
not_section (section_item p) (branch_item line block branch taken) e h = cc
not_section (section_item p) (line_item line count checksum) e h = cc
not_section (function_item f) j e h = refl
not_section (branch_item line block branch taken) j e h = refl
not_section (line_item line count checksum) j e h = refl

-- ---- reports

-- every key of a report is a key of another
abbrev Kept : Report → Report → Type 0
Kept r n = (a : Entry) → Member a r → (b : Entry) × Member b n × (entry_key b ≡ entry_key a)

-- the head of a section, and something in it, stay where all keys stay
headed_in : (r n : Report) → Valid r → Kept r n → (s e : Entry) → Member s r → section_key s ≡ section_key e
    → (p : Bytes) × Member (in_section (section_key e) (section_item p)) n
unfolding entry_key
headed_in r n R K s e i h =
    let (p, m) = R.headed s i in
    let (b, j, q) = K (in_section (section_key s) (section_item p)) m in
    let (t, f) = section-key b.item p (ap (λ (k : Key). k.1) q) in
    (t, subst (λ (x : Entry). Member x n) (same b t f (ap (λ (k : Key). k.0) q ∙ h)) j)
  where
    same : (b : Entry) (t : Bytes) → b.item ≡ section_item t → section_key b ≡ section_key e → b ≡ in_section (section_key e) (section_item t)
    same b t f g = ap (in_section (section_key b)) f ∙ ap (λ k. in_section k (section_item t)) g

filled_in : (r n : Report) → Valid r → Kept r n → (s e : Entry) → Member s r → section_key s ≡ section_key e
    → (f : Entry) × Member f n × (section_key f ≡ section_key e) × (is_section f.item ≡ false)
unfolding entry_key
filled_in r n R K s e i h =
    let (f, m, g, d) = R.filled s i in
    let (b, j, q) = K f m in
    (b, j, ap (λ (k : Key). k.0) q ∙ g ∙ h, not_section b.item f.item (ap (λ (k : Key). k.1) q) d)

module _ (mode : Mode) (into other n : Report) (A : Valid into) (B : Valid other) (p : merge mode into other ≡ accepted n) where
  unfolded : add_all entry_key compare_keys (combine_entries mode) other into ≡ accepted n
  unfolding merge
  unfolded = p

  abbrev From : Entry → Type 0
  From e = Origin entry_key compare_keys (combine_entries mode) keys-order (entries_keyed mode) other into e

  from : (e : Entry) → Member e n → From e
  from = origin entry_key compare_keys (combine_entries mode) keys-order (entries_keyed mode) other into n A.sorted B.sorted unfolded

  kept-into : Kept into n
  kept-into = key-before entry_key compare_keys (combine_entries mode) keys-order (entries_keyed mode) other into n A.sorted B.sorted unfolded

  kept-other : Kept other n
  kept-other = key-added entry_key compare_keys (combine_entries mode) keys-order (entries_keyed mode) other into n A.sorted B.sorted unfolded

  test_of : (e : Entry) → From e → LineText e.test
  test_of e (before i) = A.tests e i
  test_of e (added i) = B.tests e i
  test_of e (combined x y i j h c) =
      let (k, q, f) = combine_entry mode x y c in
      subst (λ (z : Entry). LineText z.test) f (A.tests x i)

  fits_of : (e : Entry) → From e → ItemFits e.item
  unfolding entry_key
  fits_of e (before i) = A.fits e i
  fits_of e (added i) = B.fits e i
  fits_of e (combined x y i j h c) =
      let (k, q, f) = combine_entry mode x y c in
      subst (λ (z : Entry). ItemFits z.item) f (combine_fits mode x.item y.item (ap (λ (k : Key). k.1) h) (A.fits x i) (B.fits y j) q)

  spelled_of : (e : Entry) (s : Bytes) → From e → e.item ≡ section_item s → components s ≡ e.path
  spelled_of e s (before i) g = A.spelled e s i g
  spelled_of e s (added i) g = B.spelled e s i g
  spelled_of e s (combined x y i j h c) g =
      let (k, q, f) = combine_entry mode x y c in
      let own : k ≡ section_item s = ap (λ (z : Entry). z.item) f ∙ g in
      A.spelled x s i (combine_section mode x.item y.item (q ∙ ap (λ (z : Item). accepted z) own)) ∙ ap (λ (z : Entry). z.path) f

  -- an entry's section is that of an entry of one side
  headed_of : (e : Entry) → From e → (s : Bytes) × Member (in_section (section_key e) (section_item s)) n
  headed_of e (before i) = headed_in into n A kept-into e e i refl
  headed_of e (added i) = headed_in other n B kept-other e e i refl
  headed_of e (combined x y i j h c) = let (k, q, f) = combine_entry mode x y c in headed_in into n A kept-into x e i (ap section_key f)

  filled_of : (e : Entry) → From e → (f : Entry) × Member f n × (section_key f ≡ section_key e) × (is_section f.item ≡ false)
  filled_of e (before i) = filled_in into n A kept-into e e i refl
  filled_of e (added i) = filled_in other n B kept-other e e i refl
  filled_of e (combined x y i j h c) = let (k, q, f) = combine_entry mode x y c in filled_in into n A kept-into x e i (ap section_key f)

  -- MERGED
  pub merge-valid : Valid n
  merge-valid =
      record {
        sorted = add_all-sorted entry_key compare_keys (combine_entries mode) keys-order (entries_keyed mode) other into n A.sorted unfolded;
        tests = λ e i. test_of e (from e i);
        fits = λ e i. fits_of e (from e i);
        spelled = λ e s i g. spelled_of e s (from e i) g;
        headed = λ e i. headed_of e (from e i);
        filled = λ e i. filled_of e (from e i);
      }

-- ONE PASS: valid reports are merged by walking both once
pub merge-one_pass : (mode : Mode) (into other : Report) → Valid into → Valid other
    → merge mode into other ≡ one_pass entry_key compare_keys (combine_entries mode) into other
unfolding merge
merge-one_pass mode into other A B =
    sym (one_pass-adds entry_key compare_keys (combine_entries mode) keys-order (entries_keyed mode) into other A.sorted B.sorted)
