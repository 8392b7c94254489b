-- Entries of one key may be combined in groups: what a group makes alone, combined, is the group's entries combined. Assumes nothing.
use Prim.Native.Nat.{ℕ, ◌+◌, min, max}
use native.Mathlib.Nat.{add_assoc}
use native.Mathlib.Omega.{arith}
use mathlib.Core.Path.{◌≡◌, refl, sym, ap, ◌∙◌}
use mathlib.Core.Bool.{Bool, true, false}
use mathlib.Core.Option.{Option, none, some}
use lib.Dec.{leb, eqb}
use borrow.Author.Tests.{lt-leb, leb-false, eqb-true}
use Rattle.ordmap.specs.Result.{accepted, refused, bind, value}
use Rattle.ordmap.specs.Keyed.{Grouped}
use Rattle.ordmap.specs.Gathering.{Same}
use Rattle.ordmap.proofs.Results.{accepted_inj, not_accepted, bind-accepted, value-bind, value-bind-next, bind_assoc, value_swap}
use Rattle.model.specs.declared.Fault.{Fault}
use Rattle.model.specs.declared.Fault.TheVariants.{UnmatchedFunctionLine, UnmatchedChecksum, CountOverflow}
use Rattle.model.specs.declared.Mode.{Mode}
use Rattle.model.specs.declared.Mode.TheVariants.{Checked, Lossy}
use Rattle.std.specs.Prelude.{if◌then◌else◌}
use Rattle.model.specs.Bytes.{Bytes, same_bytes}
use Rattle.model.specs.Answer.{Answer, refuse}
use Rattle.model.specs.Limits.{u64_max}
use Rattle.model.specs.Report.{extent_at, Extent, Function, updated, Item, function_item, branch_item, line_item, item_key, Entry, Key, compare_keys, entry_key, extent_of, larger, join_extents, combine_extents, taken_of, checksum_of, count_of, sum, sum_taken, agree, combine_items, combine_entries, section_key, in_section}
use Rattle.model.proofs.KeyOrder.{bytes_same}
use Rattle.model.proofs.Entries.{by_key}
use Rattle.model.proofs.Items.{larger_assoc}

-- ---- values

module _ {A : Type 0} (same : A → A → Bool) (S : Same same) (fault : Fault) where
  agree-regroup : (mode : Mode) (s t u : Option A) {v : Option A} → agree same mode fault t u ≡ accepted v
      → value (bind (agree same mode fault s t) (λ w. agree same mode fault w u)) ≡ value (agree same mode fault s v)
  unfolding agree
  agree-regroup mode none t u h = ap value h
  agree-regroup mode (some a) none u h = ap (λ (o : Option A). value (agree same mode fault (some a) o)) (accepted_inj h)
  agree-regroup Checked (some a) (some b) none h = go (same a b) ∙ ap (λ (o : Option A). value (agree same Checked fault (some a) o)) (accepted_inj h)
    where
      go : (x : Bool) → value (bind (if x then accepted (some a) else refuse fault) (λ w. agree same Checked fault w none))
          ≡ value (if x then accepted (some a) else refuse fault)
      go true = refl
      go false = refl
  agree-regroup Checked (some a) (some b) (some c) {v} h = go (same b c) (same a b) refl refl h
    where
      go : (x y : Bool) → same b c ≡ x → same a b ≡ y → ◌≡◌ {A = Answer (Option A)} (if x then accepted (some b) else refuse fault) (accepted v)
          → value (bind (if y then accepted (some a) else refuse fault) (λ w. agree same Checked fault w (some c))) ≡ value (agree same Checked fault (some a) v)
      go true true e f q =
          let g : same a c ≡ true = ap (λ (d : A). same d c) (S.same_eq a b f) ∙ e in
          rw g (sym (ap (λ (o : Option A). value (agree same Checked fault (some a) o)) (sym (accepted_inj q)) ∙ rw f))
      go true false e f q = sym (ap (λ (o : Option A). value (agree same Checked fault (some a) o)) (sym (accepted_inj q)) ∙ rw f)
      go false y e f q = absurd (not_accepted q)
  agree-regroup Lossy (some a) (some b) none h = ap (λ (o : Option A). value (agree same Lossy fault (some a) o)) (accepted_inj h)
  agree-regroup Lossy (some a) (some b) (some c) h = ap (λ (o : Option A). value (agree same Lossy fault (some a) o)) (accepted_inj h)

extents_regroup : (mode : Mode) (s t u : Option Extent) {v : Option Extent} → combine_extents mode t u ≡ accepted v
    → value (bind (combine_extents mode s t) (λ w. combine_extents mode w u)) ≡ value (combine_extents mode s v)
unfolding combine_extents
extents_regroup mode none t u h = ap value h
extents_regroup mode (some a) none u h = ap (λ (o : Option Extent). value (combine_extents mode (some a) o)) (accepted_inj h)
extents_regroup Checked (some a) (some b) none h =
    go (eqb a.start b.start) ∙ ap (λ (o : Option Extent). value (combine_extents Checked (some a) o)) (accepted_inj h)
  where
    go : (x : Bool) → value (bind (if x then accepted (some (join_extents a b)) else refuse UnmatchedFunctionLine) (λ w. combine_extents Checked w none))
        ≡ value (if x then accepted (some (join_extents a b)) else refuse UnmatchedFunctionLine)
    go true = refl
    go false = refl
extents_regroup Checked (some a) (some b) (some c) {v} h = go (eqb b.start c.start) (eqb a.start b.start) refl refl h
  where
    last : (y : Bool) → eqb a.start b.start ≡ y → some (join_extents b c) ≡ v
        → value (if y then accepted (some (join_extents a (join_extents b c))) else refuse UnmatchedFunctionLine) ≡ value (combine_extents Checked (some a) v)
    last y f q = sym (ap (λ (o : Option Extent). value (combine_extents Checked (some a) o)) (sym q) ∙ rw f)

    go : (x y : Bool) → eqb b.start c.start ≡ x → eqb a.start b.start ≡ y
        → ◌≡◌ {A = Answer (Option Extent)} (if x then accepted (some (join_extents b c)) else refuse UnmatchedFunctionLine) (accepted v)
        → value (bind (if y then accepted (some (join_extents a b)) else refuse UnmatchedFunctionLine) (λ w. combine_extents Checked w (some c)))
        ≡ value (combine_extents Checked (some a) v)
    go true true e f q =
        let g : eqb a.start c.start ≡ true = ap (λ (n : ℕ). eqb n c.start) (eqb-true a.start b.start f) ∙ e in
        rw g
        (ap (λ (end : Option ℕ). some (some (extent_at a.start end))) (larger_assoc a.end b.end c.end) ∙ last true f (accepted_inj q))
    go true false e f q = last false f (accepted_inj q)
    go false y e f q = absurd (not_accepted q)
extents_regroup Lossy (some a) (some b) none h = ap (λ (o : Option Extent). value (combine_extents Lossy (some a) o)) (accepted_inj h)
extents_regroup Lossy (some a) (some b) (some c) h = ap (λ (o : Option Extent). value (combine_extents Lossy (some a) o)) (accepted_inj h)

sum-accepted : (fault : Fault) (a b : ℕ) {n : ℕ} → sum fault a b ≡ accepted n → n ≡ a + b
unfolding sum
sum-accepted fault a b {n} p = go (leb (a + b) u64_max) p
  where
    go : (t : Bool) → ◌≡◌ {A = Answer ℕ} (if t then accepted (a + b) else refuse fault) (accepted n) → n ≡ a + b
    go true q = sym (accepted_inj q)
    go false q = absurd (not_accepted q)

sum-regroup : (fault : Fault) (s t u : ℕ) {v : ℕ} → sum fault t u ≡ accepted v → value (bind (sum fault s t) (λ w. sum fault w u)) ≡ value (sum fault s v)
unfolding sum
sum-regroup fault s t u h = rw (sum-accepted fault t u h) (go (leb (s + t) u64_max) refl)
  where
    go : (x : Bool) → leb (s + t) u64_max ≡ x
        → value (bind (if x then accepted (s + t) else refuse fault) (λ w. if leb (w + u) u64_max then accepted (w + u) else refuse fault))
        ≡ value (if leb (s + (t + u)) u64_max then accepted (s + (t + u)) else refuse fault)
    go true e = ap (λ (n : ℕ). value (if leb n u64_max then accepted n else refuse fault)) (add_assoc s t u)
    go false e =
        let past : leb (s + (t + u)) u64_max ≡ false = lt-leb (s + (t + u)) u64_max (omega (arith, leb-false (s + t) u64_max e)) in
        rw past

bind_self : {A : Type 0} (r : Answer A) → value (bind r (λ a. accepted a)) ≡ value r
bind_self (accepted a) = refl
bind_self (refused c) = refl

none-adds : (t : Option ℕ) → sum_taken none t ≡ accepted t
unfolding sum_taken
none-adds none = refl
none-adds (some n) = refl

taken-regroup : (s t u : Option ℕ) {v : Option ℕ} → sum_taken t u ≡ accepted v → value (bind (sum_taken s t) (λ w. sum_taken w u)) ≡ value (sum_taken s v)
unfolding sum_taken
taken-regroup s t none h = bind_self (sum_taken s t) ∙ ap (λ (o : Option ℕ). value (sum_taken s o)) (accepted_inj h)
taken-regroup s none (some c) h = ap (λ (o : Option ℕ). value (sum_taken s o)) (accepted_inj h)
taken-regroup none (some b) (some c) {v} h = ap value h ∙ ap value (sym (none-adds v))
taken-regroup (some a) (some b) (some c) h =
    let (d, e, f) = bind-accepted (sum CountOverflow b c) _ h in
    ap value (bind_assoc (sum CountOverflow a b) (λ n. accepted (some n)) (λ w. sum_taken w (some c)))
    ∙ ap value (sym (bind_assoc (sum CountOverflow a b) (λ n. sum CountOverflow n c) (λ n. accepted (some n))))
    ∙ value-bind (bind (sum CountOverflow a b) (λ n. sum CountOverflow n c)) (sum CountOverflow a d) (λ n. accepted (some n)) (sum-regroup CountOverflow a b c e)
    ∙ ap (λ (o : Option ℕ). value (sum_taken (some a) o)) (accepted_inj f)

-- ---- items

-- of what two items make, what an item before them is combined with
module _ (mode : Mode) where
  functions-regroup : (x a : Function) (b : Item) {y : Item} → combine_items mode (function_item a) b ≡ accepted y
      → value (bind (combine_items mode (function_item x) (function_item a)) (λ z. combine_items mode z b)) ≡ value (combine_items mode (function_item x) y)
  unfolding combine_items extent_of count_of
  functions-regroup x a b {y} h =
      let (v, e, f) = bind-accepted (combine_extents mode a.extent (extent_of b)) _ h in
      ap value (bind_assoc both (λ w. accepted (function_item (updated x w two))) (λ z. combine_items mode z b))
      ∙ ap value (sym (bind_assoc both (λ w. combine_extents mode w (extent_of b)) (λ w. accepted (function_item (updated x w (min (two + count_of b) u64_max))))))
      ∙ value-bind (bind both (λ w. combine_extents mode w (extent_of b))) (combine_extents mode x.extent v)
      (λ w. accepted (function_item (updated x w (min (two + count_of b) u64_max)))) (extents_regroup mode x.extent a.extent (extent_of b) e)
      ∙ ap (λ (m : ℕ). value (bind (combine_extents mode x.extent v) (λ w. accepted (function_item (updated x w m))))) (omega arith)
      ∙ ap (λ (i : Item). value (combine_items mode (function_item x) i)) (accepted_inj f)
    where
      both : Answer (Option Extent)
      both = combine_extents mode x.extent a.extent

      two : ℕ
      two = min (x.count + a.count) u64_max

  branches-regroup : (line block branch : ℕ) (s : Option ℕ) (l k m : ℕ) (t : Option ℕ) (b : Item) {y : Item} → combine_items mode (branch_item l k m t) b ≡ accepted y
      → value (bind (combine_items mode (branch_item line block branch s) (branch_item l k m t)) (λ z. combine_items mode z b))
      ≡ value (combine_items mode (branch_item line block branch s) y)
  unfolding combine_items taken_of
  branches-regroup line block branch s l k m t b h =
      let (v, e, f) = bind-accepted (sum_taken t (taken_of b)) _ h in
      ap value (bind_assoc (sum_taken s t) (λ w. accepted (branch_item line block branch w)) (λ z. combine_items mode z b))
      ∙ ap value (sym (bind_assoc (sum_taken s t) (λ w. sum_taken w (taken_of b)) (λ w. accepted (branch_item line block branch w))))
      ∙ value-bind (bind (sum_taken s t) (λ w. sum_taken w (taken_of b))) (sum_taken s v) (λ w. accepted (branch_item line block branch w)) (taken-regroup s t (taken_of b) e)
      ∙ ap (λ (i : Item). value (combine_items mode (branch_item line block branch s) i)) (accepted_inj f)

  lines-regroup : (line c : ℕ) (s : Option Bytes) (n d : ℕ) (t : Option Bytes) (b : Item) {y : Item} → combine_items mode (line_item n d t) b ≡ accepted y
      → value (bind (combine_items mode (line_item line c s) (line_item n d t)) (λ z. combine_items mode z b)) ≡ value (combine_items mode (line_item line c s) y)
  unfolding combine_items checksum_of count_of
  lines-regroup line c s n d t b h =
      let (v, e, g) = bind-accepted (agree same_bytes mode UnmatchedChecksum t (checksum_of b)) _ h in
      let (k, q, f) = bind-accepted (sum CountOverflow d (count_of b)) _ g in
      ap value (bind_assoc (agree same_bytes mode UnmatchedChecksum s t) (λ w. bind (sum CountOverflow c d) (λ m. accepted (line_item line m w))) (λ z. combine_items mode z b))
      ∙ value-bind-next (agree same_bytes mode UnmatchedChecksum s t) (λ w. bind (bind (sum CountOverflow c d) (λ m. accepted (line_item line m w))) (λ z. combine_items mode z b))
      (λ w. bind (agree same_bytes mode UnmatchedChecksum w (checksum_of b)) sums)
      (λ w p. ap value (bind_assoc (sum CountOverflow c d) (λ m. accepted (line_item line m w)) (λ z. combine_items mode z b))
      ∙ value_swap (sum CountOverflow c d) (agree same_bytes mode UnmatchedChecksum w (checksum_of b)) (λ m u. bind (sum CountOverflow m (count_of b)) (λ j. accepted (line_item line j u))))
      ∙ ap value (sym (bind_assoc (agree same_bytes mode UnmatchedChecksum s t) (λ w. agree same_bytes mode UnmatchedChecksum w (checksum_of b)) sums))
      ∙ value-bind (bind (agree same_bytes mode UnmatchedChecksum s t) (λ w. agree same_bytes mode UnmatchedChecksum w (checksum_of b))) (agree same_bytes mode UnmatchedChecksum s v) sums
      (agree-regroup same_bytes bytes_same UnmatchedChecksum mode s t (checksum_of b) e)
      ∙ value-bind-next (agree same_bytes mode UnmatchedChecksum s v) sums (λ u. bind (sum CountOverflow c k) (λ j. accepted (line_item line j u)))
      (λ u p. ap value (sym (bind_assoc (sum CountOverflow c d) (λ m. sum CountOverflow m (count_of b)) (λ j. accepted (line_item line j u))))
      ∙ value-bind (bind (sum CountOverflow c d) (λ m. sum CountOverflow m (count_of b))) (sum CountOverflow c k) (λ j. accepted (line_item line j u)) (sum-regroup CountOverflow c d (count_of b) q))
      ∙ ap (λ (i : Item). value (combine_items mode (line_item line c s) i)) (accepted_inj f)
    where
      sums : Option Bytes → Answer Item
      sums u = bind (sum CountOverflow c d) (λ m. bind (sum CountOverflow m (count_of b)) (λ j. accepted (line_item line j u)))

  items-regroup : (x a b : Item) {y : Item} → item_key x ≡ item_key a → combine_items mode a b ≡ accepted y
      → value (bind (combine_items mode x a) (λ z. combine_items mode z b)) ≡ value (combine_items mode x y)
  unfolding combine_items
  items-regroup x a b {y} e h =
      by_key (λ x a. combine_items mode a b ≡ accepted y → value (bind (combine_items mode x a) (λ z. combine_items mode z b)) ≡ value (combine_items mode x y))
      (λ p q h. refl) (λ f g n h. functions-regroup f g b h)
      (λ line block branch s t h. branches-regroup line block branch s line block branch t b h) (λ line c d s t h. lines-regroup line c s line d t b h) x a e h

  -- ---- entries

  pub entries_grouped : Grouped entry_key compare_keys (combine_entries mode)
  unfolding combine_entries entry_key
  entries_grouped = record { regroup = λ x a b {y} e h. go x a b y e h }
    where
      go : (x a b y : Entry) → entry_key x ≡ entry_key a → combine_entries mode a b ≡ accepted y
          → value (bind (combine_entries mode x a) (λ z. combine_entries mode z b)) ≡ value (combine_entries mode x y)
      go x a b y e h =
          let (i, q, f) = bind-accepted (combine_items mode a.item b.item) _ h in
          ap value (bind_assoc (combine_items mode x.item a.item) (λ j. accepted (in_section (section_key x) j)) (λ z. combine_entries mode z b))
          ∙ ap value (sym (bind_assoc (combine_items mode x.item a.item) (λ j. combine_items mode j b.item) (λ j. accepted (in_section (section_key x) j))))
          ∙ value-bind (bind (combine_items mode x.item a.item) (λ j. combine_items mode j b.item)) (combine_items mode x.item i)
          (λ j. accepted (in_section (section_key x) j)) (items-regroup x.item a.item b.item (ap (λ (k : Key). k.1) e) q)
          ∙ ap (λ (z : Entry). value (combine_entries mode x z)) (accepted_inj f)
