-- Entries of one key joined one after the other, in closed form. Assumes nothing.
use Prim.Native.Nat.{ℕ}
use mathlib.Core.Path.{◌≡◌, refl, sym, ap, ◌∙◌, subst}
use mathlib.Core.Logic.{◌↔◌}
use mathlib.Core.Bool.{Bool, true, false, cond, true≢false}
use mathlib.Core.List.Memᴰ
use mathlib.Core.List.Memᴰ.{head as here}
use mathlib.Core.List.Memᴰ.{tail as there}
use mathlib.Core.List.{List, [], ◌∷◌, map, Memᴰ as Member}
use mathlib.Core.Option.{Option, none, some, map as mapSome}
use Rattle.ordmap.specs.Result.{accepted, refused, bind, map_accepted, value}
use Rattle.ordmap.specs.Keyed.{Keyed, join_all}
use Rattle.ordmap.proofs.Results.{impossible, bind-accepted, accepted_inj, value-accepted, value-map}
use Rattle.model.specs.declared.Fault.TheVariants.{UnmatchedChecksum, CountOverflow}
use Rattle.model.specs.declared.Mode.{Mode}
use Rattle.model.specs.declared.Mode.TheVariants.{Checked}
use Rattle.model.specs.Bytes.{Bytes, same_bytes}
use Rattle.model.specs.Answer.{Answer}
use Rattle.model.specs.Report.{Function, Item, section_item, function_item, branch_item, line_item, item_key, Entry, Key, compare_keys, entry_key, extent_of, taken_of, checksum_of, count_of, sum, sum_taken, agree, combine_extents, combine_items, combine_entries, section_key, in_section}
use Rattle.model.specs.Joined.{joined_as, joined_item}
use Rattle.model.proofs.Items.{join_items, or_zero, Branches, Counted, Like, items_closed, joinable_as, joinable}

-- ---- keys stay

combine_items-key : (mode : Mode) (i j : Item) {k : Item} → combine_items mode i j ≡ accepted k → item_key k ≡ item_key i
unfolding combine_items item_key
combine_items-key mode (section_item spelling) j p = ap item_key (sym (accepted_inj p))
combine_items-key mode (function_item f) j p =
    let (u, q, e) = bind-accepted (combine_extents mode f.extent (extent_of j)) _ p in
    ap item_key (sym (accepted_inj e))
combine_items-key mode (branch_item line block branch taken) j p =
    let (u, q, e) = bind-accepted (sum_taken taken (taken_of j)) _ p in
    ap item_key (sym (accepted_inj e))
combine_items-key mode (line_item line count checksum) j p =
    let (u, q, e) = bind-accepted (agree same_bytes mode UnmatchedChecksum checksum (checksum_of j)) _ p in
    let (n, r, f) = bind-accepted (sum CountOverflow count (count_of j)) _ e in
    ap item_key (sym (accepted_inj f))

pub entries_keyed : (mode : Mode) → Keyed entry_key compare_keys (combine_entries mode)
unfolding combine_entries entry_key
entries_keyed mode = record { keeps = λ {x} {e} {y} h p. kept x e y p }
  where
    kept : (x e y : Entry) → combine_entries mode x e ≡ accepted y → entry_key y ≡ entry_key x
    kept x e y p =
        let (i, q, f) = bind-accepted (combine_items mode x.item e.item) _ p in
        ap entry_key (sym (accepted_inj f)) ∙ ap (λ (k : List ℕ). ((x.test, x.path), k)) (combine_items-key mode x.item e.item q)

-- ---- one kind

-- items of one key are two sections, or two functions, branches or lines of one name or place
pub by_key : (P : Item → Item → Type 0)
    → ((p q : Bytes) → P (section_item p) (section_item q))
    → ((a b : Function) → a.name ≡ b.name → P (function_item a) (function_item b))
    → ((line block branch : ℕ) (s t : Option ℕ) → P (branch_item line block branch s) (branch_item line block branch t))
    → ((line c d : ℕ) (s t : Option Bytes) → P (line_item line c s) (line_item line d t))
    → (i j : Item) → item_key i ≡ item_key j → P i j
unfolding item_key
by_key P f g h k (section_item p) (section_item q) e = f p q
by_key P f g h k (function_item a) (function_item b) e = g a b cc
by_key P f g h k (branch_item l b n s) (branch_item l' b' n' t) e =
    let q : l ≡ l' = cc in
    let r : b ≡ b' = cc in
    let u : n ≡ n' = cc in
    subst (λ (x : ℕ). P (branch_item l b n s) (branch_item x b' n' t)) q
    (subst (λ (x : ℕ). P (branch_item l b n s) (branch_item l x n' t)) r (subst (λ (x : ℕ). P (branch_item l b n s) (branch_item l b x t)) u (h l b n s t)))
by_key P f g h k (line_item n c s) (line_item m d t) e = let q : n ≡ m = cc in subst (λ (x : ℕ). P (line_item n c s) (line_item x d t)) q (k n c d s t)
by_key P f g h k (section_item p) (function_item a) e = impossible cc
by_key P f g h k (section_item p) (branch_item l b n t) e = impossible cc
by_key P f g h k (section_item p) (line_item m d t) e = impossible cc
by_key P f g h k (function_item a) (section_item q) e = impossible cc
by_key P f g h k (function_item a) (branch_item l b m t) e = impossible cc
by_key P f g h k (function_item a) (line_item m d t) e = impossible cc
by_key P f g h k (branch_item l b n s) (section_item q) e = impossible cc
by_key P f g h k (branch_item l b n s) (function_item a) e = impossible cc
by_key P f g h k (branch_item l b n s) (line_item m d t) e = impossible cc
by_key P f g h k (line_item n c s) (section_item q) e = impossible cc
by_key P f g h k (line_item n c s) (function_item a) e = impossible cc
by_key P f g h k (line_item n c s) (branch_item l b m t) e = impossible cc

pub branch-count : (line block branch : ℕ) (taken : Option ℕ) (j : Item) → item_key j ≡ item_key (branch_item line block branch taken) → count_of j ≡ or_zero (taken_of j)
unfolding item_key count_of taken_of
branch-count line block branch taken (section_item spelling) e = refl
branch-count line block branch taken (function_item f) e = cc
branch-count line block branch taken (branch_item l b n none) e = refl
branch-count line block branch taken (branch_item l b n (some t)) e = refl
branch-count line block branch taken (line_item n count checksum) e = cc

all-branches : (line block branch : ℕ) (taken : Option ℕ) (js : List Item) → ((j : Item) → Member j js → item_key j ≡ item_key (branch_item line block branch taken))
    → ((j : Item) → Member j js → Counted j) → Branches js
all-branches line block branch taken [] h c = tt
all-branches line block branch taken (j ∷ js) h c = (
  branch-count line block branch taken j (h j (here refl)),
  c j (here refl),
  all-branches line block branch taken js (λ i m. h i (there m)) (λ i m. c i (there m)),
)

pub all_like : (i : Item) (js : List Item) → ((j : Item) → Member j js → item_key j ≡ item_key i) → ((j : Item) → Member j js → Counted j) → Like i js
all_like (section_item spelling) js h c = tt
all_like (function_item f) js h c = tt
all_like (branch_item line block branch taken) js h c = all-branches line block branch taken js h c
all_like (line_item line count checksum) js h c = tt

-- ---- entries

abbrev pub items : List Entry → List Item
items es = map (λ e. e.item) es

-- what the entries of a key make
abbrev pub joined_at : List Entry → Option Entry
joined_at [] = none
joined_at (e ∷ es) = some (in_section (section_key e) (joined_item (items (e ∷ es))))

entries-items : (e : Entry) (es : List Entry)
    → join_all (combine_entries Checked) (some e) es ≡ map_accepted (λ i. some (in_section (section_key e) i)) (join_items e.item (items es))
unfolding combine_entries
entries-items e [] = refl
entries-items e (f ∷ es) = go (combine_items Checked e.item f.item) (λ i. entries-items (in_section (section_key e) i) es)
  where
    go : (r : Answer Item)
        → ((i : Item) → join_all (combine_entries Checked) (some (in_section (section_key e) i)) es ≡ map_accepted (λ j. some (in_section (section_key e) j)) (join_items i (items es)))
        → bind (bind r (λ i. accepted (in_section (section_key e) i))) (λ y. join_all (combine_entries Checked) (some y) es)
        ≡ map_accepted (λ j. some (in_section (section_key e) j)) (bind r (λ i. join_items i (items es)))
    go (accepted i) ih = ih i
    go (refused r) ih = refl

-- CLOSED FORM
pub entries_closed : (k : Key) (l : List Entry) → ((e : Entry) → Member e l → entry_key e ≡ k) → ((e : Entry) → Member e l → Counted e.item)
    → value (join_all (combine_entries Checked) none l) ≡ cond (joinable (items l)) (some (joined_at l)) none
unfolding joinable joined_item entry_key
entries_closed k [] h c = refl
entries_closed k (e ∷ es) h c =
    ap value (entries-items e es)
    ∙ value-map (λ i. some (in_section (section_key e) i)) (join_items e.item (items es))
    ∙ ap (mapSome (λ i. some (in_section (section_key e) i))) (items_closed e.item (items es) (c e (here refl)) (all_like e.item (items es) keyed counted))
    ∙ inside (joinable_as e.item (items (e ∷ es)))
  where
    member : (l : List Entry) {i : Item} → Member i (items l) → (f : Entry) × Member f l × (f.item ≡ i)
    member l m = Memᴰ.of_map (λ f. f.item) l m

    keyed : (j : Item) → Member j (items es) → item_key j ≡ item_key e.item
    keyed j m =
        let (f, n, q) = member es m in
        ap item_key (sym q) ∙ ap (λ (k : Key). k.1) (h f (there n) ∙ sym (h e (here refl)))

    counted : (j : Item) → Member j (items es) → Counted j
    counted j m =
        let (f, n, q) = member es m in
        rw (← q) (c f (there n))

    inside : (b : Bool)
        → mapSome (λ i. some (in_section (section_key e) i)) (cond b (some (joined_as e.item (items (e ∷ es)))) none)
        ≡ cond b (some (some (in_section (section_key e) (joined_as e.item (items (e ∷ es)))))) none
    inside true = refl
    inside false = refl

-- a value, if a test is passed: accepted exactly when it is, with that value
pub exactly : {A : Type 0} (r : Answer A) (b : Bool) (a : A) → value r ≡ cond b (some a) none → (u : A) → (r ≡ accepted u) ↔ ((b ≡ true) × (u ≡ a))
exactly r true a p u =
    (λ q. (refl, accepted_inj (sym q ∙ value-accepted r p)), λ (e, f). value-accepted r p ∙ ap (λ x. accepted x) (sym f))
exactly r false a p u = (λ q. absurd (wrong q), λ (e, f). absurd (true≢false (sym e)))
  where
    wrong : r ≡ accepted u → ⊥
    wrong q = let s : none ≡ some u = sym p ∙ ap value q in impossible cc
