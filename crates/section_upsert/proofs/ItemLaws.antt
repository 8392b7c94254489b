-- Laws of main and delta as one list: an item added to one part is added to the whole. Assumes nothing.
use mathlib.Core.Path.{◌≡◌, refl, sym, ap, ◌∙◌}
use mathlib.Core.Logic.{◌≢◌}
use mathlib.Core.List.{List, [], ◌∷◌}
use Prim.Native.Nat.{suc, ◌+◌, Ordering}
use native.Mathlib.Omega.{arith}
use lib.ListN.{length}
use Rattle.ordmap.specs.Result.{Result, accepted, refused, bind, map_accepted}
use Rattle.ordmap.specs.Keyed.{Above, Sorted, Keyed, add, add_all}
use Rattle.ordmap.proofs.Results.{impossible, accepted_inj}
use Rattle.ordmap.proofs.Maps.{above-trans}
use Rattle.model.specs.Bytes.{compare_bytes}
use Rattle.model.specs.Answer.{Answer}
use Rattle.model.specs.Report.{Item, item_key, compare_items}
use Rattle.model.specs.Reading.{replace}
use Rattle.model.proofs.KeyOrder.{bytes-order}
use Rattle.model.proofs.Read.{replace_keyed}
use Rattle.section_upsert.specs.MainDelta.{insert, merge_items}

-- ---- answers

module _ {R A B C : Type 0} where
  -- two functions on what is accepted are one
  map-one : (f : B → C) (g : A → B) (h : A → C) (r : Result R A) → ((a : A) → r ≡ accepted a → f (g a) ≡ h a) → map_accepted f (map_accepted g r) ≡ map_accepted h r
  map-one f g h (accepted a) e = ap accepted (e a refl)
  map-one f g h (refused n) e = refl

  map_same : (f h : B → C) (g : A → B) (r : Result R A) → ((a : A) → r ≡ accepted a → f (g a) ≡ h (g a)) → map_accepted f (map_accepted g r) ≡ map_accepted h (map_accepted g r)
  map_same f h g (accepted a) e = ap accepted (e a refl)
  map_same f h g (refused n) e = refl

map-all : {R A : Type 0} (f : A → A) (r : Result R A) → ((a : A) → f a ≡ a) → r ≡ map_accepted f r
map-all f (accepted a) e = ap accepted (sym (e a))
map-all f (refused n) e = refl

-- ---- comparisons of items

pub flip_lt : (a b : Item) → compare_items a b ≡ Ordering.lt → compare_items b a ≡ Ordering.gt
unfolding compare_items
flip_lt a b q = bytes-order.greater q

pub flip_gt : (a b : Item) → compare_items a b ≡ Ordering.gt → compare_items b a ≡ Ordering.lt
unfolding compare_items
flip_gt a b q = bytes-order.less q

pub less-less : (a b c : Item) → compare_items a b ≡ Ordering.lt → compare_items b c ≡ Ordering.lt → compare_items a c ≡ Ordering.lt
unfolding compare_items
less-less a b c p q = bytes-order.trans p q

-- items of one key compare in the same way
pub same_left : (a b c : Item) → item_key a ≡ item_key b → compare_items a c ≡ compare_items b c
unfolding compare_items
same_left a b c e = ap (λ k. compare_bytes k (item_key c)) e

pub same-right : (a b c : Item) → item_key a ≡ item_key b → compare_items c a ≡ compare_items c b
unfolding compare_items
same-right a b c e = ap (compare_bytes (item_key c)) e

pub same_key : (a b : Item) → compare_items a b ≡ Ordering.eq → item_key a ≡ item_key b
unfolding compare_items
same_key a b q = bytes-order.equal q

pub key-same : (a b : Item) → item_key a ≡ item_key b → compare_items a b ≡ Ordering.eq
unfolding compare_items
key-same a b e = ap (λ k. compare_bytes k (item_key b)) e ∙ bytes-order.same (item_key b)

-- ---- no item of a list has e's key

abbrev pub Absent : Item → List Item → Type 0
Absent e [] = Unit {0}
Absent e (x ∷ xs) = (compare_items e x ≢ Ordering.eq) × Absent e xs

pub above_absent : (e : Item) (l : List Item) → Above item_key compare_bytes (item_key e) l → Absent e l
unfolding compare_items
above_absent e [] a = tt
above_absent e (x ∷ xs) a = (λ q. let z : Ordering.lt ≡ Ordering.eq = sym a.0 ∙ q in impossible cc, above_absent e xs a.1)

less_absent : (e y : Item) (ys : List Item) → compare_items e y ≡ Ordering.lt → Above item_key compare_bytes (item_key y) ys → Absent e (y ∷ ys)
unfolding compare_items
less_absent e y ys q a = above_absent e (y ∷ ys) (q, above-trans item_key compare_bytes bytes-order ys q a)

-- ---- one item inserted

insert-lt : (e x : Item) (xs : List Item) → compare_items e x ≡ Ordering.lt → insert e (x ∷ xs) ≡ e ∷ x ∷ xs
unfolding insert
insert-lt e x xs q = rw q

insert-eq : (e x : Item) (xs : List Item) → compare_items e x ≡ Ordering.eq → insert e (x ∷ xs) ≡ e ∷ xs
unfolding insert
insert-eq e x xs q = rw q

insert_gt : (e x : Item) (xs : List Item) → compare_items e x ≡ Ordering.gt → insert e (x ∷ xs) ≡ x ∷ insert e xs
unfolding insert
insert_gt e x xs q = rw q

insert_absent : (e y : Item) (l : List Item) → compare_items e y ≢ Ordering.eq → Absent e l → Absent e (insert y l)
unfolding insert
insert_absent e y [] n a = (n, tt)
insert_absent e y (x ∷ xs) n a = go (compare_items y x) refl (insert_absent e y xs n a.1)
  where
    go : (o : Ordering) → compare_items y x ≡ o → Absent e (insert y xs) → Absent e (insert y (x ∷ xs))
    go Ordering.lt q ih = rw q (n, a)
    go Ordering.eq q ih = rw q (n, a.1)
    go Ordering.gt q ih = rw q (a.0, ih)

pub length-insert : (e : Item) (l : List Item) → Absent e l → length (insert e l) ≡ suc (length l)
unfolding insert
length-insert e [] a = refl
length-insert e (x ∷ xs) a = go (compare_items e x) refl (length-insert e xs a.1)
  where
    go : (o : Ordering) → compare_items e x ≡ o → length (insert e xs) ≡ suc (length xs) → length (insert e (x ∷ xs)) ≡ suc (length (x ∷ xs))
    go Ordering.lt q ih = rw q
    go Ordering.eq q ih = absurd (a.0 q)
    go Ordering.gt q ih = rw q (ap suc ih)

-- ---- an item added

module _ (combine : Item → Item → Answer Item) where
  abbrev adding : Item → List Item → Answer (List Item)
  adding = add item_key compare_bytes combine

  add-lt : (e x : Item) (xs : List Item) → compare_items e x ≡ Ordering.lt → adding e (x ∷ xs) ≡ accepted (e ∷ x ∷ xs)
  unfolding compare_items
  add-lt e x xs q = rw q

  add-eq : (e x : Item) (xs : List Item) → compare_items e x ≡ Ordering.eq → adding e (x ∷ xs) ≡ map_accepted (λ y. y ∷ xs) (combine x e)
  unfolding compare_items
  add-eq e x xs q = rw q

  add_gt : (e x : Item) (xs : List Item) → compare_items e x ≡ Ordering.gt → adding e (x ∷ xs) ≡ map_accepted (λ ys. x ∷ ys) (adding e xs)
  unfolding compare_items
  add_gt e x xs q = rw q

  -- a new key
  pub add_absent : (e : Item) (l : List Item) → Absent e l → adding e l ≡ accepted (insert e l)
  unfolding insert
  add_absent e [] a = refl
  add_absent e (x ∷ xs) a = go (compare_items e x) refl (add_absent e xs a.1)
    where
      go : (o : Ordering) → compare_items e x ≡ o → adding e xs ≡ accepted (insert e xs) → adding e (x ∷ xs) ≡ accepted (insert e (x ∷ xs))
      go Ordering.lt q ih = add-lt e x xs q ∙ ap accepted (sym (insert-lt e x xs q))
      go Ordering.eq q ih = absurd (a.0 q)
      go Ordering.gt q ih = add_gt e x xs q ∙ ap (map_accepted (λ ys. x ∷ ys)) ih ∙ ap accepted (sym (insert_gt e x xs q))

  module _ (C : Keyed item_key compare_bytes combine) where
    -- what two items of one key make has that key
    made-key : (x e c : Item) → compare_items e x ≡ Ordering.eq → combine x e ≡ accepted c → item_key c ≡ item_key x
    made-key x e c q m = C.keeps (sym (same_key e x q)) m

    -- the item to which e is added
    add_same : (e y : Item) (l : List Item) → compare_items e y ≡ Ordering.eq → Absent e l → adding e (insert y l) ≡ map_accepted (λ c. insert c l) (combine y e)
    unfolding insert
    add_same e y [] q a = add-eq e y [] q
    add_same e y (x ∷ xs) q a = go (compare_items e x) refl (add_same e y xs q a.1)
      where
        of_y : (o : Ordering) → compare_items e x ≡ o → compare_items y x ≡ o
        of_y o z = sym (same_left e y x (same_key e y q)) ∙ z

        of_c : (o : Ordering) → compare_items e x ≡ o → (c : Item) → combine y e ≡ accepted c → compare_items c x ≡ o
        of_c o z c m = same_left c y x (made-key y e c q m) ∙ of_y o z

        go : (o : Ordering) → compare_items e x ≡ o → adding e (insert y xs) ≡ map_accepted (λ c. insert c xs) (combine y e)
            → adding e (insert y (x ∷ xs)) ≡ map_accepted (λ c. insert c (x ∷ xs)) (combine y e)
        go Ordering.lt z ih =
            ap (adding e) (insert-lt y x xs (of_y Ordering.lt z)) ∙ add-eq e y (x ∷ xs) q
            ∙ sym (map-one (λ l. l) (λ c. insert c (x ∷ xs)) (λ c. c ∷ x ∷ xs) (combine y e) (λ c m. insert-lt c x xs (of_c Ordering.lt z c m)))
            ∙ sym (map-all (λ l. l) (map_accepted (λ c. insert c (x ∷ xs)) (combine y e)) (λ l. refl))
        go Ordering.eq z ih = absurd (a.0 z)
        go Ordering.gt z ih =
            ap (adding e) (insert_gt y x xs (of_y Ordering.gt z)) ∙ add_gt e x (insert y xs) z ∙ ap (map_accepted (λ ys. x ∷ ys)) ih
            ∙ map-one (λ ys. x ∷ ys) (λ c. insert c xs) (λ c. insert c (x ∷ xs)) (combine y e) (λ c m. sym (insert_gt c x xs (of_c Ordering.gt z c m)))

    -- an item of another key
    add-other : (e y : Item) (l : List Item) → compare_items e y ≢ Ordering.eq → adding e (insert y l) ≡ map_accepted (insert y) (adding e l)
    unfolding insert
    add-other e y [] n = go (compare_items e y) refl
      where
        go : (o : Ordering) → compare_items e y ≡ o → adding e (insert y []) ≡ map_accepted (insert y) (adding e [])
        go Ordering.lt q = add-lt e y [] q ∙ ap accepted (sym (insert_gt y e [] (flip_lt e y q)))
        go Ordering.eq q = absurd (n q)
        go Ordering.gt q = add_gt e y [] q ∙ ap accepted (sym (insert-lt y e [] (flip_gt e y q)))
    add-other e y (x ∷ xs) n = go (compare_items y x) refl (compare_items e x) refl (compare_items e y) refl (add-other e y xs n)
      where
        -- y goes before all, and e behind y
        first : compare_items y x ≡ Ordering.lt → compare_items y e ≡ Ordering.lt → (o : Ordering) → compare_items e x ≡ o
            → map_accepted (λ l. y ∷ l) (adding e (x ∷ xs)) ≡ map_accepted (insert y) (adding e (x ∷ xs))
        first p q Ordering.lt z = rw (add-lt e x xs z) (ap accepted (sym (insert-lt y e (x ∷ xs) q)))
        first p q Ordering.eq z =
            rw (add-eq e x xs z)
            (map_same (λ l. y ∷ l) (insert y) (λ c. c ∷ xs) (combine x e) (λ c m. sym (insert-lt y c xs (same-right c x y (made-key x e c z m) ∙ p))))
        first p q Ordering.gt z = rw (add_gt e x xs z) (map_same (λ l. y ∷ l) (insert y) (λ l. x ∷ l) (adding e xs) (λ l m. sym (insert-lt y x l p)))

        go : (p : Ordering) → compare_items y x ≡ p → (o : Ordering) → compare_items e x ≡ o → (q : Ordering) → compare_items e y ≡ q
            → adding e (insert y xs) ≡ map_accepted (insert y) (adding e xs) → adding e (insert y (x ∷ xs)) ≡ map_accepted (insert y) (adding e (x ∷ xs))
        go Ordering.lt P o O Ordering.eq Q ih = absurd (n Q)
        go Ordering.lt P o O Ordering.lt Q ih =
            ap (adding e) (insert-lt y x xs P) ∙ add-lt e y (x ∷ xs) Q
            ∙ sym (ap (map_accepted (insert y)) (add-lt e x xs (less-less e y x Q P))
            ∙ ap accepted (insert_gt y e (x ∷ xs) (flip_lt e y Q) ∙ ap (λ l. e ∷ l) (insert-lt y x xs P)))
        go Ordering.lt P o O Ordering.gt Q ih =
            ap (adding e) (insert-lt y x xs P) ∙ add_gt e y (x ∷ xs) Q ∙ first P (flip_gt e y Q) o O
        go Ordering.eq P Ordering.lt O q Q ih =
            let E : compare_items e y ≡ Ordering.lt = same-right y x e (same_key y x P) ∙ O in
            ap (adding e) (insert-eq y x xs P) ∙ add-lt e y xs E
            ∙ sym (ap (map_accepted (insert y)) (add-lt e x xs O) ∙ ap accepted (insert_gt y e (x ∷ xs) (flip_lt e y E) ∙ ap (λ l. e ∷ l) (insert-eq y x xs P)))
        go Ordering.eq P Ordering.eq O q Q ih = absurd (n (same-right y x e (same_key y x P) ∙ O))
        go Ordering.eq P Ordering.gt O q Q ih =
            ap (adding e) (insert-eq y x xs P) ∙ add_gt e y xs (same-right y x e (same_key y x P) ∙ O)
            ∙ sym (ap (map_accepted (insert y)) (add_gt e x xs O) ∙ map-one (insert y) (λ l. x ∷ l) (λ l. y ∷ l) (adding e xs) (λ l m. insert-eq y x l P))
        go Ordering.gt P Ordering.lt O q Q ih =
            let E : compare_items e y ≡ Ordering.lt = less-less e x y O (flip_gt y x P) in
            ap (adding e) (insert_gt y x xs P) ∙ add-lt e x (insert y xs) O
            ∙ sym (ap (map_accepted (insert y)) (add-lt e x xs O) ∙ ap accepted (insert_gt y e (x ∷ xs) (flip_lt e y E) ∙ ap (λ l. e ∷ l) (insert_gt y x xs P)))
        go Ordering.gt P Ordering.eq O q Q ih =
            ap (adding e) (insert_gt y x xs P) ∙ add-eq e x (insert y xs) O
            ∙ sym (ap (map_accepted (insert y)) (add-eq e x xs O)
            ∙ map-one (insert y) (λ c. c ∷ xs) (λ c. c ∷ insert y xs) (combine x e) (λ c m. insert_gt y c xs (same-right c x y (made-key x e c O m) ∙ P)))
        go Ordering.gt P Ordering.gt O q Q ih =
            ap (adding e) (insert_gt y x xs P) ∙ add_gt e x (insert y xs) O ∙ ap (map_accepted (λ l. x ∷ l)) ih
            ∙ map-one (λ l. x ∷ l) (insert y) (λ l. x ∷ insert y l) (adding e xs) (λ l m. refl)
            ∙ sym (ap (map_accepted (insert y)) (add_gt e x xs O) ∙ map-one (insert y) (λ l. x ∷ l) (λ l. x ∷ insert y l) (adding e xs) (λ l m. insert_gt y x l P))

    -- ---- main and delta

    -- e is added to main
    pub add-main : (e : Item) (xs ys : List Item) → Absent e ys → adding e (merge_items xs ys) ≡ map_accepted (λ l. merge_items l ys) (adding e xs)
    unfolding merge_items
    add-main e xs [] a = map-all (λ l. l) (adding e xs) (λ l. refl)
    add-main e xs (y ∷ ys) a =
        add-other e y (merge_items xs ys) a.0 ∙ ap (map_accepted (insert y)) (add-main e xs ys a.1)
        ∙ map-one (insert y) (λ l. merge_items l ys) (λ l. insert y (merge_items l ys)) (adding e xs) (λ l m. refl)

-- no item of ys has the key of one of xs
abbrev pub Apart : List Item → List Item → Type 0
Apart xs [] = Unit {0}
Apart xs (y ∷ ys) = Absent y xs × Apart xs ys

pub union_absent : (e : Item) (xs ys : List Item) → Absent e xs → Absent e ys → Absent e (merge_items xs ys)
unfolding merge_items
union_absent e xs [] a b = a
union_absent e xs (y ∷ ys) a b = insert_absent e y (merge_items xs ys) b.0 (union_absent e xs ys a b.1)

module _ (xs : List Item) where
  pub length_union : (ys : List Item) → Apart xs ys → Sorted item_key compare_bytes ys → length (merge_items xs ys) ≡ length xs + length ys
  unfolding merge_items
  length_union [] a s = omega arith
  length_union (y ∷ ys) a s =
      length-insert y (merge_items xs ys) (union_absent y xs ys a.0 (above_absent y ys s.0)) ∙ omega (arith, length_union ys a.1 s.1)

  -- e is added to the delta
  pub add-delta : (combine : Item → Item → Answer Item) → Keyed item_key compare_bytes combine → (e : Item) (ys : List Item)
      → Absent e xs → Sorted item_key compare_bytes ys
      → add item_key compare_bytes combine e (merge_items xs ys) ≡ map_accepted (merge_items xs) (add item_key compare_bytes combine e ys)
  unfolding merge_items
  add-delta combine C e [] a s = add_absent combine e xs a
  add-delta combine C e (y ∷ ys) a s = go (compare_items e y) refl (add-delta combine C e ys a s.1)
    where
      go : (o : Ordering) → compare_items e y ≡ o
          → add item_key compare_bytes combine e (merge_items xs ys) ≡ map_accepted (merge_items xs) (add item_key compare_bytes combine e ys)
          → add item_key compare_bytes combine e (merge_items xs (y ∷ ys)) ≡ map_accepted (merge_items xs) (add item_key compare_bytes combine e (y ∷ ys))
      go Ordering.lt q ih =
          add_absent combine e (merge_items xs (y ∷ ys)) (union_absent e xs (y ∷ ys) a (less_absent e y ys q s.0))
          ∙ sym (ap (map_accepted (merge_items xs)) (add-lt combine e y ys q))
      go Ordering.eq q ih =
          let b : Absent e ys = above_absent e ys (rw (same_key e y q) s.0) in
          add_same combine C e y (merge_items xs ys) q (union_absent e xs ys a b)
          ∙ sym (ap (map_accepted (merge_items xs)) (add-eq combine e y ys q) ∙ map-one (merge_items xs) (λ c. c ∷ ys) (λ c. insert c (merge_items xs ys)) (combine y e) (λ c m. refl))
      go Ordering.gt q ih =
          add-other combine C e y (merge_items xs ys) (λ z. let w : Ordering.gt ≡ Ordering.eq = sym q ∙ z in impossible cc)
          ∙ ap (map_accepted (insert y)) ih
          ∙ map-one (insert y) (merge_items xs) (λ l. insert y (merge_items xs l)) (add item_key compare_bytes combine e ys) (λ l m. refl)
          ∙ sym (ap (map_accepted (merge_items xs)) (add_gt combine e y ys q) ∙ map-one (merge_items xs) (λ l. y ∷ l) (λ l. insert y (merge_items xs l)) (add item_key compare_bytes combine e ys) (λ l m. refl))

-- ---- the delta added item by item

insert_union : (y : Item) (xs ys : List Item) → Absent y xs → Absent y ys → merge_items (insert y xs) ys ≡ insert y (merge_items xs ys)
insert_union y xs ys a b =
    accepted_inj (sym (ap (map_accepted (λ l. merge_items l ys)) (add_absent replace y xs a)) ∙ sym (add-main replace replace_keyed y xs ys b)
    ∙ add_absent replace y (merge_items xs ys) (union_absent y xs ys a b))

insert-apart : (y : Item) (xs ys : List Item) → Above item_key compare_bytes (item_key y) ys → Apart xs ys → Apart (insert y xs) ys
unfolding compare_items
insert-apart y xs [] a b = tt
insert-apart y xs (z ∷ ys) a b = (
  insert_absent z y xs (λ q. let w : Ordering.gt ≡ Ordering.eq = sym (bytes-order.greater a.0) ∙ q in impossible cc) b.0,
  insert-apart y xs ys a.1 b.1,
)

pub union_added : (xs ys : List Item) → Apart xs ys → Sorted item_key compare_bytes ys → add_all item_key compare_bytes replace ys xs ≡ accepted (merge_items xs ys)
unfolding merge_items
union_added xs [] a s = refl
union_added xs (y ∷ ys) a s =
    ap (λ (r : Answer (List Item)). bind r (λ l. add_all item_key compare_bytes replace ys l)) (add_absent replace y xs a.0)
    ∙ union_added (insert y xs) ys (insert-apart y xs ys s.0 a.1) s.1
    ∙ ap accepted (insert_union y xs ys a.0 (above_absent y ys s.0))
