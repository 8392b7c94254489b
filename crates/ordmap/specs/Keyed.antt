-- A finite map as a list of entries, strictly ascending by key. An entry holds its key; two entries of one key are combined, which may
-- refuse. Assumes nothing.
use Rattle.std.specs.Prelude.{◌≡◌, cond, List, [], ◌∷◌}
use Rattle.std.proofs.Math.Option.{Option, none, some}
use Prim.Native.Nat.{Ordering}
use Rattle.std.proofs.Math.Dec.{compare_is_eq}
use Rattle.ordmap.specs.Result.{Result, accepted, bind, map_accepted, value}

-- the first, the second or the third, as the comparison says less, equal or greater
abbrev pub by_order : {A : Type 0} → Ordering → A → A → A → A
by_order Ordering.lt a b c = a
by_order Ordering.eq a b c = b
by_order Ordering.gt a b c = c

-- a three-way comparison that is a strict total order, and says equal of equal keys alone
pub record Order {K : Type 0} (cmp : K → K → Ordering) : Type 0 where
  pub same : (a : K) → cmp a a ≡ Ordering.eq
  pub equal : {a b : K} → cmp a b ≡ Ordering.eq → a ≡ b
  pub less : {a b : K} → cmp a b ≡ Ordering.gt → cmp b a ≡ Ordering.lt
  pub greater : {a b : K} → cmp a b ≡ Ordering.lt → cmp b a ≡ Ordering.gt
  pub trans : {a b c : K} → cmp a b ≡ Ordering.lt → cmp b c ≡ Ordering.lt → cmp a c ≡ Ordering.lt

module _ {E K : Type 0} (key : E → K) (cmp : K → K → Ordering) where
  -- the key is below every entry's
  abbrev pub Above : K → List E → Type 0
  Above k [] = Unit {0}
  Above k (x ∷ xs) = (cmp k (key x) ≡ Ordering.lt) × Above k xs

  -- strictly ascending by key
  abbrev pub Sorted : List E → Type 0
  Sorted [] = Unit {0}
  Sorted (x ∷ xs) = Above (key x) xs × Sorted xs

  -- the entry of a key
  abbrev pub find : K → List E → Option E
  find k [] = none
  find k (x ∷ xs) = cond (compare_is_eq (cmp k (key x))) (some x) (find k xs)

  -- the entries of a key, in the list's order
  abbrev pub with_key : K → List E → List E
  with_key k [] = []
  with_key k (x ∷ xs) = cond (compare_is_eq (cmp k (key x))) (x ∷ with_key k xs) (with_key k xs)

-- an entry that comes to what is held of its key, if anything is
module _ {R E : Type 0} (combine : E → E → Result R E) where
  abbrev pub step : Option E → E → Result R E
  step none e = accepted e
  step (some x) e = combine x e

  -- entries of one key, one after the other
  abbrev pub join_all : Option E → List E → Result R (Option E)
  join_all held [] = accepted held
  join_all held (e ∷ es) = bind (step held e) (λ y. join_all (some y) es)

module _ {R E K : Type 0} (key : E → K) (cmp : K → K → Ordering) (combine : E → E → Result R E) where
  -- the map with one more entry: a new key's is put in its place, a known key's is combined with the entry there
  abbrev pub add : E → List E → Result R (List E)
  add e [] = accepted (e ∷ [])
  add e (x ∷ xs) =
      let here = map_accepted (λ y. y ∷ xs) (combine x e) in
      let later = map_accepted (λ ys. x ∷ ys) (add e xs) in
      by_order (cmp (key e) (key x)) (accepted (e ∷ x ∷ xs)) here later

  -- the entries added in order, up to the first refusal
  abbrev pub add_all : List E → List E → Result R (List E)
  add_all [] m = accepted m
  add_all (e ∷ es) m = bind (add e m) (λ n. add_all es n)

  -- what two entries of one key make has that key
  pub record Keyed : Type 0 where
    pub keeps : {x e y : E} → key x ≡ key e → combine x e ≡ accepted y → key y ≡ key x

  -- entries of one key may be combined in groups: x with what a and b make is x with a, then with b
  pub record Grouped : Type 0 where
    pub regroup : (x a b : E) {y : E} → key x ≡ key a → combine a b ≡ accepted y
        → value (bind (combine x a) (λ z. combine z b)) ≡ value (combine x y)
