-- Two sorted lists joined in one pass, the entries of one key combined where they meet. Assumes nothing.
use Rattle.std.specs.Prelude.{List, [], ◌∷◌}
use Prim.Native.Nat.{Ordering}
use Rattle.ordmap.specs.Result.{Result, accepted, bind, map_accepted}
use Rattle.ordmap.specs.Keyed.{by_order}

module _ {R E K : Type 0} (key : E → K) (cmp : K → K → Ordering) (combine : E → E → Result R E) where
  -- x and xs, which `rest` joins with what is left of the other list
  abbrev pub pass_from : E → List E → (List E → Result R (List E)) → List E → Result R (List E)
  pass_from x xs rest [] = accepted (x ∷ xs)
  pass_from x xs rest (y ∷ ys) =
      let first = map_accepted (λ l. x ∷ l) (rest (y ∷ ys)) in
      let both = bind (combine x y) (λ z. map_accepted (λ l. z ∷ l) (rest ys)) in
      let second = map_accepted (λ l. y ∷ l) (pass_from x xs rest ys) in
      by_order (cmp (key x) (key y)) first both second

  abbrev pub one_pass : List E → List E → Result R (List E)
  one_pass [] ys = accepted ys
  one_pass (x ∷ xs) ys = pass_from x xs (λ l. one_pass xs l) ys
