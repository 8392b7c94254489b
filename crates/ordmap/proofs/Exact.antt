-- Adding entries, said exactly: the one sorted list that holds at each key what the entries of that key make. Assumes nothing.
use mathlib.Core.Path.{◌≡◌, sym, ap, ◌∙◌}
use mathlib.Core.Logic.{◌↔◌}
use mathlib.Core.List.{List}
use Prim.Native.Nat.{Ordering}
use Rattle.ordmap.specs.Result.{Result, accepted}
use Rattle.ordmap.specs.Keyed.{Order, Sorted, find, with_key, join_all, add_all, Keyed}
use Rattle.ordmap.proofs.Results.{accepted_inj, is_accepted}
use Rattle.ordmap.proofs.Maps.{ext}
use Rattle.ordmap.proofs.Adding.{add_all-sorted, add_all-found, add_all-accepted}

module _ {R E K : Type 0} (key : E → K) (cmp : K → K → Ordering) (combine : E → E → Result R E) (L : Order cmp)
    (C : Keyed key cmp combine) where
  -- EXACTLY: the result is the one sorted list that holds at each key what the entries of that key make in order, after what was held
  pub add_all-exactly : (es m n : List E) → Sorted key cmp m
      → (add_all key cmp combine es m ≡ accepted n)
      ↔ (Sorted key cmp n × ((k : K) → join_all combine (find key cmp k m) (with_key key cmp k es) ≡ accepted (find key cmp k n)))
  add_all-exactly es m n s = (λ p. (add_all-sorted key cmp combine L C es m n s p, add_all-found key cmp combine L C es m n s p), back)
    where
      back : Sorted key cmp n × ((k : K) → join_all combine (find key cmp k m) (with_key key cmp k es) ≡ accepted (find key cmp k n)) → add_all key cmp combine es m ≡ accepted n
      back (t, j) =
          let (n', q) = add_all-accepted key cmp combine L C es m s (λ k. is_accepted (j k)) in
          let e : n' ≡ n = ext key cmp L n' n (add_all-sorted key cmp combine L C es m n' s q) t
          (λ k. accepted_inj (sym (add_all-found key cmp combine L C es m n' s q k) ∙ j k)) in
          q ∙ ap (λ (l : List E). accepted l) e
