-- The library's comparisons of numbers, and its tests of an `Ordering`, in the terms of the model's. Assumes nothing.
use mathlib.Core.Path.{◌≡◌, refl, ap, ◌∙◌}
use mathlib.Core.Logic.{◌≢◌, ◌⊎◌, inl, inr}
use mathlib.Core.Bool.{Bool, true, false}
use Prim.Native.Nat.{ℕ, ◌≤◌, compare, Ordering}
use native.Mathlib.Omega.{arith}
use borrow.Author.Tests.{ltb-true, ltb-false}
use lib.Dec.{ltb, eqb, compare_is_eq}
use Rattle.std.proofs.lemmas.Bool.Decides.{eqb_tells}
use Rattle.std.specs.declared.cmp.Ordering.{Ordering as Order}
use Rattle.std.specs.declared.cmp.Ordering.TheVariants.{Less, Equal, Greater}
use Rattle.std.specs.Ordering.{is_lt, is_eq, is_ne, ordering_then, nat_cmp}
use Rattle.ordmap.specs.Compare.{lex}
use Rattle.model.specs.Order.{is_less}
use Rattle.compare.specs.Orders.{order_of}
use Rattle.compare.proofs.CompareLaws.{number-less, number-greater, number-equal}

pub numbers_compared : {o : Order} (a b : ℕ) → o ≡ nat_cmp a b → order_of o ≡ compare a b
numbers_compared a b e = ap order_of e ∙ go (ltb a b) refl (eqb_tells a b)
  where
    go : (t : Bool) → ltb a b ≡ t → ((eqb a b ≡ true) × (a ≡ b)) ⊎ ((eqb a b ≡ false) × (a ≢ b)) → order_of (nat_cmp a b) ≡ compare a b
    go true t d = rw t (number-less (ltb-true a b t))
    go false t (inl (q, h)) = rw (t, q) (number-equal (ltb-false a b t) (omega arith))
    go false t (inr (q, h)) = let l : b ≤ a = ltb-false a b t in rw (t, q) (number-greater (omega arith))

module _ {p : Ordering} where
  pub then_compared : {o : Order} (x y : Order) {q : Ordering} → order_of x ≡ p → order_of y ≡ q → o ≡ ordering_then x y → order_of o ≡ lex p q
  then_compared Less y h l e = ap order_of e ∙ rw (← h)
  then_compared Equal y h l e = ap order_of e ∙ l ∙ rw (← h)
  then_compared Greater y h l e = ap order_of e ∙ rw (← h)

  pub tells_less : {t : Bool} (o : Order) → order_of o ≡ p → t ≡ is_lt o → t ≡ is_less p
  tells_less Less h e = e ∙ rw (← h)
  tells_less Equal h e = e ∙ rw (← h)
  tells_less Greater h e = e ∙ rw (← h)

  pub tells_equal : {t : Bool} (o : Order) → order_of o ≡ p → t ≡ is_eq o → t ≡ compare_is_eq p
  tells_equal Less h e = e ∙ rw (← h)
  tells_equal Equal h e = e ∙ rw (← h)
  tells_equal Greater h e = e ∙ rw (← h)

-- whether an answer is not Equal
pub ne_unequal : {t : Bool} (o : Order) → t ≡ is_ne o → t ≡ true → compare_is_eq (order_of o) ≡ false
ne_unequal Less e h = refl
ne_unequal Equal e h = cc
ne_unequal Greater e h = refl

pub ne_equal : {t : Bool} (o : Order) → t ≡ is_ne o → t ≡ false → compare_is_eq (order_of o) ≡ true
ne_equal Less e h = cc
ne_equal Equal e h = refl
ne_equal Greater e h = cc
