-- Laws of moved and swapped blocks, position by position. Assumes nothing.
use mathlib.Core.Path.{◌≡◌, refl, sym, subst, ◌∙◌}
use mathlib.Core.Logic.{◌≢◌}
use Prim.Native.Nat.{ℕ, ◌+◌, ◌-◌, ◌≤◌, ◌<◌}
use native.Mathlib.Decide.{ℕ_discrete, dec_lt}
use native.Mathlib.Omega.{arith}
use Rattle.table.specs.Places.{RowsMoved, BlocksSwapped}
use Rattle.table.specs.Store.{Index}

pub by-eq : {C : Type 0} (a b : ℕ) → (a ≡ b → C) → (a ≢ b → C) → C
by-eq a b f g = elim (ℕ_discrete a b) [ yes e ↦ f e | no n ↦ g n ]

pub by-lt : {C : Type 0} (a b : ℕ) → (a < b → C) → (b ≤ a → C) → C
by-lt a b f g = elim (dec_lt a b) [ yes e ↦ f e | no n ↦ g (omega arith) ]

-- ---- a block that is moved

-- a move of one reading of the positions is a move of every reading that agrees with it
pub moved_along : {A B : Type 0} {f g : ℕ → A} (f' g' : ℕ → B) {used to from n : ℕ} → to ≤ from → from + n ≤ used
    → ((k m : ℕ) → m < used → g k ≡ f m → g' k ≡ f' m) → RowsMoved f g used to from n → RowsMoved f' g' used to from n
moved_along f' g' l h along β = record {
  below = λ k p q. along k k (omega arith) (β.below k p q);
  there = λ k m p q e. along k m (omega arith) (β.there k m p q e);
  up = λ k m p q e. along k m (omega arith) (β.up k m p q e);
  above = λ k p q. along k k q (β.above k p q);
}

-- the place k has what the place m had
data Source (to from n k m : ℕ) : Type 0 where
  under : k < to → m ≡ k → Source to from n k m
  there : to ≤ k → k < to + n → m + to ≡ from + k → Source to from n k m
  between : to + n ≤ k → k < from + n → m + n ≡ k → Source to from n k m
  over : from + n ≤ k → m ≡ k → Source to from n k m

-- no two places have what one had
source_once : {to from n k j m : ℕ} → to ≤ from → Source to from n k m → Source to from n j m → k ≡ j
source_once h (under a e) (under b f) = omega arith
source_once h (under a e) (there b d f) = omega arith
source_once h (under a e) (between b d f) = omega arith
source_once h (under a e) (over b f) = omega arith
source_once h (there a c e) (under b f) = omega arith
source_once h (there a c e) (there b d f) = omega arith
source_once h (there a c e) (between b d f) = omega arith
source_once h (there a c e) (over b f) = omega arith
source_once h (between a c e) (under b f) = omega arith
source_once h (between a c e) (there b d f) = omega arith
source_once h (between a c e) (between b d f) = omega arith
source_once h (between a c e) (over b f) = omega arith
source_once h (over a e) (under b f) = omega arith
source_once h (over a e) (there b d f) = omega arith
source_once h (over a e) (between b d f) = omega arith
source_once h (over a e) (over b f) = omega arith

-- places and the places from which they have what they have: numbers of an index are an index still, where no two come from one
module _ (From : ℕ → ℕ → Type 0) (from-once : (k j m : ℕ) → From k m → From j m → k ≡ j) (f g : ℕ → ℕ) (used : ℕ) where
  abbrev Comes : ℕ → Type 0
  Comes k = (m : ℕ) × (m < used) × From k m × (g k ≡ f m)

  index-from : ((k : ℕ) → k < used → Comes k) → Index f used → Index g used
  index-from comes ι = record { below = λ k p. below k (comes k p); once = λ k j p q e. once k j (comes k p) (comes j q) e }
    where
      below : (k : ℕ) → Comes k → g k < used
      below k (m, p, s, e) = rw e (ι.below m p)

      once : (k j : ℕ) → Comes k → Comes j → g k ≡ g j → k ≡ j
      once k j (m, p, s, e) (m', p', s', e') x =
          let y : m ≡ m' = ι.once m m' p p' (sym e ∙ x ∙ e') in
          from-once k j m' (subst (From k) y s) s'

-- moving a block of an index leaves an index
pub moved-index : {f g : ℕ → ℕ} {used to from n : ℕ} → to ≤ from → from + n ≤ used → RowsMoved f g used to from n → Index f used → Index g used
moved-index {f} {g} {used} {to} {from} {n} l h β =
    index-from (Source to from n) (λ k j m. source_once l) f g used (λ k p. by-lt k to
    (λ a. (k, p, under a refl, β.below k (omega arith) a))
    (λ a. by-lt k (to + n)
    (λ b. (from + (k - to), omega arith, there a b (omega arith), β.there k (from + (k - to)) a b (omega arith)))
    (λ b. by-lt k (from + n)
    (λ c. (k - n, omega arith, between b c (omega arith), β.up k (k - n) b (omega arith) (omega arith)))
    (λ c. (k, p, over c refl, β.above k c p)))))

-- ---- three blocks in reverse order

-- the last block comes to the front, and then the second before the first
pub swapped : {A : Type 0} {f g h : ℕ → A} {used lo hi mid end : ℕ} → lo ≤ hi → hi ≤ mid → mid ≤ end → end ≤ used
    → RowsMoved f g used lo mid (end - mid) → RowsMoved g h used (lo + (end - mid)) (hi + (end - mid)) (mid - hi) → BlocksSwapped f h used lo hi mid end
swapped {lo = lo} {hi = hi} {mid = mid} {end = end} a b c d β γ =
    let t = end - mid in
    record {
      below = λ k p q. γ.below k p (omega arith) ∙ β.below k p q;
      third = λ k m p q e. γ.below k (omega arith) (omega arith) ∙ β.there k m p q e;
      second = λ k m p q e. γ.there k (m + t) p q (omega arith) ∙ β.up (m + t) m (omega arith) (omega arith) (omega arith);
      first = λ k m p q e. γ.up k (m + t) (omega arith) (omega arith) (omega arith) ∙ β.up (m + t) m (omega arith) (omega arith) (omega arith);
      above = λ k p q. γ.above k (omega arith) q ∙ β.above k (omega arith) q;
    }

-- a swap of one reading of the positions is a swap of every reading that agrees with it
pub swapped_along : {A B : Type 0} {f g : ℕ → A} (f' g' : ℕ → B) {used lo hi mid end : ℕ} → lo ≤ hi → hi ≤ mid → mid ≤ end → end ≤ used
    → ((k m : ℕ) → m < used → g k ≡ f m → g' k ≡ f' m) → BlocksSwapped f g used lo hi mid end → BlocksSwapped f' g' used lo hi mid end
swapped_along f' g' a b c d along τ = record {
  below = λ k p q. along k k (omega arith) (τ.below k p q);
  third = λ k m p q e. along k m (omega arith) (τ.third k m p q e);
  second = λ k m p q e. along k m (omega arith) (τ.second k m p q e);
  first = λ k m p q e. along k m (omega arith) (τ.first k m p q e);
  above = λ k p q. along k k q (τ.above k p q);
}

-- ---- two blocks that change places

-- the place k has what the place m had
data Partner (lo mid n k m : ℕ) : Type 0 where
  stays : (lo ≤ k → k < lo + n → ⊥) → (mid ≤ k → k < mid + n → ⊥) → m ≡ k → Partner lo mid n k m
  fore : lo ≤ k → k < lo + n → m + lo ≡ mid + k → Partner lo mid n k m
  back : mid ≤ k → k < mid + n → m + mid ≡ lo + k → Partner lo mid n k m

partner_once : {lo mid n k j m : ℕ} → lo + n ≤ mid → Partner lo mid n k m → Partner lo mid n j m → k ≡ j
partner_once h (stays a b e) (stays c d f) = omega arith
partner_once h (stays a b e) (fore c d f) = absurd (b (omega arith) (omega arith))
partner_once h (stays a b e) (back c d f) = absurd (a (omega arith) (omega arith))
partner_once h (fore a b e) (stays c d f) = absurd (d (omega arith) (omega arith))
partner_once h (fore a b e) (fore c d f) = omega arith
partner_once h (fore a b e) (back c d f) = omega arith
partner_once h (back a b e) (stays c d f) = absurd (c (omega arith) (omega arith))
partner_once h (back a b e) (fore c d f) = omega arith
partner_once h (back a b e) (back c d f) = omega arith

-- numbers of which two blocks change places are an index still
pub exchanged_index : {f g : ℕ → ℕ} {used lo mid : ℕ} (n : ℕ) → lo + n ≤ mid → mid + n ≤ used → BlocksSwapped f g used lo (lo + n) mid (mid + n)
    → Index f used → Index g used
exchanged_index {f} {g} {used} {lo} {mid} n l h τ =
    index-from (Partner lo mid n) (λ k j m. partner_once l) f g used (λ k p. by-lt k lo
    (λ a. (k, p, stays (λ x y. omega arith) (λ x y. omega arith) refl, τ.below k (omega arith) a))
    (λ a. by-lt k (lo + n)
    (λ b. (mid + (k - lo), omega arith, fore a b (omega arith), τ.third k (mid + (k - lo)) a (omega arith) (omega arith)))
    (λ b. by-lt k mid
    (λ c. (k, p, stays (λ x y. omega arith) (λ x y. omega arith) refl, τ.second k k (omega arith) (omega arith) (omega arith)))
    (λ c. by-lt k (mid + n)
    (λ d. (lo + (k - mid), omega arith, back c d (omega arith), τ.first k (lo + (k - mid)) (omega arith) (omega arith) (omega arith)))
    (λ d. (k, p, stays (λ x y. omega arith) (λ x y. omega arith) refl, τ.above k d p))))))
