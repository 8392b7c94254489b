-- Laws of an interleaving, position by position: each position has what one position had, and no two have the same.
-- Assumes nothing.
use mathlib.Core.Path.{◌≡◌, refl, sym, ap, ◌∙◌}
use mathlib.Core.List.{List}
use Prim.Native.Nat.{ℕ, zero, suc, ◌+◌, ◌-◌, ◌≤◌, ◌<◌}
use native.Mathlib.Omega.{arith}
use lib.ListN.{length}
use Rattle.table.specs.Rows.{row_at, UnchangedOutside}
use Rattle.table.specs.Store.{number, Index, Store, row}
use Rattle.table.proofs.PlaceLaws.{by-eq, by-lt}
use Rattle.table.proofs.WordLaws.{same_row}
use Rattle.table_interleave.specs.Interleaved.{Ascending, CountBefore, Interleaved}

-- an interleaving of one reading of the positions is one of every reading that agrees with it
pub interleaved_along : {A B : Type 0} {f g : ℕ → A} (f' g' : ℕ → B) {place : ℕ → ℕ} {used at n p : ℕ} → at + n + p ≤ used
    → ((k m : ℕ) → m < used → g k ≡ f m → g' k ≡ f' m) → Interleaved f g place used at n p → Interleaved f' g' place used at n p
interleaved_along f' g' {place} {at = at} {n = n} h along ω = record {
  below = λ k l m. along k k (omega arith) (ω.below k l m);
  new = λ j l. along (at + place j + j) (at + n + j) (omega arith) (ω.new j l);
  old = λ i j l r. along (at + i + j) (at + i) (omega arith) (ω.old i j l r);
  above = λ k l m. along k k m (ω.above k l m);
}

-- nothing moves where all of the p belong behind the n
pub interleaved_none : {A : Type 0} {f : ℕ → A} {place : ℕ → ℕ} {used at n p : ℕ} → Ascending place n p → (0 < p → n ≤ place 0) → Interleaved f f place used at n p
interleaved_none {f = f} {place} {at = at} {n = n} {p = p} ρ behind = record {
  below = λ k l m. refl;
  new = λ j l.
      let e : place j ≡ n = omega (arith, ρ.most j l, behind (omega arith), ρ.rising 0 j (omega arith) l) in
      ap (λ (i : ℕ). f (at + i + j)) e;
  old = λ i j l r. by-lt 0 j
      (λ m. absurd (omega (arith, r.past 0 m, behind (omega (arith, r.most)))))
      (λ m. ap f (let e : at + i + j ≡ at + i = omega arith in e));
  above = λ k l m. refl;
}

-- ---- the same by other words

module _ {place place' : ℕ → ℕ} {p : ℕ} (same : (k : ℕ) → k < p → place' k ≡ place k) where
  pub rising_as : {n : ℕ} → Ascending place n p → Ascending place' n p
  rising_as ρ = record {
    most = λ j l. rw (same j l) (ρ.most j l);
    rising = λ i j l m. rw (same i (omega arith), same j m) (ρ.rising i j l m);
  }

  count_as : {i j : ℕ} → CountBefore place p i j → CountBefore place' p i j
  count_as r = record {
    most = r.most;
    past = λ k l. rw (same k (omega (arith, r.most))) (r.past k l);
    rest = λ k l m. rw (same k m) (r.rest k l m);
  }

pub interleaved_as : {A : Type 0} {f' f g : ℕ → A} {place' place : ℕ → ℕ} {used at n p : ℕ} → at + n + p ≤ used → ((k : ℕ) → k < used → f' k ≡ f k)
    → ((k : ℕ) → k < p → place' k ≡ place k) → Interleaved f' g place' used at n p → Interleaved f g place used at n p
interleaved_as {g = g} {at = at} {n = n} h same places ω = record {
  below = λ k l m. ω.below k l m ∙ same k (omega arith);
  new = λ j l. ap (λ (i : ℕ). g (at + i + j)) (sym (places j l)) ∙ ω.new j l ∙ same (at + n + j) (omega arith);
  old = λ i j l r. ω.old i j l (count_as places r) ∙ same (at + i) (omega arith);
  above = λ k l m. ω.above k l m ∙ same k m;
}

-- ---- the place k has what the place m had

data Source (place : ℕ → ℕ) (at n p k m : ℕ) : Type 0 where
  under : k < at → m ≡ k → Source place at n p k m
  new : (j : ℕ) → j < p → k ≡ at + place j + j → m ≡ at + n + j → Source place at n p k m
  old : (i j : ℕ) → i < n → CountBefore place p i j → k ≡ at + i + j → m ≡ at + i → Source place at n p k m
  over : at + n + p ≤ k → m ≡ k → Source place at n p k m

-- the number of the p before one of the n is unique
count-once : {place : ℕ → ℕ} {p i j j' : ℕ} → CountBefore place p i j → CountBefore place p i j' → j ≡ j'
count-once {place} {p} {i} {j} {j'} r r' =
    by-lt j j'
    (λ l. absurd (omega (arith, r.rest j (omega arith) (omega (arith, r'.most)), r'.past j l)))
    (λ l. by-lt j' j
    (λ m. absurd (omega (arith, r'.rest j' (omega arith) (omega (arith, r.most)), r.past j' m)))
    (λ m. omega arith))

-- no two places have what one had
source_once : {place : ℕ → ℕ} {at n p k k' m : ℕ} → Ascending place n p → Source place at n p k m → Source place at n p k' m → k ≡ k'
source_once ρ (under a e) (under b f) = omega arith
source_once ρ (under a e) (new j b d f) = omega arith
source_once ρ (under a e) (old i j b r d f) = omega arith
source_once ρ (under a e) (over b f) = omega arith
source_once ρ (new j a c e) (under b f) = omega arith
source_once {place} ρ (new j a c e) (new j' b d f) = let z : j ≡ j' = omega arith in omega (arith, ap place z)
source_once ρ (new j a c e) (old i j' b r d f) = omega arith
source_once ρ (new j a c e) (over b f) = omega arith
source_once ρ (old i j a r c e) (under b f) = omega arith
source_once ρ (old i j a r c e) (new j' b d f) = omega arith
source_once {place} {p = p} ρ (old i j a r c e) (old i' j' b r' d f) =
    let z : i ≡ i' = omega arith in
    omega (arith, count-once r (rw (← z) at r'))
source_once ρ (old i j a r c e) (over b f) = omega arith
source_once ρ (over a e) (under b f) = omega arith
source_once ρ (over a e) (new j b d f) = omega arith
source_once ρ (over a e) (old i j b r d f) = omega arith
source_once ρ (over a e) (over b f) = omega arith

-- every place among the n + p has one of them
data Spread (place : ℕ → ℕ) (n p t : ℕ) : Type 0 where
  new : (j : ℕ) → j < p → t ≡ place j + j → Spread place n p t
  old : (i j : ℕ) → i < n → CountBefore place p i j → t ≡ i + j → Spread place n p t

spread : (place : ℕ → ℕ) (n p t : ℕ) → Ascending place n p → t < n + p → Spread place n p t
spread place n zero t ρ h =
    old t 0 (omega arith) (record { most = omega arith; past = λ k l. absurd (omega arith); rest = λ k l m. absurd (omega arith) }) (omega arith)
spread place n (suc p) t ρ h =
    by-eq t (place p + p)
    (λ e. new p (omega arith) e)
    (λ e. by-lt t (place p + p)
    (λ l. wider (spread place n p t fewer (omega (arith, ρ.most p (omega arith)))) l)
    (λ l. old (t - suc p) (suc p) (omega arith) (record {
      most = omega arith;
      past = λ k m. omega (arith, ρ.rising k p (omega arith) (omega arith));
      rest = λ k m o. absurd (omega arith);
    }) (omega arith)))
  where
    fewer : Ascending place n p
    fewer = record { most = λ j l. ρ.most j (omega arith); rising = λ i j l m. ρ.rising i j l (omega arith) }

    wider : Spread place n p t → t < place p + p → Spread place n (suc p) t
    wider (new j l e) m = new j (omega arith) e
    wider (old i j l r e) m = old i j l (record {
      most = omega (arith, r.most);
      past = r.past;
      rest = λ k a b. by-eq k p (λ z. rw z last) (λ z. r.rest k a (omega arith));
    }) e
      where
        last : i < place p
        last = by-lt i (place p) (λ z. z) (λ z. by-lt j p
            (λ y. absurd (omega (arith, r.rest j (omega arith) y, ρ.rising j p (omega arith) (omega arith))))
            (λ y. absurd (omega arith)))

module _ {A : Type 0} {f g : ℕ → A} {place : ℕ → ℕ} {used at n p : ℕ} (ρ : Ascending place n p) (ω : Interleaved f g place used at n p) where
  abbrev From : ℕ → Type 0
  From k = (m : ℕ) × (m < at + n + p) × (at ≤ m) × Source place at n p k m × (g k ≡ f m)

  among : (k : ℕ) → at ≤ k → k < at + n + p → From k
  among k l h = go (spread place n p (k - at) ρ (omega arith))
    where
      go : Spread place n p (k - at) → From k
      go (new j m e) =
          let z : k ≡ at + place j + j = omega arith in
          (at + n + j, omega arith, omega arith, new j m z refl, ap g z ∙ ω.new j m)
      go (old i j m r e) =
          let z : k ≡ at + i + j = omega arith in
          (at + i, omega arith, omega arith, old i j m r z refl, ap g z ∙ ω.old i j m r)

  -- what each of the n and p had, each has
  pub interleaved_each : (P : A → Type 0) → ((m : ℕ) → at ≤ m → m < at + n + p → P (f m)) → (k : ℕ) → at ≤ k → k < at + n + p → P (g k)
  interleaved_each P each k l h = go (among k l h)
    where
      go : From k → P (g k)
      go (m, a, b, s, e) = rw e (each m b a)

-- what holds of each two of the n, each two of the p and one of each, in order, holds of each two after
module _ {A : Type 0} {f g : ℕ → A} {place : ℕ → ℕ} {used at n p : ℕ} (ρ : Ascending place n p) (ω : Interleaved f g place used at n p) (R : A → A → Type 0)
    (olds : (i j : ℕ) → i < j → j < n → R (f (at + i)) (f (at + j))) (news : (i j : ℕ) → i < j → j < p → R (f (at + n + i)) (f (at + n + j)))
    (past : (i j : ℕ) → j < p → i < place j → R (f (at + i)) (f (at + n + j)))
    (rest : (i j : ℕ) → j < p → place j ≤ i → i < n → R (f (at + n + j)) (f (at + i))) where
  pub interleaved_pairs : (k l : ℕ) → k < l → l < n + p → R (g (at + k)) (g (at + l))
  interleaved_pairs k l h m = go (spread place n p k ρ (omega arith)) (spread place n p l ρ m)
    where
      there : (j : ℕ) → j < p → (t : ℕ) → t ≡ place j + j → g (at + t) ≡ f (at + n + j)
      there j a t e = ap g (let z : at + t ≡ at + place j + j = omega arith in z) ∙ ω.new j a

      still : (i c : ℕ) → i < n → CountBefore place p i c → (t : ℕ) → t ≡ i + c → g (at + t) ≡ f (at + i)
      still i c a r t e = ap g (let z : at + t ≡ at + i + c = omega arith in z) ∙ ω.old i c a r

      -- of two places that rise, the later is that of a later one
      later : (i j : ℕ) → i < p → place i + i < place j + j → i < j
      later i j a e = by-lt i j (λ z. z) (λ z. absurd (omega (arith, ρ.rising j i z a)))

      ranks : (i j c d : ℕ) → CountBefore place p i c → CountBefore place p j d → i + c < j + d → i < j
      ranks i j c d r s e = by-lt i j (λ z. z) (λ z. by-lt c d
          (λ y. absurd (omega (arith, s.past c y, r.rest c (omega arith) (omega (arith, s.most)))))
          (λ y. absurd (omega arith)))

      before : (i j c : ℕ) → j < p → CountBefore place p i c → place j + j < i + c → place j ≤ i
      before i j c a r e = by-lt j c (λ z. r.past j z) (λ z. absurd (omega (arith, r.rest j z a)))

      behind : (i j c : ℕ) → j < p → CountBefore place p i c → i + c < place j + j → i < place j
      behind i j c a r e = by-lt j c (λ z. absurd (omega (arith, r.past j z))) (λ z. r.rest j z a)

      go : Spread place n p k → Spread place n p l → R (g (at + k)) (g (at + l))
      go (new i a d) (new j b e) = rw (there i a k d, there j b l e) (news i j (later i j a (omega arith)) b)
      go (new i a d) (old j c b r e) = rw (there i a k d, still j c b r l e) (rest j i a (before j i c a r (omega arith)) b)
      go (old i c a r d) (new j b e) = rw (still i c a r k d, there j b l e) (past i j b (behind i j c b r (omega arith)))
      go (old i c a r d) (old j x b s e) = rw (still i c a r k d, still j x b s l e) (olds i j (ranks i j c x r s (omega arith)) b)

-- interleaving an index leaves an index
pub interleaved_index : {f g : ℕ → ℕ} {place : ℕ → ℕ} {used at n p : ℕ} → Ascending place n p → at + n + p ≤ used → Interleaved f g place used at n p
    → Index f used → Index g used
interleaved_index {f} {g} {place} {used} {at} {n} {p} ρ h ω ι = record {
  below = λ k l. below k (source k l);
  once = λ k j l m e. once k j (source k l) (source j m) e;
}
  where
    Source_of : ℕ → Type 0
    Source_of k = (m : ℕ) × (m < used) × Source place at n p k m × (g k ≡ f m)

    inner : (k : ℕ) → From ρ ω k → Source_of k
    inner k (m, a, b, s, e) = (m, omega arith, s, e)

    source : (k : ℕ) → k < used → Source_of k
    source k l = by-lt k at
        (λ a. (k, l, under a refl, ω.below k (omega arith) a))
        (λ a. by-lt k (at + n + p)
        (λ b. inner k (among ρ ω k a b))
        (λ b. (k, l, over b refl, ω.above k b l)))

    below : (k : ℕ) → Source_of k → g k < used
    below k (m, l, s, e) = rw e (ι.below m l)

    once : (k j : ℕ) → Source_of k → Source_of j → g k ≡ g j → k ≡ j
    once k j (m, l, s, e) (m', l', s', e') x =
        let y : m ≡ m' = ι.once m m' l l' (sym e ∙ x ∙ e') in
        source_once ρ (rw y at s) s'

-- ---- rows in the order of an index

module _ {ws ws' : List ℕ} {index used at n p : ℕ} {place : ℕ → ℕ} (σ : Store ws index used) (ρ : Ascending place n p) (h : at + n + p ≤ used)
    (ω : Interleaved (number ws index) (number ws' index) place used at n p) where
  pub interleaved_store : length ws' ≡ length ws → Store ws' index used
  interleaved_store e = record {
    rows_end = σ.rows_end;
    index_end = omega (arith, σ.index_end);
    numbers = interleaved_index ρ h ω σ.numbers;
  }

  -- the rows are not written, so a place that has the number of another has its row
  pub interleaved_rows : {hi : ℕ} → UnchangedOutside ws ws' index hi → Interleaved (row ws index) (row ws' index) place used at n p
  unfolding row
  interleaved_rows κ = interleaved_along (row ws index) (row ws' index) h along ω
    where
      along : (k m : ℕ) → m < used → number ws' index k ≡ number ws index m → row ws' index k ≡ row ws index m
      along k m l e = ap (row_at ws') e ∙ same_row κ (number ws index m) (omega (arith, σ.numbers.below m l, σ.rows_end))
