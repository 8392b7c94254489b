-- Entries interleaved by their keys: the result is the map with all of them added. Assumes nothing.
use mathlib.Core.Path.{◌≡◌, sym, ap, ap₂, ◌∙◌}
use mathlib.Core.List.{◌∷◌}
use Prim.Native.Nat.{ℕ, zero, suc, ◌+◌, ◌-◌, ◌≤◌, ◌<◌, Ordering}
use native.Mathlib.Omega.{arith}
use Rattle.table.specs.Places.{tabulate}
use Rattle.table.proofs.PlaceLaws.{by-eq, by-lt}
use Rattle.table.proofs.TabulateLaws.{tabulate_cong}
use Rattle.ordmap.specs.Result.{Result, accepted, map_accepted}
use Rattle.ordmap.specs.Keyed.{Order, Above, Sorted, add_all, Keyed}
use Rattle.ordmap.specs.OnePass.{one_pass}
use Rattle.ordmap.proofs.Results.{impossible}
use Rattle.ordmap.proofs.Adding.{add_all-sorted}
use Rattle.ordmap.proofs.OnePassLaws.{one_pass-adds}
use Rattle.table_interleave.specs.Interleaved.{Ascending, CountBefore, Interleaved, InsertPositions}

-- ---- entries in ascending order

module _ {E K : Type 0} (key : E → K) (cmp : K → K → Ordering) where
  above-tabulate : (k : K) (f : ℕ → E) (n : ℕ) → ((i : ℕ) → i < n → cmp k (key (f i)) ≡ Ordering.lt) → Above key cmp k (tabulate f n)
  unfolding tabulate
  above-tabulate k f zero h = tt
  above-tabulate k f (suc n) h = (h 0 (omega arith), above-tabulate k (λ i. f (suc i)) n (λ i l. h (suc i) (omega arith)))

  pub sorted-tabulate : (f : ℕ → E) (n : ℕ) → ((i j : ℕ) → i < j → j < n → cmp (key (f i)) (key (f j)) ≡ Ordering.lt) → Sorted key cmp (tabulate f n)
  unfolding tabulate
  sorted-tabulate f zero h = tt
  sorted-tabulate f (suc n) h = (
    above-tabulate (key (f 0)) (λ i. f (suc i)) n (λ i l. h 0 (suc i) (omega arith) (omega arith)),
    sorted-tabulate (λ i. f (suc i)) n (λ i j l m. h (suc i) (suc j) (omega arith) (omega arith)),
  )

  -- the places of ascending entries rise
  pub positions-rising : Order cmp → {x y : ℕ → E} {place : ℕ → ℕ} {n p : ℕ} → ((i j : ℕ) → i < j → j < p → cmp (key (y i)) (key (y j)) ≡ Ordering.lt)
      → InsertPositions key cmp x y place n p → Ascending place n p
  positions-rising L {x} {y} {place} {n} {p} up σ = record {
    most = σ.most;
    rising = λ i j l h. by-lt (place j) (place i) (λ z. absurd (back i j l h z)) (λ z. z);
  }
    where
      -- an entry between the two places would come before itself
      back : (i j : ℕ) → i ≤ j → j < p → place j < place i → ⊥
      back i j l h z = by-eq i j
          (λ e. omega (arith, ap place e))
          (λ e. let a = L.trans (σ.past i (place j) (omega arith) z) (up i j (omega arith) h) in
          let b = σ.rest j (place j) h (omega arith) (omega (arith, σ.most i (omega arith))) in
          let c : Ordering.gt ≡ Ordering.lt = sym (L.greater a) ∙ b in
          impossible cc)

  -- the same keys at the same places
  pub positions_as : {x x' y y' : ℕ → E} {place place' : ℕ → ℕ} {n p : ℕ} → ((i : ℕ) → i < n → key (x' i) ≡ key (x i))
      → ((j : ℕ) → j < p → key (y' j) ≡ key (y j))
      → ((j : ℕ) → j < p → place' j ≡ place j) → InsertPositions key cmp x y place n p → InsertPositions key cmp x' y' place' n p
  positions_as olds news places σ = record {
    most = λ j l. omega (arith, places j l, σ.most j l);
    past = λ j i l m. ap₂ cmp (olds i (omega (arith, σ.most j l, places j l))) (news j l) ∙ σ.past j i l (omega (arith, places j l));
    rest = λ j i l m h. ap₂ cmp (news j l) (olds i h) ∙ σ.rest j i l (omega (arith, places j l)) h;
  }

  -- one more, the last
  pub positions-more : {x y : ℕ → E} {place : ℕ → ℕ} {n p : ℕ} → InsertPositions key cmp x y place n p → place p ≤ n
      → ((i : ℕ) → i < place p → cmp (key (x i)) (key (y p)) ≡ Ordering.lt)
      → ((i : ℕ) → place p ≤ i → i < n → cmp (key (y p)) (key (x i)) ≡ Ordering.lt)
      → InsertPositions key cmp x y place n (p + 1)
  positions-more {p = p} σ h past rest = record {
    most = λ j l. by-eq j p (λ e. rw e h) (λ e. σ.most j (omega arith));
    past = λ j i l m. by-eq j p (λ e. rw e (past i (rw e at m))) (λ e. σ.past j i (omega arith) m);
    rest = λ j i l m k. by-eq j p (λ e. rw e (rest i (rw e at m) k)) (λ e. σ.rest j i (omega arith) m k);
  }

-- ---- lists

-- z is x and y, the j-th of y behind place j of x
record MergedPair {E K : Type 0} (key : E → K) (cmp : K → K → Ordering) (x y z : ℕ → E) (place : ℕ → ℕ) (n p : ℕ) : Type 0 where
  seats : InsertPositions key cmp x y place n p
  rising : Ascending place n p
  new : (j : ℕ) → j < p → z (place j + j) ≡ y j
  old : (i j : ℕ) → i < n → CountBefore place p i j → z (i + j) ≡ x i

module _ {E K : Type 0} {key : E → K} {cmp : K → K → Ordering} {x y z : ℕ → E} {place : ℕ → ℕ} {n p : ℕ} where
  -- without the first of the x, which comes first
  mixed_old : ((j : ℕ) → j < p → 0 < place j) → MergedPair key cmp x y z place (suc n) p
      → MergedPair key cmp (λ i. x (suc i)) y (λ i. z (suc i)) (λ j. place j - 1) n p
  mixed_old first μ = record {
    seats = record {
      most = λ j l. omega (arith, μ.rising.most j l);
      past = λ j i l m. μ.seats.past j (suc i) l (omega (arith, first j l));
      rest = λ j i l m h. μ.seats.rest j (suc i) l (omega (arith, first j l)) (omega arith);
    };
    rising = record { most = λ j l. omega (arith, μ.rising.most j l); rising = λ i j l m. omega (arith, μ.rising.rising i j l m) };
    new = λ j l. ap z (let e : suc (place j - 1 + j) ≡ place j + j = omega (arith, first j l) in e) ∙ μ.new j l;
    old = λ i j l r. ap z (let e : suc (i + j) ≡ suc i + j = omega arith in e) ∙ μ.old (suc i) j (omega arith) (record {
      most = r.most;
      past = λ k m. omega (arith, r.past k m);
      rest = λ k m h. omega (arith, r.rest k m h);
    });
  }

  -- without the first of the y, which does
  mixed_new : place 0 ≡ 0 → MergedPair key cmp x y z place n (suc p) → MergedPair key cmp x (λ j. y (suc j)) (λ i. z (suc i)) (λ j. place (suc j)) n p
  mixed_new e μ = record {
    seats = record {
      most = λ j l. μ.rising.most (suc j) (omega arith);
      past = λ j i l m. μ.seats.past (suc j) i (omega arith) m;
      rest = λ j i l m h. μ.seats.rest (suc j) i (omega arith) m h;
    };
    rising = record {
      most = λ j l. μ.rising.most (suc j) (omega arith);
      rising = λ i j l m. μ.rising.rising (suc i) (suc j) (omega arith) (omega arith);
    };
    new = λ j l. ap z (let f : suc (place (suc j) + j) ≡ place (suc j) + suc j = omega arith in f) ∙ μ.new (suc j) (omega arith);
    old = λ i j l r. ap z (let f : suc (i + j) ≡ i + suc j = omega arith in f) ∙ μ.old i (suc j) l (rank i j r);
  }
    where
      rank : (i j : ℕ) → CountBefore (λ j. place (suc j)) p i j → CountBefore place (suc p) i (suc j)
      rank i j r = record { most = omega (arith, r.most); past = past; rest = rest }
        where
          past : (k : ℕ) → k < suc j → place k ≤ i
          past zero l = omega arith
          past (suc k) l = r.past k (omega arith)

          rest : (k : ℕ) → suc j ≤ k → k < suc p → i < place k
          rest zero l m = absurd (omega arith)
          rest (suc k) l m = r.rest k (omega arith) (omega arith)

module _ {R E K : Type 0} (key : E → K) (cmp : K → K → Ordering) (combine : E → E → Result R E) (L : Order cmp) where
  abbrev Pass : (ℕ → E) → (ℕ → E) → (ℕ → E) → ℕ → ℕ → Type 0
  Pass x y z n p = one_pass key cmp combine (tabulate x n) (tabulate y p) ≡ accepted (tabulate z (n + p))

  mixed_pass : (x y z : ℕ → E) (place : ℕ → ℕ) (n p : ℕ) → MergedPair key cmp x y z place n p → Pass x y z n p
  unfolding tabulate
  mixed_pass x y z place zero p μ =
      ap accepted
      (sym (ap (tabulate z) (let e : 0 + p ≡ p = omega arith in e)
      ∙ tabulate_cong z y p (λ j l. ap z (let e : j ≡ place j + j = omega (arith, μ.rising.most j l) in e) ∙ μ.new j l)))
  mixed_pass x y z place (suc n) zero μ =
      ap accepted
      (sym (ap (tabulate z) (let e : suc n + 0 ≡ suc n = omega arith in e)
      ∙ tabulate_cong z x (suc n) (λ i l. ap z (let e : i ≡ i + 0 = omega arith in e) ∙ μ.old i 0 l (none i))))
    where
      none : (i : ℕ) → CountBefore place 0 i 0
      none i = record { most = omega arith; past = λ k l. absurd (omega arith); rest = λ k l m. absurd (omega arith) }
  mixed_pass x y z place (suc n) (suc p) μ =
      by-eq (place 0) 0
      (λ e. second e (mixed_pass x (λ j. y (suc j)) (λ i. z (suc i)) (λ j. place (suc j)) (suc n) p (mixed_new e μ)))
      (λ e. first (high e) (mixed_pass (λ i. x (suc i)) y (λ i. z (suc i)) (λ j. place j - 1) n (suc p) (mixed_old (high e) μ)))
    where
      high : (place 0 ≡ 0 → ⊥) → (j : ℕ) → j < suc p → 0 < place j
      high e j l = omega (arith, μ.rising.rising 0 j (omega arith) l)

      all : suc n + suc p ≡ suc (suc n + p)
      all = omega arith

      all_but : suc n + suc p ≡ suc (n + suc p)
      all_but = omega arith

      second : place 0 ≡ 0 → Pass x (λ j. y (suc j)) (λ i. z (suc i)) (suc n) p → Pass x y z (suc n) (suc p)
      second e ih =
          let o : cmp (key (x 0)) (key (y 0)) ≡ Ordering.gt = L.greater (μ.seats.rest 0 0 (omega arith) (omega arith) (omega arith)) in
          let f : z 0 ≡ y 0 = ap z (let q : 0 ≡ place 0 + 0 = omega arith in q) ∙ μ.new 0 (omega arith) in
          rw (o, all, f) (ap (map_accepted (λ l. y 0 ∷ l)) ih)

      first : ((j : ℕ) → j < suc p → 0 < place j) → Pass (λ i. x (suc i)) y (λ i. z (suc i)) n (suc p) → Pass x y z (suc n) (suc p)
      first h ih =
          let o : cmp (key (x 0)) (key (y 0)) ≡ Ordering.lt = μ.seats.past 0 0 (omega arith) (h 0 (omega arith)) in
          let f : z 0 ≡ x 0 = ap z (let q : 0 ≡ 0 + 0 = omega arith in q) ∙ μ.old 0 0 (omega arith) (record {
            most = omega arith;
            past = λ k l. absurd (omega arith);
            rest = λ k l m. h k m;
          }) in
          rw (o, all_but, f) (ap (map_accepted (λ l. x 0 ∷ l)) ih)

-- x and y are what the places had, read as entries, and z is what they have
module _ {A E : Type 0} {f g : ℕ → A} (read : A → E) {place : ℕ → ℕ} {used at n p : ℕ} (ω : Interleaved f g place used at n p) {x y z : ℕ → E}
    (olds : (i : ℕ) → i < n → x i ≡ read (f (at + i))) (news : (j : ℕ) → j < p → y j ≡ read (f (at + n + j)))
    (reads : (k : ℕ) → k < n + p → z k ≡ read (g (at + k))) where
  module _ {R K : Type 0} (key : E → K) (cmp : K → K → Ordering) (combine : E → E → Result R E) (L : Order cmp) (σ : InsertPositions key cmp x y place n p)
      (ρ : Ascending place n p) where
    mixed : MergedPair key cmp x y z place n p
    mixed = record {
      seats = σ;
      rising = ρ;
      new = λ j l.
          reads (place j + j) (omega (arith, ρ.most j l))
          ∙ ap read (ap g (let e : at + (place j + j) ≡ at + place j + j = omega arith in e) ∙ ω.new j l)
          ∙ sym (news j l);
      old = λ i j l r.
          reads (i + j) (omega (arith, r.most))
          ∙ ap read (ap g (let e : at + (i + j) ≡ at + i + j = omega arith in e) ∙ ω.old i j l r)
          ∙ sym (olds i l);
    }

    -- the result is one pass over both
    pub interleaved_pass : one_pass key cmp combine (tabulate x n) (tabulate y p) ≡ accepted (tabulate z (n + p))
    interleaved_pass = mixed_pass key cmp combine L x y z place n p mixed

  module _ {R K : Type 0} (key : E → K) (cmp : K → K → Ordering) (combine : E → E → Result R E) (L : Order cmp) (C : Keyed key cmp combine)
      (σ : InsertPositions key cmp x y place n p) (ρ : Ascending place n p) (s : Sorted key cmp (tabulate x n)) (t : Sorted key cmp (tabulate y p)) where
    -- the result is the map with all of the p added
    pub interleaved_adds : add_all key cmp combine (tabulate y p) (tabulate x n) ≡ accepted (tabulate z (n + p))
    interleaved_adds = sym (one_pass-adds key cmp combine L C (tabulate x n) (tabulate y p) s t) ∙ interleaved_pass key cmp combine L σ ρ

    pub interleaved_sorted : Sorted key cmp (tabulate z (n + p))
    interleaved_sorted = add_all-sorted key cmp combine L C (tabulate y p) (tabulate x n) (tabulate z (n + p)) s interleaved_adds
