-- Runs and revisions of a bundle: the text of a run that has the highest revision, the first text that repeats an earlier pair, and both in another
-- order of the texts. Assumes nothing.
use Prim.Native.Nat.{ℕ, zero, suc, ◌+◌, ◌≤◌, ◌<◌}
use native.Mathlib.Omega.{arith}
use mathlib.Core.Path.{◌≡◌, refl, sym, ap, ◌∙◌}
use mathlib.Core.Logic.{◌↔◌}
use mathlib.Core.Bool.{Bool, true, false}
use mathlib.Core.List.{List, [], ◌∷◌, map, Permᴰ as Perm}
use mathlib.Core.Option.{none, some}
use lib.Dec.{leb, ltb, eqb}
use borrow.Author.Tests.{le-leb, leb-true, leb-false, eq-eqb, eqb-true, eqb-false}
use Rattle.ordmap.specs.Gathering.{times, Same}
use Rattle.ordmap.proofs.Perms.{perm_times}
use Rattle.std.specs.Prelude.{if◌then◌else◌}
use Rattle.model.specs.Lists.{all, from}
use Rattle.model.specs.Bytes.{Bytes}
use Rattle.model.specs.Bundle.{text_count}
use Rattle.model.proofs.ListLaws.{and_left, and_right}
use Rattle.text_choice.specs.RevisionBundle.{
  run_at,
  revision_at,
  revision_text,
  is_highest,
  pair_at,
  same_pair,
  is_repeat,
  first_repeat,
}
use Rattle.text_choice.specs.Revisions.{HighestOfRun, AllDiffer, FirstRepeat}
use Rattle.text_choice.proofs.Positions.{
  not_true,
  not_both,
  below_all,
  all-below,
  any_below,
  below-any,
  first_some,
  some_first,
  first-none,
  none_first,
  differ-once,
  once-differ,
}
use Rattle.text_choice.proofs.Choice.{perm_all}

-- a text has its index in the whole bundle
pub text-index : (bundle : Bytes) (i : ℕ) → (revision_text bundle i).index ≡ i
unfolding revision_text
text-index bundle i = refl

-- ---- pairs

pub pair_same : Same same_pair
pair_same =
    record {
      same_refl = λ a. rw (eq-eqb a.0 a.0 refl, eq-eqb a.1 a.1 refl);
      same_eq = λ a b h. (λ i. (
        eqb-true a.0 b.0 (and_left (eqb a.0 b.0) (eqb a.1 b.1) h) i,
        eqb-true a.1 b.1 (and_right (eqb a.0 b.0) (eqb a.1 b.1) h) i,
      ));
    }

module _ (bundle : Bytes) where
  same-pair : (j k : ℕ) → run_at bundle j ≡ run_at bundle k → revision_at bundle j ≡ revision_at bundle k
      → same_pair (pair_at bundle j) (pair_at bundle k) ≡ true
  same-pair j k e f = rw (eq-eqb (run_at bundle j) (run_at bundle k) e, eq-eqb (revision_at bundle j) (revision_at bundle k) f)

  pair-run : (j k : ℕ) → same_pair (pair_at bundle j) (pair_at bundle k) ≡ true → run_at bundle j ≡ run_at bundle k
  pair-run j k h = ap (λ (p : ℕ × ℕ). p.0) (pair_same.same_eq (pair_at bundle j) (pair_at bundle k) h)

  pair_revision : (j k : ℕ) → same_pair (pair_at bundle j) (pair_at bundle k) ≡ true → revision_at bundle j ≡ revision_at bundle k
  pair_revision j k h = ap (λ (p : ℕ × ℕ). p.1) (pair_same.same_eq (pair_at bundle j) (pair_at bundle k) h)

  -- ---- the first that is repeated

  pub repeated_pair : (i : ℕ) → is_repeat bundle i ≡ true
      → (j : ℕ) × (j < i) × (run_at bundle j ≡ run_at bundle i) × (revision_at bundle j ≡ revision_at bundle i)
  unfolding is_repeat
  repeated_pair i p =
      let (j, l, e) = any_below (λ j. same_pair (pair_at bundle j) (pair_at bundle i)) i p in
      (j, l, pair-run j i e, pair_revision j i e)

  pub pair_repeated : (j i : ℕ) → j < i → run_at bundle j ≡ run_at bundle i → revision_at bundle j ≡ revision_at bundle i → is_repeat bundle i ≡ true
  unfolding is_repeat
  pair_repeated j i l e f = below-any (λ j. same_pair (pair_at bundle j) (pair_at bundle i)) i j l (same-pair j i e f)

  -- the texts before i differ, so none of them is repeated
  differ_unrepeated : (i : ℕ) → AllDiffer bundle i → (k : ℕ) → k < i → is_repeat bundle k ≡ false
  differ_unrepeated i d k l = not_true (is_repeat bundle k) (λ p. let (j, m, e, f) = repeated_pair k p in d j k m l e f)

  unrepeated_differ : (i : ℕ) → ((k : ℕ) → k < i → is_repeat bundle k ≡ false) → AllDiffer bundle i
  unrepeated_differ i h j k m l e f = not_both (pair_repeated j k m e f) (h k l)

  -- FIRST: found exactly where it is
  pub first_repeat_lem : (i : ℕ) → (first_repeat bundle ≡ some i) ↔ FirstRepeat bundle i
  unfolding first_repeat
  first_repeat_lem i = (to, back)
    where
      to : first_repeat bundle ≡ some i → FirstRepeat bundle i
      to p =
          let (l, e, before) = first_some (is_repeat bundle) 0 (text_count bundle) p in
          let (j, m, f, g) = repeated_pair i e in
          record {
            inside = omega arith;
            earlier = j;
            is_earlier = m;
            same_run = f;
            same_revision = g;
            none_before = unrepeated_differ i (λ k u. before k (omega arith) u);
          }

      back : FirstRepeat bundle i → first_repeat bundle ≡ some i
      back F =
          some_first (is_repeat bundle) 0 (text_count bundle) i (omega arith) (omega (arith, F.inside))
          (pair_repeated F.earlier i F.is_earlier F.same_run F.same_revision)
          (λ k l m. differ_unrepeated i F.none_before k m)

  -- NONE: exactly where all pairs differ
  pub no_repeat : (first_repeat bundle ≡ none) ↔ AllDiffer bundle (text_count bundle)
  unfolding first_repeat
  no_repeat = (to, back)
    where
      to : first_repeat bundle ≡ none → AllDiffer bundle (text_count bundle)
      to p = unrepeated_differ (text_count bundle) (λ k l. first-none (is_repeat bundle) 0 (text_count bundle) p k (omega arith) (omega arith))

      back : AllDiffer bundle (text_count bundle) → first_repeat bundle ≡ none
      back d = none_first (is_repeat bundle) 0 (text_count bundle) (λ k l m. differ_unrepeated (text_count bundle) d k (omega arith))

  -- ---- the highest revision of a run

  not_higher : ℕ → ℕ → Bool
  not_higher i j = if eqb (run_at bundle j) (run_at bundle i) then leb (revision_at bundle j) (revision_at bundle i) else true

  not_higher_lem : (i j : ℕ) → (run_at bundle j ≡ run_at bundle i → revision_at bundle j ≤ revision_at bundle i) → not_higher i j ≡ true
  unfolding not_higher
  not_higher_lem i j h = go (eqb (run_at bundle j) (run_at bundle i)) refl
    where
      go : (b : Bool) → eqb (run_at bundle j) (run_at bundle i) ≡ b → (if b then leb (revision_at bundle j) (revision_at bundle i) else true) ≡ true
      go true e = le-leb (revision_at bundle j) (revision_at bundle i) (h (eqb-true (run_at bundle j) (run_at bundle i) e))
      go false e = refl

  -- what a text has to be for `is_highest`
  pub highest_of : (i : ℕ) → ((j : ℕ) → j < text_count bundle → run_at bundle j ≡ run_at bundle i → revision_at bundle j ≤ revision_at bundle i)
      → is_highest bundle i ≡ true
  unfolding is_highest not_higher
  highest_of i h = below_all (not_higher i) (text_count bundle) (λ j l. not_higher_lem i j (h j l))

  pub is-highest : (i : ℕ) → is_highest bundle i ≡ true
      → (j : ℕ) → j < text_count bundle → run_at bundle j ≡ run_at bundle i → revision_at bundle j ≤ revision_at bundle i
  unfolding is_highest not_higher
  is-highest i p j l e =
      leb-true (revision_at bundle j) (revision_at bundle i)
      (sym (ap (λ (b : Bool). if b then leb (revision_at bundle j) (revision_at bundle i) else true) (eq-eqb (run_at bundle j) (run_at bundle i) e))
      ∙ all-below (not_higher i) (text_count bundle) p j l)

  pub not_highest : (i j : ℕ) → j < text_count bundle → run_at bundle j ≡ run_at bundle i → revision_at bundle i < revision_at bundle j → is_highest bundle i ≡ false
  not_highest i j l e h = not_true (is_highest bundle i) (λ p. absurd (omega (arith, is-highest i p j l e)))

  -- the highest of i and the first m texts
  record Best (i m : ℕ) : Type 0 where
    best : ℕ
    inside : best < text_count bundle
    of_run : run_at bundle best ≡ run_at bundle i
    highest : (j : ℕ) → j < m → run_at bundle j ≡ run_at bundle i → revision_at bundle j ≤ revision_at bundle best

  best_of : (i m : ℕ) → i < text_count bundle → m ≤ text_count bundle → Best i m
  best_of i zero l h = record { best = i; inside = l; of_run = refl; highest = λ j m e. absurd (omega arith) }
  best_of i (suc m) l h =
      go (best_of i m l (omega arith)) (eqb (run_at bundle m) (run_at bundle i)) refl
    where
      -- the text m, or an earlier one
      up_to : (v : ℕ) → (run_at bundle m ≡ run_at bundle i → revision_at bundle m ≤ v)
          → ((j : ℕ) → j < m → run_at bundle j ≡ run_at bundle i → revision_at bundle j ≤ v)
          → (j : ℕ) → j < suc m → run_at bundle j ≡ run_at bundle i → revision_at bundle j ≤ v
      up_to v last before j k e = at (eqb j m) refl
        where
          at : (b : Bool) → eqb j m ≡ b → revision_at bundle j ≤ v
          at true p = let s : j ≡ m = eqb-true j m p in rw (s) (last (ap (run_at bundle) (sym s) ∙ e))
          at false p = before j (omega (arith, eqb-false j m p)) e

      kept : (B : Best i m) → (run_at bundle m ≡ run_at bundle i → revision_at bundle m ≤ revision_at bundle B.best) → Best i (suc m)
      kept B last =
          record {
            best = B.best;
            inside = B.inside;
            of_run = B.of_run;
            highest = up_to (revision_at bundle B.best) last B.highest;
          }

      go : Best i m → (b : Bool) → eqb (run_at bundle m) (run_at bundle i) ≡ b → Best i (suc m)
      go B true p = at (ltb (revision_at bundle B.best) (revision_at bundle m)) refl
        where
          at : (b : Bool) → ltb (revision_at bundle B.best) (revision_at bundle m) ≡ b → Best i (suc m)
          at true q =
              let up : revision_at bundle B.best < revision_at bundle m = leb-true (suc (revision_at bundle B.best)) (revision_at bundle m) q in
              record {
                best = m;
                inside = omega arith;
                of_run = eqb-true (run_at bundle m) (run_at bundle i) p;
                highest = up_to (revision_at bundle m) (λ e. omega arith) (λ j k e. omega (arith, up, B.highest j k e));
              }
          at false q = kept B (λ e. omega (arith, leb-false (suc (revision_at bundle B.best)) (revision_at bundle m) q))
      go B false p = kept B (λ e. absurd (eqb-false (run_at bundle m) (run_at bundle i) p e))

  -- ONE of each run
  pub one_of_run : first_repeat bundle ≡ none → (i : ℕ) → i < text_count bundle → HighestOfRun bundle (run_at bundle i)
  one_of_run p i l =
      record {
        index = B.best;
        inside = B.inside;
        of_run = B.of_run;
        is_chosen = chosen;
        highest = B.highest;
        no_other = other;
      }
    where
      B : Best i (text_count bundle)
      B = best_of i (text_count bundle) l (omega arith)

      chosen : is_highest bundle B.best ≡ true
      chosen = highest_of B.best (λ j m e. B.highest j m (e ∙ B.of_run))

      differ : AllDiffer bundle (text_count bundle)
      differ = no_repeat.0 p

      other : (j : ℕ) → j < text_count bundle → run_at bundle j ≡ run_at bundle i → is_highest bundle j ≡ true → j ≡ B.best
      other j m e h =
          let run : run_at bundle j ≡ run_at bundle B.best = e ∙ sym B.of_run in
          let up : revision_at bundle j ≤ revision_at bundle B.best = B.highest j m e in
          let down : revision_at bundle B.best ≤ revision_at bundle j = is-highest j h B.best B.inside (sym run) in
          let revision : revision_at bundle j ≡ revision_at bundle B.best = omega arith in
          at run revision (ltb j B.best) refl (ltb B.best j) refl
        where
          at : run_at bundle j ≡ run_at bundle B.best → revision_at bundle j ≡ revision_at bundle B.best
              → (b : Bool) → ltb j B.best ≡ b → (c : Bool) → ltb B.best j ≡ c → j ≡ B.best
          at run revision true q c s = absurd (differ j B.best (leb-true (suc j) B.best q) B.inside run revision)
          at run revision false q true s = absurd (differ B.best j (leb-true (suc B.best) j s) m (sym run) (sym revision))
          at run revision false q false s = omega (arith, leb-false (suc j) B.best q, leb-false (suc B.best) j s)

-- ---- another order

-- the pairs of a bundle
abbrev pub pairs : Bytes → List (ℕ × ℕ)
pairs bundle = map (pair_at bundle) (from 0 (text_count bundle))

-- no pair of a list has the run and a higher revision
pub highest_among : List (ℕ × ℕ) → ℕ × ℕ → Bool
highest_among ps p = all (λ q. if eqb q.0 p.0 then leb q.1 p.1 else true) ps

all_map : {A B : Type 0} (f : A → B) (test : B → Bool) (l : List A) → all test (map f l) ≡ all (λ a. test (f a)) l
unfolding all
all_map f test [] = refl
all_map f test (x ∷ xs) = rw (all_map f test xs)

pub highest_among_lem : (bundle : Bytes) (i : ℕ) → is_highest bundle i ≡ highest_among (pairs bundle) (pair_at bundle i)
unfolding is_highest highest_among
highest_among_lem bundle i =
    sym (all_map (pair_at bundle) (λ q. if eqb q.0 (run_at bundle i) then leb q.1 (revision_at bundle i) else true) (from 0 (text_count bundle)))

pub highest_perm : (a b : Bytes) → Perm (pairs a) (pairs b) → (p : ℕ × ℕ) → highest_among (pairs a) p ≡ highest_among (pairs b) p
unfolding highest_among
highest_perm a b d p = perm_all (λ q. if eqb q.0 p.0 then leb q.1 p.1 else true) d

-- pairs that differ come once each, so they differ in another order too
pub no_repeat_perm : (a b : Bytes) → Perm (pairs a) (pairs b) → first_repeat a ≡ none → first_repeat b ≡ none
no_repeat_perm a b d p = (no_repeat b).1 differ
  where
    apart : (j k : ℕ) → 0 ≤ j → j < k → k < 0 + text_count a → same_pair (pair_at a j) (pair_at a k) ≡ false
    apart j k z l m = not_true (same_pair (pair_at a j) (pair_at a k)) (λ h. (no_repeat a).0 p j k l (omega arith) (pair-run a j k h) (pair_revision a j k h))

    once : (x : ℕ × ℕ) → times same_pair x (pairs b) ≤ 1
    once x = omega (arith, differ-once same_pair pair_same (pair_at a) 0 (text_count a) apart x, perm_times same_pair x d)

    differ : AllDiffer b (text_count b)
    differ j k l m e f = once-differ same_pair pair_same (pair_at b) 0 (text_count b) once j k (omega arith) l (omega arith) (same-pair b j k e f)
