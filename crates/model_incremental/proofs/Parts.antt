-- Reports that can be joined: those before and those after any place among them can be joined too, and to no longer reports. Assumes nothing.
use Prim.Native.Nat.{ℕ, ◌≤◌}
use native.Mathlib.Omega.{arith}
use mathlib.Core.Path.{◌≡◌, refl, sym, ap, ◌∙◌}
use mathlib.Core.Bool.{Bool, true}
use mathlib.Core.List.{List, [], ◌∷◌, ◌++◌, map, map-append}
use mathlib.Core.Option.{Option, none, some, IsSome}
use lib.Dec.{leb, eqb}
use lib.ListN.{length}
use borrow.Author.Tests.{le-leb, leb-true}
use Rattle.ordmap.specs.Result.{Result, accepted}
use Rattle.ordmap.specs.Gathering.{flat, Same, read_all as readEach}
use Rattle.ordmap.proofs.Members.{flat_append}
use Rattle.ordmap.proofs.Sizes.{length_of_keys}
use Rattle.ordmap.proofs.Gathered.{read_all-cons}
use Rattle.model.specs.Bytes.{same_bytes}
use Rattle.model.specs.Limits.{u64_max}
use Rattle.model.specs.Report.{Item, Entry, Report, Key, compare_keys, entry_key, start_of, checksum_of}
use Rattle.model.specs.Joined.{all_entries, items_at, all_agree, agreeing, total, summed_of, joined_report}
use Rattle.model.specs.Joined.{at_each_key, starts_agree, checksums_agree, sums_fit}
use Rattle.model.proofs.ListLaws.{and_left, and_right, each_all}
use Rattle.model.proofs.KeyOrder.{keys-order, bytes_same}
use Rattle.model.proofs.AnyOrder.{number_same}
use Rattle.model.proofs.Entries.{items, joined_at}
use Rattle.model.proofs.JoinedLaws.{at, at_each, joined-sorted, joined-found}
use Rattle.model_incremental.proofs.JoinedItems.{total-append}
use Rattle.model_incremental.proofs.Rejoined.{of, of_append}

-- ---- tests

-- a test that two lists, one after the other, pass only where each passes it
abbrev Splits : {A : Type 0} → (List A → Bool) → Type 0
Splits {A} test = (l m : List A) → test (l ++ m) ≡ true → (test l ≡ true) × (test m ≡ true)

map_splits : {A B : Type 0} (f : A → B) (test : List B → Bool) → Splits test → Splits (λ (l : List A). test (map f l))
map_splits f test s l m h = s (map f l) (map f m) (ap test (sym (map-append f l m)) ∙ h)

module _ {A : Type 0} (same : A → A → Bool) (S : Same same) where
  all_agree_splits : (a : A) → Splits (all_agree same a)
  unfolding all_agree
  all_agree_splits a [] ps h = (refl, h)
  all_agree_splits a (none ∷ os) ps h = all_agree_splits a os ps h
  all_agree_splits a (some b ∷ os) ps h =
      let (p, q) = all_agree_splits a os ps (and_right (same a b) (all_agree same a (os ++ ps)) h) in
      (rw (and_left (same a b) (all_agree same a (os ++ ps)) h) p, q)

  all_agree-agreeing : (a : A) (os : List (Option A)) → all_agree same a os ≡ true → agreeing same os ≡ true
  unfolding all_agree agreeing
  all_agree-agreeing a [] h = refl
  all_agree-agreeing a (none ∷ os) h = all_agree-agreeing a os h
  all_agree-agreeing a (some b ∷ os) h =
      ap (λ (x : A). all_agree same x os) (sym (S.same_eq a b (and_left (same a b) (all_agree same a os) h)))
      ∙ and_right (same a b) (all_agree same a os) h

  agreeing_splits : Splits (agreeing same)
  unfolding agreeing
  agreeing_splits [] ps h = (refl, h)
  agreeing_splits (none ∷ os) ps h = agreeing_splits os ps h
  agreeing_splits (some a ∷ os) ps h = let (p, q) = all_agree_splits a os ps h in (p, all_agree-agreeing a ps q)

fits_splits : Splits (λ (l : List ℕ). leb (total l) u64_max)
fits_splits l m h =
    let n : total (l ++ m) ≤ u64_max = leb-true (total (l ++ m)) u64_max h in
    (le-leb (total l) u64_max (omega (arith, n, total-append l m)), le-leb (total m) u64_max (omega (arith, n, total-append l m)))

-- ---- reports

-- the entries of a key, among reports one after the other
at_append : (rs qs : List Report) (k : Key) → at (rs ++ qs) k ≡ at rs k ++ at qs k
at_append rs qs k = ap (of k) (flat_append rs qs) ∙ of_append k (flat rs) (flat qs)

tests-split : (test : List Item → Bool) → test [] ≡ true → Splits test → Splits (at_each_key test)
unfolding items_at
tests-split test t s rs qs h = (
  each_all (λ e. test (items_at (entry_key e) rs)) (all_entries rs) (λ e m. (at_key (entry_key e)).0),
  each_all (λ e. test (items_at (entry_key e) qs)) (all_entries qs) (λ e m. (at_key (entry_key e)).1),
)
  where
    at_key : (k : Key) → (test (items (at rs k)) ≡ true) × (test (items (at qs k)) ≡ true)
    at_key k =
        s (items (at rs k)) (items (at qs k))
        (ap test (sym (map-append (λ (e : Entry). e.item) (at rs k) (at qs k)) ∙ ap items (sym (at_append rs qs k))) ∙ at_each (rs ++ qs) test t h k)

-- no longer than a joined report that has its keys
shorter : (rs qs : List Report) → ((k : Key) → IsSome (joined_at (at rs k)) → IsSome (joined_at (at qs k)))
    → length (joined_report rs) ≤ length (joined_report qs)
shorter rs qs h =
    length_of_keys entry_key compare_keys keys-order (joined_report rs) (joined_report qs) (joined-sorted rs) (joined-sorted qs)
    (λ k i. rw (joined-found qs k) (h k (rw (joined-found rs k) at i)))

-- reports that join within a limit
pub record Joins (limit : ℕ) (rs : List Report) : Type 0 where
  pub starts : starts_agree rs ≡ true
  pub checksums : checksums_agree rs ≡ true
  pub sums : sums_fit rs ≡ true
  pub fits : length (joined_report rs) ≤ limit

pub joins_split : (limit : ℕ) (rs qs : List Report) → Joins limit (rs ++ qs) → Joins limit rs × Joins limit qs
unfolding agreeing total
joins_split limit rs qs J =
    let (s, s') = tests-split (λ is. agreeing eqb (map start_of is)) refl
    (map_splits start_of (agreeing eqb) (agreeing_splits eqb number_same)) rs qs J.starts in
    let (c, c') = tests-split (λ is. agreeing same_bytes (map checksum_of is)) refl
    (map_splits checksum_of (agreeing same_bytes) (agreeing_splits same_bytes bytes_same)) rs qs J.checksums in
    let (t, t') = tests-split (λ is. leb (total (map summed_of is)) u64_max) refl
    (map_splits summed_of (λ l. leb (total l) u64_max) fits_splits) rs qs J.sums in (
      record { starts = s; checksums = c; sums = t; fits = omega (arith, J.fits, shorter rs (rs ++ qs) left) },
      record { starts = s'; checksums = c'; sums = t'; fits = omega (arith, J.fits, shorter qs (rs ++ qs) right) },
    )
  where
    left : (k : Key) → IsSome (joined_at (at rs k)) → IsSome (joined_at (at (rs ++ qs) k))
    left k i = rw (at_append rs qs k) (go (at rs k) i)
      where
        go : (l : List Entry) → IsSome (joined_at l) → IsSome (joined_at (l ++ at qs k))
        go [] i = absurd i
        go (e ∷ es) i = tt

    right : (k : Key) → IsSome (joined_at (at qs k)) → IsSome (joined_at (at (rs ++ qs) k))
    right k i = rw (at_append rs qs k) (go (at rs k))
      where
        go : (l : List Entry) → IsSome (joined_at (l ++ at qs k))
        go [] = i
        go (e ∷ es) = tt

-- ---- sources

-- two runs of sources that are read, one after the other
pub read_all-split : {R T E : Type 0} (read : T → Result R (List E)) (ts us : List T) {rs : List (List E)} → readEach read (ts ++ us) ≡ accepted rs
    → (ps : List (List E)) × (qs : List (List E)) × (readEach read ts ≡ accepted ps) × (readEach read us ≡ accepted qs) × (ps ++ qs ≡ rs)
read_all-split read [] us {rs} h = ([], rs, refl, h, refl)
read_all-split read (t ∷ ts) us h =
    let (r, os, i, j, e) = read_all-cons read t (ts ++ us) h in
    let (ps, qs, p, q, f) = read_all-split read ts us j in
    (r ∷ ps, qs, rw (i, p), q, ap (λ l. r ∷ l) f ∙ e)
