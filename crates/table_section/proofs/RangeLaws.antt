-- Sections compared, and the equal range of a key among the kept entries. Assumes nothing.
use mathlib.Core.Path.{◌≡◌, refl, sym, ap, ◌∙◌}
use mathlib.Core.Logic.{◌≢◌}
use mathlib.Core.Bool.{Bool, true, false}
use mathlib.Core.List.{List}
use Prim.Native.Nat.{ℕ, zero, suc, ◌+◌, ◌-◌, ◌≤◌, ◌<◌, Ordering}
use native.Mathlib.Omega.{arith}
use lib.Dec.{compare_is_eq}
use Rattle.table.specs.declared.Row.{Row}
use Rattle.table.specs.Places.{PartitionPoint, SearchBounds}
use Rattle.table.specs.Store.{row}
use Rattle.table.proofs.PlaceLaws.{by-eq, by-lt}
use Rattle.table.proofs.BinarySearch.{by-test, Falling, bounds-start, bounds_down, bounds_done}
use Rattle.ordmap.specs.Compare.{lex}
use Rattle.ordmap.proofs.Orderings.{is_eq}
use Rattle.ordmap.proofs.Results.{impossible}
use Rattle.model.specs.Order.{is_less}
use Rattle.model.specs.Bytes.{Bytes, compare_bytes}
use Rattle.model.specs.Path.{Path, components, compare_paths}
use Rattle.model.specs.Report.{SectionKey, compare_sections}
use Rattle.model.proofs.KeyOrder.{paths-order, sections-order}
use Rattle.table_item.specs.Items.{part}
use Rattle.table_item.proofs.SearchLaws.{is_lt}
use Rattle.table_section.specs.Sections.{key_of, NamesInBounds, Ordered, rows_from, SectionsFrom, is_past, PastRow, IsEqualRange}

-- ---- sections compared

pub same-path : (text : Bytes) (a n b m : ℕ) → a ≡ b → n ≡ m → Ordering.eq ≡ compare_paths (components (part text a n)) (components (part text b m))
same-path text a n b m e f = rw (e, f) (sym (paths-order.same (components (part text b m))))

pub by-path : (t t' : Bytes) (p p' : Path) (o : Ordering) → true ≡ compare_is_eq (compare_bytes t t') → o ≡ compare_paths p p'
    → o ≡ compare_sections (t, p) (t', p')
unfolding compare_sections
by-path t t' p p' o h e = e ∙ sym (ap (λ (x : Ordering). lex x (compare_paths p p')) (is_eq (compare_bytes t t') (sym h)))

pub by_name : (t t' : Bytes) (p p' : Path) (o : Ordering) → false ≡ compare_is_eq (compare_bytes t t') → o ≡ compare_bytes t t'
    → o ≡ compare_sections (t, p) (t', p')
unfolding compare_sections
by_name t t' p p' o h e = e ∙ go (compare_bytes t t') h
  where
    go : (x : Ordering) → false ≡ compare_is_eq x → x ≡ lex x (compare_paths p p')
    go Ordering.lt h = refl
    go Ordering.eq h = cc
    go Ordering.gt h = refl

-- a row that the store handed out
pub named_as : {text : Bytes} {r q : Row} → r ≡ q → NamesInBounds text q → NamesInBounds text r
named_as e ν = rw e ν

-- ---- what a key goes past

-- a key that goes past b goes past a, which is no later than b
goes_on : (equal : Bool) (k a b : SectionKey) → compare_sections a b ≢ Ordering.gt → is_past equal (compare_sections k b) ≡ true
    → is_past equal (compare_sections k a) ≡ true
goes_on equal k a b h g = go (compare_sections a b) (compare_sections k b) refl refl g
  where
    go : (o p : Ordering) → compare_sections a b ≡ o → compare_sections k b ≡ p → is_past equal p ≡ true → is_past equal (compare_sections k a) ≡ true
    go Ordering.gt p e f q = absurd (h e)
    go Ordering.eq p e f q = rw (sections-order.equal e) (rw f q)
    go Ordering.lt Ordering.lt e f q = cc
    go Ordering.lt Ordering.eq e f q = let z : k ≡ b = sections-order.equal f in rw z (rw (sections-order.greater e))
    go Ordering.lt Ordering.gt e f q = rw (sections-order.greater (sections-order.trans e (sections-order.less f)))

pub past_falls : {text : Bytes} {f : ℕ → Row} {n : ℕ} (key : SectionKey) (equal : Bool) → Ordered text f n → Falling (PastRow equal text f key) n
past_falls {text} {f} {n} key equal σ k j l h t =
    by-eq k j (λ e. rw e t) (λ e. goes_on equal key (key_of text (f k)) (key_of text (f j)) (σ.ordered k j (omega arith) h) t)

-- ---- the equal range

pub goes_greater : (o : Ordering) → is_past false o ≡ true → o ≡ Ordering.gt
goes_greater Ordering.lt h = cc
goes_greater Ordering.eq h = cc
goes_greater Ordering.gt h = refl

stays-less : (o : Ordering) → is_past true o ≡ false → o ≡ Ordering.lt
stays-less Ordering.lt h = refl
stays-less Ordering.eq h = cc
stays-less Ordering.gt h = cc

goes_equal : (o : Ordering) → is_past true o ≡ true → is_past false o ≡ false → o ≡ Ordering.eq
goes_equal Ordering.lt h g = cc
goes_equal Ordering.eq h g = refl
goes_equal Ordering.gt h g = cc

goes_too : (o : Ordering) → is_past false o ≡ true → is_past true o ≡ true
goes_too Ordering.lt h = cc
goes_too Ordering.eq h = refl
goes_too Ordering.gt h = refl

-- the key compared with the entries before, in and behind its run
module _ {text : Bytes} {f : ℕ → Row} {n lo hi : ℕ} {key : SectionKey} (ρ : IsEqualRange text f n key lo hi) where
  pub range-before : (k : ℕ) → k < lo → compare_sections key (key_of text (f k)) ≡ Ordering.gt
  range-before k l = goes_greater _ (ρ.low.past k l)

  pub range_in : (k : ℕ) → lo ≤ k → k < hi → compare_sections key (key_of text (f k)) ≡ Ordering.eq
  range_in k l h = goes_equal _ (ρ.high.past k h) (ρ.low.rest k l (omega (arith, ρ.high.most)))

  pub range-behind : (k : ℕ) → hi ≤ k → k < n → compare_sections key (key_of text (f k)) ≡ Ordering.lt
  range-behind k l h = stays-less _ (ρ.high.rest k l h)

  pub range-ends : lo ≤ hi
  range-ends = by-lt hi lo (λ h. let z : Ordering.gt ≡ Ordering.lt = sym (range-before hi h)
      ∙ range-behind hi (omega arith) (omega (arith, ρ.low.most)) in impossible cc) (λ h. h)

partition_none : {test : ℕ → Bool} {n : ℕ} → n ≡ 0 → PartitionPoint test n 0
partition_none z = record { most = omega arith; past = λ k l. absurd (omega arith); rest = λ k l h. absurd (omega arith) }

partition_all : {test : ℕ → Bool} {n : ℕ} → Falling test n → n ≢ 0 → test (n - 1) ≡ true → PartitionPoint test n n
partition_all {test} {n} falls z t = record
    { most = omega arith; past = λ k l. falls k (n - 1) (omega arith) (omega arith) t; rest = λ k l h. absurd (omega arith) }

partition_first : {test : ℕ → Bool} {n : ℕ} → Falling test n → n ≢ 0 → test 0 ≡ false → PartitionPoint test n 0
partition_first {test} {n} falls z t = bounds_done (bounds_down falls (bounds-start test n) 0 (omega arith) (omega arith) t) (omega arith)

-- a test that falls holds at the first of the places
partition_found : (test : ℕ → Bool) (n : ℕ) → Falling test n → (r : ℕ) × PartitionPoint test n r
partition_found test zero falls = (0, partition_none refl)
partition_found test (suc n) falls = go (test n) refl (partition_found test n (λ k j l h t. falls k j l (omega arith) t))
  where
    go : (b : Bool) → test n ≡ b → (r : ℕ) × PartitionPoint test n r → (r : ℕ) × PartitionPoint test (suc n) r
    go true e (r, c) = (suc n, record { most = omega arith; past = λ k l. falls k n (omega arith) (omega arith) e; rest = λ k l h. absurd (omega arith) })
    go false e (r, c) = (
      r,
      record {
        most = omega (arith, c.most);
        past = c.past;
        rest = λ k l h. by-eq k n (λ x. rw x e) (λ x. c.rest k l (omega arith));
      },
    )

-- the key comes after the last entry
pub range_last : {text : Bytes} {f : ℕ → Row} {n : ℕ} {key : SectionKey} → Ordered text f n → n ≢ 0 → PastRow false text f key (n - 1) ≡ true
    → IsEqualRange text f n key n n
range_last {text} {f} {n} {key} σ z t = record {
  low = partition_all (past_falls key false σ) z t;
  high = partition_all (past_falls key true σ) z
      (goes_too (compare_sections key (key_of text (f (n - 1)))) t);
}

-- the first entry, as the store handed it out
module _ {text ws : List ℕ} {index used at n : ℕ} {first : Row} (σ : SectionsFrom text ws index used at n) (z : n ≢ 0)
    (e : first ≡ row ws index at) where
  at_first : first ≡ rows_from ws index at 0
  at_first = e ∙ ap (row ws index) (let q : at ≡ at + 0 = omega arith in q)

  -- the key comes before it
  pub range-first : {key : SectionKey} → true ≡ is_less (compare_sections key (key_of text first)) → IsEqualRange text (rows_from ws index at) n key 0 0
  range-first {key} h = record {
    low = partition_first (past_falls key false σ.rows) z (ap (is_past false) less);
    high = partition_first (past_falls key true σ.rows) z (ap (is_past true) less);
  }
    where
      less : compare_sections key (key_of text (rows_from ws index at 0)) ≡ Ordering.lt
      less = ap (λ (r : Row). compare_sections key (key_of text r)) (sym at_first) ∙ is_lt (compare_sections key (key_of text first)) (sym h)

-- the first entry that the key does not go past has another key: none has it
pub range-new : {text : Bytes} {f : ℕ → Row} {n lo : ℕ} {key : SectionKey} → Ordered text f n → PartitionPoint (PastRow false text f key) n lo
    → (lo < n → compare_sections key (key_of text (f lo)) ≢ Ordering.eq) → IsEqualRange text f n key lo lo
range-new {text} {f} {n} {lo} {key} σ c other = record {
  low = c;
  high = record {
    most = c.most;
    past = λ k l. goes_too (compare_sections key (key_of text (f k))) (c.past k l);
    rest = λ k l h. by-test (PastRow true text f key k)
        (λ t. absurd (other (omega arith)
        (goes_equal (compare_sections key (key_of text (f lo))) (past_falls key true σ lo k l h t) (c.rest lo (omega arith) (omega arith)))))
        (λ e. e);
  };
}

-- the first entry that the key does not go past has it
module _ (text : Bytes) (f : ℕ → Row) {n lo : ℕ} (key : SectionKey) (c : PartitionPoint (PastRow false text f key) n lo) (l : lo < n)
    (e : compare_sections key (key_of text (f lo)) ≡ Ordering.eq) {same : Row} (s : same ≡ f lo) where
  same_key : key_of text same ≡ key
  same_key = ap (key_of text) s ∙ sym (sections-order.equal e)

  pub range_begun : SearchBounds (PastRow true text f (key_of text same)) n (lo + 1) n
  range_begun = rw same_key (record {
    ends = omega arith;
    most = omega arith;
    past = λ k h. by-eq k lo
        (λ q. ap (λ (j : ℕ). PastRow true text f key j) q ∙ ap (is_past true) e)
        (λ q. goes_too (compare_sections key (key_of text (f k))) (c.past k (omega arith)));
    rest = λ k h q. absurd (omega arith);
  })

  pub range-found : {hi : ℕ} → PartitionPoint (PastRow true text f (key_of text same)) n hi → IsEqualRange text f n key lo hi
  range-found d = record { low = c; high = rw same_key at d }

-- no entry has the key
pub range_absent : {text : Bytes} {f : ℕ → Row} {n : ℕ} (key : SectionKey) → Ordered text f n
    → ((k : ℕ) → k < n → compare_sections key (key_of text (f k)) ≢ Ordering.eq) → (lo : ℕ) × IsEqualRange text f n key lo lo
range_absent {text} {f} {n} key σ other = go (partition_found (PastRow false text f key) n (past_falls key false σ))
  where
    go : (lo : ℕ) × PartitionPoint (PastRow false text f key) n lo → (lo : ℕ) × IsEqualRange text f n key lo lo
    go (lo, c) = (lo, range-new σ c (other lo))
