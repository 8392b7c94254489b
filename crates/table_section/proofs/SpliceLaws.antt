-- The positions of rows after a splice, and their order. Assumes nothing.
use mathlib.Core.Path.{◌≡◌, sym, ap, ap₂, subst, ◌∙◌}
use mathlib.Core.Logic.{◌≢◌}
use Prim.Native.Nat.{ℕ, suc, ◌+◌, ◌-◌, ◌≤◌, ◌<◌, Ordering}
use native.Mathlib.Omega.{arith}
use Rattle.table.specs.declared.Row.{Row}
use Rattle.table.proofs.PlaceLaws.{by-eq, by-lt}
use Rattle.ordmap.proofs.Results.{impossible}
use Rattle.model.specs.Bytes.{Bytes}
use Rattle.model.specs.Report.{SectionKey, section_key, compare_sections}
use Rattle.model.proofs.KeyOrder.{sections-order}
use Rattle.table_item.specs.Items.{kind_of, ItemRow}
use Rattle.table_section.specs.Sections.{key_of, NamesInBounds, RowInBounds, Ordered, IsEqualRange}
use Rattle.table_section.specs.Splice.{with_section, Spliced}
use Rattle.table_section.proofs.RangeLaws.{range-before, range_in, range-behind, range-ends}
use Rattle.table_section.proofs.HeaderLaws.{whole-kept, HeaderAs}

-- ---- the order

pub less_not_greater : {o : Ordering} → o ≡ Ordering.lt → o ≢ Ordering.gt
less_not_greater p q = let z : Ordering.lt ≡ Ordering.gt = sym p ∙ q in impossible cc

same_not_greater : {o : Ordering} → o ≡ Ordering.eq → o ≢ Ordering.gt
same_not_greater p q = let z : Ordering.eq ≡ Ordering.gt = sym p ∙ q in impossible cc

module _ {text : Bytes} {f g : ℕ → Row} {m from n lo hi : ℕ} {key : Row} (σ : Ordered text f m)
    (inner : (k : ℕ) → k < n → ItemRow text (f (from + 1 + k))) (ν : NamesInBounds text key) (ρ : IsEqualRange text f m (key_of text key) lo hi)
    {spelling : Bytes} (ω : HeaderAs text key spelling (g lo)) (ς : Spliced f g m from n lo hi key) where
  header-key : key_of text (g lo) ≡ key_of text key
  header-key = ap section_key ω.is

  -- the section's header row or one of its items
  data OfSection (k : ℕ) : Type 0 where
    header : k ≡ lo → OfSection k
    item : (j : ℕ) → j < n → g k ≡ with_section (f (from + 1 + j)) key → OfSection k

  section-key : (k : ℕ) → OfSection k → key_of text (g k) ≡ key_of text key
  section-key k (header e) = ap (λ (j : ℕ). key_of text (g j)) e ∙ header-key
  section-key k (item j l e) = ap (key_of text) e

  -- what a position holds
  data Place (k : ℕ) : Type 0 where
    under : k < lo → g k ≡ f k → Place k
    within : lo ≤ k → k < lo + (n + 1) → OfSection k → Place k
    over : (j : ℕ) → hi ≤ j → j < m → j + (lo + (n + 1)) ≡ hi + k → g k ≡ f j → Place k

  place : (k : ℕ) → k < lo + (n + 1) + (m - hi) → Place k
  place k l =
      by-lt k lo (λ h. under h (ς.low k (omega arith) h)) (λ h. by-lt k (lo + (n + 1))
      (λ q. within h q (by-eq k lo header
      (λ e. let j = k - suc lo in item j (omega arith) (ς.items k (from + 1 + j) (omega arith) q (omega arith)))))
      (λ q. over (hi + (k - (lo + (n + 1)))) (omega arith) (omega arith) (omega arith)
      (ς.high k (hi + (k - (lo + (n + 1)))) q (omega arith) (omega arith))))

  -- what holds of the others, of the header row and of the items holds of each
  pub spliced_each : (P : Row → Type 0) → ((k : ℕ) → k < m → P (f k)) → P (g lo) → ((k : ℕ) → k < n → P (with_section (f (from + 1 + k)) key))
      → (k : ℕ) → k < lo + (n + 1) + (m - hi) → P (g k)
  spliced_each P others first items k l = go (place k l)
    where
      go : Place k → P (g k)
      go (under h e) = subst P (sym e) (others k (omega (arith, ρ.low.most)))
      go (within h q (header e)) = subst (λ (j : ℕ). P (g j)) (sym e) first
      go (within h q (item j i e)) = subst P (sym e) (items j i)
      go (over j h q z e) = subst P (sym e) (others j q)

  whole : (k : ℕ) → k < lo + (n + 1) + (m - hi) → RowInBounds text (g k)
  whole = spliced_each (RowInBounds text) σ.whole ω.whole (λ k l. whole-kept (inner k l).good ν)

  -- what holds of the keys of the others and of the section's holds of each key
  pub spliced_keys : (P : SectionKey → Type 0) → ((k : ℕ) → k < m → P (key_of text (f k))) → P (key_of text key)
      → (k : ℕ) → k < lo + (n + 1) + (m - hi) → P (key_of text (g k))
  spliced_keys P others here = spliced_each (λ (r : Row). P (key_of text r)) others (subst P (sym header-key) here) (λ k l. here)

  -- what holds of the keys and cached positions of the other header rows and of the section's holds of each
  pub spliced_places : (P : SectionKey → ℕ → Type 0) → ((k : ℕ) → k < m → kind_of (f k) ≡ 0 → P (key_of text (f k)) (f k).k1)
      → P (key_of text key) (g lo).k1 → (k : ℕ) → k < lo + (n + 1) + (m - hi) → kind_of (g k) ≡ 0 → P (key_of text (g k)) (g k).k1
  spliced_places P others here =
      spliced_each (λ (r : Row). kind_of r ≡ 0 → P (key_of text r) r.k1) others (λ e. subst (λ (q : SectionKey). P q (g lo).k1) (sym header-key) here)
      (λ k l e. let z : kind_of (f (from + 1 + k)) ≡ 0 = e in absurd (omega (arith, (inner k l).inner)))

  -- where as many are replaced, each place has the key that it had
  pub spliced_same : hi ≡ lo + (n + 1) → (k : ℕ) → k < m → key_of text (g k) ≡ key_of text (f k)
  spliced_same size k l = go (place k (omega (arith, ρ.high.most)))
    where
      go : Place k → key_of text (g k) ≡ key_of text (f k)
      go (under h e) = ap (key_of text) e
      go (within h q s) = section-key k s ∙ sections-order.equal (range_in ρ k h (omega arith))
      go (over j h q z e) = let y : j ≡ k = omega arith in ap (key_of text) (e ∙ ap f y)

  before-key : (i : ℕ) → i < lo → compare_sections (key_of text (f i)) (key_of text key) ≡ Ordering.lt
  before-key i l = sections-order.less (range-before ρ i l)

  -- keys that are known by others
  by-keys : (i j : ℕ) {a b : SectionKey} → key_of text (g i) ≡ a → key_of text (g j) ≡ b → compare_sections a b ≢ Ordering.gt
      → compare_sections (key_of text (g i)) (key_of text (g j)) ≢ Ordering.gt
  by-keys i j e f h q = h (sym (ap₂ compare_sections e f) ∙ q)

  ordered : (i j : ℕ) → i < j → j < lo + (n + 1) + (m - hi) → compare_sections (key_of text (g i)) (key_of text (g j)) ≢ Ordering.gt
  ordered i j l h = go (place i (omega arith)) (place j h)
    where
      go : Place i → Place j → compare_sections (key_of text (g i)) (key_of text (g j)) ≢ Ordering.gt
      go (under h e) (under q d) = by-keys i j (ap (key_of text) e) (ap (key_of text) d) (σ.ordered i j l (omega (arith, ρ.low.most)))
      go (under h e) (within q x y) = by-keys i j (ap (key_of text) e) (section-key j y) (less_not_greater (before-key i h))
      go (under h e) (over o q x y d) = by-keys i j (ap (key_of text) e) (ap (key_of text) d)
          (less_not_greater (sections-order.trans (before-key i h) (range-behind ρ o q x)))
      go (within h a b) (under q d) = absurd (omega arith)
      go (within h a b) (within q x y) =
          by-keys i j (section-key i b) (section-key j y) (same_not_greater (sections-order.same (key_of text key)))
      go (within h a b) (over o q x y d) = by-keys i j (section-key i b) (ap (key_of text) d) (less_not_greater (range-behind ρ o q x))
      go (over o h a b e) (under q d) = absurd (omega (arith, range-ends ρ))
      go (over o h a b e) (within q x y) = absurd (omega arith)
      go (over o h a b e) (over p q x y d) = by-keys i j (ap (key_of text) e) (ap (key_of text) d) (σ.ordered o p (omega arith) x)

  pub spliced_ordered : Ordered text g (lo + (n + 1) + (m - hi))
  spliced_ordered = record { whole = whole; ordered = ordered }
