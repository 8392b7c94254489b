-- A section put among others, as the model keeps it. Assumes nothing.
use mathlib.Core.Path.{◌≡◌, sym, ap, ap₂, subst, ◌∙◌}
use mathlib.Core.List.{List, ◌∷◌, ◌++◌, map}
use Prim.Native.Nat.{Ordering}
use Prim.Native.Nat.{ℕ, suc, ◌+◌, ◌-◌, ◌≤◌, ◌<◌}
use native.Mathlib.Omega.{arith}
use Rattle.table.specs.declared.Row.{Row}
use Rattle.table.specs.Places.{tabulate}
use Rattle.table.proofs.TabulateLaws.{tabulate_cong, tabulate_three, map-tabulate}
use Rattle.model.specs.Bytes.{Bytes}
use Rattle.model.specs.Report.{Item, section_item, Entry, Report, SectionKey, in_section}
use Rattle.table_item.specs.Items.{kind_of, item_of, ItemRow}
use Rattle.table_section.specs.Sections.{entry_of, key_of, NamesInBounds, Ordered, IsEqualRange}
use Rattle.table_section.specs.Splice.{with_section, Spliced}
use Rattle.table_section.proofs.RangeLaws.{range-before, range_in, range-behind, range-ends}
use Rattle.table_section.proofs.HeaderLaws.{item-kept, run_at, header-place, HeaderAs}
use Rattle.table_item.proofs.AllLaws.{all-tabulate}
use Rattle.table_section.proofs.ReplaceLaws.{Compared}
use Rattle.table_section.proofs.SpliceLaws.{spliced_each, spliced_keys, spliced_places, spliced_same, spliced_ordered}

-- ---- the entries as three parts, by a key

abbrev pub lower_at : Bytes → (ℕ → Row) → ℕ → Report
lower_at text f lo = tabulate (λ k. entry_of text (f k)) lo

abbrev pub higher_at : Bytes → (ℕ → Row) → ℕ → ℕ → ℕ → Report
higher_at text f m lo hi = tabulate (λ k. entry_of text (f (lo + (hi - lo + k)))) (m - hi)

module _ {text : Bytes} {f : ℕ → Row} {m lo hi : ℕ} {key : SectionKey} (ρ : IsEqualRange text f m key lo hi) where
  pub parts : tabulate (λ k. entry_of text (f k)) m ≡ lower_at text f lo ++ (run_at text f lo hi ++ higher_at text f m lo hi)
  parts =
      ap (tabulate (λ k. entry_of text (f k))) (let e : m ≡ lo + (hi - lo + (m - hi)) = omega (arith, range-ends ρ, ρ.high.most) in e)
      ∙ tabulate_three (λ k. entry_of text (f k)) lo (hi - lo) (m - hi)

  -- no entry has the key
  pub parts_none : hi ≤ lo → tabulate (λ k. entry_of text (f k)) m ≡ lower_at text f lo ++ higher_at text f m lo hi
  unfolding tabulate
  parts_none none =
      parts ∙ ap (λ (k : ℕ). lower_at text f lo ++ (tabulate (λ j. entry_of text (f (lo + j))) k ++ higher_at text f m lo hi))
      (let z : hi - lo ≡ 0 = omega arith in z)

  pub lower_all : Compared key Ordering.gt (lower_at text f lo)
  lower_all = all-tabulate _ (λ k. entry_of text (f k)) lo (λ k l. range-before ρ k l)

  pub range_all : Compared key Ordering.eq (run_at text f lo hi)
  range_all = all-tabulate _ (λ k. entry_of text (f (lo + k))) (hi - lo) (λ k l. range_in ρ (lo + k) (omega arith) (omega arith))

  pub higher_all : Compared key Ordering.lt (higher_at text f m lo hi)
  higher_all =
      all-tabulate _ (λ k. entry_of text (f (lo + (hi - lo + k)))) (m - hi)
      (λ k l. range-behind ρ (lo + (hi - lo + k)) (omega (arith, range-ends ρ)) (omega (arith, range-ends ρ)))

module _ {text : Bytes} {f g : ℕ → Row} {m from n lo hi : ℕ} {key : Row} (σ : Ordered text f m)
    (inner : (k : ℕ) → k < n → ItemRow text (f (from + 1 + k))) (ν : NamesInBounds text key) (ρ : IsEqualRange text f m (key_of text key) lo hi)
    {spelling : Bytes} (ω : HeaderAs text key spelling (g lo)) (ς : Spliced f g m from n lo hi key) where
  -- ---- the entries after

  abbrev G : ℕ → Entry
  G k = entry_of text (g k)

  abbrev mk : Item → Entry
  mk = in_section (key_of text key)

  -- the section's items
  abbrev pub items_of : List Item
  items_of = tabulate (λ k. item_of text (f (from + 1 + k))) n

  low_parts : tabulate G lo ≡ lower_at text f lo
  low_parts = tabulate_cong G (λ k. entry_of text (f k)) lo (λ k l. ap (entry_of text) (ς.low k (omega arith) l))

  item-parts : (k : ℕ) → k < n → G (lo + suc k) ≡ mk (item_of text (f (from + 1 + k)))
  item-parts k l =
      ap (entry_of text) (ς.items (lo + suc k) (from + 1 + k) (omega arith) (omega arith) (omega arith))
      ∙ ap mk (item-kept text (f (from + 1 + k)) key (omega (arith, (inner k l).inner)))

  -- the section itself
  pub closed_section : tabulate (λ k. G (lo + k)) (n + 1) ≡ map mk (section_item spelling ∷ items_of)
  unfolding tabulate
  closed_section =
      ap (tabulate (λ k. G (lo + k))) (let e : n + 1 ≡ suc n = omega arith in e)
      ∙ ap₂ ◌∷◌ (ap G (let e : lo + 0 ≡ lo = omega arith in e) ∙ ω.is)
      (tabulate_cong (λ k. G (lo + suc k)) (λ k. mk (item_of text (f (from + 1 + k)))) n item-parts
      ∙ sym (map-tabulate mk (λ k. item_of text (f (from + 1 + k))) n))

  high_parts : tabulate (λ k. G (lo + (n + 1 + k))) (m - hi) ≡ higher_at text f m lo hi
  high_parts =
      tabulate_cong (λ k. G (lo + (n + 1 + k))) (λ k. entry_of text (f (lo + (hi - lo + k)))) (m - hi)
      (λ k l. ap (entry_of text) (ς.high (lo + (n + 1 + k)) (lo + (hi - lo + k)) (omega arith) (omega arith) (omega (arith, range-ends ρ))))

  -- the section is between the entries that are less and those that are greater
  pub closed_parts : tabulate G (lo + (n + 1) + (m - hi))
      ≡ lower_at text f lo ++ (map mk (section_item spelling ∷ items_of) ++ higher_at text f m lo hi)
  closed_parts =
      ap (tabulate G) (let e : lo + (n + 1) + (m - hi) ≡ lo + (n + 1 + (m - hi)) = omega arith in e)
      ∙ tabulate_three G lo (n + 1) (m - hi) ∙ ap₂ ◌++◌ low_parts (ap₂ ◌++◌ closed_section high_parts)

  pub closed_ordered : Ordered text g (lo + (n + 1) + (m - hi))
  closed_ordered = spliced_ordered σ inner ν ρ ω ς

  pub closed_same : hi ≡ lo + (n + 1) → (k : ℕ) → k < m → key_of text (g k) ≡ key_of text (f k)
  closed_same = spliced_same σ inner ν ρ ω ς

  pub closed_keys : (P : SectionKey → Type 0) → ((k : ℕ) → k < m → P (key_of text (f k))) → P (key_of text key)
      → (k : ℕ) → k < lo + (n + 1) + (m - hi) → P (key_of text (g k))
  closed_keys = spliced_keys σ inner ν ρ ω ς

  pub closed_each : (P : Row → Type 0) → ((k : ℕ) → k < m → P (f k)) → P (g lo) → ((k : ℕ) → k < n → P (with_section (f (from + 1 + k)) key))
      → (k : ℕ) → k < lo + (n + 1) + (m - hi) → P (g k)
  closed_each = spliced_each σ inner ν ρ ω ς

  pub closed_places : (P : SectionKey → ℕ → Type 0) → ((k : ℕ) → k < m → kind_of (f k) ≡ 0 → P (key_of text (f k)) (f k).k1)
      → P (key_of text key) key.k1 → (k : ℕ) → k < lo + (n + 1) + (m - hi) → kind_of (g k) ≡ 0 → P (key_of text (g k)) (g k).k1
  closed_places P others here = spliced_places σ inner ν ρ ω ς P others
      (subst (P (key_of text key)) (sym (header-place ς.header)) here)
