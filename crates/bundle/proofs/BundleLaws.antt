-- A bundle's sizes and places, as the code meets them. Assumes nothing.
use Prim.Native.Nat.{ℕ, suc, ◌+◌, ◌*◌, ◌-◌, ◌^◌, ◌≤◌, ◌<◌}
use native.Mathlib.Omega.{arith}
use native.Mathlib.Numerals.{add-one}
use mathlib.Core.Path.{◌≡◌, refl, sym, ap, ◌∙◌}
use mathlib.Core.Logic.{◌≢◌}
use mathlib.Core.Bool.{Bool, true, false, ◌&&◌}
use mathlib.Core.List.{List, ◌∷◌}
use lib.Dec.{leb, eqb}
use borrow.Author.Tests.{leb-true, le-leb, lt-leb, eqb-true, eq-eqb, ne_eqb}
use mir.Val.{Fits}
use mir.Syntax.{w64}
use lib.ListN.{length, get_or, take, drop}
use lib.Seq.{drop-cons}
use Rattle.model.specs.declared.Part.{Part}
use Rattle.model.specs.Lists.{all, from}
use Rattle.model.specs.Bytes.{Bytes}
use Rattle.model.specs.Limits.{u32_max, max_texts}
use Rattle.model.specs.Bundle.{u32_at, text_count, text_bytes, text_start, text_length, well_formed}
use Rattle.model.proofs.ListLaws.{and_left, and_right, all-each, from_member}
use Rattle.compare.specs.Prefixes.{number_of, IsNumber}
use Rattle.bundle.specs.Marks.{is_marked}
use Rattle.bundle.specs.Places.{part_from, TextsInside, fits_from, well_formed_as}

-- four bytes are a little-endian u32
pub quad_u32 : (s : Bytes) (i r : ℕ) → i + 4 ≤ length s → IsNumber s i 4 r → (r ≡ u32_at s i) × (r ≤ u32_max)
unfolding u32_at
quad_u32 s i r h n = (n.is ∙ four, omega (arith, n.fits))
  where
    at_least : (width k next : ℕ) → k < length s → next ≡ suc k → take (suc width) (drop k s) ≡ get_or s k 0 ∷ take width (drop next s)
    at_least width k next l e = rw (drop-cons s k 0, e)

    four : number_of (take 4 (drop i s)) ≡ get_or s i 0 + 256 * get_or s (i + 1) 0 + 65_536 * get_or s (i + 2) 0 + 16_777_216 * get_or s (i + 3) 0
    four =
        ap number_of (at_least 3 i (i + 1) (omega arith) (omega arith)
        ∙ ap (λ (t : Bytes). get_or s i 0 ∷ t) (at_least 2 (i + 1) (i + 2) (omega arith) (omega arith)
        ∙ ap (λ (t : Bytes). get_or s (i + 1) 0 ∷ t) (at_least 1 (i + 2) (i + 3) (omega arith) (omega arith)
        ∙ ap (λ (t : Bytes). get_or s (i + 2) 0 ∷ t) (at_least 0 (i + 3) (i + 4) (omega arith) (omega arith)))))
        ∙ omega arith

pub count-is : (s : Bytes) (r : ℕ) → r ≡ u32_at s 0 → r ≡ text_count s
unfolding text_count
count-is s r e = e

pub start_is : (s : Bytes) (i r : ℕ) → r ≡ u32_at s (8 + 4 * i) → r ≡ text_start s i
unfolding text_start
start_is s i r e = e

pub length-is : (s : Bytes) (n i r : ℕ) → n ≡ text_count s → r ≡ u32_at s (8 + 4 * n + 4 * i) → r ≡ text_length s i
unfolding text_length
length-is s n i r e h = rw e at h

-- ---- each start + length

module _ (s : Bytes) (i n total : ℕ) (so_far : fits_from s 0 n total ≡ fits_from s i n total) where
  pub fit_end : n ≤ i → true ≡ fits_from s 0 n total
  unfolding fits_from from all
  fit_end h = let e : n - i ≡ 0 = omega arith in sym (so_far ∙ rw e)

  module _ (more : i < n) (start len : ℕ) (begins : start ≡ text_start s i) (lasts : len ≡ text_length s i) where
    one_more : fits_from s i n total ≡ (leb (start + len) total && fits_from s (i + 1) n total)
    unfolding fits_from from all
    one_more = let e : n - i ≡ suc (n - (i + 1)) = omega arith in rw (e, add-one i, begins, lasts)

    pub fit_next : start + len ≤ total → fits_from s 0 n total ≡ fits_from s (i + 1) n total
    fit_next h = so_far ∙ one_more ∙ rw (le-leb (start + len) total h)

    pub fit_over : total < start + len → false ≡ fits_from s 0 n total
    fit_over h = sym (so_far ∙ one_more ∙ rw (lt-leb (start + len) total h))

-- ---- well formed

module _ (width : ℕ) (s : Bytes) where
  pub bad_short : length s < 8 → false ≡ well_formed_as width s
  unfolding well_formed_as
  bad_short h = rw (lt-leb 8 (length s) h)

  module _ (sized : 8 ≤ length s) (n total : ℕ) (count : n ≡ u32_at s 0) (bytes : total ≡ u32_at s 4) where
    pub bad_count : max_texts < n → false ≡ well_formed_as width s
    unfolding well_formed_as text_count
    bad_count h = rw (le-leb 8 (length s) sized, ← count, lt-leb n max_texts h)

    module _ (few : n ≤ max_texts) where
      pub bad_length : length s ≢ 8 + width * n + total → false ≡ well_formed_as width s
      unfolding well_formed_as text_count text_bytes
      bad_length h = rw (le-leb 8 (length s) sized, ← count, ← bytes, le-leb n max_texts few, ne_eqb (length s) (8 + width * n + total) h)

      pub good_if : length s ≡ 8 + width * n + total → (r : Bool) → r ≡ fits_from s 0 n total → r ≡ well_formed_as width s
      unfolding well_formed_as text_count text_bytes fits_from
      good_if h r e =
          let all_of : n - 0 ≡ n = omega arith in
          e ∙ sym (rw (le-leb 8 (length s) sized, ← count, ← bytes, le-leb n max_texts few, eq-eqb (length s) (8 + width * n + total) h, all_of))

pub first_kind : (s : Bytes) → well_formed_as 8 s ≡ well_formed s
unfolding well_formed_as well_formed
first_kind s = refl

-- ---- what a well-formed bundle says

module _ (width : ℕ) (s : Bytes) (well : well_formed_as width s ≡ true) where
  abbrev sized : Bool
  sized = leb 8 (length s)

  abbrev few : Bool
  few = leb (text_count s) max_texts

  abbrev long : Bool
  long = eqb (length s) (8 + width * text_count s + text_bytes s)

  abbrev inside : ℕ → Bool
  inside i = leb (text_start s i + text_length s i) (text_bytes s)

  abbrev each-inside : Bool
  each-inside = all inside (from 0 (text_count s))

  first_three : (sized && few && long) ≡ true
  unfolding well_formed_as
  first_three = and_left (sized && few && long) each-inside well

  first_two : (sized && few) ≡ true
  first_two = and_left (sized && few) long first_three

  pub sized_as : 8 ≤ length s
  sized_as = leb-true 8 (length s) (and_left sized few first_two)

  pub few_as : text_count s ≤ max_texts
  few_as = leb-true (text_count s) max_texts (and_right sized few first_two)

  pub length_as : length s ≡ 8 + width * text_count s + text_bytes s
  length_as = eqb-true (length s) (8 + width * text_count s + text_bytes s) (and_right (sized && few) long first_three)

  pub text_as : (i : ℕ) → i < text_count s → text_start s i + text_length s i ≤ text_bytes s
  unfolding well_formed_as
  text_as i h =
      leb-true (text_start s i + text_length s i) (text_bytes s)
      (all-each inside (from 0 (text_count s)) (and_right (sized && few && long) each-inside well) i (from_member 0 (text_count s) i (omega arith) (omega arith)))

-- one of the first kind
module _ (s : Bytes) (well : well_formed s ≡ true) where
  pub well_sized : 8 ≤ length s
  well_sized = sized_as 8 s (first_kind s ∙ well)

  pub well_few : text_count s ≤ max_texts
  well_few = few_as 8 s (first_kind s ∙ well)

  pub well_length : length s ≡ 8 + 8 * text_count s + text_bytes s
  well_length = length_as 8 s (first_kind s ∙ well)

  pub well_text : (i : ℕ) → i < text_count s → text_start s i + text_length s i ≤ text_bytes s
  well_text = text_as 8 s (first_kind s ∙ well)

  -- its texts lie in it, behind starts and lengths
  pub well_inside : TextsInside s (8 + 8 * text_count s)
  well_inside = record {
    few = well_few;
    arrays = omega (arith, well_length);
    inside = λ i h. omega (arith, well_length, well_text i h);
  }

-- the place of a text
module _ (s : Bytes) (body i : ℕ) (inside : TextsInside s body) (h : i < text_count s) where
  pub texts_sized : 8 ≤ length s
  texts_sized = omega (arith, inside.arrays)

  pub start-room : 8 + 4 * i + 4 ≤ length s
  start-room = omega (arith, inside.arrays)

  module _ (n : ℕ) (count : n ≡ text_count s) where
    pub length-room : 8 + 4 * n + 4 * i + 4 ≤ length s
    length-room = omega (arith, inside.arrays)

    module _ (start len : ℕ) (begins : start ≡ text_start s i) (lasts : len ≡ text_length s i) where
      pub part-is : (p : Part) → p ≡ record { start = body + start; len = len } → p ≡ part_from body s i
      part-is p e = e ∙ rw (begins, lasts)

      pub part-inside : body + start + len ≤ length s
      part-inside = omega (arith, inside.inside i h)

      pub part-fits : length s < 2 ^ 64 → Fits w64 (body + start)
      part-fits l = record { fits = omega (arith, part-inside) }

-- ---- marks

-- those from i up to `at` are not marked
abbrev pub Passed : List ℕ → ℕ → ℕ → Type 0
Passed marks i at = (k : ℕ) → i ≤ k → k < at → is_marked marks k ≡ false
