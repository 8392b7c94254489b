-- A line has a tag if it starts with it and then ends or goes on with ':'. Assumes nothing.
use Prim.Native.Nat.{ℕ, ◌+◌, ◌≤◌, ◌<◌, zero-le}
use mathlib.Core.Path.{◌≡◌, refl, sym, ap, ◌∙◌}
use mathlib.Core.Bool.{Bool, true, false, cond}
use mathlib.Core.List.{◌∷◌, ◌++◌, append-nil}
use native.Mathlib.Omega.{arith}
use lib.Dec.{ltb, eqb, lit<}
use lib.ListN.{length, get_or, take, drop, take-append-drop}
use borrow.Author.Tests.{lt-ltb, le-ltb, ltb-true, ltb-false, eqb-true, eqb-false}
use Rattle.ordmap.proofs.Results.{impossible}
use Rattle.model.specs.declared.Kind.{Kind}
use Rattle.model.specs.declared.Kind.TheVariants as Kd
use Rattle.model.specs.Bytes.{Bytes, colon, same_bytes, before, Free}
use Rattle.model.specs.TagTable.{place_of, tag_at, lent_tag, well_formed_tags, tags_of}
use Rattle.model.proofs.ByteLaws.{before-all, before_seam, before_prefix, before-within, before_mark}
use Rattle.model.proofs.KeyOrder.{bytes_same}
use Rattle.model.proofs.TagTableLaws.{tags-lent}
use Rattle.scan.proofs.ByteLaws.{drop-next, drop-end}
use Rattle.std.specs.Prelude.{Option, Some, None}
use Rattle.tag_table.specs.Kinds.{body_at, ends_at, TaggedAs, FoundIn}
use Rattle.tag_table.specs.declared.Tagged.{Tagged}
use Rattle.tag_table.proofs.SlotLaws.{tag_free}

-- two tests that hold together
same_tests : (a b : Bool) → (a ≡ true → b ≡ true) → (b ≡ true → a ≡ true) → a ≡ b
same_tests true b f g = sym (f refl)
same_tests false true f g = g refl
same_tests false false f g = refl

-- ---- where a tag may end

pub ends_colon : (s : Bytes) (n : ℕ) (r : Bool) → n < length s → r ≡ eqb (get_or s n 0) 58 → r ≡ ends_at s n
unfolding ends_at
ends_colon s n r h e = rw (lt-ltb n (length s) h) e

pub ends_line : (s : Bytes) (n : ℕ) (r : Bool) → length s ≤ n → r ≡ eqb n (length s) → r ≡ ends_at s n
unfolding ends_at
ends_line s n r h e = rw (le-ltb n (length s) h) e

module _ (s : Bytes) (n : ℕ) (ends : ends_at s n ≡ true) where
  pub ends-within : n ≤ length s
  unfolding ends_at
  ends-within = go (ltb n (length s)) refl ends
    where
      go : (t : Bool) → ltb n (length s) ≡ t → cond t (eqb (get_or s n 0) colon) (eqb n (length s)) ≡ true → n ≤ length s
      go true l e = let h : n < length s = ltb-true n (length s) l in omega (arith, h)
      go false l e = let h : n ≡ length s = eqb-true n (length s) e in omega (arith, h)

  ends_mark : n < length s → get_or s n 0 ≡ colon
  unfolding ends_at
  ends_mark h = eqb-true (get_or s n 0) colon (rw (lt-ltb n (length s) h) at ends)

-- ---- one tag

module _ (s tag : Bytes) (free : Free colon tag) where
  ends-other : ends_at s (length tag) ≡ false → same_bytes (before colon s) tag ≡ true → ⊥
  unfolding ends_at
  ends-other ends same =
      let is : before colon s ≡ tag = bytes_same.same_eq (before colon s) tag same in
      let within : length tag ≤ length s = before-within colon s (length tag) (ap length (sym is)) in
      go (ltb (length tag) (length s)) refl ends is within
    where
      go : (t : Bool) → ltb (length tag) (length s) ≡ t → cond t (eqb (get_or s (length tag) 0) colon) (eqb (length tag) (length s)) ≡ false → before colon s ≡ tag
          → length tag ≤ length s → ⊥
      go true l e is within =
          let h : length tag < length s = ltb-true (length tag) (length s) l in
          eqb-false (get_or s (length tag) 0) colon e (rw is at (before_mark colon s (rw is h)))
      go false l e is within =
          let h : length s ≤ length tag = ltb-false (length tag) (length s) l in
          eqb-false (length tag) (length s) e (omega (arith, h, within))

  before-tag : ends_at s (length tag) ≡ true → take (length tag) s ≡ tag → before colon s ≡ tag
  before-tag ends e = go (ltb (length tag) (length s)) refl
    where
      whole : s ≡ tag ++ drop (length tag) s
      whole = sym (take-append-drop (length tag) s) ∙ ap (λ (l : Bytes). l ++ drop (length tag) s) e

      go : (t : Bool) → ltb (length tag) (length s) ≡ t → before colon s ≡ tag
      go true l =
          let h : length tag < length s = ltb-true (length tag) (length s) l in
          ap (before colon) (whole ∙ ap (λ (l : Bytes). tag ++ l) (drop-next 0 s (length tag) h ∙ ap (λ (b : ℕ). b ∷ drop (length tag + 1) s) (ends_mark s (length tag) ends h)))
          ∙ before_seam colon tag _ free
      go false l =
          ap (before colon) (whole ∙ ap (λ (l : Bytes). tag ++ l) (drop-end s (length tag) (ltb-false (length tag) (length s) l)) ∙ append-nil tag)
          ∙ before-all colon tag free

  starts : ends_at s (length tag) ≡ true → same_bytes (take (length tag) s) tag ≡ same_bytes (before colon s) tag
  starts ends = same_tests (same_bytes (take (length tag) s) tag) (same_bytes (before colon s) tag) there back
    where
      there : same_bytes (take (length tag) s) tag ≡ true → same_bytes (before colon s) tag ≡ true
      there e = rw (before-tag ends (bytes_same.same_eq (take (length tag) s) tag e)) (bytes_same.same_refl tag)

      back : same_bytes (before colon s) tag ≡ true → same_bytes (take (length tag) s) tag ≡ true
      back e =
          let is : before colon s ≡ tag = bytes_same.same_eq (before colon s) tag e in
          let front : take (length tag) s ≡ tag = rw is at (before_prefix colon s) in
          rw front (bytes_same.same_refl tag)

-- ---- a tag of a table, as the code tries it

module _ (table s : Bytes) (k : ℕ) (well : well_formed_tags table ≡ true) (few : k < 13) (tag : Bytes) (is : tag ≡ tag_at table k) (ends : Bool)
    (end : ends ≡ ends_at s (length tag)) where
  free : Free colon tag
  free = rw is (tag_free table well k few)

  pub has_room : ends ≡ true → length tag ≤ length s
  has_room t = ends-within s (length tag) (sym end ∙ t)

  pub has_not : ends ≡ false → false ≡ same_bytes (before 58 s) (tag_at table k)
  has_not f =
      same_tests false (same_bytes (before 58 s) (tag_at table k)) (λ e. impossible cc)
      (λ e. absurd (ends-other s tag free (sym end ∙ f) (rw is e)))

  pub has_if : ends ≡ true → (r : Bool) → r ≡ same_bytes (take (length tag) s) tag → r ≡ same_bytes (before 58 s) (tag_at table k)
  has_if t r e = e ∙ starts s tag free (sym end ∙ t) ∙ ap (same_bytes (before 58 s)) is

-- ---- the kind of a line's tag

module _ (table s : Bytes) (k : ℕ) (tag : Bytes) (is : tag ≡ tag_at table k) (same : same_bytes (before 58 s) (tag_at table k) ≡ true) where
  has : before 58 s ≡ tag_at table k
  has = bytes_same.same_eq (before 58 s) (tag_at table k) same

  tag-end : length tag ≡ length (before 58 s)
  tag-end = ap length (is ∙ sym has)

  pub known_within : length tag ≤ length s
  known_within = before-within 58 s (length tag) tag-end

  pub known_is : (kind : Kind) (at : ℕ) → place_of kind ≡ k → at ≡ body_at (length s) (length tag) → at ≤ length s → TaggedAs (lent_tag table) s (record { kind = kind; at = at })
  known_is kind at place body within =
      record { is = has ∙ ap (tag_at table) (sym place); body = body ∙ ap (body_at (length s)) tag-end; within = within }

pub has_it : (table s : Bytes) (k : ℕ) (r : Bool) → r ≡ same_bytes (before 58 s) (tag_at table k) → r ≡ true → same_bytes (before 58 s) (tag_at table k) ≡ true
has_it table s k r e t = sym e ∙ t

-- the tags before number k are others
pub record NoneBefore (table s : Bytes) (k : ℕ) : Type 0 where
  pub other : (i : ℕ) → i < k → same_bytes (before 58 s) (tag_at table i) ≡ false

pub none_first : (table s : Bytes) → NoneBefore table s 0
none_first table s = record { other = λ i h. absurd (omega (arith, h)) }

pub none_next : (table s : Bytes) (k : ℕ) (r : Bool) → NoneBefore table s k → r ≡ same_bytes (before 58 s) (tag_at table k) → r ≡ false → NoneBefore table s (k + 1)
none_next table s k r none e f = record { other = next }
  where
    next : (i : ℕ) → i < k + 1 → same_bytes (before 58 s) (tag_at table i) ≡ false
    next i h = go (ltb i k) refl
      where
        go : (t : Bool) → ltb i k ≡ t → same_bytes (before 58 s) (tag_at table i) ≡ false
        go true l = none.other i (ltb-true i k l)
        go false l = let z : i ≡ k = omega (arith, ltb-false i k l, h) in rw z (sym e ∙ f)

place-few : (kind : Kind) → place_of kind < 13
place-few Kd.TestName = lit< tt
place-few Kd.SourceFile = lit< tt
place-few Kd.FunctionName = lit< tt
place-few Kd.FunctionData = lit< tt
place-few Kd.FunctionsFound = lit< tt
place-few Kd.FunctionsHit = lit< tt
place-few Kd.BranchData = lit< tt
place-few Kd.BranchesFound = lit< tt
place-few Kd.BranchesHit = lit< tt
place-few Kd.LineData = lit< tt
place-few Kd.LinesFound = lit< tt
place-few Kd.LinesHit = lit< tt
place-few Kd.EndOfRecord = lit< tt

pub none_found : (table s : Bytes) (k : ℕ) → 13 ≤ k → NoneBefore table s k → FoundIn (lent_tag table) s None
none_found table s k all none = record { none = λ kind. none.other (place_of kind) (let f = place-few kind in omega (arith, f, all)) }

-- ---- lent or default

pub lent_found : (tags s : Bytes) (r : Option Tagged) → (length tags ≡ 0 → ⊥) → FoundIn (lent_tag tags) s r → FoundIn (tags_of tags) s r
lent_found tags s (Some t) lent f = record { is = f.is ∙ sym (tags-lent tags lent t.kind); body = f.body; within = f.within }
lent_found tags s None lent f = record { none = λ kind. ap (same_bytes (before 58 s)) (tags-lent tags lent kind) ∙ f.none kind }

-- ---- the kind of a place, and the place of a kind

pub place_is : (kind known : Kind) (r : ℕ) → kind ≡ known → r ≡ place_of known → r ≡ place_of kind
place_is kind known r e p = rw e p

pub place-within : (kind : Kind) (r : ℕ) → r ≡ place_of kind → r < 13
place-within kind r e = rw e (place-few kind)

above : (n k : ℕ) → n ≤ k → (k ≡ n → ⊥) → n + 1 ≤ k
above n k h other = omega (arith, h, other)

-- what is none of the first twelve places is the last
pub last-place : (k : ℕ) → k < 13 → (((((((((((Unit {0} × (k ≡ 0 → ⊥)) × (k ≡ 1 → ⊥)) × (k ≡ 2 → ⊥)) × (k ≡ 3 → ⊥)) × (k ≡ 4 → ⊥)) × (k ≡ 5 → ⊥)) × (k ≡ 6 → ⊥)) × (k ≡ 7 → ⊥)) × (k ≡ 8 → ⊥)) × (k ≡ 9 → ⊥)) × (k ≡ 10 → ⊥)) × (k ≡ 11 → ⊥) → 12 ≡ k
last-place k few r =
    omega (arith, few, above 11 k (above 10 k (above 9 k (above 8 k (above 7 k (above 6 k (above 5 k (above 4 k (above 3 k (above 2 k (above 1 k (above 0 k (zero-le) r.0.0.0.0.0.0.0.0.0.0.0.1) r.0.0.0.0.0.0.0.0.0.0.1) r.0.0.0.0.0.0.0.0.0.1) r.0.0.0.0.0.0.0.0.1) r.0.0.0.0.0.0.0.1) r.0.0.0.0.0.0.1) r.0.0.0.0.0.1) r.0.0.0.0.1) r.0.0.0.1) r.0.0.1) r.0.1) r.1)

-- ---- where the body starts

pub body_after : (n mark : ℕ) → mark < n → mark + 1 ≡ body_at n mark
unfolding body_at
body_after n mark h = rw (lt-ltb mark n h)

pub body_none : (n mark : ℕ) → n ≤ mark → mark ≡ body_at n mark
unfolding body_at
body_none n mark h = rw (le-ltb mark n h)
