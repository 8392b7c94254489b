-- Runs and revisions, as the loops meet them. Assumes nothing.
use Prim.Native.Nat.{ℕ, ◌+◌, ◌*◌, ◌≤◌, ◌<◌}
use native.Mathlib.Omega.{arith}
use mathlib.Core.Path.{◌≡◌, refl, sym, ◌∙◌}
use mathlib.Core.Logic.{◌≢◌}
use mathlib.Core.Bool.{Bool, true, false, ◌&&◌}
use mathlib.Core.List.{List}
use lib.Dec.{ltb, eqb}
use lib.ListN.{length}
use borrow.Author.Tests.{eq-eqb, ne_eqb, eqb-true, ltb-true, ltb-false}
use Rattle.model.specs.Bytes.{Bytes}
use Rattle.model.specs.Limits.{max_texts}
use Rattle.model.specs.Bundle.{u32_at, text_count, text_bytes, text_start, text_length}
use Rattle.model.proofs.ListLaws.{and_left, and_right}
use Rattle.text_choice.specs.RevisionBundle.{well_formed_revisions, run_at, revision_at, is_highest, pair_at, same_pair, is_repeat, first_repeat}
use Rattle.text_choice.proofs.Positions.{below-any, below_not_any, some_first, none_first}
use Rattle.text_choice.proofs.RevisionLaws.{highest_of, not_highest}
use Rattle.bundle.specs.Places.{well_formed_as}
use Rattle.bundle.specs.Marks.{MarkedAs}
use Rattle.bundle.proofs.BundleLaws.{few_as, length_as, text_as}
use Rattle.bundle_revisions.specs.Revisions.{Counted, is_higher, FirstRepeatAt, HighestMarked}

pub second-kind : (s : Bytes) → well_formed_as 16 s ≡ well_formed_revisions s
unfolding well_formed_as well_formed_revisions
second-kind s = refl

-- ---- what a well-formed bundle says

module _ (s : Bytes) (well : well_formed_revisions s ≡ true) where
  pub well_few : text_count s ≤ max_texts
  well_few = few_as 16 s (second-kind s ∙ well)

  pub well_length : length s ≡ 8 + 16 * text_count s + text_bytes s
  well_length = length_as 16 s (second-kind s ∙ well)

  pub well_text : (i : ℕ) → i < text_count s → text_start s i + text_length s i ≤ text_bytes s
  well_text = text_as 16 s (second-kind s ∙ well)

  pub sizes_room : 0 + 4 ≤ length s
  sizes_room = omega (arith, well_length)

  pub counted : (n : ℕ) → n ≡ u32_at s 0 → Counted s n
  unfolding text_count
  counted n e =
      record {
        count = e;
        few = rw e well_few;
        room = omega (arith, well_length);
      }

-- ---- the arrays

module _ (s : Bytes) (n i : ℕ) (c : Counted s n) (r : ℕ) where
  pub run_is : r ≡ u32_at s (8 + 8 * n + 4 * i) → r ≡ run_at s i
  unfolding run_at
  run_is h = rw c.count at h

  pub revision_is : r ≡ u32_at s (8 + 12 * n + 4 * i) → r ≡ revision_at s i
  unfolding revision_at
  revision_is h = rw c.count at h

-- ---- two texts

-- a test of their runs, and one of their revisions
module _ {a b a' b' : ℕ} (e : a ≡ a') (f : b ≡ b') where
  pub other-run : a ≢ b → (test : Bool) → false ≡ (eqb a' b' && test)
  other-run h test = rw (← e, ← f, ne_eqb a b h)

module _ (test : ℕ → ℕ → Bool) {a b a' b' : ℕ} (e : a ≡ a') (f : b ≡ b') where
  pub one-run : a ≡ b → {x y x' y' : ℕ} → x ≡ x' → y ≡ y' → test x y ≡ (eqb a' b' && test x' y')
  one-run h {x} {y} {x'} {y'} g j = rw (← e, ← f, ← g, ← j, eq-eqb a b h)

-- ---- one text against all

module _ (s : Bytes) (i : ℕ) where
  pub repeats : (j : ℕ) → j < i → (r : Bool) → r ≡ same_pair (pair_at s j) (pair_at s i) → r ≡ true → true ≡ is_repeat s i
  unfolding is_repeat
  repeats j l r e t = sym (below-any (λ k. same_pair (pair_at s k) (pair_at s i)) i j l (sym e ∙ t))

  pub unrepeated : (j : ℕ) → i ≤ j → ((k : ℕ) → k < j → same_pair (pair_at s k) (pair_at s i) ≡ false) → false ≡ is_repeat s i
  unfolding is_repeat
  unrepeated j m h = sym (below_not_any (λ k. same_pair (pair_at s k) (pair_at s i)) i (λ k l. h k (omega arith)))

  module _ (n : ℕ) (c : Counted s n) where
    pub surpassed : (j : ℕ) → j < n → (r : Bool) → r ≡ is_higher s i j → r ≡ true → false ≡ is_highest s i
    surpassed j l r e t =
        sym (not_highest s i j (omega (arith, c.count))
        (sym (eqb-true (run_at s i) (run_at s j) (and_left _ (ltb (revision_at s i) (revision_at s j)) (sym e ∙ t))))
        (ltb-true (revision_at s i) (revision_at s j) (and_right (eqb (run_at s i) (run_at s j)) _ (sym e ∙ t))))

    pub unsurpassed : (j : ℕ) → n ≤ j → ((k : ℕ) → k < j → is_higher s i k ≡ false) → true ≡ is_highest s i
    unsurpassed j m h = sym (highest_of s i (λ k l e. not_higher_lem k e (h k (omega (arith, c.count)))))
      where
        not_higher_lem : (k : ℕ) → run_at s k ≡ run_at s i → is_higher s i k ≡ false → revision_at s k ≤ revision_at s i
        not_higher_lem k e f = ltb-false (revision_at s i) (revision_at s k) (rw (eq-eqb (run_at s i) (run_at s k) (sym e)) at f)

-- ---- the first repeat

module _ (s : Bytes) (n : ℕ) (c : Counted s n) where
  pub repeat_first : (i : ℕ) → i < n → ((k : ℕ) → k < i → is_repeat s k ≡ false) → (r : Bool) → r ≡ is_repeat s i → r ≡ true → FirstRepeatAt s i
  unfolding first_repeat
  repeat_first i l so_far r e t =
      record {
        inside = omega (arith, c.count);
        found = λ m. some_first (is_repeat s) 0 (text_count s) i (omega arith) (omega arith) (sym e ∙ t) (λ k a b. so_far k b);
        missing = λ m. absurd (omega (arith, c.count));
      }

  pub no_repeat : (i : ℕ) → n ≤ i → ((k : ℕ) → k < i → is_repeat s k ≡ false) → FirstRepeatAt s n
  unfolding first_repeat
  no_repeat i l so_far =
      record {
        inside = omega (arith, c.count);
        found = λ m. absurd (omega (arith, c.count));
        missing = λ m. none_first (is_repeat s) 0 (text_count s) (λ k a b. so_far k (omega (arith, c.count)));
      }

-- ---- marks

pub all-marked : (s : Bytes) (n : ℕ) (marks : List ℕ) (i : ℕ) → Counted s n → n ≤ i → MarkedAs (is_highest s) i marks → HighestMarked s marks
all-marked s n marks i c l so_far k m = so_far k (omega (arith, c.count))
