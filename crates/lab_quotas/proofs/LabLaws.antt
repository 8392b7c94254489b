-- Lab numbers, the texts of a lab, and the words of a mark. Assumes nothing.
use Prim.Native.Nat.{ℕ, zero, suc, ◌+◌, ◌*◌, ◌-◌, ◌≤◌, ◌<◌}
use native.Mathlib.Omega.{arith}
use mathlib.Core.Path.{◌≡◌, refl, sym, ◌∙◌}
use mathlib.Core.Logic.{◌≢◌}
use mathlib.Core.Bool.{Bool, true, false, ◌&&◌}
use mathlib.Core.List.{List, [], ◌∷◌}
use lib.Dec.{leb, eqb}
use lib.ListN.{length, get_or}
use borrow.Author.Tests.{leb-true, le-leb, lt-leb, eq-eqb, ne_eqb, eqb-true}
use Rattle.model.specs.declared.Refusal.{Refusal}
use Rattle.std.specs.Prelude.{if◌then◌else◌}
use Rattle.model.specs.Lists.{all}
use Rattle.model.specs.Limits.{max_labs}
use Rattle.model.specs.Answer.{number_of}
use Rattle.model.specs.Bytes.{Bytes}
use Rattle.model.specs.Bundle.{text_count}
use Rattle.model.proofs.ListLaws.{and_left, and_right}
use Rattle.text_choice.specs.declared.Mark.{Mark}
use Rattle.text_choice.specs.declared.Mark.TheVariants.{LetIn, OverQuota, RefusedLab}
use Rattle.text_choice.specs.Quotas.{is_lab, are_labs, lab_at, mark_words}
use Rattle.joined_table.specs.Gathering.{in_text_of}
use Rattle.std.proofs.Common.{count_by, take, add-one}
use Rattle.std.proofs.lemmas.List.Sums.{count_by_more_no, count_by_more_yes}
use Rattle.lab_quotas.specs.Labs.{mark_size, is_of_lab, rank_of, lab_mark}

-- ---- lab numbers

module _ (lab : ℕ) (is : is_lab lab ≡ true) where
  pub lab_least : 1 ≤ lab
  lab_least = leb-true 1 lab (and_left (leb 1 lab) (leb lab max_labs) is)

  pub lab_last : lab ≤ max_labs
  lab_last = leb-true lab max_labs (and_right (leb 1 lab) (leb lab max_labs) is)

  -- its mark begins in the words of all marks
  pub state_inside : (marks : List ℕ) → max_labs * mark_size ≤ length marks → mark_size * (lab - 1) < length marks
  state_inside marks h = omega (arith, lab_least, lab_last)

module _ (test : ℕ → Bool) where
  all-below : (l : List ℕ) → ((k : ℕ) → k < length l → test (get_or l k 0) ≡ true) → all test l ≡ true
  unfolding all
  all-below [] h = refl
  all-below (x ∷ xs) h = rw (h 0 (omega arith)) (all-below xs (λ k l. h (suc k) (omega arith)))

  not_all : (l : List ℕ) (k : ℕ) → k < length l → test (get_or l k 0) ≡ false → all test l ≡ false
  unfolding all
  not_all [] k h e = absurd (omega arith)
  not_all (x ∷ xs) zero h e = rw e
  not_all (x ∷ xs) (suc k) h e = go (test x) (not_all xs k (omega arith) e)
    where
      go : (b : Bool) → all test xs ≡ false → (b && all test xs) ≡ false
      go true r = r
      go false r = refl

  all_at_lem : (l : List ℕ) → all test l ≡ true → (k : ℕ) → k < length l → test (get_or l k 0) ≡ true
  unfolding all
  all_at_lem [] p k h = absurd (omega arith)
  all_at_lem (x ∷ xs) p zero h = and_left (test x) (all test xs) p
  all_at_lem (x ∷ xs) p (suc k) h = all_at_lem xs (and_right (test x) (all test xs) p) k (omega arith)

module _ (labs : List ℕ) (i : ℕ) where
  pub is-a_lab : all is_lab labs ≡ true → i < length labs → is_lab (get_or labs i 0) ≡ true
  is-a_lab every l = all_at_lem is_lab labs every i l

  pub every_lab : length labs ≤ i → ((k : ℕ) → k < i → is_lab (get_or labs k 0) ≡ true) → true ≡ all is_lab labs
  every_lab l h = sym (all-below is_lab labs (λ k m. h k (omega arith)))

  pub no_such_lab : i < length labs → (r : Bool) → r ≡ is_lab (get_or labs i 0) → r ≡ false → false ≡ all is_lab labs
  no_such_lab l r e f = sym (not_all is_lab labs i l (sym e ∙ f))

module _ (bundle : Bytes) (labs quotas : List ℕ) (n : ℕ) (count : n ≡ text_count bundle) where
  pub other-count : length labs ≢ n → false ≡ are_labs bundle labs quotas
  unfolding are_labs
  other-count h = rw (← count, ne_eqb (length labs) n h)

  pub other_lab : length labs ≡ n → (r : Bool) → r ≡ all is_lab labs → r ≡ false → false ≡ are_labs bundle labs quotas
  unfolding are_labs
  other_lab h r e f = let none : all is_lab labs ≡ false = sym e ∙ f in rw (← count, eq-eqb (length labs) n h, none)

  pub same_labs : length labs ≡ n → (r : Bool) → r ≡ all is_lab labs → r ≡ true → eqb (length quotas) max_labs ≡ are_labs bundle labs quotas
  unfolding are_labs
  same_labs h r e f = let every : all is_lab labs ≡ true = sym e ∙ f in rw (← count, eq-eqb (length labs) n h, every)

-- what lab numbers that are well formed say
module _ (bundle : Bytes) (labs quotas : List ℕ) (are : are_labs bundle labs quotas ≡ true) where
  abbrev numbers : Bool
  numbers = eqb (length labs) (text_count bundle) && all is_lab labs

  both : numbers ≡ true
  unfolding are_labs
  both = and_left numbers (eqb (length quotas) max_labs) are

  pub labs_count : length labs ≡ text_count bundle
  labs_count = eqb-true (length labs) (text_count bundle) (and_left (eqb (length labs) (text_count bundle)) (all is_lab labs) both)

  pub labs_all : all is_lab labs ≡ true
  labs_all = and_right (eqb (length labs) (text_count bundle)) (all is_lab labs) both

  eight_quotas : length quotas ≡ max_labs
  unfolding are_labs
  eight_quotas = eqb-true (length quotas) max_labs (and_right numbers (eqb (length quotas) max_labs) are)

  pub quota_inside : (i : ℕ) → i < max_labs → i < length quotas
  quota_inside i h = omega (arith, eight_quotas)

-- ---- the texts of a lab before a text

module _ (lab : ℕ) (labs : List ℕ) where
  abbrev test : ℕ → Bool
  test x = eqb lab x

  pub rank_counted : (i : ℕ) → i ≤ length labs → count_by test (take i labs) ≡ rank_of (is_of_lab labs lab) i
  unfolding rank_of
  rank_counted zero h = refl
  rank_counted (suc i) h = rw (← add-one i) (go (test (lab_at labs i)) refl (omega arith) (rank_counted i (omega arith)))
    where
      go : (b : Bool) → test (lab_at labs i) ≡ b → i < length labs → count_by test (take i labs) ≡ rank_of (is_of_lab labs lab) i
          → count_by test (take (i + 1) labs) ≡ (if b then suc (rank_of (is_of_lab labs lab) i) else rank_of (is_of_lab labs lab) i)
      go true e l ih = omega (arith, count_by_more_yes test labs i 0 l e, ih)
      go false e l ih = count_by_more_no test labs i 0 l e ∙ ih

-- the index of a refusal among the lab's texts
pub ranked_as : (r q : Refusal) (n m : ℕ) → r ≡ in_text_of n q → n ≡ m → r ≡ in_text_of m q
ranked_as r q n m e h = rw h at e

-- ---- marks

module _ (entries quota : ℕ) where
  pub over_quota : quota < entries → OverQuota entries ≡ lab_mark quota entries
  over_quota h = rw (lt-leb entries quota h)

  pub within_quota : entries ≤ quota → LetIn entries ≡ lab_mark quota entries
  within_quota h = rw (le-leb entries quota h)

module _ (mark : Mark) where
  pub let_in_words : (n : ℕ) → mark ≡ LetIn n → 0 ∷ n ∷ 0 ∷ 0 ∷ 0 ∷ [] ≡ mark_words mark
  unfolding mark_words
  let_in_words n e = rw e

  pub over-words : (n : ℕ) → mark ≡ OverQuota n → 1 ∷ n ∷ 0 ∷ 0 ∷ 0 ∷ [] ≡ mark_words mark
  unfolding mark_words
  over-words n e = rw e

  pub refused-words : (r : Refusal) → mark ≡ RefusedLab r → (number : ℕ) → number ≡ number_of r.fault
      → 2 ∷ number ∷ r.text ∷ r.line ∷ r.field ∷ [] ≡ mark_words mark
  unfolding mark_words
  refused-words r e number n = rw (e, n)
