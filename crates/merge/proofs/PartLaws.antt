-- Parts of the words that are lent: the rows in the front part, and the words as they come back. Assumes nothing.
use Prim.Native.Nat.{ℕ, ◌+◌, ◌*◌, ◌-◌, ◌≤◌, ◌<◌}
use native.Mathlib.Omega.{arith}
use mathlib.Core.Path.{refl, ◌≡◌, sym, ap, ◌∙◌}
use mathlib.Core.List.{List, ◌++◌}
use lib.ListN.{length, take, drop, length-append, length-take, length-drop}
use lib.Seq.{take_at, drop_at, take_all, take-take}
use Rattle.table.specs.Rows.{row_words, word, row_at}
use Rattle.table.specs.Store.{number, row, Store}
use Rattle.table.proofs.WordLaws.{row_cong}
use Rattle.merge_search.specs.Search.{EntriesAscending}

-- ---- the front part of the words

-- words that are the same up to a place behind the index hold the same rows
module _ (ws ws' : List ℕ) {index used spare : ℕ} (same : (j : ℕ) → j < spare → word ws' j ≡ word ws j) (σ : Store ws index used)
    (h : index + used ≤ spare) where
  part-number : (k : ℕ) → k < used → number ws' index k ≡ number ws index k
  part-number k l = same (index + k) (omega arith)

  pub part-row : (k : ℕ) → k < used → row ws' index k ≡ row ws index k
  unfolding row
  part-row k l =
      ap (row_at ws') (part-number k l)
      ∙ row_cong ws' ws (number ws index k * row_words) (number ws index k * row_words)
      (λ j m. same (number ws index k * row_words + j) (omega (arith, σ.numbers.below k l, σ.rows_end)))

  pub part-store : spare ≤ length ws' → Store ws' index used
  part-store l = record {
    rows_end = σ.rows_end;
    index_end = omega arith;
    numbers = record {
      below = λ k m. rw (part-number k m) (σ.numbers.below k m);
      once = λ i j m o e. σ.numbers.once i j m o (sym (part-number i m) ∙ e ∙ part-number j o);
    };
  }

-- a part of the front is a part of the words
pub ascending-front : {text : List ℕ} (ws : List ℕ) (base spare : ℕ) {index used n : ℕ} → spare ≤ base
    → EntriesAscending text (take spare (take base ws)) index used n → EntriesAscending text (take spare ws) index used n
ascending-front ws base spare h ρ = rw (take-take spare base ws h) at ρ

-- ---- the words

-- the words from base on are as they were
pub record Lent (base : ℕ) (words₀ words : List ℕ) : Type 0 where
  pub other : drop base words ≡ drop base words₀
  pub size : length words ≡ length words₀

module _ {base : ℕ} {words₀ words : List ℕ} (λ₀ : Lent base words₀ words) where
  pub other-part : take (length words - base) (drop base words) ≡ drop base words₀
  other-part = take_all (length words - base) (drop base words) (simp length-drop (omega arith)) ∙ λ₀.other

  module _ (front : List ℕ) (h : base ≤ length words₀) (len : length front ≡ length (take base words)) where
    front_size : length front ≡ base
    front_size = len ∙ simp length-take (omega (arith, λ₀.size))

    pub lent-front : take base (front ++ drop base words) ≡ front
    lent-front = take_at front (drop base words) base front_size

    pub lent_back : Lent base words₀ (front ++ drop base words)
    lent_back = record {
      other = drop_at front (drop base words) base front_size ∙ λ₀.other;
      size = simp (length-append, length-drop) (omega (arith, front_size, λ₀.size));
    }

-- ---- words that were lent

-- the words before a place were lent and came back as ys
module _ (words ys : List ℕ) (spare : ℕ) (inside : spare ≤ length words) (len : length ys ≡ length (take spare words)) where
  pub lent-part : take spare (ys ++ drop spare words) ≡ ys
  lent-part = lent-front (record { other = refl; size = refl }) ys inside len

  pub lent_size : length (ys ++ drop spare words) ≡ length words
  lent_size = (lent_back (record { other = refl; size = refl }) ys inside len).size
