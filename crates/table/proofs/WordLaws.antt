-- Laws of a row that is written, and of those that are not. Assumes nothing.
use mathlib.Core.Path.{◌≡◌, refl, ap, ◌∙◌}
use mathlib.Core.Logic.{◌≢◌}
use mathlib.Core.List.{List, [], ◌∷◌}
use Prim.Native.Nat.{ℕ, zero, suc, ◌+◌, ◌*◌, ◌≤◌, ◌<◌}
use native.Mathlib.Nat.{add-zero}
use native.Mathlib.Omega.{arith}
use lib.ListN.{length, set, length-set}
use lib.Seq.{get_or-set_same, get_or-set_other, sets}
use Rattle.table.specs.declared.Row.{Row}
use Rattle.table.specs.Rows.{row_words, word, words_of, row_from, row_at, UnchangedOutside, Written}
use Rattle.table.proofs.PlaceLaws.{by-lt}

-- what is kept outside some words is kept outside more
pub kept_wider : {ws ws' : List ℕ} {lo hi lo' hi' : ℕ} → UnchangedOutside ws ws' lo hi → lo' ≤ lo → hi ≤ hi' → UnchangedOutside ws ws' lo' hi'
kept_wider κ l h = record { below = λ j p. κ.below j (omega arith); above = λ j p. κ.above j (omega arith) }

-- ---- a row that is written

-- a row is its words
pub row_cong : (ws' ws : List ℕ) (p' p : ℕ) → ((k : ℕ) → k < row_words → word ws' (p' + k) ≡ word ws (p + k)) → row_from ws' p' ≡ row_from ws p
row_cong ws' ws p' p h =
    let h0 : word ws' p' ≡ word ws p = simp add-zero at (h 0 (omega arith)) in
    λ i. record {
      test = h0 i;
      test_len = h 1 (omega arith) i;
      path = h 2 (omega arith) i;
      path_len = h 3 (omega arith) i;
      tag = h 4 (omega arith) i;
      k1 = h 5 (omega arith) i;
      k2 = h 6 (omega arith) i;
      k3 = h 7 (omega arith) i;
      count = h 8 (omega arith) i;
    }

-- words stored one after the other, from p on
stored_kept : (vs ws : List ℕ) (p : ℕ) → UnchangedOutside ws (sets ws p vs) p (p + length vs)
stored_kept [] ws p = record { below = λ j l. refl; above = λ j l. refl }
stored_kept (v ∷ vs) ws p =
    let κ = stored_kept vs (set ws p v) (suc p) in
    record {
      below = λ j l. κ.below j (omega arith) ∙ get_or-set_other ws p j v 0 (omega arith);
      above = λ j l. κ.above j (omega arith) ∙ get_or-set_other ws p j v 0 (omega arith);
    }

stored_there : (vs ws : List ℕ) (p k : ℕ) → p + length vs ≤ length ws → k < length vs → word (sets ws p vs) (p + k) ≡ word vs k
stored_there [] ws p k h l = absurd (omega arith)
stored_there (v ∷ vs) ws p zero h l = rw add-zero ((stored_kept vs (set ws p v) (suc p)).below p (omega arith) ∙ get_or-set_same ws p v 0 (omega arith))
stored_there (v ∷ vs) ws p (suc k) h l =
    let e : p + suc k ≡ suc p + k = omega arith in
    rw e (stored_there vs (set ws p v) (suc p) k (simp length-set (omega arith)) (omega arith))

pub written : (ws ws' : List ℕ) (j : ℕ) (r : Row) → j * row_words + row_words ≤ length ws → ws' ≡ sets ws (j * row_words) (words_of r) → Written ws ws' j r
written ws ws' j r h e =
    rw e
    (record {
      there = row_cong (sets ws (j * row_words) (words_of r)) (words_of r) (j * row_words) 0 (λ k l. stored_there (words_of r) ws (j * row_words) k h l ∙ ap (word (words_of r)) (let z : k ≡ 0 + k = omega arith in z));
      kept = stored_kept (words_of r) ws (j * row_words);
    })

-- ---- rows that are not

-- a row of which no word was written to
pub same_row : {ws ws' : List ℕ} {lo hi : ℕ} → UnchangedOutside ws ws' lo hi → (j : ℕ) → j * row_words + row_words ≤ lo → row_at ws' j ≡ row_at ws j
same_row {ws} {ws'} κ j h = row_cong ws' ws (j * row_words) (j * row_words) (λ k l. κ.below (j * row_words + k) (omega arith))

pub other_row : {ws ws' : List ℕ} {i : ℕ} {r : Row} → Written ws ws' i r → (j : ℕ) → j ≢ i → row_at ws' j ≡ row_at ws j
other_row {ws} {ws'} {i} w j n =
    row_cong ws' ws (j * row_words) (j * row_words) (λ k l. by-lt j i
    (λ h. w.kept.below (j * row_words + k) (omega arith))
    (λ h. w.kept.above (j * row_words + k) (omega arith)))
