-- The marks of the labs, put one after the other and read back. Assumes nothing.
use Prim.Native.Nat.{ℕ, zero, suc, ◌+◌, ◌*◌, ◌-◌, ◌≤◌, ◌<◌}
use native.Mathlib.Omega.{arith}
use mathlib.Core.Path.{◌≡◌, refl, sym, ap, ◌∙◌}
use mathlib.Core.List.{List, [], ◌∷◌, ◌++◌, map, map-append, append_assoc, append-nil}
use lib.Dec.{eqb}
use lib.ListN.{length, take, drop, get_or, length-append, length-map, length-drop}
use lib.Seq.{get_or-append-add}
use Rattle.ordmap.specs.Gathering.{flat}
use Rattle.ordmap.proofs.Members.{flat_append}
use Rattle.model.specs.declared.Kind.{Kind}
use Rattle.model.specs.Limits.{max_labs}
use Rattle.model.specs.Lists.{from}
use Rattle.model.specs.Bytes.{Bytes}
use Rattle.model.specs.Output.{output_after}
use Rattle.model.specs.Gather.{entry_limit}
use Rattle.text_choice.specs.declared.Mark.{Mark}
use Rattle.text_choice.specs.declared.Mark.TheVariants.{LetIn, OverQuota, RefusedLab}
use Rattle.text_choice.specs.Quotas.{lab_contents, is_let_in, mark_words, mark_of, mark_at}
use Rattle.format.specs.Put.{over}
use Rattle.format.proofs.OverLaws.{to_end, over-more, over_size}
use Rattle.lab_quotas.specs.Labs.{mark_size, marks_to}

-- ---- their words

five_long : (m : Mark) → length (mark_words m) ≡ mark_size
unfolding mark_words
five_long (LetIn n) = refl
five_long (OverQuota n) = refl
five_long (RefusedLab r) = refl

marks-long : (ms : List Mark) → length (flat (map mark_words ms)) ≡ mark_size * length ms
marks-long [] = refl
marks-long (m ∷ ms) = length-append (mark_words m) (flat (map mark_words ms)) ∙ omega (arith, five_long m, marks-long ms)

from-length : (k n : ℕ) → length (from k n) ≡ n
unfolding from
from-length k zero = refl
from-length k (suc n) = ap suc (from-length (suc k) n)

from_last : (k n : ℕ) → from k (suc n) ≡ from k n ++ ((k + n) ∷ [])
unfolding from
from_last k zero = let e : k ≡ k + 0 = omega arith in ap (λ (x : ℕ). x ∷ []) e
from_last k (suc n) = let e : suc k + n ≡ k + suc n = omega arith in ap (λ (l : List ℕ). k ∷ l) (from_last (suc k) n ∙ ap (λ (x : ℕ). from (suc k) n ++ (x ∷ [])) e)

-- the first of five words says whether a lab is let in
state_of_lem : (m : Mark) (rest : List ℕ) → eqb (get_or (mark_words m ++ rest) 0 0) 0 ≡ is_let_in m
unfolding mark_words
state_of_lem (LetIn n) rest = refl
state_of_lem (OverQuota n) rest = refl
state_of_lem (RefusedLab r) rest = refl

-- the j-th mark begins at word 5 j
state_at : (mark : ℕ → Mark) (k n j : ℕ) (rest : List ℕ) → j < n
    → eqb (get_or (flat (map mark_words (map mark (from k n))) ++ rest) (mark_size * j) 0) 0 ≡ is_let_in (mark (k + j))
unfolding from
state_at mark k zero j rest h = absurd (omega arith)
state_at mark k (suc n) zero rest h =
    let here : k + 0 ≡ k = omega arith in
    rw (append_assoc (mark_words (mark k)) (flat (map mark_words (map mark (from (suc k) n)))) rest, here) (state_of_lem (mark k) (flat (map mark_words (map mark (from (suc k) n))) ++ rest))
state_at mark k (suc n) (suc j) rest h =
    let at : mark_size * suc j ≡ length (mark_words (mark k)) + mark_size * j = omega (arith, five_long (mark k)) in
    let next : k + suc j ≡ suc k + j = omega arith in
    rw (
      append_assoc (mark_words (mark k)) (flat (map mark_words (map mark (from (suc k) n)))) rest,
      at,
      get_or-append-add (mark_words (mark k)) (flat (map mark_words (map mark (from (suc k) n))) ++ rest) (mark_size * j) 0,
      next,
    ) (state_at mark (suc k) n j rest (omega arith))

module _ (tag : Kind → Bytes) (words : ℕ) (bundle : Bytes) (labs quotas : List ℕ) where
  abbrev mark : ℕ → Mark
  mark = mark_at tag (entry_limit words) bundle labs quotas

  abbrev words_to : ℕ → List ℕ
  words_to = marks_to tag (entry_limit words) bundle labs quotas

  pub words_long : (n : ℕ) → length (words_to n) ≡ mark_size * n
  words_long n = marks-long (map mark (from 1 n)) ∙ ap (λ (k : ℕ). mark_size * k) (length-map (from 1 n) mark ∙ from-length 1 n)

  words-next : (n : ℕ) → words_to (suc n) ≡ words_to n ++ mark_words (mark (suc n))
  words-next n =
      let last : 1 + n ≡ suc n = omega arith in
      ap (λ (l : List ℕ). flat (map mark_words (map mark l))) (from_last 1 n ∙ ap (λ (x : ℕ). from 1 n ++ (x ∷ [])) last)
      ∙ ap (λ (l : List Mark). flat (map mark_words l)) (map-append mark (from 1 n) (suc n ∷ []))
      ∙ ap flat (map-append mark_words (map mark (from 1 n)) (mark (suc n) ∷ []))
      ∙ flat_append (map mark_words (map mark (from 1 n))) (mark_words (mark (suc n)) ∷ [])
      ∙ ap (λ (l : List ℕ). words_to n ++ l) (append-nil (mark_words (mark (suc n))))

  -- ---- put one after the other

  module _ (old : List ℕ) (room : max_labs * mark_size ≤ length old) where
    pub marks-start : old ≡ over (words_to 0) old
    unfolding output_after from
    marks-start = refl

    module _ (marks : List ℕ) (i : ℕ) (more : i < max_labs) (held : marks ≡ over (words_to i) old) where
      same_size : length marks ≡ length old
      same_size = over_size old marks (words_to i) [] [] 0 held (omega (arith, words_long i))

      pub mark_at_lem : mark_size * i ≤ length marks
      mark_at_lem = omega (arith, same_size)

      pub mark_room : mark_size ≤ length (take (length marks - mark_size * i) (drop (mark_size * i) marks))
      mark_room = rw (to_end marks (mark_size * i), length-drop) (omega (arith, same_size))

      -- the mark of the next lab, gathered in as many words
      module _ (words' : ℕ) (same : words' ≡ words) (m : Mark) (made : m ≡ mark_of tag (entry_limit words') (get_or quotas i 0) (lab_contents bundle labs (i + 1)))
          (ws : List ℕ) (are : ws ≡ mark_words m) (ys : List ℕ) (put : ys ≡ over ws (take (length marks - mark_size * i) (drop (mark_size * i) marks))) where
        next-is : ws ≡ mark_words (mark (suc i))
        next-is =
            let lab : i + 1 ≡ suc i = omega arith in
            let place : i ≡ suc i - 1 = omega arith in
            are ∙ ap mark_words (made ∙ rw (same, lab) (ap (λ (k : ℕ). mark_of tag (entry_limit words) (get_or quotas k 0) (lab_contents bundle labs (suc i))) place))

        pub marks-next : take (mark_size * i) marks ++ (ys ++ drop (length marks - mark_size * i) (drop (mark_size * i) marks)) ≡ over (words_to (i + 1)) old
        marks-next =
            let lab : i + 1 ≡ suc i = omega arith in
            over-more old marks (words_to i) ys ws (mark_size * i) held (sym (words_long i)) put
            ∙ ap (λ (l : List ℕ). over l old) (ap (λ (l : List ℕ). words_to i ++ l) next-is ∙ sym (words-next i) ∙ ap words_to (sym lab))

        pub next_size : length (take (mark_size * i) marks ++ (ys ++ drop (length marks - mark_size * i) (drop (mark_size * i) marks))) ≡ length old
        next_size = ap length marks-next ∙ over_size old (over (words_to (i + 1)) old) (words_to (i + 1)) [] [] 0 refl (omega (arith, words_long (i + 1)))

    pub marks_done : (marks : List ℕ) (i : ℕ) → marks ≡ over (words_to i) old → i ≤ max_labs → max_labs ≤ i → marks ≡ over (words_to max_labs) old
    marks_done marks i held most all = let last : i ≡ max_labs = omega arith in rw last at held

    -- ---- read back

    pub state_is : (marks : List ℕ) → marks ≡ over (words_to max_labs) old → (lab at : ℕ) → 1 ≤ lab → lab ≤ max_labs → at ≡ mark_size * (lab - 1)
        → eqb (get_or marks at 0) 0 ≡ is_let_in (mark lab)
    unfolding output_after
    state_is marks held lab at least most is =
        let its : 1 + (lab - 1) ≡ lab = omega arith in
        rw (held, is) (state_at mark 1 max_labs (lab - 1) (drop (length (words_to max_labs)) old) (omega arith) ∙ ap (λ (l : ℕ). is_let_in (mark l)) its)
