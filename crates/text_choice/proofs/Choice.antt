-- Labelled texts in two orders, chosen by tests of the labels that agree, are the same texts in two orders. Assumes nothing.
use Prim.Native.Nat.{ℕ, zero, suc}
use mathlib.Core.Path.{◌≡◌, refl, sym, ap, ◌∙◌}
use mathlib.Core.Bool.{Bool, true, false}
use mathlib.Core.List.Permᴰ.{map as p-map}
use mathlib.Core.List.Permᴰ.{refl as p-refl}
use mathlib.Core.List.Permᴰ.{symm as p-symm}
use mathlib.Core.List.{List, ◌∷◌, map, Permᴰ as Perm}
use mathlib.Core.List.Permᴰ.{cons as p-cons}
use mathlib.Core.List.Permᴰ.{nil as p-nil}
use mathlib.Core.List.Permᴰ.{swap as p-swap}
use mathlib.Core.List.Permᴰ.{trans as p-trans}
use Rattle.ordmap.specs.Gathering.{times, Same}
use Rattle.ordmap.proofs.Perms.{perm_member, perm_of_times, perm_times}
use Rattle.std.specs.Prelude.{if◌then◌else◌}
use Rattle.model.specs.Lists.{filter, all, from}
use Rattle.model.specs.Bytes.{Bytes, same_bytes}
use Rattle.model.specs.Bundle.{Text, contents}
use Rattle.model.specs.Joined.{SameTexts}
use Rattle.model.proofs.ListLaws.{and_left, and_right, all-each, each_all}
use Rattle.model.proofs.KeyOrder.{bytes_same}
use Rattle.text_choice.specs.Choice.{choose_texts, labelled, same_labelled, SameLabelled}
use Rattle.text_choice.proofs.Positions.{bool_both}

-- ---- permutations

pub perm_select : {A : Type 0} (test : A → Bool) {l m : List A} → Perm l m → Perm (filter test l) (filter test m)
unfolding filter
perm_select test p-nil = p-nil
perm_select test (p-cons {a = a} {l₁ = l} {l₂ = m} e d) = rw (← e) (go (test a) (perm_select test d))
  where
    go : (t : Bool) → Perm (filter test l) (filter test m) → Perm (if t then a ∷ filter test l else filter test l) (if t then a ∷ filter test m else filter test m)
    go true d = p-cons refl d
    go false d = d
perm_select test (p-swap {a = a} {b = b} {l = l} e f) = rw (← e, ← f) (go (test a) (test b) (filter test l))
  where
    go : (s t : Bool) (o : List _) → Perm (if s then a ∷ (if t then b ∷ o else o) else (if t then b ∷ o else o)) (if t then b ∷ (if s then a ∷ o else o) else (if s then a ∷ o else o))
    go true true o = p-swap refl refl
    go true false o = p-refl (a ∷ o)
    go false true o = p-refl (b ∷ o)
    go false false o = p-refl o
perm_select test (p-trans c d) = p-trans (perm_select test c) (perm_select test d)

pub perm_all : {A : Type 0} (test : A → Bool) {l m : List A} → Perm l m → all test l ≡ all test m
perm_all test {l} {m} d =
    bool_both (all test l) (all test m)
    (λ h. each_all test m (λ a i. all-each test l h a (perm_member (p-symm d) i)))
    (λ h. each_all test l (λ a i. all-each test m h a (perm_member d i)))

-- ---- labels

module _ {L : Type 0} (same : L → L → Bool) (S : Same same) where
  labelled-same : Same (same_labelled same)
  labelled-same =
      record {
        same_refl = λ a. rw (S.same_refl a.0, bytes_same.same_refl a.1);
        same_eq = λ a b h. (λ i. (
          S.same_eq a.0 b.0 (and_left (same a.0 b.0) (same_bytes a.1 b.1) h) i,
          bytes_same.same_eq a.1 b.1 (and_right (same a.0 b.0) (same_bytes a.1 b.1) h) i,
        ));
      }

  labelled_perm : (a b : List (L × Bytes)) → SameLabelled same a b → Perm a b
  labelled_perm a b s = perm_of_times (same_labelled same) labelled-same a b s

  module _ (label_at : ℕ → L) (text_at : ℕ → Text) where
    -- what is chosen, by labels and contents alone
    chosen-labelled : (test : L → Bool) (a n : ℕ)
        → contents (choose_texts (λ i. test (label_at i)) text_at a n)
        ≡ map (λ (p : L × Bytes). p.1) (filter (λ p. test p.0) (map (λ i. (label_at i, (text_at i).bytes)) (from a n)))
    unfolding choose_texts filter from
    chosen-labelled test a zero = refl
    chosen-labelled test a (suc n) = go (test (label_at a)) (chosen-labelled test (suc a) n)
      where
        pairs : List (L × Bytes)
        pairs = filter (λ p. test p.0) (map (λ i. (label_at i, (text_at i).bytes)) (from (suc a) n))

        chosen : List ℕ
        chosen = filter (λ i. test (label_at i)) (from (suc a) n)

        go : (t : Bool) → contents (map text_at chosen) ≡ map (λ (p : L × Bytes). p.1) pairs
            → contents (map text_at (if t then a ∷ chosen else chosen))
            ≡ map (λ (p : L × Bytes). p.1) (if t then (label_at a, (text_at a).bytes) ∷ pairs else pairs)
        go true e = ap (λ (l : List Bytes). (text_at a).bytes ∷ l) e
        go false e = e

    labels_labelled : (a n : ℕ) → map label_at (from a n) ≡ map (λ (p : L × Bytes). p.0) (map (λ i. (label_at i, (text_at i).bytes)) (from a n))
    unfolding from
    labels_labelled a zero = refl
    labels_labelled a (suc n) = ap (λ (l : List L). label_at a ∷ l) (labels_labelled (suc a) n)

  module _ (label_at labelAt' : ℕ → L) (text_at textAt' : ℕ → Text) (n n' : ℕ)
      (s : SameLabelled same (labelled label_at text_at n) (labelled labelAt' textAt' n')) where
    d : Perm (labelled label_at text_at n) (labelled labelAt' textAt' n')
    d = labelled_perm (labelled label_at text_at n) (labelled labelAt' textAt' n') s

    -- LABELS are the same in two orders
    pub labels_perm : Perm (map label_at (from 0 n)) (map labelAt' (from 0 n'))
    labels_perm = rw (labels_labelled label_at text_at 0 n, labels_labelled labelAt' textAt' 0 n') (p-map (λ (p : L × Bytes). p.0) d)

    -- CHOSEN: and so are the chosen texts
    pub chosen-same : (test test' : L → Bool) → ((l : L) → test l ≡ test' l)
        → SameTexts (choose_texts (λ i. test (label_at i)) text_at 0 n) (choose_texts (λ i. test' (labelAt' i)) textAt' 0 n')
    chosen-same test test' h bytes =
        ap (times same_bytes bytes) (chosen-labelled label_at text_at test 0 n)
        ∙ perm_times same_bytes bytes (p-map (λ (p : L × Bytes). p.1) (perm_select (λ p. test p.0) d))
        ∙ (λ i. times same_bytes bytes (map (λ (p : L × Bytes). p.1) (filter (λ p. h p.0 i) (labelled labelAt' textAt' n'))))
        ∙ ap (times same_bytes bytes) (sym (chosen-labelled labelAt' textAt' test' 0 n'))
