-- Bytes searched, trimmed and compared, one by one. Assumes nothing.
use Rattle.std.proofs.Common.{◌≡◌, ℕ, suc, ◌+◌, ◌-◌, ◌<◌, ◌≤◌, Bool, true, false, cond, eqb, List, [], ◌∷◌, ◌++◌, length, get_or, take, drop, sym, refl, ap, ◌∙◌, add-one, arith, drop_of_length-le, drop-cons, take-suc, length-take, eq-eqb, ne_eqb}
use Prim.Native.Nat.{Ordering, compare}
use lib.Dec.{compare_is_eq}
use Rattle.model.specs.Order.{lex}
use Rattle.model.specs.Bytes.{Bytes, before, compare_bytes, same_bytes}
use Rattle.model.specs.Line.{trimmed, before_trimmed}
use Rattle.scan.specs.Scan.{is_end}

-- what is left after i bytes, where there is one more
pub drop-next : {A : Type 0} (d : A) (s : List A) (i : ℕ) → i < length s → drop i s ≡ get_or s i d ∷ drop (i + 1) s
drop-next d s i h = rw (add-one, drop-cons s i d)

pub drop-end : {A : Type 0} (s : List A) (i : ℕ) → length s ≤ i → drop i s ≡ []
drop-end s i h = drop_of_length-le s h

-- a search for b from the front: what is left has the rest of the index
module _ (s : Bytes) (b i : ℕ) (left : i + length (before b (drop i s)) ≡ length (before b s)) where
  pub found_here : i < length s → get_or s i 0 ≡ b → i ≡ length (before b s)
  unfolding before
  found_here h e = omega (arith, rw (drop-next 0 s i h, before, eq-eqb _ _ e) at left)

  pub found_later : i < length s → (get_or s i 0 ≡ b → ⊥) → i + 1 + length (before b (drop (i + 1) s)) ≡ length (before b s)
  unfolding before
  found_later h e = omega (arith, rw (drop-next 0 s i h, before, ne_eqb _ _ e) at left)

  pub found_none : length s ≤ i → i ≡ length (before b s)
  unfolding before
  found_none h = omega (arith, rw (drop-end s i h) at left)

-- the end of a line, from behind
trimmed_snoc : (x : ℕ) (s : Bytes) (b : ℕ) → before_trimmed x (s ++ (b ∷ [])) ≡ x ∷ s ++ (b ∷ [])
unfolding before_trimmed
trimmed_snoc x [] b = refl
trimmed_snoc x (y ∷ s) b = refl

trim_snoc : (s : Bytes) (b : ℕ) (d : Bool) → is_end b ≡ d → trimmed (s ++ (b ∷ [])) ≡ cond d (trimmed s) (s ++ (b ∷ []))
unfolding trimmed before_trimmed is_end
trim_snoc [] b true e = rw e
trim_snoc [] b false e = rw e
trim_snoc (x ∷ s) b true e = rw (trim_snoc s b true e)
trim_snoc (x ∷ s) b false e = rw (trim_snoc s b false e) (trimmed_snoc x s b)

module _ (s : Bytes) (n : ℕ) (within : n ≤ length s) (left : trimmed (take n s) ≡ trimmed s) where
  pub trim_none : n ≤ 0 → take n s ≡ trimmed s
  unfolding trimmed
  trim_none h = let z : n ≡ 0 = omega arith in rw z (rw z at left)

  last : 0 < n → take n s ≡ take (n - 1) s ++ (get_or s (n - 1) 0 ∷ [])
  last h =
      let z : suc (n - 1) ≡ n = omega arith in
      ap (λ (k : ℕ). take k s) (sym z) ∙ take-suc s (n - 1) 0 (omega arith)

  pub trim_stop : (r : Bool) → 0 < n → r ≡ is_end (get_or s (n - 1) 0) → r ≡ false → take n s ≡ trimmed s
  trim_stop r h e f = last h ∙ sym (trim_snoc (take (n - 1) s) (get_or s (n - 1) 0) false (sym e ∙ f)) ∙ ap trimmed (sym (last h)) ∙ left

  pub trim_more : (r : Bool) → 0 < n → r ≡ is_end (get_or s (n - 1) 0) → r ≡ true → trimmed (take (n - 1) s) ≡ trimmed s
  trim_more r h e f = sym (trim_snoc (take (n - 1) s) (get_or s (n - 1) 0) true (sym e ∙ f)) ∙ ap trimmed (sym (last h)) ∙ left

-- sameness of bytes
lex_not : (o rest : Ordering) → compare_is_eq rest ≡ false → compare_is_eq (lex o rest) ≡ false
lex_not Ordering.lt rest e = refl
lex_not Ordering.eq rest e = e
lex_not Ordering.gt rest e = refl

pub same-cons : (x y : ℕ) (a b : Bytes) (d : Bool) → eqb x y ≡ d → same_bytes (x ∷ a) (y ∷ b) ≡ cond d (same_bytes a b) false
unfolding compare_bytes
same-cons x y a b d e = go (compare x y) e
  where
    go : (o : Ordering) → compare_is_eq o ≡ d → compare_is_eq (lex o (compare_bytes a b)) ≡ cond d (compare_is_eq (compare_bytes a b)) false
    go Ordering.lt e = rw (← e)
    go Ordering.eq e = rw (← e)
    go Ordering.gt e = rw (← e)

pub same_length : (a b : Bytes) → (length a ≡ length b → ⊥) → false ≡ same_bytes a b
unfolding compare_bytes
same_length [] [] h = absurd (h refl)
same_length [] (y ∷ b) h = refl
same_length (x ∷ a) [] h = refl
same_length (x ∷ a) (y ∷ b) h = sym (lex_not (compare x y) (compare_bytes a b) (sym (same_length a b (λ e. h (ap suc e)))))

module _ (a b : Bytes) (i : ℕ) (long : length a ≡ length b) (left : same_bytes (drop i a) (drop i b) ≡ same_bytes a b) where
  pub same_differ : i < length a → (get_or a i 0 ≡ get_or b i 0 → ⊥) → false ≡ same_bytes a b
  same_differ h e = sym (same-cons _ _ _ _ false (ne_eqb _ _ e)) ∙ (rw (drop-next 0 a i h, drop-next 0 b i (omega arith)) at left)

  pub same_next : i < length a → get_or a i 0 ≡ get_or b i 0 → same_bytes (drop (i + 1) a) (drop (i + 1) b) ≡ same_bytes a b
  same_next h e = sym (same-cons _ _ _ _ true (eq-eqb _ _ e)) ∙ (rw (drop-next 0 a i h, drop-next 0 b i (omega arith)) at left)

  pub same_end : length a ≤ i → true ≡ same_bytes a b
  unfolding compare_bytes
  same_end h = rw (drop-end a i h, drop-end b i (omega arith)) at left

-- too short to start with t
pub starts_short : (t s : Bytes) → length s < length t → false ≡ same_bytes (take (length t) s) t
starts_short t s h = same_length (take (length t) s) t (λ e. let n = simp length-take at e in omega (arith, n))
