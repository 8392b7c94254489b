-- A path cut at its slashes: whole, through a slash, and at the piece that a place is in. Assumes nothing.
use mathlib.Core.Path.{◌≡◌, refl, sym, ap, ◌∙◌}
use mathlib.Core.Logic.{◌≢◌}
use mathlib.Core.Bool.{Bool, true, false}
use mathlib.Core.List.{List, [], ◌∷◌, ◌++◌, append-nil}
use Prim.Native.Nat.{ℕ, suc, ◌+◌, ◌-◌, ◌≤◌, ◌<◌}
use native.Mathlib.Omega.{arith}
use borrow.Author.Tests.{leb-true, leb-false, ltb-true, ltb-false, eq-eqb, ne_eqb}
use lib.Dec.{eqb, leb, ltb}
use lib.ListN.{length, get_or, take, drop, take-append-drop, length-drop, drop_of_length-le}
use lib.Seq.{take-suc, drop-cons, drop-drop, get_or-drop}
use Rattle.ordmap.proofs.Results.{impossible}
use Rattle.std.specs.Prelude.{if◌then◌else◌}
use Rattle.model.specs.Bytes.{Bytes, slash, onto, split, Free}
use Rattle.model.proofs.ByteLaws.{free-append}
use Rattle.model.proofs.TextLaws.{split_seam}
use Rattle.compare.specs.Pieces.{piece, PieceEnd, NameStart, pieces_past}

-- ---- whole

onto_some : (b : ℕ) (pieces : List Bytes) → onto b pieces ≢ []
unfolding onto
onto_some b [] e = impossible cc
onto_some b (p ∷ ps) e = impossible cc

-- there is always a piece
pub split_some : (sep : ℕ) (xs : Bytes) → split sep xs ≢ []
unfolding split
split_some sep [] e = impossible cc
split_some sep (b ∷ bs) e = go (eqb b sep) e
  where
    go : (t : Bool) → (if t then [] ∷ split sep bs else onto b (split sep bs)) ≢ []
    go true e = impossible cc
    go false e = onto_some b (split sep bs) e

pub split-free : (sep : ℕ) (xs : Bytes) → Free sep xs → split sep xs ≡ xs ∷ []
unfolding split onto
split-free sep [] f = refl
split-free sep (b ∷ bs) f = rw (f.0, split) (ap (onto b) (split-free sep bs f.1))

-- ---- through a separator

onto-append : (b : ℕ) (l m : List Bytes) → l ≢ [] → onto b (l ++ m) ≡ onto b l ++ m
unfolding onto
onto-append b [] m h = absurd (h refl)
onto-append b (p ∷ ps) m h = refl

pub split_through : (sep : ℕ) (xs ys : Bytes) → split sep (xs ++ sep ∷ ys) ≡ split sep xs ++ split sep ys
unfolding split
split_through sep [] ys = rw (eq-eqb sep sep refl, split)
split_through sep (b ∷ bs) ys = go (eqb b sep) (split_through sep bs ys)
  where
    go : (t : Bool) → split sep (bs ++ sep ∷ ys) ≡ split sep bs ++ split sep ys
        → (if t then [] ∷ split sep (bs ++ sep ∷ ys) else onto b (split sep (bs ++ sep ∷ ys)))
        ≡ (if t then [] ∷ split sep bs else onto b (split sep bs)) ++ split sep ys
    go true ih = ap (λ (l : List Bytes). [] ∷ l) ih
    go false ih = ap (onto b) ih ∙ onto-append b (split sep bs) (split sep ys) (split_some sep bs)

-- ---- at a place

-- no slash from p up to i
pub record Cutting (path : Bytes) (p i : ℕ) : Type 0 where
  pub from : p ≤ i
  pub most : i ≤ length path
  pub free : Free slash (piece path p i)

pub cutting_start : (path : Bytes) (p : ℕ) → p ≤ length path → Cutting path p p
cutting_start path p h = record { from = omega arith; most = h; free = let e : p - p ≡ 0 = omega arith in rw e tt }

module _ {path : Bytes} {p i : ℕ} (κ : Cutting path p i) where
  pub cutting_step : i < length path → get_or path i 0 ≢ slash → Cutting path p (i + 1)
  cutting_step h n = record {
    from = omega (arith, κ.from);
    most = omega arith;
    free = rw more (free-append slash (piece path p i) (get_or path i 0 ∷ []) κ.free (ne_eqb (get_or path i 0) slash n, tt));
  }
    where
      more : piece path p (i + 1) ≡ piece path p i ++ (get_or path i 0 ∷ [])
      more =
          let q : i + 1 - p ≡ suc (i - p) = omega (arith, κ.from) in
          let r : p + (i - p) ≡ i = omega (arith, κ.from) in
          ap (λ (k : ℕ). take k (drop p path)) q ∙ take-suc (drop p path) (i - p) 0 (rw length-drop (omega (arith, κ.from)))
          ∙ ap (λ (b : ℕ). piece path p i ++ (b ∷ [])) (get_or-drop p path (i - p) 0 ∙ ap (λ (j : ℕ). get_or path j 0) r)

  pub cutting_slash : get_or path i 0 ≡ slash → PieceEnd path p i
  cutting_slash e = record { from = κ.from; most = κ.most; free = κ.free; stops = λ h. e }

  pub cutting_end : length path ≤ i → PieceEnd path p i
  cutting_end h = record { from = κ.from; most = κ.most; free = κ.free; stops = λ l. absurd (omega arith) }

pub pieces_at : {path : Bytes} {p e : ℕ} → PieceEnd path p e → split slash (drop p path) ≡ piece path p e ∷ pieces_past path e
pieces_at {path} {p} {e} π = ap (split slash) parted ∙ go (ltb e (length path)) refl
  where
    parted : drop p path ≡ piece path p e ++ drop e path
    parted =
        let q : p + (e - p) ≡ e = omega (arith, π.from) in
        sym (take-append-drop (e - p) (drop p path))
        ∙ ap (λ (t : Bytes). piece path p e ++ t) (drop-drop (e - p) p path ∙ ap (λ (k : ℕ). drop k path) q)

    go : (t : Bool) → ltb e (length path) ≡ t
        → split slash (piece path p e ++ drop e path) ≡ piece path p e ∷ (if t then split slash (drop (suc e) path) else [])
    go true h =
        let l : e < length path = ltb-true e (length path) h in
        ap (λ (t : Bytes). split slash (piece path p e ++ t)) (drop-cons path e 0 l ∙ ap (λ (b : ℕ). b ∷ drop (suc e) path) (π.stops l))
        ∙ split_seam slash (piece path p e) (drop (suc e) path) π.free
    go false h =
        ap (λ (t : Bytes). split slash (piece path p e ++ t)) (drop_of_length-le path (ltb-false e (length path) h))
        ∙ ap (split slash) (append-nil (piece path p e)) ∙ split-free slash (piece path p e) π.free

-- ---- the last slash

-- no slash from i up to n
pub record Back (path : Bytes) (n i : ℕ) : Type 0 where
  pub most : i ≤ n
  pub last : (k : ℕ) → i ≤ k → k < n → get_or path k 0 ≢ slash

pub back_start : (path : Bytes) (n : ℕ) → Back path n n
back_start path n = record { most = omega arith; last = λ k h l. absurd (omega arith) }

module _ {path : Bytes} {n i : ℕ} (β : Back path n i) where
  pub back_slash : get_or path (i - 1) 0 ≡ slash → NameStart path n i
  back_slash e = record { most = β.most; slashed = λ h. e; last = β.last }

  pub back_step : 0 < i → get_or path (i - 1) 0 ≢ slash → Back path n (i - 1)
  back_step h d = record { most = omega (arith, β.most); last = λ k l m. go k l m (leb i k) refl }
    where
      go : (k : ℕ) → i - 1 ≤ k → k < n → (t : Bool) → leb i k ≡ t → get_or path k 0 ≢ slash
      go k l m true t = β.last k (leb-true i k t) m
      go k l m false t = let q : k ≡ i - 1 = omega (arith, leb-false i k t) in rw q d

  pub back_none : i ≤ 0 → NameStart path n 0
  back_none h = record { most = omega arith; slashed = λ l. absurd (omega arith); last = λ k l m. β.last k (omega arith) m }
