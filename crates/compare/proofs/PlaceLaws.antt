-- The components of a path from a place on, piece by piece. Assumes nothing.
use mathlib.Core.Path.{◌≡◌, refl, sym, ap, ◌∙◌}
use mathlib.Core.Logic.{◌≢◌}
use mathlib.Core.Bool.{Bool, true, false}
use mathlib.Core.List.{List, [], ◌∷◌, ◌++◌}
use Prim.Native.Nat.{ℕ, zero, suc, ◌+◌, ◌≤◌, ◌<◌}
use native.Mathlib.Numerals.{add-one}
use native.Mathlib.Nat.{sub-zero}
use native.Mathlib.Omega.{arith}
use borrow.Author.Tests.{ltb-true, ltb-false, lt-ltb, le-ltb}
use lib.Dec.{ltb}
use lib.ListN.{length, drop}
use lib.Seq.{length-take-le}
use Rattle.std.specs.Prelude.{if◌then◌else◌, Some, None}
use Rattle.model.specs.Bytes.{Bytes, slash, split}
use Rattle.model.specs.Path.{Path, named, leading, components}
use Rattle.compare.specs.Pieces.{piece, PieceEnd, component_of, rank_of, is_component, pieces_past, components_from, found, NextComponent}
use Rattle.compare.proofs.SplitLaws.{split_some, pieces_at}
use Rattle.compare.proofs.ComponentLaws.{named-piece, first_piece}

-- ---- whether a piece is a component

pub first-is : (path : Bytes) (p e : ℕ) → p ≡ 0 → ltb 0 (length path) ≡ is_component path p e
first-is path zero e h = refl
first-is path (suc p) e h = absurd (omega arith)

pub later_is : (path : Bytes) (p e k : ℕ) → p ≢ 0 → k ≡ rank_of (component_of (piece path p e)) → ltb 1 k ≡ is_component path p e
later_is path zero e k h q = absurd (h refl)
later_is path (suc p) e k h q = ap (ltb 1) q

-- ---- the components from a place on

behind : (path : Bytes) (e : ℕ) → components_from path (e + 1) ≡ named (pieces_past path e)
behind path e = rw add-one

past_end : (path : Bytes) (p : ℕ) → length path < p → components_from path p ≡ []
unfolding named
past_end path zero h = absurd (omega arith)
past_end path (suc p) h = let e : ltb p (length path) ≡ false = le-ltb p (length path) (omega arith) in rw e

pub past_slash : (path : Bytes) (p : ℕ) → p < length path → components_from path (suc p) ≡ named (split slash (drop (suc p) path))
past_slash path p h = ap (λ (t : Bool). named (if t then split slash (drop (suc p) path) else [])) (lt-ltb p (length path) h)

later_pieces : (path : Bytes) (p e : ℕ) → PieceEnd path (suc p) e
    → components_from path (suc p)
    ≡ (if is_component path (suc p) e then component_of (piece path (suc p) e) ∷ named (pieces_past path e) else named (pieces_past path e))
later_pieces path p e π =
    past_slash path p (omega (arith, π.from, π.most)) ∙ ap named (pieces_at π) ∙ named-piece (piece path (suc p) e) (pieces_past path e)

first_pieces : (path : Bytes) (e : ℕ) → PieceEnd path 0 e → 0 < length path
    → components path ≡ component_of (piece path 0 e) ∷ named (pieces_past path e)
unfolding components
first_pieces path e π h =
    ap (λ (l : List Bytes). leading l ++ named l) (pieces_at π) ∙ first_piece (piece path 0 e) (pieces_past path e) more
  where
    more : piece path 0 e ≡ [] → pieces_past path e ≢ []
    more q =
        let n : length (piece path 0 e) ≡ e = rw sub-zero (length-take-le e path π.most) in
        let z : length (piece path 0 e) ≡ 0 = ap length q in
        let t : ltb e (length path) ≡ true = lt-ltb e (length path) (omega arith) in
        rw t (split_some slash (drop (suc e) path))

no_pieces : (path : Bytes) (e : ℕ) → length path ≤ 0 → components path ≡ components_from path (e + 1)
unfolding components leading split named
no_pieces [] e h = sym (behind [] e ∙ ap (λ (t : Bool). named (if t then split slash [] else [])) (le-ltb e 0 (omega arith)))
no_pieces (b ∷ bs) e h = absurd (omega arith)

taken : (path : Bytes) (p e : ℕ) → PieceEnd path p e → is_component path p e ≡ true → components_from path p ≡ found path (Some (record { start = p; end = e }))
taken path zero e π t =
    first_pieces path e π (ltb-true 0 (length path) t) ∙ ap (λ (l : Path). component_of (piece path 0 e) ∷ l) (sym (behind path e))
taken path (suc p) e π t = later_pieces path p e π ∙ rw t (ap (λ (l : Path). component_of (piece path (suc p) e) ∷ l) (sym (behind path e)))

skipped : (path : Bytes) (p e : ℕ) → PieceEnd path p e → is_component path p e ≡ false → components_from path p ≡ components_from path (e + 1)
skipped path zero e π t = no_pieces path e (ltb-false 0 (length path) t)
skipped path (suc p) e π t = later_pieces path p e π ∙ rw t (sym (behind path e))

-- ---- the next component

-- no component from `from` up to p
pub record Passed (path : Bytes) (from p : ℕ) : Type 0 where
  pub most : from ≤ p
  pub is : components_from path from ≡ components_from path p

pub passed_start : (path : Bytes) (from : ℕ) → Passed path from from
passed_start path from = record { most = omega arith; is = refl }

module _ {path : Bytes} {from p : ℕ} (ρ : Passed path from p) where
  pub passed-step : (e : ℕ) → PieceEnd path p e → (t : Bool) → t ≡ is_component path p e → t ≡ false → Passed path from (e + 1)
  passed-step e π t h f = record { most = omega (arith, ρ.most, π.from); is = ρ.is ∙ skipped path p e π (sym h ∙ f) }

  pub passed-found : (e : ℕ) → PieceEnd path p e → (t : Bool) → t ≡ is_component path p e → t ≡ true → NextComponent path from (Some (record { start = p; end = e }))
  passed-found e π t h f = record { is = ρ.is ∙ taken path p e π (sym h ∙ f); within = (ρ.most, π.from, π.most) }

  pub passed-all : length path < p → NextComponent path from None
  passed-all h = record { is = ρ.is ∙ past_end path p h; within = tt }
