-- Paths that first differ inside a name: the two bytes decide. Assumes nothing.
use mathlib.Core.Path.{◌≡◌, refl, sym, ap, ap₂, ◌∙◌}
use mathlib.Core.Logic.{◌≢◌}
use mathlib.Core.Bool.{Bool, true, false}
use mathlib.Core.List.{List, [], ◌∷◌, ◌++◌, append_assoc}
use Prim.Native.Nat.{ℕ, suc, ◌<◌, compare, Ordering}
use native.Mathlib.Omega.{arith}
use borrow.Author.Tests.{eqb-true, ne_eqb}
use lib.Dec.{eqb}
use lib.ListN.{length, get_or, take, drop}
use lib.Seq.{split_at}
use Rattle.ordmap.specs.Compare.{lex, compare_list}
use Rattle.ordmap.proofs.Orderings.{number-order}
use Rattle.model.specs.Bytes.{Bytes, slash, onto, split, Free, compare_bytes}
use Rattle.model.specs.Path.{Path, name, code, named, leading, components, compare_paths}
use Rattle.compare.specs.Prefixes.{CommonPrefix}
use Rattle.compare.specs.Pieces.{InName}
use Rattle.compare.proofs.CompareLaws.{alike-front}
use Rattle.compare.proofs.PrefixLaws.{one_at}
use Rattle.compare.proofs.SplitLaws.{split_some}
use Rattle.compare.proofs.ComponentLaws.{named-name, first-name}
use Rattle.compare.proofs.PathLaws.{alike_through}

-- ---- the last slash of what both spell alike

data LastCut (t : Bytes) : Type 0 where
  whole : Free slash t → LastCut t
  behind : (xs u : Bytes) → t ≡ xs ++ slash ∷ u → Free slash u → LastCut t

last_cut : (t : Bytes) → LastCut t
last_cut [] = whole tt
last_cut (b ∷ bs) = go (last_cut bs) (eqb b slash) refl
  where
    go : LastCut bs → (t : Bool) → eqb b slash ≡ t → LastCut (b ∷ bs)
    go (behind xs u e f) t q = behind (b ∷ xs) u (ap (λ (l : Bytes). b ∷ l) e) f
    go (whole f) true q = behind [] bs (ap (λ (x : ℕ). x ∷ bs) (eqb-true b slash q)) f
    go (whole f) false q = whole (q, f)

-- ---- the piece that contains a byte

record Piece (u : Bytes) (c : ℕ) (ys : Bytes) : Type 0 where
  end : Bytes
  rest : List Bytes
  is : split slash (u ++ c ∷ ys) ≡ (u ++ c ∷ end) ∷ rest

piece_in : (u : Bytes) (c : ℕ) (ys : Bytes) → Free slash u → c ≢ slash → Piece u c ys
unfolding split onto
piece_in [] c ys f h = go (split slash ys) refl
  where
    go : (l : List Bytes) → split slash ys ≡ l → Piece [] c ys
    go [] e = absurd (split_some slash ys e)
    go (y ∷ l) e = record { end = y; rest = l; is = rw (ne_eqb c slash h, split) (ap (onto c) e) }
piece_in (b ∷ u) c ys f h =
    let π = piece_in u c ys f.1 h in
    record { end = π.end; rest = π.rest; is = rw (f.0, split) (ap (onto b) π.is) }

-- ---- names that first differ at a byte

module _ (u : Bytes) (c d : ℕ) (differ : c ≢ d) where
  -- what comes behind the two bytes does not count
  decides : (rest : Ordering) → lex (compare c d) rest ≡ compare c d
  decides rest = go (compare c d) refl
    where
      go : (o : Ordering) → compare c d ≡ o → lex o rest ≡ o
      go Ordering.lt e = refl
      go Ordering.eq e = absurd (differ (number-order.equal e))
      go Ordering.gt e = refl

  names-first : (y z : Bytes) (p q : Path) → compare_paths (name (u ++ c ∷ y) ∷ p) (name (u ++ d ∷ z) ∷ q) ≡ compare c d
  unfolding compare_paths code compare_bytes
  names-first y z p q =
      ap (λ (o : Ordering). lex o (compare_paths p q))
      (alike-front compare number-order.same u (c ∷ y) (d ∷ z) ∙ decides (compare_list compare y z))
      ∙ decides (compare_paths p q)

  module _ (ys zs : Bytes) (f : Free slash u) (i : InName c) (j : InName d) where
    abbrev x : Piece u c ys
    x = piece_in u c ys f i.no_slash

    abbrev w : Piece u d zs
    w = piece_in u d zs f j.no_slash

    -- behind a slash
    named-differ : compare_paths (named (split slash (u ++ c ∷ ys))) (named (split slash (u ++ d ∷ zs))) ≡ compare c d
    named-differ =
        ap₂ compare_paths (ap named x.is ∙ named-name u c x.end i.no_dot x.rest) (ap named w.is ∙ named-name u d w.end j.no_dot w.rest)
        ∙ names-first x.end w.end (named x.rest) (named w.rest)

    -- where the paths begin
    first-differ : compare_paths (components (u ++ c ∷ ys)) (components (u ++ d ∷ zs)) ≡ compare c d
    unfolding components
    first-differ =
        ap₂ compare_paths
        (ap (λ (l : List Bytes). leading l ++ named l) x.is ∙ first-name u c x.end i.no_dot x.rest)
        (ap (λ (l : List Bytes). leading l ++ named l) w.is ∙ first-name u d w.end j.no_dot w.rest)
        ∙ names-first x.end w.end (named x.rest) (named w.rest)

-- ---- paths

cut_differ : {t : Bytes} → LastCut t → (c d : ℕ) → c ≢ d → (ys zs : Bytes) → InName c → InName d
    → compare_paths (components (t ++ c ∷ ys)) (components (t ++ d ∷ zs)) ≡ compare c d
cut_differ {t} (whole f) c d h ys zs i j = first-differ t c d h ys zs f i j
cut_differ {t} (behind xs u e f) c d h ys zs i j =
    ap₂ (λ (x y : Bytes). compare_paths (components x) (components y)) (through c ys) (through d zs)
    ∙ alike_through xs (u ++ c ∷ ys) (u ++ d ∷ zs)
    ∙ named-differ u c d h ys zs f i j
  where
    through : (b : ℕ) (l : Bytes) → t ++ b ∷ l ≡ xs ++ slash ∷ (u ++ b ∷ l)
    through b l = ap (λ (p : Bytes). p ++ b ∷ l) e ∙ append_assoc xs (slash ∷ u) (b ∷ l)

pub names-differ : {a b : Bytes} {n : ℕ} (o : Ordering) → CommonPrefix 1 a b n → n < length a → n < length b
    → InName (get_or a n 0) → InName (get_or b n 0)
    → o ≡ compare (get_or a n 0) (get_or b n 0) → o ≡ compare_paths (components a) (components b)
names-differ {a} {b} {n} o σ in_a in_b i j e =
    e ∙ sym (ap₂ (λ (x y : Bytes). compare_paths (components x) (components y)) (split_at a n 0 in_a) b_cut
    ∙ cut_differ (last_cut (take n a)) (get_or a n 0) (get_or b n 0) differ (drop (suc n) a) (drop (suc n) b) i j)
  where
    differ : get_or a n 0 ≢ get_or b n 0
    differ q = σ.differ (omega arith) (omega arith) (one_at a n in_a ∙ ap (λ (x : ℕ). x ∷ []) q ∙ sym (one_at b n in_b))

    b_cut : b ≡ take n a ++ get_or b n 0 ∷ drop (suc n) b
    b_cut = split_at b n 0 in_b ∙ ap (λ (xs : Bytes). xs ++ get_or b n 0 ∷ drop (suc n) b) (sym σ.alike)
