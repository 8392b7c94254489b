-- The columns of a line, put piece by piece. Assumes nothing.
use Prim.Native.Nat.{ℕ, zero, suc, ◌+◌, ◌*◌, ◌-◌, ◌/◌, ◌^◌, ◌≤◌, ◌<◌}
use native.Mathlib.Omega.{arith}
use mathlib.Core.Path.{◌≡◌, refl, sym, ap, ◌∙◌}
use mathlib.Core.Logic.{◌≢◌}
use mathlib.Core.Bool.{Bool}
use mathlib.Core.List.{[], ◌∷◌, ◌++◌, append_assoc}
use mathlib.Core.Option.{Option, none, some}
use lib.ListN.{length, take, drop, length-append, length-drop}
use lib.Seq.{take_at}
use mir.Val.{Fits}
use mir.Syntax.{w64}
use Rattle.model.specs.Bytes.{Bytes, slash}
use Rattle.model.specs.Number.{decimal}
use Rattle.model.specs.Output.{written, output_after}
use Rattle.format.specs.Put.{put_len, over}
use Rattle.format.proofs.DecimalLaws.{decimal-most}
use Rattle.format.proofs.OverLaws.{second_at, second-room, second_fits, second_len, second-out, over_size, put_over, put_len_lem, to_end}
use Rattle.print_rows.specs.Emit.{Emitted}
use Rattle.print_rows.proofs.EmitLaws.{emitted_as}
use Rattle.model_totals.specs.declared.Ratio.{Ratio}
use Rattle.model_totals.specs.declared.Totals.{Totals}
use Rattle.model_totals.specs.Totals.{blank, share, print_share, print_ratio, columns}
use Rattle.print_totals.specs.Counting.{max_columns, ratio_column, ratio_columns, line_columns}

-- ---- the share

module _ (r : Ratio) (old : Bytes) (room : 21 ≤ length old) where
  -- nothing was found
  module _ (None-found : r.found ≡ 0) where
    dash : print_share (share r) ≡ 45 ∷ []
    unfolding share
    dash = rw None-found

    pub dash_len : (n : ℕ) → n ≡ put_len (written (length old) (32 ∷ 45 ∷ [])) → n ≡ 1 + length (print_share (share r))
    dash_len n e = omega (arith, put_len_lem (32 ∷ 45 ∷ []) old (omega arith) n e, ap length dash)

    pub dash_out : (out : Bytes) → out ≡ output_after (written (length old) (32 ∷ 45 ∷ [])) old → out ≡ over (blank ∷ print_share (share r)) old
    dash_out out o = put_over (32 ∷ 45 ∷ []) old (omega arith) out o ∙ ap (λ (s : Bytes). over (32 ∷ s) old) (sym dash)

  -- some were
  module _ (some-found : r.found ≢ 0) where
    tenths : print_share (share r) ≡ decimal (1000 * r.hit / r.found)
    unfolding share
    tenths = go r.found some-found
      where
        go : (found : ℕ) → found ≢ 0 → print_share (share (record { hit = r.hit; found = found })) ≡ decimal (1000 * r.hit / found)
        go zero h = absurd (h refl)
        go (suc n) h = refl

    pub tenths_room : 1 + length (decimal (1000 * r.hit / r.found)) ≤ length old
    tenths_room = omega (arith, decimal-most (1000 * r.hit / r.found))

    pub tenths_len : (n : ℕ) → n ≡ 1 + length (decimal (1000 * r.hit / r.found)) → n ≡ 1 + length (print_share (share r))
    tenths_len n e = rw tenths e

    pub tenths_out : (out : Bytes) → out ≡ over (32 ∷ decimal (1000 * r.hit / r.found)) old → out ≡ over (blank ∷ print_share (share r)) old
    tenths_out out o = rw tenths o

share_most : (o : Option ℕ) → length (print_share o) ≤ 20
share_most none = omega arith
share_most (some tenths) = decimal-most tenths

ratio_most : (r : Ratio) → length (ratio_column r) ≤ 42
ratio_most r = omega (arith, length-append (blank ∷ decimal r.hit) (slash ∷ decimal r.found), decimal-most r.hit, decimal-most r.found)

lines_most : (r : Ratio) → length (line_columns r) ≤ 63
lines_most r = omega (arith, length-append (ratio_column r) (blank ∷ print_share (share r)), ratio_most r, share_most (share r))

-- ---- a piece behind another

-- `back` is put behind `front`
module _ (front back old : Bytes) (room : length (front ++ back) ≤ length old) (out : Bytes) (at : ℕ) (up_to : at ≡ length front) (held : out ≡ over front old) where
  piece_at : at ≤ length out
  piece_at = second_at (front ++ back) front back old refl room out at held up_to

  piece-room : length back ≤ length (take (length out - at) (drop at out))
  piece-room = second-room (front ++ back) front back old refl room out at held up_to

  module _ (n : ℕ) (more : n ≡ length back) where
    piece-fits : length old < 2 ^ 64 → Fits w64 (at + n)
    piece-fits h = second_fits (front ++ back) front back old refl room out at held up_to n more h

    piece_len : at + n ≡ length (front ++ back)
    piece_len = second_len (front ++ back) front back old refl room out at held up_to n more

  piece-out : (ys : Bytes) → ys ≡ over back (take (length out - at) (drop at out))
      → take at out ++ (ys ++ drop (length out - at) (drop at out)) ≡ over (front ++ back) old
  piece-out ys y = second-out (front ++ back) front back old refl room out at held up_to ys y

-- as much room as before, but for what is in front
rest-room : (front old out : Bytes) (at k : ℕ) → at ≡ length front → out ≡ over front old → length front + k ≤ length old
    → k ≤ length (take (length out - at) (drop at out))
rest-room front old out at k e o h =
    piece-long (omega (arith, over_size old out front [] [] at o (omega arith)))
  where
    piece-long : at + k ≤ length out → k ≤ length (take (length out - at) (drop at out))
    piece-long l = rw (to_end out at) (omega (arith, length-drop at out))

-- ---- the lines' columns

module _ (r : Ratio) (old : Bytes) (room : 63 ≤ length old) where
  abbrev back : Bytes
  back = blank ∷ print_share (share r)

  pub ratio_fits : length (ratio_column r) ≤ length old
  ratio_fits = omega (arith, ratio_most r)

  both_fit : length (line_columns r) ≤ length old
  both_fit = omega (arith, lines_most r)

  module _ (out : Bytes) (at : ℕ) (up_to : at ≡ length (ratio_column r)) (held : out ≡ over (ratio_column r) old) where
    pub share_at : at ≤ length out
    share_at = piece_at (ratio_column r) back old both_fit out at up_to held

    pub share-room : 21 ≤ length (take (length out - at) (drop at out))
    share-room = rest-room (ratio_column r) old out at 21 up_to held (omega (arith, ratio_most r))

    module _ (n : ℕ) (more : n ≡ 1 + length (print_share (share r))) where
      share-ends : n ≡ length back
      share-ends = omega (arith, more)

      pub share-fits : length old < 2 ^ 64 → Fits w64 (at + n)
      share-fits h = piece-fits (ratio_column r) back old both_fit out at up_to held n share-ends h

      pub share_len : at + n ≡ length (line_columns r)
      share_len = piece_len (ratio_column r) back old both_fit out at up_to held n share-ends

    pub share-out : (ys : Bytes) → ys ≡ over (blank ∷ print_share (share r)) (take (length out - at) (drop at out))
        → take at out ++ (ys ++ drop (length out - at) (drop at out)) ≡ over (line_columns r) old
    share-out ys y = piece-out (ratio_column r) back old both_fit out at up_to held ys y

-- ---- two columns of hit and found

ratios_most : (a b : Ratio) → length (ratio_columns a b) ≤ 84
ratios_most a b = omega (arith, length-append (ratio_column a) (ratio_column b), ratio_most a, ratio_most b)

module _ (a b : Ratio) (old : Bytes) (room : 84 ≤ length old) where
  pub first_fits : length (ratio_column a) ≤ length old
  first_fits = omega (arith, ratio_most a)

  both_ratios : length (ratio_columns a b) ≤ length old
  both_ratios = omega (arith, ratios_most a b)

  module _ (out : Bytes) (at : ℕ) (up_to : at ≡ length (ratio_column a)) (held : out ≡ over (ratio_column a) old) where
    pub ratio_at : at ≤ length out
    ratio_at = piece_at (ratio_column a) (ratio_column b) old both_ratios out at up_to held

    pub ratio_room : length (ratio_column b) ≤ length (take (length out - at) (drop at out))
    ratio_room = piece-room (ratio_column a) (ratio_column b) old both_ratios out at up_to held

    module _ (n : ℕ) (more : n ≡ length (ratio_column b)) where
      pub ratio_ends : length old < 2 ^ 64 → Fits w64 (at + n)
      ratio_ends h = piece-fits (ratio_column a) (ratio_column b) old both_ratios out at up_to held n more h

      pub ratio_len : at + n ≡ length (ratio_columns a b)
      ratio_len = piece_len (ratio_column a) (ratio_column b) old both_ratios out at up_to held n more

    pub ratio_out : (ys : Bytes) → ys ≡ over (ratio_column b) (take (length out - at) (drop at out))
        → take at out ++ (ys ++ drop (length out - at) (drop at out)) ≡ over (ratio_columns a b) old
    ratio_out ys y = piece-out (ratio_column a) (ratio_column b) old both_ratios out at up_to held ys y

-- ---- all columns

in_a_row : (p q a b c d e f s : Bytes)
    → (((p ++ a) ++ (q ++ b)) ++ ((p ++ c) ++ (q ++ d))) ++ (((p ++ e) ++ (q ++ f)) ++ (p ++ s))
    ≡ p ++ (a ++ (q ++ b) ++ (p ++ (c ++ (q ++ d))) ++ (p ++ (e ++ (q ++ f))) ++ (p ++ s))
in_a_row p q a b c d e f s = simp append_assoc

module _ (t : Totals) where
  abbrev front : Bytes
  front = ratio_columns t.functions t.branches

  abbrev last : Bytes
  last = line_columns t.lines

  columns-are : front ++ last ≡ blank ∷ columns t
  unfolding columns print_ratio
  columns-are =
      in_a_row (blank ∷ []) (slash ∷ []) (decimal t.functions.hit) (decimal t.functions.found) (decimal t.branches.hit) (decimal t.branches.found)
      (decimal t.lines.hit) (decimal t.lines.found) (print_share (share t.lines))

  module _ (old : Bytes) (room : max_columns ≤ length old) where
    all_fit : length (front ++ last) ≤ length old
    all_fit = omega (arith, length-append front last, ratios_most t.functions t.branches, lines_most t.lines)

    module _ (out : Bytes) (at : ℕ) (up_to : at ≡ length front) (held : out ≡ over front old) where
      pub lines_at : at ≤ length out
      lines_at = piece_at front last old all_fit out at up_to held

      pub lines-room : 63 ≤ length (take (length out - at) (drop at out))
      lines-room = rest-room front old out at 63 up_to held (omega (arith, ratios_most t.functions t.branches))

      module _ (n : ℕ) (more : n ≡ length last) where
        pub lines_fit : length old < 2 ^ 64 → Fits w64 (at + n)
        lines_fit h = piece-fits front last old all_fit out at up_to held n more h

        pub columns_len : at + n ≡ 1 + length (columns t)
        columns_len = omega (arith, piece_len front last old all_fit out at up_to held n more, ap length columns-are)

      pub columns-out : (ys : Bytes) → ys ≡ over last (take (length out - at) (drop at out))
          → take at out ++ (ys ++ drop (length out - at) (drop at out)) ≡ over (blank ∷ columns t) old
      columns-out ys y = piece-out front last old all_fit out at up_to held ys y ∙ ap (λ (s : Bytes). over s old) columns-are

  -- what is put, without the blank before it
  columns-slice : (old out : Bytes) (n : ℕ) → n ≡ 1 + length (columns t) → out ≡ over (blank ∷ columns t) old → take (n - 1) (drop 1 out) ≡ columns t
  unfolding output_after
  columns-slice old out n e o = rw o (take_at (columns t) (drop (length (blank ∷ columns t)) old) (n - 1) (omega arith))

  pub columns-within : (old out : Bytes) (n : ℕ) → max_columns ≤ length old → n ≡ 1 + length (columns t) → out ≡ over (blank ∷ columns t) old → n ≤ length out
  columns-within old out n room e o =
      omega (arith, over_size old out (blank ∷ columns t) [] [] n o (omega (arith, all_fit old room, ap length columns-are)), all_fit old room, ap length columns-are)

  module _ (write : Bool) (old line : Bytes) (n : ℕ) (e : n ≡ 1 + length (columns t)) (o : line ≡ over (blank ∷ columns t) old) where
    pub slice-emitted : {out out' : Bytes} {at r : ℕ} → Emitted write out out' at (take (n - 1) (drop 1 line)) r → Emitted write out out' at (columns t) r
    slice-emitted ε = emitted_as write _ _ (columns-slice old line n e o) ε
