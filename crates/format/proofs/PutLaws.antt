-- Bytes written at the front of an output. Assumes nothing.
use Prim.Native.Nat.{ℕ, ◌+◌, ◌≤◌, ◌<◌}
use mathlib.Core.Path.{◌≡◌, refl, ◌∙◌}
use mathlib.Core.List.{◌++◌}
use native.Mathlib.Omega.{arith}
use native.Mathlib.Numerals.{add-one}
use lib.ListN.{length, take, drop, get_or, set, length-set}
use lib.Seq.{take-suc, take-length, length-take-le, set_at, append_snoc, length_front}
use borrow.Author.Tests.{le-leb, lt-leb}
use Rattle.scan.proofs.ByteLaws.{drop-next}
use Rattle.model.specs.Bytes.{Bytes}
use Rattle.model.specs.Answer.{accepted, refuse_length}
use Rattle.model.specs.Output.{written, output_after}
use Rattle.format.specs.Put.{put_len, over}

-- an output that holds them, and one that is too short
pub written-fits : (s : Bytes) (room : ℕ) → length s ≤ room → written room s ≡ accepted s
unfolding written
written-fits s room h = rw (le-leb (length s) room h)

pub written-short : (s : Bytes) (room : ℕ) → room < length s → written room s ≡ refuse_length (length s)
unfolding written
written-short s room h = rw (lt-leb (length s) room h)

module _ (s old : Bytes) where
  pub short_len : length old < length s → 0 ≡ put_len (written (length old) s)
  short_len h = rw (written-short s (length old) h)

  pub short_out : length old < length s → old ≡ output_after (written (length old) s) old
  unfolding output_after
  short_out h = rw (written-short s (length old) h)

  pub fits_len : (n : ℕ) → length s ≤ length old → n ≡ length s → n ≡ put_len (written (length old) s)
  fits_len n h e = rw (written-fits s (length old) h) e

  pub fits_out : (out : Bytes) → length s ≤ length old → out ≡ over s old → out ≡ output_after (written (length old) s) old
  fits_out out h e = rw (written-fits s (length old) h) e

-- the first i are written at the front, and the rest is unchanged
pub record Putting (s old out : Bytes) (i : ℕ) : Type 0 where
  pub within : i ≤ length s
  pub held : out ≡ take i s ++ drop i old
  pub size : length out ≡ length old

pub put_start : (s old : Bytes) → Putting s old old 0
put_start s old = record { within = omega arith; held = refl; size = refl }

module _ (s old out : Bytes) (i : ℕ) (w : Putting s old out i) (room : length s ≤ length old) where
  pub put_next : i < length s → Putting s old (set out i (get_or s i 0)) (i + 1)
  put_next h =
      let t : length (take i s) ≡ i = length-take-le i s (omega arith) in
      record {
        within = omega arith;
        held = rw (w.held, drop-next 0 old i (omega arith), set_at (take i s) _ _ _ i t, add-one, take-suc s i 0 h, append_snoc);
        size = length-set out i (get_or s i 0) ∙ w.size;
      }

  pub put_len_lem : length s ≤ i → i ≡ put_len (written (length old) s)
  put_len_lem h = fits_len s old i room (omega (arith, w.within))

  pub put_out : length s ≤ i → out ≡ output_after (written (length old) s) old
  unfolding output_after
  put_out h =
      let z : i ≡ length s = omega (arith, w.within) in
      fits_out s old out room (rw (w.held, z, take-length))

-- all at once: the front is a copy, and the rest is unchanged
module _ (s old front : Bytes) (e : front ≡ s) (room : length s ≤ length old) where
  pub put_all : Putting s old (front ++ drop (length s) old) (length s)
  put_all = record {
    within = omega arith;
    held = rw (e, take-length);
    size = length_front old front (length s) (rw (e, length-take-le (length s) old room));
  }

  pub copied_out : front ++ drop (length s) old ≡ output_after (written (length old) s) old
  copied_out = put_out s old (front ++ drop (length s) old) (length s) put_all room (omega arith)
