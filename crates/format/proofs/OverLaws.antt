-- Bytes written behind those at the front of an output. Assumes nothing.
use Prim.Native.Nat.{ℕ, ◌+◌, ◌-◌, ◌^◌, ◌≤◌, ◌<◌}
use mathlib.Core.Path.{◌≡◌, refl, sym, ap, ◌∙◌}
use mathlib.Core.List.{[], ◌∷◌, ◌++◌, append_assoc, append-nil}
use native.Mathlib.Omega.{arith}
use lib.ListN.{length, take, drop, set, length-append, length-take, length-drop, length-set}
use lib.Seq.{take_at, drop_at, drop-drop, take_all, set-append_seam, append_snoc}
use mir.Val.{Fits}
use mir.Syntax.{w64}
use Rattle.model.specs.Bytes.{Bytes}
use Rattle.model.specs.Answer.{Answer}
use Rattle.model.specs.Output.{written, output_after}
use Rattle.format.specs.Put.{put_len, over}
use Rattle.format.proofs.PutLaws.{written-fits}
use Rattle.scan.proofs.ByteLaws.{drop-end, drop-next}

-- a part up to the end
pub to_end : (s : Bytes) (a : ℕ) → take (length s - a) (drop a s) ≡ drop a s
to_end s a = take_all (length s - a) (drop a s) (simp length-drop (omega arith))

-- bytes are written behind those at the front: the part from there is lent and comes back
module _ (old out done ys t : Bytes) (at : ℕ) where
  pub over-more : out ≡ over done old → at ≡ length done → ys ≡ over t (take (length out - at) (drop at out)) → take at out ++ (ys ++ drop (length out - at) (drop at out)) ≡ over (done ++ t) old
  unfolding output_after
  over-more e a y =
      let front : take at out ≡ done = rw e (take_at done (drop (length done) old) at (sym a)) in
      let back : drop at out ≡ drop at old = rw (e, drop_at done (drop (length done) old) at (sym a), a) in
      let nothing : drop (length out - at) (drop at out) ≡ [] = drop-end (drop at out) (length out - at) (simp length-drop (omega arith)) in
      rw (y, to_end out at, nothing, front, back, append-nil, drop-drop, length-append, ← a, append_assoc)

  -- and as many as were there are there
  pub over_size : out ≡ over done old → length done ≤ length old → length out ≡ length old
  unfolding output_after
  over_size e h = rw e (simp (length-append, length-drop) (omega arith))

-- the first byte
pub over_first : (old : Bytes) (b : ℕ) → 0 < length old → set old 0 b ≡ over (b ∷ []) old
unfolding output_after
over_first [] b h = absurd (omega arith)
over_first (x ∷ old) b h = refl

-- a part from a position that comes back with its length
pub lent_size : (out ys : Bytes) (at : ℕ) → length ys ≡ length (take (length out - at) (drop at out)) → at ≤ length out → length (take at out ++ (ys ++ drop (length out - at) (drop at out))) ≡ length out
lent_size out ys at e h = simp (length-append, e, length-take, length-drop) (omega arith)

-- what a put function of text leaves, where there is room
module _ (t part : Bytes) (room : length t ≤ length part) where
  pub put_over : (ys : Bytes) → ys ≡ output_after (written (length part) t) part → ys ≡ over t part
  put_over ys y = y ∙ ap (λ (a : Answer Bytes). output_after a part) (written-fits t (length part) room)

  pub put_len_lem : (n : ℕ) → n ≡ put_len (written (length part) t) → n ≡ length t
  put_len_lem n e = e ∙ ap put_len (written-fits t (length part) room)

-- one byte, and the bytes after it
module _ (old ys : Bytes) (b : ℕ) where
  abbrev pub after : Bytes
  after = take (length (set old 0 b) - 1) (drop 1 (set old 0 b))

  pub after-room : (t : Bytes) → 1 + length t ≤ length old → length t ≤ length after
  after-room t room = simp (length-take, length-drop, length-set) (omega arith)

  -- the bytes after it are written
  pub first_fits : (t : Bytes) (n : ℕ) → 1 + length t ≤ length old → length old < 2 ^ 64 → n ≡ length t → Fits w64 (1 + n)
  first_fits t n room h e = record { fits = omega arith }

  pub first-over : (t : Bytes) → 1 + length t ≤ length old → ys ≡ over t after → take 1 (set old 0 b) ++ (ys ++ drop (length (set old 0 b) - 1) (drop 1 (set old 0 b))) ≡ over (b ∷ t) old
  first-over t room y = over-more old (set old 0 b) (b ∷ []) ys t 1 (over_first old b (omega arith)) refl y

  -- or were, as far as they fit
  pub next_len : (t : Bytes) (n : ℕ) → 1 + length t ≤ length old → n ≡ put_len (written (length after) t) → 1 + n ≡ 1 + length t
  next_len t n room e = ap (λ (k : ℕ). 1 + k) (put_len_lem t after (after-room t room) n e)

  pub next_fits : (t : Bytes) (n : ℕ) → 1 + length t ≤ length old → length old < 2 ^ 64 → n ≡ put_len (written (length after) t) → Fits w64 (1 + n)
  next_fits t n room h e = first_fits t n room h (put_len_lem t after (after-room t room) n e)

  pub over-next : (t : Bytes) → 1 + length t ≤ length old → ys ≡ output_after (written (length after) t) after → take 1 (set old 0 b) ++ (ys ++ drop (length (set old 0 b) - 1) (drop 1 (set old 0 b))) ≡ over (b ∷ t) old
  over-next t room y = first-over t room (put_over t after (after-room t room) ys y)

  pub next_size : (n : ℕ) → 1 + n ≤ length old → length ys ≡ length (take (length (set old 0 b) - 1) (drop 1 (set old 0 b))) → length (take 1 (set old 0 b) ++ (ys ++ drop (length (set old 0 b) - 1) (drop 1 (set old 0 b)))) ≡ length old
  next_size n room e = lent_size (set old 0 b) ys 1 e (simp length-set (omega arith)) ∙ length-set old 0 b

-- two pieces, one after the other: s is done and then t
module _ (s done t old : Bytes) (is : s ≡ done ++ t) (room : length s ≤ length old) where
  both : length done + length t ≡ length s
  both = sym (length-append done t) ∙ ap length (sym is)

  pub first-room : length done ≤ length old
  first-room = omega (arith, both)

  module _ (out : Bytes) (at : ℕ) (held : out ≡ over done old) (up_to : at ≡ length done) where
    pub second_at : at ≤ length out
    second_at = omega (arith, both, over_size old out done [] [] at held first-room)

    pub second-room : length t ≤ length (take (length out - at) (drop at out))
    second-room = rw (to_end out at, length-drop) (omega (arith, both, over_size old out done [] [] at held first-room))

    pub second_fits : (n : ℕ) → n ≡ length t → length old < 2 ^ 64 → Fits w64 (at + n)
    second_fits n e h = record { fits = omega (arith, both) }

    pub second_len : (n : ℕ) → n ≡ length t → at + n ≡ length s
    second_len n e = omega (arith, both)

    pub second_size : (ys : Bytes) → length ys ≡ length (take (length out - at) (drop at out)) → length (take at out ++ (ys ++ drop (length out - at) (drop at out))) ≡ length old
    second_size ys e = lent_size out ys at e second_at ∙ over_size old out done [] [] at held first-room

    pub second-out : (ys : Bytes) → ys ≡ over t (take (length out - at) (drop at out)) → take at out ++ (ys ++ drop (length out - at) (drop at out)) ≡ over s old
    second-out ys y = rw is (over-more old out done ys t at held up_to y)

pub over_at : (old out done : Bytes) (at : ℕ) → out ≡ over done old → at ≡ length done → length done ≤ length old → at ≤ length out
over_at old out done at e a h = omega (arith, over_size old out done [] [] at e h)

-- one byte behind those at the front
module _ (old out done : Bytes) (n b : ℕ) (held : out ≡ over done old) (up_to : n ≡ length done) (room : n < length old) where
  last_size : length out ≡ length old
  last_size = over_size old out done [] [] n held (omega arith)

  pub last_within : n < length out
  last_within = omega (arith, last_size)

  pub last-kept : length (set out n b) ≡ length old
  last-kept = length-set out n b ∙ last_size

  pub last_out : set out n b ≡ over (done ++ (b ∷ [])) old
  unfolding output_after
  last_out = rw (held, up_to, drop-next 0 old (length done) (omega arith), set-append_seam, append_snoc, length-append)
