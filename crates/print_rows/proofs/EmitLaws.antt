-- What is emitted, piece after piece. Assumes nothing.
use Rattle.std.specs.Prelude.{Result, Ok, Err}
use Prim.Native.Nat.{ℕ, ◌+◌, ◌-◌, ◌*◌, ◌^◌, ◌≤◌, ◌<◌, min}
use mathlib.Core.Path.{◌≡◌, refl, sym, ap, ◌∙◌}
use mathlib.Core.Bool.{Bool, true, false}
use mathlib.Core.List.{[], ◌++◌, append_assoc, append-nil}
use native.Mathlib.Omega.{arith}
use lib.ListN.{length, take, drop, length-append, length-take, length-drop, take-append-drop}
use lib.Seq.{take_at, drop_at, drop-drop, length-take-le}
use mir.Val.{Fits}
use mir.Syntax.{w64}
use Rattle.model.specs.declared.Kind.{Kind}
use Rattle.model.specs.declared.Record.{Record}
use Rattle.model.specs.declared.Refusal.{Refusal}
use Rattle.model.specs.Bytes.{Bytes}
use Rattle.model.specs.Calls.{WriteCall, length_answer}
use Rattle.model.proofs.CallLaws.{length_exact}
use Rattle.model.specs.Limits.{u64_max}
use Rattle.model.specs.Output.{written, output_after}
use Rattle.model.specs.Parts.{print_line}
use Rattle.format.specs.Put.{put_len, over}
use Rattle.scan.proofs.ByteLaws.{drop-end}
use Rattle.record_display.specs.Lines.{line_in}
use Rattle.format.proofs.OverLaws.{to_end, put_over, put_len_lem}
use Rattle.record_display.proofs.LineLaws.{lent_out, lent_written, lent-refused}
use Rattle.print_rows.specs.Emit.{put_at, out_after, RoomFor, Emitted}

-- ---- nothing

put_none : (out : Bytes) (at : ℕ) → out ≡ put_at out at []
put_none out at = let z : at + 0 ≡ at = omega arith in rw z (sym (take-append-drop at out))

pub emitted-none : (write : Bool) (out : Bytes) (at : ℕ) → at ≤ u64_max → Emitted write out out at [] at
emitted-none true out at h = record { next = omega arith; after = put_none out at }
emitted-none false out at h = record { next = omega arith; after = refl }

-- bytes of which there are none
pub emitted_empty : (write : Bool) (out bytes : Bytes) (at : ℕ) → at ≤ u64_max → bytes ≡ [] → Emitted write out out at bytes at
emitted_empty write out bytes at h e = rw e (emitted-none write out at h)

-- ---- piece after piece

length_put : (out : Bytes) (at : ℕ) (bytes : Bytes) → at + length bytes ≤ length out → length (put_at out at bytes) ≡ length out
length_put out at bytes h = simp (length-append, length-take, length-drop) (omega arith)

put_both : (out : Bytes) (at : ℕ) (a b : Bytes) → at + length a ≤ length out → put_at (put_at out at a) (at + length a) b ≡ put_at out at (a ++ b)
put_both out at a b h =
    let front : length (take at out ++ a) ≡ at + length a = length-append (take at out) a ∙ ap (λ (n : ℕ). n + length a) (length-take-le at out (omega arith)) in
    let whole : put_at out at a ≡ (take at out ++ a) ++ drop (at + length a) out = sym (append_assoc (take at out) a (drop (at + length a) out)) in
    let first : take (at + length a) (put_at out at a) ≡ take at out ++ a = ap (take (at + length a)) whole ∙ take_at (take at out ++ a) (drop (at + length a) out) (at + length a) front in
    let rest : drop (at + length a + length b) (put_at out at a) ≡ drop (at + length (a ++ b)) out =
    sym (drop-drop (length b) (at + length a) (put_at out at a))
    ∙ ap (drop (length b)) (ap (drop (at + length a)) whole ∙ drop_at (take at out ++ a) (drop (at + length a) out) (at + length a) front)
    ∙ drop-drop (length b) (at + length a) out
    ∙ ap (λ (n : ℕ). drop n out) (let z : at + length a + length b ≡ at + length (a ++ b) = omega (arith, length-append a b) in z) in
    rw (first, rest)
    (append_assoc (take at out) a (b ++ drop (at + length (a ++ b)) out)
    ∙ ap (λ (l : Bytes). take at out ++ l) (sym (append_assoc a b (drop (at + length (a ++ b)) out))))

module _ {write : Bool} {out : Bytes} {at : ℕ} {a : Bytes} where
  pub emitted_size : {out' : Bytes} {r : ℕ} → RoomFor write out at a → Emitted write out out' at a r → length out' ≡ length out
  emitted_size room e = go write room e.after
    where
      go : (w : Bool) → {out' : Bytes} → RoomFor w out at a → out' ≡ out_after w out at a → length out' ≡ length out
      go true h p = ap length p ∙ length_put out at a h
      go false h p = ap length p

module _ (write : Bool) (out : Bytes) (at : ℕ) (a b : Bytes) (room : RoomFor write out at (a ++ b)) where
  pub room-first : RoomFor write out at a
  room-first = go write room
    where
      go : (w : Bool) → RoomFor w out at (a ++ b) → RoomFor w out at a
      go true h = omega (arith, length-append a b)
      go false h = tt

  module _ (few : length out * 1 < 2 ^ 63) {out₁ : Bytes} {r₁ : ℕ} (first : Emitted write out out₁ at a r₁) where
    pub room-then : RoomFor write out₁ r₁ b
    room-then = go write room (emitted_size room-first first) first.next
      where
        go : (w : Bool) → RoomFor w out at (a ++ b) → length out₁ ≡ length out → r₁ ≡ min (at + length a) u64_max → RoomFor w out₁ r₁ b
        go true h s e = omega (arith, length-append a b)
        go false h s e = tt

    pub emitted_both : {out₂ : Bytes} {r₂ : ℕ} → Emitted write out₁ out₂ r₁ b r₂ → Emitted write out out₂ at (a ++ b) r₂
    emitted_both {out₂} {r₂} second = record { next = omega (arith, first.next, second.next, length-append a b); after = go write room first.next first.after second.after }
      where
        go : (w : Bool) → RoomFor w out at (a ++ b) → r₁ ≡ min (at + length a) u64_max → out₁ ≡ out_after w out at a → out₂ ≡ out_after w out₁ r₁ b → out₂ ≡ out_after w out at (a ++ b)
        go true h e p q =
            let z : r₁ ≡ at + length a = omega (arith, length-append a b) in
            q ∙ rw (p, z) (put_both out at a b (omega (arith, length-append a b)))
        go false h e p q = q ∙ p

-- what is only measured is known by its length
pub measured_as : {out out' : Bytes} {at r : ℕ} {a b : Bytes} → length a ≡ length b → Emitted false out out' at a r → Emitted false out out' at b r
measured_as e w = record { next = omega (arith, e, w.next); after = w.after }

pub emitted_as : (write : Bool) {out out' : Bytes} {at r : ℕ} (a b : Bytes) → a ≡ b → Emitted write out out' at a r → Emitted write out out' at b r
emitted_as write a b e w = rw e at w

pub room_as : (write : Bool) (out : Bytes) (at : ℕ) (a b : Bytes) → a ≡ b → RoomFor write out at b → RoomFor write out at a
room_as write out at a b e h = rw e h

-- what is written
pub room-written : (write : Bool) (out : Bytes) (at : ℕ) (a b : Bytes) → write ≡ true → a ≡ b → RoomFor write out at b → RoomFor true out at a
room-written write out at a b e q h = rw q (rw e at h)

pub emitted-written : (write : Bool) {out out' : Bytes} {at r : ℕ} (a b : Bytes) → write ≡ true → a ≡ b → Emitted true out out' at a r → Emitted write out out' at b r
emitted-written write a b e q w = rw e (rw q at w)

-- what is only measured
pub emitted-past : (write : Bool) (out bytes : Bytes) (at r : ℕ) → write ≡ false → r ≡ min (at + length bytes) u64_max → Emitted write out out at bytes r
emitted-past write out bytes at r e h = rw e (record { next = h; after = refl })

-- ---- bytes written into the rest of the output

module _ (write : Bool) (writes : write ≡ true) (out : Bytes) (at : ℕ) (s : Bytes) (room : RoomFor write out at s) where
  abbrev part : Bytes
  part = take (length out - at) (drop at out)

  bytes-room : at + length s ≤ length out
  bytes-room = rw writes at room

  pub bytes_at : at ≤ length out
  bytes_at = omega (arith, bytes-room)

  rest-room : length s ≤ length part
  rest-room = simp (length-take, length-drop) (omega (arith, bytes-room))

  module _ (few : length out * 1 < 2 ^ 63) (ys : Bytes) where
    emitted_put : ys ≡ over s part → (r : ℕ) → r ≡ at + length s → Emitted write out (take at out ++ (ys ++ drop (length out - at) (drop at out))) at s r
    unfolding output_after
    emitted_put y r e =
        let nothing : drop (length out - at) (drop at out) ≡ [] = drop-end (drop at out) (length out - at) (simp length-drop (omega arith)) in
        let put : take at out ++ (ys ++ drop (length out - at) (drop at out)) ≡ put_at out at s = rw (y, nothing, to_end out at, append-nil, drop-drop) in
        record { next = omega (arith, bytes-room); after = put ∙ rw writes }

    module _ (y : ys ≡ output_after (written (length part) s) part) (n : ℕ) (e : n ≡ put_len (written (length part) s)) where
      pub bytes-fits : Fits w64 (at + n)
      bytes-fits = record { fits = omega (arith, bytes-room, put_len_lem s part rest-room n e) }

      pub bytes-emitted : Emitted write out (take at out ++ (ys ++ drop (length out - at) (drop at out))) at s (at + n)
      bytes-emitted = emitted_put (put_over s part rest-room ys y) (at + n) (omega (arith, put_len_lem s part rest-room n e))

-- ---- one line, written into the rest of the output

module _ (tag : Kind → Bytes) (write : Bool) (writes : write ≡ true) (out : Bytes) (at : ℕ) (t : Bytes) (a : Record) (room : RoomFor write out at (line_in tag t a)) where
  abbrev line : Bytes
  line = line_in tag t a

  abbrev lent : Bytes
  lent = take (length out - at) (drop at out)

  line-room : length line ≤ length lent
  line-room = rest-room write writes out at line room

  pub line_at : at ≤ length out
  line_at = bytes_at write writes out at line room

  module _ (few : length out * 1 < 2 ^ 63) (ys : Bytes) (wrote : Result ℕ Refusal) (call : WriteCall (print_line tag t a (length lent)) lent ys wrote) where
    answers : wrote ≡ length_answer (print_line tag t a (length lent))
    answers = length_exact (print_line tag t a (length lent)) wrote call.returns

    line_put : (r : ℕ) → r ≡ at + length line → Emitted write out (take at out ++ (ys ++ drop (length out - at) (drop at out))) at line r
    line_put r e = emitted_put write writes out at line room few ys (call.leaves ∙ lent_out tag lent t a line-room) r e

    wrote_len : (n : ℕ) → wrote ≡ Ok n → n ≡ length line
    wrote_len n e = lent_written tag lent t a line-room n (sym e ∙ answers)

    pub wrote-fits : (n : ℕ) → wrote ≡ Ok n → Fits w64 (at + n)
    wrote-fits n e = record { fits = omega (arith, bytes-room write writes out at line room, wrote_len n e) }

    pub wrote-line : (n : ℕ) → wrote ≡ Ok n → Emitted write out (take at out ++ (ys ++ drop (length out - at) (drop at out))) at line (at + n)
    wrote-line n e = line_put (at + n) (omega (arith, wrote_len n e))

    pub wrote_none : (q : Refusal) → wrote ≡ Err q → Emitted write out (take at out ++ (ys ++ drop (length out - at) (drop at out))) at line at
    wrote_none q e =
        let z = ap length (lent-refused tag lent t a line-room q (sym e ∙ answers)) in
        line_put at (omega (arith, z))
