-- The line of a refusal, put piece by piece. Assumes nothing.
use Prim.Native.Nat.{ℕ, ◌+◌, ◌-◌, ◌^◌, ◌≤◌, ◌<◌}
use mathlib.Core.Path.{◌≡◌, refl, sym, ap, ◌∙◌}
use mathlib.Core.List.{[], ◌∷◌, ◌++◌, append_assoc}
use native.Mathlib.Omega.{arith}
use lib.ListN.{length, take, drop, set, length-append}
use mir.Val.{Fits}
use mir.Syntax.{w64}
use Rattle.model.specs.declared.Refusal.{Refusal}
use Rattle.model.specs.Bytes.{Bytes, ascii}
use Rattle.model.specs.Number.{decimal}
use Rattle.model.specs.Answer.{number_of}
use Rattle.model.specs.Output.{written, output_after}
use Rattle.model.specs.Gather.{printed_answer}
use Rattle.format.specs.Put.{put_len, over, pair}
use Rattle.format.proofs.DecimalLaws.{decimal-most}
use Rattle.format.proofs.OverLaws.{put_over, put_len_lem, first-room, second_at, second-room, second_fits, second_len, second-out, last_within, last_out}
use Rattle.program_io.specs.Refused.{refused_line, max_refused, places, refused_places}

places_is : (number text line field : ℕ) → places number text line field ≡ pair 32 number 32 text ++ pair 32 line 32 field
unfolding places
places_is number text line field = refl

module _ (number text line field : ℕ) (old : Bytes) (room : length (places number text line field) ≤ length old) where
  abbrev front : Bytes
  front = pair 32 number 32 text

  abbrev back : Bytes
  back = pair 32 line 32 field

  abbrev all : Bytes
  all = places number text line field

  pub places-first : length front ≤ length old
  places-first = first-room all front back old (places_is number text line field) room

  module _ (out : Bytes) (at : ℕ) (up_to : at ≡ length front) (held : out ≡ over front old) where
    pub places_at : at ≤ length out
    places_at = second_at all front back old (places_is number text line field) room out at held up_to

    pub places-room : length back ≤ length (take (length out - at) (drop at out))
    places-room = second-room all front back old (places_is number text line field) room out at held up_to

    pub places-fits : (n : ℕ) → n ≡ length back → length old < 2 ^ 64 → Fits w64 (at + n)
    places-fits n e h = second_fits all front back old (places_is number text line field) room out at held up_to n e h

    pub places_len : (n : ℕ) → n ≡ length back → at + n ≡ length all
    places_len n e = second_len all front back old (places_is number text line field) room out at held up_to n e

    pub places-out : (ys : Bytes) → ys ≡ over back (take (length out - at) (drop at out)) → take at out ++ (ys ++ drop (length out - at) (drop at out)) ≡ over all old
    places-out ys y = second-out all front back old (places_is number text line field) room out at held up_to ys y

pub number-most : (v : ℕ) → 1 + length (decimal v) ≤ 21
number-most v = omega (arith, decimal-most v)

pub pair-most : (first a then b : ℕ) → length (pair first a then b) ≤ 42
pair-most first a then b = omega (arith, length-append (first ∷ decimal a) (then ∷ decimal b), decimal-most a, decimal-most b)

-- four numbers with a blank before each, and what comes after them
in_a_row : (h number text line field e : Bytes) → let blank : Bytes = 32 ∷ [] in
    (h ++ (((32 ∷ number) ++ (32 ∷ text)) ++ ((32 ∷ line) ++ (32 ∷ field)))) ++ e
    ≡ (h ++ blank) ++ number ++ blank ++ text ++ blank ++ line ++ blank ++ field ++ e
in_a_row h number text line field e = simp append_assoc

abbrev head : Bytes
head = ascii "refused"

module _ (r : Refusal) where
  places-most : length (refused_places r) ≤ 91
  unfolding refused_places
  places-most =
      let ends = pair-most 32 (number_of r.fault) 32 r.text in
      let more = pair-most 32 r.line 32 r.field in
      let both = ap length (places_is (number_of r.fault) r.text r.line r.field) ∙ length-append (pair 32 (number_of r.fault) 32 r.text) (pair 32 r.line 32 r.field) in
      omega (arith, ends, more, both, length-append head (places (number_of r.fault) r.text r.line r.field))

  -- byte 10 makes it the model's line
  line_is : refused_places r ++ (10 ∷ []) ≡ refused_line r
  unfolding refused_places places printed_answer
  line_is = in_a_row head (decimal (number_of r.fault)) (decimal r.text) (decimal r.line) (decimal r.field) (10 ∷ [])

  module _ (number : ℕ) (told : number ≡ number_of r.fault) (old : Bytes) (room : max_refused ≤ length old) (out : Bytes) (at : ℕ) (up_to : at ≡ put_len (written (length old) head)) (held : out ≡ output_after (written (length old) head) old) where
    abbrev rest : Bytes
    rest = places number r.text r.line r.field

    pieces : refused_places r ≡ head ++ rest
    unfolding refused_places
    pieces = rw told

    fits : length head ≤ length old
    fits = omega arith

    all_fit : length (refused_places r) ≤ length old
    all_fit = omega (arith, places-most)

    ends : at ≡ length head
    ends = put_len_lem head old fits at up_to

    there : out ≡ over head old
    there = put_over head old fits out held

    pub refused_at_lem : at ≤ length out
    refused_at_lem = second_at (refused_places r) head rest old pieces all_fit out at there ends

    pub refused-room : length rest ≤ length (take (length out - at) (drop at out))
    refused-room = second-room (refused_places r) head rest old pieces all_fit out at there ends

    module _ (n : ℕ) (more : n ≡ length rest) where
      pub refused-ends : length old < 2 ^ 64 → Fits w64 (at + n)
      refused-ends h = second_fits (refused_places r) head rest old pieces all_fit out at there ends n more h

      end : at + n ≡ length (refused_places r)
      end = second_len (refused_places r) head rest old pieces all_fit out at there ends n more

      pub refused-fits : length old < 2 ^ 64 → Fits w64 (at + n + 1)
      refused-fits h = record { fits = omega (arith, end, places-most) }

      pub refused_len : at + n + 1 ≡ length (refused_line r)
      refused_len = omega (arith, end, sym (ap length line_is), length-append (refused_places r) (10 ∷ []))

      module _ (ys : Bytes) (put : ys ≡ over rest (take (length out - at) (drop at out))) where
        abbrev whole : Bytes
        whole = take at out ++ (ys ++ drop (length out - at) (drop at out))

        done : whole ≡ over (refused_places r) old
        done = second-out (refused_places r) head rest old pieces all_fit out at there ends ys put

        short : at + n < length old
        short = omega (arith, end, places-most)

        pub refused-within : at + n < length whole
        refused-within = last_within old whole (refused_places r) (at + n) 10 done end short

        pub refused-out : set whole (at + n) 10 ≡ over (refused_line r) old
        refused-out = last_out old whole (refused_places r) (at + n) 10 done end short ∙ ap (λ (s : Bytes). over s old) line_is
