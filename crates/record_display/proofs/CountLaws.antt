-- A line with no checksum, written with no record made of it. Assumes nothing.
use Rattle.std.specs.Prelude.{Ok}
use Prim.Native.Nat.{ℕ, ◌+◌, ◌-◌, ◌^◌, ◌≤◌, ◌<◌}
use mathlib.Core.Path.{◌≡◌, refl, sym, ap, ◌∙◌}
use mathlib.Core.Bool.{true}
use mathlib.Core.List.{List, [], ◌∷◌, ◌++◌, append-nil}
use native.Mathlib.Omega.{arith}
use lib.Dec.{lit≤}
use lib.ListN.{length, take, drop, set, length-append}
use mir.Val.{Fits}
use mir.Syntax.{w64}
use Rattle.model.specs.declared.Kind.{Kind}
use Rattle.model.specs.declared.Kind.TheVariants as Kd
use Rattle.model.specs.Bytes.{Bytes}
use Rattle.model.specs.Number.{decimal}
use Rattle.model.specs.TagTable.{tags_of, are_tags}
use Rattle.model.specs.Output.{output_after}
use Rattle.model.specs.Calls.{length_answer}
use Rattle.model.specs.Parts.{print_line}
use Rattle.format.specs.Put.{over, pair}
use Rattle.record_display.specs.Fields.{FieldsOf, separated, number_texts, last_len, last_field, head_of, max_head, fields_text, line_text, Fitting}
use Rattle.record_display.specs.Lines.{counted}
use Rattle.record_display.specs.declared.fields.Last.TheVariants as L
use Rattle.record_display.specs.declared.fields.Fields.{Fields}
use Rattle.format.proofs.OverLaws.{second_at, second-room, second_fits, second_len, second-out}
use Rattle.record_display.proofs.FieldLaws.{head_first, inside_nothing}
use Rattle.record_display.proofs.RecordFieldLaws.{line_first, line_len, line-within, line_kept, line-out, fits-any}
use Rattle.record_display.proofs.LineLaws.{print_room, print_written, print_out}

-- ---- the line

abbrev both : ℕ → ℕ → Bytes
both line count = pair 58 line 44 count

abbrev numbers : ℕ → ℕ → List ℕ
numbers line count = line ∷ count ∷ []

abbrev head : (tag : Kind → Bytes) → ℕ → ℕ → Bytes
head tag line count = head_of tag Kd.LineData (numbers line count) 2

abbrev fields : (tag : Kind → Bytes) → ℕ → ℕ → Bytes
fields tag line count = fields_text tag [] Kd.LineData (numbers line count) 2 L.Nothing

abbrev whole : (tag : Kind → Bytes) → ℕ → ℕ → Bytes
whole tag line count = line_text tag [] Kd.LineData (numbers line count) 2 L.Nothing

head_both : (tag : Kind → Bytes) (line count : ℕ) → head tag line count ≡ (tag Kd.LineData) ++ both line count
unfolding head_of separated number_texts
head_both tag line count = ap (λ (l : Bytes). (tag Kd.LineData) ++ (58 ∷ decimal line ++ 44 ∷ l)) (append-nil (decimal count))

fields_head : (tag : Kind → Bytes) (line count : ℕ) → fields tag line count ≡ head tag line count
unfolding fields_text separated last_field
fields_head tag line count = append-nil (head tag line count)

pub count_fits : (tags : Bytes) (line count : ℕ) (old : Bytes) (at n : ℕ) → length (whole (tags_of tags) line count) ≤ length old → at ≡ length (tags_of tags Kd.LineData) → n ≡ length (both line count)
    → length old < 2 ^ 64 → Fits w64 (at + n + 1)
count_fits tags line count old at n room up_to more h =
    let size = ap length (head_both (tags_of tags) line count) ∙ length-append (tags_of tags Kd.LineData) (both line count) in
    let one = line_len (tags_of tags) [] Kd.LineData 2 (numbers line count) L.Nothing (length (fields (tags_of tags) line count)) refl in
    record { fits = omega (arith, size, one, ap length (fields_head (tags_of tags) line count), room, up_to, more, h) }

module _ (tags : Bytes) (line count : ℕ) (old : Bytes) (room : length (whole (tags_of tags) line count) ≤ length old) where
  head_room : length (head (tags_of tags) line count) ≤ length old
  head_room = rw (fields_head (tags_of tags) line count) at (line_first (tags_of tags) [] Kd.LineData 2 (numbers line count) L.Nothing (length old) room)

  pub count-first : length (tags_of tags Kd.LineData) ≤ length old
  count-first = head_first (tags_of tags) Kd.LineData 2 (length old) (numbers line count) head_room

  module _ (out : Bytes) (at : ℕ) (up_to : at ≡ length (tags_of tags Kd.LineData)) (held : out ≡ over (tags_of tags Kd.LineData) old) where
    pub count_at : at ≤ length out
    count_at = second_at (head (tags_of tags) line count) (tags_of tags Kd.LineData) (both line count) old (head_both (tags_of tags) line count) head_room out at held up_to

    pub count_room : length (both line count) ≤ length (take (length out - at) (drop at out))
    count_room = second-room (head (tags_of tags) line count) (tags_of tags Kd.LineData) (both line count) old (head_both (tags_of tags) line count) head_room out at held up_to

    module _ (n : ℕ) (more : n ≡ length (both line count)) where
      pub count-ends : length old < 2 ^ 64 → Fits w64 (at + n)
      count-ends h = second_fits (head (tags_of tags) line count) (tags_of tags Kd.LineData) (both line count) old (head_both (tags_of tags) line count) head_room out at held up_to n more h

      end : at + n ≡ length (fields (tags_of tags) line count)
      end =
          second_len (head (tags_of tags) line count) (tags_of tags Kd.LineData) (both line count) old (head_both (tags_of tags) line count) head_room out at held up_to n more
          ∙ ap length (sym (fields_head (tags_of tags) line count))

      pub count_len : at + n + 1 ≡ length (whole (tags_of tags) line count)
      count_len = line_len (tags_of tags) [] Kd.LineData 2 (numbers line count) L.Nothing (at + n) end

      module _ (ys : Bytes) (rest : ys ≡ over (both line count) (take (length out - at) (drop at out))) where
        abbrev written : Bytes
        written = take at out ++ (ys ++ drop (length out - at) (drop at out))

        done : written ≡ over (fields (tags_of tags) line count) old
        done = rw (fields_head (tags_of tags) line count) (second-out (head (tags_of tags) line count) (tags_of tags Kd.LineData) (both line count) old (head_both (tags_of tags) line count) head_room out at held up_to ys rest)

        pub count-within : at + n < length written
        count-within = line-within (tags_of tags) [] Kd.LineData 2 (numbers line count) L.Nothing (at + n) old written done end room

        pub count_kept : length (set written (at + n) 10) ≡ length old
        count_kept = line_kept (tags_of tags) [] Kd.LineData 2 (numbers line count) L.Nothing (at + n) old written done end room

        pub count-out : set written (at + n) 10 ≡ over (whole (tags_of tags) line count) old
        count-out = line-out (tags_of tags) [] Kd.LineData 2 (numbers line count) L.Nothing (at + n) old written done end room

-- ---- it is what the printer answers

abbrev line_fields : ℕ → ℕ → Fields
line_fields line count = record { kind = Kd.LineData; numbers = numbers line count; count = 2; last = L.Nothing }

line_fields_lem : (line count : ℕ) → FieldsOf (counted line count) (line_fields line count)
line_fields_lem line count = record { kind = refl; few = lit≤ tt; long = lit≤ tt; numbers = refl; last = refl }

fitting : (tags : Bytes) → are_tags tags ≡ true → (line count room : ℕ) → max_head ≤ room → Fitting (tags_of tags) (line_fields line count) room true
unfolding last_len
fitting tags are line count room h = fits-any tags are 0 (lit≤ tt) refl h

module _ (tags : Bytes) (are : are_tags tags ≡ true) (line count : ℕ) where
  pub counted-room : (room : ℕ) → max_head ≤ room → length (whole (tags_of tags) line count) ≤ room
  counted-room room h = print_room (tags_of tags) [] (counted line count) (line_fields line count) (line_fields_lem line count) true (inside_nothing L.Nothing 0 refl) refl (fitting tags are line count room h) refl

  pub counted-written : (room n : ℕ) → max_head ≤ room → n ≡ length (whole (tags_of tags) line count) → Ok n ≡ length_answer (print_line (tags_of tags) [] (counted line count) room)
  counted-written room n h e =
      print_written (tags_of tags) [] (counted line count) (line_fields line count) (line_fields_lem line count) true (inside_nothing L.Nothing 0 refl) refl (fitting tags are line count room h) refl n e

  pub counted-out : (old out : Bytes) → max_head ≤ length old → out ≡ over (whole (tags_of tags) line count) old → out ≡ output_after (print_line (tags_of tags) [] (counted line count) (length old)) old
  counted-out old out h e =
      print_out (tags_of tags) [] (counted line count) (line_fields line count) (line_fields_lem line count) true (inside_nothing L.Nothing 0 refl) refl old out (fitting tags are line count (length old) h) refl e
