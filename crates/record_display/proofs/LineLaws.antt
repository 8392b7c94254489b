-- The line of a record's fields is the model's line, and what the printer answers. Assumes nothing.
use Rattle.std.specs.Prelude.{Some, None, Ok, Err}
use Prim.Native.Nat.{ℕ, ◌+◌, ◌*◌, ◌^◌, ◌≤◌, ◌<◌, min}
use mathlib.Core.Path.{◌≡◌, refl, sym, ap, ◌∙◌}
use mathlib.Core.List.{List, [], ◌∷◌, ◌++◌, map, append_assoc, append-nil}
use mathlib.Core.Bool.{Bool, true, false}
use mathlib.Core.Option.{none, some}
use native.Mathlib.Omega.{arith}
use lib.Dec.{leb, lit≤}
use lib.ListN.{length, take, drop}
use borrow.Author.Tests.{leb-true, leb-false, le-leb, lt-leb}
use Rattle.model.specs.declared.Fault.TheVariants.{PartOutside, OutputTooShort}
use Rattle.model.specs.declared.Kind.{Kind}
use Rattle.model.specs.declared.Kind.TheVariants as Kd
use Rattle.model.specs.declared.Part.{Part}
use Rattle.model.specs.declared.Refusal.{Refusal}
use Rattle.model.specs.declared.Record.{Record}
use Rattle.model.specs.declared.Record.TheVariants.{TestName, SourceFile, FunctionName, FunctionData, FunctionsFound, FunctionsHit, BranchData, BranchesFound, BranchesHit, LineData, LinesFound, LinesHit, EndOfRecord}
use Rattle.model.specs.Bytes.{Bytes, ascii, joined}
use Rattle.model.specs.Answer.{Answer, accepted, refused, ◌>>=◌, refuse, refuse_length}
use Rattle.model.specs.Number.{decimal}
use Rattle.model.specs.Record as Model
use Rattle.model.specs.Line.{print_end, print_fields, print_taken, print_checksum, print_record}
use Rattle.model.specs.Limits.{u64_max}
use Rattle.model.specs.Output.{written, output_after}
use Rattle.model.specs.Calls.{length_answer}
use Rattle.model.specs.Parts.{given_in, part_of, checksum_in, record_in, print_line}
use Rattle.format.specs.Put.{over}
use Rattle.format.proofs.PutLaws.{written-fits}
use Rattle.record_display.specs.Fields.{FieldsOf, separated, number_texts, last_len, last_field, inside, sep_after, head_of, max_head, fields_text, line_text, Fitting, needed_at, kind_of, numbers_of, last_of}
use Rattle.record_display.specs.Lines.{line_of, line_in}
use Rattle.record_display.specs.declared.fields.Last.{Last}
use Rattle.record_display.specs.declared.fields.Last.TheVariants as L
use Rattle.record_display.specs.declared.fields.Fields.{Fields}
use Rattle.record_display.proofs.RecordFieldLaws.{after-numbers, fields_len, line_len}

inside-most : (t : Bytes) (l : Last) → inside (length t) l ≡ true → length t * 1 < 2 ^ 63 → last_len l ≤ 9223372036854775808
unfolding inside last_len
inside-most t L.Nothing e h = lit≤ tt
inside-most t L.Dash e h = lit≤ tt
inside-most t (L.Text p) e h = omega (arith, leb-true (p.start + p.len) (length t) e)

-- the line of a record, whose text parts lie in t
unfoldable printed : (tag : Kind → Bytes) → Bytes → Record → Bytes
printed tag t a = tag (kind_of a) ++ separated 58 (map decimal (numbers_of a) ++ last_field t (last_of a)) ++ (10 ∷ [])

-- ---- the model's line

commas : (f : Bytes) (fs : List Bytes) → f ++ separated 44 fs ≡ joined (f ∷ fs)
unfolding separated joined
commas f [] = append-nil f
commas f (g ∷ gs) = ap (λ (l : Bytes). f ++ 44 ∷ l) (commas g gs)

line_fields_lem : (tag : Kind → Bytes) (kind : Kind) (f : Bytes) (fs : List Bytes) → print_fields tag kind (f ∷ fs) ++ (10 ∷ []) ≡ tag kind ++ separated 58 (f ∷ fs) ++ (10 ∷ [])
unfolding print_fields separated
line_fields_lem tag kind f fs = ap (λ (l : Bytes). tag kind ++ (58 ∷ l) ++ (10 ∷ [])) (sym (commas f fs))

module _ (t : Bytes) where
  pub part-there : (p : Part) → leb (p.start + p.len) (length t) ≡ true → part_of t p ≡ accepted (take p.len (drop p.start t))
  unfolding part_of
  part-there p e = rw e

  part_not : (p : Part) → leb (p.start + p.len) (length t) ≡ false → part_of t p ≡ refuse PartOutside
  unfolding part_of
  part_not p e = rw e

  no_way : {A : Type 0} → true ≡ false → A
  no_way e = let z : ◌≡◌ {A = ℕ} 0 1 = cc in absurd (omega arith)

  record_outside : (a : Record) → inside (length t) (last_of a) ≡ false → record_in t a ≡ refuse PartOutside
  unfolding inside record_in checksum_in
  record_outside (TestName p) e = rw (part_not p e)
  record_outside (SourceFile p) e = rw (part_not p e)
  record_outside (FunctionName n end p) e = rw (part_not p e)
  record_outside (FunctionData n p) e = rw (part_not p e)
  record_outside (FunctionsFound n) e = no_way e
  record_outside (FunctionsHit n) e = no_way e
  record_outside (BranchData l b c (Some n)) e = no_way e
  record_outside (BranchData l b c None) e = no_way e
  record_outside (BranchesFound n) e = no_way e
  record_outside (BranchesHit n) e = no_way e
  record_outside (LineData l n (Some p)) e = rw (part_not p e)
  record_outside (LineData l n None) e = no_way e
  record_outside (LinesFound n) e = no_way e
  record_outside (LinesHit n) e = no_way e
  record_outside EndOfRecord e = no_way e

module _ (tag : Kind → Bytes) (t : Bytes) where
  record_inside : (a : Record) → inside (length t) (last_of a) ≡ true → (made : Model.Record) × (record_in t a ≡ accepted made) × (print_record tag made ++ (10 ∷ []) ≡ printed tag t a)
  unfolding inside record_in given_in checksum_in print_record print_fields print_end print_taken print_checksum joined printed separated last_field
  record_inside (TestName p) e = (Model.test_name (take p.len (drop p.start t)), rw (part-there t p e), line_fields_lem tag Kd.TestName (take p.len (drop p.start t)) [])
  record_inside (SourceFile p) e = (Model.source_file (take p.len (drop p.start t)), rw (part-there t p e), line_fields_lem tag Kd.SourceFile (take p.len (drop p.start t)) [])
  record_inside (FunctionName n (Some l) p) e = (Model.function_name n (some l) (take p.len (drop p.start t)), rw (part-there t p e), line_fields_lem tag Kd.FunctionName (decimal n) (decimal l ∷ take p.len (drop p.start t) ∷ []))
  record_inside (FunctionName n None p) e = (Model.function_name n none (take p.len (drop p.start t)), rw (part-there t p e), line_fields_lem tag Kd.FunctionName (decimal n) (take p.len (drop p.start t) ∷ []))
  record_inside (FunctionData n p) e = (Model.function_data n (take p.len (drop p.start t)), rw (part-there t p e), line_fields_lem tag Kd.FunctionData (decimal n) (take p.len (drop p.start t) ∷ []))
  record_inside (FunctionsFound n) e = (Model.functions_found n, refl, line_fields_lem tag Kd.FunctionsFound (decimal n) [])
  record_inside (FunctionsHit n) e = (Model.functions_hit n, refl, line_fields_lem tag Kd.FunctionsHit (decimal n) [])
  record_inside (BranchData l b c (Some n)) e = (Model.branch_data l b c (some n), refl, line_fields_lem tag Kd.BranchData (decimal l) (decimal b ∷ decimal c ∷ decimal n ∷ []))
  record_inside (BranchData l b c None) e = (Model.branch_data l b c none, refl, line_fields_lem tag Kd.BranchData (decimal l) (decimal b ∷ decimal c ∷ ascii "-" ∷ []))
  record_inside (BranchesFound n) e = (Model.branches_found n, refl, line_fields_lem tag Kd.BranchesFound (decimal n) [])
  record_inside (BranchesHit n) e = (Model.branches_hit n, refl, line_fields_lem tag Kd.BranchesHit (decimal n) [])
  record_inside (LineData l n (Some p)) e = (Model.line_data l n (some (take p.len (drop p.start t))), rw (part-there t p e), line_fields_lem tag Kd.LineData (decimal l) (decimal n ∷ take p.len (drop p.start t) ∷ []))
  record_inside (LineData l n None) e = (Model.line_data l n none, refl, line_fields_lem tag Kd.LineData (decimal l) (decimal n ∷ []))
  record_inside (LinesFound n) e = (Model.lines_found n, refl, line_fields_lem tag Kd.LinesFound (decimal n) [])
  record_inside (LinesHit n) e = (Model.lines_hit n, refl, line_fields_lem tag Kd.LinesHit (decimal n) [])
  record_inside EndOfRecord e = (Model.end_of_record, refl, ap (λ (l : Bytes). l ++ (10 ∷ [])) (sym (append-nil (tag Kd.EndOfRecord))))

  -- its line is the line of the record that the lent record is
  line-printed : (a : Record) → inside (length t) (last_of a) ≡ true → line_in tag t a ≡ printed tag t a
  unfolding line_in
  line-printed a e = let (made, is, q) = record_inside a e in rw is q

  line-inside : (a : Record) (room : ℕ) → inside (length t) (last_of a) ≡ true → print_line tag t a room ≡ written room (printed tag t a)
  unfolding print_line
  line-inside a room e = let (made, is, q) = record_inside a e in rw (is, q)

  none-outside : (a : Record) → inside (length t) (last_of a) ≡ false → line_in tag t a ≡ []
  unfolding line_in
  none-outside a e = rw (record_outside t a e)

  line-outside : (a : Record) (room : ℕ) → inside (length t) (last_of a) ≡ false → print_line tag t a room ≡ refuse PartOutside
  unfolding print_line
  line-outside a room e = rw (record_outside t a e)

module _ (tag : Kind → Bytes) (t : Bytes) (a : Record) (s : Fields) (w : FieldsOf a s) where
  form : Kind → List ℕ → Last → Bytes
  form kind ns last = tag kind ++ separated 58 (map decimal ns ++ last_field t last) ++ (10 ∷ [])

  fields_form : line_text tag t s.kind s.numbers s.count s.last ≡ form s.kind (take s.count s.numbers) s.last
  unfolding line_text fields_text head_of number_texts form
  fields_form =
      ap (λ (l : Bytes). l ++ (10 ∷ []))
      (append_assoc (tag s.kind) (separated 58 (number_texts s.numbers s.count)) (separated (sep_after s.count) (last_field t s.last))
      ∙ ap (λ (l : Bytes). tag s.kind ++ l) (sym (after-numbers s.numbers s.count (last_field t s.last) w.long)))

  fields_printed : line_text tag t s.kind s.numbers s.count s.last ≡ printed tag t a
  unfolding printed form
  fields_printed =
      fields_form
      ∙ ap (λ (k : Kind). form k (take s.count s.numbers) s.last) w.kind
      ∙ ap (λ (ns : List ℕ). form (kind_of a) ns s.last) w.numbers
      ∙ ap (λ (l : Last). form (kind_of a) (numbers_of a) l) w.last

  module _ (r : Bool) (tested : r ≡ inside (length t) s.last) where
    tested_of : (d : Bool) → r ≡ d → inside (length t) (last_of a) ≡ d
    tested_of d e = ap (inside (length t)) (sym w.last) ∙ sym tested ∙ e

    pub print_outside : (room : ℕ) (q : Refusal) → r ≡ false → q ≡ needed_at PartOutside 0 → Err q ≡ length_answer (print_line tag t a room)
    unfolding length_answer
    print_outside room q e f = rw (line-outside tag t a room (tested_of false e), f)

    pub none_measured : r ≡ false → 0 ≡ length (line_in tag t a)
    none_measured e = rw (none-outside tag t a (tested_of false e))

    pub print_left : (out : Bytes) → r ≡ false → out ≡ output_after (print_line tag t a (length out)) out
    unfolding output_after
    print_left out e = rw (line-outside tag t a (length out) (tested_of false e))

    module _ (yes : r ≡ true) where
      pub print_within : inside (length t) s.last ≡ true
      print_within = sym tested ∙ yes

      pub last-most : length t * 1 < 2 ^ 63 → last_len s.last ≤ 9223372036854775808
      last-most h = inside-most t s.last print_within h

      module _ (n : ℕ) (is : n ≡ length (head_of tag s.kind s.numbers s.count) + last_len s.last + 1) where
        needed : n ≡ length (printed tag t a)
        needed =
            is
            ∙ line_len tag t s.kind s.count s.numbers s.last _ (fields_len tag t s.kind s.count s.numbers s.last _ _ print_within refl refl)
            ∙ ap length fields_printed

        pub line_measured : n ≡ length (line_in tag t a)
        line_measured = needed ∙ ap length (sym (line-printed tag t a (tested_of true yes)))

        module _ {room : ℕ} {f : Bool} (fit : Fitting tag s room f) (bad : f ≡ false) where
          too_long : room < n
          too_long = rw is (leb-false _ _ (sym fit.is ∙ bad))

          short : print_line tag t a room ≡ refuse_length n
          unfolding written
          short = line-inside tag t a room (tested_of true yes) ∙ rw (← needed, lt-leb n room too_long)

          pub print_short : (q : Refusal) → n ≤ max_head + last_len s.last → length t * 1 < 2 ^ 63 → q ≡ needed_at OutputTooShort n → Err q ≡ length_answer (print_line tag t a room)
          unfolding length_answer
          print_short q few b e =
              let m : min n u64_max ≡ n = omega (arith, last-most b) in
              rw (short, e, m)

        pub print_kept : {f : Bool} (out : Bytes) → Fitting tag s (length out) f → f ≡ false → out ≡ output_after (print_line tag t a (length out)) out
        unfolding output_after
        print_kept out fit bad = rw (short fit bad)

      module _ {room : ℕ} {f : Bool} (fit : Fitting tag s room f) (good : f ≡ true) where
        room_enough : length (printed tag t a) ≤ room
        room_enough = rw (← (needed _ refl)) (leb-true _ _ (sym fit.is ∙ good))

        fits_in : print_line tag t a room ≡ accepted (printed tag t a)
        unfolding written
        fits_in = line-inside tag t a room (tested_of true yes) ∙ rw (le-leb (length (printed tag t a)) room room_enough)

        pub print_room : length (line_text tag t s.kind s.numbers s.count s.last) ≤ room
        print_room = rw fields_printed room_enough

        pub print_written : (n : ℕ) → n ≡ length (line_text tag t s.kind s.numbers s.count s.last) → Ok n ≡ length_answer (print_line tag t a room)
        unfolding length_answer
        print_written n e = rw (fits_in, e, fields_printed)

      pub print_out : {f : Bool} (old out : Bytes) → Fitting tag s (length old) f → f ≡ true → out ≡ over (line_text tag t s.kind s.numbers s.count s.last) old → out ≡ output_after (print_line tag t a (length old)) old
      unfolding output_after
      print_out old out fit good e = rw (fits_in fit good) (rw fields_printed at e)

-- ---- what the printer leaves, for callers with room

pub line_made : (tag : Kind → Bytes) (t : Bytes) (a : Record) (made : Model.Record) → record_in t a ≡ accepted made → line_in tag t a ≡ print_record tag made ++ (10 ∷ [])
unfolding line_in
line_made tag t a made e = rw e

-- what the printer answers, and leaves in an output with room for the line
module _ (tag : Kind → Bytes) (old : Bytes) where
  abbrev answer : Answer Model.Record → Answer Bytes
  answer made = made >>= λ m. written (length old) (line_of tag (accepted m))

  answer_out : (made : Answer Model.Record) → length (line_of tag made) ≤ length old → output_after (answer made) old ≡ over (line_of tag made) old
  unfolding output_after
  answer_out (accepted m) h = rw (written-fits (print_record tag m ++ (10 ∷ [])) (length old) h)
  answer_out (refused r) h = refl

  answer_written : (made : Answer Model.Record) (n : ℕ) → length (line_of tag made) ≤ length old → Ok n ≡ length_answer (answer made) → n ≡ length (line_of tag made)
  unfolding length_answer
  answer_written (accepted m) n h e = let q = rw (written-fits (print_record tag m ++ (10 ∷ [])) (length old) h) at e in cc
  answer_written (refused r) n h e = cc

  answer_refused : (made : Answer Model.Record) (q : Refusal) → length (line_of tag made) ≤ length old → Err q ≡ length_answer (answer made) → line_of tag made ≡ []
  unfolding length_answer
  answer_refused (accepted m) q h e = let q = rw (written-fits (print_record tag m ++ (10 ∷ [])) (length old) h) at e in cc
  answer_refused (refused r) q h e = refl

  module _ (t : Bytes) (a : Record) (room : length (line_in tag t a) ≤ length old) where
    pub lent_out : output_after (print_line tag t a (length old)) old ≡ over (line_in tag t a) old
    unfolding print_line line_in
    lent_out = answer_out (record_in t a) room

    pub lent_written : (n : ℕ) → Ok n ≡ length_answer (print_line tag t a (length old)) → n ≡ length (line_in tag t a)
    unfolding print_line line_in
    lent_written n e = answer_written (record_in t a) n room e

    pub lent-refused : (q : Refusal) → Err q ≡ length_answer (print_line tag t a (length old)) → line_in tag t a ≡ []
    unfolding print_line line_in
    lent-refused q e = answer_refused (record_in t a) q room e
