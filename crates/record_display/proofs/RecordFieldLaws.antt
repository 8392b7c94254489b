-- A record's fields, and the line that its fields make. Assumes nothing.
use Rattle.std.specs.Prelude.{Option}
use Prim.Native.Nat.{ℕ, zero, suc, ◌+◌, ◌-◌, ◌*◌, ◌^◌, ◌≤◌, ◌<◌}
use mathlib.Core.Path.{◌≡◌, refl, sym, ap, ◌∙◌}
use mathlib.Core.List.{List, [], ◌∷◌, ◌++◌, map, append_assoc, append-nil}
use mathlib.Core.Bool.{true}
use native.Mathlib.Omega.{arith}
use native.Mathlib.Numerals.{one-add}
use lib.Dec.{eqb-suc-zero}
use lib.ListN.{length, take, drop, set, length-append, length-drop, length-take}
use lib.Seq.{length-take-le}
use mir.Val.{Fits}
use mir.Syntax.{w64}
use borrow.Author.Tests.{leb-true, le-leb}
use Rattle.model.specs.declared.Kind.{Kind}
use Rattle.model.specs.declared.Part.{Part}
use Rattle.model.specs.declared.Record.{Record}
use Rattle.model.specs.declared.Record.TheVariants.{FunctionName, BranchData, LineData}
use Rattle.model.specs.Bytes.{Bytes}
use Rattle.model.specs.TagTable.{tags_of, are_tags}
use Rattle.model.proofs.TagTableLaws.{tags-few}
use Rattle.model.specs.Number.{decimal}
use Rattle.format.specs.Put.{over}
use Rattle.format.proofs.DecimalLaws.{decimal-most}
use Rattle.record_display.specs.Fields.{FieldsOf, separated, number_texts, last_len, last_field, inside, sep_after, head_of, max_head, fields_text, line_text, Fitting}
use Rattle.record_display.specs.declared.fields.Last.{Last}
use Rattle.record_display.specs.declared.fields.Last.TheVariants as L
use Rattle.record_display.specs.declared.fields.Fields.{Fields}
use Rattle.format.proofs.OverLaws.{second-room, last_within, last_out, last-kept}

-- the fields of a record that is known by its variant
pub fields_is : (a b : Record) (s : Fields) → a ≡ b → FieldsOf b s → FieldsOf a s
fields_is a b s e h = rw e h

pub fields_end : (n : ℕ) (t u : Option ℕ) (p : Part) (s : Fields) → t ≡ u → FieldsOf (FunctionName n u p) s → FieldsOf (FunctionName n t p) s
fields_end n t u p s e h = rw e h

pub fields_taken : (l b c : ℕ) (t u : Option ℕ) (s : Fields) → t ≡ u → FieldsOf (BranchData l b c u) s → FieldsOf (BranchData l b c t) s
fields_taken l b c t u s e h = rw e h

pub fields_checksum : (l n : ℕ) (t u : Option Part) (s : Fields) → t ≡ u → FieldsOf (LineData l n u) s → FieldsOf (LineData l n t) s
fields_checksum l n t u s e h = rw e h

pub ruleset field_laws = (fields_is, fields_end, fields_taken, fields_checksum)

-- the last field's length
module _ (tag : Kind → Bytes) (t : Bytes) where
  long-last : (last : Last) (sep : ℕ) → inside (length t) last ≡ true → length (separated sep (last_field t last)) ≡ last_len last
  unfolding separated last_field last_len inside
  long-last L.Nothing sep e = refl
  long-last L.Dash sep e = refl
  long-last (L.Text p) sep e =
      let h : p.start + p.len ≤ length t = leb-true (p.start + p.len) (length t) e in
      let k : length (take p.len (drop p.start t)) ≡ p.len = length-take-le p.len (drop p.start t) (simp length-drop (omega arith)) in
      ap (λ (l : Bytes). suc (length l)) (append-nil (take p.len (drop p.start t))) ∙ ap suc k ∙ sym (one-add p.len)

  module _ (kind : Kind) (count sep : ℕ) (numbers : List ℕ) (last : Last) (is : sep ≡ sep_after count) where
    pub fields_are : fields_text tag t kind numbers count last ≡ head_of tag kind numbers count ++ separated sep (last_field t last)
    unfolding fields_text
    fields_are = rw is

    pub last-room : (old out : Bytes) (at : ℕ) → inside (length t) last ≡ true → out ≡ over (head_of tag kind numbers count) old → at ≡ length (head_of tag kind numbers count) → length (fields_text tag t kind numbers count last) ≤ length old → last_len last ≤ length (take (length out - at) (drop at out))
    last-room old out at e held up_to room = rw (long-last last sep e) at (second-room (fields_text tag t kind numbers count last) (head_of tag kind numbers count) (separated sep (last_field t last)) old fields_are room out at held up_to)

  module _ (kind : Kind) (count : ℕ) (numbers : List ℕ) (last : Last) (at n : ℕ) (within : inside (length t) last ≡ true) (e : at ≡ length (head_of tag kind numbers count)) (f : n ≡ last_len last) where
    pub fields_len : at + n ≡ length (fields_text tag t kind numbers count last)
    unfolding fields_text
    fields_len = rw (e, f, length-append, long-last last (sep_after count) within)

    pub fields_fits : (old : Bytes) → length (fields_text tag t kind numbers count last) ≤ length old → length old < 2 ^ 64 → Fits w64 (at + n)
    fields_fits old room h = record { fits = omega (arith, fields_len) }

  module _ (kind : Kind) (count : ℕ) (numbers : List ℕ) (last : Last) (n : ℕ) where
    pub fields_first : length (fields_text tag t kind numbers count last) ≤ n → length (head_of tag kind numbers count) ≤ n
    unfolding fields_text
    fields_first h = omega (arith, length-append (head_of tag kind numbers count) (separated (sep_after count) (last_field t last)))

    line-more : length (line_text tag t kind numbers count last) ≡ length (fields_text tag t kind numbers count last) + 1
    unfolding line_text
    line-more = length-append (fields_text tag t kind numbers count last) (10 ∷ [])

    pub line_first : length (line_text tag t kind numbers count last) ≤ n → length (fields_text tag t kind numbers count last) ≤ n
    line_first h = omega (arith, line-more)

    pub line_len : n ≡ length (fields_text tag t kind numbers count last) → n + 1 ≡ length (line_text tag t kind numbers count last)
    line_len e = omega (arith, line-more)

    module _ (old out : Bytes) (held : out ≡ over (fields_text tag t kind numbers count last) old) (up_to : n ≡ length (fields_text tag t kind numbers count last)) (room : length (line_text tag t kind numbers count last) ≤ length old) where
      short : n < length old
      short = omega (arith, line-more)

      pub line-within : n < length out
      line-within = last_within old out (fields_text tag t kind numbers count last) n 10 held up_to short

      pub line-fits : length old < 2 ^ 64 → Fits w64 (n + 1)
      line-fits h = record { fits = omega (arith, line-more) }

      pub line-out : set out n 10 ≡ over (line_text tag t kind numbers count last) old
      unfolding line_text
      line-out = last_out old out (fields_text tag t kind numbers count last) n 10 held up_to short

      pub line_kept : length (set out n 10) ≡ length old
      line_kept = last-kept old out (fields_text tag t kind numbers count last) n 10 held up_to short

-- fields after fields
all_commas : (fs gs : List Bytes) → separated 44 (fs ++ gs) ≡ separated 44 fs ++ separated 44 gs
unfolding separated
all_commas [] gs = refl
all_commas (f ∷ fs) gs =
    ap (λ (l : Bytes). 44 ∷ f ++ l) (all_commas fs gs) ∙ ap (λ (l : Bytes). 44 ∷ l) (sym (append_assoc f (separated 44 fs) (separated 44 gs)))

pub after-numbers : (numbers : List ℕ) (count : ℕ) (gs : List Bytes) → count ≤ length numbers → separated 58 (number_texts numbers count ++ gs) ≡ separated 58 (number_texts numbers count) ++ separated (sep_after count) gs
unfolding separated number_texts sep_after
after-numbers numbers zero gs h = refl
after-numbers [] (suc count) gs h = absurd (omega arith)
after-numbers (x ∷ ns) (suc count) gs h =
    rw (eqb-suc-zero count)
    (ap (λ (l : Bytes). 58 ∷ decimal x ++ l) (all_commas (map decimal (take count ns)) gs)
    ∙ ap (λ (l : Bytes). 58 ∷ l) (sym (append_assoc (decimal x) (separated 44 (map decimal (take count ns))) (separated 44 gs))))

-- ---- the longest head

numbers-most : (sep : ℕ) (ns : List ℕ) → length (separated sep (map decimal ns)) ≤ 21 * length ns
unfolding separated
numbers-most sep [] = omega arith
numbers-most sep (n ∷ ns) = omega (arith, decimal-most n, numbers-most 44 ns, length-append (decimal n) (separated 44 (map decimal ns)))

head_most : (tags : Bytes) → are_tags tags ≡ true → (kind : Kind) (count : ℕ) (numbers : List ℕ) → count ≤ 4 → length (head_of (tags_of tags) kind numbers count) ≤ 100
unfolding head_of number_texts
head_most tags are kind count numbers h =
    omega (arith, tags-few tags are kind, numbers-most 58 (take count numbers), length-take count numbers, length-append (tags_of tags kind) (separated 58 (map decimal (take count numbers))))

-- whether a line fits
pub fits-any : {s : Fields} {room : ℕ} (tags : Bytes) → are_tags tags ≡ true → (n : ℕ) → s.count ≤ 4 → n ≡ last_len s.last → max_head + n ≤ room → Fitting (tags_of tags) s room true
fits-any {s} {room} tags are n few e h =
    record { is = sym (le-leb (length (head_of (tags_of tags) s.kind s.numbers s.count) + last_len s.last + 1) room (omega (arith, head_most tags are s.kind s.count s.numbers few))) }
