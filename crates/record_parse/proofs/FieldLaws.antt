-- The fields of a body, left to right: each starts at a position of the line. Assumes nothing.
use Rattle.std.specs.Prelude.{Option as LentOption, Result, Some, None, Ok, Err}
use Rattle.model.specs.declared.Record.{Record as LentRecord}
use Rattle.model.specs.declared.Refusal.{Refusal}
use Prim.Native.Nat.{ℕ, zero, suc, ◌+◌, ◌-◌, ◌*◌, ◌^◌, ◌≤◌, ◌<◌}
use mathlib.Core.Path.{◌≡◌, refl, sym, ap, ◌∙◌}
use mathlib.Core.List.{[], ◌∷◌}
use mathlib.Core.Bool.{Bool, true, false, cond}
use mathlib.Core.Option.{Option, none, some}
use native.Mathlib.Omega.{arith}
use native.Mathlib.Numerals.{add-one}
use lib.Dec.{ltb, eqb, leb-suc-suc}
use lib.ListN.{length, take, drop, length-take, length-drop}
use lib.Seq.{take_all, drop-drop}
use borrow.Author.Tests.{lt-ltb}
use Rattle.ordmap.proofs.Results.{impossible}
use Rattle.model.specs.declared.Fault.{Fault}
use Rattle.model.specs.declared.Part.{Part}
use Rattle.model.specs.Bytes.{Bytes, ascii, comma, same_bytes, before, after}
use Rattle.model.specs.Answer.{Answer, accepted, refused, refuse_field}
use Rattle.model.specs.Number.{read_number}
use Rattle.model.specs.Line.{from_field, in_field, number_field}
use Rattle.model.specs.Parts.{end_part}
use Rattle.scan.specs.declared.Number.{Number}
use Rattle.scan.specs.declared.Number.TheVariants as N
use Rattle.scan.specs.Scan.{followed, number_in, next_of, NumberRead}
use Rattle.scan_digits.specs.Word.{ShortRead, EndOf}
use Rattle.record_parse.specs.declared.fields.Field.{Field}
use Rattle.record_parse.specs.declared.fields.Field.TheVariants.{Last, More, Fault as Bad}
use Rattle.record_parse.specs.Fields.{number_refusal, field_of, in_line, NumberField, part_from, checksum_from}

-- the rest of a line from a position, as the code lends it
abbrev pub part : Bytes → ℕ → Bytes
part s at = take (length s - at) (drop at s)

pub to_end : (s : Bytes) (at : ℕ) → part s at ≡ drop at s
to_end s at = take_all (length s - at) (drop at s) (simp length-drop (omega arith))

-- a part up to the end of the line
pub part_rest : (line : Bytes) (at : ℕ) → at ≤ length line → part_from at (part line at) ≡ end_part line (drop at line)
unfolding end_part
part_rest line at h =
    let start : length line - length (drop at line) ≡ at = rw (length-drop at line) (omega arith) in
    rw (to_end line at, start)

-- what is left after the first separator
pub after_at : (c : ℕ) (s : Bytes) → after c s ≡ cond (ltb (length (before c s)) (length s)) (some (drop (length (before c s) + 1) s)) none
unfolding after before
after_at c [] = refl
after_at c (b ∷ bs) = go (eqb b c) (after_at c bs)
  where
    go : (d : Bool) → after c bs ≡ cond (ltb (length (before c bs)) (length bs)) (some (drop (length (before c bs) + 1) bs)) none → cond d (some bs) (after c bs) ≡ cond (ltb (length (cond d [] (b ∷ before c bs))) (suc (length bs))) (some (drop (length (cond d [] (b ∷ before c bs)) + 1) (b ∷ bs))) none
    go true e = rw (lt-ltb 0 (suc (length bs)) (omega arith))
    go false e = e ∙ rw (leb-suc-suc (suc (length (before c bs))) (length bs), add-one, add-one)

after-drop : (c : ℕ) (s rest : Bytes) → after c s ≡ some rest → rest ≡ drop (length (before c s) + 1) s
after-drop c s rest e = go (ltb (length (before c s)) (length s)) (sym (after_at c s) ∙ e)
  where
    go : (d : Bool) → cond d (some (drop (length (before c s) + 1) s)) none ≡ some rest → rest ≡ drop (length (before c s) + 1) s
    go true q = cc
    go false q = cc

-- ---- a number's answer taken apart

module _ (at : ℕ) (a : Answer ℕ) (n : ℕ) (o : Option Bytes) where
  told_more : (v k : ℕ) → More v k ≡ in_line at (followed a n o) → (a ≡ accepted v) × (k ≡ at + (n + 1)) × ((rest : Bytes) × (o ≡ some rest))
  told_more v k e = go a o e
    where
      go : (a : Answer ℕ) (o : Option Bytes) → More v k ≡ in_line at (followed a n o) → (a ≡ accepted v) × (k ≡ at + (n + 1)) × ((rest : Bytes) × (o ≡ some rest))
      go (accepted u) none e = impossible cc
      go (accepted u) (some rest) e = let z : k ≡ at + n + 1 = cc in (cc, omega (arith, z), (rest, refl))
      go (refused r) o e = impossible cc

  told_last : (v : ℕ) → Last v ≡ in_line at (followed a n o) → (a ≡ accepted v) × (o ≡ none)
  told_last v e = go a o e
    where
      go : (a : Answer ℕ) (o : Option Bytes) → Last v ≡ in_line at (followed a n o) → (a ≡ accepted v) × (o ≡ none)
      go (accepted u) none e = (cc, refl)
      go (accepted u) (some rest) e = impossible cc
      go (refused r) o e = impossible cc

  told_bad : (f : Fault) (field : ℕ) → Bad f ≡ in_line at (followed a n o) → in_field field a ≡ refuse_field f field
  unfolding in_field
  told_bad f field e = go a o e
    where
      go : (a : Answer ℕ) (o : Option Bytes) → Bad f ≡ in_line at (followed a n o) → in_field field a ≡ refuse_field f field
      go (accepted u) none e = impossible cc
      go (accepted u) (some rest) e = impossible cc
      go (refused r) o e = let z : r.fault ≡ f = cc in rw z

-- ---- where a field starts

pub record FieldAt (body line : Bytes) (k at : ℕ) : Type 0 where
  pub is : from_field k body ≡ some (drop at line)
  pub within : at ≤ length line

pub first_field : (line : Bytes) (at : ℕ) → at ≤ length line → FieldAt (drop at line) line 1 at
unfolding from_field
first_field line at h = record { is = refl; within = h }

-- the next field starts in the line
pub next-within : {max v n : ℕ} (line : Bytes) (at : ℕ) (got : Field) → got ≡ More v n → NumberField max at (part line at) got → at ≤ length line → n ≤ length line
next-within {max} {v} {n} line at got is seen h =
    let m : n ≤ at + length (part line at) = rw is at seen.long in
    let k = simp (length-take, length-drop) at m in
    omega (arith, h, k)

-- a number field and what the code read there
module _ {body line : Bytes} {k at max : ℕ} (here : FieldAt body line k at) {got : Field} (seen : NumberField max at (part line at) got) where
  -- the model's answer, and what follows it
  value : Answer ℕ
  value = read_number max (before comma (drop at line))

  seen-is : got ≡ in_line at (followed value (length (before comma (drop at line))) (after comma (drop at line)))
  unfolding value number_in
  seen-is = rw (to_end line at) at seen.is

  field_is : number_field max k body ≡ in_field k value
  unfolding value number_field
  field_is = rw (here.is, number_field)

  field_next : from_field (suc k) body ≡ after comma (drop at line)
  unfolding from_field
  field_next = go k here.is
    where
      go : (j : ℕ) → from_field j body ≡ some (drop at line) → from_field (suc j) body ≡ after comma (drop at line)
      go zero e = impossible cc
      go (suc j) e = rw (e, from_field)

  module _ (v : ℕ) (is : got ≡ Last v) where
    last_told : (value ≡ accepted v) × (after comma (drop at line) ≡ none)
    last_told = told_last at value (length (before comma (drop at line))) (after comma (drop at line)) v (sym is ∙ seen-is)

    pub last_value : number_field max k body ≡ accepted v
    unfolding in_field
    last_value = rw (field_is, last_told.0)

    pub no_field : from_field (suc k) body ≡ none
    no_field = field_next ∙ last_told.1

  module _ (v n : ℕ) (is : got ≡ More v n) where
    more_told : (value ≡ accepted v) × (n ≡ at + (length (before comma (drop at line)) + 1)) × ((rest : Bytes) × (after comma (drop at line) ≡ some rest))
    more_told = told_more at value (length (before comma (drop at line))) (after comma (drop at line)) v n (sym is ∙ seen-is)

    pub more_value : number_field max k body ≡ accepted v
    unfolding in_field
    more_value = rw (field_is, more_told.0)

    pub next_field : FieldAt body line (suc k) n
    next_field = go more_told
      where
        go : (value ≡ accepted v) × (n ≡ at + (length (before comma (drop at line)) + 1)) × ((rest : Bytes) × (after comma (drop at line) ≡ some rest)) → FieldAt body line (suc k) n
        go (a, q, (rest, o)) =
            record {
              is = field_next ∙ o ∙ ap (λ (l : Bytes). some l) (after-drop comma (drop at line) rest o ∙ rw (q, drop-drop));
              within = next-within line at got is seen here.within;
            }

  pub bad_value : (f : Fault) → got ≡ Bad f → number_field max k body ≡ refuse_field f k
  bad_value f e = field_is ∙ told_bad at value (length (before comma (drop at line))) (after comma (drop at line)) f k (sym e ∙ seen-is)

-- ---- a checksum, or "-"

module _ (start : ℕ) (rest : Bytes) (d : Bool) (is : d ≡ same_bytes rest (ascii "-")) where
  pub checksum_dash : d ≡ true → None ≡ checksum_from start rest
  checksum_dash e = rw (← is, e)

  pub checksum_text : (p : Part) → d ≡ false → p ≡ part_from start rest → Some p ≡ checksum_from start rest
  checksum_text p e q = rw (← is, e, q)

-- ---- a number's refusal, known by its variant

pub refusal_of_lem : (got number : Field) (field : ℕ) (r : Result LentRecord Refusal) → got ≡ number → r ≡ number_refusal field number → r ≡ number_refusal field got
refusal_of_lem got number field r e q = rw e q

-- ---- a number, its next field as a position of the line

told_field : {max : ℕ} (start : ℕ) {rest : Bytes} (n : Number) → NumberRead max rest (Ok n) → NumberField max start rest (field_of start n)
told_field start (N.Last v d) seen = record { is = ap (in_line start) seen.is; long = omega arith; most = seen.most }
told_field start (N.More v d) seen = record { is = ap (in_line start) seen.is; long = omega (arith, seen.long); most = seen.most }

module _ {max : ℕ} (start : ℕ) {rest : Bytes} {got : Result Number Fault} (seen : NumberRead max rest got) where
  pub number_told : (n : Number) (r : Field) → got ≡ Ok n → r ≡ field_of start n → NumberField max start rest r
  number_told n r e q = rw q (told_field start n (rw e at seen))

  pub number_bad : (f : Fault) → got ≡ Err f → NumberField max start rest (Bad f)
  number_bad f e = record { is = ap (in_line start) (sym e ∙ seen.is); long = omega arith; most = omega arith }

  -- the digits and the comma are in the part
  pub number_room : (n : Number) → got ≡ Ok n → start + length rest < 2 ^ 64 → start + next_of (Ok n) < 2 ^ 64
  number_room n e h = let room : next_of (Ok n) ≤ length rest = rw e at seen.long in omega (arith, room)

-- ---- a short number

-- the part from a position on ends the line
pub part_end : (line : Bytes) (at : ℕ) → at ≤ length line → EndOf line (part line at)
part_end line at h =
    let long : length (part line at) ≡ length line - at = simp (length-take, length-drop) (omega arith) in
    let start : length line - length (part line at) ≡ at = omega (arith, long, h) in
    record { within = omega (arith, long); is = to_end line at ∙ ap (λ (k : ℕ). drop k line) (sym start) }

module _ {rest : Bytes} (start : ℕ) (short : LentOption Number) (told : ShortRead rest short) (n : Number) (e : short ≡ Some n) where
  pub short_seen : (max : ℕ) → 99999999 ≤ max → NumberRead max rest (Ok n)
  short_seen max k = rw e at (told.is max k)

  pub short_told : (max : ℕ) (r : Field) → 99999999 ≤ max → r ≡ field_of start n → NumberField max start rest r
  short_told max r k q = rw q (told_field start n (short_seen max k))

  pub short_room : start + length rest < 2 ^ 64 → start + next_of (Ok n) < 2 ^ 64
  short_room h = number_room start (short_seen 99999999 (omega arith)) n refl h

-- the part from a position on starts and ends in the line
pub part_fits : (line : Bytes) (at : ℕ) → at ≤ length line → length line * 1 < 2 ^ 63 → at + length (part line at) < 2 ^ 64
part_fits line at h k = simp (length-take, length-drop) (omega arith)
