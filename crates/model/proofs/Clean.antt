-- What a line that is read holds: numbers in range, and texts without byte 10 at whose end nothing is trimmed. Assumes nothing.
use Prim.Native.Nat.{ℕ, zero, suc, ◌+◌, ◌-◌, ◌*◌, ◌≤◌, zero-le}
use native.Mathlib.Omega.{arith}
use mathlib.Core.Path.{◌≡◌, refl, ap, ◌∙◌}
use mathlib.Core.Bool.{Bool, true, false, ◌||◌}
use mathlib.Core.List.{List, [], ◌∷◌}
use mathlib.Core.Option.{Option, none, some}
use lib.Dec.{eqb, leb}
use borrow.Author.Tests.{leb-true}
use Rattle.ordmap.proofs.Results.{impossible, accepted_inj, not_accepted, bind-accepted}
use Rattle.model.specs.declared.Fault.TheVariants.{UnknownRecord, FieldNotFound, TooManyFields, EndBeforeStart, InvalidDigit, NumberOverflow, SignedNumber}
use Rattle.model.specs.declared.Kind.{Kind}
use Rattle.model.specs.declared.Kind.TheVariants as K
use Rattle.std.specs.Prelude.{if◌then◌else◌}
use Rattle.model.specs.Bytes.{Bytes, ascii, newline, return, comma, colon, same_bytes, before, after, onto, split, Free}
use Rattle.model.specs.Answer.{Answer, accepted, refused, ◌>>=◌, refuse, refuse_field}
use Rattle.model.specs.Limits.{u32_max, u64_max}
use Rattle.model.specs.Number.{is_digit, read_digits, read_number}
use Rattle.model.specs.Record.{
  Record,
  test_name,
  source_file,
  function_name,
  function_data,
  functions_found,
  functions_hit,
  branch_data,
  branches_found,
  branches_hit,
  line_data,
  lines_found,
  lines_hit,
  end_of_record,
}
use Rattle.model.specs.Tags.{all_kinds}
use Rattle.model.specs.Line.{
  begins_with_end,
  with_end,
  read_function,
  before_trimmed,
  trimmed,
  kind_among,
  from_field,
  in_field,
  number_field,
  text_field,
  taken_field,
  checksum_field,
  last_before,
  read_one,
  read_body,
  body_of,
  read_trimmed,
  read_record,
}
use Rattle.model.specs.Reading.{without_empty_last, lines}
use Rattle.model.specs.Report.{extent_at}
use Rattle.model.specs.Valid.{ExtentFits, LineText, Given, ChecksumText}
use Rattle.model.proofs.ByteLaws.{Trim}
use Rattle.model.proofs.FieldTexts.{after_has, from_has, text_has}

-- ---- texts

pub clean_none : LineText []
unfolding trimmed
clean_none = record { one_line = tt; clean_end = refl }

trim_tail : (b : ℕ) (bs : Bytes) → Trim (b ∷ bs) → Trim bs
unfolding trimmed before_trimmed
trim_tail b bs t = go (trimmed bs) refl t
  where
    short : (test : Bool) → (if test then [] else b ∷ []) ≡ b ∷ bs → [] ≡ bs
    short true p = cc
    short false p = cc

    go : (r : Bytes) → trimmed bs ≡ r → before_trimmed b r ≡ b ∷ bs → trimmed bs ≡ bs
    go [] e p = e ∙ short (eqb b newline || eqb b return) p
    go (c ∷ cs) e p = let f : c ∷ cs ≡ bs = cc in e ∙ f

clean_tail : (b : ℕ) (bs : Bytes) → LineText (b ∷ bs) → LineText bs
clean_tail b bs c = record { one_line = c.one_line.1; clean_end = trim_tail b bs c.clean_end }

clean_after : (sep : ℕ) (bs : Bytes) {rest : Bytes} → LineText bs → after sep bs ≡ some rest → LineText rest
clean_after = after_has LineText clean_tail

free-before_trimmed : (b : ℕ) (bs : Bytes) → eqb b newline ≡ false → Free newline bs → Free newline (before_trimmed b bs)
unfolding before_trimmed
free-before_trimmed b [] h f = go (eqb b newline || eqb b return)
  where
    go : (test : Bool) → Free newline (if test then [] else b ∷ [])
    go true = tt
    go false = (h, tt)
free-before_trimmed b (c ∷ cs) h f = (h, f)

free-trimmed : (bs : Bytes) → Free newline bs → Free newline (trimmed bs)
unfolding trimmed
free-trimmed [] f = tt
free-trimmed (b ∷ bs) f = free-before_trimmed b (trimmed bs) f.0 (free-trimmed bs f.1)

trim_before_trimmed : (b : ℕ) (bs : Bytes) → Trim bs → Trim (before_trimmed b bs)
unfolding trimmed before_trimmed
trim_before_trimmed b [] t = go (eqb b newline || eqb b return) refl
  where
    go : (test : Bool) → (eqb b newline || eqb b return) ≡ test → Trim (if test then [] else b ∷ [])
    go true e = refl
    go false e = rw e
trim_before_trimmed b (c ∷ cs) t = ap (before_trimmed b) t

trim_trimmed : (bs : Bytes) → Trim (trimmed bs)
unfolding trimmed
trim_trimmed [] = refl
trim_trimmed (b ∷ bs) = trim_before_trimmed b (trimmed bs) (trim_trimmed bs)

-- ---- lines

abbrev AllFree : ℕ → List Bytes → Type 0
AllFree sep [] = Unit {0}
AllFree sep (piece ∷ pieces) = Free sep piece × AllFree sep pieces

free-onto : (sep b : ℕ) (pieces : List Bytes) → eqb b sep ≡ false → AllFree sep pieces → AllFree sep (onto b pieces)
unfolding onto
free-onto sep b [] h f = ((h, tt), tt)
free-onto sep b (p ∷ ps) h f = ((h, f.0), f.1)

free-split : (sep : ℕ) (bs : Bytes) → AllFree sep (split sep bs)
unfolding split
free-split sep [] = (tt, tt)
free-split sep (b ∷ bs) = go (eqb b sep) refl (free-split sep bs)
  where
    go : (test : Bool) → eqb b sep ≡ test → AllFree sep (split sep bs) → AllFree sep (if test then [] ∷ split sep bs else onto b (split sep bs))
    go true e f = (tt, f)
    go false e f = free-onto sep b (split sep bs) e f

free-last : (sep : ℕ) (pieces : List Bytes) → AllFree sep pieces → AllFree sep (without_empty_last pieces)
unfolding without_empty_last
free-last sep [] f = tt
free-last sep ([] ∷ []) f = tt
free-last sep ((b ∷ bs) ∷ []) f = f
free-last sep (piece ∷ next ∷ pieces) f = (f.0, free-last sep (next ∷ pieces) f.1)

-- the lines of a text have no byte 10
abbrev pub Lines : List Bytes → Type 0
Lines = AllFree newline

pub lines-free : (text : Bytes) → Lines (lines text)
unfolding lines
lines-free text = free-last newline (split newline text) (free-split newline text)

-- ---- numbers

read_digits-fits : (max v : ℕ) (bs : Bytes) {n : ℕ} → v ≤ max → read_digits max v bs ≡ accepted n → n ≤ max
unfolding read_digits
read_digits-fits max v [] h p = omega (arith, accepted_inj p)
read_digits-fits max v (b ∷ bs) {n} h p =
    go (is_digit b) (leb (v * 10 + (b - 48)) max) refl p (λ i q. read_digits-fits max (v * 10 + (b - 48)) bs i q)
  where
    go : (d t : Bool) → leb (v * 10 + (b - 48)) max ≡ t
        → (if d then if t then read_digits max (v * 10 + (b - 48)) bs else refuse NumberOverflow else refuse InvalidDigit) ≡ accepted n
        → (v * 10 + (b - 48) ≤ max → read_digits max (v * 10 + (b - 48)) bs ≡ accepted n → n ≤ max) → n ≤ max
    go true true e q ih = ih (leb-true (v * 10 + (b - 48)) max e) q
    go true false e q ih = absurd (not_accepted q)
    go false t e q ih = absurd (not_accepted q)

read_number-fits : (max : ℕ) (bs : Bytes) {n : ℕ} → read_number max bs ≡ accepted n → n ≤ max
unfolding read_number
read_number-fits max [] p = absurd (not_accepted p)
read_number-fits max (b ∷ bs) {n} p = go (eqb b 43) p
  where
    go : (test : Bool) → (if test then refuse SignedNumber else read_digits max 0 (b ∷ bs)) ≡ accepted n → n ≤ max
    go true q = absurd (not_accepted q)
    go false q = read_digits-fits max 0 (b ∷ bs) zero-le q

-- ---- fields

-- the answer is this value
abbrev Gives : (A : Type 0) → Answer A → A → Type 0
Gives A answer a = answer ≡ accepted a

clean_from : (k : ℕ) (body : Bytes) {rest : Bytes} → LineText body → from_field k body ≡ some rest → LineText rest
clean_from = from_has LineText clean_tail

in_field-accepted : (k : ℕ) (r : Answer ℕ) {n : ℕ} → in_field k r ≡ accepted n → r ≡ accepted n
unfolding in_field
in_field-accepted k (accepted a) p = p
in_field-accepted k (refused r) p = absurd (not_accepted p)

number_field-fits : (max k : ℕ) (body : Bytes) {n : ℕ} → number_field max k body ≡ accepted n → n ≤ max
unfolding number_field
number_field-fits max k body {n} p = go (from_field k body) p
  where
    go : (o : Option Bytes)
        → Gives ℕ (elim o [ none ↦ refuse_field FieldNotFound k | some rest ↦ in_field k (read_number max (before comma rest)) ]) n → n ≤ max
    go none q = absurd (not_accepted q)
    go (some rest) q = read_number-fits max (before comma rest) (in_field-accepted k (read_number max (before comma rest)) q)

text_field_clean : (k : ℕ) (body : Bytes) {text : Bytes} → LineText body → text_field k body ≡ accepted text → LineText text
text_field_clean = text_has LineText clean_tail

-- a given count is a count
abbrev pub TakenFits : Option ℕ → Type 0
TakenFits = Given (λ n. n ≤ u64_max)

taken_field-fits : (k : ℕ) (body : Bytes) {taken : Option ℕ} → taken_field u64_max k body ≡ accepted taken → TakenFits taken
unfolding taken_field
taken_field-fits k body {taken} p = go (from_field k body) p
  where
    at : (test : Bool) (r : Answer ℕ) → ((n : ℕ) → r ≡ accepted n → n ≤ u64_max)
        → (if test then accepted none else (r >>= λ taken. accepted (some taken))) ≡ accepted taken → TakenFits taken
    at true r h q = rw (← (accepted_inj q)) tt
    at false r h q =
        let (n, e, f) = bind-accepted r (λ t. accepted (some t)) q in
        rw (← (accepted_inj f)) (h n e)

    go : (o : Option Bytes)
        → Gives (Option ℕ)
        (elim o [
          | none ↦ refuse_field FieldNotFound k
          | some rest ↦
              if same_bytes (before comma rest) (ascii "-") then accepted none
              else (in_field k (read_number u64_max (before comma rest)) >>= λ taken. accepted (some taken))
        ])
        taken → TakenFits taken
    go none q = absurd (not_accepted q)
    go (some rest) q =
        at (same_bytes (before comma rest) (ascii "-")) (in_field k (read_number u64_max (before comma rest)))
        (λ n e. read_number-fits u64_max (before comma rest) (in_field-accepted k (read_number u64_max (before comma rest)) e)) q

abbrev pub ChecksumFits : Option Bytes → Type 0
ChecksumFits = Given ChecksumText

checksum_field-fits : (k : ℕ) (body : Bytes) → LineText body → ChecksumFits (checksum_field k body)
unfolding checksum_field
checksum_field-fits k body c = go (from_field k body) refl
  where
    at : (rest : Bytes) (test : Bool) → same_bytes rest (ascii "-") ≡ test → LineText rest → ChecksumFits (if test then none else some rest)
    at rest true e d = tt
    at rest false e d = record { text = d; not_dash = e }

    go : (o : Option Bytes) → from_field k body ≡ o
        → ChecksumFits (elim o as (λ _. Option Bytes) [ none ↦ none | some rest ↦ if same_bytes rest (ascii "-") then none else some rest ])
    go none e = tt
    go (some rest) e = at rest (same_bytes rest (ascii "-")) refl (clean_from k body c e)

-- ---- records

-- a record that a line can hold: its numbers are in range, its texts clean
abbrev pub RecordFits : Record → Type 0
RecordFits (test_name name) = LineText name
RecordFits (source_file path) = LineText path
RecordFits (function_name start end name) = ExtentFits name (extent_at start end) × LineText name
RecordFits (function_data count name) = (count ≤ u64_max) × LineText name
RecordFits (functions_found found) = found ≤ u32_max
RecordFits (functions_hit hit) = hit ≤ u32_max
RecordFits (branch_data line block branch taken) = (line ≤ u32_max) × (block ≤ u32_max) × (branch ≤ u32_max) × TakenFits taken
RecordFits (branches_found found) = found ≤ u32_max
RecordFits (branches_hit hit) = hit ≤ u32_max
RecordFits (line_data line count checksum) = (line ≤ u32_max) × (count ≤ u64_max) × ChecksumFits checksum
RecordFits (lines_found found) = found ≤ u32_max
RecordFits (lines_hit hit) = hit ≤ u32_max
RecordFits end_of_record = Unit {0}

pub last_before-accepted : (k : ℕ) (body : Bytes) (made : Record) {r : Record} → last_before k body made ≡ accepted r → made ≡ r
unfolding last_before
last_before-accepted k body made {r} p = go (from_field k body) p
  where
    go : (o : Option Bytes) → Gives Record (elim o [ none ↦ accepted made | some rest ↦ refuse TooManyFields ]) r → made ≡ r
    go none q = accepted_inj q
    go (some rest) q = absurd (not_accepted q)

read_one-fits : (made : ℕ → Record) (body : Bytes) {r : Record} → ((n : ℕ) → n ≤ u32_max → RecordFits (made n)) → read_one made body ≡ accepted r → RecordFits r
unfolding read_one
read_one-fits made body h p =
    let (n, e, q) = bind-accepted (number_field u32_max 1 body) _ p in
    rw (← (last_before-accepted 2 body (made n) q)) (h n (number_field-fits u32_max 1 body e))

read_function-fits : (start : ℕ) (body rest : Bytes) {r : Record} → start ≤ u32_max → LineText body → LineText rest → read_function start body rest ≡ accepted r → RecordFits r
unfolding read_function with_end
read_function-fits start body rest {r} h c d p = go (begins_with_end rest) refl p
  where
    ordered : (t : Bool) (end : ℕ) (name : Bytes) → leb start end ≡ t → end ≤ u32_max → LineText name
        → Gives Record (if t then accepted (function_name start (some end) name) else refuse EndBeforeStart) r → RecordFits r
    ordered true end name e small l q =
        rw (← (accepted_inj q)) (record { start = h; end = (leb-true start end e, small); name_whole = λ n. impossible cc }, l)
    ordered false end name e small l q = absurd (not_accepted q)

    go : (t : Bool) → begins_with_end rest ≡ t
        → Gives Record
        (if t then (number_field u32_max 2 body >>= λ end. text_field 3 body >>= λ name. if leb start end then accepted (function_name start (some end) name) else refuse EndBeforeStart)
        else accepted (function_name start none rest)) r
        → RecordFits r
    go true b q =
        let (end, e, s) = bind-accepted (number_field u32_max 2 body) _ q in
        let (name, f, g) = bind-accepted (text_field 3 body) _ s in
        ordered (leb start end) end name refl (number_field-fits u32_max 2 body e) (text_field_clean 3 body c f) g
    go false b q = rw (← (accepted_inj q)) (record { start = h; end = tt; name_whole = λ n. b }, d)

read_body-fits : (kind : Kind) (body : Bytes) {r : Record} → LineText body → read_body kind body ≡ accepted r → RecordFits r
unfolding read_body
read_body-fits K.TestName body c p = rw (← (accepted_inj p)) c
read_body-fits K.SourceFile body c p = rw (← (accepted_inj p)) c
read_body-fits K.FunctionName body c p =
    let (start, e, q) = bind-accepted (number_field u32_max 1 body) _ p in
    let (rest, f, g) = bind-accepted (text_field 2 body) _ q in
    read_function-fits start body rest (number_field-fits u32_max 1 body e) c (text_field_clean 2 body c f) g
read_body-fits K.FunctionData body c p =
    let (count, e, q) = bind-accepted (number_field u64_max 1 body) _ p in
    let (name, f, g) = bind-accepted (text_field 2 body) _ q in
    rw (← (accepted_inj g)) (number_field-fits u64_max 1 body e, text_field_clean 2 body c f)
read_body-fits K.FunctionsFound body c p = read_one-fits functions_found body (λ n h. h) p
read_body-fits K.FunctionsHit body c p = read_one-fits functions_hit body (λ n h. h) p
read_body-fits K.BranchData body c p =
    let (line, e, q) = bind-accepted (number_field u32_max 1 body) _ p in
    let (block, f, s) = bind-accepted (number_field u32_max 2 body) _ q in
    let (branch, g, t) = bind-accepted (number_field u32_max 3 body) _ s in
    let (taken, h, u) = bind-accepted (taken_field u64_max 4 body) _ t in
    rw (← (last_before-accepted 5 body (branch_data line block branch taken) u))
    (number_field-fits u32_max 1 body e, number_field-fits u32_max 2 body f, number_field-fits u32_max 3 body g, taken_field-fits 4 body h)
read_body-fits K.BranchesFound body c p = read_one-fits branches_found body (λ n h. h) p
read_body-fits K.BranchesHit body c p = read_one-fits branches_hit body (λ n h. h) p
read_body-fits K.LineData body c p =
    let (line, e, q) = bind-accepted (number_field u32_max 1 body) _ p in
    let (count, f, g) = bind-accepted (number_field u64_max 2 body) _ q in
    rw (← (accepted_inj g)) (number_field-fits u32_max 1 body e, number_field-fits u64_max 2 body f, checksum_field-fits 3 body c)
read_body-fits K.LinesFound body c p = read_one-fits lines_found body (λ n h. h) p
read_body-fits K.LinesHit body c p = read_one-fits lines_hit body (λ n h. h) p
read_body-fits K.EndOfRecord body c p = rw (← (accepted_inj p)) tt

body_of_clean : (line : Bytes) → LineText line → LineText (body_of line)
unfolding body_of
body_of_clean line c = go (after colon line) refl
  where
    go : (o : Option Bytes) → after colon line ≡ o → LineText (elim o as (λ _. Bytes) [ none ↦ [] | some body ↦ body ])
    go none e = clean_none
    go (some body) e = clean_after colon line c e

module _ (tag : Kind → Bytes) where
  read_trimmed-fits : (line : Bytes) {r : Record} → LineText line → read_trimmed tag line ≡ accepted r → RecordFits r
  unfolding read_trimmed
  read_trimmed-fits line {r} c p = go (kind_among tag all_kinds (before colon line)) p
    where
      go : (o : Option Kind) → Gives Record (elim o [ none ↦ refuse UnknownRecord | some kind ↦ read_body kind (body_of line) ]) r → RecordFits r
      go none q = absurd (not_accepted q)
      go (some kind) q = read_body-fits kind (body_of line) (body_of_clean line c) q

  -- A LINE that is read gives a record in range
  pub read_record-fits : (line : Bytes) {r : Record} → Free newline line → read_record tag line ≡ accepted r → RecordFits r
  unfolding read_record
  read_record-fits line f p = read_trimmed-fits (trimmed line) (record { one_line = free-trimmed line f; clean_end = trim_trimmed line }) p
