-- The body of a line of each kind: a field that is read is followed by the next, and a refusal is handed up. Assumes nothing.
use Rattle.std.specs.Prelude.{Option as LentOption, Result, Some, None, Ok}
use Rattle.model.specs.declared.Refusal.{Refusal}
use Prim.Native.Nat.{ℕ, suc, ◌≤◌, ◌<◌}
use mathlib.Core.Path.{◌≡◌, refl, sym, ap, ◌∙◌}
use mathlib.Core.List.{[], ◌∷◌, ◌++◌}
use mathlib.Core.Bool.{Bool, true, false, cond}
use mathlib.Core.Logic.{⊎_elim}
use mathlib.Core.Option.{Option, none, some}
use native.Mathlib.Omega.{arith}
use native.Mathlib.Numerals.{add-one}
use lib.Dec.{eqb}
use lib.ListN.{length, take, drop, take-append-drop}
use borrow.Author.Tests.{le-leb, lt-leb}
use mir.Val.{Fits}
use mir.Syntax.{w32}
use types.Run.{OneOf}
use denote.Enum.Declared.{tag_of}
use Rattle.model.specs.declared.Fault.{Fault}
use Rattle.model.specs.declared.Fault.TheVariants.{EndBeforeStart, FieldNotFound, TooManyFields}
use Rattle.model.specs.declared.Part.{Part}
use Rattle.model.specs.declared.Record.{Record as LentRecord}
use Rattle.model.specs.declared.Record.TheVariants as Lent
use Rattle.ordmap.proofs.Results.{impossible, bind_assoc}
use Rattle.model.specs.Bytes.{Bytes, ascii, comma, compare_bytes, same_bytes, before, after}
use Rattle.model.specs.Answer.{Answer, accepted, ◌>>=◌, refuse, refuse_field}
use Rattle.model.specs.Limits.{u32_max, u64_max}
use Rattle.model.specs.Record.{Record, function_name, function_data, branch_data, line_data}
use Rattle.model.specs.Line.{read_function, with_end, begins_with_end, from_field, number_field, text_field, taken_field, checksum_field, last_before, read_one}
use Rattle.model.specs.Parts.{lent_given, end_part, lent_checksum, lent_from}
use Rattle.scan.specs.declared.Number.TheVariants as N
use Rattle.scan.specs.Scan.{number_in, NumberRead}
use Rattle.model.specs.Number.{read_number, read_digits}
use Rattle.scan.specs.declared.Number.{Number}
use Rattle.scan_digits.specs.Word.{ShortRead}
use Rattle.model.proofs.KeyOrder.{bytes_same}
use Rattle.scan.proofs.ByteLaws.{same-cons}
use Rattle.record_parse.specs.declared.fields.Field.{Field}
use Rattle.record_parse.specs.declared.fields.Field.TheVariants.{Last, More, Fault as Bad}
use Rattle.record_parse.specs.contracts.fields.Field.{the_type}
use Rattle.record_parse.specs.Answers.{Answers, read, refusal}
use Rattle.record_parse.specs.Fields.{refused_at, number_refusal, NumberField, part_from, checksum_from}
use Rattle.record_parse.specs.Lines.{FunctionRead, EndRead, TakenRead, count_lent, count_made}
use Rattle.record_parse.specs.declared.lines.Total.{Total}
use Rattle.record_parse.specs.declared.lines.Total.TheVariants as Ct
use Rattle.record_parse.proofs.FieldLaws.{
  part,
  to_end,
  part_rest,
  FieldAt,
  first_field,
  more_value,
  last_value,
  bad_value,
  next-within,
  next_field,
  no_field,
  short_told,
}

-- the arms of `let .. else`: another variant than the one asked for
abbrev pub NotLast : Field → Type 0
NotLast got = OneOf (1 ∷ 2 ∷ []) (tag_of the_type got)

abbrev pub NotMore : Field → Type 0
NotMore got = OneOf (0 ∷ 2 ∷ []) (tag_of the_type got)

refused-up : {line : Bytes} {r : Result LentRecord Refusal} {x : Answer Record} (f : Fault) (k : ℕ) → r ≡ refused_at f k → x ≡ refuse_field f k → Answers line r x
refused-up f k e q = rw (e, q) (refusal _)

-- ---- a field that must be there, and one that must not

-- a step that asks for field k refuses a body that has none
pub record Asks (body : Bytes) (k : ℕ) (f : ℕ → Answer Record) : Type 0 where
  pub missing : from_field k body ≡ none → (v : ℕ) → f v ≡ refuse_field FieldNotFound k

module _ (body : Bytes) (k : ℕ) where
  pub asks_text : (f : ℕ → Bytes → Answer Record) → Asks body k (λ v. text_field k body >>= f v)
  unfolding text_field
  asks_text f = record { missing = λ e v. rw (e, text_field) }

  pub asks_number : (max : ℕ) (f : ℕ → ℕ → Answer Record) → Asks body k (λ v. number_field max k body >>= f v)
  unfolding number_field
  asks_number max f = record { missing = λ e v. rw (e, number_field) }

  pub asks_taken : (max : ℕ) (f : ℕ → Option ℕ → Answer Record) → Asks body k (λ v. taken_field max k body >>= f v)
  unfolding taken_field
  asks_taken max f = record { missing = λ e v. rw (e, taken_field) }

  past-last : (made : Record) (rest : Bytes) → from_field k body ≡ some rest → last_before k body made ≡ refuse TooManyFields
  unfolding last_before
  past-last made rest e = rw (e, last_before)

  at_last : (made : Record) → from_field k body ≡ none → last_before k body made ≡ accepted made
  unfolding last_before
  at_last made e = rw (e, last_before)

-- ---- a number

module _ {body line : Bytes} {k at max : ℕ} (here : FieldAt body line k at) {got : Field} (seen : NumberField max at (part line at) got) where
  pub more_then : (f : ℕ → Answer Record) (v n : ℕ) (r : Result LentRecord Refusal) → got ≡ More v n → Answers line r (f v) → Answers line r (number_field max k body >>= f)
  more_then f v n r e a = rw (more_value here seen v n e) a

  pub bad_up : (f : ℕ → Answer Record) (fault : Fault) (r : Result LentRecord Refusal) → got ≡ Bad fault → r ≡ refused_at fault k → Answers line r (number_field max k body >>= f)
  bad_up f fault r e q = refused-up fault k q (rw (bad_value here seen fault e))

  -- a field must follow
  pub more_up : (f : ℕ → Answer Record) (r : Result LentRecord Refusal) → NotMore got → r ≡ number_refusal k got → Asks body (suc k) f → Answers line r (number_field max k body >>= f)
  more_up f r other q asks = go got refl other q
    where
      go : (g : Field) → got ≡ g → NotMore g → r ≡ number_refusal k g → Answers line r (number_field max k body >>= f)
      go (Bad fault) e other q = bad_up f fault r e q
      go (Last v) e other q = refused-up FieldNotFound (suc k) (rw add-one at q) (rw (last_value here seen v e) (asks.missing (no_field here seen v e) v))
      go (More v n) e other q = absurd (⊎_elim (λ z. omega arith) (λ z. omega arith) other)

  -- none may follow
  last_up : {any : Bytes} (made : ℕ → Record) (r : Result LentRecord Refusal) → NotLast got → r ≡ number_refusal k got → Answers any r (number_field max k body >>= λ n. last_before (suc k) body (made n))
  last_up {any} made r other q = go got refl other q
    where
      go : (g : Field) → got ≡ g → NotLast g → r ≡ number_refusal k g → Answers any r (number_field max k body >>= λ n. last_before (suc k) body (made n))
      go (Bad fault) e other q = refused-up fault k q (rw (bad_value here seen fault e))
      go (Last v) e other q = absurd (⊎_elim (λ z. omega arith) (λ z. omega arith) other)
      go (More v n) e other q = refused-up TooManyFields 0 q (rw (more_value here seen v n e) (past-last body (suc k) (made v) _ (next_field here seen v n e).is))

pub more_fits : {s : Bytes} {at : ℕ} (got : Field) → NumberField u32_max at s got → (v n : ℕ) → got ≡ More v n → Fits w32 v
more_fits got seen v n e = let h : v ≤ u32_max = rw e at seen.most in record { fits = omega arith }

pub last_fits : {s : Bytes} {at : ℕ} (got : Field) → NumberField u32_max at s got → (v : ℕ) → got ≡ Last v → Fits w32 v
last_fits got seen v e = let h : v ≤ u32_max = rw e at seen.most in record { fits = omega arith }

-- ---- names: FN and FNDA

module _ {body line : Bytes} {k at : ℕ} (here : FieldAt body line k at) (p : Part) (is : p ≡ part_from at (part line at)) where
  field : text_field k body ≡ accepted (drop at line)
  unfolding text_field
  field = rw (here.is, text_field)

  there : p ≡ end_part line (drop at line)
  there = is ∙ part_rest line at here.within

  -- a name, with the end line that comes before it or none
  name-read : (start : ℕ) (end : Option ℕ) → Answers line (Ok (Lent.FunctionName start (lent_given end) p)) (accepted (function_name start end (drop at line)))
  unfolding lent_from
  name-read start end = read (function_name start end (drop at line)) (Lent.FunctionName start (lent_given end) p) (ap (λ (q : Part). Lent.FunctionName start (lent_given end) q) there)

  pub data_read : (count : ℕ) → Answers line (Ok (Lent.FunctionData count p)) (text_field k body >>= λ name. accepted (function_data count name))
  unfolding lent_from
  data_read count = rw field (read (function_data count (drop at line)) (Lent.FunctionData count p) (ap (λ (q : Part). Lent.FunctionData count q) there))

-- ---- the end line of FN

module _ (start : ℕ) {line : Bytes} {at : ℕ} (within : at ≤ length line) {got : Field} (seen : NumberField u32_max at (part line at) got) where
  end_at : (body : Bytes) → from_field 2 body ≡ some (drop at line) → FieldAt body line 2 at
  end_at body here = record { is = here; within = within }

  pub end_up : (r : Result LentRecord Refusal) → NotMore got → r ≡ number_refusal 2 got → EndRead start line at r
  end_up r other q = record { is = λ body here. more_up (end_at body here) seen _ r other q (asks_text body 3 _) }

  module _ (v n : ℕ) (e : got ≡ More v n) where
    name_at : (body : Bytes) → from_field 2 body ≡ some (drop at line) → FieldAt body line 3 n
    name_at body here = next_field (end_at body here) seen v n e

    pub end_below : (r : Result LentRecord Refusal) → v < start → r ≡ refused_at EndBeforeStart 0 → EndRead start line at r
    unfolding with_end text_field
    end_below r low q =
        record {
          is = λ body here. more_then (end_at body here) seen _ v n r e
              (refused-up EndBeforeStart 0 q (rw ((name_at body here).is, text_field) (rw (lt-leb start v low))));
        }

    pub end_given : (p : Part) → start ≤ v → p ≡ part_from n (part line n) → EndRead start line at (Ok (Lent.FunctionName start (Some v) p))
    unfolding with_end text_field lent_given
    end_given p high q =
        record {
          is = λ body here. more_then (end_at body here) seen _ v n _ e
              (rw ((name_at body here).is, text_field) (rw (le-leb start v high) (name-read (name_at body here) p q start (some v))));
        }

module _ (start : ℕ) (line : Bytes) (at : ℕ) (within : at ≤ length line) (b : Bool) (is : b ≡ begins_with_end (part line at)) where
  begins : begins_with_end (drop at line) ≡ b
  begins = sym (is ∙ ap begins_with_end (to_end line at))

  pub function_end : (r : Result LentRecord Refusal) → b ≡ true → EndRead start line at r → FunctionRead start line at r
  unfolding read_function
  function_end r t w = record { is = λ body here. rw (begins, t) (w.is body here) }

  pub function_plain : (p : Part) → b ≡ false → p ≡ part_from at (part line at) → FunctionRead start line at (Ok (Lent.FunctionName start None p))
  unfolding read_function lent_given
  function_plain p f q =
      record { is = λ body here. rw (begins, f) (name-read {body = body} {k = 2} (record { is = here; within = within }) p q start none) }

pub function_read : {body line : Bytes} {at : ℕ} → FieldAt body line 2 at → (start : ℕ) (r : Result LentRecord Refusal) → FunctionRead start line at r
    → Answers line r (text_field 2 body >>= λ rest. read_function start body rest)
unfolding text_field
function_read {body} here start r w = rw (here.is, text_field) (w.is body here.is)

-- ---- a checksum: DA

pub line_read : {body line : Bytes} {k at : ℕ} → FieldAt body line k at → (checksum : LentOption Part) → checksum ≡ checksum_from at (part line at) → (l count : ℕ) → Answers line (Ok (Lent.LineData l count checksum)) (accepted (line_data l count (checksum_field k body)))
unfolding lent_from lent_checksum checksum_field
line_read {body} {line} {k} {at} here checksum is l count =
    rw (is, here.is, checksum_field, to_end line at) (go (same_bytes (drop at line) (ascii "-")))
  where
    go : (d : Bool) → Answers line (Ok (Lent.LineData l count (cond d None (Some (part_from at (drop at line)))))) (accepted (line_data l count (cond d none (some (drop at line)))))
    go true = read (line_data l count none) (Lent.LineData l count None) refl
    go false = read (line_data l count (some (drop at line))) (Lent.LineData l count (Some (part_from at (drop at line))))
        (ap (λ (q : Part). Lent.LineData l count (Some q)) (rw (to_end line at) at (part_rest line at here.within)))

pub line_last : {body line : Bytes} {at max : ℕ} → FieldAt body line 2 at → {got : Field} → NumberField max at (part line at) got → (l count : ℕ) → got ≡ Last count → Answers line (Ok (Lent.LineData l count None)) (number_field max 2 body >>= λ n. accepted (line_data l n (checksum_field 3 body)))
unfolding lent_from lent_checksum checksum_field
line_last here seen l count e =
    rw (last_value here seen count e, no_field here seen count e, checksum_field)
    (read (line_data l count none) (Lent.LineData l count None) refl)

-- ---- one number: FNF, FNH, BRF, BRH, LF, LH

pub count_is : (kind known : Total) (n : ℕ) (lent : LentRecord) → kind ≡ known → lent ≡ count_lent known n → lent ≡ count_lent kind n
count_is kind known n lent e q = rw e q

count_in : (kind : Total) (n : ℕ) (line : Bytes) → count_lent kind n ≡ lent_from line (count_made kind n)
unfolding lent_from
count_in Ct.FunctionsFound n line = refl
count_in Ct.FunctionsHit n line = refl
count_in Ct.BranchesFound n line = refl
count_in Ct.BranchesHit n line = refl
count_in Ct.LinesFound n line = refl
count_in Ct.LinesHit n line = refl

module _ {body line : Bytes} {at : ℕ} (here : FieldAt body line 1 at) (got : Field) (seen : NumberField u32_max at (part line at) got) where
  pub count_up : (made : ℕ → Record) (r : Result LentRecord Refusal) → NotLast got → r ≡ number_refusal 1 got → Answers line r (read_one made body)
  unfolding read_one
  count_up made r other q = last_up here seen made r other q

  pub count_last : (kind : Total) (n : ℕ) (lent : LentRecord) → got ≡ Last n → lent ≡ count_lent kind n → Answers line (Ok lent) (read_one (count_made kind) body)
  unfolding read_one
  count_last kind n lent e q =
      rw (last_value here seen n e, at_last body 2 (count_made kind n) (no_field here seen n e), q)
      (read (count_made kind n) (count_lent kind n) (count_in kind n line))

-- ---- taken: the end of BRDA

-- neither "-" alone nor "-" and a comma: the field is not "-"
no_dash : (rest : Bytes) → same_bytes rest (ascii "-") ≡ false → same_bytes (take 2 rest) (ascii "-,") ≡ false → same_bytes (before comma rest) (ascii "-") ≡ false
unfolding before compare_bytes
no_dash [] h k = refl
no_dash (b ∷ []) h k = go (eqb b comma)
  where
    go : (d : Bool) → same_bytes (cond d [] (b ∷ [])) (ascii "-") ≡ false
    go true = refl
    go false = h
no_dash (b ∷ x ∷ xs) h k = go (eqb b comma) (eqb b 45) (eqb x comma) refl refl
  where
    go : (c d e : Bool) → eqb b 45 ≡ d → eqb x comma ≡ e → same_bytes (cond c [] (b ∷ cond e [] (x ∷ before comma xs))) (ascii "-") ≡ false
    go true d e p q = refl
    go false false e p q = same-cons b 45 (cond e [] (x ∷ before comma xs)) [] false p
    go false true false p q = same-cons b 45 (x ∷ before comma xs) [] true p
    go false true true p q = impossible (cc (same-cons b 45 (x ∷ []) (44 ∷ []) true p, same-cons x 44 [] [] true q))

module _ (body rest : Bytes) (here : from_field 4 body ≡ some rest) where
  fifth : from_field 5 body ≡ after comma rest
  unfolding from_field
  fifth = rw (here, from_field)

  dash_none : same_bytes (before comma rest) (ascii "-") ≡ true → taken_field u64_max 4 body ≡ accepted none
  unfolding taken_field
  dash_none e = rw (here, taken_field, e)

  number_some : same_bytes (before comma rest) (ascii "-") ≡ false → taken_field u64_max 4 body ≡ (number_field u64_max 4 body >>= λ taken. accepted (some taken))
  unfolding taken_field number_field
  number_some e = rw (here, taken_field, number_field, e)

  -- what is left, as a line of its own
  whole : FieldAt body rest 4 0
  whole = record { is = here; within = omega arith }

module _ (l b c : ℕ) (rest : Bytes) where
  abbrev Ends : Bytes → Bytes → Result LentRecord Refusal → Type 0
  Ends line body r = Answers line r (taken_field u64_max 4 body >>= λ taken. last_before 5 body (branch_data l b c taken))

  pub taken_dash : (d : Bool) → d ≡ same_bytes rest (ascii "-") → d ≡ true → TakenRead l b c rest (Ok (Lent.BranchData l b c None))
  unfolding before after compare_bytes lent_from lent_given
  taken_dash d e t = record { is = λ line body here. go line body (here ∙ ap (λ (s : Bytes). some s) (bytes_same.same_eq rest (ascii "-") (sym e ∙ t))) }
    where
      go : (line body : Bytes) → from_field 4 body ≡ some (ascii "-") → Ends line body (Ok (Lent.BranchData l b c None))
      go line body here =
          rw (dash_none body (ascii "-") here refl, at_last body 5 (branch_data l b c none) (fifth body (ascii "-") here))
          (read (branch_data l b c none) (Lent.BranchData l b c None) refl)

  pub taken_more : (d : Bool) (r : Result LentRecord Refusal) → d ≡ same_bytes (take 2 rest) (ascii "-,") → d ≡ true → r ≡ refused_at TooManyFields 0 → TakenRead l b c rest r
  unfolding before after compare_bytes
  taken_more d r e t q =
      let front : take 2 rest ≡ ascii "-," = bytes_same.same_eq (take 2 rest) (ascii "-,") (sym e ∙ t) in
      let all : rest ≡ 45 ∷ 44 ∷ drop 2 rest = sym (take-append-drop 2 rest) ∙ ap (λ (s : Bytes). s ++ drop 2 rest) front in
      record { is = λ line body here. go line body (drop 2 rest) (here ∙ ap (λ (s : Bytes). some s) all) }
    where
      go : (line body xs : Bytes) → from_field 4 body ≡ some (45 ∷ 44 ∷ xs) → Ends line body r
      go line body xs here =
          refused-up TooManyFields 0 q
          (rw (dash_none body (45 ∷ 44 ∷ xs) here refl) (past-last body 5 (branch_data l b c none) xs (fifth body (45 ∷ 44 ∷ xs) here)))

  -- a number
  module _ (plain : same_bytes (before comma rest) (ascii "-") ≡ false) (got : Field) (seen : NumberField u64_max 0 rest got) where
    number : (body : Bytes) → from_field 4 body ≡ some rest → taken_field u64_max 4 body ≡ (number_field u64_max 4 body >>= λ taken. accepted (some taken))
    number body here = number_some body rest here plain

    seen-whole : NumberField u64_max 0 (part rest 0) got
    seen-whole = rw (to_end rest 0) seen

    last-there : (v : ℕ) → got ≡ Last v → TakenRead l b c rest (Ok (Lent.BranchData l b c (Some v)))
    unfolding lent_from lent_given
    last-there v e = record { is = λ line body here. go line body here }
      where
        go : (line body : Bytes) → from_field 4 body ≡ some rest → Ends line body (Ok (Lent.BranchData l b c (Some v)))
        go line body here =
            rw (number body here, last_value (whole body rest here) seen-whole v e, at_last body 5 (branch_data l b c (some v)) (no_field (whole body rest here) seen-whole v e))
            (read (branch_data l b c (some v)) (Lent.BranchData l b c (Some v)) refl)

    up-there : (r : Result LentRecord Refusal) → NotLast got → r ≡ number_refusal 4 got → TakenRead l b c rest r
    up-there r other q = record { is = λ line body here. go line body here }
      where
        go : (line body : Bytes) → from_field 4 body ≡ some rest → Ends line body r
        go line body here =
            rw (number body here, bind_assoc (number_field u64_max 4 body) (λ t. accepted (some t)) (λ taken. last_before 5 body (branch_data l b c taken)))
            (last_up (whole body rest here) seen-whole (λ n. branch_data l b c (some n)) r other q)

  -- a short number is not "-"
  pub taken_short : (short : LentOption Number) (v d : ℕ) → ShortRead rest short → short ≡ Some (N.Last v d) → TakenRead l b c rest (Ok (Lent.BranchData l b c (Some v)))
  unfolding number_in read_number read_digits
  taken_short short v d h e =
      last-there (go (same_bytes (before comma rest) (ascii "-")) refl) (Last v) (short_told 0 short h (N.Last v d) e u64_max (Last v) (omega arith) refl) v refl
    where
      seen : NumberRead u64_max rest (Ok (N.Last v d))
      seen = rw e at (h.is u64_max (omega arith))

      go : (d : Bool) → same_bytes (before comma rest) (ascii "-") ≡ d → d ≡ false
      go false q = refl
      go true q = impossible (cc (rw (bytes_same.same_eq (before comma rest) (ascii "-") q) at seen.is))

  module _ (d : Bool) (d-is : d ≡ same_bytes rest (ascii "-")) (no-d : d ≡ false) (m : Bool) (m-is : m ≡ same_bytes (take 2 rest) (ascii "-,")) (no-m : m ≡ false) (got : Field) (seen : NumberField u64_max 0 rest got) where
    plain : same_bytes (before comma rest) (ascii "-") ≡ false
    plain = no_dash rest (sym d-is ∙ no-d) (sym m-is ∙ no-m)

    pub taken_last : (v : ℕ) → got ≡ Last v → TakenRead l b c rest (Ok (Lent.BranchData l b c (Some v)))
    taken_last v e = last-there plain got seen v e

    pub taken_up : (r : Result LentRecord Refusal) → NotLast got → r ≡ number_refusal 4 got → TakenRead l b c rest r
    taken_up r other q = up-there plain got seen r other q

pub taken_read : {body line : Bytes} {at : ℕ} → FieldAt body line 4 at → (l b c : ℕ) (r : Result LentRecord Refusal) → TakenRead l b c (part line at) r → Answers line r (taken_field u64_max 4 body >>= λ taken. last_before 5 body (branch_data l b c taken))
taken_read {body} {line} {at} here l b c r w = w.is line body (here.is ∙ ap (λ (s : Bytes). some s) (sym (to_end line at)))

-- with numerals for the fields, as the code has them
module _ {body line : Bytes} {at max : ℕ} (got : Field) (seen : NumberField max at (part line at) got) (v n : ℕ) (is : got ≡ More v n) where
  pub second_field : FieldAt body line 1 at → FieldAt body line 2 n
  second_field here = next_field here seen v n is

  pub third_field : FieldAt body line 2 at → FieldAt body line 3 n
  third_field here = next_field here seen v n is

  pub fourth_field : FieldAt body line 3 at → FieldAt body line 4 n
  fourth_field here = next_field here seen v n is

pub ruleset line-laws = (first_field, second_field, third_field, fourth_field, more_then, bad_up, data_read, line_read, line_last, taken_read)
