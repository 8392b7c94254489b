-- The record that a line is read as, its text as a part of the line: the part is that text. Assumes nothing.
use Prim.Native.Nat.{ℕ, ◌+◌, ◌-◌, ◌≤◌}
use native.Mathlib.Omega.{arith}
use mathlib.Core.Path.{◌≡◌, refl, sym, ap, ◌∙◌}
use mathlib.Core.Bool.{Bool, true, false, cond, ◌||◌}
use mathlib.Core.List.{[], ◌∷◌, ◌++◌, append_assoc, append-nil}
use mathlib.Core.Option.{Option, none, some}
use lib.Dec.{eqb, leb}
use lib.ListN.{length, take, drop, length-append}
use lib.Seq.{drop-append_seam, take-append_seam}
use borrow.Author.Tests.{le-leb}
use Rattle.ordmap.proofs.Results.{impossible, accepted_inj, not_accepted, bind-accepted, accepted_or_refused}
use Rattle.model.specs.declared.Fault.TheVariants.{EndBeforeStart, UnknownRecord, PartOutside}
use Rattle.model.specs.declared.Kind.{Kind}
use Rattle.model.specs.declared.Kind.TheVariants as K
use Rattle.model.specs.declared.Refusal.{Refusal}
use Rattle.model.specs.declared.Record.{Record as LentRecord}
use Rattle.std.specs.Prelude.{if◌then◌else◌, Result, Ok, Err}
use Rattle.model.specs.Bytes.{Bytes, ascii, newline, return, colon, same_bytes, before, after}
use Rattle.model.specs.Answer.{Answer, accepted, refused, ◌>>=◌, refuse, on_line}
use Rattle.model.specs.Limits.{u32_max, u64_max}
use Rattle.model.specs.Record.{
  Record,
  test_name,
  source_file,
  function_name,
  function_data,
  functions_found,
  functions_hit,
  branch_data,
  branches_found,
  branches_hit,
  line_data,
  lines_found,
  lines_hit,
  end_of_record,
}
use Rattle.model.specs.Tags.{all_kinds}
use Rattle.model.specs.Line.{
  begins_with_end,
  with_end,
  read_function,
  before_trimmed,
  trimmed,
  kind_among,
  from_field,
  number_field,
  text_field,
  taken_field,
  checksum_field,
  read_one,
  read_body,
  body_of,
  read_trimmed,
  read_record,
  read_line,
}
use Rattle.model.specs.Parts.{lent_given, given_in, part_of, checksum_in, record_in, end_part, lent_checksum, lent_from, lent_record, lent_line}
use Rattle.model.specs.Calls.{call_answer}
use Rattle.model.proofs.FieldTexts.{after_has, from_has, text_has}
use Rattle.model.proofs.Clean.{last_before-accepted}

-- ---- a text that ends a line

-- bytes in front of the text make the line
pub record Ends (line text : Bytes) : Type 0 where
  pub front : Bytes
  pub is : line ≡ front ++ text

ends_tail : (line : Bytes) (b : ℕ) (bs : Bytes) → Ends line (b ∷ bs) → Ends line bs
ends_tail line b bs ε = record { front = ε.front ++ (b ∷ []); is = ε.is ∙ sym (append_assoc ε.front (b ∷ []) bs) }

ends-all : (line : Bytes) → Ends line line
ends-all line = record { front = []; is = refl }

ends-none : (line : Bytes) → Ends line []
ends-none line = record { front = line; is = sym (append-nil line) }

-- the part is the text, whatever follows the line
part-ends : (line text tail : Bytes) → Ends line text → part_of (line ++ tail) (end_part line text) ≡ accepted text
unfolding part_of end_part
part-ends line text tail ε =
    let f = ε.front in
    let long : length line ≡ length f + length text = ap length ε.is ∙ length-append f text in
    let all : length (line ++ tail) ≡ length line + length tail = length-append line tail in
    let start : length line - length text ≡ length f = omega arith in
    let rest : line ++ tail ≡ f ++ (text ++ tail) = ap (λ (l : Bytes). l ++ tail) ε.is ∙ append_assoc f text tail in
    rw (start, le-leb (length f + length text) (length (line ++ tail)) (omega arith), rest, drop-append_seam f (text ++ tail), take-append_seam text tail)

-- ---- the text of a record ends its line

abbrev ChecksumEnds : Bytes → Option Bytes → Type 0
ChecksumEnds line (some text) = Ends line text
ChecksumEnds line none = Unit {0}

abbrev TextEnds : Bytes → Record → Type 0
TextEnds line (test_name name) = Ends line name
TextEnds line (source_file path) = Ends line path
TextEnds line (function_name start end name) = Ends line name
TextEnds line (function_data count name) = Ends line name
TextEnds line (functions_found found) = Unit {0}
TextEnds line (functions_hit hit) = Unit {0}
TextEnds line (branch_data number block branch taken) = Unit {0}
TextEnds line (branches_found found) = Unit {0}
TextEnds line (branches_hit hit) = Unit {0}
TextEnds line (line_data number count checksum) = ChecksumEnds line checksum
TextEnds line (lines_found found) = Unit {0}
TextEnds line (lines_hit hit) = Unit {0}
TextEnds line end_of_record = Unit {0}

module _ (line : Bytes) where
  name-ends : (k : ℕ) (body : Bytes) {text : Bytes} → Ends line body → text_field k body ≡ accepted text → Ends line text
  name-ends = text_has (Ends line) (ends_tail line)

  checksum-ends : (k : ℕ) (body : Bytes) → Ends line body → ChecksumEnds line (checksum_field k body)
  unfolding checksum_field
  checksum-ends k body ε = go (from_field k body) refl
    where
      at : (rest : Bytes) (test : Bool) → Ends line rest → ChecksumEnds line (if test then none else some rest)
      at rest true ε = tt
      at rest false ε = ε

      go : (o : Option Bytes) → from_field k body ≡ o
          → ChecksumEnds line (elim o as (λ _. Option Bytes) [ none ↦ none | some rest ↦ if same_bytes rest (ascii "-") then none else some rest ])
      go none e = tt
      go (some rest) e = at rest (same_bytes rest (ascii "-")) (from_has (Ends line) (ends_tail line) k body ε e)

  one-ends : (made : ℕ → Record) (body : Bytes) {r : Record} → ((n : ℕ) → TextEnds line (made n)) → read_one made body ≡ accepted r → TextEnds line r
  unfolding read_one
  one-ends made body h p =
      let (n, e, q) = bind-accepted (number_field u32_max 1 body) _ p in
      rw (← (last_before-accepted 2 body (made n) q)) (h n)

  function-ends : (start : ℕ) (body rest : Bytes) {r : Record} → Ends line body → Ends line rest → read_function start body rest ≡ accepted r → TextEnds line r
  unfolding read_function with_end
  function-ends start body rest {r} ε δ p = go (begins_with_end rest) p
    where
      ordered : (t : Bool) (end : ℕ) (name : Bytes) → Ends line name
          → ◌≡◌ {A = Answer Record} (if t then accepted (function_name start (some end) name) else refuse EndBeforeStart) (accepted r) → TextEnds line r
      ordered true end name η q = rw (← (accepted_inj q)) η
      ordered false end name η q = absurd (not_accepted q)

      go : (t : Bool)
          → ◌≡◌ {A = Answer Record}
          (if t then (number_field u32_max 2 body >>= λ end. text_field 3 body >>= λ name. if leb start end then accepted (function_name start (some end) name) else refuse EndBeforeStart)
          else accepted (function_name start none rest)) (accepted r)
          → TextEnds line r
      go true q =
          let (end, e, s) = bind-accepted (number_field u32_max 2 body) _ q in
          let (name, f, g) = bind-accepted (text_field 3 body) _ s in
          ordered (leb start end) end name (name-ends 3 body ε f) g
      go false q = rw (← (accepted_inj q)) δ

  body-ends : (kind : Kind) (body : Bytes) {r : Record} → Ends line body → read_body kind body ≡ accepted r → TextEnds line r
  unfolding read_body
  body-ends K.TestName body ε p = rw (← (accepted_inj p)) ε
  body-ends K.SourceFile body ε p = rw (← (accepted_inj p)) ε
  body-ends K.FunctionName body ε p =
      let (start, e, q) = bind-accepted (number_field u32_max 1 body) _ p in
      let (rest, f, g) = bind-accepted (text_field 2 body) _ q in
      function-ends start body rest ε (name-ends 2 body ε f) g
  body-ends K.FunctionData body ε p =
      let (count, e, q) = bind-accepted (number_field u64_max 1 body) _ p in
      let (name, f, g) = bind-accepted (text_field 2 body) _ q in
      rw (← (accepted_inj g)) (name-ends 2 body ε f)
  body-ends K.FunctionsFound body ε p = one-ends functions_found body (λ n. tt) p
  body-ends K.FunctionsHit body ε p = one-ends functions_hit body (λ n. tt) p
  body-ends K.BranchData body ε p =
      let (number, e, q) = bind-accepted (number_field u32_max 1 body) _ p in
      let (block, f, s) = bind-accepted (number_field u32_max 2 body) _ q in
      let (branch, g, t) = bind-accepted (number_field u32_max 3 body) _ s in
      let (taken, h, u) = bind-accepted (taken_field u64_max 4 body) _ t in
      rw (← (last_before-accepted 5 body (branch_data number block branch taken) u)) tt
  body-ends K.BranchesFound body ε p = one-ends branches_found body (λ n. tt) p
  body-ends K.BranchesHit body ε p = one-ends branches_hit body (λ n. tt) p
  body-ends K.LineData body ε p =
      let (number, e, q) = bind-accepted (number_field u32_max 1 body) _ p in
      let (count, f, g) = bind-accepted (number_field u64_max 2 body) _ q in
      rw (← (accepted_inj g)) (checksum-ends 3 body ε)
  body-ends K.LinesFound body ε p = one-ends lines_found body (λ n. tt) p
  body-ends K.LinesHit body ε p = one-ends lines_hit body (λ n. tt) p
  body-ends K.EndOfRecord body ε p = rw (← (accepted_inj p)) tt

  body_of-ends : Ends line (body_of line)
  unfolding body_of
  body_of-ends = go (after colon line) refl
    where
      go : (o : Option Bytes) → after colon line ≡ o → Ends line (elim o [ none ↦ [] | some body ↦ body ])
      go none e = ends-none line
      go (some body) e = after_has (Ends line) (ends_tail line) colon line (ends-all line) e

  trimmed-ends : (tag : Kind → Bytes) {made : Record} → read_trimmed tag line ≡ accepted made → TextEnds line made
  unfolding read_trimmed
  trimmed-ends tag {made} p = go (kind_among tag all_kinds (before colon line)) p
    where
      go : (o : Option Kind) → ◌≡◌ {A = Answer Record} (elim o [ none ↦ refuse UnknownRecord | some kind ↦ read_body kind (body_of line) ]) (accepted made) → TextEnds line made
      go none q = absurd (not_accepted q)
      go (some kind) q = body-ends kind (body_of line) body_of-ends q

-- ---- the record of a lent record

checksum_in_lem : (line tail : Bytes) (checksum : Option Bytes) → ChecksumEnds line checksum → checksum_in (line ++ tail) (lent_checksum line checksum) ≡ accepted checksum
unfolding checksum_in lent_checksum
checksum_in_lem line tail (some text) ε = rw (part-ends line text tail ε)
checksum_in_lem line tail none ε = refl

given_in_lem : {A : Type 0} (given : Option A) → given_in (lent_given given) ≡ given
unfolding given_in lent_given
given_in_lem (some a) = refl
given_in_lem none = refl

pub lent_in : (line tail : Bytes) (made : Record) → TextEnds line made → record_in (line ++ tail) (lent_from line made) ≡ accepted made
unfolding record_in lent_from
lent_in line tail (test_name name) ε = rw (part-ends line name tail ε)
lent_in line tail (source_file path) ε = rw (part-ends line path tail ε)
lent_in line tail (function_name start end name) ε = rw (part-ends line name tail ε, given_in_lem end)
lent_in line tail (function_data count name) ε = rw (part-ends line name tail ε)
lent_in line tail (functions_found found) ε = refl
lent_in line tail (functions_hit hit) ε = refl
lent_in line tail (branch_data number block branch taken) ε = rw (given_in_lem taken)
lent_in line tail (branches_found found) ε = refl
lent_in line tail (branches_hit hit) ε = refl
lent_in line tail (line_data number count checksum) ε = rw (checksum_in_lem line tail checksum ε)
lent_in line tail (lines_found found) ε = refl
lent_in line tail (lines_hit hit) ε = refl
lent_in line tail end_of_record ε = refl

-- ---- a whole line

trimmed-append : (line : Bytes) → trimmed line ++ drop (length (trimmed line)) line ≡ line
unfolding trimmed before_trimmed
trimmed-append [] = refl
trimmed-append (b ∷ bs) = go (trimmed bs) (trimmed-append bs)
  where
    end : (d : Bool) → cond d [] (b ∷ []) ++ drop (length (cond d [] (b ∷ []))) (b ∷ bs) ≡ b ∷ bs
    end true = refl
    end false = refl

    go : (t : Bytes) → t ++ drop (length t) bs ≡ bs → before_trimmed b t ++ drop (length (before_trimmed b t)) (b ∷ bs) ≡ b ∷ bs
    go [] e = end (eqb b newline || eqb b return)
    go (c ∷ cs) e = ap (λ (r : Bytes). b ∷ r) e

module _ (tag : Kind → Bytes) (line : Bytes) where
  -- THE TEXTS of the record that a line is read as are those of its parts
  pub texts-there : (made : Record) → read_record tag line ≡ accepted made → record_in line (lent_from (trimmed line) made) ≡ accepted made
  unfolding read_record
  texts-there made p =
      ap (λ (l : Bytes). record_in l (lent_from (trimmed line) made)) (sym (trimmed-append line))
      ∙ lent_in (trimmed line) (drop (length (trimmed line)) line) made (trimmed-ends (trimmed line) tag p)

  pub lent_record_lem : (lent_record tag line >>= λ lent. record_in line lent) ≡ read_record tag line
  unfolding lent_record
  lent_record_lem = go (read_record tag line) refl
    where
      go : (a : Answer Record) → read_record tag line ≡ a → ((a >>= λ made. accepted (lent_from (trimmed line) made)) >>= λ lent. record_in line lent) ≡ a
      go (accepted made) e = texts-there made e
      go (refused r) e = refl

  -- the answer of a line reader, by its case
  module _ (got : Result LentRecord Refusal) where
    module _ (is : got ≡ call_answer (lent_record tag line)) where
      pub record_read : (lent : LentRecord) → got ≡ Ok lent → (made : Record) × (record_in line lent ≡ accepted made) × (read_record tag line ≡ accepted made)
      unfolding call_answer lent_record
      record_read lent e = go (read_record tag line) refl (sym e ∙ is)
        where
          go : (a : Answer Record) → read_record tag line ≡ a → Ok lent ≡ call_answer (a >>= λ made. accepted (lent_from (trimmed line) made))
              → (made : Record) × (record_in line lent ≡ accepted made) × (read_record tag line ≡ accepted made)
          go (accepted made) p q = let z : lent ≡ lent_from (trimmed line) made = cc in (made, rw z (texts-there made p), p)
          go (refused r) p q = impossible cc

      pub record_refused : (r : Refusal) → got ≡ Err r → read_record tag line ≡ refused r
      unfolding call_answer lent_record
      record_refused r e = go (read_record tag line) refl (sym e ∙ is)
        where
          go : (a : Answer Record) → read_record tag line ≡ a → Err r ≡ call_answer (a >>= λ made. accepted (lent_from (trimmed line) made))
              → read_record tag line ≡ refused r
          go (accepted made) p q = impossible cc
          go (refused s) p q = let z : r ≡ s = cc in p ∙ ap (λ (t : Refusal). refused t) (sym z)

    -- a lone line
    module _ (is : got ≡ call_answer (lent_line tag line)) where
      pub line_read : (lent : LentRecord) → got ≡ Ok lent → record_in line lent ≡ read_line tag line
      unfolding call_answer lent_line lent_record read_line
      line_read lent e = go (read_record tag line) refl (sym e ∙ is)
        where
          go : (a : Answer Record) → read_record tag line ≡ a
              → Ok lent ≡ call_answer (on_line 1 (a >>= λ made. accepted (lent_from (trimmed line) made))) → record_in line lent ≡ on_line 1 a
          go (accepted made) p q = let z : lent ≡ lent_from (trimmed line) made = cc in rw z (texts-there made p)
          go (refused r) p q = impossible cc

      pub line_refused : (r : Refusal) → got ≡ Err r → read_line tag line ≡ refused r
      unfolding call_answer lent_line lent_record read_line
      line_refused r e = go (read_record tag line) (sym e ∙ is)
        where
          go : (a : Answer Record) → Err r ≡ call_answer (on_line 1 (a >>= λ made. accepted (lent_from (trimmed line) made))) → on_line 1 a ≡ refused r
          go (accepted made) q = impossible cc
          go (refused s) q = cc
