-- What refusals of reading and of merging have in common: they name no text, which the gather adds, and are not for want of output (14).
-- Assumes nothing.
use Prim.Native.Nat.{ℕ, suc, ◌+◌, ◌-◌, ◌*◌, Ordering}
use mathlib.Core.Path.{◌≡◌, refl, sym, ap, ◌∙◌}
use mathlib.Core.Bool.{Bool, true, false}
use mathlib.Core.List.{List, [], ◌∷◌}
use mathlib.Core.Option.{Option, none, some}
use lib.Dec.{leb, eqb}
use lib.ListN.{length}
use Rattle.ordmap.specs.Result.{bind, map_accepted}
use Rattle.ordmap.specs.Keyed.{by_order, add, add_all}
use Rattle.ordmap.proofs.Results.{impossible, not_refused, refused_inj}
use Rattle.model.specs.declared.Fault.{Fault}
use Rattle.model.specs.declared.Fault.TheVariants.{InvalidDigit, NumberOverflow, SignedNumber, UnmatchedFunctionLine, UnmatchedChecksum, CountOverflow, UnknownRecord, FieldNotFound, TooManyFields, EndBeforeStart, UnexpectedRecord, UnexpectedEof, CallOverflow, TooManyEntries, SecondSourceFile}
use Rattle.model.specs.declared.Kind.{Kind}
use Rattle.model.specs.declared.Kind.TheVariants as K
use Rattle.model.specs.declared.Mode.{Mode}
use Rattle.model.specs.declared.Mode.TheVariants as M
use Rattle.model.specs.declared.Refusal.{Refusal}
use Rattle.std.specs.Prelude.{if◌then◌else◌}
use Rattle.model.specs.Bytes.{Bytes, ascii, plus, comma, colon, compare_bytes, same_bytes, before}
use Rattle.model.specs.Answer.{Answer, accepted, refused, ◌>>=◌, refuse, refuse_field, on_line, in_text, number_of}
use Rattle.model.specs.Limits.{u32_max, u64_max}
use Rattle.model.specs.Number.{is_digit, read_digits, read_number}
use Rattle.model.specs.Record.{
  Record,
  test_name,
  source_file,
  function_name,
  function_data,
  functions_found,
  functions_hit,
  branch_data,
  branches_found,
  branches_hit,
  line_data,
  lines_found,
  lines_hit,
  end_of_record,
}
use Rattle.model.specs.Tags.{all_kinds}
use Rattle.model.specs.Line.{begins_with_end, with_end, read_function, trimmed, kind_among, from_field, in_field, number_field, text_field, taken_field, last_before, read_one, read_body, body_of, read_trimmed, read_record}
use Rattle.model.specs.Report.{
  Extent,
  extent_at,
  join_extents,
  function_of,
  extent_of,
  taken_of,
  checksum_of,
  sum_taken,
  agree,
  combine_extents,
  combine_items,
  Entry,
  Item,
  section_item,
  function_item,
  branch_item,
  line_item,
  Report,
  item_key,
  compare_keys,
  entry_key,
  count_of,
  sum,
  combine_entries,
  merge,
  within,
}
use Rattle.model.specs.Reading.{State, outside, open_section, entries, replace, add_calls, enter_item, ignored, name_section, effect, step, read_lines, lines, read_text}
use Rattle.model.specs.Bundle.{Text, texts}
use Rattle.model.specs.Gather.{gather_text, gather_texts, gather}

-- ---- answers made of answers

-- a fault that is not 14
abbrev NotShort : Fault → Type 0
NotShort fault = eqb (number_of fault) 14 ≡ false

-- a refusal names no text, and is not for want of output
abbrev pub NoText : {A : Type 0} → Answer A → Type 0
NoText (accepted a) = Unit {0}
NoText (refused c) = (c.text ≡ 0) × NotShort c.fault

no_bind : {A B : Type 0} (r : Answer A) (f : A → Answer B) → NoText r → ((a : A) → NoText (f a)) → NoText (bind r f)
no_bind (accepted a) f h g = g a
no_bind (refused c) f h g = h

no_if : {A : Type 0} (test : Bool) (r s : Answer A) → NoText r → NoText s → NoText (if test then r else s)
no_if true r s h g = h
no_if false r s h g = g

no_option : {A B : Type 0} (o : Option B) (r : Answer A) (f : B → Answer A) → NoText r → ((b : B) → NoText (f b))
    → NoText {A = A} (elim o [ none ↦ r | some b ↦ f b ])
no_option none r f h g = h
no_option (some b) r f h g = g b

no_line : {A : Type 0} (k : ℕ) (r : Answer A) → NoText r → NoText (on_line k r)
no_line k (accepted a) h = tt
no_line k (refused c) h = h

-- ---- a line

no_digits : (max value : ℕ) (bytes : Bytes) → NoText (read_digits max value bytes)
unfolding read_digits
no_digits max value [] = tt
no_digits max value (b ∷ bs) =
    no_if (is_digit b) _ (refuse InvalidDigit)
    (no_if (leb (value * 10 + (b - 48)) max) _ (refuse NumberOverflow) (no_digits max (value * 10 + (b - 48)) bs) (refl, refl)) (refl, refl)

no_reading : (max : ℕ) (bytes : Bytes) → NoText (read_number max bytes)
unfolding read_number
no_reading max [] = (refl, refl)
no_reading max (b ∷ bs) = no_if (eqb b plus) (refuse SignedNumber) _ (refl, refl) (no_digits max 0 (b ∷ bs))

no_field : (max k : ℕ) (bytes : Bytes) → NoText (in_field k (read_number max bytes))
unfolding in_field
no_field max k bytes = go (read_number max bytes) (no_reading max bytes)
  where
    go : (r : Answer ℕ) → NoText r → NoText (in_field k r)
    go (accepted a) h = tt
    go (refused c) h = (refl, h.1)

no_number : (max k : ℕ) (body : Bytes) → NoText (number_field max k body)
unfolding number_field
no_number max k body =
    no_option (from_field k body) (refuse_field FieldNotFound k) (λ rest. in_field k (read_number max (before comma rest))) (refl, refl)
    (λ rest. no_field max k (before comma rest))

no_text_field : (k : ℕ) (body : Bytes) → NoText (text_field k body)
unfolding text_field
no_text_field k body = no_option (from_field k body) (refuse_field FieldNotFound k) (λ rest. accepted rest) (refl, refl) (λ rest. tt)

no_taken : (max k : ℕ) (body : Bytes) → NoText (taken_field max k body)
unfolding taken_field
no_taken max k body = no_option (from_field k body) (refuse_field FieldNotFound k) field (refl, refl) given
  where
    count : Bytes → Answer ℕ
    count rest = in_field k (read_number max (before comma rest))

    field : Bytes → Answer (Option ℕ)
    field rest = if same_bytes (before comma rest) (ascii "-") then accepted none else (count rest >>= λ taken. accepted (some taken))

    given : (rest : Bytes) → NoText (field rest)
    given rest =
        no_if (same_bytes (before comma rest) (ascii "-")) (accepted none) (count rest >>= λ taken. accepted (some taken)) tt
        (no_bind (count rest) (λ taken. accepted (some taken)) (no_field max k (before comma rest)) (λ taken. tt))

no_last : (k : ℕ) (body : Bytes) (made : Record) → NoText (last_before k body made)
unfolding last_before
no_last k body made = no_option (from_field k body) (accepted made) (λ rest. refuse TooManyFields) tt (λ rest. (refl, refl))

no_one : (made : ℕ → Record) (body : Bytes) → NoText (read_one made body)
unfolding read_one
no_one made body = no_bind (number_field u32_max 1 body) _ (no_number u32_max 1 body) (λ n. no_last 2 body (made n))

no_function : (start : ℕ) (body rest : Bytes) → NoText (read_function start body rest)
unfolding read_function with_end
no_function start body rest =
    no_if (begins_with_end rest) _ (accepted (function_name start none rest))
    (no_bind (number_field u32_max 2 body) _ (no_number u32_max 2 body)
    (λ end. no_bind (text_field 3 body) _ (no_text_field 3 body)
    (λ name. no_if (leb start end) (accepted (function_name start (some end) name)) (refuse EndBeforeStart) tt (refl, refl))))
    tt

no_body : (kind : Kind) (body : Bytes) → NoText (read_body kind body)
unfolding read_body
no_body K.TestName body = tt
no_body K.SourceFile body = tt
no_body K.FunctionName body =
    no_bind (number_field u32_max 1 body) _ (no_number u32_max 1 body) (λ start. no_bind (text_field 2 body) _ (no_text_field 2 body) (no_function start body))
no_body K.FunctionData body =
    no_bind (number_field u64_max 1 body) _ (no_number u64_max 1 body) (λ count. no_bind (text_field 2 body) _ (no_text_field 2 body) (λ name. tt))
no_body K.FunctionsFound body = no_one functions_found body
no_body K.FunctionsHit body = no_one functions_hit body
no_body K.BranchData body =
    no_bind (number_field u32_max 1 body) _ (no_number u32_max 1 body)
    (λ line. no_bind (number_field u32_max 2 body) _ (no_number u32_max 2 body)
    (λ block. no_bind (number_field u32_max 3 body) _ (no_number u32_max 3 body)
    (λ branch. no_bind (taken_field u64_max 4 body) _ (no_taken u64_max 4 body) (λ taken. no_last 5 body (branch_data line block branch taken)))))
no_body K.BranchesFound body = no_one branches_found body
no_body K.BranchesHit body = no_one branches_hit body
no_body K.LineData body =
    no_bind (number_field u32_max 1 body) _ (no_number u32_max 1 body) (λ line. no_bind (number_field u64_max 2 body) _ (no_number u64_max 2 body) (λ count. tt))
no_body K.LinesFound body = no_one lines_found body
no_body K.LinesHit body = no_one lines_hit body
no_body K.EndOfRecord body = tt

-- ---- the effect of a record

no_map : {A B : Type 0} (f : A → B) (r : Answer A) → NoText r → NoText (map_accepted f r)
no_map f (accepted a) g = tt
no_map f (refused c) g = g

module _ {E K : Type 0} (key : E → K) (cmp : K → K → Ordering) (combine : E → E → Answer E) where
  no_add : (e : E) (m : List E) → ((x : E) → NoText (combine x e)) → NoText (add key cmp combine e m)
  no_add e [] h = tt
  no_add e (x ∷ xs) h = go (cmp (key e) (key x)) (no_add e xs h)
    where
      go : (o : Ordering) → NoText (add key cmp combine e xs)
          → NoText (by_order o (accepted (e ∷ x ∷ xs)) (map_accepted (λ y. y ∷ xs) (combine x e)) (map_accepted (λ ys. x ∷ ys) (add key cmp combine e xs)))
      go Ordering.lt g = tt
      go Ordering.eq g = no_map (λ y. y ∷ xs) (combine x e) (h x)
      go Ordering.gt g = no_map (λ ys. x ∷ ys) (add key cmp combine e xs) g

  no_add_all : (es m : List E) → ((x e : E) → NoText (combine x e)) → NoText (add_all key cmp combine es m)
  no_add_all [] m h = tt
  no_add_all (e ∷ es) m h = no_bind (add key cmp combine e m) (λ n. add_all key cmp combine es n) (no_add e m (λ x. h x e)) (λ n. no_add_all es n h)

no_enter : (combine : Item → Item → Answer Item) (e : Item) (s : State) → ((x : Item) → NoText (combine x e)) → NoText (enter_item combine e s)
unfolding enter_item
no_enter combine e s h = no_bind (add item_key compare_bytes combine e s.items) _ (no_add item_key compare_bytes combine e s.items h) (λ items. tt)

no_calls : (x e : Item) → NoText (add_calls x e)
unfolding add_calls sum
no_calls (section_item spelling) e = tt
no_calls (function_item f) e =
    no_bind (sum CallOverflow f.count (count_of e)) _ (no_if (leb (f.count + count_of e) u64_max) (accepted (f.count + count_of e)) (refuse CallOverflow) tt (refl, refl)) (λ n. tt)
no_calls (branch_item line block branch taken) e = tt
no_calls (line_item line count checksum) e = tt

no_effect : (r : Record) (s : State) → NoText (effect r s)
unfolding effect name_section ignored
no_effect (test_name name) s = no_if s.inside (refuse UnexpectedRecord) (accepted (outside s.kept name)) (refl, refl) tt
no_effect (source_file path) s = no_option s.path (accepted (open_section s (some path) s.items)) (λ earlier. refuse SecondSourceFile) tt (λ earlier. (refl, refl))
no_effect (function_name start end name) s = no_enter replace (function_item (function_of name (some (extent_at start end)) 0)) s (λ x. tt)
no_effect (function_data count name) s = let e : Item = function_item (function_of name none count) in no_enter add_calls e s (λ x. no_calls x e)
no_effect (functions_found found) s = tt
no_effect (functions_hit hit) s = tt
no_effect (branch_data line block branch taken) s = no_enter replace (branch_item line block branch taken) s (λ x. tt)
no_effect (branches_found found) s = tt
no_effect (branches_hit hit) s = tt
no_effect (line_data line count checksum) s = no_enter replace (line_item line count checksum) s (λ x. tt)
no_effect (lines_found found) s = tt
no_effect (lines_hit hit) s = tt
no_effect end_of_record s = tt

-- ---- a text

module _ (tag : Kind → Bytes) (limit : ℕ) where
  no_record : (line : Bytes) → NoText (read_record tag line)
  unfolding read_record read_trimmed
  no_record line =
      no_option (kind_among tag all_kinds (before colon (trimmed line))) (refuse UnknownRecord) (λ kind. read_body kind (body_of (trimmed line))) (refl, refl)
      (λ kind. no_body kind (body_of (trimmed line)))

  no_step : (bytes : Bytes) (s : State) → NoText (step tag limit bytes s)
  unfolding step within
  no_step bytes s =
      no_bind (read_record tag bytes) _ (no_record bytes)
      (λ r. no_bind (effect r s) _ (no_effect r s) (λ t. no_if (leb (entries t) limit) (accepted t) (refuse TooManyEntries) tt (refl, refl)))

  no_lines : (k : ℕ) (ls : List Bytes) (s : State) → NoText (read_lines tag limit k ls s)
  unfolding read_lines
  no_lines k [] s = no_if s.inside (on_line k (refuse UnexpectedEof)) (accepted s.kept) (refl, refl) tt
  no_lines k (bytes ∷ ls) s = no_bind (on_line k (step tag limit bytes s)) _ (no_line k (step tag limit bytes s) (no_step bytes s)) (λ t. no_lines (suc k) ls t)

  pub no_text : (text : Bytes) → NoText (read_text tag limit text)
  unfolding read_text
  no_text text = no_lines 1 (lines text) (outside [] [])

-- ---- merging

no_sum : (fault : Fault) (a b : ℕ) → NotShort fault → NoText (sum fault a b)
unfolding sum
no_sum fault a b h = no_if (leb (a + b) u64_max) (accepted (a + b)) (refuse fault) tt (refl, h)

no_sum_taken : (a b : Option ℕ) → NoText (sum_taken a b)
unfolding sum_taken
no_sum_taken a none = tt
no_sum_taken none (some b) = tt
no_sum_taken (some a) (some b) = no_bind (sum CountOverflow a b) _ (no_sum CountOverflow a b refl) (λ taken. tt)

no_agree : {A : Type 0} (same : A → A → Bool) (mode : Mode) (fault : Fault) (a b : Option A) → NotShort fault → NoText (agree same mode fault a b)
unfolding agree
no_agree same mode fault none b h = tt
no_agree same mode fault (some a) none h = tt
no_agree same M.Checked fault (some a) (some b) h = no_if (same a b) (accepted (some a)) (refuse fault) tt (refl, h)
no_agree same M.Lossy fault (some a) (some b) h = tt

no_extents : (mode : Mode) (a b : Option Extent) → NoText (combine_extents mode a b)
unfolding combine_extents
no_extents mode none b = tt
no_extents mode (some a) none = tt
no_extents M.Checked (some a) (some b) =
    no_if (eqb a.start b.start) (accepted (some (join_extents a b))) (refuse UnmatchedFunctionLine) tt (refl, refl)
no_extents M.Lossy (some a) (some b) = tt

no_combine : (mode : Mode) (a b : Item) → NoText (combine_items mode a b)
unfolding combine_items
no_combine mode (section_item spelling) b = tt
no_combine mode (function_item f) b = no_bind (combine_extents mode f.extent (extent_of b)) _ (no_extents mode f.extent (extent_of b)) (λ both. tt)
no_combine mode (branch_item line block branch taken) b = no_bind (sum_taken taken (taken_of b)) _ (no_sum_taken taken (taken_of b)) (λ total. tt)
no_combine mode (line_item line count checksum) b =
    no_bind (agree same_bytes mode UnmatchedChecksum checksum (checksum_of b)) _ (no_agree same_bytes mode UnmatchedChecksum checksum (checksum_of b) refl)
    (λ both. no_bind (sum CountOverflow count (count_of b)) _ (no_sum CountOverflow count (count_of b) refl) (λ total. tt))

no_entries : (mode : Mode) (a b : Entry) → NoText (combine_entries mode a b)
unfolding combine_entries
no_entries mode a b = no_bind (combine_items mode a.item b.item) _ (no_combine mode a.item b.item) (λ both. tt)

-- ---- the gather of texts

module _ (tag : Kind → Bytes) (mode : Mode) (limit : ℕ) where
  no_gathered : (text : Bytes) (m : Report) → NoText (gather_text tag mode limit text m)
  unfolding gather_text merge within
  no_gathered text m =
      no_bind (read_text tag limit text) _ (no_text tag limit text)
      (λ read. no_bind (add_all entry_key compare_keys (combine_entries mode) read m) _ (no_add_all entry_key compare_keys (combine_entries mode) read m (no_entries mode))
      (λ joined. no_if (leb (length joined) limit) (accepted joined) (refuse TooManyEntries) tt (refl, refl)))

  -- NEVER 14
  pub gathered_never_14 : (ts : List Text) (m : Report) {r : Refusal} → gather_texts tag mode limit ts m ≡ refused r → number_of r.fault ≡ 14 → ⊥
  unfolding gather_texts
  gathered_never_14 [] m p n = not_refused p
  gathered_never_14 (t ∷ ts) m {r} p n =
      go (gather_text tag mode limit t.bytes m) (no_gathered t.bytes m) p (λ j q. gathered_never_14 ts j q n)
    where
      go : (x : Answer Report) → NoText x → bind (in_text t.index x) (λ next. gather_texts tag mode limit ts next) ≡ refused r
          → ((j : Report) → gather_texts tag mode limit ts j ≡ refused r → ⊥) → ⊥
      go (accepted j) h q ih = ih j q
      go (refused c) h q ih =
          let f : c.fault ≡ r.fault = ap (λ (r : Refusal). r.fault) (refused_inj q) in
          clash (sym h.1 ∙ ap (λ (fault : Fault). eqb (number_of fault) 14) f ∙ ap (λ (k : ℕ). eqb k 14) n)
        where
          clash : false ≡ true → ⊥
          clash z = impossible cc
