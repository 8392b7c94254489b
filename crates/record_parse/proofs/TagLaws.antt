-- A whole line: its end trimmed, its tag recognised, its body read. Assumes nothing.
use Rattle.std.specs.Prelude.{Option as LentOption, Result, Some, None, Ok, Err}
use Prim.Native.Nat.{ℕ, ◌+◌, ◌≤◌}
use mathlib.Core.Path.{◌≡◌, refl, sym, ap, ◌∙◌}
use mathlib.Core.List.{List, [], ◌∷◌}
use mathlib.Core.Bool.{Bool, true, false, cond}
use mathlib.Core.Option.{none, some}
use lib.Dec.{ltb}
use lib.ListN.{length, drop, drop_of_length-le}
use denote.Enum.Declared.{tag_of}
use types.Run.{OneOf, miss}
use borrow.Author.Tests.{ltb-false}
use Rattle.ordmap.proofs.Results.{impossible, not_refused}
use Rattle.model.specs.declared.Fault.TheVariants.{UnknownRecord}
use Rattle.model.specs.declared.Kind.{Kind}
use Rattle.model.specs.declared.Kind.TheVariants as Kd
use Rattle.model.specs.declared.Part.{Part}
use Rattle.model.specs.declared.Refusal.{Refusal}
use Rattle.model.specs.declared.Record.{Record as LentRecord}
use Rattle.model.specs.declared.Record.TheVariants as Lent
use Rattle.model.specs.Bytes.{Bytes, colon, before}
use Rattle.model.specs.Answer.{Answer, accepted, refused, ◌>>=◌, on_line}
use Rattle.model.specs.Record.{Record, test_name, source_file, end_of_record}
use Rattle.model.specs.TagTable.{tags_of, are_tags}
use Rattle.model.specs.Line.{trimmed, read_one, read_body, body_of, read_trimmed, read_record}
use Rattle.model.specs.Parts.{lent_from, lent_record, lent_line}
use Rattle.model.specs.Calls.{call_values, ValueCall, call_answer}
use Rattle.model.specs.contracts.Kind.{the_type}
use Rattle.model.proofs.TagLaws.{kind_among-tag, kind_among-none}
use Rattle.model.proofs.TagTableLaws.{tags_lawful}
use Rattle.model.proofs.CallLaws.{call_exact}
use Rattle.tag_table.specs.Kinds.{body_at, TaggedAs, Untagged, FoundIn}
use Rattle.tag_table.specs.declared.Tagged.{Tagged}
use Rattle.record_parse.specs.Answers.{Answers, read, refusal}
use Rattle.record_parse.specs.Fields.{refused_at, part_from}
use Rattle.record_parse.specs.Lines.{count_made, count_kind, is_total, TotalOf}
use Rattle.record_parse.specs.declared.lines.Total.{Total}
use Rattle.record_parse.specs.declared.lines.Total.TheVariants as Ct
use Rattle.record_parse.proofs.FieldLaws.{part, part_rest, after_at}

-- ---- the kinds whose body is a text, a number, or is ignored

module _ (line : Bytes) (at : ℕ) (kind : Kind) where
  module _ (p : Part) (is : p ≡ part_from at (part line at)) (there : at ≤ length line) where
    pub test_body : kind ≡ Kd.TestName → Answers line (Ok (Lent.TestName p)) (read_body kind (drop at line))
    unfolding read_body lent_from
    test_body e = rw e (read (test_name (drop at line)) (Lent.TestName p) (ap (λ (q : Part). Lent.TestName q) (is ∙ part_rest line at there)))

    pub source_body : kind ≡ Kd.SourceFile → Answers line (Ok (Lent.SourceFile p)) (read_body kind (drop at line))
    unfolding read_body lent_from
    source_body e = rw e (read (source_file (drop at line)) (Lent.SourceFile p) (ap (λ (q : Part). Lent.SourceFile q) (is ∙ part_rest line at there)))

  pub end_body : kind ≡ Kd.EndOfRecord → Answers line (Ok Lent.EndOfRecord) (read_body kind (drop at line))
  unfolding read_body lent_from
  end_body e = rw e (read end_of_record Lent.EndOfRecord refl)

  -- a kind that has a reader of its own
  pub known_body : (known : Kind) (r : Result LentRecord Refusal) → kind ≡ known → Answers line r (read_body known (drop at line)) → Answers line r (read_body kind (drop at line))
  known_body known r e a = rw e a

-- ---- the six kinds that hold one number

pub total-is : (kind known : Kind) (r : Total) → kind ≡ known → count_kind r ≡ known → TotalOf kind r
total-is kind known r e k = record { is = λ t. k ∙ sym e }

-- a kind that is none of the first five
abbrev not_first : List ℕ
not_first = 0 ∷ 1 ∷ 2 ∷ 3 ∷ 6 ∷ 9 ∷ 11 ∷ 12 ∷ []

last-total : (kind : Kind) → OneOf not_first (tag_of the_type kind) → is_total kind ≡ true → Kd.LinesHit ≡ kind
last-total Kd.TestName h t = impossible cc
last-total Kd.SourceFile h t = impossible cc
last-total Kd.FunctionName h t = impossible cc
last-total Kd.FunctionData h t = impossible cc
last-total Kd.FunctionsFound h t = absurd (miss not_first 4 tt h)
last-total Kd.FunctionsHit h t = absurd (miss not_first 5 tt h)
last-total Kd.BranchData h t = impossible cc
last-total Kd.BranchesFound h t = absurd (miss not_first 7 tt h)
last-total Kd.BranchesHit h t = absurd (miss not_first 8 tt h)
last-total Kd.LineData h t = impossible cc
last-total Kd.LinesFound h t = absurd (miss not_first 10 tt h)
last-total Kd.LinesHit h t = refl
last-total Kd.EndOfRecord h t = impossible cc

pub total-last : (kind : Kind) → OneOf not_first (tag_of the_type kind) → TotalOf kind Ct.LinesHit
total-last kind h = record { is = last-total kind h }

-- a kind that has no reader of its own
abbrev read_as_total : List ℕ
read_as_total = 4 ∷ 5 ∷ 7 ∷ 8 ∷ 10 ∷ 11 ∷ []

holds-total : (kind : Kind) → OneOf read_as_total (tag_of the_type kind) → is_total kind ≡ true
holds-total Kd.TestName h = absurd (miss read_as_total 0 tt h)
holds-total Kd.SourceFile h = absurd (miss read_as_total 1 tt h)
holds-total Kd.FunctionName h = absurd (miss read_as_total 2 tt h)
holds-total Kd.FunctionData h = absurd (miss read_as_total 3 tt h)
holds-total Kd.FunctionsFound h = refl
holds-total Kd.FunctionsHit h = refl
holds-total Kd.BranchData h = absurd (miss read_as_total 6 tt h)
holds-total Kd.BranchesFound h = refl
holds-total Kd.BranchesHit h = refl
holds-total Kd.LineData h = absurd (miss read_as_total 9 tt h)
holds-total Kd.LinesFound h = refl
holds-total Kd.LinesHit h = refl
holds-total Kd.EndOfRecord h = absurd (miss read_as_total 12 tt h)

total_body : {line : Bytes} {r : Result LentRecord Refusal} (total : Total) (body : Bytes) → Answers line r (read_one (count_made total) body) → Answers line r (read_body (count_kind total) body)
unfolding read_body
total_body Ct.FunctionsFound body a = a
total_body Ct.FunctionsHit body a = a
total_body Ct.BranchesFound body a = a
total_body Ct.BranchesHit body a = a
total_body Ct.LinesFound body a = a
total_body Ct.LinesHit body a = a

pub other_body : (line : Bytes) (r : Result LentRecord Refusal) (kind : Kind) (total : Total) (body : Bytes) → OneOf read_as_total (tag_of the_type kind) → TotalOf kind total
    → Answers line r (read_one (count_made total) body) → Answers line r (read_body kind body)
other_body line r kind total body h t a = rw (← (t.is (holds-total kind h))) (total_body total body a)

-- ---- where the body starts

body_is : (s : Bytes) → drop (body_at (length s) (length (before colon s))) s ≡ body_of s
unfolding body_of body_at
body_is s = rw (after_at colon s, body_of) (go (ltb (length (before colon s)) (length s)) refl)
  where
    go : (d : Bool) → ltb (length (before colon s)) (length s) ≡ d → drop (cond d (length (before colon s) + 1) (length (before colon s))) s ≡ (elim (cond d (some (drop (length (before colon s) + 1) s)) none) [ none ↦ [] | some body ↦ body ])
    go true e = refl
    go false e = drop_of_length-le s (ltb-false (length (before colon s)) (length s) e)

-- ---- a whole line

answer_is : {line : Bytes} {r : Result LentRecord Refusal} {x : Answer Record} → Answers line r x → ValueCall (x >>= λ made. accepted (lent_from line made)) r
unfolding call_values
answer_is (read made lent e) = ap (λ (l : LentRecord). accepted l) e
answer_is (refusal q) = refl

module _ (tags line s : Bytes) (are : are_tags tags ≡ true) (is : s ≡ trimmed line) where
  trimmed-read : (r : Result LentRecord Refusal) → Answers s r (read_trimmed (tags_of tags) s) → ValueCall (lent_record (tags_of tags) line) r
  unfolding lent_record read_record
  trimmed-read r a = let b : Answers (trimmed line) r (read_trimmed (tags_of tags) (trimmed line)) = rw is at a in answer_is b

  module _ (found : LentOption Tagged) (f : FoundIn (tags_of tags) s found) where
    pub record_read : (kind : Kind) (at : ℕ) (r : Result LentRecord Refusal) → found ≡ Some (record { kind = kind; at = at }) → Answers s r (read_body kind (drop at s)) → ValueCall (lent_record (tags_of tags) line) r
    unfolding read_trimmed
    record_read kind at r e body =
        let t : TaggedAs (tags_of tags) s (record { kind = kind; at = at }) = rw e at f in
        trimmed-read r
        (rw (t.is, kind_among-tag (tags_of tags) (tags_lawful tags are) kind, read_trimmed)
        (rw (t.body, body_is s) at body))

    pub record_unknown : (r : Result LentRecord Refusal) → found ≡ None → r ≡ refused_at UnknownRecord 0 → ValueCall (lent_record (tags_of tags) line) r
    unfolding read_trimmed
    record_unknown r e q =
        let t : Untagged (tags_of tags) s = rw e at f in
        trimmed-read r (rw (kind_among-none (tags_of tags) (before colon s) t.none, read_trimmed, q) (refusal _))

    pub found_within : (kind : Kind) (at : ℕ) → found ≡ Some (record { kind = kind; at = at }) → at ≤ length s
    found_within kind at e = let t : TaggedAs (tags_of tags) s (record { kind = kind; at = at }) = rw e at f in t.within

-- ---- a lone line is line 1

module _ (tag : Kind → Bytes) (line : Bytes) (got : Result LentRecord Refusal) (seen : ValueCall (lent_record tag line) got) where
  pub lone_read : (lent : LentRecord) → got ≡ Ok lent → ValueCall (lent_line tag line) (Ok lent)
  unfolding call_values lent_line
  lone_read lent e = go (lent_record tag line) (rw e at seen)
    where
      go : (a : Answer LentRecord) → ValueCall a (Ok lent) → ValueCall (on_line 1 a) (Ok lent)
      go (accepted l) q = q
      go (refused r) q = absurd (not_refused q)

  pub lone_refused : (q : Refusal) → got ≡ Err q
      → ValueCall (lent_line tag line) (Err (record { fault = q.fault; text = q.text; line = 1; field = q.field; needed = q.needed }))
  unfolding call_values call_answer lent_line
  lone_refused q e = go (lent_record tag line) (sym e ∙ call_exact (lent_record tag line) got seen)
    where
      go : (a : Answer LentRecord) → Err q ≡ call_answer a
          → ValueCall (on_line 1 a) (Err (record { fault = q.fault; text = q.text; line = 1; field = q.field; needed = q.needed }))
      go (accepted l) p = impossible cc
      go (refused r) p = let z : q ≡ r = cc in rw z
