-- What a record does, by its kind's number. Assumes nothing.
use Prim.Native.Nat.{ℕ, zero, suc, ◌+◌, ◌-◌, ◌≤◌, ◌<◌}
use mathlib.Core.Path.{◌≡◌, refl, sym, ap, ◌∙◌}
use mathlib.Core.Bool.{Bool, true, false, cond}
use mathlib.Core.List.{List}
use mathlib.Core.Option.{Option, some}
use native.Mathlib.Omega.{arith}
use borrow.Author.Tests.{eqb-true}
use lib.Dec.{eqb}
use lib.ListN.{length, take, drop}
use Rattle.ordmap.proofs.Results.{accepted_inj, bind-accepted, impossible}
use Rattle.table.specs.declared.Row.{Row}
use Rattle.model.specs.declared.Fault.{Fault}
use Rattle.model.specs.declared.Part.{Part}
use Rattle.model.specs.declared.Record.{Record as LentRecord}
use Rattle.model.specs.declared.Record.TheVariants as Lent
use Rattle.model.specs.Bytes.{Bytes}
use Rattle.std.specs.Prelude.{if◌then◌else◌, Option as LentOption, Some, None, Result}
use Rattle.model.specs.Answer.{Answer, accepted, ◌>>=◌}
use Rattle.model.specs.Record.{Record, test_name, source_file, function_name, function_data, line_data, end_of_record}
use Rattle.model.specs.Report.{Item}
use Rattle.model.specs.Parts.{given_in, part_of, checksum_in, record_in}
use Rattle.model.specs.Reading.{State as ModelState, enter_item, ignored, effect}
use Rattle.table_item.specs.Items.{kind_of, function_kind, part_in, PartInside, checksum_part, item_of}
use Rattle.table_item.specs.Combining.{combine_of, is_calls, calls_of}
use Rattle.table_item.proofs.CountLaws.{function-item}
use Rattle.section_tail.specs.Tail.{RowOfLine}
use Rattle.section.specs.declared.State.{State}
use Rattle.section.specs.Reading.{state_of, counted, StepOf, StepBy}
use Rattle.section.proofs.StateLaws.{step_as}
use Rattle.report_parser.specs.Effect.{kind_number, text_part, item_in, PartWithin, ChecksumWithin, TextsWithin, moved_part, AddsItem, RowOf, RecordAt, Steps}
use Rattle.report_parser.proofs.RowLaws.{part-read, moved-is}

-- ---- by number

-- the kinds of found and hit lines
abbrev ignored_kind : ℕ → Bool
ignored_kind k = if eqb k 4 then true else (if eqb k 5 then true else (if eqb k 7 then true else (if eqb k 8 then true else (if eqb k 10 then true else eqb k 11))))

abbrev meaning : ℕ → Bytes → Item → ModelState → Answer ModelState
meaning k text item s =
    if eqb k 0
    then effect (test_name text) s
    else (if eqb k 1
    then effect (source_file text) s
    else (if eqb k 12
    then effect end_of_record s
    else (if ignored_kind k then ignored s else enter_item (combine_of (eqb k 3)) item s)))

-- a property of two numbers that follow each other
by_two : (lo k : ℕ) (P : ℕ → Type 0) → lo ≤ k → k < lo + 2 → P lo → P (lo + 1) → P k
by_two lo k P h g a b = go (k - lo) (omega arith)
  where
    go : (d : ℕ) → k ≡ lo + d → P k
    go zero e = let f : k ≡ lo = omega arith in rw f a
    go (suc zero) e = let f : k ≡ lo + 1 = omega arith in rw f b
    go (suc (suc d)) e = absurd (omega arith)

-- k is the number of a found or hit line
pub data FoundOrHit (k : ℕ) : Type 0 where
  found_functions : 4 ≤ k → k < 6 → FoundOrHit k
  found_branches : 7 ≤ k → k < 9 → FoundOrHit k
  found_lines : 10 ≤ k → k < 12 → FoundOrHit k

-- k is the number of a line that adds an item
pub data Added (k : ℕ) : Type 0 where
  function_entered : 2 ≤ k → k < 4 → Added k
  branch_entered : k ≡ 6 → Added k
  line_entered : k ≡ 9 → Added k

module _ (text : Bytes) (item : Item) (s : ModelState) where
  is-ignored : (k : ℕ) → FoundOrHit k → meaning k text item s ≡ ignored s
  is-ignored k (found_functions h g) = by_two 4 k (λ n. meaning n text item s ≡ ignored s) h g refl refl
  is-ignored k (found_branches h g) = by_two 7 k (λ n. meaning n text item s ≡ ignored s) h g refl refl
  is-ignored k (found_lines h g) = by_two 10 k (λ n. meaning n text item s ≡ ignored s) h g refl refl

  is-added : (k : ℕ) → Added k → meaning k text item s ≡ enter_item (combine_of (eqb k 3)) item s
  is-added k (function_entered h g) = by_two 2 k (λ n. meaning n text item s ≡ enter_item (combine_of (eqb n 3)) item s) h g refl refl
  is-added k (branch_entered e) = rw e refl
  is-added k (line_entered e) = rw e refl

-- the kinds of lines that add an item
abbrev adding_kind : ℕ → Bool
adding_kind k = if eqb k 2 then true else (if eqb k 3 then true else (if eqb k 6 then true else eqb k 9))

is-adding : (k : ℕ) → Added k → adding_kind k ≡ true
is-adding k (function_entered h g) = by_two 2 k (λ n. adding_kind n ≡ true) h g refl refl
is-adding k (branch_entered e) = rw e refl
is-adding k (line_entered e) = rw e refl

never : false ≡ true → ⊥
never e = impossible cc

adding-adds : (lent : LentRecord) → adding_kind (kind_number lent) ≡ true → AddsItem lent
adding-adds (Lent.TestName p) e = never e
adding-adds (Lent.SourceFile p) e = never e
adding-adds (Lent.FunctionName start end p) e = tt
adding-adds (Lent.FunctionData count p) e = tt
adding-adds (Lent.FunctionsFound found) e = never e
adding-adds (Lent.FunctionsHit hit) e = never e
adding-adds (Lent.BranchData line block branch taken) e = tt
adding-adds (Lent.BranchesFound found) e = never e
adding-adds (Lent.BranchesHit hit) e = never e
adding-adds (Lent.LineData line count checksum) e = tt
adding-adds (Lent.LinesFound found) e = never e
adding-adds (Lent.LinesHit hit) e = never e
adding-adds Lent.EndOfRecord e = never e

-- ---- a record of a line

record Read (len : ℕ) (bytes : Bytes) (lent : LentRecord) (made : Record) : Type 0 where
  pub within : TextsWithin len lent
  pub most : kind_number lent ≤ 12
  pub does : (s : ModelState) → effect made s ≡ meaning (kind_number lent) (part_in bytes (text_part lent)) (item_in bytes lent) s

does_as : {len : ℕ} {bytes : Bytes} {lent : LentRecord} {made found : Record} → TextsWithin len lent → kind_number lent ≤ 12 → found ≡ made
    → ((s : ModelState) → effect found s ≡ meaning (kind_number lent) (part_in bytes (text_part lent)) (item_in bytes lent) s) → Read len bytes lent made
does_as w m f d = record { within = w; most = m; does = λ s. ap (λ (x : Record). effect x s) (sym f) ∙ d s }

text-read : {A : Type 0} (len : ℕ) (bytes : Bytes) (p : Part) (make : Bytes → A) {made : A}
    → (part_of (take len bytes) p >>= λ b. accepted (make b)) ≡ accepted made → PartWithin len p × (make (part_in bytes p) ≡ made)
text-read {A = A} len bytes p make {made} e = go (bind-accepted (part_of (take len bytes) p) (λ b. accepted (make b)) e)
  where
    go : (b : Bytes) × (part_of (take len bytes) p ≡ accepted b) × (◌≡◌ {A = Answer A} (accepted (make b)) (accepted made)) → PartWithin len p × (make (part_in bytes p) ≡ made)
    go (b, f, g) = let t = part-read len bytes p f in (t.0, ap make t.1 ∙ accepted_inj g)

checksum-read : (len : ℕ) (bytes : Bytes) (checksum : LentOption Part) {given : Option Bytes} → checksum_in (take len bytes) checksum ≡ accepted given
    → ChecksumWithin len checksum × (checksum_part bytes checksum ≡ given)
unfolding checksum_in
checksum-read len bytes (Some p) e = text-read len bytes p (λ b. some b) e
checksum-read len bytes None e = (tt, accepted_inj e)

line_read : (len : ℕ) (bytes : Bytes) (line count : ℕ) (checksum : LentOption Part) {made : Record}
    → (checksum_in (take len bytes) checksum >>= λ given. accepted (line_data line count given)) ≡ accepted made
    → ChecksumWithin len checksum × (line_data line count (checksum_part bytes checksum) ≡ made)
line_read len bytes line count checksum {made} e = go (bind-accepted (checksum_in (take len bytes) checksum) (λ given. accepted (line_data line count given)) e)
  where
    go : (b : Option Bytes) × (checksum_in (take len bytes) checksum ≡ accepted b) × (◌≡◌ {A = Answer Record} (accepted (line_data line count b)) (accepted made))
        → ChecksumWithin len checksum × (line_data line count (checksum_part bytes checksum) ≡ made)
    go (b, f, g) =
        let t = checksum-read len bytes checksum f in
        (t.0, ap (λ (c : Option Bytes). line_data line count c) t.1 ∙ accepted_inj g)

read : (len : ℕ) (bytes : Bytes) (lent : LentRecord) {made : Record} → record_in (take len bytes) lent ≡ accepted made → Read len bytes lent made
unfolding record_in effect
read len bytes (Lent.TestName p) e = let t = text-read len bytes p test_name e in does_as (record { text = t.0; checksum = tt }) (omega arith) t.1 (λ s. refl)
read len bytes (Lent.SourceFile p) e = let t = text-read len bytes p source_file e in does_as (record { text = t.0; checksum = tt }) (omega arith) t.1 (λ s. refl)
read len bytes (Lent.FunctionName start end p) e = let t = text-read len bytes p (function_name start (given_in end)) e in does_as (record { text = t.0; checksum = tt }) (omega arith) t.1 (λ s. refl)
read len bytes (Lent.FunctionData count p) e = let t = text-read len bytes p (function_data count) e in does_as (record { text = t.0; checksum = tt }) (omega arith) t.1 (λ s. refl)
read len bytes (Lent.FunctionsFound found) e = does_as (record { text = omega arith; checksum = tt }) (omega arith) (accepted_inj e) (λ s. refl)
read len bytes (Lent.FunctionsHit hit) e = does_as (record { text = omega arith; checksum = tt }) (omega arith) (accepted_inj e) (λ s. refl)
read len bytes (Lent.BranchData line block branch taken) e = does_as (record { text = omega arith; checksum = tt }) (omega arith) (accepted_inj e) (λ s. refl)
read len bytes (Lent.BranchesFound found) e = does_as (record { text = omega arith; checksum = tt }) (omega arith) (accepted_inj e) (λ s. refl)
read len bytes (Lent.BranchesHit hit) e = does_as (record { text = omega arith; checksum = tt }) (omega arith) (accepted_inj e) (λ s. refl)
read len bytes (Lent.LineData line count checksum) e = let t = line_read len bytes line count checksum e in does_as (record { text = omega arith; checksum = t.0 }) (omega arith) t.1 (λ s. refl)
read len bytes (Lent.LinesFound found) e = does_as (record { text = omega arith; checksum = tt }) (omega arith) (accepted_inj e) (λ s. refl)
read len bytes (Lent.LinesHit hit) e = does_as (record { text = omega arith; checksum = tt }) (omega arith) (accepted_inj e) (λ s. refl)
read len bytes Lent.EndOfRecord e = does_as (record { text = omega arith; checksum = tt }) (omega arith) (accepted_inj e) (λ s. refl)

pub within-line : {text : Bytes} {at len : ℕ} {lent : LentRecord} → RecordAt text at len lent → TextsWithin len lent
within-line {text} {at} {len} {lent} ρ = (read len (drop at text) lent ρ.is).within

pub text-within : {text : Bytes} {at len : ℕ} {p : Part} {lent : LentRecord} → RecordAt text at len lent → p ≡ text_part lent → PartWithin len p
text-within ρ e = rw e (within-line ρ).text

pub added-item : {text : Bytes} {at len k : ℕ} {lent : LentRecord} → k ≡ kind_number lent → (k ≤ 12 → Added k) → RecordAt text at len lent → AddsItem lent
added-item {text} {at} {len} {k} {lent} κ β ρ =
    let most = (read len (drop at text) lent ρ.is).most in
    adding-adds lent (rw (sym κ) (is-adding k (β (rw κ most))))

-- only FNDA gives calls
calls_in_lem : (bytes : Bytes) (lent : LentRecord) → is_calls (item_in bytes lent) ≡ eqb (kind_number lent) 3
unfolding is_calls
calls_in_lem bytes (Lent.TestName p) = refl
calls_in_lem bytes (Lent.SourceFile p) = refl
calls_in_lem bytes (Lent.FunctionName start end p) = refl
calls_in_lem bytes (Lent.FunctionData count p) = refl
calls_in_lem bytes (Lent.FunctionsFound found) = refl
calls_in_lem bytes (Lent.FunctionsHit hit) = refl
calls_in_lem bytes (Lent.BranchData line block branch taken) = refl
calls_in_lem bytes (Lent.BranchesFound found) = refl
calls_in_lem bytes (Lent.BranchesHit hit) = refl
calls_in_lem bytes (Lent.LineData line count checksum) = refl
calls_in_lem bytes (Lent.LinesFound found) = refl
calls_in_lem bytes (Lent.LinesHit hit) = refl
calls_in_lem bytes Lent.EndOfRecord = refl

no_calls : (bytes : Bytes) (lent : LentRecord) → eqb (kind_number lent) 3 ≡ false → calls_of (item_in bytes lent) ≡ 0
unfolding calls_of
no_calls bytes (Lent.TestName p) q = refl
no_calls bytes (Lent.SourceFile p) q = refl
no_calls bytes (Lent.FunctionName start end p) q = refl
no_calls bytes (Lent.FunctionData count p) q = impossible cc
no_calls bytes (Lent.FunctionsFound found) q = refl
no_calls bytes (Lent.FunctionsHit hit) q = refl
no_calls bytes (Lent.BranchData line block branch taken) q = refl
no_calls bytes (Lent.BranchesFound found) q = refl
no_calls bytes (Lent.BranchesHit hit) q = refl
no_calls bytes (Lent.LineData line count checksum) q = refl
no_calls bytes (Lent.LinesFound found) q = refl
no_calls bytes (Lent.LinesHit hit) q = refl
no_calls bytes Lent.EndOfRecord q = refl

own_calls : (text : Bytes) (r : Row) → kind_of r ≡ function_kind → calls_of (item_of text r) ≡ r.count
unfolding calls_of
own_calls text r e = ap calls_of (function-item text r e)

pub adds_of : {at len k : ℕ} {lent : LentRecord} {r : Row} → k ≡ kind_number lent → RowOf at len lent r → RowOfLine (eqb k 3) r
adds_of {at} {len} {k} {lent} {r} e ω = record {
  adding = λ text. ap is_calls (ω.is text) ∙ calls_in_lem (drop at text) lent ∙ ap (λ (n : ℕ). eqb n 3) (sym e);
  counts = λ text. counts text (eqb k 3) refl;
}
  where
    counts : (text : Bytes) (b : Bool) → eqb k 3 ≡ b → calls_of (item_of text r) ≡ cond b r.count 0
    counts text true q = own_calls text r (ω.adds (sym e ∙ eqb-true k 3 q))
    counts text false q = ap calls_of (ω.is text) ∙ no_calls (drop at text) lent (ap (λ (n : ℕ). eqb n 3) (sym e) ∙ q)

-- ---- steps

moved_inside : (text : Bytes) (at len : ℕ) (p there : Part) → there ≡ moved_part at p → at + len ≤ length text → PartWithin len p → PartInside text there
moved_inside text at len p there μ h w = rw μ (omega arith)

-- what the record does to the state that the words hold, by a number
abbrev doing : List ℕ → List ℕ → ℕ → State → LentRecord → ℕ → ℕ → Answer ModelState
doing text ws index st lent at k = meaning k (part_in (drop at text) (text_part lent)) (item_in (drop at text) lent) (state_of text ws index st)

module _ {text ws ws' : List ℕ} {index limit : ℕ} {st : State} {lent : LentRecord} {at len : ℕ} {r : Result State Fault} {k : ℕ} (κ : k ≡ kind_number lent) where
  stepped : (f : Answer ModelState) → ((made : Record) → Read len (drop at text) lent made → f ≡ doing text ws index st lent at k)
      → ((made : Record) → Read len (drop at text) lent made → StepOf text ws' index limit (counted limit f) r) → Steps text ws ws' index limit st lent at len r
  stepped f e σ = record {
    by = λ made q.
        let ρ = read len (drop at text) lent q in
        step_as (ap (counted limit) (e made ρ ∙ ap (doing text ws index st lent at) κ ∙ sym (ρ.does (state_of text ws index st)))) (σ made ρ);
  }

  module _ {p there : Part} (ε : p ≡ text_part lent) (μ : there ≡ moved_part at p) (fits : at + len ≤ length text) where
    -- a record that is only its text
    tells : (tell : Bytes → Record) → ((b : Bytes) (item : Item) (s : ModelState) → effect (tell b) s ≡ meaning k b item s)
        → (PartInside text there → StepBy (effect (tell (part_in text there))) text ws ws' index limit st r) → Steps text ws ws' index limit st lent at len r
    tells tell e σ =
        stepped (effect (tell (part_in text there)) (state_of text ws index st))
        (λ made ρ. rw (μ, ε, moved-is text at (text_part lent)) (e _ _ _))
        (λ made ρ. σ (moved_inside text at len p there μ fits (rw ε ρ.within.text)))

    pub names : k ≡ 0 → (PartInside text there → StepBy (effect (test_name (part_in text there))) text ws ws' index limit st r)
        → Steps text ws ws' index limit st lent at len r
    names z σ = tells test_name (λ b item s. rw z refl) σ

    pub opens : k ≡ 1 → (PartInside text there → StepBy (effect (source_file (part_in text there))) text ws ws' index limit st r)
        → Steps text ws ws' index limit st lent at len r
    opens z σ = tells source_file (λ b item s. rw z refl) σ

  pub ends : k ≡ 12 → StepBy (effect end_of_record) text ws ws' index limit st r → Steps text ws ws' index limit st lent at len r
  ends z σ = stepped (effect end_of_record (state_of text ws index st)) (λ made ρ. rw z refl) (λ made ρ. σ)

  pub ignores : FoundOrHit k → StepBy ignored text ws ws' index limit st r → Steps text ws ws' index limit st lent at len r
  ignores ι σ = stepped (ignored (state_of text ws index st)) (λ made ρ. sym (is-ignored (part_in (drop at text) (text_part lent)) (item_in (drop at text) lent) (state_of text ws index st) k ι)) (λ made ρ. σ)

  pub adds : (row : Row) → (k ≤ 12 → Added k) → RowOf at len lent row
      → StepBy (enter_item (combine_of (eqb k 3)) (item_of text row)) text ws ws' index limit st r → Steps text ws ws' index limit st lent at len r
  adds row β ω σ =
      stepped (enter_item (combine_of (eqb k 3)) (item_of text row) (state_of text ws index st))
      (λ made ρ. rw (ω.is text) (sym (is-added (part_in (drop at text) (text_part lent)) (item_in (drop at text) lent) (state_of text ws index st) k (β (rw κ ρ.most)))))
      (λ made ρ. σ)
