-- One text gathered, and then all that are marked. Assumes nothing.
use Prim.Native.Nat.{ℕ, zero, suc, ◌+◌, ◌*◌, ◌-◌, ◌≤◌, ◌<◌}
use native.Mathlib.Omega.{arith}
use mathlib.Core.Path.{◌≡◌, refl, sym, ap, subst, ◌∙◌}
use mathlib.Core.Bool.{Bool, true, false}
use mathlib.Core.List.{List, [], ◌∷◌}
use lib.ListN.{length, take, drop}
use lib.Seq.{length-take-le}
use Rattle.table.specs.Places.{tabulate}
use Rattle.model.specs.declared.Kind.{Kind}
use Rattle.model.specs.declared.Fault.{Fault}
use Rattle.model.specs.declared.Mode.{Mode}
use Rattle.model.specs.declared.Refusal.{Refusal}
use Rattle.model.specs.Lists.{filter, from}
use Rattle.model.specs.Bytes.{Bytes}
use Rattle.model.specs.Answer.{Answer, accepted, refused, ◌>>=◌, refuse, unplaced, in_text}
use Rattle.model.specs.Report.{Report, merge, within}
use Rattle.model.specs.Reading.{read_text}
use Rattle.model.specs.Limits.{max_texts}
use Rattle.model.specs.Bundle.{text_count, Text}
use Rattle.model.specs.Gather.{gather_text, gather_texts}
use Rattle.model.proofs.OneText.{read-alone}
use Rattle.bundle.specs.Marks.{is_marked, NextMarked}
use Rattle.bundle.specs.Places.{text_from, TextsInside}
use Rattle.text_choice.specs.Choice.{choose_texts}
use Rattle.text_choice.proofs.Positions.{choose_next, choose_past}
use Rattle.table_section.specs.Sections.{entries_at}
use Rattle.section.specs.Table.{Table}
use Rattle.section.specs.Reading.{capacity}
use Rattle.report_parser.specs.declared.TextRead.{TextRead as TextSizes}
use Rattle.report_parser.specs.Reader.{seen_text}
use Rattle.merge.specs.Merging.{Tables, seen_joined, HeldJoined, MergedAsModel}
use Rattle.std.specs.Prelude.{Result as Answered, Ok, Err}
use Rattle.scratch_layout.specs.Layout.{index_at, base_at, ScratchRoom}
use Rattle.joined_table.specs.Gathering.{in_text_of, joined_at, JoinedTable, ReadOne, ReadBehind, marked_texts, seen_gathered, GatheredAs}
use Rattle.joined_table.proofs.TableLaws.{table_none}

-- ---- as the code meets them

-- a text's number is small
pub text-few : (bundle : Bytes) (body i : ℕ) → TextsInside bundle body → i < text_count bundle → i < max_texts
text-few bundle body i inside h = omega (arith, inside.few)

pub space-same : (ws ws' : List ℕ) (limit : ℕ) → ScratchRoom ws limit → length ws' ≡ length ws → ScratchRoom ws' limit
space-same ws ws' limit s e = record { most = s.most; words = rw e s.words }

-- ---- one text, read behind the joined table

module _ (tag : Kind → Bytes) (bundle : Bytes) (body : ℕ) (ws ws' : List ℕ) (mode : Mode) (limit n i : ℕ) (got : Answered TextSizes Refusal) (b : ReadBehind tag bundle body ws ws' limit i got) where
  abbrev answer : Answer Report
  answer = gather_text tag mode limit (text_from body bundle i).bytes (joined_at bundle ws limit n)

  -- it is not readable
  pub text-refused : (q r : Refusal) → got ≡ Err q → r ≡ in_text_of i q → GatheredAs (in_text i answer) bundle ws' limit (Err r)
  unfolding gather_text
  text-refused q r e h =
      let read : refused q ≡ read_text tag limit (text_from body bundle i).bytes = rw e at b.read.is in
      record { is = rw (h, ← read); held = tt }

  module _ (kept used : ℕ) (e : got ≡ Ok (record { kept = kept; used = used })) where
    read_is : accepted (entries_at bundle (drop (base_at limit) ws') (index_at limit) kept) ≡ read_text tag limit (text_from body bundle i).bytes
    read_is = rw e at b.read.is

    read_held : Table bundle (drop (base_at limit) ws') (index_at limit) used kept × (used ≤ capacity limit) × (kept ≤ limit)
    read_held = rw e at b.read.held

    -- both tables are there to be merged
    module _ (base index : ℕ) (at_base : base ≡ base_at limit) (at-index : index ≡ index_at limit) where
      pub two_tables : ScratchRoom ws limit → length ws' ≡ length ws → JoinedTable bundle ws limit n → Tables bundle ws' base index limit n used kept
      two_tables space long j =
          record {
            into = rw (at_base, at-index, b.stays) j.table;
            other = rw (at_base, at-index) read_held.0;
            rows = omega arith;
            words = omega arith;
            whole = omega (arith, space.words);
            most = j.most;
          }

      module _ (ws'' : List ℕ) (done : Answered ℕ Fault) (m : MergedAsModel bundle ws' ws'' base index limit n kept mode done) where
        merged : seen_joined bundle (take (base_at limit) ws'') (index_at limit) done ≡ answer
        unfolding gather_text
        merged =
            rw (at_base, at-index) at m.is
            ∙ rw (← read_is, b.stays)

        -- they agree
        pub text-joined : (k : ℕ) → done ≡ Ok k → GatheredAs (in_text i answer) bundle ws'' limit (Ok k)
        text-joined k f =
            let is : accepted (entries_at bundle (take (base_at limit) ws'') (index_at limit) k) ≡ answer = rw f at merged in
            let held : Table bundle (take base ws'') index k k × (k ≤ limit) = rw f at m.held in
            record { is = rw (← is); held = record { table = rw (at_base, at-index) at held.0; most = held.1 } }

        -- they do not
        pub text_conflict : (fault : Fault) (q r : Refusal) → done ≡ Err fault → q ≡ unplaced fault → r ≡ in_text_of i q
            → GatheredAs (in_text i answer) bundle ws'' limit (Err r)
        text_conflict fault q r f g h =
            let is : refuse fault ≡ answer = rw f at merged in
            record { is = rw (h, g, ← is); held = tt }

-- ---- one text, read in front

module _ (tag : Kind → Bytes) (bundle : Bytes) (body : ℕ) (ws ys us : List ℕ) (mode : Mode) (limit n i : ℕ) (got : Answered TextSizes Refusal) (o : ReadOne tag bundle body ys limit i got) (none_yet : n ≡ 0) where
  abbrev alone : Answer Report
  alone = gather_text tag mode limit (text_from body bundle i).bytes (joined_at bundle ws limit n)

  alone-is : alone ≡ seen_text bundle ys (index_at limit) got
  unfolding tabulate
  alone-is = rw none_yet (read-alone tag limit mode (text_from body bundle i).bytes) ∙ sym o.is

  -- it is not readable
  pub front-refused : (q r : Refusal) → got ≡ Err q → r ≡ in_text_of i q → GatheredAs (in_text i alone) bundle us limit (Err r)
  front-refused q r e h = record { is = rw (alone-is, e, h); held = tt }

  -- all rows are the text's: they are the joined table
  pub front-joined : (kept used base : ℕ) → got ≡ Ok (record { kept = kept; used = used }) → kept ≡ used → base ≡ base_at limit → take base us ≡ ys
      → GatheredAs (in_text i alone) bundle us limit (Ok kept)
  front-joined kept used base e f g h =
      let held : Table bundle ys (index_at limit) used kept × (used ≤ capacity limit) × (kept ≤ limit) = rw e at o.held in
      let part : take (base_at limit) us ≡ ys = rw g at h in
      record { is = rw (alone-is, e, part); held = record { table = rw part (rw (← f) at held.0); most = held.2 } }

-- ---- nothing is joined yet

pub joining_none : (bundle ws : List ℕ) (limit : ℕ) → ScratchRoom ws limit → JoinedTable bundle ws limit 0
joining_none bundle ws limit space =
    let front : length (take (base_at limit) ws) ≡ base_at limit = length-take-le (base_at limit) ws (omega (arith, space.words)) in
    record { table = table_none bundle (take (base_at limit) ws) (index_at limit) (omega arith); most = omega arith }

-- what was read in front doesn't matter
pub text_again : (tag : Kind → Bytes) (bundle : Bytes) (body : ℕ) (ws us ws' : List ℕ) (mode : Mode) (limit n i : ℕ) (got : Answered ℕ Refusal) → n ≡ 0
    → GatheredAs (in_text i (gather_text tag mode limit (text_from body bundle i).bytes (joined_at bundle us limit 0))) bundle ws' limit got
    → GatheredAs (in_text i (gather_text tag mode limit (text_from body bundle i).bytes (joined_at bundle ws limit n))) bundle ws' limit got
unfolding tabulate
text_again tag bundle body ws us ws' mode limit n i got z g = rw z g

-- ---- all marked texts

-- texts that are not marked are passed over
module _ (body : ℕ) (bundle : Bytes) (marks : List ℕ) (count : ℕ) where
  abbrev chosen : ℕ → List Text
  chosen i = choose_texts (is_marked marks) (text_from body bundle) i (count - i)

  one-passed : (i : ℕ) → i < count → is_marked marks i ≡ false → chosen i ≡ chosen (i + 1)
  one-passed i h e =
      let this : count - i ≡ suc (count - (i + 1)) = omega arith in
      let next : suc i ≡ i + 1 = omega arith in
      ap (choose_texts (is_marked marks) (text_from body bundle) i) this
      ∙ choose_past (is_marked marks) (text_from body bundle) i (count - (i + 1)) e
      ∙ ap (λ (k : ℕ). choose_texts (is_marked marks) (text_from body bundle) k (count - (i + 1))) next

  some_passed : (many i r : ℕ) → i + many ≡ r → r ≤ count → ((k : ℕ) → i ≤ k → k < r → is_marked marks k ≡ false) → chosen i ≡ chosen r
  some_passed zero i r e m p = ap chosen (let z : i ≡ r = omega arith in z)
  some_passed (suc many) i r e m p =
      one-passed i (omega arith) (p i (omega arith) (omega arith)) ∙ some_passed many (i + 1) r (omega arith) m (λ k l h. p k (omega arith) h)

  pub next-passed : (i r : ℕ) → NextMarked marks count i r → chosen i ≡ chosen r
  next-passed i r ν = some_passed (r - i) i r (omega (arith, ν.least)) ν.most ν.passed

  pub next-chosen : (i : ℕ) → i < count → is_marked marks i ≡ true → chosen i ≡ text_from body bundle i ∷ chosen (i + 1)
  next-chosen i h e =
      let this : count - i ≡ suc (count - (i + 1)) = omega arith in
      let next : suc i ≡ i + 1 = omega arith in
      ap (choose_texts (is_marked marks) (text_from body bundle) i) this
      ∙ choose_next (is_marked marks) (text_from body bundle) i (count - (i + 1)) e
      ∙ ap (λ (k : ℕ). text_from body bundle i ∷ choose_texts (is_marked marks) (text_from body bundle) k (count - (i + 1))) next

-- n entries are joined of the marked texts before the i-th, and what is left gives the whole answer. The i-th is marked, or there is none left
pub record Left (tag : Kind → Bytes) (bundle : Bytes) (body : ℕ) (marks ws : List ℕ) (mode : Mode) (limit count n i : ℕ) : Type 0 where
  pub joining : JoinedTable bundle ws limit n
  pub left : gather_texts tag mode limit (chosen body bundle marks count i) (joined_at bundle ws limit n)
      ≡ gather_texts tag mode limit (marked_texts body marks bundle) []
  pub marked : i < count → is_marked marks i ≡ true
  pub most : i ≤ count

module _ (tag : Kind → Bytes) (bundle : Bytes) (body : ℕ) (marks ws : List ℕ) (mode : Mode) (limit count : ℕ) where
  abbrev whole : Answer Report
  whole = gather_texts tag mode limit (marked_texts body marks bundle) []

  pub left-count : (i : ℕ) → count ≡ text_count bundle → i < count → i < text_count bundle
  left-count i e h = omega arith

  pub left-start : (i : ℕ) → ScratchRoom ws limit → count ≡ text_count bundle → NextMarked marks count 0 i → Left tag bundle body marks ws mode limit count 0 i
  unfolding tabulate
  left-start i space e ν =
      let all_of : count - 0 ≡ text_count bundle = omega arith in
      let every : chosen body bundle marks count i ≡ marked_texts body marks bundle =
      sym (next-passed body bundle marks count 0 i ν) ∙ ap (choose_texts (is_marked marks) (text_from body bundle) 0) all_of in
      record {
        joining = joining_none bundle ws limit space;
        left = ap (λ (ts : List Text). gather_texts tag mode limit ts []) every;
        marked = ν.marked;
        most = ν.most;
      }

  module _ (n i : ℕ) (l : Left tag bundle body marks ws mode limit count n i) where
    pub left_done : count ≤ i → GatheredAs whole bundle ws limit (Ok n)
    unfolding choose_texts filter from gather_texts
    left_done h =
        let none_left : count - i ≡ 0 = omega arith in
        let is = rw none_left at l.left in
        record { is = is; held = l.joining }

    module _ (more : i < count) (ws' : List ℕ) (got : Answered ℕ Refusal)
        (g : GatheredAs (in_text i (gather_text tag mode limit (text_from body bundle i).bytes (joined_at bundle ws limit n))) bundle ws' limit got) where
      one_more : (seen_gathered bundle ws' limit got >>= λ joined. gather_texts tag mode limit (chosen body bundle marks count (i + 1)) joined) ≡ whole
      unfolding gather_texts
      one_more =
          rw g.is
          (ap (λ (ts : List Text). gather_texts tag mode limit ts (joined_at bundle ws limit n)) (sym (next-chosen body bundle marks count i more (l.marked more))) ∙ l.left)

      pub left-refused : (r : Refusal) → got ≡ Err r → GatheredAs whole bundle ws' limit (Err r)
      left-refused r h = record { is = rw h at one_more; held = tt }

      pub left-next : (k j : ℕ) → got ≡ Ok k → NextMarked marks count (i + 1) j → Left tag bundle body marks ws' mode limit count k j
      left-next k j h ν = record {
        joining = rw h at g.held;
        left = ap (λ (ts : List Text). gather_texts tag mode limit ts (joined_at bundle ws' limit k)) (sym (next-passed body bundle marks count (i + 1) j ν)) ∙ rw h at one_more;
        marked = ν.marked;
        most = ν.most;
      }
