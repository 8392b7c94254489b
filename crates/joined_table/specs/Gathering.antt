-- Texts of a bundle read one after the other and joined: what the words hold, and answers read back from them. Assumes nothing.
use Rattle.std.specs.Prelude.{ℕ, ◌≤◌, ◌≡◌, List, take, drop}
use Rattle.model.specs.declared.Kind.{Kind}
use Rattle.model.specs.declared.Fault.{Fault}
use Rattle.model.specs.declared.Refusal.{Refusal}
use Rattle.model.specs.Bytes.{Bytes}
use Rattle.model.specs.Answer.{Answer, accepted, refused, unplaced}
use Rattle.model.specs.Report.{Report}
use Rattle.model.specs.Reading.{read_text}
use Rattle.model.specs.Bundle.{text_count, Text}
use Rattle.text_choice.specs.Choice.{choose_texts}
use Rattle.bundle.specs.Marks.{is_marked}
use Rattle.bundle.specs.Places.{text_from}
use Rattle.table_section.specs.Sections.{entries_at}
use Rattle.section.specs.Table.{Table}
use Rattle.section.specs.Reading.{capacity}
use Rattle.report_parser.specs.declared.TextRead.{TextRead as TextSizes}
use Rattle.report_parser.specs.Reader.{seen_text}
use Rattle.std.specs.Prelude.{Result as Answered, Ok, Err}
use Rattle.scratch_layout.specs.Layout.{index_at, base_at}

-- ---- refusals

-- a refusal, in a text
abbrev pub in_text_of : ℕ → Refusal → Refusal
in_text_of text r = record { fault = r.fault; text = text; line = r.line; field = r.field; needed = r.needed }

-- ---- the joined table

abbrev pub joined_at : Bytes → List ℕ → ℕ → ℕ → Report
joined_at text ws limit n = entries_at text (take (base_at limit) ws) (index_at limit) n

pub record JoinedTable (text ws : List ℕ) (limit n : ℕ) : Type 0 where
  pub table : Table text (take (base_at limit) ws) (index_at limit) n n
  pub most : n ≤ limit

-- ---- a text that is read

abbrev pub HeldOne : Bytes → List ℕ → ℕ → Answered TextSizes Refusal → Type 0
HeldOne text ws limit (Ok t) = Table text ws (index_at limit) t.used t.kept × (t.used ≤ capacity limit) × (t.kept ≤ limit)
HeldOne text ws limit (Err r) = Unit {0}

-- the answer is the model's for the i-th text of a bundle whose text bytes begin at `body`
pub record ReadOne (tag : Kind → Bytes) (bundle : Bytes) (body : ℕ) (ws : List ℕ) (limit i : ℕ) (r : Answered TextSizes Refusal) : Type 0 where
  pub is : seen_text bundle ws (index_at limit) r ≡ read_text tag limit (text_from body bundle i).bytes
  pub held : HeldOne bundle ws limit r

-- the same in the words behind the joined table, which stays
pub record ReadBehind (tag : Kind → Bytes) (bundle : Bytes) (body : ℕ) (ws ws' : List ℕ) (limit i : ℕ) (r : Answered TextSizes Refusal) : Type 0 where
  pub read : ReadOne tag bundle body (drop (base_at limit) ws') limit i r
  pub stays : take (base_at limit) ws' ≡ take (base_at limit) ws

-- ---- texts gathered

-- the marked texts of a bundle whose text bytes begin at `body`, in order
abbrev pub marked_texts : ℕ → List ℕ → Bytes → List Text
marked_texts body marks bundle = choose_texts (is_marked marks) (text_from body bundle) 0 (text_count bundle)

abbrev pub seen_gathered : Bytes → List ℕ → ℕ → Answered ℕ Refusal → Answer Report
seen_gathered text ws limit (Ok n) = accepted (joined_at text ws limit n)
seen_gathered text ws limit (Err r) = refused r

abbrev pub HeldGathered : Bytes → List ℕ → ℕ → Answered ℕ Refusal → Type 0
HeldGathered text ws limit (Ok n) = JoinedTable text ws limit n
HeldGathered text ws limit (Err r) = Unit {0}

-- the words hold what the answer says
pub record GatheredAs (answer : Answer Report) (text ws : List ℕ) (limit : ℕ) (r : Answered ℕ Refusal) : Type 0 where
  pub is : seen_gathered text ws limit r ≡ answer
  pub held : HeldGathered text ws limit r

-- ---- a bundle gathered

abbrev pub seen_bundle : Bytes → List ℕ → ℕ → Answered ℕ Refusal → Answer Report
seen_bundle text ws limit (Ok n) = accepted (entries_at text ws (index_at limit) n)
seen_bundle text ws limit (Err r) = refused r

abbrev pub HeldBundle : Bytes → List ℕ → ℕ → Answered ℕ Refusal → Type 0
HeldBundle text ws limit (Ok n) = Table text ws (index_at limit) n n × (n ≤ limit)
HeldBundle text ws limit (Err r) = Unit {0}

-- the words hold the table of what is gathered, with no row that is no entry
pub record BundleGathered (answer : Answer Report) (text ws : List ℕ) (limit : ℕ) (r : Answered ℕ Refusal) : Type 0 where
  pub is : seen_bundle text ws limit r ≡ answer
  pub held : HeldBundle text ws limit r
