-- A text's table merged into the joined table. Both are in one lent slice of words: the joined one before word `base`,
-- the one that was read from there on. Assumes nothing.
use Rattle.std.specs.Prelude.{ℕ, ◌+◌, ◌*◌, ◌≤◌, ◌≡◌, List, length, take, drop, Result, Ok, Err}
use Rattle.table.specs.Rows.{row_words}
use Rattle.model.specs.declared.Fault.{Fault}
use Rattle.model.specs.declared.Mode.{Mode}
use Rattle.model.specs.Bytes.{Bytes}
use Rattle.model.specs.Answer.{Answer, accepted, ◌>>=◌, refuse}
use Rattle.model.specs.Report.{Report, merge, within}
use Rattle.table_section.specs.Sections.{entries_at}
use Rattle.section.specs.Table.{Table}

-- the joined table has n rows, and room for `limit` and for as many spare words twice; the table read has m entries
pub record Tables (text ws : List ℕ) (base index limit n used m : ℕ) : Type 0 where
  pub into : Table text (take base ws) index n n
  pub other : Table text (drop base ws) index used m
  pub rows : limit * row_words ≤ index
  pub words : index + limit + limit + limit ≤ base
  pub whole : base ≤ length ws
  pub most : n ≤ limit

-- the report that the answer says the words hold
abbrev pub seen_joined : Bytes → List ℕ → ℕ → Result ℕ Fault → Answer Report
seen_joined text ws index (Ok n) = accepted (entries_at text ws index n)
seen_joined text ws index (Err fault) = refuse fault

abbrev pub HeldJoined : Bytes → List ℕ → ℕ → ℕ → Result ℕ Fault → Type 0
HeldJoined text ws index limit (Ok n) = Table text ws index n n × (n ≤ limit)
HeldJoined text ws index limit (Err fault) = Unit {0}

-- the answer is the model's merge, whose entries are counted when the whole text is merged
pub record MergedAsModel (text ws ws' : List ℕ) (base index limit n m : ℕ) (mode : Mode) (r : Result ℕ Fault) : Type 0 where
  pub is : seen_joined text (take base ws') index r
      ≡ (merge mode (entries_at text (take base ws) index n) (entries_at text (drop base ws) index m) >>= λ joined. within limit (length joined) joined)
  pub held : HeldJoined text (take base ws') index limit r
