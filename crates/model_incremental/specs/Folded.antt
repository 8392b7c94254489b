-- Texts gathered in rounds, checked or lossy, as a tool does that has more of them than a bundle may name: a first bundle; then a bundle of
-- what its gather wrote and of the texts that follow; and so on, all under one entry limit. A gather joins text after text to what is joined
-- so far, and what it wrote reads back as that. So each round answers as one gather of all texts so far.
--   Texts: what a gather wrote stands for the texts before those that follow (`fold_texts`). Numbers only name texts in refusals
--   (`numbers`). Where all texts are accepted, so is any first part of them (`each_part`).
--   Bundles: a round answers as one gather of the texts so far, refusals included, which name a text by its number in the round's bundle
--   (`each_round`). So the total is that of one gather of all (`total`), with the bytes last written (`folded`); and a round's refusal, other
--   than for want of output, is that of one gather of all, whatever texts are left (`refused_round`).
-- Outputs in any place among texts, checked: Regather. Assumes nothing.
use Rattle.std.specs.Prelude.{ℕ, ◌≤◌, ◌≡◌, true, List, [], ◌∷◌, ◌++◌, length}
use Rattle.ordmap.specs.Result.{value, IsAccepted}
use Rattle.model.specs.declared.Fault.TheVariants.{OutputTooShort}
use Rattle.model.specs.declared.Kind.{Kind}
use Rattle.model.specs.declared.Mode.{Mode}
use Rattle.model.specs.declared.Refusal.{Refusal}
use Rattle.model.specs.Bytes.{Bytes}
use Rattle.model.specs.Answer.{accepted, refused}
use Rattle.model.specs.Report.{Report}
use Rattle.model.specs.Printing.{print_report}
use Rattle.model.specs.Bundle.{Text, contents, well_formed, texts}
use Rattle.model.specs.Gather.{entry_limit, gather_texts, gather_many, gather}

module _ (tag : Kind → Bytes) where
  -- the bundle of a round, what the texts of the rounds before it hold, and the texts that it adds, as it numbers them
  pub data Round (mode : Mode) (limit : ℕ) : Bytes → List Bytes → List Text → Type 0 where
    first_round : (bundle : Bytes) → Round mode limit bundle [] (texts bundle)
    -- the next bundle begins with what the gather of the one before wrote
    next_round : (bundle earlier output : Bytes) (words room : ℕ) {before : List Bytes} {added new : List Text} → entry_limit words ≡ limit
        → Round mode limit earlier before added → gather tag mode earlier words room ≡ accepted output
        → texts bundle ≡ record { index = 0; bytes = output } ∷ new
        → Round mode limit bundle (before ++ contents added) new

  pub record Folded : Type 0 where
    -- texts, gathered and printed, and then others: all of them, refusals included
    pub fold_texts : (mode : Mode) (words number : ℕ) (first rest : List Text) (report : Report)
        → gather_texts tag mode (entry_limit words) first [] ≡ accepted report
        → gather_texts tag mode (entry_limit words) (record { index = number; bytes = print_report tag report } ∷ rest) []
        ≡ gather_texts tag mode (entry_limit words) (first ++ rest) []
    -- texts that hold the same are accepted alike, whatever their numbers
    pub numbers : (mode : Mode) (limit : ℕ) (some others : List Text) → contents some ≡ contents others
        → value (gather_texts tag mode limit some []) ≡ value (gather_texts tag mode limit others [])
    -- where all texts are accepted, so is any first part of them
    pub each_part : (mode : Mode) (limit : ℕ) (first all : List Text) (rest : List Bytes) → contents all ≡ contents first ++ rest
        → IsAccepted (gather_texts tag mode limit all []) → IsAccepted (gather_texts tag mode limit first [])
    -- a round is one gather of the texts so far, refusals included, whatever numbers the texts of the rounds before have
    pub each_round : (mode : Mode) (bundle : Bytes) (before : List Bytes) (new first : List Text) (words room : ℕ) → well_formed bundle ≡ true
        → Round mode (entry_limit words) bundle before new → contents first ≡ before
        → gather tag mode bundle words room ≡ gather_many tag mode (first ++ new) words room
    -- so the last one gives the total of all texts
    pub total : (mode : Mode) (bundle : Bytes) (before : List Bytes) (new all : List Text) (words room : ℕ) → well_formed bundle ≡ true
        → Round mode (entry_limit words) bundle before new → contents all ≡ before ++ contents new
        → value (gather tag mode bundle words room) ≡ value (gather_many tag mode all words room)
    -- what it wrote is what one gather of all writes into any output that holds it
    pub folded : (mode : Mode) (bundle output : Bytes) (before : List Bytes) (new all : List Text) (words room room' : ℕ)
        → Round mode (entry_limit words) bundle before new → contents all ≡ before ++ contents new
        → gather tag mode bundle words room ≡ accepted output → length output ≤ room' → gather_many tag mode all words room' ≡ accepted output
    -- a round that is refused, other than for want of output: one gather of all is refused alike, at the same text, whatever texts are left
    pub refused_round : (mode : Mode) (bundle : Bytes) (before : List Bytes) (new first left : List Text) (words room room' : ℕ) (refusal : Refusal)
        → well_formed bundle ≡ true → Round mode (entry_limit words) bundle before new → contents first ≡ before
        → gather tag mode bundle words room ≡ refused refusal → (refusal.fault ≡ OutputTooShort → ⊥)
        → gather_many tag mode (first ++ (new ++ left)) words room' ≡ refused refusal
