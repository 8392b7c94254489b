-- Texts chosen from a bundle, in the order of the bundle, each under its index in the whole bundle; and the checked gather of a list of texts.
-- A text may have a label, which it takes along into another order. Assumes nothing.
use Rattle.std.specs.Prelude.{ℕ, ◌≤◌, ◌≡◌, Bool, true, ◌&&◌, List, [], map, length}
use Rattle.ordmap.specs.Gathering.{times}
use Rattle.model.specs.declared.Kind.{Kind}
use Rattle.model.specs.declared.Mode.TheVariants.{Checked}
use Rattle.model.specs.declared.Refusal.{Refusal}
use Rattle.model.specs.Lists.{filter, from}
use Rattle.model.specs.Bytes.{Bytes, same_bytes}
use Rattle.model.specs.Answer.{accepted, refused, in_text}
use Rattle.model.specs.Report.{Report}
use Rattle.model.specs.Printing.{print_report}
use Rattle.model.specs.Bundle.{Text}
use Rattle.model.specs.Gather.{entry_limit, gather_text, gather_texts}
use Rattle.model.specs.Joined.{joined_report, read_all, one_spelling}
use Rattle.model.specs.Demand.{Gatherable}

-- the chosen ones of n texts from the i-th on
unfoldable pub choose_texts : (ℕ → Bool) → (ℕ → Text) → ℕ → ℕ → List Text
choose_texts isChosen text_at i n = map text_at (filter isChosen (from i n))

-- ---- labels

module _ {L : Type 0} where
  -- what n texts hold, each with its label
  abbrev pub labelled : (ℕ → L) → (ℕ → Text) → ℕ → List (L × Bytes)
  labelled label_at text_at n = map (λ i. (label_at i, (text_at i).bytes)) (from 0 n)

  abbrev pub same_labelled : (L → L → Bool) → L × Bytes → L × Bytes → Bool
  same_labelled same a b = same a.0 b.0 && same_bytes a.1 b.1

  -- lists that are one in two orders: both have the same contents under the same labels, each equally often
  abbrev pub SameLabelled : (L → L → Bool) → List (L × Bytes) → List (L × Bytes) → Type 0
  SameLabelled same a b = (x : L × Bytes) → times (same_labelled same) x a ≡ times (same_labelled same) x b

-- ---- the gather of a list of texts

module _ (tag : Kind → Bytes) where
  -- texts that the checked gather is to accept, and the reports read
  pub record AcceptableTexts (texts : List Text) (words room : ℕ) (reports : List Report) : Type 0 where
    pub gatherable : Gatherable tag (entry_limit words) texts reports
    pub within_room : length (print_report tag (joined_report reports)) ≤ room

  -- a chosen text that is refused: those chosen before it are joined, and reading it or joining it to them is refused
  pub record RefusedText (isChosen : ℕ → Bool) (text_at : ℕ → Text) (limit i : ℕ) (r : Refusal) : Type 0 where
    pub is_chosen : isChosen i ≡ true
    pub into : Report
    pub joined : gather_texts tag Checked limit (choose_texts isChosen text_at 0 i) [] ≡ accepted into
    pub refuses : in_text i (gather_text tag Checked limit (text_at i).bytes into) ≡ refused r

  -- each section's path has one spelling in the texts
  abbrev pub SpelledOnce : ℕ → List Text → Type 0
  SpelledOnce words texts = (reports : List Report) → read_all tag (entry_limit words) texts ≡ accepted reports → one_spelling reports ≡ true
