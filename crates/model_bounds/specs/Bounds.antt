-- Bounds of sampled counts: two texts of one run, the least counts first. A taken of none counts as 0 (`count_of`). Assumes nothing.
use Rattle.std.specs.Prelude.{ℕ, Bool, true, false, ◌&&◌, List, [], ◌∷◌, map, leb, if◌then◌else◌}
use Rattle.std.proofs.Math.Dec.{compare_is_eq}
use Rattle.model.specs.declared.Kind.{Kind}
use Rattle.model.specs.Lists.{filter}
use Rattle.model.specs.Bytes.{Bytes}
use Rattle.model.specs.declared.Fault.TheVariants.{DifferentKeys, LeastAboveGreatest}
use Rattle.model.specs.Answer.{Answer, accepted, ◌>>=◌, refuse, in_text}
use Rattle.model.specs.Report.{Item, Report, compare_keys, entry_key, count_of}
use Rattle.model.specs.Reading.{read_text}
use Rattle.model.specs.Printing.{is_function, is_branch, is_line, hits}
use Rattle.model.specs.Gather.{entry_limit}
use Rattle.model_bounds.specs.declared.Bounds.{Bounds}
use Rattle.model_bounds.specs.declared.Hits.{Hits}

abbrev pub items_of : Report → List Item
items_of report = map (λ e. e.item) report

-- how many functions, branches or lines of a report were hit, over all sections
unfoldable pub hits_in : (Item → Bool) → Report → ℕ
hits_in kind report = hits (filter kind (items_of report))

-- the same keys: reports are in key order, so key by key
unfoldable pub same_keys : Report → Report → Bool
same_keys [] [] = true
same_keys [] (y ∷ ys) = false
same_keys (x ∷ xs) [] = false
same_keys (x ∷ xs) (y ∷ ys) = compare_is_eq (compare_keys (entry_key x) (entry_key y)) && same_keys xs ys

-- no count above the one in the same place
unfoldable pub counts_rise : Report → Report → Bool
counts_rise [] greatest = true
counts_rise (x ∷ xs) [] = true
counts_rise (x ∷ xs) (y ∷ ys) = leb (count_of x.item) (count_of y.item) && counts_rise xs ys

-- hit lines, hit functions and hit branches
abbrev pub hits_of : Report → Hits
hits_of report = record { lines = hits_in is_line report; functions = hits_in is_function report; branches = hits_in is_branch report }

-- of two reports that were read: first all keys, then all counts
unfoldable pub bounds : Report → Report → Answer Bounds
bounds least greatest =
    if same_keys least greatest
    then (if counts_rise least greatest then accepted (record { least = hits_of least; greatest = hits_of greatest }) else refuse LeastAboveGreatest)
    else refuse DifferentKeys

module _ (tag : Kind → Bytes) where
  -- the call: E is for each text by itself, a refusal names text 0 or 1, and nothing is written
  unfoldable pub hit_bounds : Bytes → Bytes → ℕ → Answer Bounds
  hit_bounds least greatest words =
      in_text 0 (read_text tag (entry_limit words) least) >>= λ low.
      in_text 1 (read_text tag (entry_limit words) greatest) >>= λ high.
      bounds low high
