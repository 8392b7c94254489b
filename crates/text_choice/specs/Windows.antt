-- Coverage over the latest texts (request N8). Clause by clause:
--   "print for each text one line `hit/found` over all DA entries of the checked gather of that text and the up to w − 1 before it":
--   `gather_windows`, `hit_of_found` and `window_is`.
--   "Each line must equal what a gather of exactly those texts holds, for every bundle and width whose windows are all accepted": `lines` and `held`;
--   accepted are the windows of `exactly` and `accepts`.
--   "A fault in a window ends the call with the refusal of the first such window, text indexes counted over the whole bundle": `refuses` and
--   `refused_text`.
--   "14 comes only if these lines, byte 10 after each, pass the output lent": `accepts` and `never_14`.
-- Assumes nothing.
use Rattle.std.specs.Prelude.{ℕ, suc, ◌+◌, ◌-◌, ◌<◌, ◌≤◌, ◌≡◌, ◌↔◌, Bool, true, ◌&&◌, List, [], ◌∷◌, ◌++◌, map, leb, ltb, length, get_or, if◌then◌else◌}
use Rattle.ordmap.specs.Result.{IsAccepted}
use Rattle.ordmap.specs.Gathering.{flat}
use Rattle.model.specs.declared.Fault.TheVariants.{MalformedBundle, WidthOutside}
use Rattle.model.specs.declared.Kind.{Kind}
use Rattle.model.specs.declared.Mode.TheVariants.{Checked}
use Rattle.model.specs.declared.Refusal.{Refusal}
use Rattle.model.specs.Lists.{filter, from}
use Rattle.model.specs.Bytes.{Bytes, slash, newline}
use Rattle.model.specs.Limits.{max_width}
use Rattle.model.specs.Answer.{Answer, accepted, refused, ◌>>=◌, refuse, number_of}
use Rattle.model.specs.Number.{decimal}
use Rattle.model.specs.Report.{Item, Report}
use Rattle.model.specs.Reading.{read_text}
use Rattle.model.specs.Output.{written}
use Rattle.model.specs.Printing.{is_line, hits, print_report}
use Rattle.model.specs.Bundle.{Text, contents, well_formed, text_count, text_at}
use Rattle.model.specs.Gather.{entry_limit, gather_texts, gather}
use Rattle.model.specs.Groups.{texts_of}
use Rattle.model.specs.Joined.{joined_report}
use Rattle.model.specs.Demand.{Gatherable}
use Rattle.text_choice.specs.Choice.{choose_texts, RefusedText}

-- ---- windows

-- 1 to 16
abbrev pub is_width : ℕ → Bool
is_width w = leb 1 w && leb w max_width

-- the text j is in the window of the text i: it is i or one of the w − 1 before
unfoldable pub is_in_window : ℕ → ℕ → ℕ → Bool
is_in_window w i j = leb j i && ltb i (j + w)

unfoldable pub window_texts : ℕ → Bytes → ℕ → List Text
window_texts w bundle i = choose_texts (is_in_window w i) (text_at bundle) 0 (text_count bundle)

-- the window of each text
abbrev pub windows : ℕ → Bytes → List (List Text)
windows w bundle = map (window_texts w bundle) (from 0 (text_count bundle))

-- ---- lines

-- the lines of all sections
unfoldable pub line_items : Report → List Item
line_items report = filter is_line (map (λ e. e.item) report)

unfoldable pub hit_of_found : Report → Bytes
hit_of_found report = decimal (hits (line_items report)) ++ slash ∷ decimal (length (line_items report)) ++ newline ∷ []

-- ---- the call

module _ (tag : Kind → Bytes) where
  -- the line of a window
  unfoldable pub window_line : ℕ → List Text → Answer Bytes
  window_line limit texts = do
    report ← gather_texts tag Checked limit texts []
    accepted (hit_of_found report)

  -- the lines of windows, or the refusal of the first that is refused
  unfoldable pub window_lines : ℕ → List (List Text) → Answer (List Bytes)
  window_lines limit [] = accepted []
  window_lines limit (texts ∷ rest) = do
    line ← window_line limit texts
    lines ← window_lines limit rest
    accepted (line ∷ lines)

  -- the lines of all windows, written
  abbrev pub print_windows : Bytes → ℕ → ℕ → ℕ → Answer Bytes
  print_windows bundle w words room = window_lines (entry_limit words) (windows w bundle) >>= λ lines. written room (flat lines)

  unfoldable pub gather_windows : Bytes → ℕ → ℕ → ℕ → Answer Bytes
  gather_windows bundle w words room =
      if well_formed bundle then (if is_width w then print_windows bundle w words room else refuse WidthOutside) else refuse MalformedBundle

  -- ---- what is claimed

  -- a line is what the gather of a bundle holds: its report, which any output with room gets and which reads back
  pub record Holds (bundle : Bytes) (words : ℕ) (line : Bytes) : Type 0 where
    pub report : Report
    pub gathers : (room : ℕ) → length (print_report tag report) ≤ room → gather tag Checked bundle words room ≡ accepted (print_report tag report)
    pub reads : read_text tag (entry_limit words) (print_report tag report) ≡ accepted report
    pub line_is : line ≡ hit_of_found report

  pub record WindowsClaim : Type 0 where
    -- the window of a text: the texts from i + 1 − w on, or from the first, up to i
    pub window_is : (w : ℕ) (bundle : Bytes) (i : ℕ) → i < text_count bundle
        → window_texts w bundle i ≡ map (text_at bundle) (from (suc i - w) (suc i - (suc i - w)))
    -- accepted: a line for each text, that of its window
    pub lines : (bundle : Bytes) (w words room : ℕ) (out : Bytes) → gather_windows bundle w words room ≡ accepted out
        → (ls : List Bytes) × (out ≡ flat ls) × (length ls ≡ text_count bundle)
        × ((i : ℕ) → i < text_count bundle → window_line (entry_limit words) (window_texts w bundle i) ≡ accepted (get_or ls i []))
    -- which is what a gather of exactly the window's texts holds
    pub held : (bundle part : Bytes) (w words words' i : ℕ) (line : Bytes) → window_line (entry_limit words) (window_texts w bundle i) ≡ accepted line
        → well_formed part ≡ true → texts_of part ≡ contents (window_texts w bundle i) → entry_limit words' ≡ entry_limit words
        → Holds part words' line
    -- a window has a line exactly when its texts are to be gathered
    pub exactly : (limit : ℕ) (texts : List Text) (line : Bytes)
        → (window_line limit texts ≡ accepted line) ↔ ((reports : List Report) × Gatherable tag limit texts reports × (line ≡ hit_of_found (joined_report reports)))
    -- where every window has its line, the lines are written, or 14 comes with their length
    pub accepts : (bundle : Bytes) (w words room : ℕ) (ls : List Bytes) → well_formed bundle ≡ true → 1 ≤ w → w ≤ max_width → length ls ≡ text_count bundle
        → ((i : ℕ) → i < text_count bundle → window_line (entry_limit words) (window_texts w bundle i) ≡ accepted (get_or ls i []))
        → gather_windows bundle w words room ≡ written room (flat ls)
    -- the first window that has none ends the call
    pub refuses : (bundle : Bytes) (w words room i : ℕ) (r : Refusal) → well_formed bundle ≡ true → 1 ≤ w → w ≤ max_width → i < text_count bundle
        → ((j : ℕ) → j < i → IsAccepted (window_line (entry_limit words) (window_texts w bundle j)))
        → window_line (entry_limit words) (window_texts w bundle i) ≡ refused r
        → gather_windows bundle w words room ≡ refused r
    -- with the index in the whole bundle of a text of the window
    pub refused_text : (bundle : Bytes) (w limit i : ℕ) (r : Refusal) → window_line limit (window_texts w bundle i) ≡ refused r
        → (r.text < text_count bundle) × RefusedText tag (is_in_window w i) (text_at bundle) limit r.text r
    -- and never 14
    pub never_14 : (limit : ℕ) (texts : List Text) (r : Refusal) → window_line limit texts ≡ refused r → number_of r.fault ≡ 14 → ⊥
