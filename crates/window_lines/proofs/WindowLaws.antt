-- The window of a text: its width, its marks and its lines counted. Assumes nothing.
use Prim.Native.Nat.{ℕ, ◌+◌, ◌*◌, ◌≤◌, ◌<◌}
use native.Mathlib.Omega.{arith}
use mathlib.Core.Path.{◌≡◌, sym, ap, ◌∙◌}
use mathlib.Core.Bool.{true}
use mathlib.Core.List.{List, []}
use lib.Dec.{leb, ltb}
use lib.ListN.{length}
use borrow.Author.Tests.{le-leb, leb-true, lt-leb}
use Rattle.model.specs.declared.Kind.{Kind}
use Rattle.model.specs.declared.Mode.TheVariants.{Checked}
use Rattle.model.specs.declared.Refusal.{Refusal}
use Rattle.model.specs.Bytes.{Bytes}
use Rattle.model.specs.Limits.{max_width, max_entries}
use Rattle.model.specs.Answer.{Answer, accepted, refused}
use Rattle.model.specs.Report.{Report}
use Rattle.model.specs.Valid.{Valid}
use Rattle.model.specs.Bundle.{text_count}
use Rattle.model.specs.Gather.{entry_limit, gather_texts}
use Rattle.model.proofs.ListLaws.{and_left, and_right}
use Rattle.model_totals.specs.declared.Totals.{Totals}
use Rattle.model_totals.specs.Totals.{ratio_of, totals_of, last_totals}
use Rattle.model_totals.proofs.TotalsLaws.{totals_laws}
use Rattle.text_choice.specs.Windows.{is_width, is_in_window, window_texts, line_items, hit_of_found, window_line}
use Rattle.text_choice.proofs.Windows.{past_window}
use Rattle.bundle.specs.Marks.{MarkedAs}
use Rattle.table_section.specs.Sections.{entries_at}
use Rattle.section.specs.Table.{Table}
use Rattle.scratch_layout.specs.Layout.{index_at}
use Rattle.std.specs.Prelude.{Result as Answered, Ok, Err}
use Rattle.joined_table.specs.Gathering.{marked_texts, BundleGathered}
use Rattle.joined_table.proofs.BundleLaws.{marked-chosen}
use Rattle.window_lines.specs.Lines.{ratio_line}

-- ---- the width

module _ (w : ℕ) (is : is_width w ≡ true) where
  pub at_least : 1 ≤ w
  at_least = leb-true 1 w (and_left (leb 1 w) (leb w max_width) is)

  pub at_most : w ≤ max_width
  at_most = leb-true w max_width (and_right (leb 1 w) (leb w max_width) is)

-- ---- a text of the window

module _ (w i j : ℕ) where
  pub other_text : i < j → leb j i ≡ is_in_window w i j
  other_text h = lt-leb j i h ∙ sym (past_window w i j (omega arith))

  pub earlier-text : j ≤ i → ltb i (j + w) ≡ is_in_window w i j
  unfolding is_in_window
  earlier-text h = rw (le-leb j i h)

-- ---- its lines counted

-- the lines' numbers of the page's last line are those of the report's own entries
line_of_totals : (report : Report) → Valid report → ratio_line (last_totals report).lines ≡ hit_of_found report
unfolding hit_of_found line_items totals_of ratio_of
line_of_totals report R = rw (totals_laws.own_entries report R)

-- the words hold the joined report of a window, which has a line
pub record WindowHeld (bundle ws : List ℕ) (index entries : ℕ) (answer : Answer Bytes) : Type 0 where
  pub table : Table bundle ws index entries entries
  pub few : entries ≤ max_entries
  pub line : (t : Totals) → ((text : List ℕ) → Table text ws index entries entries → t ≡ last_totals (entries_at text ws index entries))
      → accepted (ratio_line t.lines) ≡ answer

-- the marked texts are gathered, with this answer
module _ (tag : Kind → Bytes) (bundle : Bytes) (words w i : ℕ) (marks : List ℕ) (body : ℕ) (at : body ≡ 8 + 8 * text_count bundle) (n : ℕ) (count : n ≡ text_count bundle)
    (marked : MarkedAs (is_in_window w i) n marks) (ws : List ℕ) (got : Answered ℕ Refusal)
    (g : BundleGathered (gather_texts tag Checked (entry_limit words) (marked_texts body marks bundle) []) bundle ws (entry_limit words) got) where
  window_is : marked_texts body marks bundle ≡ window_texts w bundle i
  unfolding window_texts
  window_is = marked-chosen bundle (is_in_window w i) marks body at (rw count at marked)

  gathered : BundleGathered (gather_texts tag Checked (entry_limit words) (window_texts w bundle i) []) bundle ws (entry_limit words) got
  gathered = rw window_is at g

  pub refused_window : (q : Refusal) → got ≡ Err q → refused q ≡ window_line tag (entry_limit words) (window_texts w bundle i)
  unfolding window_line
  refused_window q e =
      let is : refused q ≡ gather_texts tag Checked (entry_limit words) (window_texts w bundle i) [] = rw e at gathered.is in
      rw (← is)

  pub held_window : (entries : ℕ) → got ≡ Ok entries → length ws ≡ words → (limit : ℕ) → limit ≡ entry_limit (length ws) → (index : ℕ) → index ≡ index_at limit
      → WindowHeld bundle ws index entries (window_line tag (entry_limit words) (window_texts w bundle i))
  unfolding window_line
  held_window entries e long limit limit_is index at-index =
      let held : Table bundle ws (index_at (entry_limit words)) entries entries × (entries ≤ entry_limit words) = rw e at g.held in
      let table : Table bundle ws index entries entries = rw (at-index, limit_is, long) held.0 in
      let same : entries_at bundle ws index entries ≡ entries_at bundle ws (index_at (entry_limit words)) entries = rw (at-index, limit_is, long) in
      let is : accepted (entries_at bundle ws index entries) ≡ gather_texts tag Checked (entry_limit words) (window_texts w bundle i) [] = rw same (rw e at gathered.is) in
      record {
        table = table;
        few = omega (arith, held.1);
        line = λ t counts.
            rw (← is, counts bundle table) (ap (λ (line : Bytes). accepted line) (line_of_totals (entries_at bundle ws index entries) table.valid));
      }
