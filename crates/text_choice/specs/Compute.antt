-- One name that opens every definition here and of the model: a proof by computation says `unfolding open_choice`. Assumes nothing.
use Rattle.model.specs.Compute.{open_all}
use Rattle.text_choice.specs.Choice.{choose_texts}
use Rattle.text_choice.specs.RevisionBundle.{well_formed_revisions, run_at, revision_at, revision_text, is_highest, highest_texts, is_repeat, first_of, first_repeat}
use Rattle.text_choice.specs.Revisions.{gather_highest, gather_revisions}
use Rattle.text_choice.specs.Windows.{is_in_window, window_texts, line_items, hit_of_found, window_line, window_lines, gather_windows}
use Rattle.text_choice.specs.Quotas.{are_labs, lab_contents, numbered, mark_words, marks_after, mark_of, gather_quotas}

unfoldable pub open_choice : {A : Type 0} → A → A
unfolding open_all choose_texts well_formed_revisions run_at revision_at revision_text is_highest highest_texts is_repeat first_of first_repeat gather_highest gather_revisions is_in_window window_texts line_items hit_of_found window_line window_lines gather_windows are_labs lab_contents numbered mark_words marks_after mark_of gather_quotas
open_choice a = a
