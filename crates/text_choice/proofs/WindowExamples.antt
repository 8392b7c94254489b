-- The claims of Windows are not empty, by computation: bundles on which plausible misreadings of request N8 would answer otherwise, and a use of
-- the theorem, whose premises are met. Assumes nothing.
use Prim.Native.Nat.{ℕ}
use mathlib.Core.Path.{◌≡◌, refl}
use mathlib.Core.List.{List, [], ◌∷◌, ◌++◌}
use Rattle.ordmap.specs.Result.{Result}
use Rattle.model.specs.Bytes.{Bytes, ascii}
use Rattle.model.specs.Answer.{accepted, refused, with_values}
use Rattle.model.specs.Tags.{default_tag}
use Rattle.text_choice.specs.Windows.{gather_windows, Holds}
use Rattle.text_choice.specs.Compute.{open_choice}
use Rattle.text_choice.proofs.Windows.{windows-default}
use Rattle.text_choice.proofs.Samples.{u32s, first_kind, line_of, unreadable, line-a}

-- what the call answers, with much output
abbrev answer : ℕ → ℕ → List Bytes → Result (List ℕ) Bytes
answer w words ts = with_values (gather_windows default_tag (first_kind ts) w words 65_536)

-- a second line of the same section, which never ran
abbrev line_two : Bytes
line_two = ascii "SF:a\nDA:2,0\nend_of_record\n"

-- ---- lines

-- shorter windows at the beginning; a line of two texts is one entry
pub lines-moved : answer 2 8_192 (line-a ∷ line-a ∷ line_two ∷ line_two ∷ []) ≡ accepted (ascii "1/1\n1/1\n1/2\n0/1\n")
unfolding open_choice
lines-moved = refl

-- a line of two sections is two entries, and functions and branches are none; the width may pass the number of texts
pub two_sections : answer 16 8_192 (ascii "SF:a\nFN:1,f\nFNDA:1,f\nBRDA:1,0,0,1\nDA:1,1\nend_of_record\n" ∷ line_of (ascii "b") ∷ []) ≡ accepted (ascii "1/1\n2/2\n")
unfolding open_choice
two_sections = refl

-- an empty text
pub no_lines : answer 1 8_192 ([] ∷ line-a ∷ []) ≡ accepted (ascii "0/0\n1/1\n")
unfolding open_choice
no_lines = refl

-- each window has E for itself: E = 4, and three texts of two entries
pub own_limit : answer 2 128 (line-a ∷ line_of (ascii "b") ∷ line_of (ascii "c") ∷ []) ≡ accepted (ascii "1/1\n2/2\n2/2\n")
unfolding open_choice
own_limit = refl

pub no_texts : answer 1 8_192 [] ≡ accepted []
unfolding open_choice
no_texts = refl

-- ---- refusals

pub no_width : answer 0 8_192 [] ≡ refused (24 ∷ 0 ∷ 0 ∷ 0 ∷ 0 ∷ [])
unfolding open_choice
no_width = refl

-- 24 before the texts are read, also where n is 1
pub too_wide : answer 17 8_192 (unreadable ∷ []) ≡ refused (24 ∷ 0 ∷ 0 ∷ 0 ∷ 0 ∷ [])
unfolding open_choice
too_wide = refl

-- 16 before 24
pub malformed_first : with_values (gather_windows default_tag (u32s (1 ∷ [])) 0 8_192 65_536) ≡ refused (16 ∷ 0 ∷ 0 ∷ 0 ∷ 0 ∷ [])
unfolding open_choice
malformed_first = refl

-- indexes count the whole bundle
pub whole_indexes : answer 1 8_192 (line-a ∷ line-a ∷ unreadable ∷ []) ≡ refused (1 ∷ 2 ∷ 1 ∷ 0 ∷ 0 ∷ [])
unfolding open_choice
whole_indexes = refl

abbrev with_checksum : Bytes → Bytes
with_checksum sum = ascii "DA:1,1," ++ sum ++ ascii "\nend_of_record\n"

-- the checksums of texts 1 and 3 differ: the window of 3 is the first that has both
pub first_window : answer 3 8_192 (line-a ∷ with_checksum (ascii "p") ∷ line-a ∷ with_checksum (ascii "q") ∷ []) ≡ refused (12 ∷ 3 ∷ 0 ∷ 0 ∷ 0 ∷ [])
unfolding open_choice
first_window = refl

pub narrow_window : answer 2 8_192 (line-a ∷ with_checksum (ascii "p") ∷ line-a ∷ with_checksum (ascii "q") ∷ []) ≡ accepted (ascii "1/1\n2/2\n2/2\n2/2\n")
unfolding open_choice
narrow_window = refl

-- the whole reports are joined, not the lines alone
pub starts-differ : answer 2 8_192 (ascii "FN:3,f\nend_of_record\n" ∷ ascii "FN:4,f\nend_of_record\n" ∷ []) ≡ refused (11 ∷ 1 ∷ 0 ∷ 0 ∷ 0 ∷ [])
unfolding open_choice
starts-differ = refl

-- 14 is about these lines alone
pub no_room : with_values (gather_windows default_tag (first_kind (line-a ∷ line-a ∷ [])) 1 8_192 7) ≡ refused (14 ∷ 0 ∷ 0 ∷ 0 ∷ 8 ∷ [])
unfolding open_choice
no_room = refl

pub room : with_values (gather_windows default_tag (first_kind (line-a ∷ line-a ∷ [])) 1 8_192 8) ≡ accepted (ascii "1/1\n1/1\n")
unfolding open_choice
room = refl

-- ---- the theorem's premises are met

-- the window of the last text, although the first is unreadable
pub window_held : Holds default_tag (first_kind (line-a ∷ line_two ∷ [])) 8_192 (ascii "1/2\n")
unfolding open_choice
window_held =
    windows-default.held (first_kind (unreadable ∷ line-a ∷ line_two ∷ [])) (first_kind (line-a ∷ line_two ∷ [])) 2 8_192 8_192 2 (ascii "1/2\n") refl refl refl refl
