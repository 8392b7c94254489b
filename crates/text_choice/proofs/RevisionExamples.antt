-- The claims are not empty, by computation: bundles on which plausible misreadings of request N4 would answer otherwise, and uses of the theorems,
-- whose premises are met. Assumes nothing.
use Prim.Native.Nat.{ℕ, ◌+◌}
use mathlib.Core.Path.{◌≡◌, refl}
use mathlib.Core.List.Permᴰ.{cons as p-cons}
use mathlib.Core.List.Permᴰ.{swap as p-swap}
use mathlib.Core.List.{List, [], ◌∷◌, ◌++◌}
use lib.ListN.{length}
use Rattle.ordmap.specs.Result.{Result, value}
use Rattle.ordmap.proofs.Results.{accepted_inj}
use Rattle.ordmap.proofs.Perms.{perm_times}
use Rattle.model.specs.declared.Mode.TheVariants.{Checked}
use Rattle.model.specs.Bytes.{Bytes, ascii}
use Rattle.model.specs.Answer.{accepted, refused, with_values}
use Rattle.model.specs.Tags.{default_tag}
use Rattle.model.specs.Gather.{gather}
use Rattle.text_choice.specs.Choice.{same_labelled}
use Rattle.text_choice.specs.RevisionBundle.{same_pair}
use Rattle.text_choice.specs.Revisions.{gather_revisions}
use Rattle.text_choice.specs.Compute.{open_choice}
use Rattle.text_choice.proofs.Revisions.{revisions_default}
use Rattle.text_choice.proofs.Samples.{u32, u32s, first_kind, with_arrays, second-kind, line_of, printed, unreadable, line-a}

-- what the call answers, with 8,192 words and much output
abbrev answer : List ℕ → List ℕ → List Bytes → Result (List ℕ) Bytes
answer runs revisions ts = with_values (gather_revisions default_tag (second-kind runs revisions ts) 8_192 65_536)

-- ---- the choice

pub no_texts : answer [] [] [] ≡ accepted []
unfolding open_choice
no_texts = refl

-- neither the fault nor the count of a lower revision counts
pub lower_unread : answer (7 ∷ 7 ∷ 7 ∷ []) (1 ∷ 3 ∷ 2 ∷ []) (unreadable ∷ line-a ∷ line-a ∷ []) ≡ accepted (printed (ascii "a") (ascii "1"))
unfolding open_choice
lower_unread = refl

-- revisions of different runs are not compared
pub runs_apart : answer (7 ∷ 1 ∷ []) (1 ∷ 7 ∷ []) (line-a ∷ line-a ∷ []) ≡ accepted (printed (ascii "a") (ascii "2"))
unfolding open_choice
runs_apart = refl

-- 256 is higher than 255
pub whole_numbers : with_values (gather_revisions default_tag (with_arrays (u32s (7 ∷ 7 ∷ [])) ((0 ∷ 1 ∷ 0 ∷ 0 ∷ []) ++ u32 255) (line-a ∷ unreadable ∷ [])) 8_192 65_536)
    ≡ accepted (printed (ascii "a") (ascii "1"))
unfolding open_choice
whole_numbers = refl

-- in the order of the bundle, not of the run numbers: the first spelling is written
pub bundle-order : answer (9 ∷ 1 ∷ []) (0 ∷ 0 ∷ []) (line_of (ascii "a//b") ∷ line_of (ascii "a/b") ∷ []) ≡ accepted (printed (ascii "a//b") (ascii "2"))
unfolding open_choice
bundle-order = refl

-- a spelling in a lower revision is not read
pub lower_spelling : answer (7 ∷ 7 ∷ []) (0 ∷ 1 ∷ []) (line_of (ascii "a//b") ∷ line_of (ascii "a/b") ∷ []) ≡ accepted (printed (ascii "a/b") (ascii "1"))
unfolding open_choice
lower_spelling = refl

-- E = 2, and a lower revision with four entries
pub lower_entries : with_values (gather_revisions default_tag (second-kind (7 ∷ 7 ∷ []) (0 ∷ 1 ∷ []) (ascii "SF:b\nDA:1,1\nDA:2,1\nDA:3,1\nend_of_record\n" ∷ line-a ∷ [])) 64 65_536)
    ≡ accepted (printed (ascii "a") (ascii "1"))
unfolding open_choice
lower_entries = refl

-- indexes count the whole bundle
pub whole_indexes : answer (7 ∷ 7 ∷ 8 ∷ []) (1 ∷ 2 ∷ 1 ∷ []) (line-a ∷ line-a ∷ unreadable ∷ []) ≡ refused (1 ∷ 2 ∷ 1 ∷ 0 ∷ 0 ∷ [])
unfolding open_choice
whole_indexes = refl

-- the chosen text is refused under another index once an unread one has moved behind it
pub index_moves : answer (7 ∷ 8 ∷ 7 ∷ []) (2 ∷ 1 ∷ 1 ∷ []) (line-a ∷ unreadable ∷ line-a ∷ []) ≡ refused (1 ∷ 1 ∷ 1 ∷ 0 ∷ 0 ∷ [])
unfolding open_choice
index_moves = refl

-- 14 comes last, with the length of what the chosen texts give
pub no_room : with_values (gather_revisions default_tag (second-kind (7 ∷ 7 ∷ []) (1 ∷ 2 ∷ []) (unreadable ∷ line-a ∷ [])) 8_192 39) ≡ refused (14 ∷ 0 ∷ 0 ∷ 0 ∷ 40 ∷ [])
unfolding open_choice
no_room = refl

-- ---- 20 and 16

-- 20 although the highest revision stands once, at the second of the two, and before the texts are read
pub lower_repeated : answer (4 ∷ 4 ∷ 4 ∷ []) (1 ∷ 1 ∷ 2 ∷ []) (unreadable ∷ unreadable ∷ line-a ∷ []) ≡ refused (20 ∷ 1 ∷ 0 ∷ 0 ∷ 0 ∷ [])
unfolding open_choice
lower_repeated = refl

pub first_repeated : answer (1 ∷ 2 ∷ 1 ∷ 2 ∷ 1 ∷ []) (1 ∷ 1 ∷ 2 ∷ 1 ∷ 2 ∷ []) (line-a ∷ line-a ∷ line-a ∷ line-a ∷ line-a ∷ []) ≡ refused (20 ∷ 3 ∷ 0 ∷ 0 ∷ 0 ∷ [])
unfolding open_choice
first_repeated = refl

-- a run number that is another's revision is no repeat
pub crossed : answer (1 ∷ 2 ∷ []) (2 ∷ 1 ∷ []) (line-a ∷ line-a ∷ []) ≡ accepted (printed (ascii "a") (ascii "2"))
unfolding open_choice
crossed = refl

-- 16 before 20, also for a text that would not be read: the first starts past the text bytes
pub malformed_first : with_values (gather_revisions default_tag (u32s (2 ∷ 0 ∷ 1 ∷ 0 ∷ 0 ∷ 0 ∷ 7 ∷ 7 ∷ 1 ∷ 1 ∷ [])) 8_192 65_536) ≡ refused (16 ∷ 0 ∷ 0 ∷ 0 ∷ 0 ∷ [])
unfolding open_choice
malformed_first = refl

-- a bundle of one kind is none of the other
pub other-kind : with_values (gather_revisions default_tag (first_kind (line-a ∷ [])) 8_192 65_536) ≡ refused (16 ∷ 0 ∷ 0 ∷ 0 ∷ 0 ∷ [])
unfolding open_choice
other-kind = refl

pub second_as_first : with_values (gather default_tag Checked (second-kind (7 ∷ []) (1 ∷ []) (line-a ∷ [])) 8_192 65_536) ≡ refused (16 ∷ 0 ∷ 0 ∷ 0 ∷ 0 ∷ [])
unfolding open_choice
second_as_first = refl

-- ---- why any order asks for one spelling

abbrev spelled : Bytes → Bytes → Result (List ℕ) Bytes
spelled p q = with_values (gather_revisions default_tag (second-kind (7 ∷ 8 ∷ []) (1 ∷ 1 ∷ []) (line_of p ∷ line_of q ∷ [])) 8_192 40)

pub short-first : spelled (ascii "a") (ascii "a/") ≡ accepted (printed (ascii "a") (ascii "2"))
unfolding open_choice
short-first = refl

pub long-first : spelled (ascii "a/") (ascii "a") ≡ refused (14 ∷ 0 ∷ 0 ∷ 0 ∷ 41 ∷ [])
unfolding open_choice
long-first = refl

-- ---- the theorems' premises are met

abbrev sent : Bytes
sent = second-kind (7 ∷ 7 ∷ 8 ∷ []) (1 ∷ 2 ∷ 1 ∷ []) (unreadable ∷ line-a ∷ line_of (ascii "b") ∷ [])

-- as a bundle of the two chosen texts
pub chosen-alone : value (gather_revisions default_tag sent 8_192 65_536) ≡ value (gather default_tag Checked (first_kind (line-a ∷ line_of (ascii "b") ∷ [])) 8_192 65_536)
unfolding open_choice
chosen-alone = revisions_default.as_gathered sent (first_kind (line-a ∷ line_of (ascii "b") ∷ [])) 8_192 8_192 65_536 refl refl refl refl refl

-- the chosen texts change places
abbrev sent_otherwise : Bytes
sent_otherwise = second-kind (7 ∷ 8 ∷ 7 ∷ []) (1 ∷ 1 ∷ 2 ∷ []) (unreadable ∷ line_of (ascii "b") ∷ line-a ∷ [])

pub places_changed : value (gather_revisions default_tag sent 8_192 65_536) ≡ value (gather_revisions default_tag sent_otherwise 8_192 65_536)
unfolding open_choice
places_changed =
    revisions_default.any_order sent sent_otherwise 8_192 8_192 65_536 refl refl
    (λ x. perm_times (same_labelled same_pair) x (p-cons refl (p-swap {l = []} refl refl))) refl (λ reports h. rw (← (accepted_inj h)) refl)

-- an unread text moves
abbrev sent_later : Bytes
sent_later = second-kind (7 ∷ 7 ∷ 8 ∷ []) (2 ∷ 1 ∷ 1 ∷ []) (line-a ∷ unreadable ∷ line_of (ascii "b") ∷ [])

pub rest-moved : value (gather_revisions default_tag sent 8_192 65_536) ≡ value (gather_revisions default_tag sent_later 8_192 65_536)
unfolding open_choice
rest-moved =
    revisions_default.moved sent sent_later 8_192 8_192 65_536 refl refl
    (λ x. perm_times (same_labelled same_pair) x (p-swap {l = _ ∷ []} refl refl)) refl refl
