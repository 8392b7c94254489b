-- The claims of Quotas are not empty, by computation: bundles on which plausible misreadings of request N12 would answer otherwise, and uses of the
-- theorem, whose premises are met. Assumes nothing.
use Prim.Native.Nat.{ℕ}
use mathlib.Core.Path.{◌≡◌, refl}
use mathlib.Core.List.Permᴰ.{swap as p-swap}
use mathlib.Core.List.{List, [], ◌∷◌, ◌++◌, map}
use lib.Dec.{eqb}
use Rattle.ordmap.specs.Result.{Result, value, map_accepted}
use Rattle.ordmap.proofs.Results.{accepted_inj}
use Rattle.ordmap.proofs.Perms.{perm_times}
use Rattle.model.specs.Bytes.{Bytes, ascii}
use Rattle.model.specs.Answer.{accepted, refused, with_values}
use Rattle.model.specs.Tags.{default_tag}
use Rattle.text_choice.specs.Choice.{same_labelled}
use Rattle.text_choice.specs.Quotas.{LabsAnswer, mark_words, marks_after, gather_labs, gather_quotas}
use Rattle.text_choice.specs.Compute.{open_choice}
use Rattle.text_choice.proofs.Quotas.{quotas_default}
use Rattle.text_choice.proofs.Samples.{first_kind, line_of, printed, unreadable, line-a}

-- the marks, and the answer of the joint gather
abbrev values : LabsAnswer → List (List ℕ) × Result (List ℕ) Bytes
values answer = (map mark_words answer.marks, with_values answer.joint)

-- what the call answers, with much output
abbrev answer : ℕ → List ℕ → List ℕ → List Bytes → Result (List ℕ) (List (List ℕ) × Result (List ℕ) Bytes)
answer words labs quotas ts = map_accepted values (with_values (gather_quotas default_tag (first_kind ts) labs quotas words 65_536))

abbrev in_with : ℕ → List ℕ
in_with n = 0 ∷ n ∷ 0 ∷ 0 ∷ 0 ∷ []

abbrev over_with : ℕ → List ℕ
over_with n = 1 ∷ n ∷ 0 ∷ 0 ∷ 0 ∷ []

abbrev eight : ℕ → List ℕ
eight n = n ∷ n ∷ n ∷ n ∷ n ∷ n ∷ n ∷ n ∷ []

-- the marks of three labs, where the others sent nothing
abbrev marks : List ℕ → List ℕ → List ℕ → List (List ℕ)
marks a b c = a ∷ b ∷ c ∷ in_with 0 ∷ in_with 0 ∷ in_with 0 ∷ in_with 0 ∷ in_with 0 ∷ []

-- ---- marks

-- a lab without texts is let in with none, also under a quota of 0
pub no_texts : answer 8_192 [] (eight 0) [] ≡ accepted (marks (in_with 0) (in_with 0) (in_with 0), accepted [])
unfolding open_choice
no_texts = refl

-- two entries are not more than a quota of two; a lab past its quota is marked with its entries, which are more than its quota
pub quotas_used : answer 8_192 (1 ∷ 2 ∷ []) (2 ∷ 1 ∷ 0 ∷ 0 ∷ 0 ∷ 0 ∷ 0 ∷ 0 ∷ []) (line-a ∷ line-a ∷ [])
    ≡ accepted (marks (in_with 2) (over_with 2) (in_with 0), accepted (printed (ascii "a") (ascii "1")))
unfolding open_choice
quotas_used = refl

-- E holds for each lab by itself, whatever its quota: E = 2
pub entry_limit_lem : answer 64 (1 ∷ 2 ∷ []) (eight 9) (line-a ∷ ascii "SF:b\nDA:1,1\nDA:2,1\nend_of_record\n" ∷ [])
    ≡ accepted (marks (in_with 2) (2 ∷ 10 ∷ 0 ∷ 3 ∷ 0 ∷ []) (in_with 0), accepted (printed (ascii "a") (ascii "1")))
unfolding open_choice
entry_limit_lem = refl

-- the index in a lab's refusal counts its own texts
pub own_indexes : answer 8_192 (1 ∷ 2 ∷ 2 ∷ 2 ∷ []) (eight 9) (line-a ∷ line-a ∷ line-a ∷ unreadable ∷ [])
    ≡ accepted (marks (in_with 2) (2 ∷ 1 ∷ 2 ∷ 1 ∷ 0 ∷ []) (in_with 0), accepted (printed (ascii "a") (ascii "1")))
unfolding open_choice
own_indexes = refl

-- ---- the joint gather

-- in the order of the bundle, not of the labs
pub bundle-order : answer 8_192 (2 ∷ 1 ∷ []) (eight 2) (line_of (ascii "a//b") ∷ line_of (ascii "a/b") ∷ [])
    ≡ accepted (marks (in_with 2) (in_with 2) (in_with 0), accepted (printed (ascii "a//b") (ascii "2")))
unfolding open_choice
bundle-order = refl

-- the start lines of labs 1 and 3 differ and lab 2 is left out: the index counts the whole bundle, and the marks are there
pub labs_differ : answer 8_192 (1 ∷ 2 ∷ 3 ∷ []) (2 ∷ 0 ∷ 2 ∷ 0 ∷ 0 ∷ 0 ∷ 0 ∷ 0 ∷ []) (ascii "FN:3,f\nend_of_record\n" ∷ line-a ∷ ascii "FN:4,f\nend_of_record\n" ∷ [])
    ≡ accepted (marks (in_with 2) (over_with 2) (in_with 2), refused (11 ∷ 2 ∷ 0 ∷ 0 ∷ 0 ∷ []))
unfolding open_choice
labs_differ = refl

-- 14 carries the marks too
pub no_room : map_accepted values (with_values (gather_quotas default_tag (first_kind (line-a ∷ [])) (1 ∷ []) (eight 9) 8_192 0))
    ≡ accepted (marks (in_with 2) (in_with 0) (in_with 0), refused (14 ∷ 0 ∷ 0 ∷ 0 ∷ 40 ∷ []))
unfolding open_choice
no_room = refl

-- no lab is let in
pub none_in : answer 8_192 (1 ∷ []) (eight 0) (line-a ∷ []) ≡ accepted (marks (over_with 2) (in_with 0) (in_with 0), accepted [])
unfolding open_choice
none_in = refl

-- ---- 29

pub no_such_lab : answer 8_192 (9 ∷ []) (eight 9) (unreadable ∷ []) ≡ refused (29 ∷ 0 ∷ 0 ∷ 0 ∷ 0 ∷ [])
unfolding open_choice
no_such_lab = refl

pub lab_zero : answer 8_192 (0 ∷ []) (eight 9) (line-a ∷ []) ≡ refused (29 ∷ 0 ∷ 0 ∷ 0 ∷ 0 ∷ [])
unfolding open_choice
lab_zero = refl

pub one_too_many : answer 8_192 (1 ∷ []) (eight 9) [] ≡ refused (29 ∷ 0 ∷ 0 ∷ 0 ∷ 0 ∷ [])
unfolding open_choice
one_too_many = refl

pub one_too_few : answer 8_192 (1 ∷ []) (eight 9) (line-a ∷ line-a ∷ []) ≡ refused (29 ∷ 0 ∷ 0 ∷ 0 ∷ 0 ∷ [])
unfolding open_choice
one_too_few = refl

-- nine quotas
pub nine_quotas : answer 8_192 (1 ∷ []) (1 ∷ eight 9) (line-a ∷ []) ≡ refused (29 ∷ 0 ∷ 0 ∷ 0 ∷ 0 ∷ [])
unfolding open_choice
nine_quotas = refl

-- 16 before 29
pub malformed_first : map_accepted values (with_values (gather_quotas default_tag (1 ∷ []) (9 ∷ []) (eight 9) 8_192 65_536)) ≡ refused (16 ∷ 0 ∷ 0 ∷ 0 ∷ 0 ∷ [])
unfolding open_choice
malformed_first = refl

-- ---- the theorem's premises are met

-- two labs change places
pub places_changed : value (gather_labs default_tag (first_kind (line-a ∷ line_of (ascii "b") ∷ [])) (1 ∷ 2 ∷ []) (eight 2) 8_192 65_536).joint
    ≡ value (gather_labs default_tag (first_kind (line_of (ascii "b") ∷ line-a ∷ [])) (2 ∷ 1 ∷ []) (eight 2) 8_192 65_536).joint
unfolding open_choice
places_changed =
    quotas_default.any_order (first_kind (line-a ∷ line_of (ascii "b") ∷ [])) (first_kind (line_of (ascii "b") ∷ line-a ∷ [])) (1 ∷ 2 ∷ []) (2 ∷ 1 ∷ []) (eight 2) 8_192 8_192 65_536
    (λ x. perm_times (same_labelled eqb) x (p-swap {l = []} refl refl)) refl (λ reports h. rw (← (accepted_inj h)) refl)
