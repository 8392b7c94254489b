-- Examples by computation, under the default tags: a bundle of two texts meets the premises, and on it the two ways write different bytes,
-- since an emptied section's spelling is lost before adding and kept after; functions differ by a reckoned end and by given ends; an emptied
-- section takes one entry while it is read; and inserts, with a range that is dropped and two that are joined. Assumes nothing.
use Prim.Native.Nat.{ℕ, ◌+◌}
use mathlib.Core.Path.{◌≡◌, refl}
use mathlib.Core.Bool.{true, false}
use mathlib.Core.List.{[], ◌∷◌, ◌++◌}
use lib.ListN.{length}
use Rattle.model.specs.declared.Bound.{Bound}
use Rattle.model.specs.declared.Bound.TheVariants.{NextStart, GreaterStart}
use Rattle.model.specs.declared.Mode.TheVariants.{Checked}
use Rattle.model.specs.declared.Range.{Range}
use Rattle.model.specs.Bytes.{Bytes, ascii}
use Rattle.model.specs.Answer.{Answer, accepted, refused, ◌>>=◌, with_values}
use Rattle.model.specs.Tags.{default_tag}
use Rattle.model.specs.Reading.{read_text}
use Rattle.model.specs.Gather.{entry_limit, gather}
use Rattle.model.specs.Ranges.{query_call}
use Rattle.model.specs.Filter.{filter_text}
use Rattle.model.specs.Compute.{open_all}
use Rattle.cutting.specs.Inserts.{Inserts, no_more, one_more}
use Rattle.cutting.specs.Cutting.{CutText, BothWays}
use Rattle.cutting.proofs.Cutting.{cutting_tables}

-- a u32 below 256
abbrev u32 : ℕ → Bytes
u32 n = n ∷ 0 ∷ 0 ∷ 0 ∷ []

-- the bundle of two texts
abbrev bundle_of : Bytes → Bytes → Bytes
bundle_of a b = u32 2 ++ u32 (length a + length b) ++ u32 0 ++ u32 (length a) ++ u32 (length a) ++ u32 (length b) ++ a ++ b

abbrev range : ℕ → ℕ → Range
range s e = record { start = s; end = e }

abbrev gathered : Bytes → Bytes → Answer Bytes
gathered a b = gather default_tag Checked (bundle_of a b) 8_192 65_536

-- filtered by one range of one line
module _ (bound : Bound) (line : ℕ) where
  abbrev cut_to : Bytes → Answer Bytes
  cut_to text = filter_text default_tag bound text (range line line ∷ []) 1 8_192 65_536

  abbrev cut_first : Bytes → Bytes → Answer Bytes
  cut_first a b = cut_to a >>= λ a'. cut_to b >>= λ b'. gathered a' b'

  abbrev added_first : Bytes → Bytes → Answer Bytes
  added_first a b = gathered a b >>= λ whole. cut_to whole

-- ---- spellings

abbrev far : Bytes
far = ascii "SF:a//b\nDA:9,1\nend_of_record\n"

abbrev near : Bytes
near = ascii "SF:a/b\nDA:1,1\nend_of_record\n"

abbrev emptied : Bytes
emptied = ascii "TN:\nSF:a//b\nend_of_record\n"

abbrev shown : Bytes → Bytes
shown path = ascii "TN:\nSF:" ++ path ++ ascii "\nDA:1,1\nLF:1\nLH:1\nend_of_record\n"

pub spelled_cut_first : cut_first NextStart 1 far near ≡ accepted (shown (ascii "a/b"))
unfolding open_all
spelled_cut_first = refl

pub spelled-added-first : added_first NextStart 1 far near ≡ accepted (shown (ascii "a//b"))
unfolding open_all
spelled-added-first = refl

-- the theorem's premises are met
abbrev whole : Bytes
whole = ascii "TN:\nSF:a//b\nDA:1,1\nDA:9,1\nLF:2\nLH:2\nend_of_record\n"

abbrev CutTo1 : Bytes → Bytes → Type 0
CutTo1 text out = CutText default_tag NextStart (range 1 1 ∷ []) (entry_limit 8_192) text out

cut_as : (text out : Bytes) → cut_to NextStart 1 text ≡ accepted out → CutTo1 text out
cut_as text out e = record { slice = range 1 1 ∷ []; used = 1; words = 8_192; room = 65_536; by_ranges = refl; one_limit = refl; wrote = e }

cut_far : cut_to NextStart 1 far ≡ accepted emptied
unfolding open_all
cut_far = refl

cut_near : cut_to NextStart 1 near ≡ accepted (shown (ascii "a/b"))
unfolding open_all
cut_near = refl

pub spelled_both_ways : BothWays default_tag NextStart (range 1 1 ∷ []) (entry_limit 8_192) whole (bundle_of emptied (shown (ascii "a/b")))
unfolding open_all
spelled_both_ways =
    (cutting_tables.default NextStart).same (bundle_of far near) whole (bundle_of emptied (shown (ascii "a/b"))) (range 1 1 ∷ []) 8_192 65_536 refl
    (cut_as far emptied cut_far, (cut_as near (shown (ascii "a/b")) cut_near, tt)) refl

-- ---- functions: a reckoned end under `GreaterStart`, given ends under `NextStart`

-- f has no given end: it ends at 4 where g starts at 5, and at 2^32 - 1 where it is alone
abbrev together : Bytes
together = ascii "FN:1,f\nFN:5,g\nend_of_record\n"

abbrev alone : Bytes
alone = ascii "FN:1,f\nend_of_record\n"

pub reckoned_cut_first : cut_first GreaterStart 7 together alone
    ≡ accepted (ascii "TN:\nSF:\nFN:1,f\nFN:5,g\nFNDA:0,f\nFNDA:0,g\nFNF:2\nFNH:0\nend_of_record\n")
unfolding open_all
reckoned_cut_first = refl

pub reckoned_added-first : added_first GreaterStart 7 together alone ≡ accepted (ascii "TN:\nSF:\nFN:5,g\nFNDA:0,g\nFNF:1\nFNH:0\nend_of_record\n")
unfolding open_all
reckoned_added-first = refl

-- each FN gives an end: of 1 and 9 the adding keeps 9
abbrev short : Bytes
short = ascii "FN:1,1,f\nFNDA:1,f\nend_of_record\n"

abbrev long : Bytes
long = ascii "FN:1,9,f\nFNDA:2,f\nend_of_record\n"

pub given_cut_first : cut_first NextStart 5 short long ≡ accepted (ascii "TN:\nSF:\nFN:1,9,f\nFNDA:2,f\nFNF:1\nFNH:1\nend_of_record\n")
unfolding open_all
given_cut_first = refl

pub given-added-first : added_first NextStart 5 short long ≡ accepted (ascii "TN:\nSF:\nFN:1,9,f\nFNDA:3,f\nFNF:1\nFNH:1\nend_of_record\n")
unfolding open_all
given-added-first = refl

-- ---- entries

-- E = 1 is enough to read an emptied section, and E = 0 is not
pub emptied_one : read_text default_tag 1 emptied ≡ accepted []
unfolding open_all
emptied_one = refl

pub emptied_none : with_values (read_text default_tag 0 emptied) ≡ refused (10 ∷ 0 ∷ 2 ∷ 0 ∷ 0 ∷ [])
unfolding open_all
emptied_none = refl

-- ---- inserts

abbrev unused : Range
unused = range 0 0

-- 1 to 2, 9 to 8 and 3 to 4 into a slice of two pairs: one pair is used
pub three_inserts : Inserts (unused ∷ unused ∷ []) 0 (range 1 2 ∷ range 9 8 ∷ range 3 4 ∷ []) (range 1 4 ∷ unused ∷ []) 1
unfolding open_all
three_inserts = one_more {ranges = range 1 2 ∷ []} refl (one_more {ranges = range 1 2 ∷ []} refl (one_more {ranges = range 1 4 ∷ []} refl no_more))

pub asked_inside : query_call (range 1 4 ∷ unused ∷ []) 1 4 7 ≡ accepted true
unfolding open_all
asked_inside = refl

pub asked_past : query_call (range 1 4 ∷ unused ∷ []) 1 5 9 ≡ accepted false
unfolding open_all
asked_past = refl
