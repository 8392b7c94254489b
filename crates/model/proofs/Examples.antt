-- The claims are not empty, by computation: a second lawful table of tags; texts on which misreadings would answer otherwise; two orders
-- that differ where a path has two spellings; and a bundle for each bound that demand 3 names. Assumes nothing.
use Prim.Native.Nat.{ℕ, ◌+◌}
use mathlib.Core.Path.{◌≡◌, refl}
use mathlib.Core.List.{[], ◌∷◌, ◌++◌}
use lib.ListN.{length}
use Rattle.model.specs.declared.Kind.{Kind}
use Rattle.model.specs.declared.Mode.TheVariants.{Checked}
use Rattle.model.specs.Bytes.{Bytes, ascii}
use Rattle.model.specs.Answer.{Answer, accepted, refused, with_values}
use Rattle.model.specs.Tags.{default_tag, Lawful}
use Rattle.model.specs.Gather.{read_and_print, gather}
use Rattle.model.specs.Demand.{Demand3}
use Rattle.model.specs.Compute.{open_all}
use Rattle.model.proofs.Demand.{demand3}

-- ---- another table

abbrev house_tag : Kind → Bytes
house_tag kind = ascii "x-" ++ default_tag kind

house_tag_lawful : Lawful house_tag
unfolding open_all
house_tag_lawful = record { different = refl; plain = refl }

pub demand3_house : Demand3 house_tag
demand3_house = demand3 house_tag house_tag_lawful

-- ---- misreadings of SPEC 11.2, beside those that cases (b), (h) and (k) rule out

-- the last of two DA lines of one text stays; they are not added
pub line-replaced : read_and_print default_tag (ascii "DA:1,2\nDA:1,3\nend_of_record\n") 8_192 65_536
    ≡ accepted (ascii "TN:\nSF:\nDA:1,3\nLF:1\nLH:1\nend_of_record\n")
unfolding open_all
line-replaced = refl

-- sections are printed by the components of their paths: `a/b` before `a-b`
pub paths-ordered : read_and_print default_tag (ascii "SF:a-b\nDA:1,1\nend_of_record\nSF:a/b\nDA:1,1\nend_of_record\n") 8_192 65_536
    ≡ accepted (ascii "TN:\nSF:a/b\nDA:1,1\nLF:1\nLH:1\nend_of_record\nTN:\nSF:a-b\nDA:1,1\nLF:1\nLH:1\nend_of_record\n")
unfolding open_all
paths-ordered = refl

-- a text is printed in SPEC 6.1's order, with its own found and hit numbers, and not echoed
pub not_echoed : read_and_print default_tag (ascii "DA:2,0\nLF:9\nDA:1,1\nend_of_record\n") 8_192 65_536
    ≡ accepted (ascii "TN:\nSF:\nDA:1,1\nDA:2,0\nLF:2\nLH:1\nend_of_record\n")
unfolding open_all
not_echoed = refl

-- ---- bundles of two texts

-- a u32 below 256
abbrev u32 : ℕ → Bytes
u32 n = n ∷ 0 ∷ 0 ∷ 0 ∷ []

abbrev two : Bytes → Bytes → Bytes
two a b = u32 2 ++ u32 (length a + length b) ++ u32 0 ++ u32 (length a) ++ u32 (length a) ++ u32 (length b) ++ a ++ b

abbrev gathered : ℕ → Bytes → Bytes → Answer Bytes
gathered words a b = gather default_tag Checked (two a b) words 65_536

-- one path, two spellings: the first text's stays, so the hypothesis of `any_order` is needed
abbrev doubled : Bytes
doubled = ascii "SF:a//b\nDA:1,1\nend_of_record\n"

abbrev single : Bytes
single = ascii "SF:a/b\nDA:1,2\nend_of_record\n"

pub spelled_double : gathered 8_192 doubled single ≡ accepted (ascii "TN:\nSF:a//b\nDA:1,3\nLF:1\nLH:1\nend_of_record\n")
unfolding open_all
spelled_double = refl

pub spelled_single : gathered 8_192 single doubled ≡ accepted (ascii "TN:\nSF:a/b\nDA:1,3\nLF:1\nLH:1\nend_of_record\n")
unfolding open_all
spelled_single = refl

-- start lines that differ: 11, in the second text
pub starts-differ : with_values (gathered 8_192 (ascii "FN:3,f\nend_of_record\n") (ascii "FN:4,f\nend_of_record\n"))
    ≡ refused (11 ∷ 1 ∷ 0 ∷ 0 ∷ 0 ∷ [])
unfolding open_all
starts-differ = refl

-- a function's count is held at 2^64 - 1
pub count_held : gathered 8_192 (ascii "FNDA:18446744073709551615,f\nend_of_record\n") (ascii "FNDA:5,f\nend_of_record\n")
    ≡ accepted (ascii "TN:\nSF:\nFNDA:18446744073709551615,f\nFNF:1\nFNH:1\nend_of_record\n")
unfolding open_all
count_held = refl

-- a line's is not: 13
pub count_past : with_values (gathered 8_192 (ascii "DA:1,18446744073709551615\nend_of_record\n") (ascii "DA:1,1\nend_of_record\n"))
    ≡ refused (13 ∷ 1 ∷ 0 ∷ 0 ∷ 0 ∷ [])
unfolding open_all
count_past = refl

-- E = 2: each text's report has two entries, the joined report three
pub joined-past : with_values (gathered 64 (ascii "DA:1,1\nend_of_record\n") (ascii "DA:2,1\nend_of_record\n"))
    ≡ refused (10 ∷ 1 ∷ 0 ∷ 0 ∷ 0 ∷ [])
unfolding open_all
joined-past = refl
