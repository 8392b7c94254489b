-- Pages, by computation. Assumes nothing.
use Prim.Native.Nat.{ℕ, ◌+◌}
use mathlib.Core.Path.{◌≡◌, refl}
use mathlib.Core.List.{List, [], ◌∷◌, ◌++◌}
use lib.ListN.{length}
use Rattle.ordmap.specs.Result.{accepted, refused}
use Rattle.model.specs.Bytes.{Bytes, ascii}
use Rattle.model.specs.Answer.{with_values}
use Rattle.model.specs.Tags.{default_tag}
use Rattle.model.specs.Cases.{sample_bundle}
use Rattle.model.specs.Compute.{open_all}
use Rattle.model_totals.specs.Totals.{page, totals, totals_program}
use Rattle.model_totals.specs.Compute.{open_totals}

-- a u32 below 256
abbrev u32 : ℕ → Bytes
u32 n = n ∷ 0 ∷ 0 ∷ 0 ∷ []

-- a bundle of one text
abbrev bundle_of : Bytes → Bytes
bundle_of text = u32 1 ++ u32 (length text) ++ u32 0 ++ u32 (length text) ++ text

-- case (l)
pub page-l : totals_program sample_bundle ≡ ascii "1/1 0/0 1/2 500 a m.c\n1/1 0/0 1/2 500\n"
unfolding open_all open_totals
page-l = refl

-- no texts: only the last line
pub page-none : (page [] ≡ ascii "0/0 0/0 0/0 -\n") × (totals_program (u32 0 ++ u32 0) ≡ ascii "0/0 0/0 0/0 -\n")
unfolding open_all open_totals
page-none = (refl, refl)

-- no lines: no share. No TN: two blanks. LF and LH count for nothing, the first spelling is kept
pub page-columns : totals_program (bundle_of (ascii "SF:a//b\nFN:1,f\nend_of_record\nTN:t\nSF:a/b\nBRDA:1,0,0,-\nDA:1,1\nDA:2,0\nDA:3,0\nLF:7\nLH:7\nend_of_record\n"))
    ≡ ascii "0/1 0/0 0/0 -  a//b\n0/0 0/1 1/3 333 t a/b\n0/1 0/1 1/3 333\n"
unfolding open_all open_totals
page-columns = refl

-- 1 of 3 and 1 of 1: 500 of the sums, not the mean of the shares
pub page_shares : totals_program (bundle_of (ascii "SF:a\nDA:1,1\nDA:2,0\nDA:3,0\nend_of_record\nSF:b\nDA:1,1\nend_of_record\n"))
    ≡ ascii "0/0 0/0 1/3 333  a\n0/0 0/0 1/1 1000  b\n0/0 0/0 2/4 500\n"
unfolding open_all open_totals
page_shares = refl

-- a refusal prints as in `gather`, and 14 is of the page: exactly full is accepted
pub page-refused : (totals_program (u32 1) ≡ ascii "refused 16 0 0 0\n") × (totals_program (bundle_of (ascii "DA:1,x\n")) ≡ ascii "refused 5 0 1 2\n")
    × (totals default_tag (u32 0 ++ u32 0) 8_192 14 ≡ accepted (ascii "0/0 0/0 0/0 -\n"))
    × (with_values (totals default_tag (u32 0 ++ u32 0) 8_192 13) ≡ refused (14 ∷ 0 ∷ 0 ∷ 0 ∷ 14 ∷ []))
unfolding open_all open_totals
page-refused = (refl, refl, refl, refl)
