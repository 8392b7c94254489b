-- Small texts, and bundles of both kinds, for the examples. Assumes nothing.
use Prim.Native.Nat.{ℕ, ◌+◌}
use mathlib.Core.List.{List, [], ◌∷◌, ◌++◌}
use lib.ListN.{length}
use Rattle.ordmap.specs.Gathering.{flat}
use Rattle.model.specs.Bytes.{Bytes, ascii}

-- ---- bundles

-- a u32 below 256
abbrev pub u32 : ℕ → Bytes
u32 n = n ∷ 0 ∷ 0 ∷ 0 ∷ []

abbrev pub u32s : List ℕ → Bytes
u32s [] = []
u32s (n ∷ ns) = u32 n ++ u32s ns

abbrev pub starts : ℕ → List Bytes → Bytes
starts k [] = []
starts k (t ∷ ts) = u32 k ++ starts (k + length t) ts

abbrev pub lengths : List Bytes → Bytes
lengths [] = []
lengths (t ∷ ts) = u32 (length t) ++ lengths ts

abbrev pub first_kind : List Bytes → Bytes
first_kind ts = u32 (length ts) ++ u32 (length (flat ts)) ++ starts 0 ts ++ lengths ts ++ flat ts

-- with the arrays of run numbers and of revisions
abbrev pub with_arrays : Bytes → Bytes → List Bytes → Bytes
with_arrays runs revisions ts = u32 (length ts) ++ u32 (length (flat ts)) ++ starts 0 ts ++ lengths ts ++ runs ++ revisions ++ flat ts

abbrev pub second-kind : List ℕ → List ℕ → List Bytes → Bytes
second-kind runs revisions ts = with_arrays (u32s runs) (u32s revisions) ts

-- ---- texts

-- one line that ran once, under a path
abbrev pub line_of : Bytes → Bytes
line_of path = ascii "SF:" ++ path ++ ascii "\nDA:1,1\nend_of_record\n"

-- the same printed, with a count
abbrev pub printed : Bytes → Bytes → Bytes
printed path count = ascii "TN:\nSF:" ++ path ++ ascii "\nDA:1," ++ count ++ ascii "\nLF:1\nLH:1\nend_of_record\n"

abbrev pub unreadable : Bytes
unreadable = ascii "x\n"

abbrev pub line-a : Bytes
line-a = line_of (ascii "a")
