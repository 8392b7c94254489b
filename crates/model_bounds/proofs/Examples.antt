-- Bounds of texts on which plausible misreadings of request N11 would answer otherwise, by computation. Assumes nothing.
use Prim.Native.Nat.{ℕ}
use mathlib.Core.Path.{◌≡◌, refl}
use mathlib.Core.List.{List, [], ◌∷◌, ◌++◌}
use Rattle.ordmap.specs.Result.{Result}
use Rattle.model.specs.Bytes.{Bytes, ascii}
use Rattle.model.specs.Answer.{accepted, refused, with_values}
use Rattle.model.specs.Tags.{default_tag}
use Rattle.model.specs.Compute.{open_all}
use Rattle.model_bounds.specs.declared.Hits.{Hits}
use Rattle.model_bounds.specs.declared.Bounds.{Bounds}
use Rattle.model_bounds.specs.Bounds.{hit_bounds}
use Rattle.model_bounds.specs.Compute.{open_bounds}

abbrev bound : Bytes → Bytes → Result (List ℕ) Bounds
bound least greatest = with_values (hit_bounds default_tag least greatest 8_192)

-- lines, functions and branches
abbrev pub hitting : ℕ → ℕ → ℕ → Hits
hitting lines functions branches = record { lines = lines; functions = functions; branches = branches }

abbrev pub from_to : Hits → Hits → Bounds
from_to least greatest = record { least = least; greatest = greatest }

abbrev refused_with : ℕ → Result (List ℕ) Bounds
refused_with number = refused (number ∷ 0 ∷ 0 ∷ 0 ∷ 0 ∷ [])

abbrev taken : Bytes → Bytes
taken count = ascii "BRDA:1,0,0," ++ count ++ ascii "\nend_of_record\n"

-- `-` is 0, in both directions
pub none_is_zero : (bound (taken (ascii "-")) (taken (ascii "0")) ≡ accepted (from_to (hitting 0 0 0) (hitting 0 0 0)))
    × (bound (taken (ascii "0")) (taken (ascii "-")) ≡ accepted (from_to (hitting 0 0 0) (hitting 0 0 0)))
    × (bound (taken (ascii "-")) (taken (ascii "1")) ≡ accepted (from_to (hitting 0 0 0) (hitting 0 0 1)))
    × (bound (taken (ascii "1")) (taken (ascii "-")) ≡ refused_with 28)
unfolding open_all open_bounds
none_is_zero = (refl, refl, refl, refl)

abbrev pub low_text : Bytes
low_text = ascii "SF:a//b\nFN:1,f\nFNDA:0,f\nBRDA:1,0,0,-\nDA:1,0\nDA:2,3\nend_of_record\n"

abbrev pub high_text : Bytes
high_text = ascii "SF:a/b/\nFN:2,f\nFNDA:5,f\nBRDA:1,0,0,1\nDA:2,4\nDA:1,1\nend_of_record\n"

-- paths by components; starts and checksums are no keys
pub bounds_told : bound low_text high_text ≡ accepted (from_to (hitting 1 0 0) (hitting 2 1 1))
unfolding open_all open_bounds
bounds_told = refl

-- 27 before 28; a key too many on either side; an unreadable text by its index; both texts are read first
pub bounds-refused :
    (bound (ascii "DA:1,5\nDA:2,0\nend_of_record\n") (ascii "DA:1,1\nend_of_record\n") ≡ refused_with 27)
    × (bound (ascii "DA:1,0\nend_of_record\n") (ascii "DA:1,1\nDA:2,0\nend_of_record\n") ≡ refused_with 27)
    × (bound (ascii "DA:1,5\nend_of_record\n") (ascii "DA:1,1\nend_of_record\n") ≡ refused_with 28)
    × (bound (ascii "DA:1,5\nend_of_record\n") (ascii "y\n") ≡ refused (1 ∷ 1 ∷ 1 ∷ 0 ∷ 0 ∷ []))
    × (bound (ascii "x\n") (ascii "DA:1,x\n") ≡ refused (1 ∷ 0 ∷ 1 ∷ 0 ∷ 0 ∷ []))
unfolding open_all open_bounds
bounds-refused = (refl, refl, refl, refl, refl)

-- E is for each text by itself: 64 words are two entries, which each text has
pub bounds_limit : with_values (hit_bounds default_tag (ascii "DA:1,0\nend_of_record\n") (ascii "DA:1,1\nend_of_record\n") 64)
    ≡ accepted (from_to (hitting 0 0 0) (hitting 1 0 0))
unfolding open_all open_bounds
bounds_limit = refl
