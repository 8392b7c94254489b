-- Where the texts of a bundle lie. Assumes nothing.
use Rattle.std.specs.Prelude.{ℕ, ◌+◌, ◌*◌, ◌-◌, ◌≤◌, ◌<◌, Bool, ◌&&◌, leb, eqb, length, take, drop}
use Rattle.model.specs.declared.Part.{Part}
use Rattle.model.specs.Lists.{all, from}
use Rattle.model.specs.Bytes.{Bytes}
use Rattle.model.specs.Limits.{max_texts}
use Rattle.model.specs.Bundle.{text_count, text_bytes, text_start, text_length, Text}

-- the i-th text of a bundle whose text bytes begin at `body`, as a part of the bundle
abbrev pub part_from : ℕ → Bytes → ℕ → Part
part_from body bundle i = record { start = body + text_start bundle i; len = text_length bundle i }

-- and its bytes, under its index
abbrev pub text_from : ℕ → Bytes → ℕ → Text
text_from body bundle i = record { index = i; bytes = take (text_length bundle i) (drop (body + text_start bundle i) bundle) }

-- the texts of a bundle lie in it
pub record TextsInside (bundle : Bytes) (body : ℕ) : Type 0 where
  pub few : text_count bundle ≤ max_texts
  pub arrays : 8 + 8 * text_count bundle ≤ length bundle
  pub inside : (i : ℕ) → i < text_count bundle → body + text_start bundle i + text_length bundle i ≤ length bundle

-- the texts from i up to n lie in so many text bytes
unfoldable pub fits_from : Bytes → ℕ → ℕ → ℕ → Bool
fits_from bundle i n total = all (λ k. leb (text_start bundle k + text_length bundle k) total) (from i (n - i))

-- n at most 64, exactly 8 + width · n + T bytes, each start + length at most T. Each kind of bundle is this at its width.
unfoldable pub well_formed_as : ℕ → Bytes → Bool
well_formed_as width bundle =
    leb 8 (length bundle)
    && leb (text_count bundle) max_texts
    && eqb (length bundle) (8 + width * text_count bundle + text_bytes bundle)
    && all (λ i. leb (text_start bundle i + text_length bundle i) (text_bytes bundle)) (from 0 (text_count bundle))
