-- Bundles of texts: n and T, the starts, the lengths, and T text bytes. A gather joins a list of numbered texts, of which a bundle is one
-- source. Assumes nothing.
use Rattle.std.specs.Prelude.{ℕ, ◌+◌, ◌*◌, Bool, ◌&&◌, List, map, leb, eqb, length, get_or, take, drop}
use Rattle.model.specs.Lists.{all, from}
use Rattle.model.specs.Bytes.{Bytes}
use Rattle.model.specs.Limits.{max_texts}

-- the little-endian u32 at an offset
unfoldable pub u32_at : Bytes → ℕ → ℕ
u32_at bytes i =
    get_or bytes i 0 + 256 * get_or bytes (i + 1) 0 + 65_536 * get_or bytes (i + 2) 0 + 16_777_216 * get_or bytes (i + 3) 0

-- n, the number of texts
unfoldable pub text_count : Bytes → ℕ
text_count bundle = u32_at bundle 0

-- T, the number of text bytes
unfoldable pub text_bytes : Bytes → ℕ
text_bytes bundle = u32_at bundle 4

unfoldable pub text_start : Bytes → ℕ → ℕ
text_start bundle i = u32_at bundle (8 + 4 * i)

unfoldable pub text_length : Bytes → ℕ → ℕ
text_length bundle i = u32_at bundle (8 + 4 * text_count bundle + 4 * i)

-- n at most 64, exactly 8 + 8n + T bytes, each start + length at most T
unfoldable pub well_formed : Bytes → Bool
well_formed bundle =
    leb 8 (length bundle)
    && leb (text_count bundle) max_texts
    && eqb (length bundle) (8 + 8 * text_count bundle + text_bytes bundle)
    && all (λ i. leb (text_start bundle i + text_length bundle i) (text_bytes bundle)) (from 0 (text_count bundle))

-- a text to be gathered, and the number by which refusals name it
pub record Text : Type 0 where
  pub index : ℕ
  pub bytes : Bytes

-- what the texts hold, without their numbers
abbrev pub contents : List Text → List Bytes
contents texts = map (λ t. t.bytes) texts

-- the i-th text of a bundle
unfoldable pub text_at : Bytes → ℕ → Text
text_at bundle i =
    record { index = i; bytes = take (text_length bundle i) (drop (8 + 8 * text_count bundle + text_start bundle i) bundle) }

-- the texts that a gather of the bundle joins, in order: all of them
unfoldable pub texts : Bytes → List Text
texts bundle = map (text_at bundle) (from 0 (text_count bundle))
