-- What is asked of the definitions in each kind of question, and how an answer of the Rust is written. Examples.antt is made by
-- tools/vectors/make.py, which asks the unchanged Rust. Assumes nothing.
use Prim.Native.Nat.{ℕ, Ordering, ◌+◌, ◌/◌, ◌%◌}
use Rattle.std.specs.Prelude.{◌≡◌, Bool, List, [], ◌∷◌, ◌++◌, map, length, take, replicate}
use Rattle.ordmap.specs.Result.{Result}
use Rattle.model.specs.declared.Mode.{Mode}
use Rattle.model.specs.declared.Range.{Range}
use Rattle.model.specs.Bytes.{Bytes}
use Rattle.model.specs.Path.{components, compare_paths}
use Rattle.model.specs.Answer.{Answer, accepted, refused, ◌>>=◌, with_values}
use Rattle.model.specs.Record.{Record}
use Rattle.model.specs.Tags.{default_tag}
use Rattle.model.specs.Line.{read_line, print_record}
use Rattle.model.specs.Gather.{read_and_print, gather}
use Rattle.model.specs.Ranges.{insert_call, slice_after, query_call}
use Rattle.model.specs.Filter.{filter_text}
use Rattle.model.specs.declared.Bound.TheVariants.{NextStart}
use Rattle.model.specs.Compute.{open_all}

-- ---- questions and answers

-- an answer as the caller gets it: a value, or a refusal's number and values
abbrev pub Told : Type 0 → Type 0
Told A = Result (List ℕ) A

module _ {Q A : Type 0} where
  -- questions with the answers that the Rust gave are answered so by a definition
  abbrev pub Agrees : (Q → A) → List (Q × A) → Type 0
  Agrees ask vectors = map (λ v. ask v.0) vectors ≡ map (λ v. v.1) vectors

module _ {A : Type 0} where
  abbrev pub gives : A → Told A
  gives = accepted

  -- a refusal: number, line and field, in the first text
  abbrev pub refuses : ℕ → ℕ → ℕ → Told A
  refuses number line field = refused (number ∷ 0 ∷ line ∷ field ∷ 0 ∷ [])

  -- a refusal: number, text, line and field
  abbrev pub refuses_in : ℕ → ℕ → ℕ → ℕ → Told A
  refuses_in number text line field = refused (number ∷ text ∷ line ∷ field ∷ 0 ∷ [])

-- ---- what is lent: more than any of the questions needs, since the Rust knows no such limit

abbrev pub words : ℕ
words = 8_192

abbrev pub room : ℕ
room = 65_536

abbrev pub pairs : ℕ
pairs = 16

-- ---- one line

-- its record, and the record printed
abbrev pub Line : Type 0
Line = Bytes × Told (Record × Bytes)

abbrev pub ask_line : Bytes → Told (Record × Bytes)
ask_line line = with_values (read_line default_tag line >>= λ made. accepted (made, print_record default_tag made))

-- ---- two paths

abbrev pub Paths : Type 0
Paths = (Bytes × Bytes) × Ordering

abbrev pub less : Bytes → Bytes → Paths
less a b = ((a, b), Ordering.lt)

abbrev pub equal : Bytes → Bytes → Paths
equal a b = ((a, b), Ordering.eq)

abbrev pub greater : Bytes → Bytes → Paths
greater a b = ((a, b), Ordering.gt)

abbrev pub ask_paths : Bytes × Bytes → Ordering
ask_paths p = compare_paths (components p.0) (components p.1)

-- ---- one text: its report printed

abbrev pub Text : Type 0
Text = Bytes × Told Bytes

abbrev pub ask_text : Bytes → Told Bytes
ask_text text = with_values (read_and_print default_tag text words room)

-- ---- a gather of texts

abbrev pub Gather : Type 0
Gather = (Mode × List Bytes) × Told Bytes

-- a number as four bytes, little-endian
unfoldable pub u32_bytes : ℕ → Bytes
u32_bytes n = n % 256 ∷ n / 256 % 256 ∷ n / 65_536 % 256 ∷ n / 16_777_216 % 256 ∷ []

unfoldable pub concat : List Bytes → Bytes
concat [] = []
concat (bytes ∷ rest) = bytes ++ concat rest

-- where texts that follow one another start
unfoldable pub starts_from : ℕ → List Bytes → List ℕ
starts_from at [] = []
starts_from at (text ∷ rest) = at ∷ starts_from (at + length text) rest

-- n and T, the starts, the lengths, and the texts one after another
unfoldable pub bundle_of : List Bytes → Bytes
bundle_of texts =
    u32_bytes (length texts) ++ u32_bytes (length (concat texts))
    ++ concat (map u32_bytes (starts_from 0 texts))
    ++ concat (map (λ text. u32_bytes (length text)) texts)
    ++ concat texts

abbrev pub ask_gather : Mode × List Bytes → Told Bytes
ask_gather q = with_values (gather default_tag q.0 (bundle_of q.1) words room)

-- ---- ranges

abbrev pub range : ℕ → ℕ → Range
range start end = record { start = start; end = end }

-- ranges inserted one after another into a slice; the pairs used in the end
unfoldable pub insert_all : List Range → List Range → ℕ → Answer (List Range)
insert_all [] slice used = accepted (take used slice)
insert_all (r ∷ rest) slice used = do
  held ← insert_call slice used r
  insert_all rest (slice_after (accepted held) slice) (length held)

abbrev pub Inserts : Type 0
Inserts = List Range × Told (List Range)

abbrev pub ask_inserts : List Range → Told (List Range)
ask_inserts ranges = with_values (insert_all ranges (replicate pairs (range 0 0)) 0)

-- does a range touch these pairs?
abbrev pub Query : Type 0
Query = (List Range × ℕ × ℕ) × Told Bool

abbrev pub ask_query : List Range × ℕ × ℕ → Told Bool
ask_query q = with_values (query_call q.0 (length q.0) q.1 q.2)

-- ---- the filter

abbrev pub Filtered : Type 0
Filtered = (Bytes × List Range) × Told Bytes

abbrev pub ask_filter : Bytes × List Range → Told Bytes
ask_filter q = with_values (filter_text default_tag NextStart q.0 q.1 (length q.1) words room)

-- ---- computing

-- opens every definition that a question uses: a proof by computation says `unfolding open_asked`
unfoldable pub open_asked : {A : Type 0} → A → A
unfolding open_all u32_bytes concat starts_from bundle_of insert_all
open_asked a = a
