-- A record that is printed is read back. Assumes nothing.
use Prim.Native.Nat.{ℕ, zero, suc, ◌+◌, ◌/◌, ◌%◌, ◌^◌, ◌≤◌, ◌<◌, compare, Ordering}
use native.Mathlib.Nat.{lt_of_le_of_lt}
use native.Mathlib.Omega.{arith}
use native.Mathlib.Decide.{dec_lt}
use mathlib.Core.Path.{◌≡◌, refl, ap, ◌∙◌}
use mathlib.Core.Bool.{true, false, true≢false}
use mathlib.Core.List.{[], ◌∷◌, ◌++◌}
use mathlib.Core.Option.{Option, none, some}
use lib.Dec.{lit<, compare_is_eq}
use borrow.Author.Tests.{le-leb, ne_eqb}
use Rattle.model.specs.declared.Kind.{Kind}
use Rattle.model.specs.declared.Kind.TheVariants as K
use Rattle.model.specs.Order.{lex}
use Rattle.model.specs.Bytes.{Bytes, ascii, newline, return, comma, colon, compare_bytes, same_bytes, before, after, joined, Free}
use Rattle.model.specs.Answer.{accepted, ◌>>=◌}
use Rattle.model.specs.Limits.{u32_max, u64_max}
use Rattle.model.specs.Number.{decimal_digits, decimal}
use Rattle.model.specs.Record.{
  Record,
  test_name,
  source_file,
  function_name,
  function_data,
  functions_found,
  functions_hit,
  branch_data,
  branches_found,
  branches_hit,
  line_data,
  lines_found,
  lines_hit,
  end_of_record,
}
use Rattle.model.specs.Tags.{Lawful}
use Rattle.model.specs.Line.{
  trimmed,
  before_trimmed,
  from_field,
  in_field,
  number_field,
  text_field,
  taken_field,
  checksum_field,
  last_before,
  read_one,
  all_digits,
  is_digits,
  begins_with_end,
  with_end,
  read_function,
  read_body,
  body_of,
  read_trimmed,
  read_record,
  print_fields,
  print_end,
  print_taken,
  print_checksum,
  print_record,
}
use Rattle.model.proofs.Clean.{RecordFits}
use Rattle.model.proofs.TagLaws.{kind_among-tag, tag-colon, tag_trim}
use Rattle.model.proofs.NumberLaws.{StartsWithDigit, decimal_digits-small, decimal_digits_large, decimal_digits-starts, read_number-decimal}
use Rattle.model.proofs.ByteLaws.{before-all, after-all, before_seam, after_seam, Trim, Kept, trim_cons, trim_append}

-- ---- digits

abbrev pub Digits : Bytes → Type 0
Digits [] = Unit {0}
Digits (b ∷ bs) = (48 ≤ b) × (b < 58) × Digits bs

digits_append : (xs ys : Bytes) → Digits xs → Digits ys → Digits (xs ++ ys)
digits_append [] ys f g = g
digits_append (b ∷ bs) ys f g = (f.0, f.1, digits_append bs ys f.2 g)

decimal_digits-digits : (n v : ℕ) → Digits (decimal_digits n v)
unfolding decimal_digits
decimal_digits-digits zero v = tt
decimal_digits-digits (suc n) v = go (dec_lt v 10) (decimal_digits-digits n (v / 10))
  where
    go : Dec (v < 10) → Digits (decimal_digits n (v / 10)) → Digits (decimal_digits (suc n) v)
    go (yes h) ih = rw (decimal_digits-small n v h) (omega arith, omega arith, tt)
    go (no h) ih =
        rw (decimal_digits_large n v (omega (arith, h)))
        (digits_append (decimal_digits n (v / 10)) ((48 + v % 10) ∷ []) ih (omega arith, omega arith, tt))

pub decimal-digits : (v : ℕ) → Digits (decimal v)
unfolding decimal
decimal-digits v = decimal_digits-digits 20 v

pub digits-free : (sep : ℕ) (xs : Bytes) → sep < 48 → Digits xs → Free sep xs
digits-free sep [] h d = tt
digits-free sep (b ∷ bs) h d = (ne_eqb b sep (λ e. omega (arith, e, h, d.0)), digits-free sep bs h d.2)

pub digits_trim : (xs : Bytes) → Digits xs → Trim xs
unfolding trimmed
digits_trim [] d = refl
digits_trim (b ∷ bs) d = trim_cons b bs kept (digits_trim bs d.2)
  where
    kept : Kept b
    kept = simp (ne_eqb b newline (λ e. omega (arith, e, d.0)), ne_eqb b return (λ e. omega (arith, e, d.0)))

-- a decimal and a comma are the beginning that an end line has
digits-all : (xs : Bytes) → Digits xs → all_digits xs ≡ true
unfolding all_digits
digits-all [] d = refl
digits-all (b ∷ bs) d = rw (le-leb 48 b d.0, le-leb b 57 (omega (arith, d.1))) (digits-all bs d.2)

digits_some : {xs : Bytes} → StartsWithDigit xs → Digits xs → is_digits xs ≡ true
unfolding is_digits all_digits
digits_some s d = rw s.is (digits-all (s.first ∷ s.rest) (rw s.is at d))

decimal-ends : (v : ℕ) (name : Bytes) → begins_with_end (decimal v ++ comma ∷ name) ≡ true
unfolding begins_with_end decimal
decimal-ends v name =
    rw (after_seam comma (decimal v) name free, begins_with_end)
    (rw (before_seam comma (decimal v) name free) (digits_some (decimal_digits-starts 19 v) (decimal-digits v)))
  where
    free : Free comma (decimal v)
    free = digits-free comma (decimal v) (lit< tt) (decimal-digits v)

-- ---- fields

pub u32_small : (v : ℕ) → v ≤ u32_max → v < 10 ^ 20
u32_small v h = lt_of_le_of_lt h (lit< tt)

pub u64_small : (v : ℕ) → v ≤ u64_max → v < 10 ^ 20
u64_small v h = lt_of_le_of_lt h (lit< tt)

-- field k is the number v, and the rest follows it
module _ (max v : ℕ) (small : v < 10 ^ 20) (fits : v ≤ max) where
  number_field-more : (k : ℕ) (body rest : Bytes) → from_field k body ≡ some (decimal v ++ comma ∷ rest) → number_field max k body ≡ accepted v
  unfolding number_field in_field
  number_field-more k body rest e =
      rw (e, number_field)
      (rw (before_seam comma (decimal v) rest (digits-free comma (decimal v) (lit< tt) (decimal-digits v)))
      (rw (read_number-decimal max v small fits, in_field)))

  number_field-last : (k : ℕ) (body : Bytes) → from_field k body ≡ some (decimal v) → number_field max k body ≡ accepted v
  unfolding number_field in_field
  number_field-last k body e =
      rw (e, number_field)
      (rw (before-all comma (decimal v) (digits-free comma (decimal v) (lit< tt) (decimal-digits v)))
      (rw (read_number-decimal max v small fits, in_field)))

from_more : (k v : ℕ) (body rest : Bytes) → from_field (suc k) body ≡ some (decimal v ++ comma ∷ rest) → from_field (suc (suc k)) body ≡ some rest
unfolding from_field
from_more k v body rest e =
    rw (e, from_field) (after_seam comma (decimal v) rest (digits-free comma (decimal v) (lit< tt) (decimal-digits v)))

from_last : (k v : ℕ) (body : Bytes) → from_field (suc k) body ≡ some (decimal v) → from_field (suc (suc k)) body ≡ none
unfolding from_field
from_last k v body e =
    rw (e, from_field) (after-all comma (decimal v) (digits-free comma (decimal v) (lit< tt) (decimal-digits v)))

-- ---- lines

trim_decimal : (v : ℕ) → Trim (decimal v)
trim_decimal v = digits_trim (decimal v) (decimal-digits v)

trim_after : (v : ℕ) (rest : Bytes) → Trim rest → Trim (decimal v ++ comma ∷ rest)
trim_after v rest t = trim_append (decimal v) comma rest (trim_cons comma rest refl t)

from_field-one : (body : Bytes) → from_field 1 body ≡ some body
unfolding from_field
from_field-one body = refl

-- ---- taken counts

lex_differs : (o r : Ordering) → compare_is_eq o ≡ false → compare_is_eq (lex o r) ≡ false
lex_differs Ordering.lt r e = refl
lex_differs Ordering.eq r e = absurd (true≢false e)
lex_differs Ordering.gt r e = refl

-- what starts with a digit is not "-"
digit_differs : {bytes : Bytes} → StartsWithDigit bytes → same_bytes bytes (ascii "-") ≡ false
unfolding compare_bytes
digit_differs s = rw s.is (lex_differs (compare s.first 45) _ (ne_eqb s.first 45 (λ e. omega (arith, e, s.digit))))

taken_none : (k max : ℕ) (body : Bytes) → from_field k body ≡ some (ascii "-") → taken_field max k body ≡ accepted none
unfolding taken_field before compare_bytes
taken_none k max body e = rw (e, taken_field)

taken_some : (k max v : ℕ) (body : Bytes) → v < 10 ^ 20 → v ≤ max → from_field k body ≡ some (decimal v) → taken_field max k body ≡ accepted (some v)
unfolding taken_field in_field decimal
taken_some k max v body small fits e =
    rw (e, taken_field)
    (rw (before-all comma (decimal v) (digits-free comma (decimal v) (lit< tt) (decimal-digits v)))
    (rw (digit_differs (decimal_digits-starts 19 v)) (rw (read_number-decimal max v small fits, in_field))))

module _ (tag : Kind → Bytes) (L : Lawful tag) where
  tagged : (k : Kind) (body : Bytes) → read_trimmed tag (tag k ++ colon ∷ body) ≡ read_body k body
  unfolding read_trimmed body_of
  tagged k body =
      rw (before_seam colon (tag k) body (tag-colon tag L k), kind_among-tag tag L k, read_trimmed)
      (ap (read_body k) (rw (after_seam colon (tag k) body (tag-colon tag L k), body_of)))

  back : (k : Kind) (body : Bytes) (r : Record) → Trim body → read_body k body ≡ accepted r → read_record tag (tag k ++ colon ∷ body) ≡ accepted r
  unfolding read_record
  back k body r t e =
      rw (trim_append (tag k) colon body (trim_cons colon body refl t)) (tagged k body ∙ e)

  one_back : (k : Kind) (made : ℕ → Record) (v : ℕ) → read_body k (decimal v) ≡ read_one made (decimal v) → v ≤ u32_max
      → read_record tag (tag k ++ colon ∷ decimal v) ≡ accepted (made v)
  unfolding read_one last_before from_field
  one_back k made v e h =
      back k (decimal v) (made v) (trim_decimal v)
      (e ∙ rw (number_field-last u32_max v (u32_small v h) h 1 (decimal v) refl) (rw (from_last 0 v (decimal v) refl, last_before)))

  named_back : (k : Kind) (made : ℕ → Bytes → Record) (max v : ℕ) (name : Bytes) → v < 10 ^ 20 → v ≤ max → Trim name
      → read_body k (decimal v ++ comma ∷ name)
      ≡ (number_field max 1 (decimal v ++ comma ∷ name) >>= λ n. text_field 2 (decimal v ++ comma ∷ name) >>= λ t. accepted (made n t))
      → read_record tag (tag k ++ colon ∷ (decimal v ++ comma ∷ name)) ≡ accepted (made v name)
  unfolding text_field from_field
  named_back k made max v name small fits t e =
      back k (decimal v ++ comma ∷ name) (made v name) (trim_after v name t)
      (e ∙ rw (number_field-more max v small fits 1 (decimal v ++ comma ∷ name) name refl)
      (rw (from_more 0 v (decimal v ++ comma ∷ name) name refl, text_field)))

  -- FN whose rest begins with no end line
  start_back : (start : ℕ) (name : Bytes) → start ≤ u32_max → Trim name → begins_with_end name ≡ false
      → read_record tag (tag K.FunctionName ++ colon ∷ (decimal start ++ comma ∷ name)) ≡ accepted (function_name start none name)
  unfolding read_body read_function text_field
  start_back start name h t plain = back K.FunctionName body (function_name start none name) (trim_after start name t) read
    where
      body : Bytes
      body = decimal start ++ comma ∷ name

      read : read_body K.FunctionName body ≡ accepted (function_name start none name)
      read =
          rw (number_field-more u32_max start (u32_small start h) h 1 body name (from_field-one body))
          (rw (from_more 0 start body name (from_field-one body), text_field) (rw plain))

  -- and FN with one
  end_back : (start end : ℕ) (name : Bytes) → start ≤ end → end ≤ u32_max → Trim name
      → read_record tag (tag K.FunctionName ++ colon ∷ (decimal start ++ comma ∷ (decimal end ++ comma ∷ name))) ≡ accepted (function_name start (some end) name)
  unfolding read_body read_function with_end text_field
  end_back start end name order h t = back K.FunctionName body (function_name start (some end) name) (trim_after start rest (trim_after end name t)) read
    where
      rest : Bytes
      rest = decimal end ++ comma ∷ name

      body : Bytes
      body = decimal start ++ comma ∷ rest

      small : start ≤ u32_max
      small = omega arith

      from2 : from_field 2 body ≡ some rest
      from2 = from_more 0 start body rest (from_field-one body)

      read : read_body K.FunctionName body ≡ accepted (function_name start (some end) name)
      read =
          rw (number_field-more u32_max start (u32_small start small) small 1 body rest (from_field-one body))
          (rw (from2, text_field)
          (rw (decimal-ends end name)
          (rw (number_field-more u32_max end (u32_small end h) h 2 body name from2)
          (rw (from_more 1 end body name from2, text_field) (rw (le-leb start end order))))))

  branch_back : (line block branch : ℕ) (last : Bytes) (taken : Option ℕ) → line ≤ u32_max → block ≤ u32_max → branch ≤ u32_max → Trim last
      → ((body : Bytes) → from_field 4 body ≡ some last → (taken_field u64_max 4 body ≡ accepted taken) × (from_field 5 body ≡ none))
      → read_record tag (tag K.BranchData ++ colon ∷ (decimal line ++ comma ∷ (decimal block ++ comma ∷ (decimal branch ++ comma ∷ last))))
      ≡ accepted (branch_data line block branch taken)
  unfolding read_body last_before
  branch_back line block branch last taken h1 h2 h3 t given = back K.BranchData body (branch_data line block branch taken) trim read
    where
      rest3 : Bytes
      rest3 = decimal branch ++ comma ∷ last

      rest2 : Bytes
      rest2 = decimal block ++ comma ∷ rest3

      body : Bytes
      body = decimal line ++ comma ∷ rest2

      trim : Trim body
      trim = trim_after line rest2 (trim_after block rest3 (trim_after branch last t))

      from1 : from_field 1 body ≡ some body
      from1 = from_field-one body

      from2 : from_field 2 body ≡ some rest2
      from2 = from_more 0 line body rest2 from1

      from3 : from_field 3 body ≡ some rest3
      from3 = from_more 1 block body rest3 from2

      from4 : from_field 4 body ≡ some last
      from4 = from_more 2 branch body last from3

      read : read_body K.BranchData body ≡ accepted (branch_data line block branch taken)
      read =
          rw (number_field-more u32_max line (u32_small line h1) h1 1 body rest2 from1)
          (rw (number_field-more u32_max block (u32_small block h2) h2 2 body rest3 from2)
          (rw (number_field-more u32_max branch (u32_small branch h3) h3 3 body last from3)
          (rw (given body from4).0 (rw ((given body from4).1, last_before)))))

  line_back : (line count : ℕ) (rest : Bytes) (checksum : Option Bytes) → line ≤ u32_max → count ≤ u64_max → Trim rest
      → ((body : Bytes) → from_field 2 body ≡ some rest → (number_field u64_max 2 body ≡ accepted count) × (checksum_field 3 body ≡ checksum))
      → read_record tag (tag K.LineData ++ colon ∷ (decimal line ++ comma ∷ rest)) ≡ accepted (line_data line count checksum)
  unfolding read_body
  line_back line count rest checksum h1 h2 t given = back K.LineData body (line_data line count checksum) (trim_after line rest t) read
    where
      body : Bytes
      body = decimal line ++ comma ∷ rest

      from2 : from_field 2 body ≡ some rest
      from2 = from_more 0 line body rest (from_field-one body)

      read : read_body K.LineData body ≡ accepted (line_data line count checksum)
      read =
          rw (number_field-more u32_max line (u32_small line h1) h1 1 body rest (from_field-one body))
          (rw (given body from2).0 (rw (given body from2).1))

  pub read_record_print : (r : Record) → RecordFits r → read_record tag (print_record tag r) ≡ accepted r
  unfolding print_record print_fields print_end print_taken print_checksum joined read_body from_field checksum_field before after compare_bytes trimmed before_trimmed read_record read_trimmed body_of
  read_record_print (test_name name) p = back K.TestName name (test_name name) p.clean_end refl
  read_record_print (source_file path) p = back K.SourceFile path (source_file path) p.clean_end refl
  read_record_print (function_name start none name) p = start_back start name p.0.start p.1.clean_end (p.0.name_whole refl)
  read_record_print (function_name start (some end) name) p = end_back start end name p.0.end.0 p.0.end.1 p.1.clean_end
  read_record_print (function_data count name) p =
      named_back K.FunctionData function_data u64_max count name (u64_small count p.0) p.0 p.1.clean_end refl
  read_record_print (functions_found found) p = one_back K.FunctionsFound functions_found found refl p
  read_record_print (functions_hit hit) p = one_back K.FunctionsHit functions_hit hit refl p
  read_record_print (branch_data line block branch none) p =
      branch_back line block branch (ascii "-") none p.0 p.1 p.2 refl
      (λ body e. (taken_none 4 u64_max body e, rw (e, from_field)))
  read_record_print (branch_data line block branch (some taken)) p =
      branch_back line block branch (decimal taken) (some taken) p.0 p.1 p.2 (trim_decimal taken)
      (λ body e. (taken_some 4 u64_max taken body (u64_small taken p.3) p.3 e, from_last 3 taken body e))
  read_record_print (branches_found found) p = one_back K.BranchesFound branches_found found refl p
  read_record_print (branches_hit hit) p = one_back K.BranchesHit branches_hit hit refl p
  read_record_print (line_data line count none) p =
      line_back line count (decimal count) none p.0 p.1 (trim_decimal count)
      (λ body e. (number_field-last u64_max count (u64_small count p.1) p.1 2 body e, rw (from_last 1 count body e, checksum_field)))
  read_record_print (line_data line count (some checksum)) p =
      line_back line count (decimal count ++ comma ∷ checksum) (some checksum) p.0 p.1 (trim_after count checksum p.2.text.clean_end)
      (λ body e. (
        number_field-more u64_max count (u64_small count p.1) p.1 2 body checksum e,
        rw (from_more 1 count body checksum e, checksum_field) (rw p.2.not_dash),
      ))
  read_record_print (lines_found found) p = one_back K.LinesFound lines_found found refl p
  read_record_print (lines_hit hit) p = one_back K.LinesHit lines_hit hit refl p
  read_record_print end_of_record p =
      rw (tag_trim tag L K.EndOfRecord)
      (rw (before-all colon (tag K.EndOfRecord) (tag-colon tag L K.EndOfRecord), kind_among-tag tag L K.EndOfRecord, read_trimmed))
