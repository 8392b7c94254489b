-- The rows of FN, FNDA, BRDA and DA are items. Assumes nothing.
use Rattle.std.specs.Prelude.{Option as LentOption, Some, None}
use mathlib.Core.Path.{◌≡◌, refl, sym, ap, ap₂, ◌∙◌}
use mathlib.Core.Logic.{◌≢◌}
use mathlib.Core.Bool.{true, false}
use mathlib.Core.Option.{Option, none, some}
use lib.Dec.{eqb, compare_is_eq}
use Prim.Native.Nat.compare
use Prim.Native.Nat.{ℕ, zero, suc, ◌+◌, ◌*◌, ◌/◌, ◌%◌, ◌<◌}
use native.Mathlib.Numerals.{add-one}
use native.Mathlib.Omega.{arith}
use Rattle.table.specs.declared.Row.{Row}
use Rattle.ordmap.proofs.Results.{impossible}
use Rattle.model.specs.declared.Part.{Part}
use Rattle.model.specs.Bytes.{Bytes}
use Rattle.model.specs.Parts.{given_in}
use Rattle.model.specs.Report.{extent_at, Extent, Function, function_of, updated, extent_of, given_end, end_of, section_item, function_item, branch_item, line_item}
use Rattle.table_item.proofs.CountLaws.{function-item}
use Rattle.table_item.specs.Combining.{no_extent, is_calls}
use Rattle.table_item.specs.Items.{part, kind_of, function_kind, by_kind, if_given, line_numbers, extent_tag, extent_word, extent_in, start_key, function_in, part_in, item_of, PartInside, checksum_part, ChecksumInside, item_row, Makes}

module _ (p : Part) (start : ℕ) (small : start < line_numbers) where
  start-made : (end : LentOption ℕ)
      → Makes (item_row (extent_tag end) p.start p.len (extent_word start end) 0) (λ text. function_item (function_of (part_in text p) (some (extent_at start (given_in end))) 0)) (λ text. PartInside text p)
  unfolding item_of given_in
  start-made (Some line) =
      let low : (start + line * line_numbers) % line_numbers ≡ start = omega (arith, small) in
      let high : (start + line * line_numbers) / line_numbers ≡ line = omega (arith, small) in
      record {
        is = λ text. ap₂ (λ (s l : ℕ). function_item (function_of (part_in text p) (some (extent_at s (some l))) 0)) low high;
        inner = λ text i. omega arith;
      }
  start-made None = rw add-one (record { is = λ text. refl; inner = λ text i. omega arith })

  pub start-row-made : {r : Row} {tag word : ℕ} (end : LentOption ℕ) → tag ≡ extent_tag end → word ≡ extent_word start end → r ≡ item_row tag p.start p.len word 0
      → Makes r (λ text. function_item (function_of (part_in text p) (some (extent_at start (given_in end))) 0)) (λ text. PartInside text p)
  start-row-made end e f q = rw (q, e, f) (start-made end)

-- ---- what a row tells of its function

-- by kind k and what is given, m
abbrev pub extent_by : ℕ → ℕ → ℕ → Option Extent
extent_by k m k3 = by_kind k none (extent_in m k3) none none

pub extent-is : (text : Bytes) (r : Row) → extent_of (item_of text r) ≡ extent_by (kind_of r) (r.tag % 2) r.k3
unfolding item_of extent_of
extent-is text r = go (kind_of r)
  where
    go : (k : ℕ) → extent_of
        (by_kind k
        (section_item (part text r.path r.path_len))
        (function_item (function_in text r))
        (branch_item r.k1 r.k2 r.k3 (if_given (r.tag % 2) r.count))
        (line_item r.k1 r.count (if_given (r.tag % 2) (part text r.k2 r.k3))))
        ≡ extent_by k (r.tag % 2) r.k3
    go zero = refl
    go (suc zero) = refl
    go (suc (suc zero)) = refl
    go (suc (suc (suc k))) = refl

-- what a row's start line is compared by
abbrev pub KeyOf : Row → ℕ → Type 0
KeyOf r key = (text : Bytes) → key ≡ start_key (extent_of (item_of text r))

no_function : (k m k3 : ℕ) → k ≢ function_kind → extent_by k m k3 ≡ none
no_function zero m k3 e = refl
no_function (suc zero) m k3 e = absurd (e refl)
no_function (suc (suc zero)) m k3 e = refl
no_function (suc (suc (suc k))) m k3 e = refl

module _ (r : Row) where
  pub key-none : kind_of r ≢ function_kind → (text : Bytes) → 0 ≡ start_key (extent_of (item_of text r))
  key-none e text = sym (ap start_key (extent-is text r ∙ no_function (kind_of r) (r.tag % 2) r.k3 e))

  module _ (f : kind_of r ≡ function_kind) where
    pub function-extent : (text : Bytes) → extent_of (item_of text r) ≡ extent_in (r.tag % 2) r.k3
    function-extent text = extent-is text r ∙ ap (λ (k : ℕ). extent_by k (r.tag % 2) r.k3) f

    pub key-plain : r.tag % 2 ≡ 0 → (text : Bytes) → r.k3 ≡ start_key (extent_of (item_of text r))
    key-plain e text = go r.k3 ∙ sym (ap start_key (function-extent text ∙ ap (λ (m : ℕ). extent_in m r.k3) e))
      where
        go : (n : ℕ) → n ≡ start_key (extent_in 0 n)
        go zero = refl
        go (suc n) = refl

    pub key_packed : r.tag % 2 ≢ 0 → (text : Bytes) → r.k3 % line_numbers + 1 ≡ start_key (extent_of (item_of text r))
    key_packed e text =
        let one : r.tag % 2 ≡ 1 = omega arith in
        add-one (r.k3 % line_numbers) ∙ sym (ap start_key (function-extent text ∙ ap (λ (m : ℕ). extent_in m r.k3) one))

  pub no_end : r.tag ≢ 3 → (text : Bytes) → given_in None ≡ end_of (item_of text r)
  unfolding given_in
  no_end e text = go (kind_of r) (r.tag % 2) (λ q. omega arith) r.k3 ∙ sym (ap given_end (extent-is text r))
    where
      go : (k m : ℕ) → (k ≡ function_kind → m ≡ 0) → (n : ℕ) → none ≡ given_end (extent_by k m n)
      go zero m f n = refl
      go (suc zero) zero f zero = refl
      go (suc zero) zero f (suc n) = refl
      go (suc zero) (suc m) f n = absurd (omega (arith, f refl))
      go (suc (suc zero)) m f n = refl
      go (suc (suc (suc k))) m f n = refl

  pub some_end : r.tag ≡ 3 → (text : Bytes) → given_in (Some (r.k3 / line_numbers)) ≡ end_of (item_of text r)
  unfolding given_in item_of extent_of
  some_end e text = rw e

-- ---- rows of FNDA

calls_by : (k m n : ℕ) (p : Bytes) (f : Function) (l b h : ℕ) (t : Option ℕ) (x y : ℕ) (z : Option Bytes) → f.extent ≡ extent_in m n
    → is_calls (by_kind k (section_item p) (function_item f) (branch_item l b h t) (line_item x y z)) ≡ by_kind k false (no_extent (extent_in m n)) false false
unfolding is_calls
calls_by zero m n p f l b h t x y z e = refl
calls_by (suc zero) m n p f l b h t x y z e = ap no_extent e
calls_by (suc (suc zero)) m n p f l b h t x y z e = refl
calls_by (suc (suc (suc k))) m n p f l b h t x y z e = refl

calls_is : (text : Bytes) (r : Row) → is_calls (item_of text r) ≡ by_kind (kind_of r) false (no_extent (extent_in (r.tag % 2) r.k3)) false false
unfolding item_of
calls_is text r = calls_by (kind_of r) (r.tag % 2) r.k3 _ (function_in text r) _ _ _ _ _ _ _ refl

pub calls-function : (text : Bytes) (r : Row) → is_calls (item_of text r) ≡ true → kind_of r ≡ function_kind
calls-function text r q = go (kind_of r) (sym (calls_is text r) ∙ q)
  where
    go : (k : ℕ) → by_kind k false (no_extent (extent_in (r.tag % 2) r.k3)) false false ≡ true → k ≡ function_kind
    go zero e = impossible cc
    go (suc zero) e = refl
    go (suc (suc zero)) e = impossible cc
    go (suc (suc (suc k))) e = impossible cc

module _ (r : Row) where
  pub calls-plain : r.tag ≡ 2 → (text : Bytes) → eqb r.k3 0 ≡ is_calls (item_of text r)
  calls-plain e text = go r.k3 ∙ sym (calls_is text r ∙ ap (λ (t : ℕ). by_kind (t / 2) false (no_extent (extent_in (t % 2) r.k3)) false false) e)
    where
      go : (n : ℕ) → eqb n 0 ≡ no_extent (extent_in 0 n)
      go zero = refl
      go (suc n) = ap compare_is_eq (compare.suc-zero n)

  pub calls_never : r.tag ≢ 2 → (text : Bytes) → false ≡ is_calls (item_of text r)
  calls_never e text = go (kind_of r) (r.tag % 2) (λ q. omega arith) ∙ sym (calls_is text r)
    where
      go : (k m : ℕ) → (k ≡ function_kind → m ≢ 0) → false ≡ by_kind k false (no_extent (extent_in m r.k3)) false false
      go zero m f = refl
      go (suc zero) zero f = absurd (f refl refl)
      go (suc zero) (suc m) f = refl
      go (suc (suc zero)) m f = refl
      go (suc (suc (suc k))) m f = refl

-- a row that has a start line is a function
module _ (text : Bytes) (r : Row) (start : ℕ) (is : start_key (extent_of (item_of text r)) ≡ suc start) where
  pub started_kind : kind_of r ≡ function_kind
  started_kind = go (kind_of r) (ap start_key (sym (extent-is text r)) ∙ is)
    where
      go : (k : ℕ) → start_key (extent_by k (r.tag % 2) r.k3) ≡ suc start → k ≡ function_kind
      go zero e = absurd (omega arith)
      go (suc zero) e = refl
      go (suc (suc zero)) e = absurd (omega arith)
      go (suc (suc (suc k))) e = absurd (omega arith)

  pub started_item : item_of text r ≡ function_item (updated (function_in text r) (some (extent_at start (end_of (item_of text r)))) r.count)
  started_item =
      function-item text r started_kind
      ∙ ap (λ (x : Option Extent). function_item (updated (function_in text r) x r.count))
      (sym (function-extent r started_kind text) ∙ whole (extent_of (item_of text r)) is)
    where
      whole : (x : Option Extent) → start_key x ≡ suc start → x ≡ some (extent_at start (given_end x))
      whole none e = absurd (omega arith)
      whole (some x) e = let q : x.start ≡ start = omega arith in ap (λ (s : ℕ). some (extent_at s x.end)) q

pub calls-made : {r : Row} (p : Part) (count : ℕ) → r ≡ item_row 2 p.start p.len 0 count
    → Makes r (λ text. function_item (function_of (part_in text p) none count)) (λ text. PartInside text p)
unfolding item_of
calls-made p count e = rw e (record { is = λ text. refl; inner = λ text h. omega arith })

module _ (line block branch : ℕ) {r : Row} {taken : LentOption ℕ} where
  pub taken_made : (count : ℕ) → taken ≡ Some count → r ≡ item_row 5 line block branch count
      → Makes r (λ text. branch_item line block branch (given_in taken)) (λ text. Unit {0})
  unfolding item_of given_in
  taken_made count f e = rw (e, f) (record { is = λ text. refl; inner = λ text h. omega arith })

  pub untaken_made : taken ≡ None → r ≡ item_row 4 line block branch 0
      → Makes r (λ text. branch_item line block branch (given_in taken)) (λ text. Unit {0})
  unfolding item_of given_in
  untaken_made f e = rw (e, f) (record { is = λ text. refl; inner = λ text h. omega arith })

module _ (line count : ℕ) {r : Row} {checksum : LentOption Part} where
  pub checksum-made : (p : Part) → checksum ≡ Some p → r ≡ item_row 7 line p.start p.len count
      → Makes r (λ text. line_item line count (checksum_part text checksum)) (λ text. ChecksumInside text checksum)
  unfolding item_of
  checksum-made p f e = rw (e, f) (record { is = λ text. refl; inner = λ text h. omega arith })

  pub line_made : checksum ≡ None → r ≡ item_row 6 line 0 0 count
      → Makes r (λ text. line_item line count (checksum_part text checksum)) (λ text. ChecksumInside text checksum)
  unfolding item_of
  line_made f e = rw (e, f) (record { is = λ text. refl; inner = λ text h. omega arith })
