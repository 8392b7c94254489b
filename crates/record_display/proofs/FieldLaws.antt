-- A record's fields: its tag, its numbers one by one, and its last field. Assumes nothing.
use Prim.Native.Nat.{ℕ, zero, suc, ◌+◌, ◌-◌, ◌^◌, ◌≤◌, ◌<◌}
use mathlib.Core.Path.{◌≡◌, refl, sym, ap, ◌∙◌}
use mathlib.Core.List.{List, [], ◌∷◌, ◌++◌, append_assoc, append-nil}
use mathlib.Core.Bool.{Bool, true, false}
use native.Mathlib.Omega.{arith}
use lib.Dec.{leb}
use lib.ListN.{length, take, drop, get_or, length-append, length-drop, length-map}
use lib.Seq.{length-take-le}
use mir.Val.{Fits}
use mir.Syntax.{w64}
use borrow.Author.Tests.{leb-true, leb-false, le-leb, lt-leb, eq-eqb, ne_eqb}
use Rattle.model.specs.declared.Kind.{Kind}
use Rattle.model.specs.declared.Part.{Part}
use Rattle.model.specs.Bytes.{Bytes, ascii}
use Rattle.model.specs.Number.{decimal}
use Rattle.model.specs.Output.{output_after}
use Rattle.format.specs.Put.{over}
use Rattle.scan.proofs.ByteLaws.{drop-end, drop-next}
use Rattle.record_display.specs.Fields.{separated, number_texts, last_len, last_field, inside, sep_after, head_of}
use Rattle.record_display.specs.declared.fields.Last.{Last}
use Rattle.record_display.specs.declared.fields.Last.TheVariants as L
use Rattle.format.proofs.OverLaws.{lent_size, over-more, to_end}

-- the last field, known by its variant
module _ (last : Last) where
  pub nothing_len : last ≡ L.Nothing → 0 ≡ last_len last
  unfolding last_len
  nothing_len e = rw e

  pub nothing_out : (sep : ℕ) (t out : Bytes) → last ≡ L.Nothing → out ≡ over (separated sep (last_field t last)) out
  unfolding separated output_after last_field
  nothing_out sep t out e = rw e

  pub dash_len : (r : ℕ) → last ≡ L.Dash → r ≡ 2 → r ≡ last_len last
  unfolding last_len
  dash_len r e h = rw e h

  pub dash_room : (n : ℕ) → last ≡ L.Dash → last_len last ≤ n → 2 ≤ n
  unfolding last_len
  dash_room n e h = rw e at h

  pub dash_out : (sep : ℕ) (t old out : Bytes) → last ≡ L.Dash → out ≡ over (sep ∷ ascii "-") old → out ≡ over (separated sep (last_field t last)) old
  unfolding separated last_field
  dash_out sep t old out e h = rw e h

module _ (last : Last) (p : Part) (is : last ≡ L.Text p) where
  pub text-fits : last_len last ≤ 9223372036854775808 → Fits w64 (1 + p.len)
  unfolding last_len
  text-fits h = let k : 1 + p.len ≤ 9223372036854775808 = rw is at h in record { fits = omega arith }

  pub text_len : 1 + p.len ≡ last_len last
  unfolding last_len
  text_len = rw is

  module _ (n : ℕ) (within : inside n last ≡ true) where
    pub end-within : p.start + p.len ≤ n
    unfolding inside
    end-within = leb-true (p.start + p.len) n (rw is at within)

    pub end_fits : n < 2 ^ 64 → Fits w64 (p.start + p.len)
    end_fits h = record { fits = omega (arith, end-within) }

  module _ (t : Bytes) (within : inside (length t) last ≡ true) where
    same-part : take (p.start + p.len - p.start) (drop p.start t) ≡ take p.len (drop p.start t)
    same-part = let z : p.start + p.len - p.start ≡ p.len = omega arith in rw z

    long : length (take p.len (drop p.start t)) ≡ p.len
    long = length-take-le p.len (drop p.start t) (simp length-drop (omega (arith, end-within (length t) within)))

    pub text-room : (n : ℕ) → last_len last ≤ n → 1 + length (take (p.start + p.len - p.start) (drop p.start t)) ≤ n
    unfolding last_len
    text-room n h = let k : 1 + p.len ≤ n = rw is at h in rw (same-part, long) k

    pub text-length : (r : ℕ) → r ≡ 1 + length (take (p.start + p.len - p.start) (drop p.start t)) → r ≡ last_len last
    unfolding last_len
    text-length r h = rw is (rw (same-part, long) at h)

    pub text_out : (sep : ℕ) (old out : Bytes) → out ≡ over (sep ∷ take (p.start + p.len - p.start) (drop p.start t)) old → out ≡ over (separated sep (last_field t last)) old
    unfolding separated last_field
    text_out sep old out h = rw (is, append-nil) (rw same-part at h)

-- a record's numbers, one by one
get_d_shown : (numbers : List ℕ) (count i : ℕ) → i < count → count ≤ length numbers → get_or (number_texts numbers count) i [] ≡ decimal (get_or numbers i 0)
unfolding number_texts
get_d_shown [] count i h l = absurd (omega arith)
get_d_shown (x ∷ ns) zero i h l = absurd (omega arith)
get_d_shown (x ∷ ns) (suc count) zero h l = refl
get_d_shown (x ∷ ns) (suc count) (suc i) h l = get_d_shown ns count i (omega arith) (omega arith)

length_shown : (numbers : List ℕ) (count : ℕ) → count ≤ length numbers → length (number_texts numbers count) ≡ count
unfolding number_texts
length_shown numbers count h = length-map (take count numbers) decimal ∙ length-take-le count numbers h

length-separated : (a b : ℕ) (fs : List Bytes) → length (separated a fs) ≡ length (separated b fs)
unfolding separated
length-separated a b [] = refl
length-separated a b (f ∷ fs) = refl

separated-next : (sep : ℕ) (fs : List Bytes) (f : Bytes) (i : ℕ) → i < length fs → get_or fs i [] ≡ f → separated sep (drop i fs) ≡ sep ∷ f ++ separated 44 (drop (i + 1) fs)
unfolding separated
separated-next sep fs f i h e = rw (drop-next [] fs i h, e)

module _ (numbers : List ℕ) (count : ℕ) (few : count ≤ 4) (four : length numbers ≡ 4) where
  next_field : (sep i : ℕ) → i < count → separated sep (drop i (number_texts numbers count)) ≡ sep ∷ decimal (get_or numbers i 0) ++ separated 44 (drop (i + 1) (number_texts numbers count))
  next_field sep i h =
      separated-next sep (number_texts numbers count) (decimal (get_or numbers i 0)) i
      (rw (length_shown numbers count (omega arith)) h)
      (get_d_shown numbers count i h (omega arith))

  past_fields : (sep i : ℕ) → count ≤ i → separated sep (drop i (number_texts numbers count)) ≡ []
  unfolding separated
  past_fields sep i h = rw (drop-end (number_texts numbers count) i (rw (length_shown numbers count (omega arith)) h))

  -- their length so far
  pub len_next : (n i d : ℕ) → n + length (separated 58 (drop i (number_texts numbers count))) ≡ length (separated 58 (number_texts numbers count)) → i < count → d ≡ length (decimal (get_or numbers i 0)) → n + 1 + d + length (separated 58 (drop (i + 1) (number_texts numbers count))) ≡ length (separated 58 (number_texts numbers count))
  len_next n i d left h e =
      let more = length-append (decimal (get_or numbers i 0)) (separated 44 (drop (i + 1) (number_texts numbers count))) in
      let same = length-separated 44 58 (drop (i + 1) (number_texts numbers count)) in
      omega (arith, rw (next_field 58 i h) at left, more, same)

  pub len_end : (n i : ℕ) → n + length (separated 58 (drop i (number_texts numbers count))) ≡ length (separated 58 (number_texts numbers count)) → count ≤ i → n ≡ length (separated 58 (number_texts numbers count))
  len_end n i left h = omega (arith, rw (past_fields 58 i h) at left)

-- some fields are written, and the rest is left
pub record Putting (fs : List Bytes) (old out : Bytes) (at sep i : ℕ) : Type 0 where
  pub done : Bytes
  pub held : out ≡ over done old
  pub up_to : at ≡ length done
  pub left : done ++ separated sep (drop i fs) ≡ separated 58 fs
  pub size : length out ≡ length old

pub putting_start : (fs : List Bytes) (old : Bytes) → Putting fs old old 0 58 0
unfolding output_after
putting_start fs old = record { done = []; held = refl; up_to = refl; left = refl; size = refl }

module _ (numbers : List ℕ) (count : ℕ) (old out : Bytes) (at sep i : ℕ) (w : Putting (number_texts numbers count) old out at sep i) (few : count ≤ 4) (four : length numbers ≡ 4) where
  total : length w.done + length (separated sep (drop i (number_texts numbers count))) ≡ length (separated 58 (number_texts numbers count))
  total = sym (length-append w.done (separated sep (drop i (number_texts numbers count)))) ∙ ap length w.left

  pub putting_at : length (separated 58 (number_texts numbers count)) ≤ length old → at ≤ length out
  putting_at h = omega (arith, total, w.up_to, w.size)

  pub putting_room : i < count → length (separated 58 (number_texts numbers count)) ≤ length old → 1 + length (decimal (get_or numbers i 0)) ≤ length (take (length out - at) (drop at out))
  putting_room h room =
      rw (to_end out at, length-drop)
      (omega (arith, rw (next_field numbers count few four sep i h) at total, length-append (decimal (get_or numbers i 0)) (separated 44 (drop (i + 1) (number_texts numbers count))), w.up_to, w.size))

  pub putting_fits : (n : ℕ) → i < count → length (separated 58 (number_texts numbers count)) ≤ length old → n ≡ 1 + length (decimal (get_or numbers i 0)) → length old < 2 ^ 64 → Fits w64 (at + n)
  putting_fits n h room e k =
      record { fits = omega (arith, rw (to_end out at, length-drop) at (putting_room h room), putting_at room, w.size) }

  pub putting_more : (ys : Bytes) (n : ℕ) → i < count → length (separated 58 (number_texts numbers count)) ≤ length old → n ≡ 1 + length (decimal (get_or numbers i 0)) → ys ≡ over (sep ∷ decimal (get_or numbers i 0)) (take (length out - at) (drop at out)) → length ys ≡ length (take (length out - at) (drop at out)) → Putting (number_texts numbers count) old (take at out ++ (ys ++ drop (length out - at) (drop at out))) (at + n) 44 (i + 1)
  putting_more ys n h room e y k =
      record {
        done = w.done ++ sep ∷ decimal (get_or numbers i 0);
        held = over-more old out w.done ys (sep ∷ decimal (get_or numbers i 0)) at w.held w.up_to y;
        up_to = omega (arith, w.up_to, length-append w.done (sep ∷ decimal (get_or numbers i 0)));
        left = append_assoc w.done (sep ∷ decimal (get_or numbers i 0)) _ ∙ (rw (next_field numbers count few four sep i h) at w.left);
        size = lent_size out ys at k (putting_at room) ∙ w.size;
      }

  pub putting_len : count ≤ i → at ≡ length (separated 58 (number_texts numbers count))
  putting_len h = omega (arith, rw (past_fields numbers count few four sep i h) at total, w.up_to)

  pub putting_end : count ≤ i → out ≡ over (separated 58 (number_texts numbers count)) old
  putting_end h = w.held ∙ ap (λ (d : Bytes). over d old) (sym (append-nil w.done) ∙ (rw (past_fields numbers count few four sep i h) at w.left))

-- the tag
pub head_is : (tag : Kind → Bytes) (kind : Kind) (count : ℕ) (numbers : List ℕ) → head_of tag kind numbers count ≡ tag kind ++ separated 58 (number_texts numbers count)
unfolding head_of
head_is tag kind count numbers = refl

pub head_first : (tag : Kind → Bytes) (kind : Kind) (count n : ℕ) (numbers : List ℕ) → length (head_of tag kind numbers count) ≤ n → length (tag kind) ≤ n
unfolding head_of
head_first tag kind count n numbers h = omega (arith, length-append (tag kind) (separated 58 (number_texts numbers count)))

pub head_len : (tag : Kind → Bytes) (kind : Kind) (count : ℕ) (numbers : List ℕ) (a b : ℕ) → a ≡ length (tag kind) → b ≡ length (separated 58 (number_texts numbers count)) → a + b ≡ length (head_of tag kind numbers count)
unfolding head_of
head_len tag kind count numbers a b e f = rw (e, f, length-append)

pub head_fits : (tag : Kind → Bytes) (kind : Kind) (count : ℕ) (numbers : List ℕ) (old : Bytes) (at n : ℕ) → at ≡ length (tag kind) → n ≡ length (separated 58 (number_texts numbers count)) → length (head_of tag kind numbers count) ≤ length old → length old < 2 ^ 64 → Fits w64 (at + n)
unfolding head_of
head_fits tag kind count numbers old at n e f room h = record { fits = omega (arith, e, f, room, h, length-append (tag kind) (separated 58 (number_texts numbers count))) }

-- the test that a last field lies inside
pub inside_nothing : (last : Last) (n : ℕ) → last ≡ L.Nothing → true ≡ inside n last
unfolding inside
inside_nothing last n e = rw e

pub inside_dash : (last : Last) (n : ℕ) → last ≡ L.Dash → true ≡ inside n last
unfolding inside
inside_dash last n e = rw e

pub inside_past : (last : Last) (p : Part) (n : ℕ) → last ≡ L.Text p → n < p.start → false ≡ inside n last
unfolding inside
inside_past last p n e h = rw (e, lt-leb (p.start + p.len) n (omega arith))

pub inside-text : (last : Last) (p : Part) (n : ℕ) → last ≡ L.Text p → p.start ≤ n → leb p.len (n - p.start) ≡ inside n last
unfolding inside
inside-text last p n e h = rw e (go (leb p.len (n - p.start)) refl)
  where
    go : (d : Bool) → leb p.len (n - p.start) ≡ d → d ≡ leb (p.start + p.len) n
    go true q = rw (le-leb (p.start + p.len) n (omega (arith, leb-true p.len (n - p.start) q)))
    go false q = rw (lt-leb (p.start + p.len) n (omega (arith, leb-false p.len (n - p.start) q)))

pub ruleset inside-laws = (inside_nothing, inside_dash, inside_past, inside-text)

pub sep_first : (count : ℕ) → count ≡ 0 → 58 ≡ sep_after count
unfolding sep_after
sep_first count e = simp (eq-eqb _ _ e)

pub sep_later : (count : ℕ) → (count ≡ 0 → ⊥) → 44 ≡ sep_after count
unfolding sep_after
sep_later count e = simp (ne_eqb _ _ e)
