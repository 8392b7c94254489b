-- Lists of inserts, and queries after them. Assumes nothing.
use Prim.Native.Nat.{ℕ, suc, ◌≤◌, ◌<◌, ◌-◌, min, max}
use native.Mathlib.Omega.{arith}
use mathlib.Core.Path.{◌≡◌, refl, sym, ap, ◌∙◌}
use mathlib.Core.Logic.{◌↔◌, ◌⊎◌, inl, inr}
use mathlib.Core.Bool.{Bool, true, false, ◌&&◌, ◌||◌, true≢false, or_assoc, or-false}
use mathlib.Core.List.Memᴰ.{head as here}
use mathlib.Core.List.Memᴰ.{tail as there}
use mathlib.Core.List.{List, [], ◌∷◌, ◌++◌, Memᴰ as Member}
use lib.Dec.{leb, ltb}
use lib.ListN.{length, take, replicate, length-append, length-take}
use lib.Seq.{take_at}
use borrow.Author.Tests.{le-leb, leb-true, leb-false, lt-ltb, ltb-true, ltb-false}
use Rattle.ordmap.proofs.Results.{accepted_inj, not_accepted}
use Rattle.model.specs.declared.Fault.TheVariants.{RangesFull, MalformedRanges}
use Rattle.model.specs.declared.Range.{Range}
use Rattle.std.specs.Prelude.{if◌then◌else◌}
use Rattle.model.specs.Lists.{any}
use Rattle.model.specs.Answer.{Answer, accepted, refuse}
use Rattle.model.specs.Ranges.{join_into, insert_range, insert_call, slice_after, holds, ascending, well_formed_ranges, query_call}
use Rattle.model.proofs.ListLaws.{and_left, and_right}
use Rattle.cutting.specs.Inserts.{insert_all, Shares, Inserts, no_more, one_more, Queries}

-- ---- a range asked for

abbrev meets : ℕ → ℕ → Range → Bool
meets s e r = leb r.start e && leb s r.end

abbrev counts : ℕ → ℕ → Range → Bool
counts s e r = leb r.start r.end && meets s e r

bool_same : (a b : Bool) → (a ≡ true → b ≡ true) → (b ≡ true → a ≡ true) → a ≡ b
bool_same true b f g = sym (f refl)
bool_same false true f g = absurd (true≢false (sym (g refl)))
bool_same false false f g = refl

and_both : {a b : Bool} → a ≡ true → b ≡ true → (a && b) ≡ true
and_both p q = rw (p, q)

or_left : {a : Bool} (b : Bool) → a ≡ true → (a || b) ≡ true
or_left b p = rw p

or_right : (a : Bool) {b : Bool} → b ≡ true → (a || b) ≡ true
or_right true q = refl
or_right false q = q

or_cases : (a b : Bool) → (a || b) ≡ true → (a ≡ true) ⊎ (b ≡ true)
or_cases true b p = inl refl
or_cases false b p = inr p

truth : (a : Bool) → (a ≡ true) ⊎ (a ≡ false)
truth true = inl refl
truth false = inr refl

or_swap : (a b c : Bool) → (a || (b || c)) ≡ (b || (a || c))
or_swap true true c = refl
or_swap true false c = refl
or_swap false true c = refl
or_swap false false c = refl

meets_is : (s e : ℕ) (r : Range) → meets s e r ≡ true → (r.start ≤ e) × (s ≤ r.end)
meets_is s e r h =
    (leb-true r.start e (and_left (leb r.start e) (leb s r.end) h), leb-true s r.end (and_right (leb r.start e) (leb s r.end) h))

is_meets : (s e : ℕ) (r : Range) → r.start ≤ e → s ≤ r.end → meets s e r ≡ true
is_meets s e r p q = and_both (le-leb r.start e p) (le-leb s r.end q)

abbrev both : Range → Range → Range
both r x = record { start = min r.start x.start; end = max r.end x.end }

-- two ranges that overlap or are neighbours hold together what each holds
both_meets : (s e : ℕ) → s ≤ e → (r x : Range) → r.start ≤ suc x.end → x.start ≤ suc r.end
    → meets s e (both r x) ≡ (meets s e r || meets s e x)
both_meets s e h r x p q = bool_same (meets s e (both r x)) (meets s e r || meets s e x) to from
  where
    either : (leb r.start e ≡ true) ⊎ (leb r.start e ≡ false) → (leb s r.end ≡ true) ⊎ (leb s r.end ≡ false)
        → (min r.start x.start ≤ e) × (s ≤ max r.end x.end) → (meets s e r || meets s e x) ≡ true
    either (inl a) (inl b) m = or_left (meets s e x) (and_both a b)
    either (inl a) (inr b) m =
        let c : r.end < s = leb-false s r.end b in
        or_right (meets s e r) (is_meets s e x (omega arith) (omega (arith, m.1)))
    either (inr a) b m =
        let c : e < r.start = leb-false r.start e a in
        or_right (meets s e r) (is_meets s e x (omega (arith, m.0)) (omega arith))

    to : meets s e (both r x) ≡ true → (meets s e r || meets s e x) ≡ true
    to m = either (truth (leb r.start e)) (truth (leb s r.end)) (meets_is s e (both r x) m)

    from : (meets s e r || meets s e x) ≡ true → meets s e (both r x) ≡ true
    from m = go (or_cases (meets s e r) (meets s e x) m)
      where
        go : (meets s e r ≡ true) ⊎ (meets s e x ≡ true) → meets s e (both r x) ≡ true
        go (inl k) = let (a, b) = meets_is s e r k in is_meets s e (both r x) (omega arith) (omega arith)
        go (inr k) = let (a, b) = meets_is s e x k in is_meets s e (both r x) (omega arith) (omega arith)

-- ---- a query after an insert

join_holds : (s e : ℕ) → s ≤ e → (r : Range) (xs : List Range) → holds (join_into r xs) s e ≡ (meets s e r || holds xs s e)
unfolding join_into holds any
join_holds s e h r [] = refl
join_holds s e h r (x ∷ xs) =
    go (ltb (suc x.end) r.start) (ltb (suc r.end) x.start) refl refl (join_holds s e h r xs) (join_holds s e h (both r x) xs)
  where
    go : (a b : Bool) → ltb (suc x.end) r.start ≡ a → ltb (suc r.end) x.start ≡ b
        → holds (join_into r xs) s e ≡ (meets s e r || holds xs s e) → holds (join_into (both r x) xs) s e ≡ (meets s e (both r x) || holds xs s e)
        → holds (if a then x ∷ join_into r xs else if b then r ∷ x ∷ xs else join_into (both r x) xs) s e ≡ (meets s e r || (meets s e x || holds xs s e))
    go true b p q i j = ap (λ (t : Bool). meets s e x || t) i ∙ or_swap (meets s e x) (meets s e r) (holds xs s e)
    go false true p q i j = refl
    go false false p q i j =
        j
        ∙ ap (λ (t : Bool). t || holds xs s e) (both_meets s e h r x (ltb-false (suc x.end) r.start p) (ltb-false (suc r.end) x.start q))
        ∙ or_assoc (meets s e r) (meets s e x) (holds xs s e)

insert-holds : (s e : ℕ) → s ≤ e → (r : Range) (xs : List Range) → holds (insert_range r xs) s e ≡ (counts s e r || holds xs s e)
unfolding insert_range
insert-holds s e h r xs = go (leb r.start r.end)
  where
    go : (a : Bool) → holds (if a then join_into r xs else xs) s e ≡ ((a && meets s e r) || holds xs s e)
    go true = join_holds s e h r xs
    go false = refl

all-holds : (s e : ℕ) → s ≤ e → (rs xs : List Range) → holds (insert_all rs xs) s e ≡ (any (counts s e) rs || holds xs s e)
unfolding insert_all any
all-holds s e h [] xs = refl
all-holds s e h (r ∷ rs) xs =
    all-holds s e h rs (insert_range r xs)
    ∙ ap (λ (t : Bool). any (counts s e) rs || t) (insert-holds s e h r xs)
    ∙ or_swap (any (counts s e) rs) (counts s e r) (holds xs s e)
    ∙ sym (or_assoc (counts s e r) (any (counts s e) rs) (holds xs s e))

-- ---- lines

counts_shares : (s e : ℕ) → s ≤ e → (r : Range) → counts s e r ≡ true → Shares s e r
counts_shares s e h r c =
    let p : r.start ≤ r.end = leb-true r.start r.end (and_left (leb r.start r.end) (meets s e r) c) in
    let (a, b) = meets_is s e r (and_right (leb r.start r.end) (meets s e r) c) in
    record { ordered = p; line = max s r.start; in_range = (omega arith, omega arith); in_query = (omega arith, omega arith) }

shares_counts : (s e : ℕ) (r : Range) → Shares s e r → counts s e r ≡ true
shares_counts s e r S =
    and_both (le-leb r.start r.end S.ordered)
    (is_meets s e r (omega (arith, S.in_range.0, S.in_query.1)) (omega (arith, S.in_query.0, S.in_range.1)))

any_member : {A : Type 0} (test : A → Bool) (l : List A) → any test l ≡ true → (a : A) × Member a l × (test a ≡ true)
unfolding any
any_member test [] p = absurd (true≢false (sym p))
any_member test (x ∷ xs) p = go (test x) refl p (λ q. any_member test xs q)
  where
    go : (b : Bool) → test x ≡ b → (b || any test xs) ≡ true → (any test xs ≡ true → (a : _) × Member a xs × (test a ≡ true))
        → (a : _) × Member a (x ∷ xs) × (test a ≡ true)
    go true e q ih = (x, here refl, e)
    go false e q ih = let (a, m, t) = ih q in (a, there m, t)

member_any : {A : Type 0} (test : A → Bool) (l : List A) {a : A} → Member a l → test a ≡ true → any test l ≡ true
unfolding any
member_any {A = A} test [] {a = a} x'' t = elim x'' [ ]
member_any test (x ∷ xs) (here h) t = or_left (any test xs) (ap test (sym h) ∙ t)
member_any test (x ∷ xs) (there m) t = or_right (test x) (member_any test xs m t)

-- a query of what was inserted
ranges_hold : (rs : List Range) (s e : ℕ) → s ≤ e → (holds (insert_all rs []) s e ≡ true) ↔ ((r : Range) × Member r rs × Shares s e r)
unfolding holds any
ranges_hold rs s e h = (to, from)
  where
    is : holds (insert_all rs []) s e ≡ any (counts s e) rs
    is = all-holds s e h rs [] ∙ or-false (any (counts s e) rs)

    to : holds (insert_all rs []) s e ≡ true → (r : Range) × Member r rs × Shares s e r
    to p = let (r, m, c) = any_member (counts s e) rs (sym is ∙ p) in (r, m, counts_shares s e h r c)

    from : (r : Range) × Member r rs × Shares s e r → holds (insert_all rs []) s e ≡ true
    from (r, m, S) = is ∙ member_any (counts s e) rs m (shares_counts s e r S)

-- ---- the ranges kept are well formed

-- each has start at most end and begins at `least` or past it, with a gap to the next
abbrev Rises : ℕ → List Range → Type 0
Rises least [] = Unit {0}
Rises least (x ∷ xs) = (least ≤ x.start) × (x.start ≤ x.end) × Rises (suc (suc x.end)) xs

rises_lower : (m n : ℕ) (xs : List Range) → m ≤ n → Rises n xs → Rises m xs
rises_lower m n [] h r = tt
rises_lower m n (x ∷ xs) h (a, b, c) = (omega arith, b, c)

ascending-rises : (least : ℕ) (x : Range) (xs : List Range) → least ≤ x.start → ascending (x ∷ xs) ≡ true → Rises least (x ∷ xs)
unfolding ascending
ascending-rises least x [] h a = (h, leb-true x.start x.end a, tt)
ascending-rises least x (y ∷ ys) h a =
    let p : (leb x.start x.end && ltb (suc x.end) y.start) ≡ true =
    and_left (leb x.start x.end && ltb (suc x.end) y.start) (ascending (y ∷ ys)) a in (
      h,
      leb-true x.start x.end (and_left (leb x.start x.end) (ltb (suc x.end) y.start) p),
      ascending-rises (suc (suc x.end)) y ys (ltb-true (suc x.end) y.start (and_right (leb x.start x.end) (ltb (suc x.end) y.start) p))
          (and_right (leb x.start x.end && ltb (suc x.end) y.start) (ascending (y ∷ ys)) a),
    )

rises-ascending : (least : ℕ) (xs : List Range) → Rises least xs → ascending xs ≡ true
unfolding ascending
rises-ascending least [] r = refl
rises-ascending least (x ∷ []) (a, b, c) = le-leb x.start x.end b
rises-ascending least (x ∷ y ∷ ys) (a, b, c) =
    and_both (and_both (le-leb x.start x.end b) (lt-ltb (suc x.end) y.start c.0)) (rises-ascending (suc (suc x.end)) (y ∷ ys) c)

join_rises : (least : ℕ) (r : Range) (xs : List Range) → least ≤ r.start → r.start ≤ r.end → Rises least xs → Rises least (join_into r xs)
unfolding join_into
join_rises least r [] h p t = (h, p, tt)
join_rises least r (x ∷ xs) h p (a, b, c) =
    go (ltb (suc x.end) r.start) (ltb (suc r.end) x.start) refl refl
    (λ k. join_rises (suc (suc x.end)) r xs k p c)
    (join_rises least (both r x) xs (omega arith) (omega arith) (rises_lower least (suc (suc x.end)) xs (omega arith) c))
  where
    go : (u v : Bool) → ltb (suc x.end) r.start ≡ u → ltb (suc r.end) x.start ≡ v
        → (suc (suc x.end) ≤ r.start → Rises (suc (suc x.end)) (join_into r xs)) → Rises least (join_into (both r x) xs)
        → Rises least (if u then x ∷ join_into r xs else if v then r ∷ x ∷ xs else join_into (both r x) xs)
    go true v e f i j = (a, b, i (ltb-true (suc x.end) r.start e))
    go false true e f i j = (h, p, (ltb-true (suc r.end) x.start f, b, c))
    go false false e f i j = j

insert-ascending : (r : Range) (xs : List Range) → ascending xs ≡ true → ascending (insert_range r xs) ≡ true
unfolding insert_range
insert-ascending r xs a = go (leb r.start r.end) refl
  where
    rises : (l : List Range) → ascending l ≡ true → Rises 0 l
    rises [] q = tt
    rises (x ∷ l) q = ascending-rises 0 x l (omega arith) q

    go : (t : Bool) → leb r.start r.end ≡ t → ascending (if t then join_into r xs else xs) ≡ true
    go true e = rises-ascending 0 (join_into r xs) (join_rises 0 r xs (omega arith) (leb-true r.start r.end e) (rises xs a))
    go false e = a

-- ---- the calls

-- an insert that was accepted
accepted-insert : (slice : List Range) (used : ℕ) (r : Range) (ranges : List Range) → insert_call slice used r ≡ accepted ranges
    → (ranges ≡ insert_range r (take used slice)) × (well_formed_ranges slice used ≡ true)
unfolding insert_call
accepted-insert slice used r ranges p = go (well_formed_ranges slice used) refl p
  where
    new : List Range
    new = insert_range r (take used slice)

    go : (t : Bool) → well_formed_ranges slice used ≡ t
        → ◌≡◌ {A = Answer (List Range)}
        (if t then (if leb (length new) (length slice) then accepted new else refuse RangesFull) else refuse MalformedRanges) (accepted ranges)
        → (ranges ≡ new) × (well_formed_ranges slice used ≡ true)
    go true e q = (fits (leb (length new) (length slice)) q, e)
      where
        fits : (u : Bool) → ◌≡◌ {A = Answer (List Range)} (if u then accepted new else refuse RangesFull) (accepted ranges) → ranges ≡ new
        fits true q = sym (accepted_inj q)
        fits false q = absurd (not_accepted q)
    go false e q = absurd (not_accepted q)

-- the pairs used after it
after-insert : (slice ranges : List Range) → take (length ranges) (slice_after (accepted ranges) slice) ≡ ranges
unfolding slice_after
after-insert slice ranges = take_at ranges (replicate (length slice - length ranges) (record { start = 0; end = 0 })) (length ranges) refl

after_formed : (slice ranges : List Range) → ascending ranges ≡ true → well_formed_ranges (slice_after (accepted ranges) slice) (length ranges) ≡ true
unfolding well_formed_ranges slice_after
after_formed slice ranges a =
    and_both
    (le-leb (length ranges) (length (ranges ++ replicate (length slice - length ranges) (record { start = 0; end = 0 })))
    (omega (arith, length-append ranges (replicate (length slice - length ranges) (record { start = 0; end = 0 })))))
    (ap ascending (after-insert slice ranges) ∙ a)

formed_ascending : (slice : List Range) (used : ℕ) → well_formed_ranges slice used ≡ true → ascending (take used slice) ≡ true
unfolding well_formed_ranges
formed_ascending slice used w = and_right (leb used (length slice)) (ascending (take used slice)) w

inserts-kept : {slice last : List Range} {used n : ℕ} {rs : List Range} → Inserts slice used rs last n → well_formed_ranges slice used ≡ true
    → (take n last ≡ insert_all rs (take used slice)) × (well_formed_ranges last n ≡ true)
unfolding insert_all
inserts-kept no_more w = (refl, w)
inserts-kept (one_more {slice = slice} {last = last} {used = used} {n = n} {r = r} {rs = rs} {ranges = ranges} p I) w =
    let (e, f) = accepted-insert slice used r ranges p in
    let a : ascending ranges ≡ true = ap ascending e ∙ insert-ascending r (take used slice) (formed_ascending slice used w) in
    let (g, h) = inserts-kept I (after_formed slice ranges a) in
    (g ∙ ap (insert_all rs) (after-insert slice ranges ∙ e), h)

none-used : (slice : List Range) → well_formed_ranges slice 0 ≡ true
unfolding well_formed_ranges ascending
none-used slice = and_both (le-leb 0 (length slice) (omega arith)) refl

formed_used : (slice : List Range) (used : ℕ) → well_formed_ranges slice used ≡ true → used ≤ length slice
unfolding well_formed_ranges
formed_used slice used w = leb-true used (length slice) (and_left (leb used (length slice)) (ascending (take used slice)) w)

module _ (slice last rs : List Range) (n : ℕ) (I : Inserts slice 0 rs last n) where
  calls_formed : (n ≡ length (insert_all rs [])) × (well_formed_ranges last n ≡ true)
  calls_formed =
      let (e, w) = inserts-kept I (none-used slice) in
      (omega (arith, length-take n last, formed_used last n w, ap length e), w)

  calls_answer : (s e : ℕ) → query_call last n s e ≡ accepted (holds (insert_all rs []) s e)
  unfolding query_call
  calls_answer s e = let (p, w) = inserts-kept I (none-used slice) in rw (w, p)

  calls_say_yes : (s e : ℕ) → s ≤ e → (query_call last n s e ≡ accepted true) ↔ ((r : Range) × Member r rs × Shares s e r)
  calls_say_yes s e h =
      let (to, from) = ranges_hold rs s e h in
      ((λ p. to (accepted_inj (sym (calls_answer s e) ∙ p))), (λ x. calls_answer s e ∙ ap accepted (from x)))

-- INSERTS AND QUERIES
pub queries : Queries
queries =
    record {
      says_yes = λ slice last rs n s e I h. calls_say_yes slice last rs n I s e h;
      well_formed_lem = calls_formed;
      answers = λ slice last rs n s e I. calls_answer slice last rs n I s e;
      ranges_hold = ranges_hold;
    }
