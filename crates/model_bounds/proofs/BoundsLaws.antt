-- Bounds: within, reached, and exactly when they are answered. Assumes nothing.
use Prim.Native.Nat.{ℕ, ◌+◌, ◌≤◌}
use native.Mathlib.Nat.{le_refl}
use native.Mathlib.Omega.{arith}
use mathlib.Core.Path.{◌≡◌, refl, sym, ap, ◌∙◌}
use mathlib.Core.Logic.{◌↔◌}
use mathlib.Core.Bool.{Bool, true, false, ◌&&◌}
use mathlib.Core.List.Memᴰ.{head as here}
use mathlib.Core.List.Memᴰ.{tail as there}
use mathlib.Core.List.{List, [], ◌∷◌}
use lib.Dec.{leb, ltb, eqb}
use borrow.Author.Tests.{leb-false, ltb-true, lt-ltb}
use Rattle.ordmap.proofs.Results.{impossible, accepted_inj, refused_inj, not_accepted, bind-accepted}
use Rattle.ordmap.proofs.Gathered.{map_refused-accepted}
use Rattle.model.specs.declared.Kind.{Kind}
use Rattle.model.specs.declared.Refusal.{Refusal}
use Rattle.std.specs.Prelude.{if◌then◌else◌}
use Rattle.model.specs.Lists.{filter}
use Rattle.model.specs.Bytes.{Bytes}
use Rattle.model.specs.declared.Fault.TheVariants.{DifferentKeys, LeastAboveGreatest}
use Rattle.model.specs.Answer.{Answer, accepted, refused, refuse, in_text, number_of}
use Rattle.model.specs.Tags.{Lawful}
use Rattle.model.specs.Report.{Item, section_item, function_item, branch_item, line_item, Entry, Report, Key, item_key, entry_key, count_of}
use Rattle.model.specs.Reading.{read_text}
use Rattle.model.specs.Printing.{is_function, is_branch, is_line}
use Rattle.model.specs.Gather.{entry_limit, read_and_print}
use Rattle.model.specs.Valid.{Valid}
use Rattle.model.proofs.Read.{read_text-valid}
use Rattle.model_bounds.specs.declared.Hits.{Hits}
use Rattle.model_bounds.specs.declared.Bounds.{Bounds}
use Rattle.model_bounds.specs.Bounds.{items_of, hits_in, same_keys, counts_rise, hits_of, bounds, hit_bounds}
use Rattle.model_bounds.specs.Claims.{SameKeys, CountsRise, CountAbove, Between, AtMost, Within, Reached, TwoRead, BoundsClaim}
use Rattle.model_bounds.proofs.Printed.{printed-read}
use Rattle.model_totals.proofs.HitLaws.{one, hit-step}
use Rattle.model_bounds.proofs.Paired.{Paired, Rises, Any, paired_keys, paired_related, keys_paired, keys-test, test-keys, counts-test, test-counts, forget}

-- ---- hits rise with counts

hits-first : (kind : Item → Bool) (x : Entry) (xs : Report) → hits_in kind (x ∷ xs) ≡ one (kind x.item && ltb 0 (count_of x.item)) + hits_in kind xs
unfolding hits_in filter
hits-first kind x xs = hit-step (kind x.item) x.item (filter kind (items_of xs))

one-rises : (k l : Bool) (m n : ℕ) → k ≡ l → m ≤ n → one (k && ltb 0 m) ≤ one (l && ltb 0 n)
one-rises false false m n e h = omega arith
one-rises false true m n e h = impossible cc
one-rises true false m n e h = impossible cc
one-rises true true m n e h = go (ltb 0 m) refl
  where
    go : (t : Bool) → ltb 0 m ≡ t → one t ≤ one (ltb 0 n)
    go false q = omega arith
    go true q = rw (lt-ltb 0 n (omega (arith, ltb-true 0 m q))) (le_refl 1)

-- a kind that the key tells
abbrev Told : (Item → Bool) → Type 0
Told kind = (i j : Item) → item_key i ≡ item_key j → kind i ≡ kind j

abbrev first_is : ℕ → List ℕ → Bool
first_is n [] = false
first_is n (m ∷ ms) = eqb m n

line_told : Told is_line
unfolding is_line item_key
line_told i j e = is i ∙ ap (first_is 3) e ∙ sym (is j)
  where
    is : (i : Item) → is_line i ≡ first_is 3 (item_key i)
    is (section_item spelling) = refl
    is (function_item f) = refl
    is (branch_item line block branch taken) = refl
    is (line_item line count checksum) = refl

function_told : Told is_function
unfolding is_function item_key
function_told i j e = is i ∙ ap (first_is 1) e ∙ sym (is j)
  where
    is : (i : Item) → is_function i ≡ first_is 1 (item_key i)
    is (section_item spelling) = refl
    is (function_item f) = refl
    is (branch_item line block branch taken) = refl
    is (line_item line count checksum) = refl

branch_told : Told is_branch
unfolding is_branch item_key
branch_told i j e = is i ∙ ap (first_is 2) e ∙ sym (is j)
  where
    is : (i : Item) → is_branch i ≡ first_is 2 (item_key i)
    is (section_item spelling) = refl
    is (function_item f) = refl
    is (branch_item line block branch taken) = refl
    is (line_item line count checksum) = refl

item-keys : (x y : Entry) → entry_key x ≡ entry_key y → item_key x.item ≡ item_key y.item
unfolding entry_key
item-keys x y e = ap (λ (k : Key). k.1) e

hits_rise : (kind : Item → Bool) → Told kind → (a b : Report) → Paired Rises a b → hits_in kind a ≤ hits_in kind b
hits_rise kind T [] [] p = le_refl _
hits_rise kind T [] (y ∷ ys) p = absurd p
hits_rise kind T (x ∷ xs) [] p = absurd p
hits_rise kind T (x ∷ xs) (y ∷ ys) p =
    omega (
      arith,
      hits-first kind x xs,
      hits-first kind y ys,
      one-rises (kind x.item) (kind y.item) (count_of x.item) (count_of y.item) (T x.item y.item (item-keys x y p.0)) p.1,
      hits_rise kind T xs ys p.2,
    )

all_rise : (a b : Report) → Paired Rises a b → AtMost (hits_of a) (hits_of b)
all_rise a b p =
    record {
      lines_at_most = hits_rise is_line line_told a b p;
      functions_at_most = hits_rise is_function function_told a b p;
      branches_at_most = hits_rise is_branch branch_told a b p;
    }

-- ---- what the answers say

abbrev answered : Report → Report → Bounds
answered least greatest = record { least = hits_of least; greatest = hits_of greatest }

abbrev choose : Bool → Bool → Bounds → Answer Bounds
choose k c b = if k then (if c then accepted b else refuse LeastAboveGreatest) else refuse DifferentKeys

new-differ : ◌≡◌ {A = Answer Bounds} (refuse DifferentKeys) (refuse LeastAboveGreatest) → ⊥
new-differ e = let same : ◌≡◌ {A = ℕ} 27 28 = ap (λ (r : Refusal). number_of r.fault) (refused_inj e) in omega arith

-- ---- accepted and refused

module _ (least greatest : Report) (L : Valid least) (G : Valid greatest) where
  -- an answer comes with both tests passed
  passed : {b : Bounds} → bounds least greatest ≡ accepted b → (answered least greatest ≡ b) × Paired Rises least greatest
  unfolding bounds
  passed {b} p = go (same_keys least greatest) (counts_rise least greatest) refl refl p
    where
      go : (k c : Bool) → same_keys least greatest ≡ k → counts_rise least greatest ≡ c → choose k c (answered least greatest) ≡ accepted b
          → (answered least greatest ≡ b) × Paired Rises least greatest
      go true true e f q = (accepted_inj q, counts-test least greatest (keys-test least greatest e) f)
      go true false e f q = absurd (not_accepted q)
      go false true e f q = absurd (not_accepted q)
      go false false e f q = absurd (not_accepted q)

  passes : Paired Rises least greatest → bounds least greatest ≡ accepted (answered least greatest)
  unfolding bounds
  passes p = rw (test-keys least greatest (forget Rises least greatest p), test-counts least greatest p)

  same_paired : SameKeys least greatest → Paired Any least greatest
  same_paired K = keys_paired Any least greatest L.sorted G.sorted K (λ x y i j q. tt)

  -- WITHIN
  pub within : (report : Report) (b : Bounds) → Valid report → bounds least greatest ≡ accepted b → Between least greatest report → Within b (hits_of report)
  within report b R p B =
      let (e, q) = passed p in
      let low : Paired Rises least report = keys_paired Rises least report L.sorted R.sorted B.keys B.from_least in
      let high : Paired Rises report greatest = keys_paired Rises report greatest R.sorted G.sorted keys B.to_greatest in
      rw (← e) (record { not_below = all_rise least report low; not_above = all_rise report greatest high })
    where
      keys : SameKeys report greatest
      keys k =
          let (e, q) = passed p in
          (λ h. (paired_keys Rises least greatest q k).0 ((B.keys k).1 h), λ h. (B.keys k).0 ((paired_keys Rises least greatest q k).1 h))

  -- REACHED
  pub reached : (b : Bounds) → bounds least greatest ≡ accepted b → Reached b least greatest
  reached b p =
      let (e, q) = passed p in
      record {
        least_between =
            record {
              keys = λ k. (λ h. h, λ h. h);
              from_least = paired_related Rises least least L.sorted L.sorted (itself least);
              to_greatest = paired_related Rises least greatest L.sorted G.sorted q;
            };
        least_hits = ap (λ (c : Bounds). c.least) e;
        greatest_between =
            record {
              keys = paired_keys Rises least greatest q;
              from_least = paired_related Rises least greatest L.sorted G.sorted q;
              to_greatest = paired_related Rises greatest greatest G.sorted G.sorted (itself greatest);
            };
        greatest_hits = ap (λ (c : Bounds). c.greatest) e;
      }
    where
      itself : (a : Report) → Paired Rises a a
      itself [] = tt
      itself (x ∷ xs) = (refl, le_refl (count_of x.item), itself xs)

  pub accepts : ((b : Bounds) × (bounds least greatest ≡ accepted b)) ↔ (SameKeys least greatest × CountsRise least greatest)
  accepts = (forward, back)
    where
      forward : (b : Bounds) × (bounds least greatest ≡ accepted b) → SameKeys least greatest × CountsRise least greatest
      forward (b, p) =
          let (e, q) = passed p in
          (paired_keys Rises least greatest q, paired_related Rises least greatest L.sorted G.sorted q)

      back : SameKeys least greatest × CountsRise least greatest → (b : Bounds) × (bounds least greatest ≡ accepted b)
      back (K, C) = (answered least greatest, passes (keys_paired Rises least greatest L.sorted G.sorted K C))

  pub keys_differ : (bounds least greatest ≡ refuse DifferentKeys) ↔ (SameKeys least greatest → ⊥)
  unfolding bounds
  keys_differ = (λ p. forward (same_keys least greatest) (counts_rise least greatest) refl p, λ h. back (same_keys least greatest) refl h)
    where
      forward : (k c : Bool) → same_keys least greatest ≡ k → choose k c (answered least greatest) ≡ refuse DifferentKeys → SameKeys least greatest → ⊥
      forward true true e q K = impossible cc
      forward true false e q K = new-differ (sym q)
      forward false c e q K = let f : same_keys least greatest ≡ true = test-keys least greatest (same_paired K) in impossible cc

      back : (k : Bool) → same_keys least greatest ≡ k → (SameKeys least greatest → ⊥)
          → choose k (counts_rise least greatest) (answered least greatest) ≡ refuse DifferentKeys
      back true e h = absurd (h (paired_keys Any least greatest (keys-test least greatest e)))
      back false e h = refl

  above-found : (a b : Report) → Paired Any a b → counts_rise a b ≡ false → CountAbove a b
  unfolding counts_rise
  above-found [] [] p f = impossible cc
  above-found [] (y ∷ ys) p f = absurd p
  above-found (x ∷ xs) [] p f = absurd p
  above-found (x ∷ xs) (y ∷ ys) p f = go (leb (count_of x.item) (count_of y.item)) refl f (λ g. above-found xs ys p.2 g)
    where
      go : (t : Bool) → leb (count_of x.item) (count_of y.item) ≡ t → (t && counts_rise xs ys) ≡ false → (counts_rise xs ys ≡ false → CountAbove xs ys)
          → CountAbove (x ∷ xs) (y ∷ ys)
      go true e g ih = let (u, v, i, j, q, h) = ih g in (u, v, there i, there j, q, h)
      go false e g ih = (x, y, here refl, here refl, p.0, leb-false (count_of x.item) (count_of y.item) e)

  pub count_above : (bounds least greatest ≡ refuse LeastAboveGreatest) ↔ (SameKeys least greatest × CountAbove least greatest)
  unfolding bounds
  count_above = (λ p. forward (same_keys least greatest) (counts_rise least greatest) refl refl p, back)
    where
      forward : (k c : Bool) → same_keys least greatest ≡ k → counts_rise least greatest ≡ c
          → choose k c (answered least greatest) ≡ refuse LeastAboveGreatest → SameKeys least greatest × CountAbove least greatest
      forward true true e f q = impossible cc
      forward true false e f q =
          let p = keys-test least greatest e in (paired_keys Any least greatest p, above-found least greatest p f)
      forward false c e f q = absurd (new-differ q)

      turned : (c : Bool) → counts_rise least greatest ≡ c → SameKeys least greatest × CountAbove least greatest → counts_rise least greatest ≡ false
      turned false f w = f
      turned true f (K, (x, y, i, j, q, h)) =
          let r : count_of x.item ≤ count_of y.item
          = paired_related Rises least greatest L.sorted G.sorted (counts-test least greatest (same_paired K) f) x y i j q
          in
          absurd (omega (arith, r, h))

      back : SameKeys least greatest × CountAbove least greatest → bounds least greatest ≡ refuse LeastAboveGreatest
      back w = rw (test-keys least greatest (same_paired w.0), turned (counts_rise least greatest) refl w)

-- reports between two others, by the tests
pub between_tested : (least greatest report : Report) → Valid least → Valid greatest → Valid report → same_keys least report ≡ true → counts_rise least report ≡ true
    → same_keys report greatest ≡ true → counts_rise report greatest ≡ true → Between least greatest report
between_tested least greatest report L G R k c l d =
    let low : Paired Rises least report = counts-test least report (keys-test least report k) c in
    let high : Paired Rises report greatest = counts-test report greatest (keys-test report greatest l) d in
    record {
      keys = paired_keys Rises least report low;
      from_least = paired_related Rises least report L.sorted R.sorted low;
      to_greatest = paired_related Rises report greatest R.sorted G.sorted high;
    }

-- ---- texts

module _ (tag : Kind → Bytes) (least greatest : Bytes) (words : ℕ) where
  -- both texts were read, and the answer is that of their reports
  call-read : {b : Bounds} → hit_bounds tag least greatest words ≡ accepted b
      → (t : TwoRead tag least greatest (entry_limit words)) × (bounds t.low t.high ≡ accepted b)
  unfolding hit_bounds
  call-read p =
      let (low, q, r) = bind-accepted (in_text 0 (read_text tag (entry_limit words) least)) _ p in
      let (high, s, u) = bind-accepted (in_text 1 (read_text tag (entry_limit words) greatest)) _ r in (
        record {
          low = low;
          high = high;
          low_read = map_refused-accepted _ (read_text tag (entry_limit words) least) q;
          high_read = map_refused-accepted _ (read_text tag (entry_limit words) greatest) s;
        },
        u,
      )

  low-valid : (t : TwoRead tag least greatest (entry_limit words)) → Valid t.low
  low-valid t = (read_text-valid tag (entry_limit words) least t.low_read).0

  high-valid : (t : TwoRead tag least greatest (entry_limit words)) → Valid t.high
  high-valid t = (read_text-valid tag (entry_limit words) greatest t.high_read).0

  pub texts_reached : (b : Bounds) → hit_bounds tag least greatest words ≡ accepted b
      → (t : TwoRead tag least greatest (entry_limit words)) × Reached b t.low t.high
  texts_reached b p =
      let (t, q) = call-read p in
      (t, reached t.low t.high (low-valid t) (high-valid t) b q)

  pub texts_within : (text : Bytes) (limit : ℕ) (b : Bounds) (report : Report) → hit_bounds tag least greatest words ≡ accepted b
      → (t : TwoRead tag least greatest (entry_limit words)) → read_text tag limit text ≡ accepted report → Between t.low t.high report
      → Within b (hits_of report)
  texts_within text limit b report p t r B =
      let (u, q) = call-read p in
      let low : u.low ≡ t.low = accepted_inj (sym u.low_read ∙ t.low_read) in
      let high : u.high ≡ t.high = accepted_inj (sym u.high_read ∙ t.high_read) in
      within t.low t.high (low-valid t) (high-valid t) report b (read_text-valid tag limit text r).0 (rw (← low, ← high) q) B

  texts_read : (t : TwoRead tag least greatest (entry_limit words)) → hit_bounds tag least greatest words ≡ bounds t.low t.high
  unfolding hit_bounds
  texts_read t = rw (t.low_read, t.high_read)

  least_unread : (r : Refusal) → read_text tag (entry_limit words) least ≡ refused r → hit_bounds tag least greatest words ≡ in_text 0 (refused r)
  unfolding hit_bounds
  least_unread r p = rw p

  greatest_unread : (low : Report) (r : Refusal) → read_text tag (entry_limit words) least ≡ accepted low → read_text tag (entry_limit words) greatest ≡ refused r
      → hit_bounds tag least greatest words ≡ in_text 1 (refused r)
  unfolding hit_bounds
  greatest_unread low r p q = rw (p, q)

bounds_printed : (tag : Kind → Bytes) → Lawful tag → (least greatest low high : Bytes) (words room : ℕ)
    → read_and_print tag least words room ≡ accepted low → read_and_print tag greatest words room ≡ accepted high
    → hit_bounds tag low high words ≡ hit_bounds tag least greatest words
bounds_printed tag L least greatest low high words room p q =
    let (a, r, s) = printed-read tag L least low words room p in
    let (b, u, v) = printed-read tag L greatest high words room q in
    texts_read tag low high words (record { low = a; high = b; low_read = s; high_read = v })
    ∙ sym (texts_read tag least greatest words (record { low = a; high = b; low_read = r; high_read = u }))

-- BOUNDS
pub bounds_claim : BoundsClaim
bounds_claim =
    record {
      within = λ least greatest report b L G R. within least greatest L G report b R;
      reached = λ least greatest b L G. reached least greatest L G b;
      accepts = λ least greatest L G. accepts least greatest L G;
      keys_differ = λ least greatest L G. keys_differ least greatest L G;
      count_above = λ least greatest L G. count_above least greatest L G;
      texts_within = λ tag least greatest text words limit b report p t. texts_within tag least greatest words text limit b report p t;
      texts_reached = λ tag least greatest words b. texts_reached tag least greatest words b;
      texts_read = λ tag least greatest words t. texts_read tag least greatest words t;
      least_unread = λ tag least greatest words r. least_unread tag least greatest words r;
      greatest_unread = λ tag least greatest words low r. greatest_unread tag least greatest words low r;
      bounds_printed = bounds_printed;
    }
