-- An insert's steps do what the model's insert does. Assumes nothing.
use Prim.Native.Nat.{ℕ, zero, suc, ◌+◌, ◌-◌, ◌≤◌, ◌<◌, min}
use native.Mathlib.Nat.{add-suc, add-zero}
use native.Mathlib.Omega.{arith}
use native.Mathlib.Numerals.{add-one}
use mathlib.Core.Path.{◌≡◌, refl, sym, ap, ◌∙◌}
use mathlib.Core.Bool.{true, false, not, ◌&&◌}
use mathlib.Core.List.{List, [], ◌∷◌, ◌++◌, append_assoc, append-nil}
use lib.Dec.{leb, ltb}
use lib.ListN.{length, get_or, set, take, drop, replicate, length-set, length-take, drop_of_length-le, replicate-append-replicate}
use lib.Seq.{take_all, length-take-le, drop-cons, append_snoc, get_or-take, get_or-set_other, take-set-le, take-suc-set}
use borrow.Author.Tests.{not-true, not-false, le-leb, lt-leb, lt-ltb, le-ltb, ltb-true, ltb-false}
use Rattle.model.specs.declared.Range.{Range}
use Rattle.std.specs.Prelude.{if◌then◌else◌, Ok, Err}
use Rattle.model.specs.declared.Fault.TheVariants.{RangesFull, MalformedRanges}
use Rattle.model.specs.Answer.{unplaced, accepted, refuse}
use Rattle.model.specs.Ranges.{well_formed_ranges, join_into, insert_range, insert_call, slice_after}
use Rattle.model.specs.Calls.{length_answer}
use Rattle.ordmap.proofs.Results.{impossible}
use Rattle.table.proofs.BinarySearch.{by-test}
use Rattle.line_num_pairs.specs.Pairs.{pair}
use Rattle.line_num.specs.declared.Scan.{Scan}
use Rattle.line_num.specs.declared.Plan.{Plan}
use Rattle.line_num.specs.declared.Put.{Put}
use Rattle.line_num.specs.Scans.{scan_start, passes_by, stays_by, scanned_by, scan_from, scan_of}
use Rattle.line_num.specs.Steps.{plan_by, plan_of, answer_of, PlanFits, read_at, put_at, stepped, after, rewritten}
use Rattle.line_num.proofs.ScanLaws.{passes_on, scan_begun, scan_next, scan_done, scan_formed, scan_asked}
use Rattle.line_num.proofs.StepLaws.{plan_short, plan_ill, plan_dropped, plan_put, plan_full, answer_short, answer_ill, answer_dropped, answer_put, answer_full, read_first, read_behind, put_past, put_stays, put_joined}

-- ---- what is still to be put down after a pass so far: its range and the ranges behind, joined until the range is past

out_of : Scan → List Range → List Range
out_of f xs = if f.past then pair f.low f.high ∷ xs else join_into (pair f.low f.high) xs

out_begun : (s e : ℕ) (xs : List Range) → out_of (scan_start s e) xs ≡ join_into (pair s e) xs
unfolding out_of
out_begun s e xs = refl

out_none : (f : Scan) → out_of f [] ≡ pair f.low f.high ∷ []
unfolding out_of join_into
out_none f = by-test f.past (λ h. rw h) (λ h. rw h)

module _ (f : Scan) (x : Range) where
  not_past : passes_by f x ≡ false → f.past ≡ false
  not_past h = by-test f.past (λ e. e ∙ passes_on f x e ∙ h) (λ e. e)

  passes_open : f.past ≡ false → (if ltb (suc x.end) f.low then false else ltb (suc f.high) x.start) ≡ passes_by f x
  unfolding passes_by
  passes_open h = rw h

  stays_open : f.past ≡ false → ltb (suc x.end) f.low ≡ stays_by f x
  unfolding stays_by
  stays_open h = rw h

  module _ (xs : List Range) (next : ℕ) where
    out-past : passes_by f x ≡ true → out_of f (x ∷ xs) ≡ pair f.low f.high ∷ out_of (scanned_by f next x) xs
    unfolding out_of scanned_by join_into
    out-past h =
        rw h (by-test f.past (λ e. rw e) (λ e.
        let z : (if ltb (suc x.end) f.low then false else ltb (suc f.high) x.start) ≡ true = passes_open e ∙ h in
        by-test (ltb (suc x.end) f.low)
        (λ a. let y : false ≡ true = rw a at z in impossible cc)
        (λ a. let y : ltb (suc f.high) x.start ≡ true = rw a at z in rw (e, a, y))))

    out_stays : passes_by f x ≡ false → stays_by f x ≡ true → out_of f (x ∷ xs) ≡ x ∷ out_of (scanned_by f next x) xs
    unfolding out_of scanned_by join_into
    out_stays h s = let e : f.past ≡ false = not_past h in let a : ltb (suc x.end) f.low ≡ true = stays_open e ∙ s in rw (h, s, e, a)

    out-joined : passes_by f x ≡ false → stays_by f x ≡ false → out_of f (x ∷ xs) ≡ out_of (scanned_by f next x) xs
    unfolding out_of scanned_by join_into
    out-joined h s =
        let e : f.past ≡ false = not_past h in
        let a : ltb (suc x.end) f.low ≡ false = stays_open e ∙ s in
        let z : (if ltb (suc x.end) f.low then false else ltb (suc f.high) x.start) ≡ false = passes_open e ∙ h in
        let y : ltb (suc f.high) x.start ≡ false = rw a at z in
        rw (h, s, e, a, y)

  module _ (i : ℕ) (low : f.at ≤ i) where
    at_past : passes_by f x ≡ true → (scanned_by f (i + 1) x).at ≡ f.at + 1
    unfolding scanned_by
    at_past h = rw h (let z : min (f.at + 1) (i + 1) ≡ f.at + 1 = omega arith in z)

    at_stays : passes_by f x ≡ false → stays_by f x ≡ true → (scanned_by f (i + 1) x).at ≡ f.at + 1
    unfolding scanned_by
    at_stays h s = rw (h, s) (let z : min (f.at + 1) (i + 1) ≡ f.at + 1 = omega arith in z)

    at_joined : passes_by f x ≡ false → stays_by f x ≡ false → (scanned_by f (i + 1) x).at ≡ f.at
    unfolding scanned_by
    at_joined h s = rw (h, s)

  by-step : {A : Type 0} → (passes_by f x ≡ true → A) → (passes_by f x ≡ false → stays_by f x ≡ true → A) → (passes_by f x ≡ false → stays_by f x ≡ false → A) → A
  by-step a b c = by-test (passes_by f x) a (λ h. by-test (stays_by f x) (b h) (c h))

-- the pass counts what is put down
out-count : (f : Scan) (i : ℕ) (xs : List Range) → f.at ≤ i → (scan_from f i xs).at + 1 ≡ f.at + length (out_of f xs)
unfolding scan_from
out-count f i [] low = let z : length (out_of f []) ≡ 1 = ap length (out_none f) in omega (arith, z)
out-count f i (x ∷ xs) low =
    by-step f x
    (λ h. let a = at_past f x i low h in let b : length (out_of f (x ∷ xs)) ≡ suc (length (out_of (scanned_by f (i + 1) x) xs)) = ap length (out-past f x xs (i + 1) h) in omega (arith, a, b, out-count (scanned_by f (i + 1) x) (i + 1) xs (omega (arith, a))))
    (λ h s. let a = at_stays f x i low h s in let b : length (out_of f (x ∷ xs)) ≡ suc (length (out_of (scanned_by f (i + 1) x) xs)) = ap length (out_stays f x xs (i + 1) h s) in omega (arith, a, b, out-count (scanned_by f (i + 1) x) (i + 1) xs (omega (arith, a))))
    (λ h s. let a = at_joined f x i low h s in let b : length (out_of f (x ∷ xs)) ≡ length (out_of (scanned_by f (i + 1) x) xs) = ap length (out-joined f x xs (i + 1) h s) in omega (arith, a, b, out-count (scanned_by f (i + 1) x) (i + 1) xs (omega (arith, a))))

-- ---- the steps that read

module _ (p : Plan) (slice : List Range) (fits : p.reads ≤ length slice) where
  abbrev xs : List Range
  xs = take p.reads slice

  -- after t steps that read: the first positions have what was written, and those not read yet are unchanged
  record Reading (t : ℕ) (cur : List Range) (f : Scan) : Type 0 where
    low : f.at ≤ t
    long : length cur ≡ length slice
    same : (k : ℕ) → t ≤ k → get_or cur k (pair 0 0) ≡ get_or slice k (pair 0 0)
    rest : scan_from f t (drop t xs) ≡ scan_of slice p.reads p.start p.end
    out : take f.at cur ++ out_of f (drop t xs) ≡ join_into (pair p.start p.end) xs

  reading_none : Reading 0 slice (scan_start p.start p.end)
  reading_none = record { low = omega arith; long = refl; same = λ k h. refl; rest = scan_begun slice p.reads p.start p.end; out = out_begun p.start p.end xs }

  module _ (t : ℕ) (cur : List Range) (f : Scan) (ω : Reading t cur f) (more : t < p.reads) where
    abbrev x : Range
    x = get_or cur t (pair 0 0)

    is-next : x ≡ get_or slice t (pair 0 0)
    is-next = ω.same t (omega arith)

    ahead : drop t xs ≡ x ∷ drop (t + 1) xs
    ahead =
        drop-cons xs t (pair 0 0) (let z : t < length xs = rw (length-take p.reads slice) (let y : t < min p.reads (length slice) = omega arith in y) in z)
        ∙ ap (λ (r : Range). r ∷ drop (suc t) xs) (get_or-take p.reads slice t (pair 0 0) more ∙ sym is-next)
        ∙ ap (λ (n : ℕ). x ∷ drop n xs) (sym (add-one t))

    scans : scan_from (scanned_by f (t + 1) x) (t + 1) (drop (t + 1) xs) ≡ scan_of slice p.reads p.start p.end
    scans =
        ap (λ (r : Range). scan_from (scanned_by f (t + 1) r) (t + 1) (drop (t + 1) xs)) is-next
        ∙ scan_next slice p.reads f t (pair 0 0) (omega arith) ∙ ω.rest

    abbrev g : Scan
    g = scanned_by f (t + 1) x

    emits : (v : Range) → g.at ≡ f.at + 1 → out_of f (x ∷ drop (t + 1) xs) ≡ v ∷ out_of g (drop (t + 1) xs) → Reading (t + 1) (set cur f.at v) g
    emits v one step = record {
      low = omega (arith, one, ω.low);
      long = length-set cur f.at v ∙ ω.long;
      same = λ k h. get_or-set_other cur f.at k v (pair 0 0) (omega (arith, ω.low)) ∙ ω.same k (omega arith);
      rest = scans;
      out = ap (λ (n : ℕ). take n (set cur f.at v) ++ out_of g (drop (t + 1) xs)) (one ∙ add-one f.at)
          ∙ ap (λ (l : List Range). l ++ out_of g (drop (t + 1) xs)) (take-suc-set cur f.at v (omega (arith, ω.low, ω.long)))
          ∙ append_snoc (take f.at cur) v (out_of g (drop (t + 1) xs))
          ∙ ap (λ (l : List Range). take f.at cur ++ l) (sym step)
          ∙ ap (λ (l : List Range). take f.at cur ++ out_of f l) (sym ahead) ∙ ω.out;
    }

    absorbs : g.at ≡ f.at → out_of f (x ∷ drop (t + 1) xs) ≡ out_of g (drop (t + 1) xs) → Reading (t + 1) (set cur t x) g
    absorbs one step = record {
      low = omega (arith, one, ω.low);
      long = length-set cur t x ∙ ω.long;
      same = λ k h. get_or-set_other cur t k x (pair 0 0) (omega arith) ∙ ω.same k (omega arith);
      rest = scans;
      out = ap (λ (n : ℕ). take n (set cur t x) ++ out_of g (drop (t + 1) xs)) one
          ∙ ap (λ (l : List Range). l ++ out_of g (drop (t + 1) xs)) (take-set-le f.at cur t x ω.low)
          ∙ ap (λ (l : List Range). take f.at cur ++ l) (sym step)
          ∙ ap (λ (l : List Range). take f.at cur ++ out_of f l) (sym ahead) ∙ ω.out;
    }

    least : min f.at t ≡ f.at
    least = omega (arith, ω.low)

    -- what the step writes where
    puts_as : (at : ℕ) (v : Range) → ◌≡◌ {A = Put} (record { at = at; range = v }) (put_at p f t t x) → Reading (t + 1) (set cur at v) g → Reading (t + 1) (set cur (put_at p f t t x).at (put_at p f t t x).range) g
    puts_as at v e w = rw (← e) w

    reading_step : Reading (t + 1) (set cur (put_at p f t t x).at (put_at p f t t x).range) g
    reading_step =
        by-step f x
        (λ h. puts_as f.at (pair f.low f.high) (put_past p f t t x more (passes_by f x) refl h f.at (sym least)) (emits (pair f.low f.high) (at_past f x t ω.low h) (out-past f x (drop (t + 1) xs) (t + 1) h)))
        (λ h s. puts_as f.at x (put_stays p f t t x more (passes_by f x) refl h (stays_by f x) refl s f.at (sym least)) (emits x (at_stays f x t ω.low h s) (out_stays f x (drop (t + 1) xs) (t + 1) h s)))
        (λ h s. puts_as t x (put_joined p f t t x more (passes_by f x) refl h (stays_by f x) refl s) (absorbs (at_joined f x t ω.low h s) (out-joined f x (drop (t + 1) xs) (t + 1) h s)))

    reading_next : Reading (suc t) (stepped p t cur f).0 (stepped p t cur f).1
    reading_next = rw (← (read_first p t more), ← (add-one t)) reading_step

  reading_all : (t : ℕ) → t ≤ p.reads → Reading t (after p slice t).0 (after p slice t).1
  unfolding after
  reading_all zero h = reading_none
  reading_all (suc t) h = reading_next t (after p slice t).0 (after p slice t).1 (reading_all t (omega arith)) (omega arith)

  -- ---- the steps that fill

  fill_at : ℕ → Range
  fill_at k = if ltb k p.n then pair p.low p.high else pair 0 0

  filled_to : ℕ → List Range
  filled_to zero = []
  filled_to (suc j) = filled_to j ++ fill_at (p.from + j) ∷ []

  fill_put : (f : Scan) (t k : ℕ) (x : Range) → p.reads ≤ t → ◌≡◌ {A = Put} (put_at p f t k x) (record { at = k; range = fill_at k })
  unfolding put_at fill_at
  fill_put f t k x h = rw (le-ltb t p.reads h)

  module _ (front : List Range) where
    record Filled (j : ℕ) (cur : List Range) : Type 0 where
      long : length cur ≡ length slice
      done : take (p.from + j) cur ≡ front ++ filled_to j

    filled_next : (j : ℕ) (cur : List Range) (f : Scan) → Filled j cur → p.from + j < length slice → Filled (suc j) (stepped p (p.reads + j) cur f).0
    unfolding filled_to
    filled_next j cur f φ h =
        let z : p.reads + j - p.reads ≡ j = omega arith in
        let k : read_at p (p.reads + j) ≡ p.from + j = sym (read_behind p (p.reads + j) (omega arith)) ∙ ap (λ (n : ℕ). p.from + n) z in
        rw (fill_put f (p.reads + j) (read_at p (p.reads + j)) (get_or cur (read_at p (p.reads + j)) (pair 0 0)) (omega arith), k) (record {
          long = length-set cur (p.from + j) (fill_at (p.from + j)) ∙ φ.long;
          done = ap (λ (n : ℕ). take n (set cur (p.from + j) (fill_at (p.from + j)))) (add-suc p.from j)
              ∙ take-suc-set cur (p.from + j) (fill_at (p.from + j)) (omega (arith, φ.long))
              ∙ ap (λ (l : List Range). l ++ fill_at (p.from + j) ∷ []) φ.done ∙ append_assoc front (filled_to j) (fill_at (p.from + j) ∷ []);
        })

    filled-all : (j : ℕ) → p.from + j ≤ length slice → Filled 0 (after p slice p.reads).0 → Filled j (after p slice (p.reads + j)).0
    unfolding after
    filled-all zero h φ = rw (add-zero p.reads) φ
    filled-all (suc j) h φ = rw (add-suc p.reads j) (filled_next j (after p slice (p.reads + j)).0 (after p slice (p.reads + j)).1 (filled-all j (omega arith) φ) (omega arith))

    -- all positions are filled
    filled_done : p.from ≤ length slice → p.steps ≡ p.reads + (length slice - p.from) → length (after p slice p.reads).0 ≡ length slice → take p.from (after p slice p.reads).0 ≡ front
        → rewritten p slice ≡ front ++ filled_to (length slice - p.from)
    unfolding rewritten filled_to
    filled_done h turns long begin =
        let φ = filled-all (length slice - p.from) (omega arith) (record { long = long; done = ap (λ (n : ℕ). take n (after p slice p.reads).0) (add-zero p.from) ∙ begin ∙ sym (append-nil front) }) in
        ap (λ (n : ℕ). (after p slice n).0) turns
        ∙ sym (take_all (p.from + (length slice - p.from)) (after p slice (p.reads + (length slice - p.from))).0 (omega (arith, φ.long)))
        ∙ φ.done

  -- zeros alone, and one range before them
  fills_zeros : p.n ≡ p.from → (j : ℕ) → filled_to j ≡ replicate j (pair 0 0)
  unfolding filled_to fill_at
  fills_zeros e zero = refl
  fills_zeros e (suc j) =
      rw (le-ltb (p.from + j) p.n (omega arith), fills_zeros e j)
      (replicate-append-replicate j 1 (pair 0 0) ∙ ap (λ (n : ℕ). replicate n (pair 0 0)) (add-one j))

  fills_one : p.n ≡ p.from + 1 → (j : ℕ) → filled_to (suc j) ≡ pair p.low p.high ∷ replicate j (pair 0 0)
  unfolding filled_to fill_at
  fills_one e zero = rw (lt-ltb (p.from + 0) p.n (omega arith))
  fills_one e (suc j) =
      ap (λ (l : List Range). l ++ fill_at (p.from + suc j) ∷ []) (fills_one e j)
      ∙ rw (le-ltb (p.from + suc j) p.n (omega arith))
      (ap (λ (l : List Range). pair p.low p.high ∷ l) (replicate-append-replicate j 1 (pair 0 0) ∙ ap (λ (n : ℕ). replicate n (pair 0 0)) (add-one j)))

  -- an insert that drops its range: nothing is read
  pub rewritten-dropped : p.reads ≡ 0 → p.n ≡ p.from → p.from ≤ length slice → p.steps ≡ length slice - p.from
      → rewritten p slice ≡ take p.from slice ++ replicate (length slice - p.from) (pair 0 0)
  unfolding after
  rewritten-dropped none e h turns =
      filled_done (take p.from slice) h (let z : p.steps ≡ p.reads + (length slice - p.from) = omega arith in z) (rw none) (rw none)
      ∙ ap (λ (l : List Range). take p.from slice ++ l) (fills_zeros e (length slice - p.from))

  -- an insert that puts its range in: what the pass found at its end is put down last
  module _ (last : Scan) (is : last ≡ scan_of slice p.reads p.start p.end) (from_is : p.from ≡ last.at) (low-is : p.low ≡ last.low) (high_is : p.high ≡ last.high) where
    abbrev cur : List Range
    cur = (after p slice p.reads).0

    ω : Reading p.reads cur (after p slice p.reads).1
    ω = reading_all p.reads (omega arith)

    ended : (after p slice p.reads).1 ≡ last
    ended = scan_done slice p.reads (after p slice p.reads).1 p.reads (omega arith) ∙ ω.rest ∙ sym is

    all-out : take p.from cur ++ pair p.low p.high ∷ [] ≡ join_into (pair p.start p.end) xs
    all-out =
        ap (λ (n : ℕ). take n cur ++ pair p.low p.high ∷ []) from_is
        ∙ ap (λ (n : ℕ). take last.at cur ++ pair n p.high ∷ []) low-is
        ∙ ap (λ (n : ℕ). take last.at cur ++ pair last.low n ∷ []) high_is
        ∙ ap (λ (l : List Range). take last.at cur ++ l) (sym (out_none last))
        ∙ ap (λ (l : List Range). take last.at cur ++ out_of last l) (sym (drop_of_length-le xs {i = p.reads} (rw (length-take p.reads slice) (let z : min p.reads (length slice) ≤ p.reads = omega arith in z))))
        ∙ ap (λ (h : Scan). take h.at cur ++ out_of h (drop p.reads xs)) (sym ended) ∙ ω.out

    pub joined_length : length (join_into (pair p.start p.end) xs) ≡ last.at + 1
    unfolding scan_of
    joined_length =
        let c = out-count (scan_start p.start p.end) 0 xs (omega arith) in
        let d : length (out_of (scan_start p.start p.end) xs) ≡ length (join_into (pair p.start p.end) xs) = ap length (out_begun p.start p.end xs) in
        let e : last.at ≡ (scan_from (scan_start p.start p.end) 0 xs).at = ap (λ (h : Scan). h.at) is in
        omega (arith, c, d, e)

    pub rewritten_put : p.n ≡ p.from + 1 → p.from < length slice → p.steps ≡ p.reads + (length slice - p.from)
        → rewritten p slice ≡ join_into (pair p.start p.end) xs ++ replicate (length slice - (p.from + 1)) (pair 0 0)
    rewritten_put e h turns =
        let z : length slice - p.from ≡ suc (length slice - (p.from + 1)) = omega arith in
        filled_done (take p.from cur) (omega arith) turns ω.long refl
        ∙ rw (z, fills_one e (length slice - (p.from + 1))) (sym (append_snoc (take p.from cur) (pair p.low p.high) (replicate (length slice - (p.from + 1)) (pair 0 0))))
        ∙ ap (λ (l : List Range). l ++ replicate (length slice - (p.from + 1)) (pair 0 0)) all-out

-- ---- the whole call

module _ (slice : List Range) (used : ℕ) (r : Range) where
  call_ill : well_formed_ranges slice used ≡ false → insert_call slice used r ≡ refuse MalformedRanges
  unfolding insert_call
  call_ill h = rw h

  module _ (well : well_formed_ranges slice used ≡ true) (ranges : List Range) (is : insert_range r (take used slice) ≡ ranges) where
    call_fits : length ranges ≤ length slice → insert_call slice used r ≡ accepted ranges
    unfolding insert_call
    call_fits h = rw (well, is, le-leb (length ranges) (length slice) h)

    call_full : length slice < length ranges → insert_call slice used r ≡ refuse RangesFull
    unfolding insert_call
    call_full h = rw (well, is, lt-leb (length ranges) (length slice) h)

-- the cases of an insert
module _ (f : Scan) (used len : ℕ) {A : Type 0} where
  by_outcome : (len < used → A) → (used ≤ len → not f.well ≡ true → A) → (used ≤ len → not f.well ≡ false → f.end < f.start → A)
      → (used ≤ len → not f.well ≡ false → f.start ≤ f.end → f.at < len → A) → (used ≤ len → not f.well ≡ false → f.start ≤ f.end → len ≤ f.at → A) → A
  by_outcome short ill dropped put full =
      by-test (ltb len used) (λ h. short (ltb-true len used h)) (λ h.
      let i : used ≤ len = ltb-false len used h in
      by-test (not f.well) (ill i) (λ t.
      by-test (ltb f.end f.start) (λ d. dropped i t (ltb-true f.end f.start d)) (λ d.
      let o : f.start ≤ f.end = ltb-false f.end f.start d in
      by-test (ltb f.at len) (λ l. put i t o (ltb-true f.at len l)) (λ l. full i t o (ltb-false f.at len l)))))

-- the steps are within the slice
pub plan_fits : (f : Scan) (used len : ℕ) → PlanFits (plan_of f used len) len
plan_fits f used len =
    by_outcome f used len
    (λ h. rw (← (plan_short f used len h (plan_by f 0 0 0 0) refl)) (omega arith, omega arith))
    (λ i t. rw (← (plan_ill f used len i t (plan_by f 0 0 0 0) refl)) (omega arith, omega arith))
    (λ i t d. rw (← (plan_dropped f used len i t d (plan_by f 0 used used (len - used)) refl)) (omega arith, omega arith))
    (λ i t o l. rw (← (plan_put f used len i t o l (plan_by f used f.at (f.at + 1) (used + (len - f.at))) refl)) (omega arith, omega arith))
    (λ i t o l. rw (← (plan_full f used len i t o l (plan_by f 0 0 0 0) refl)) (omega arith, omega arith))

module _ (slice : List Range) (used s e : ℕ) where
  abbrev F : Scan
  F = scan_of slice used s e

  abbrev Called : Type 0
  Called = (answer_of F used (length slice) ≡ length_answer (insert_call slice used (pair s e))) × (rewritten (plan_of F used (length slice)) slice ≡ slice_after (insert_call slice used (pair s e)) slice)

  asked : (F.start ≡ s) × (F.end ≡ e)
  unfolding scan_of
  asked = scan_asked (scan_start s e) 0 (take used slice)

  nothing_done : rewritten (plan_by F 0 0 0 0) slice ≡ slice
  unfolding rewritten after
  nothing_done = refl

  called_ill : (leb used (length slice) && F.well) ≡ false → plan_by F 0 0 0 0 ≡ plan_of F used (length slice) → Err (unplaced MalformedRanges) ≡ answer_of F used (length slice) → Called
  unfolding length_answer slice_after
  called_ill w plan answer =
      let c : insert_call slice used (pair s e) ≡ refuse MalformedRanges = call_ill slice used (pair s e) (sym (scan_formed slice used s e) ∙ w) in
      (sym answer ∙ rw c, ap (λ (p : Plan). rewritten p slice) (sym plan) ∙ nothing_done ∙ rw c)

  called_none : length slice < used → Called
  called_none h = called_ill (rw (lt-leb used (length slice) h)) (plan_short F used (length slice) h (plan_by F 0 0 0 0) refl) (answer_short F used (length slice) h (unplaced MalformedRanges) refl)

  module _ (i : used ≤ length slice) where
    called_unordered : not F.well ≡ true → Called
    called_unordered t =
        called_ill (rw (le-leb used (length slice) i, not-true F.well t)) (plan_ill F used (length slice) i t (plan_by F 0 0 0 0) refl)
        (answer_ill F used (length slice) i t (unplaced MalformedRanges) refl)

    module _ (t : not F.well ≡ false) where
      formed : well_formed_ranges slice used ≡ true
      formed = sym (scan_formed slice used s e) ∙ rw (le-leb used (length slice) i, not-false F.well t)

      called_dropped : F.end < F.start → Called
      unfolding length_answer slice_after insert_range
      called_dropped d =
          let turned_round : e < s = omega (arith, asked.0, asked.1) in
          let long : length (take used slice) ≡ used = length-take-le used slice i in
          let c : insert_call slice used (pair s e) ≡ accepted (take used slice) = call_fits slice used (pair s e) formed (take used slice) (rw (lt-leb s e turned_round)) (omega (arith, long)) in (
            sym (answer_dropped F used (length slice) i t d) ∙ rw (c, long),
            ap (λ (p : Plan). rewritten p slice) (sym (plan_dropped F used (length slice) i t d (plan_by F 0 used used (length slice - used)) refl))
                ∙ rewritten-dropped (plan_by F 0 used used (length slice - used)) slice (omega arith) refl refl i refl ∙ rw (c, long),
          )

      module _ (right : F.start ≤ F.end) where
        in_order : s ≤ e
        in_order = omega (arith, asked.0, asked.1)

        joined : insert_range (pair s e) (take used slice) ≡ join_into (pair s e) (take used slice)
        unfolding insert_range
        joined = rw (le-leb s e in_order)

        abbrev P : Plan
        P = plan_by F used F.at (F.at + 1) (used + (length slice - F.at))

        as_asked : F ≡ scan_of slice used F.start F.end
        as_asked = sym (ap (λ (n : ℕ). scan_of slice used n F.end) asked.0 ∙ ap (λ (n : ℕ). scan_of slice used s n) asked.1)

        same-range : join_into (pair F.start F.end) (take used slice) ≡ join_into (pair s e) (take used slice)
        same-range = ap (λ (n : ℕ). join_into (pair n F.end) (take used slice)) asked.0 ∙ ap (λ (n : ℕ). join_into (pair s n) (take used slice)) asked.1

        long : length (join_into (pair s e) (take used slice)) ≡ F.at + 1
        long = ap length (sym same-range) ∙ joined_length P slice i F as_asked refl refl refl

        called_put : F.at < length slice → Called
        unfolding length_answer slice_after
        called_put l =
            let c : insert_call slice used (pair s e) ≡ accepted (join_into (pair s e) (take used slice)) = call_fits slice used (pair s e) formed (join_into (pair s e) (take used slice)) joined (omega (arith, long)) in (
              sym (answer_put F used (length slice) i t right l) ∙ rw (c, long),
              ap (λ (p : Plan). rewritten p slice) (sym (plan_put F used (length slice) i t right l P refl))
                  ∙ rewritten_put P slice i F as_asked refl refl refl refl l refl
                  ∙ ap (λ (l : List Range). l ++ replicate (length slice - (F.at + 1)) (pair 0 0)) same-range ∙ rw (c, long),
            )

        called_full : length slice ≤ F.at → Called
        unfolding length_answer slice_after
        called_full l =
            let c : insert_call slice used (pair s e) ≡ refuse RangesFull = call_full slice used (pair s e) formed (join_into (pair s e) (take used slice)) joined (omega (arith, long)) in (
              sym (answer_full F used (length slice) i t right l (unplaced RangesFull) refl) ∙ rw c,
              ap (λ (p : Plan). rewritten p slice) (sym (plan_full F used (length slice) i t right l (plan_by F 0 0 0 0) refl)) ∙ nothing_done ∙ rw c,
            )

  -- after the pass, the steps and the answer are the model's
  pub insert_told : Called
  insert_told = by_outcome F used (length slice) called_none called_unordered called_dropped called_put called_full
