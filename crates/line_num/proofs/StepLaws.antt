-- Laws of an insert's steps: what each function answers. Assumes nothing.
use Rattle.std.specs.Prelude.{Ok, Err}
use Prim.Native.Nat.{ℕ, ◌+◌, ◌-◌, ◌≤◌, ◌<◌, min}
use native.Mathlib.Omega.{arith}
use mathlib.Core.Path.{◌≡◌, refl, sym, ap, ◌∙◌}
use mathlib.Core.Bool.{Bool, true, false, not}
use mathlib.Core.List.{List}
use native.Mathlib.Numerals.{add-one}
use lib.ListN.{get_or, set}
use lib.Dec.{ltb}
use borrow.Author.Tests.{not-true, not-false, le-leb, lt-leb, lt-ltb, le-ltb, ltb-true, ltb-false}
use Rattle.model.specs.declared.Range.{Range}
use Rattle.model.specs.declared.Refusal.{Refusal}
use Rattle.model.specs.declared.Fault.TheVariants.{RangesFull, MalformedRanges}
use Rattle.model.specs.Answer.{unplaced}
use Rattle.line_num_pairs.specs.Pairs.{pair}
use Rattle.line_num.specs.declared.Scan.{Scan}
use Rattle.line_num.specs.declared.Plan.{Plan}
use Rattle.line_num.specs.declared.Put.{Put}
use Rattle.line_num.specs.Scans.{scan_start, passes_by, stays_by, scanned_by}
use Rattle.line_num.specs.Steps.{plan_by, plan_of, answer_of, PlanFits, read_at, put_at, stepped, after, rewritten}

-- ---- what is to be done, and what is answered

module _ (f : Scan) (used len : ℕ) where
  pub plan_short : len < used → (p : Plan) → p ≡ plan_by f 0 0 0 0 → p ≡ plan_of f used len
  unfolding plan_of
  plan_short h p is = rw (lt-leb used len h, is)

  pub answer_short : len < used → (r : Refusal) → r ≡ unplaced MalformedRanges → Err r ≡ answer_of f used len
  unfolding answer_of
  answer_short h r m = rw (lt-leb used len h, m)

  module _ (h : used ≤ len) where
    pub plan_ill : not f.well ≡ true → (p : Plan) → p ≡ plan_by f 0 0 0 0 → p ≡ plan_of f used len
    unfolding plan_of
    plan_ill t p is = rw (le-leb used len h, not-true f.well t, is)

    pub answer_ill : not f.well ≡ true → (r : Refusal) → r ≡ unplaced MalformedRanges → Err r ≡ answer_of f used len
    unfolding answer_of
    answer_ill t r m = rw (le-leb used len h, not-true f.well t, m)

    module _ (t : not f.well ≡ false) where
      pub plan_dropped : f.end < f.start → (p : Plan) → p ≡ plan_by f 0 used used (len - used) → p ≡ plan_of f used len
      unfolding plan_of
      plan_dropped l p is = rw (le-leb used len h, not-false f.well t, lt-ltb f.end f.start l, is)

      pub answer_dropped : f.end < f.start → Ok used ≡ answer_of f used len
      unfolding answer_of
      answer_dropped l = rw (le-leb used len h, not-false f.well t, lt-ltb f.end f.start l)

      module _ (right : f.start ≤ f.end) where
        pub plan_put : f.at < len → (p : Plan) → p ≡ plan_by f used f.at (f.at + 1) (used + (len - f.at)) → p ≡ plan_of f used len
        unfolding plan_of
        plan_put l p is = rw (le-leb used len h, not-false f.well t, le-ltb f.end f.start right, lt-ltb f.at len l, is)

        pub answer_put : f.at < len → Ok (f.at + 1) ≡ answer_of f used len
        unfolding answer_of
        answer_put l = rw (le-leb used len h, not-false f.well t, le-ltb f.end f.start right, lt-ltb f.at len l)

        pub plan_full : len ≤ f.at → (p : Plan) → p ≡ plan_by f 0 0 0 0 → p ≡ plan_of f used len
        unfolding plan_of
        plan_full l p is = rw (le-leb used len h, not-false f.well t, le-ltb f.end f.start right, le-ltb f.at len l, is)

        pub answer_full : len ≤ f.at → (r : Refusal) → r ≡ unplaced RangesFull → Err r ≡ answer_of f used len
        unfolding answer_of
        answer_full l r m = rw (le-leb used len h, not-false f.well t, le-ltb f.end f.start right, le-ltb f.at len l, m)

-- ---- one step

module _ (p : Plan) (t : ℕ) where
  pub read_first : t < p.reads → t ≡ read_at p t
  unfolding read_at
  read_first h = rw (lt-ltb t p.reads h)

  pub read_behind : p.reads ≤ t → p.from + (t - p.reads) ≡ read_at p t
  unfolding read_at
  read_behind h = rw (le-ltb t p.reads h)

  -- a step reads within the slice
  pub read-inside : (len : ℕ) → PlanFits p len → t < p.steps → read_at p t < len
  unfolding read_at
  read-inside len (a, b) h = go (ltb t p.reads) refl
    where
      go : (u : Bool) → ltb t p.reads ≡ u → read_at p t < len
      go true e = rw (← (read_first (let z : t < p.reads = ltb-true t p.reads e in z))) (let z : t < len = omega (arith, ltb-true t p.reads e) in z)
      go false e = rw (← (read_behind (ltb-false t p.reads e))) (let z : p.from + (t - p.reads) < len = omega (arith, ltb-false t p.reads e) in z)

module _ (p : Plan) (f : Scan) (t k : ℕ) (x : Range) where
  module _ (h : t < p.reads) (b : Bool) (isb : b ≡ passes_by f x) where
    pub put_past : b ≡ true → (at : ℕ) → at ≡ min f.at k → ◌≡◌ {A = Put} (record { at = at; range = pair f.low f.high }) (put_at p f t k x)
    unfolding put_at
    put_past e at is = let z : passes_by f x ≡ true = sym isb ∙ e in rw (lt-ltb t p.reads h, z, is)

    module _ (e : b ≡ false) (c : Bool) (isc : c ≡ stays_by f x) where
      pub put_stays : c ≡ true → (at : ℕ) → at ≡ min f.at k → ◌≡◌ {A = Put} (record { at = at; range = x }) (put_at p f t k x)
      unfolding put_at
      put_stays d at is = let z : passes_by f x ≡ false = sym isb ∙ e in let y : stays_by f x ≡ true = sym isc ∙ d in rw (lt-ltb t p.reads h, z, y, is)

      pub put_joined : c ≡ false → ◌≡◌ {A = Put} (record { at = k; range = x }) (put_at p f t k x)
      unfolding put_at
      put_joined d = let z : passes_by f x ≡ false = sym isb ∙ e in let y : stays_by f x ≡ false = sym isc ∙ d in rw (lt-ltb t p.reads h, z, y)

  module _ (h : p.reads ≤ t) where
    pub put_last : k < p.n → ◌≡◌ {A = Put} (record { at = k; range = pair p.low p.high }) (put_at p f t k x)
    unfolding put_at
    put_last l = rw (le-ltb t p.reads h, lt-ltb k p.n l)

    pub put_zero : p.n ≤ k → ◌≡◌ {A = Put} (record { at = k; range = pair 0 0 }) (put_at p f t k x)
    unfolding put_at
    put_zero l = rw (le-ltb t p.reads h, le-ltb k p.n l)

  -- a step writes no range behind the position that it read
  pub put_inside : (put_at p f t k x).at ≤ k
  unfolding put_at
  put_inside = go (ltb t p.reads) (passes_by f x) (stays_by f x) refl refl refl
    where
      go : (a b c : Bool) → ltb t p.reads ≡ a → passes_by f x ≡ b → stays_by f x ≡ c → (put_at p f t k x).at ≤ k
      go false b c e g h = rw e (let z : k ≤ k = omega arith in z)
      go true true c e g h = rw (e, g) (let z : min f.at k ≤ k = omega arith in z)
      go true false true e g h = rw (e, g, h) (let z : min f.at k ≤ k = omega arith in z)
      go true false false e g h = rw (e, g, h) (let z : k ≤ k = omega arith in z)

-- ---- one step after the other

after_next : (p : Plan) (slice : List Range) (t : ℕ) → after p slice (t + 1) ≡ stepped p t (after p slice t).0 (after p slice t).1
unfolding after
after_next p slice t = ap (after p slice) (add-one t)

module _ (p : Plan) (slice : List Range) (t k : ℕ) (cur : List Range) (f : Scan) (list : cur ≡ (after p slice t).0) (pass : f ≡ (after p slice t).1) (reads : k ≡ read_at p t) where
  pub next_list : (u : Put) → u ≡ put_at p f t k (get_or cur k (pair 0 0)) → set cur u.at u.range ≡ (after p slice (t + 1)).0
  next_list u is = rw (after_next p slice t, is, reads, list, pass)

  pub next_pass : (g : Scan) → g ≡ scanned_by f (t + 1) (get_or cur k (pair 0 0)) → g ≡ (after p slice (t + 1)).1
  next_pass g is = is ∙ rw (after_next p slice t, reads, list, pass)

pub turns_begun : (p : Plan) (slice : List Range) (f : Scan) → f ≡ scan_start p.start p.end → (slice ≡ (after p slice 0).0) × (f ≡ (after p slice 0).1)
unfolding after
turns_begun p slice f is = (refl, is)

pub turns_done : (p : Plan) (slice : List Range) (t : ℕ) (cur : List Range) → cur ≡ (after p slice t).0 → t ≤ p.steps → p.steps ≤ t → cur ≡ rewritten p slice
unfolding rewritten
turns_done p slice t cur is low high = let e : t ≡ p.steps = omega arith in is ∙ ap (λ (m : ℕ). (after p slice m).0) e
