-- Sources read one after the other, and the maps read merged into one map that may hold `limit` entries. Assumes nothing.
use Rattle.std.specs.Prelude.{◌≡◌, Bool, true, cond, List, [], ◌∷◌, ◌++◌, leb, length}
use Prim.Native.Nat.{ℕ, suc, Ordering}
use Rattle.ordmap.specs.Result.{Result, accepted, refused, bind, map_accepted}
use Rattle.ordmap.specs.Keyed.{add_all}

abbrev pub flat : {A : Type 0} → List (List A) → List A
flat [] = []
flat (l ∷ ls) = l ++ flat ls

-- the value, or the refusal `full` where a number is past the limit
abbrev pub within : {R A : Type 0} → R → ℕ → ℕ → A → Result R A
within full limit n a = cond (leb n limit) (accepted a) (refused full)

-- the maps of the sources, or the first refusal
abbrev pub read_all : {R T E : Type 0} → (T → Result R (List E)) → List T → Result R (List (List E))
read_all read [] = accepted []
read_all read (t ∷ ts) = bind (read t) (λ r. map_accepted (λ rs. r ∷ rs) (read_all read ts))

-- a refusal changed
abbrev pub map_refused : {R A : Type 0} → (R → R) → Result R A → Result R A
map_refused f (accepted a) = accepted a
map_refused f (refused r) = refused (f r)

-- a source has its place among the sources, where a refusal is put, and its content, which is read
module _ {R T B E K : Type 0} (key : E → K) (cmp : K → K → Ordering) (combine : E → E → Result R E) (content : T → B)
    (read : B → Result R (List E)) (full : R) (limit : ℕ) (place : T → R → R) where
  -- one source: read, merged, and the limit tested
  abbrev pub gather_one : B → List E → Result R (List E)
  gather_one b m = bind (read b) (λ r. bind (add_all key cmp combine r m) (λ n. within full limit (length n) n))

  -- each source in turn
  abbrev pub gather_all : List T → List E → Result R (List E)
  gather_all [] m = accepted m
  gather_all (t ∷ ts) m = bind (map_refused (place t) (gather_one (content t) m)) (λ n. gather_all ts n)

-- how often an element occurs in a list, by a test of equality
abbrev pub times : {T : Type 0} → (T → T → Bool) → T → List T → ℕ
times same a [] = 0
times same a (x ∷ xs) = let n = times same a xs in cond (same a x) (suc n) n

-- a test of sameness
pub record Same {T : Type 0} (same : T → T → Bool) : Type 0 where
  pub same_refl : (a : T) → same a a ≡ true
  pub same_eq : (a b : T) → same a b ≡ true → a ≡ b
