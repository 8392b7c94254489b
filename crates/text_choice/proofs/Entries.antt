-- Texts in another order: gathered or not alike, to reports of the same number of entries, however their paths are spelled. Assumes nothing.
use Prim.Native.Nat.{ℕ, ◌≤◌, Ordering}
use native.Mathlib.Omega.{arith}
use mathlib.Core.Path.{◌≡◌, refl, sym, ap, ◌∙◌}
use mathlib.Core.Bool.{Bool, true}
use mathlib.Core.List.Memᴰ
use mathlib.Core.List.Memᴰ.{head as here}
use mathlib.Core.List.Memᴰ.{tail as there}
use mathlib.Core.List.{List, [], ◌∷◌, map, Memᴰ as Member}
use mathlib.Core.List.Permᴰ.{map as p-map}
use mathlib.Core.List.Permᴰ.{symm as p-symm}
use mathlib.Core.List.{Permᴰ as Perm}
use lib.Dec.{leb, eqb}
use lib.ListN.{length}
use Rattle.ordmap.specs.Result.{value, map_accepted}
use Rattle.ordmap.specs.Keyed.{Order, Sorted}
use Rattle.ordmap.proofs.Results.{impossible, map_accepted-accepted, value_both}
use Rattle.ordmap.proofs.Members.{above_member}
use Rattle.ordmap.proofs.Perms.{perm_member, perm_only, perm_flat, perm_of_times}
use Rattle.ordmap.proofs.Gathered.{read_all_perm}
use Rattle.model.specs.declared.Kind.{Kind}
use Rattle.model.specs.declared.Mode.TheVariants.{Checked}
use Rattle.model.specs.Bytes.{Bytes, same_bytes}
use Rattle.model.specs.Limits.{u64_max}
use Rattle.model.specs.Answer.{accepted}
use Rattle.model.specs.Report.{Item, Entry, Report, Key, compare_keys, entry_key, start_of, checksum_of}
use Rattle.model.specs.Reading.{read_text}
use Rattle.model.specs.Bundle.{Text, contents}
use Rattle.model.specs.Gather.{gather_texts}
use Rattle.model.specs.Joined.{all_entries, HasKey, items_at, agreeing, total, joined_report, at_each_key, summed_of, SameTexts}
use Rattle.model.proofs.ListLaws.{all-each, each_all}
use Rattle.model.proofs.KeyOrder.{keys-order, bytes_same}
use Rattle.model.proofs.AnyOrder.{number_same, agreeing_perm, total_perm}
use Rattle.model.proofs.JoinedLaws.{joined-sorted, joined-keys}
use Rattle.model.proofs.Demand.{texts-exactly}

-- ---- sorted lists by their keys

module _ {E K : Type 0} (key : E → K) (cmp : K → K → Ordering) (L : Order cmp) where
  apart : {a b : K} → cmp a b ≡ Ordering.lt → a ≡ b → ⊥
  apart {a} {b} h e =
      let z : Ordering.eq ≡ Ordering.lt = sym (L.same a) ∙ ap (cmp a) e ∙ h in
      impossible cc

  abbrev KeyIn : K → List E → Type 0
  KeyIn k l = (f : E) × Member f l × (key f ≡ k)

  -- a sorted list whose keys are all in another one is no longer
  keys_length : (l m : List E) → Sorted key cmp l → Sorted key cmp m → ((e : E) → Member e l → KeyIn (key e) m) → length l ≤ length m
  keys_length [] m s t h = omega arith
  keys_length (x ∷ xs) [] s t h = absurd (Memᴰ.not-nil (h x (here refl)).1)
  keys_length (x ∷ xs) (y ∷ ys) s t h =
      go (cmp (key x) (key y)) refl (λ g. keys_length xs ys s.1 t.1 g) (λ g. keys_length (x ∷ xs) ys s t.1 g)
    where
      go : (o : Ordering) → cmp (key x) (key y) ≡ o → (((e : E) → Member e xs → KeyIn (key e) ys) → length xs ≤ length ys)
          → (((e : E) → Member e (x ∷ xs) → KeyIn (key e) ys) → length (x ∷ xs) ≤ length ys) → length (x ∷ xs) ≤ length (y ∷ ys)
      go Ordering.lt p same past = absurd (none (h x (here refl)))
        where
          none : KeyIn (key x) (y ∷ ys) → ⊥
          none (f, here q, r) = apart p (sym r ∙ ap key q)
          none (f, there j, r) = apart (L.trans p (above_member key cmp t.0 j)) (sym r)
      go Ordering.eq p same past = omega (arith, same (λ e i. later e i (h e (there i))))
        where
          later : (e : E) → Member e xs → KeyIn (key e) (y ∷ ys) → KeyIn (key e) ys
          later e i (f, here q, r) = absurd (apart (above_member key cmp s.0 i) (L.equal p ∙ sym (ap key q) ∙ r))
          later e i (f, there j, r) = (f, j, r)
      go Ordering.gt p same past = omega (arith, past (λ e i. later e (above e i) (h e i)))
        where
          above : (e : E) → Member e (x ∷ xs) → cmp (key y) (key e) ≡ Ordering.lt
          above e (here q) = rw q (L.less p)
          above e (there i) = L.trans (L.less p) (above_member key cmp s.0 i)

          later : (e : E) → cmp (key y) (key e) ≡ Ordering.lt → KeyIn (key e) (y ∷ ys) → KeyIn (key e) ys
          later e c (f, here q, r) = absurd (apart c (sym (ap key q) ∙ r))
          later e c (f, there j, r) = (f, j, r)

-- ---- reports in another order

-- a test of the items at each key that does not ask for their order
each_perm : (test : List Item → Bool) → ((is js : List Item) → Perm is js → test is ≡ true → test js ≡ true)
    → (rs qs : List Report) → Perm rs qs → at_each_key test rs ≡ true → at_each_key test qs ≡ true
unfolding items_at
each_perm test inv rs qs d h =
    each_all (λ e. test (items_at (entry_key e) qs)) (all_entries qs)
    (λ e i. inv (items_at (entry_key e) rs) (items_at (entry_key e) qs) (p-map (λ (e : Entry). e.item) (perm_only entry_key compare_keys (entry_key e) (perm_flat d)))
    (all-each (λ e. test (items_at (entry_key e) rs)) (all_entries rs) h e (perm_member (p-symm (perm_flat d)) i)))

fewer : (rs qs : List Report) → Perm rs qs → length (joined_report rs) ≤ length (joined_report qs)
fewer rs qs d =
    keys_length entry_key compare_keys keys-order (joined_report rs) (joined_report qs) (joined-sorted rs) (joined-sorted qs)
    (λ e i. (joined-keys qs (entry_key e)).1 (moved (entry_key e) ((joined-keys rs (entry_key e)).0 (e, i, refl))))
  where
    moved : (k : Key) → HasKey k (all_entries rs) → HasKey k (all_entries qs)
    moved k (e, i, p) = (e, perm_member (perm_flat d) i, p)

pub entries_perm : (rs qs : List Report) → Perm rs qs → length (joined_report rs) ≡ length (joined_report qs)
entries_perm rs qs d = omega (arith, fewer rs qs d, fewer qs rs (p-symm d))

-- ---- texts in another order

module _ (tag : Kind → Bytes) where
  counted_back : (limit : ℕ) (ts us : List Text) → Perm (contents ts) (contents us)
      → (n : ℕ) → map_accepted length (gather_texts tag Checked limit ts []) ≡ accepted n → map_accepted length (gather_texts tag Checked limit us []) ≡ accepted n
  counted_back limit ts us d n p =
      let (m, g, e) = map_accepted-accepted length (gather_texts tag Checked limit ts []) p in
      let (rs, G, f) = (texts-exactly tag limit ts m).0 g in
      let (qs, q, o) = read_all_perm (read_text tag limit) rs d G.readable in
      let same : length (joined_report rs) ≡ length (joined_report qs) = entries_perm rs qs o in
      let H : gather_texts tag Checked limit us [] ≡ accepted (joined_report qs) =
      (texts-exactly tag limit us (joined_report qs)).1 (
        qs,
        record {
          readable = q;
          starts_agree_lem = each_perm (λ items. agreeing eqb (map start_of items)) (λ is js c h. agreeing_perm eqb number_same (p-map start_of c) h) rs qs o G.starts_agree_lem;
          checksums_agree_lem =
              each_perm (λ items. agreeing same_bytes (map checksum_of items)) (λ is js c h. agreeing_perm same_bytes bytes_same (p-map checksum_of c) h) rs qs o G.checksums_agree_lem;
          sums_fit_lem =
              each_perm (λ items. leb (total (map summed_of items)) u64_max)
              (λ is js c h. ap (λ (n : ℕ). leb n u64_max) (sym (total_perm (p-map summed_of c))) ∙ h) rs qs o G.sums_fit_lem;
          within_limit = omega (arith, G.within_limit, same);
        },
        refl,
      ) in
      let k : length (joined_report qs) ≡ n = sym same ∙ sym (ap length f) ∙ e in
      rw (H, k)

  -- ENTRIES: accepted or not alike, with the same number of entries
  pub texts-counted : (limit : ℕ) (ts us : List Text) → SameTexts ts us
      → value (map_accepted length (gather_texts tag Checked limit ts [])) ≡ value (map_accepted length (gather_texts tag Checked limit us []))
  texts-counted limit ts us s =
      value_both (map_accepted length (gather_texts tag Checked limit ts [])) (map_accepted length (gather_texts tag Checked limit us []))
      (counted_back limit ts us d) (counted_back limit us ts (p-symm d))
    where
      d : Perm (contents ts) (contents us)
      d = perm_of_times same_bytes bytes_same (contents ts) (contents us) s
