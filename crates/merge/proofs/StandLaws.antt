-- Entries merged one after the other into a table that may be full: "11 to 13 in walk order .., then 10" (SPEC 5.3). The new ones are kept
-- apart, so what is joined here is not all that the model has joined; but it is the same at the keys that are still to come, and so refuses
-- the same. Assumes nothing.
use Prim.Native.Nat.{ℕ, ◌+◌, ◌≤◌, ◌<◌, Ordering}
use native.Mathlib.Nat.{lt_of_lt_of_le}
use native.Mathlib.Omega.{arith}
use mathlib.Core.Path.{◌≡◌, refl, sym, ap, ap₂, ◌∙◌}
use mathlib.Core.Bool.{Bool, true, false, cond}
use mathlib.Core.Option.{Option, none, some}
use mathlib.Core.List.Memᴰ.{head as here}
use mathlib.Core.List.Memᴰ.{tail as there}
use mathlib.Core.List.{[], ◌∷◌, ◌++◌, Memᴰ as Member}
use lib.Dec.{compare_is_eq}
use lib.ListN.{length, length-append}
use Rattle.ordmap.specs.Result.{accepted, refused, bind, map_accepted}
use Rattle.ordmap.specs.Keyed.{by_order, Sorted, find, step, add_all}
use Rattle.ordmap.proofs.Results.{impossible, accepted_inj, map_accepted-accepted, map_accepted-refused}
use Rattle.ordmap.proofs.Maps.{find-above, above-trans}
use Rattle.ordmap.proofs.Members.{above_member}
use Rattle.ordmap.proofs.Adding.{add-sorted, add-found, add-other}
use Rattle.ordmap.proofs.Sizes.{add-length, add_all-append}
use Rattle.table_interleave.proofs.OrderLaws.{add-before}
use Rattle.model.specs.declared.Fault.TheVariants.{TooManyEntries}
use Rattle.model.specs.declared.Mode.{Mode}
use Rattle.model.specs.declared.Refusal.{Refusal}
use Rattle.model.specs.Answer.{Answer, refuse}
use Rattle.model.specs.Report.{Entry, Report, entry_key, compare_keys, combine_entries, merge, within}
use Rattle.model.proofs.KeyOrder.{keys-order}
use Rattle.model.proofs.Entries.{entries_keyed}
use Rattle.section_upsert.proofs.UpsertLaws.{within-fits, within-past}
use Rattle.merge.specs.Walking.{added}

abbrev pub counted : ℕ → Answer Report → Answer Report
counted limit answer = bind answer (λ joined. within limit (length joined) joined)

abbrev pub all : Mode → Report → Report → Answer Report
all mode es m = add_all entry_key compare_keys (combine_entries mode) es m

-- the entry of another's key
abbrev seek : Entry → Report → Option Entry
seek e = find entry_key compare_keys (entry_key e)

-- ---- how many entries a map has with one more

-- 1 where the key was not there
abbrev one_if_none : Option Entry → ℕ
one_if_none none = 1
one_if_none (some x) = 0

module _ (mode : Mode) (e : Entry) where
  add-counts : (m n : Report) → Sorted entry_key compare_keys m → added mode e m ≡ accepted n → length n ≡ length m + one_if_none (seek e m)
  add-counts [] n s p = ap length (sym (accepted_inj p))
  add-counts (x ∷ xs) n s p = go (compare_keys (entry_key e) (entry_key x)) refl p (λ ys q. add-counts xs ys s.1 q)
    where
      go : (o : Ordering) → compare_keys (entry_key e) (entry_key x) ≡ o
          → by_order o (accepted (e ∷ x ∷ xs)) (map_accepted (λ y. y ∷ xs) (combine_entries mode x e)) (map_accepted (λ ys. x ∷ ys) (added mode e xs)) ≡ accepted n
          → ((ys : Report) → added mode e xs ≡ accepted ys → length ys ≡ length xs + one_if_none (seek e xs))
          → length n ≡ length (x ∷ xs) + one_if_none (cond (compare_is_eq o) (some x) (seek e xs))
      go Ordering.lt o q r =
          rw (find-above entry_key compare_keys keys-order (entry_key e) xs (above-trans entry_key compare_keys keys-order xs o s.0))
          (omega (arith, ap length (accepted_inj q)))
      go Ordering.eq o q r =
          let (y, c, f) = map_accepted-accepted (λ y. y ∷ xs) (combine_entries mode x e) q in
          omega (arith, ap length f)
      go Ordering.gt o q r =
          let (ys, c, f) = map_accepted-accepted (λ ys. x ∷ ys) (added mode e xs) q in
          omega (arith, ap length f, r ys c)

-- ---- the walk

-- the entries still to come, merged into what the model has joined, give the whole answer; what is joined here with what is new is that, or the
-- limit is past
pub record Standing (mode : Mode) (limit : ℕ) (whole : Answer Report) (rest joined news : Report) (full : Bool) : Type 0 where
  pub model : Report
  pub goes : counted limit (all mode rest model) ≡ whole
  pub sorted : Sorted entry_key compare_keys model
  pub same : full ≡ false → all mode news joined ≡ accepted model
  pub count : full ≡ false → length model ≡ length joined + length news
  pub past : full ≡ true → limit < length model
  pub alike : (e : Entry) → Member e rest → seek e model ≡ seek e joined

pub standing_start : (mode : Mode) (limit : ℕ) (into other : Report) → Sorted entry_key compare_keys into
    → Standing mode limit (counted limit (merge mode into other)) other into [] false
unfolding merge
standing_start mode limit into other s = record {
  model = into;
  goes = refl;
  sorted = s;
  same = λ e. refl;
  count = λ e. omega arith;
  past = λ e. impossible cc;
  alike = λ e i. refl;
}

module _ {mode : Mode} {limit : ℕ} {whole : Answer Report} {e : Entry} {rest joined news : Report} {full : Bool}
    (σ : Standing mode limit whole (e ∷ rest) joined news full) (s : Sorted entry_key compare_keys joined)
    (t : Sorted entry_key compare_keys (e ∷ rest)) where
  -- the entry meets the same on both
  meets : map_accepted (seek e) (added mode e σ.model) ≡ map_accepted some (step (combine_entries mode) (seek e joined) e)
  meets =
      add-found entry_key compare_keys (combine_entries mode) keys-order (entries_keyed mode) e σ.model σ.sorted
      ∙ ap (λ (x : Option Entry). map_accepted some (step (combine_entries mode) x e)) (σ.alike e (here refl))

  met : map_accepted (seek e) (added mode e joined) ≡ map_accepted some (step (combine_entries mode) (seek e joined) e)
  met = add-found entry_key compare_keys (combine_entries mode) keys-order (entries_keyed mode) e joined s

  pub standing_refused : (r : Refusal) → added mode e joined ≡ refused r → refused r ≡ whole
  standing_refused r p =
      let q : added mode e σ.model ≡ refused r =
      map_accepted-refused (seek e) (added mode e σ.model) (meets ∙ sym met ∙ ap (map_accepted (seek e)) p) in
      ap (λ (a : Answer Report). counted limit (bind a (λ n. all mode rest n))) (sym q) ∙ σ.goes

  later : (a : Entry) → Member a rest → compare_is_eq (compare_keys (entry_key a) (entry_key e)) ≡ false
  later a i = ap compare_is_eq (keys-order.greater (above_member entry_key compare_keys t.0 i))

  other : (m n : Report) → added mode e m ≡ accepted n → (a : Entry) → Member a rest
      → seek a n ≡ seek a m
  other m n p a i = add-other entry_key compare_keys (combine_entries mode) keys-order (entries_keyed mode) (entry_key a) e m n (later a i) p

  -- where the entry is taken here, the model takes it
  taken : (y : Entry) → step (combine_entries mode) (seek e joined) e ≡ accepted y → (n : Report) × (added mode e σ.model ≡ accepted n)
  taken y p =
      let (n, q, f) = map_accepted-accepted (seek e) (added mode e σ.model) (meets ∙ ap (map_accepted some) p) in
      (n, q)

  module _ (n : Report) (q : added mode e σ.model ≡ accepted n) where
    goes_on : counted limit (all mode rest n) ≡ whole
    goes_on = ap (λ (a : Answer Report). counted limit (bind a (λ l. all mode rest l))) (sym q) ∙ σ.goes

    sorted_on : Sorted entry_key compare_keys n
    sorted_on = add-sorted entry_key compare_keys (combine_entries mode) keys-order (entries_keyed mode) e σ.model n σ.sorted q

    past_on : full ≡ true → limit < length n
    past_on f = lt_of_lt_of_le (σ.past f) (add-length entry_key compare_keys (combine_entries mode) e σ.model n q)

    -- as many more as here
    count_on : full ≡ false → length n ≡ length joined + length news + one_if_none (seek e joined)
    count_on f = add-counts mode e σ.model n σ.sorted q ∙ ap₂ ◌+◌ (σ.count f) (ap one_if_none (σ.alike e (here refl)))

  -- ---- the entry was joined with the one of its key

  pub standing_known : (joined' : Report) → added mode e joined ≡ accepted joined'
      → ((a : Entry) → Member a news → compare_is_eq (compare_keys (entry_key e) (entry_key a)) ≡ false)
      → Standing mode limit whole rest joined' news full
  standing_known joined' p others =
      let (y, c, f) = map_accepted-accepted some (step (combine_entries mode) (seek e joined) e)
      (sym met ∙ ap (map_accepted (seek e)) p) in
      let (n, q) = taken y c in
      record {
        model = n;
        goes = goes_on n q;
        sorted = sorted_on n q;
        same = λ g. add-before entry_key compare_keys (combine_entries mode) keys-order (entries_keyed mode) e news joined joined' σ.model n s others p
            (σ.same g) q;
        count = λ g. omega (arith, count_on n q g, add-counts mode e joined joined' s p);
        past = past_on n q;
        alike = λ a i. other σ.model n q a i ∙ σ.alike a (there i) ∙ sym (other joined joined' p a i);
      }

  -- ---- its key is new

  module _ (absent : seek e joined ≡ none) where
    accepts : (n : Report) × (added mode e σ.model ≡ accepted n)
    accepts = taken e (ap (λ (x : Option Entry). step (combine_entries mode) x e) absent)

    one_more : (n : Report) → added mode e σ.model ≡ accepted n → full ≡ false → length n ≡ length joined + length news + 1
    one_more n q f = rw absent at (count_on n q f)

    pub standing_fresh : Standing mode limit whole rest joined (news ++ e ∷ []) full
    standing_fresh =
        let (n, q) = accepts in
        record {
          model = n;
          goes = goes_on n q;
          sorted = sorted_on n q;
          same = λ g. add_all-append entry_key compare_keys (combine_entries mode) news (e ∷ []) joined ∙ rw (σ.same g, q);
          count = λ g. omega (arith, one_more n q g, length-append news (e ∷ []));
          past = past_on n q;
          alike = λ a i. other σ.model n q a i ∙ σ.alike a (there i);
        }

    pub standing_left : limit ≤ length joined + length news → Standing mode limit whole rest joined news true
    standing_left h =
        let (n, q) = accepts in
        record {
          model = n;
          goes = goes_on n q;
          sorted = sorted_on n q;
          same = λ g. impossible cc;
          count = λ g. impossible cc;
          past = λ g. over n q full refl;
          alike = λ a i. other σ.model n q a i ∙ σ.alike a (there i);
        }
      where
        over : (n : Report) → added mode e σ.model ≡ accepted n → (b : Bool) → full ≡ b → limit < length n
        over n q true f = past_on n q f
        over n q false f = omega (arith, one_more n q f)

-- ---- the end

module _ {mode : Mode} {limit : ℕ} {whole : Answer Report} {joined news : Report} {full : Bool}
    (σ : Standing mode limit whole [] joined news full) where
  -- what is joined here with what is new
  pub standing_fits : (both : Report) → full ≡ false → all mode news joined ≡ accepted both → length both ≤ limit → accepted both ≡ whole
  standing_fits both f p h =
      let e : σ.model ≡ both = accepted_inj (sym (σ.same f) ∙ p) in
      sym (within-fits limit (length both) both h) ∙ ap (λ (l : Report). within limit (length l) l) (sym e) ∙ σ.goes

  pub standing_full : full ≡ true → refuse TooManyEntries ≡ whole
  standing_full f = sym (within-past limit (length σ.model) σ.model (σ.past f)) ∙ σ.goes
