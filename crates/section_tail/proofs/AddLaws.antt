-- A row is added to the open section with its tail: one law for each exit. Assumes nothing.
use mathlib.Core.Path.{◌≡◌, refl, sym, ap, ap₂, ◌∙◌}
use mathlib.Core.Logic.{◌≢◌}
use mathlib.Core.Bool.{Bool, true, false, cond}
use mathlib.Core.List.{List, [], ◌∷◌, ◌++◌}
use Prim.Native.Nat.{ℕ, ◌+◌, ◌-◌, ◌≤◌, ◌<◌}
use native.Mathlib.Omega.{arith}
use lib.ListN.{length}
use lib.Dec.{compare_is_eq}
use Rattle.table.specs.declared.Row.{Row}
use Rattle.table.specs.Places.{Unchanged, Updated}
use Rattle.table.specs.Rows.{UnchangedOutside}
use Rattle.table.specs.Store.{row, Store}
use Rattle.table.proofs.PlaceLaws.{by-eq, by-lt}
use Rattle.table.proofs.WordLaws.{kept_wider}
use Rattle.ordmap.specs.Result.{accepted, bind}
use Rattle.ordmap.specs.Keyed.{add}
use Rattle.ordmap.proofs.Results.{accepted_inj, not_accepted, bind-accepted}
use Rattle.model.specs.declared.Fault.{Fault}
use Rattle.model.specs.Limits.{u64_max}
use Rattle.model.specs.Bytes.{compare_bytes}
use Rattle.model.specs.Answer.{Answer}
use Rattle.model.specs.Report.{Item, item_key, compare_items, within}
use Rattle.model.specs.Order.{is_less}
use Rattle.model.specs.Reading.{add_calls}
use Rattle.ordmap.proofs.Orderings.{is_eq}
use Rattle.section_upsert.proofs.ItemLaws.{same_key}
use Rattle.section_upsert.proofs.RangeLaws.{same-items}
use Rattle.table_item.specs.Items.{item_of, ItemRow}
use Rattle.table_item.specs.SortedItems.{item_from, items_at}
use Rattle.std.specs.Prelude.{Result, Ok, Err, Option as LentOption, Some}
use Rattle.table_item.specs.Combining.{combine_of, seen_one, InnerOne, is_calls, calls_of, renewed}
use Rattle.table_item.proofs.SearchLaws.{found-last}
use Rattle.section_upsert.specs.declared.PartSizes.{PartSizes}
use Rattle.section_upsert.specs.Upserted.{parts}
use Rattle.section_upsert.specs.MainDelta.{all_at}
use Rattle.section_upsert.specs.Upserted.{Upserted as Exact}
use Rattle.section_upsert.proofs.UpsertLaws.{within-fits, within-past, upserted_last}
use Rattle.section_tail.specs.declared.OpenSizes.{OpenSizes}
use Rattle.section_tail.specs.Tail.{include, include_all, end_of, items_of, calls_in, calls_at, more_calls, with_tail, CallsWithin, RowOfLine, OpenSection}
use Rattle.section_tail.specs.RowAdded.{RowAdded}
use Rattle.section_tail.proofs.TailLaws.{included_last}
use Rattle.section_tail.proofs.CallLaws.{key_calls, key-calls, calls-append, calls-one, added-calls, line_included, calls_exact, renewed-calls, include_twice}
use Rattle.section_tail.proofs.ItemLaws.{held-length, held-calls, none_included, included_none, items-last, same-all, same_included}

within_same : (limit n : ℕ) (l : List Item) {m : List Item} → within limit n l ≡ accepted m → l ≡ m
within_same limit n l p = by-lt limit n (λ h. absurd (not_accepted (sym (within-past limit n l h) ∙ p))) (λ h. accepted_inj (sym (within-fits limit n l h) ∙ p))

-- ---- a row put behind the tail

module _ {text ws ws' : List ℕ} {index used spare at place : ℕ} {s : OpenSizes} (κ : OpenSection text ws index used spare at s) (x : Row) (f : place ≡ end_of at s) (y : s.delta ≡ 0) (l : place < used)
    (w : index + used ≤ spare) (ι : ItemRow text x) (σ : Store ws' index used) (π : Updated (row ws index) (row ws' index) used place x) (kept : UnchangedOutside ws ws' 0 (index + used))
    (turns calls : ℕ) (c : calls < u64_max) (d : calls_at text ws index at s + calls_of (item_of text x) ≤ calls) where
  abbrev longer : OpenSizes
  longer = record { main = s.main; delta = s.delta; tail = s.tail + 1; flushes = turns; calls = calls }

  there : row ws' index (end_of at s) ≡ x
  there = ap (row ws' index) (sym f) ∙ π.there

  same : Unchanged (row ws index) (row ws' index) 0 (end_of at s)
  same k p q = π.others k (omega arith) (omega arith)

  abbrev tail : List Item
  tail = items_at text ws index (at + s.main + s.delta) s.tail

  κ₀ : OpenSection text ws' index used spare at s
  κ₀ = same_included text ws ws' index at s same used κ σ (omega arith) (kept_wider kept (omega arith) w)

  tail' : items_at text ws' index (at + s.main + s.delta) (s.tail + 1) ≡ tail ++ item_of text x ∷ []
  tail' =
      items-last (item_from text ws' index (at + s.main + s.delta)) s.tail
      ∙ ap₂ (λ (l : List Item) (x : Row). l ++ item_of text x ∷ []) (same-items text ws ws' index (at + s.main + s.delta) s.tail (λ k a b. same k (omega arith) b)) there

  parts' : all_at text ws' index at s.main s.delta ≡ all_at text ws index at s.main s.delta
  parts' = same-all text ws ws' index at s.main s.delta (λ k a b. same k a (omega arith))

  pub appended_open : OpenSection text ws' index used spare at longer
  appended_open = record {
    parts = κ₀.parts;
    alone = λ h. y;
    counted = λ h. c;
    room = omega arith;
    inner = λ k h. by-eq k s.tail
        (λ q. rw q (rw there ι))
        (λ q. κ₀.inner k (omega arith));
    calls = λ h. omega (arith, d, ap calls_in parts', ap calls_in tail', calls-append tail (item_of text x ∷ []), calls-one (item_of text x));
  }

  pub appended_items : items_of text ws' index at longer ≡ include (item_of text x) (items_of text ws index at s)
  appended_items = ap₂ include_all parts' tail' ∙ included_last tail (item_of text x) (all_at text ws index at s.main s.delta)

-- ---- a row of a line

module _ {text ws : List ℕ} {index used spare at : ℕ} {s : OpenSizes} (r : Row) (adds : Bool) (κ : OpenSection text ws index used spare at s) (λ' : RowOfLine adds r) where
  abbrev e : Item
  e = item_of text r

  abbrev held : List Item
  held = items_of text ws index at s

  abbrev counted : List Item → Answer (List Item)
  counted l = bind (add item_key compare_bytes (combine_of adds) e l) (λ items. within used (at + length items) items)

  -- the calls with those of the row
  abbrev more : ℕ
  more = more_calls adds s.calls r.count

  more_within : {n m : ℕ} → CallsWithin n s.calls → m ≤ n + calls_of e → CallsWithin m more
  more_within {n} {m} c h = go adds (λ'.counts text)
    where
      go : (a : Bool) → calls_of e ≡ cond a r.count 0 → CallsWithin m (more_calls a s.calls r.count)
      go true q l = omega (arith, h, c (omega arith))
      go false q l = omega (arith, h, c l)

  more-fits : s.calls + cond adds r.count 0 < u64_max → more < u64_max
  more-fits f = go adds f
    where
      go : (a : Bool) → s.calls + cond a r.count 0 < u64_max → more_calls a s.calls r.count < u64_max
      go true h = omega arith
      go false h = omega arith

  -- ---- the tail is empty

  module _ (z : s.tail ≡ 0) {ws' : List ℕ} where
    pub exact_items : {n p turns : ℕ} → Exact text ws ws' index used spare at s.main s.delta r adds (parts n p)
        → RowAdded text ws ws' index used spare at s r adds (Ok (record { main = n; delta = p; tail = 0; flushes = turns; calls = more_calls adds s.calls r.count }))
    exact_items {n} {p} {turns} ε = record {
      items = held';
      still = included_none s' refl ε.still (more_within (held-calls κ) (added-calls adds e held (λ'.adding text) entered));
      others = ε.others;
    }
      where
        s' : OpenSizes
        s' = record { main = n; delta = p; tail = 0; flushes = turns; calls = more }

        held' : accepted (items_of text ws' index at s') ≡ counted held
        held' = ap accepted (none_included text ws' index at s' refl) ∙ ε.items ∙ ap counted (sym (none_included text ws index at s z))

        entered : add item_key compare_bytes (combine_of adds) e held ≡ accepted (items_of text ws' index at s')
        entered =
            let (l, a, w) = bind-accepted (add item_key compare_bytes (combine_of adds) e held) (λ items. within used (at + length items) items) (sym held') in
            a ∙ ap accepted (within_same used (at + length l) l w)

    pub exact_refused : {fault : Fault} → Exact text ws ws' index used spare at s.main s.delta r adds (Err fault)
        → RowAdded text ws ws' index used spare at s r adds (Err fault)
    exact_refused ε = record { items = ε.items ∙ ap counted (sym (none_included text ws index at s z)); still = tt; others = ε.others }

    -- the row comes after the last
    pub after_last : {last : Row} {turns : ℕ} → s.delta ≡ 0 → s.main ≢ 0 → at + s.main < used → ItemRow text r
        → last ≡ row ws index (at + (s.main - 1)) → is_less (compare_items (item_of text last) (item_of text r)) ≡ true
        → Store ws' index used → Updated (row ws index) (row ws' index) used (at + s.main) r
        → RowAdded text ws ws' index used spare at s r adds (Ok (record { main = s.main + 1; delta = 0; tail = 0; flushes = turns; calls = more_calls adds s.calls r.count }))
    after_last {last} y n l ι f b σ π =
        exact_items (upserted_last text ws index used spare at s.main s.delta r adds κ.parts ws' y
        (found-last κ.parts.main n (ap (λ (x : Row). is_less (compare_items (item_of text x) (item_of text r))) (sym f) ∙ b)).is l ι σ π)

  -- ---- the row is added to the tail

  module _ (f : s.calls + cond adds r.count 0 < u64_max) where
    -- its calls fit with those of all rows
    fitting : adds ≡ true → key_calls (item_key e) held + calls_of e ≤ u64_max
    fitting a = omega (arith, f, λ'.counts text, key-calls (item_key e) held, held-calls κ (omega (arith, f)))

    enough : calls_at text ws index at s + calls_of e ≤ more
    enough = go adds (λ'.counts text) f
      where
        go : (a : Bool) → calls_of e ≡ cond a r.count 0 → s.calls + cond a r.count 0 < u64_max → calls_at text ws index at s + calls_of e ≤ more_calls a s.calls r.count
        go true q h = omega (arith, κ.calls (omega arith))
        go false q h = omega (arith, κ.calls (omega arith))

    tail_added : {ws' : List ℕ} (s' : OpenSizes) → OpenSection text ws' index used spare at s' → items_of text ws' index at s' ≡ include e held → accepted (items_of text ws' index at s') ≡ counted held
    tail_added s' κ' held' =
        ap accepted held'
        ∙ sym (ap (λ (x : Answer (List Item)). bind x (λ items. within used (at + length items) items)) (line_included adds e held (λ'.adding text) fitting)
        ∙ within-fits used (at + length (include e held)) (include e held) (omega (arith, ap length held', held-length κ', κ'.room)))

    module _ {ws' : List ℕ} {place : ℕ} (w : index + used ≤ spare) (ι : ItemRow text r) (σ : Store ws' index used) (kept : UnchangedOutside ws ws' 0 (index + used)) where
      -- the row is appended
      pub included_next : {turns : ℕ} → place ≡ end_of at s → s.delta ≡ 0 → place < used → Updated (row ws index) (row ws' index) used place r
          → RowAdded text ws ws' index used spare at s r adds
          (Ok (record { main = s.main; delta = s.delta; tail = s.tail + 1; flushes = turns; calls = more_calls adds s.calls r.count }))
      included_next {turns} p y l π =
          let κ' = appended_open κ r p y l w ι σ π kept turns more (more-fits f) enough in
          record {
            items = tail_added _ κ' (appended_items κ r p y l w ι σ π kept turns more (more-fits f) enough);
            still = κ';
            others = λ k a b. π.others k (omega arith) (omega arith);
          }

      -- the row is combined with the last one of the tail
      pub included_last-row : {last both : Row} → place + 1 ≡ end_of at s → s.tail ≢ 0 → last ≡ row ws index place → adds ≡ true → compare_is_eq (compare_items (item_of text r) (item_of text last)) ≡ true
          → seen_one text (Some both) ≡ combine_of adds (item_of text last) (item_of text r) → (ItemRow text last → ItemRow text r → ItemRow text both)
          → Updated (row ws index) (row ws' index) used place both
          → RowAdded text ws ws' index used spare at s r adds (Ok (with_tail s 0 (more_calls adds s.calls r.count)))
      included_last-row {last} {both} p t g a q m ι' π = record {
        items = tail_added s' κ' held';
        still = κ';
        others = λ k a b. π.others k (omega arith) (omega arith);
      }
        where
          -- without the last row
          s₀ : OpenSizes
          s₀ = record { main = s.main; delta = s.delta; tail = s.tail - 1; flushes = s.flushes; calls = s.calls }

          s' : OpenSizes
          s' = with_tail s 0 more

          z : s.tail ≡ s.tail - 1 + 1
          z = omega arith

          old : List Item
          old = items_at text ws index (at + s.main + s.delta) (s.tail - 1)

          at_last : item_from text ws index (at + s.main + s.delta) (s.tail - 1) ≡ item_of text last
          at_last = ap (item_of text) (ap (row ws index) (let u : at + s.main + s.delta + (s.tail - 1) ≡ place = omega arith in u) ∙ sym g)

          tail₀ : items_at text ws index (at + s.main + s.delta) s.tail ≡ old ++ item_of text last ∷ []
          tail₀ =
              ap (items_at text ws index (at + s.main + s.delta)) z
              ∙ items-last (item_from text ws index (at + s.main + s.delta)) (s.tail - 1)
              ∙ ap (λ (x : Item). old ++ x ∷ []) at_last

          calls₀ : calls_at text ws index at s ≡ calls_at text ws index at s₀ + calls_of (item_of text last)
          calls₀ = omega (arith, ap calls_in tail₀, calls-append old (item_of text last ∷ []), calls-one (item_of text last))

          held₀ : held ≡ include (item_of text last) (items_of text ws index at s₀)
          held₀ = ap (include_all (all_at text ws index at s.main s.delta)) tail₀ ∙ included_last old (item_of text last) (all_at text ws index at s.main s.delta)

          κ₀ : OpenSection text ws index used spare at s₀
          κ₀ = record {
            parts = κ.parts;
            alone = λ h. κ.alone t;
            counted = λ h. κ.counted t;
            room = omega (arith, κ.room);
            inner = λ k h. κ.inner k (omega arith);
            calls = λ h. omega (arith, κ.calls h, calls₀);
          }

          b : is_calls e ≡ true
          b = λ'.adding text ∙ a

          exact : add_calls (item_of text last) e ≡ accepted (item_of text both)
          exact = ap (λ (x : Bool). combine_of x (item_of text last) e) (sym a) ∙ sym m

          both_is : item_of text both ≡ renewed (item_of text last) e
          both_is = calls_exact e b (item_of text last) exact

          inner_last : ItemRow text last
          inner_last = rw (g, let u : place ≡ at + s.main + s.delta + (s.tail - 1) = omega arith in u) (κ.inner (s.tail - 1) (omega arith))

          d : calls_at text ws index at s₀ + calls_of (item_of text both) ≤ more
          d = omega (arith, enough, calls₀, ap calls_of both_is, renewed-calls (item_of text last) e)

          y : s.delta ≡ 0
          y = κ.alone t

          κ'' : OpenSection text ws' index used spare at (record { main = s.main; delta = s.delta; tail = s.tail - 1 + 1; flushes = s.flushes; calls = more })
          κ'' = appended_open κ₀ both (omega arith) y (omega (arith, κ.room)) w (ι' inner_last ι) σ π kept s.flushes more (more-fits f) d

          held'' : items_of text ws' index at (record { main = s.main; delta = s.delta; tail = s.tail - 1 + 1; flushes = s.flushes; calls = more }) ≡ include (item_of text both) (items_of text ws index at s₀)
          held'' = appended_items κ₀ both (omega arith) y (omega (arith, κ.room)) w (ι' inner_last ι) σ π kept s.flushes more (more-fits f) d

          sizes : s.tail + 0 ≡ s.tail - 1 + 1
          sizes = omega arith

          κ' : OpenSection text ws' index used spare at s'
          κ' = rw sizes κ''

          held' : items_of text ws' index at s' ≡ include e held
          held' =
              rw sizes held''
              ∙ ap (λ (x : Item). include x (items_of text ws index at s₀)) both_is
              ∙ sym (include_twice (item_of text last) e b (sym (same_key e (item_of text last) (is_eq _ q))) (items_of text ws index at s₀))
              ∙ ap (include e) (sym held₀)

-- ---- the tail is flushed first

-- ---- answers

-- the answer as a match has it
pub exact_as : {text ws ws' : List ℕ} {index used spare at n p : ℕ} {r : Row} {adds : Bool} {a b : Result PartSizes Fault} → a ≡ b
    → Exact text ws ws' index used spare at n p r adds a → Exact text ws ws' index used spare at n p r adds b
exact_as e ε = rw e at ε

-- the combined row as a match has it
pub inner_made : {text : List ℕ} {a : LentOption Row} {both last r : Row} → a ≡ Some both → (ItemRow text last → ItemRow text r → InnerOne text a) → ItemRow text last → ItemRow text r → ItemRow text both
inner_made {text} e h x y = rw e at (h x y)

-- the sizes as they were computed
pub sizes_as : {text ws ws' : List ℕ} {index used spare at : ℕ} {s t t' : OpenSizes} {r : Row} {adds : Bool} → t' ≡ t
    → RowAdded text ws ws' index used spare at s r adds (Ok t) → RowAdded text ws ws' index used spare at s r adds (Ok t')
sizes_as e ρ = rw e ρ

-- the calls as they were computed
pub calls_as : {text ws ws' : List ℕ} {index used spare at n p t turns calls calls' : ℕ} {s : OpenSizes} {r : Row} {adds : Bool} → calls' ≡ calls
    → RowAdded text ws ws' index used spare at s r adds (Ok (record { main = n; delta = p; tail = t; flushes = turns; calls = calls }))
    → RowAdded text ws ws' index used spare at s r adds (Ok (record { main = n; delta = p; tail = t; flushes = turns; calls = calls' }))
calls_as e ρ = rw e ρ
