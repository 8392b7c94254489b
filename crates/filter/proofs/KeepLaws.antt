-- Numbers of rows that are copied, and those of which some stay, one after the other. Assumes nothing.
use Prim.Native.Nat.{ℕ, suc, ◌+◌, ◌*◌, ◌-◌, ◌≤◌, ◌<◌}
use native.Mathlib.Omega.{arith}
use native.Mathlib.Nat.{add-zero}
use mathlib.Core.Path.{◌≡◌, refl, sym, ap, ap₂, ◌∙◌}
use mathlib.Core.Bool.{Bool, true, false}
use mathlib.Core.List.{List, [], ◌∷◌, ◌++◌, append_assoc, append-nil}
use lib.ListN.{length, set, length-set}
use lib.Seq.{get_or-set_same, get_or-set_other}
use Rattle.table.specs.Places.{tabulate}
use Rattle.table.specs.Rows.{row_words, word, row_at}
use Rattle.table.proofs.PlaceLaws.{by-eq}
use Rattle.table.proofs.TabulateLaws.{tabulate_cong, tabulate-split}
use Rattle.table.proofs.WordLaws.{row_cong}
use Rattle.model.specs.declared.Range.{Range}
use Rattle.std.specs.Prelude.{if◌then◌else◌}
use Rattle.model.specs.Bytes.{Bytes}
use Rattle.model.specs.Lists.{filter}
use Rattle.model.specs.Report.{Item}
use Rattle.model.specs.Filter.{held_functions}
use Rattle.table_item.specs.Items.{item_of}
use Rattle.print_sort.specs.Sorting.{items_by}
use Rattle.print_report.specs.Printing.{UnchangedBefore}
use Rattle.print_report.proofs.TableLaws.{spared-none, spared_both}
use Rattle.filter.specs.declared.Rule.{Rule}
use Rattle.filter.specs.declared.Rule.TheVariants.{Started, Held, Until}
use Rattle.filter.specs.declared.Looked.{Looked}
use Rattle.filter.specs.Keeping.{chosen, keeps, Ahead, Behind, Chosen}

-- ---- rows and numbers where the words before p stay

module _ {ws ws' : List ℕ} {p : ℕ} (σ : UnchangedBefore ws ws' p) where
  row_before : (v : ℕ) → v * row_words + row_words ≤ p → row_at ws' v ≡ row_at ws v
  row_before v h = row_cong ws' ws (v * row_words) (v * row_words) (λ k l. σ.kept (v * row_words + k) (omega arith))

  -- the n rows whose numbers are at word `from` on are before that word
  module _ {from n : ℕ} (above : (k : ℕ) → k < n → word ws (from + k) * row_words + row_words ≤ from) (before : from ≤ p) where
    row_of : (i : ℕ) → i < n → row_at ws' (word ws (from + i)) ≡ row_at ws (word ws (from + i))
    row_of i a = row_before (word ws (from + i)) (omega (arith, above i a))

    module _ (text : Bytes) where
      item_of_lem : (k i : ℕ) → i < n → word ws' k ≡ word ws (from + i) → item_of text (row_at ws' (word ws' k)) ≡ item_of text (row_at ws (word ws (from + i)))
      item_of_lem k i a e = ap (λ (v : ℕ). item_of text (row_at ws' v)) e ∙ ap (item_of text) (row_of i a)

      -- the same numbers from place i on are the same items
      pub items_of : (to m i : ℕ) → i + m ≤ n → ((k : ℕ) → k < m → word ws' (to + k) ≡ word ws (from + (i + k)))
          → items_by text ws' to m ≡ items_by text ws (from + i) m
      items_of to m i h e =
          tabulate_cong (λ k. item_of text (row_at ws' (word ws' (to + k)))) (λ k. item_of text (row_at ws (word ws (from + i + k)))) m
          (λ k l. item_of_lem (to + k) (i + k) (omega arith) (e k l)
          ∙ ap (λ (j : ℕ). item_of text (row_at ws (word ws j))) (let z : from + (i + k) ≡ from + i + k = omega arith in z))

  -- numbers at `to`, each of which is one of those at `from`
  pub behind_of : {text : Bytes} {from n : ℕ} → Behind text ws from n → from ≤ p → (to m : ℕ) → from ≤ to → to + m ≤ length ws
      → ((k : ℕ) → k < m → (i : ℕ) × (i < n) × (word ws' (to + k) ≡ word ws (from + i))) → Behind text ws' to m
  behind_of β before to m h room of = record {
    printable = record {
      numbered = record {
        words = omega (arith, σ.words);
        inside = λ k l. let (i, a, e) = of k l in rw e (omega (arith, σ.words, β.printable.numbered.inside i a));
      };
      good = λ k l. let (i, a, e) = of k l in rw (e, row_of β.before before i a) (β.printable.good i a);
      fits = λ k l. let (i, a, e) = of k l in rw (e, row_of β.before before i a) (β.printable.fits i a);
    };
    before = λ k l. let (i, a, e) = of k l in rw e (omega (arith, β.before i a));
  }

-- ---- one more row looked at

chosen-cons : (rule : Rule) (ranges : List Range) (x : Item) (l : List Item)
    → chosen rule ranges (x ∷ l) ≡ if keeps rule ranges x l then x ∷ chosen rule ranges l else chosen rule ranges l
unfolding filter held_functions
chosen-cons Started ranges x l = refl
chosen-cons Held ranges x l = refl
chosen-cons (Until bound) ranges x l = refl

chosen_none : (rule : Rule) (ranges : List Range) → chosen rule ranges [] ≡ []
unfolding filter held_functions
chosen_none Started ranges = refl
chosen_none Held ranges = refl
chosen_none (Until bound) ranges = refl

pub items-cons : (text ws : List ℕ) (at n : ℕ) → 0 < n → items_by text ws at n ≡ item_of text (row_at ws (word ws at)) ∷ items_by text ws (at + 1) (n - 1)
unfolding tabulate
items-cons text ws at n h =
    ap (items_by text ws at) (let e : n ≡ suc (n - 1) = omega arith in e)
    ∙ ap₂ (λ (x : Item) (t : List Item). x ∷ t)
    (ap (λ (j : ℕ). item_of text (row_at ws (word ws j))) (add-zero at))
    (tabulate_cong (λ k. item_of text (row_at ws (word ws (at + suc k)))) (λ k. item_of text (row_at ws (word ws (at + 1 + k)))) (n - 1)
    (λ k l. ap (λ (j : ℕ). item_of text (row_at ws (word ws j))) (let e : at + suc k ≡ at + 1 + k = omega arith in e)))

items-last : (text ws : List ℕ) (at n : ℕ) → items_by text ws at (n + 1) ≡ items_by text ws at n ++ item_of text (row_at ws (word ws (at + n))) ∷ []
unfolding tabulate
items-last text ws at n =
    tabulate-split (λ k. item_of text (row_at ws (word ws (at + k)))) n 1
    ∙ ap (λ (j : ℕ). items_by text ws at n ++ item_of text (row_at ws (word ws (at + j))) ∷ []) (add-zero n)

-- of the n numbers from word `numbers` on, those of the first i are looked at, and r of them stay
pub record Keeping (rule : Rule) (ranges : List Range) (ws₀ ws : List ℕ) (numbers n i r : ℕ) : Type 0 where
  pub places : (r ≤ i) × (i ≤ n)
  pub spared : UnchangedBefore ws₀ ws numbers
  pub rest : (k : ℕ) → i ≤ k → k < n → word ws (numbers + k) ≡ word ws₀ (numbers + k)
  pub each : (k : ℕ) → k < r → (m : ℕ) × (m < n) × (word ws (numbers + k) ≡ word ws₀ (numbers + m))
  pub are : (text : Bytes) → Behind text ws₀ numbers n
      → items_by text ws numbers r ++ chosen rule ranges (items_by text ws₀ (numbers + i) (n - i)) ≡ chosen rule ranges (items_by text ws₀ numbers n)

pub keep_start : (rule : Rule) (ranges : List Range) (ws : List ℕ) (numbers n : ℕ) → Keeping rule ranges ws ws numbers n 0 0
unfolding tabulate
keep_start rule ranges ws numbers n = record {
  places = (omega arith, omega arith);
  spared = spared-none;
  rest = λ k h l. refl;
  each = λ k h. absurd (omega arith);
  are = λ text β. ap₂ (λ (p m : ℕ). chosen rule ranges (items_by text ws p m)) (add-zero numbers) (let e : n - 0 ≡ n = omega arith in e);
}

module _ {rule : Rule} {ranges : List Range} {ws₀ ws : List ℕ} {numbers n i r : ℕ} (κ : Keeping rule ranges ws₀ ws numbers n i r) where
  -- the items from place j on are as they were
  rest-same : ((k : ℕ) → k < n → word ws₀ (numbers + k) * row_words + row_words ≤ numbers) → (text : Bytes) (j : ℕ) → i ≤ j → j ≤ n
      → items_by text ws (numbers + j) (n - j) ≡ items_by text ws₀ (numbers + j) (n - j)
  rest-same above text j h l =
      items_of κ.spared above (omega arith) text (numbers + j) (n - j) j (omega arith)
      (λ k m. let e : numbers + j + k ≡ numbers + (j + k) = omega arith in rw e (κ.rest (j + k) (omega arith) (omega arith)))

  -- what the row looked at last carries, before and after the next one
  module _ (above : (k : ℕ) → k < n → word ws₀ (numbers + k) * row_words + row_words ≤ numbers) (last : Looked) where
    pub ahead-here : i ≤ n → ((text : Bytes) → Ahead rule last (items_by text ws₀ (numbers + i) (n - i))) → (text : Bytes) → Ahead rule last (items_by text ws (numbers + i) (n - i))
    ahead-here h ahead text = rw (rest-same above text i (omega arith) h) (ahead text)

    pub ahead-next : i < n → ((text : Bytes) → Ahead rule last (items_by text ws (numbers + i + 1) (n - i - 1)))
        → (text : Bytes) → Ahead rule last (items_by text ws₀ (numbers + (i + 1)) (n - (i + 1)))
    ahead-next h ahead text =
        rw (← (rest-same above text (i + 1) (omega arith) (omega arith)))
        (rw (let e : numbers + i + 1 ≡ numbers + (i + 1) = omega arith in e, let e : n - i - 1 ≡ n - (i + 1) = omega arith in e) at (ahead text))

  module _ {text : Bytes} (β : Behind text ws₀ numbers n) where
    -- those not looked at yet, and those that stay
    pub left-rows : i ≤ n → Behind text ws (numbers + i) (n - i)
    left-rows h =
        behind_of κ.spared β (omega arith) (numbers + i) (n - i) (omega arith) (omega (arith, β.printable.numbered.words))
        (λ k l. let e : numbers + i + k ≡ numbers + (i + k) = omega arith in (i + k, omega arith, rw e (κ.rest (i + k) (omega arith) (omega arith))))

    kept-rows : Behind text ws numbers r
    kept-rows = behind_of κ.spared β (omega arith) numbers r (omega arith) (omega (arith, κ.places, β.printable.numbered.words)) κ.each

  module _ (more : i < n) where
    module _ (text : Bytes) (β : Behind text ws₀ numbers n) where
      abbrev first : Item
      first = item_of text (row_at ws₀ (word ws₀ (numbers + i)))

      abbrev behind : List Item
      behind = items_by text ws₀ (numbers + (i + 1)) (n - (i + 1))

      left_is : items_by text ws₀ (numbers + i) (n - i) ≡ first ∷ behind
      left_is =
          items-cons text ws₀ (numbers + i) (n - i) (omega arith)
          ∙ ap₂ (λ (p m : ℕ). first ∷ items_by text ws₀ p m) (let e : numbers + i + 1 ≡ numbers + (i + 1) = omega arith in e)
          (let e : n - i - 1 ≡ n - (i + 1) = omega arith in e)

      first-same : item_of text (row_at ws (word ws (numbers + i))) ≡ first
      first-same = item_of_lem κ.spared β.before (omega arith) text (numbers + i) i more (κ.rest i (omega arith) more)

      behind-same : items_by text ws (numbers + i + 1) (n - i - 1) ≡ behind
      behind-same =
          ap₂ (items_by text ws) (let e : numbers + i + 1 ≡ numbers + (i + 1) = omega arith in e) (let e : n - i - 1 ≡ n - (i + 1) = omega arith in e)
          ∙ rest-same β.before text (i + 1) (omega arith) (omega arith)

      step : (t : Bool) → t ≡ keeps rule ranges (item_of text (row_at ws (word ws (numbers + i)))) (items_by text ws (numbers + i + 1) (n - i - 1))
          → chosen rule ranges (items_by text ws₀ (numbers + i) (n - i)) ≡ if t then first ∷ chosen rule ranges behind else chosen rule ranges behind
      step t e =
          ap (chosen rule ranges) left_is ∙ chosen-cons rule ranges first behind
          ∙ ap (λ (b : Bool). if b then first ∷ chosen rule ranges behind else chosen rule ranges behind)
          (sym (e ∙ ap₂ (keeps rule ranges) first-same behind-same))

    abbrev Tells : Bool → Type 0
    Tells t = (text : Bytes) → t ≡ keeps rule ranges (item_of text (row_at ws (word ws (numbers + i)))) (items_by text ws (numbers + i + 1) (n - i - 1))

    -- the row goes
    pub keep_gone : (t : Bool) → Tells t → t ≡ false → Keeping rule ranges ws₀ ws numbers n (i + 1) r
    keep_gone t tells gone = record {
      places = (omega (arith, κ.places), omega arith);
      spared = κ.spared;
      rest = λ k h l. κ.rest k (omega arith) l;
      each = κ.each;
      are = λ text β. sym (ap (λ (l : List Item). items_by text ws numbers r ++ l) (step text β false (sym gone ∙ tells text))) ∙ κ.are text β;
    }

    -- the row stays: its number is put behind those that do
    module _ (room : numbers + n ≤ length ws₀) where
      abbrev stored : List ℕ
      stored = set ws (numbers + r) (word ws (numbers + i))

      stored_other : (j : ℕ) → j < numbers + r → word stored j ≡ word ws j
      stored_other j h = get_or-set_other ws (numbers + r) j (word ws (numbers + i)) 0 (omega arith)

      stored_spared : (p : ℕ) → p ≤ numbers + r → UnchangedBefore ws stored p
      stored_spared p h = record { words = length-set ws (numbers + r) (word ws (numbers + i)); kept = λ j l. stored_other j (omega arith) }

      stored_there : word stored (numbers + r) ≡ word ws (numbers + i)
      stored_there = get_or-set_same ws (numbers + r) (word ws (numbers + i)) 0 (omega (arith, κ.places, κ.spared.words))

      module _ (text : Bytes) (β : Behind text ws₀ numbers n) where
        stored_first : item_of text (row_at stored (word stored (numbers + r))) ≡ first text β
        stored_first =
            item_of_lem (spared_both κ.spared (stored_spared numbers (omega arith))) β.before (omega arith) text (numbers + r) i more
            (stored_there ∙ κ.rest i (omega arith) more)

        stored_items : items_by text stored numbers (r + 1) ≡ items_by text ws numbers r ++ first text β ∷ []
        stored_items =
            items-last text stored numbers r
            ∙ ap₂ (λ (l : List Item) (x : Item). l ++ x ∷ [])
            (items_of (stored_spared numbers (omega arith)) (kept-rows β).before (omega arith) text numbers r 0 (omega arith)
            (λ k l. stored_other (numbers + k) (omega arith) ∙ ap (λ (j : ℕ). word ws (numbers + j)) (let e : k ≡ 0 + k = omega arith in e))
            ∙ ap (λ (j : ℕ). items_by text ws j r) (add-zero numbers))
            stored_first

      pub keep_kept : (t : Bool) → Tells t → t ≡ true → Keeping rule ranges ws₀ stored numbers n (i + 1) (r + 1)
      keep_kept t tells stays = record {
        places = (omega (arith, κ.places), omega arith);
        spared = spared_both κ.spared (stored_spared numbers (omega arith));
        rest = λ k h l.
            get_or-set_other ws (numbers + r) (numbers + k) (word ws (numbers + i)) 0 (omega (arith, κ.places)) ∙ κ.rest k (omega arith) l;
        each = λ k h. by-eq k r
            (λ e. (i, more, ap (λ (j : ℕ). word stored (numbers + j)) e ∙ stored_there ∙ κ.rest i (omega arith) more))
            (λ e. let (m, a, q) = κ.each k (omega arith) in (m, a, stored_other (numbers + k) (omega arith) ∙ q));
        are = λ text β.
            ap (λ (l : List Item). l ++ chosen rule ranges (behind text β)) (stored_items text β)
            ∙ append_assoc (items_by text ws numbers r) (first text β ∷ []) (chosen rule ranges (behind text β))
            ∙ sym (ap (λ (l : List Item). items_by text ws numbers r ++ l) (step text β true (sym stays ∙ tells text))) ∙ κ.are text β;
      }

  -- all are looked at
  pub keep_done : n ≤ i → Chosen (chosen rule ranges) ws₀ ws numbers n numbers r
  unfolding tabulate
  keep_done h = record {
    most = omega (arith, κ.places);
    spared = κ.spared;
    rows = λ text β. kept-rows β;
    are = λ text β.
        sym (append-nil (items_by text ws numbers r))
        ∙ ap (λ (l : List Item). items_by text ws numbers r ++ l)
        (sym (ap (λ (m : ℕ). chosen rule ranges (items_by text ws₀ (numbers + i) m)) (let e : n - i ≡ 0 = omega arith in e) ∙ chosen_none rule ranges))
        ∙ κ.are text β;
  }
