-- Where the next greater start bounds a function: the walk to that start, and what a row carries to the next one. Assumes nothing.
use Prim.Native.Nat.{ℕ, zero, suc, ◌+◌, ◌-◌, ◌/◌, ◌%◌, ◌≤◌, ◌<◌}
use native.Mathlib.Omega.{arith}
use native.Mathlib.Nat.{add-zero}
use mathlib.Core.Path.{◌≡◌, refl, sym, ap, ap₂, ◌∙◌}
use mathlib.Core.Bool.{Bool, false}
use mathlib.Core.List.{List, [], ◌∷◌}
use Rattle.table.specs.declared.Row.{Row}
use Rattle.table.specs.Places.{tabulate}
use Rattle.table.specs.Rows.{word, row_at}
use Rattle.model.specs.declared.Bound.{Bound}
use Rattle.model.specs.declared.Bound.TheVariants.{NextStart, GreaterStart}
use Rattle.model.specs.Bytes.{Bytes}
use Rattle.model.specs.Limits.{u32_max}
use Rattle.model.specs.Lists.{filter}
use Rattle.model.specs.Report.{Item, extent_of}
use Rattle.model.specs.Filter.{start_line, bounding, end_before}
use Rattle.model.proofs.ListLaws.{All}
use Rattle.model.proofs.FilterLaws.{bound_here, bound_later, start_fits}
use Rattle.table_item.specs.Items.{item_of}
use Rattle.table_item.proofs.AllLaws.{all-tabulate}
use Rattle.print_sort.specs.Sorting.{items_by}
use Rattle.print_rows.proofs.LentLaws.{item}
use Rattle.filter.specs.declared.Looked.{Looked}
use Rattle.filter.specs.declared.Rule.{Rule}
use Rattle.filter.specs.declared.Rule.TheVariants.{Until}
use Rattle.filter.specs.Keeping.{Ahead, Behind}
use Rattle.filter.proofs.KeepLaws.{items-cons}

-- ---- the walk to the next greater start

module _ (ws : List ℕ) (next n start : ℕ) where
  -- the first i rows bound nothing
  abbrev pub Skipped : Bytes → ℕ → Type 0
  Skipped text i = bounding GreaterStart start (items_by text ws next n) ≡ bounding GreaterStart start (items_by text ws (next + i) (n - i))

  pub skip_start : (text : Bytes) → Skipped text 0
  skip_start text =
      ap₂ (λ (p m : ℕ). bounding GreaterStart start (items_by text ws p m)) (sym (add-zero next)) (let e : n ≡ n - 0 = omega arith in e)

  module _ (text : Bytes) (i : ℕ) (more : i < n) (σ : Skipped text i) (r : Row) (is : r ≡ row_at ws (word ws (next + i))) (s : ℕ)
      (starts : s ≡ start_line (item_of text r)) where
    abbrev first : Item
    first = item_of text (row_at ws (word ws (next + i)))

    abbrev rest : List Item
    rest = items_by text ws (next + i + 1) (n - i - 1)

    left_is : items_by text ws (next + i) (n - i) ≡ first ∷ rest
    left_is = items-cons text ws (next + i) (n - i) (omega arith)

    starts_first : s ≡ start_line first
    starts_first = starts ∙ ap (λ (q : Row). start_line (item_of text q)) is

    pub skip_next : s ≤ start → Skipped text (i + 1)
    skip_next h =
        σ ∙ ap (bounding GreaterStart start) left_is ∙ bound_later start first rest (omega (arith, starts_first))
        ∙ ap₂ (λ (p m : ℕ). bounding GreaterStart start (items_by text ws p m)) (let e : next + i + 1 ≡ next + (i + 1) = omega arith in e)
        (let e : n - i - 1 ≡ n - (i + 1) = omega arith in e)

    pub skip_found : start < s → end_before (bounding GreaterStart start (items_by text ws next n)) ≡ end_before (items_by text ws (next + i) (n - i))
    unfolding end_before
    skip_found h =
        ap end_before (σ ∙ ap (bounding GreaterStart start) left_is) ∙ bound_here start first rest (omega (arith, starts_first))
        ∙ sym (ap end_before left_is)

  pub skip_done : (text : Bytes) (i : ℕ) → n ≤ i → Skipped text i
      → end_before (bounding GreaterStart start (items_by text ws next n)) ≡ end_before (items_by text ws (next + n) (n - n))
  unfolding tabulate bounding filter
  skip_done text i h σ =
      ap end_before (σ ∙ ap (λ (m : ℕ). bounding GreaterStart start (items_by text ws (next + i) m)) (let e : n - i ≡ 0 = omega arith in e))
      ∙ sym (ap (λ (m : ℕ). end_before (items_by text ws (next + n) m)) (let e : n - n ≡ 0 = omega arith in e))

-- ---- what is reckoned, by the bound

module _ (bound : Bound) (start r : ℕ) (items : Bytes → List Item) where
  pub reckoned_next : bound ≡ NextStart → ((text : Bytes) → r ≡ end_before (items text)) → (text : Bytes) → r ≡ end_before (bounding bound start (items text))
  unfolding bounding
  reckoned_next e h text = rw e (h text)

  pub reckoned_greater : bound ≡ GreaterStart → ((text : Bytes) → r ≡ end_before (bounding GreaterStart start (items text)))
      → (text : Bytes) → r ≡ end_before (bounding bound start (items text))
  reckoned_greater e h text = rw e (h text)

-- ---- what a row carries to the next one

until_same : (a b : Bound) → Until a ≡ Until b → a ≡ b
until_same a b e = cc

module _ (ws : List ℕ) (at n : ℕ) (rule : Rule) (bound : Bound) (until : rule ≡ Until bound) (start : ℕ) where
  -- a function of the same start ends where the one before it does
  pub ahead-same : 0 < n → (last : Looked) → ((text : Bytes) → Ahead rule last (items_by text ws at n)) → (row : Row) → row ≡ row_at ws (word ws at)
      → ((text : Bytes) → start ≡ start_line (item_of text row)) → (text : Bytes) → bound ≡ GreaterStart → last.start ≡ start
      → last.end ≡ end_before (bounding GreaterStart start (items_by text ws (at + 1) (n - 1)))
  ahead-same some last ahead row is starts text e q =
      ahead text (until ∙ ap (λ (b : Bound). Until b) e)
      ∙ ap end_before (ap (bounding GreaterStart last.start) (items-cons text ws at n some)
      ∙ bound_later last.start first behind (let h : start_line first ≡ start = sym (starts text ∙ ap (λ (r : Row). start_line (item_of text r)) is) in omega (arith, q)))
      ∙ ap (λ (s : ℕ). end_before (bounding GreaterStart s behind)) q
    where
      first : Item
      first = item_of text (row_at ws (word ws at))

      behind : List Item
      behind = items_by text ws (at + 1) (n - 1)

  pub ahead_reckoned : (stays : Bool) (end : ℕ) → ((text : Bytes) → end ≡ end_before (bounding bound start (items_by text ws (at + 1) (n - 1))))
      → (text : Bytes) → Ahead rule (record { stays = stays; start = start; end = end }) (items_by text ws (at + 1) (n - 1))
  ahead_reckoned stays end h text e =
      h text ∙ ap (λ (b : Bound). end_before (bounding b start (items_by text ws (at + 1) (n - 1)))) (until_same bound GreaterStart (sym until ∙ e))

-- ---- before the first row is looked at

none-greater : (l : List Item) → All (λ i. start_line i ≤ u32_max) l → u32_max ≡ end_before (bounding GreaterStart u32_max l)
unfolding bounding filter end_before
none-greater [] h = refl
none-greater (x ∷ l) h = none-greater l h.1 ∙ ap end_before (sym (bound_later u32_max x l h.0))

-- a start is a row's alone
start-any : (text text' : Bytes) (row : Row) → start_line (item_of text row) ≡ start_line (item_of text' row)
unfolding item_of start_line extent_of
start-any text text' row = go (row.tag / 2) (row.tag % 2)
  where
    go : (k m : ℕ) → start_line (item text row k m) ≡ start_line (item text' row k m)
    go zero m = refl
    go (suc zero) m = refl
    go (suc (suc zero)) m = refl
    go (suc (suc (suc k))) m = refl

pub ahead-start : (rule : Rule) {text' ws : List ℕ} {numbers n : ℕ} → Behind text' ws numbers n → (text : Bytes)
    → Ahead rule (record { stays = false; start = u32_max; end = u32_max }) (items_by text ws (numbers + 0) (n - 0))
ahead-start rule {text'} {ws} {numbers} {n} β text e =
    none-greater (items_by text ws numbers n)
    (all-tabulate (λ i. start_line i ≤ u32_max) (λ k. item_of text (row_at ws (word ws (numbers + k)))) n
    (λ k l. rw (start-any text text' (row_at ws (word ws (numbers + k)))) (start_fits (item_of text' (row_at ws (word ws (numbers + k)))) (β.printable.fits k l))))
    ∙ ap₂ (λ (p m : ℕ). end_before (bounding GreaterStart u32_max (items_by text ws p m))) (sym (add-zero numbers)) (let z : n ≡ n - 0 = omega arith in z)
