-- A table stays what it is where the text or the words go on behind it. Assumes nothing.
use Prim.Native.Nat.{ℕ, suc, zero, ◌+◌, ◌*◌, ◌/◌, ◌%◌, ◌≤◌, ◌<◌}
use native.Mathlib.Omega.{arith}
use mathlib.Core.Path.{◌≡◌, refl, sym, ap, ap₂, subst, ◌∙◌}
use mathlib.Core.Logic.{◌≢◌}
use mathlib.Core.List.{List, [], ◌∷◌, ◌++◌}
use mathlib.Core.Option.{some}
use lib.ListN.{length, get_or, take, drop, length-append, length-drop, get_or-append}
use lib.Seq.{take-append-le, drop-append-le}
use Rattle.table.specs.declared.Row.{Row}
use Rattle.table.specs.Places.{tabulate}
use Rattle.table.specs.Rows.{row_words, word, row_at, row_from}
use Rattle.table.specs.Store.{number, row, Index, Store}
use Rattle.table.proofs.TabulateLaws.{tabulate_cong}
use Rattle.model.specs.Bytes.{Bytes}
use Rattle.model.specs.Report.{Report, function_of, Item, section_item, function_item, branch_item, line_item}
use Rattle.model.specs.Valid.{Valid}
use Rattle.table_item.specs.Items.{part, kind_of, by_kind, if_given, extent_in, function_kind, line_kind, item_of, ItemInBounds}
use Rattle.table_section.specs.Sections.{entry_of, entry_at, entries_at, NamesInBounds, RowInBounds}
use Rattle.section.specs.Table.{Table}
use Rattle.model.proofs.Read.{empty_valid}
use Rattle.table.proofs.WordLaws.{row_cong}

-- ---- the text goes on

given_cong : {A : Type 0} (g : ℕ) {a b : A} → (g ≢ 0 → a ≡ b) → if_given g a ≡ if_given g b
given_cong zero h = refl
given_cong (suc g) h = ap (λ x. some x) (h (omega arith))

kind_cong : {A : Type 0} (k : ℕ) (c : A) {a a' b b' d d' : A} → (k ≡ 0 → a ≡ a') → (k ≡ 1 → b ≡ b') → (3 ≤ k → d ≡ d')
    → by_kind k a b c d ≡ by_kind k a' b' c d'
kind_cong zero c f g h = f refl
kind_cong (suc zero) c f g h = g refl
kind_cong (suc (suc zero)) c f g h = refl
kind_cong (suc (suc (suc k))) c f g h = h (omega arith)

module _ (text more : Bytes) where
  part-more : (start len : ℕ) → start + len ≤ length text → part (text ++ more) start len ≡ part text start len
  part-more start len h =
      ap (take len) (drop-append-le start text more (omega arith))
      ∙ take-append-le len (drop start text) more (rw (length-drop start text) (omega arith))

  inside-more : (n : ℕ) → n ≤ length text → n ≤ length (text ++ more)
  inside-more n h = omega (arith, length-append text more)

  module _ (r : Row) (w : RowInBounds text r) where
    pub whole-more : RowInBounds (text ++ more) r
    whole-more =
        record {
          named = record { test = inside-more _ w.named.test; path = inside-more _ w.named.path };
          good = record {
            kind = w.good.kind;
            name = λ k. inside-more _ (w.good.name k);
            checksum = λ k g. inside-more _ (w.good.checksum k g);
          };
        }

    item-more : item_of (text ++ more) r ≡ item_of text r
    unfolding item_of
    item-more =
        kind_cong (kind_of r) (branch_item r.k1 r.k2 r.k3 (if_given (r.tag % 2) r.count))
        (λ k. ap section_item (part-more r.path r.path_len w.named.path))
        (λ k. ap (λ (name : Bytes). function_item (function_of name (extent_in (r.tag % 2) r.k3) r.count)) (part-more r.k1 r.k2 (w.good.name k)))
        (λ k. ap (line_item r.k1 r.count)
        (given_cong (r.tag % 2) (λ g. part-more r.k2 r.k3 (w.good.checksum (omega (arith, w.good.kind)) (omega arith)))))

    pub entry_more : entry_of (text ++ more) r ≡ entry_of text r
    entry_more = rw (part-more r.test r.test_len w.named.test, part-more r.path r.path_len w.named.path, item-more)

  module _ (ws : List ℕ) (index used n : ℕ) (t : Table text ws index used n) where
    pub entries_longer : entries_at (text ++ more) ws index n ≡ entries_at text ws index n
    entries_longer = tabulate_cong (entry_at (text ++ more) ws index) (entry_at text ws index) n (λ k h. entry_more (row ws index k) (t.whole k h))

    pub table_longer : Table (text ++ more) ws index used n
    table_longer =
        record { store = t.store; room = t.room; whole = λ k h. whole-more (row ws index k) (t.whole k h); valid = rw entries_longer t.valid }

-- ---- the words go on

module _ (text ws more : List ℕ) (index used n : ℕ) (t : Table text ws index used n) where
  word_more : (j : ℕ) → j < length ws → word (ws ++ more) j ≡ word ws j
  word_more j h = get_or-append ws more 0 j h

  number_more : (k : ℕ) → k < used → number (ws ++ more) index k ≡ number ws index k
  number_more k h = word_more (index + k) (omega (arith, t.store.index_end))

  row_more : (k : ℕ) → k < used → row (ws ++ more) index k ≡ row ws index k
  unfolding row
  row_more k h =
      ap (row_at (ws ++ more)) (number_more k h)
      ∙ row_cong (ws ++ more) ws (number ws index k * row_words) (number ws index k * row_words)
      (λ j l. word_more _ (omega (arith, t.store.numbers.below k h, t.store.rows_end, t.store.index_end)))

  pub entries_wider : entries_at text (ws ++ more) index n ≡ entries_at text ws index n
  entries_wider =
      tabulate_cong (entry_at text (ws ++ more) index) (entry_at text ws index) n (λ k h. ap (entry_of text) (row_more k (omega (arith, t.room))))

  pub table_wider : Table text (ws ++ more) index used n
  table_wider =
      record {
        store = record {
          rows_end = t.store.rows_end;
          index_end = omega (arith, t.store.index_end, length-append ws more);
          numbers = record {
            below = λ k h. rw (number_more k h) (t.store.numbers.below k h);
            once = λ i j h l e. t.store.numbers.once i j h l (sym (number_more i h) ∙ e ∙ number_more j l);
          };
        };
        room = t.room;
        whole = λ k h. rw (row_more k (omega (arith, t.room))) (t.whole k h);
        valid = rw entries_wider t.valid;
      }

-- ---- none

pub table_none : (text ws : List ℕ) (index : ℕ) → index ≤ length ws → Table text ws index 0 0
unfolding tabulate
table_none text ws index h =
    record {
      store = record {
        rows_end = omega arith;
        index_end = omega arith;
        numbers = record { below = λ i l. absurd (omega arith); once = λ i j l m e. absurd (omega arith) };
      };
      room = omega arith;
      whole = λ k l. absurd (omega arith);
      valid = empty_valid;
    }
