-- Rows that spell the names of one section at places of their own. Assumes nothing.
use mathlib.Core.Path.{◌≡◌, sym, ◌∙◌}
use mathlib.Core.Logic.{◌≢◌}
use mathlib.Core.Bool.{true}
use lib.Dec.{compare_is_eq}
use Rattle.table.specs.declared.Row.{Row}
use Rattle.ordmap.proofs.Orderings.{is_eq}
use Rattle.model.specs.Bytes.{Bytes}
use Rattle.model.specs.Path.{components}
use Rattle.model.specs.Report.{in_section, compare_sections}
use Rattle.model.proofs.KeyOrder.{sections-order}
use Rattle.table_item.specs.Items.{part, kind_of}
use Rattle.table_section.specs.Sections.{key_of, NamesInBounds, RowInBounds}
use Rattle.table_section.specs.Splice.{with_section}
use Rattle.table_section.proofs.HeaderLaws.{item-kept, whole-kept}
use Rattle.merge_search.specs.declared.names.Section.{Section}
use Rattle.merge_search.specs.Names.{SameNamePositions, OneSection, SameEntry}

-- names at the same offsets are the same
pub same_key : (text : Bytes) {x y : Row} → SameNamePositions x y → key_of text x ≡ key_of text y
same_key text ν = λ k. (part text (ν.test k) (ν.test_len k), components (part text (ν.path k) (ν.path_len k)))

pub same-entry_as : {text : Bytes} {row q r : Row} → row ≡ q → SameEntry text row r → SameEntry text q r
same-entry_as e μ = rw e at μ

pub same-entry-joined : {text : Bytes} {row r : Row} {section : Section} → r ≡ with_section row section.joined → SameNamePositions row section.spelled
    → kind_of row ≢ 0 → OneSection text section → RowInBounds text row → SameEntry text row r
same-entry-joined {text} {row} {r} {section} e ν h σ w = rw e (record {
  entry = λ k. in_section (keys k) (item-kept text row section.joined h k);
  whole = whole-kept w.good σ.named;
})
  where
    keys : key_of text section.joined ≡ key_of text row
    keys = sym σ.key ∙ sym (same_key text ν)

-- ---- the known section

pub known_joined : {text : Bytes} {row before : Row} → compare_is_eq (compare_sections (key_of text row) (key_of text before)) ≡ true → NamesInBounds text before
    → OneSection text (record { spelled = row; joined = before })
known_joined e ν = record { key = sections-order.equal (is_eq _ e); named = ν }
