-- The names of a section, which two texts spell at places of their own. Assumes nothing.
use Rattle.std.specs.Prelude.{◌≡◌}
use Rattle.table.specs.declared.Row.{Row}
use Rattle.model.specs.Bytes.{Bytes}
use Rattle.table_item.specs.Items.{kind_of, line_kind}
use Rattle.table_section.specs.Sections.{entry_of, key_of, NamesInBounds, RowInBounds}
use Rattle.merge_search.specs.declared.names.Section.{Section}

-- test names and paths are at the same offsets
pub record SameNamePositions (x y : Row) : Type 0 where
  pub test : x.test ≡ y.test
  pub test_len : x.test_len ≡ y.test_len
  pub path : x.path ≡ y.path
  pub path_len : x.path_len ≡ y.path_len

-- both rows are of one section, and the names of the joined one are in the text
pub record OneSection (text : Bytes) (section : Section) : Type 0 where
  pub key : key_of text section.spelled ≡ key_of text section.joined
  pub named : NamesInBounds text section.joined

-- a row that is the same entry
pub record SameEntry (text : Bytes) (row r : Row) : Type 0 where
  pub entry : entry_of text r ≡ entry_of text row
  pub whole : RowInBounds text r

-- two lines of sections whose names are at the same offsets
pub record LinesOfOne (x y : Row) : Type 0 where
  pub names : SameNamePositions x y
  pub left : kind_of x ≡ line_kind
  pub right : kind_of y ≡ line_kind
