-- What loading a table promises. Assumes nothing.
use Rattle.std.specs.Prelude.{◌≡◌, Result, Ok, Err}
use Rattle.model.specs.declared.Fault.{Fault}
use Rattle.model.specs.Bytes.{Bytes}
use Rattle.model.specs.Answer.{accepted, refuse}
use Rattle.model.specs.TagTable.{load_tags}
use Rattle.tag_table.specs.declared.tags.Tags.{Tags}
use Rattle.tag_table.specs.Tags.{tag_of}

-- the table's tags may be handed on
pub record LoadedTags (table : Bytes) (tags : Tags) : Type 0 where
  pub lent : tags.table.now ≡ table
  pub is : load_tags table ≡ accepted (tag_of tags)

abbrev pub LoadedAs : Bytes → Result Tags Fault → Type 0
LoadedAs table (Ok tags) = LoadedTags table tags
LoadedAs table (Err fault) = load_tags table ≡ refuse fault
