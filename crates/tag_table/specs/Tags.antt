-- The tags that a call reads and prints by. Assumes nothing.
use Rattle.model.specs.declared.Kind.{Kind}
use Rattle.model.specs.Bytes.{Bytes}
use Rattle.model.specs.TagTable.{tags_of}
use Rattle.tag_table.specs.declared.tags.Tags.{Tags}

-- the tag of each kind
abbrev pub tag_of : Tags → Kind → Bytes
tag_of tags = tags_of tags.table.now
