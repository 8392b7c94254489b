-- What writes a tag promises. Assumes nothing.
use Rattle.std.specs.Prelude.{◌≤◌, ◌≡◌, length, take}
use Rattle.model.specs.declared.Kind.{Kind}
use Rattle.model.specs.Tags.{default_tag}
use Rattle.tag_table.specs.declared.default.Tag.{Tag}

-- a tag at the front of bytes
pub record TagOf (kind : Kind) (r : Tag) : Type 0 where
  pub long : r.len ≤ length r.bytes
  pub few : r.len ≤ 13
  pub is : take r.len r.bytes ≡ default_tag kind
