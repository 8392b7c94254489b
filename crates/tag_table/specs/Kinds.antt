-- What tells a tag's kind promises. Assumes nothing.
use Rattle.std.specs.Prelude.{ℕ, ◌+◌, ◌≤◌, ◌≡◌, Bool, true, false, not, List, [], ◌∷◌, ltb, eqb, length, get_or, if◌then◌else◌, Option, Some, None}
use Rattle.model.specs.declared.Kind.{Kind}
use Rattle.model.specs.declared.Kind.TheVariants.{FunctionsFound, FunctionsHit, BranchesFound, BranchesHit, LinesFound, LinesHit}
use Rattle.model.specs.Lists.{all}
use Rattle.model.specs.Bytes.{Bytes, colon, same_bytes, before}
use Rattle.model.specs.Tags.{default_tag}
use Rattle.tag_table.specs.declared.Tagged.{Tagged}

-- where the body starts in a line of n bytes, its colon at a position or, where there is none, at n
unfoldable pub body_at : ℕ → ℕ → ℕ
body_at n mark = if ltb mark n then mark + 1 else mark

-- a line ends after n bytes or goes on with a colon
unfoldable pub ends_at : Bytes → ℕ → Bool
ends_at line n = if ltb n (length line) then eqb (get_or line n 0) colon else eqb n (length line)

module _ (tag : Kind → Bytes) where
  -- a line has the tag of a kind, and its body starts at a position
  pub record TaggedAs (line : Bytes) (t : Tagged) : Type 0 where
    pub is : before colon line ≡ tag t.kind
    pub body : t.at ≡ body_at (length line) (length (before colon line))
    pub within : t.at ≤ length line

  -- a line has the tag of no kind
  pub record Untagged (line : Bytes) : Type 0 where
    pub none : (kind : Kind) → same_bytes (before colon line) (tag kind) ≡ false

  abbrev pub FoundIn : Bytes → Option Tagged → Type 0
  FoundIn line (Some t) = TaggedAs line t
  FoundIn line None = Untagged line

-- ---- the default tags

-- the six kinds that hold one number
abbrev pub totals : List Kind
totals = FunctionsFound ∷ FunctionsHit ∷ BranchesFound ∷ BranchesHit ∷ LinesFound ∷ LinesHit ∷ []

-- a tag is the default's of none of some kinds
pub record NoneOf (kinds : List Kind) (tag : Bytes) : Type 0 where
  pub none : all (λ kind. not (same_bytes tag (default_tag kind))) kinds ≡ true

-- a tag is the default's of a kind, or of none of some kinds
abbrev pub NamedAs : List Kind → Bytes → Option Kind → Type 0
NamedAs kinds tag (Some kind) = tag ≡ default_tag kind
NamedAs kinds tag None = NoneOf kinds tag
