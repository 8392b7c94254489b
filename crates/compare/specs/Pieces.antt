-- The pieces of a path between its slashes, and its components from a position on (SPEC 4.2). Assumes nothing.
use Prim.Native.Nat.{ℕ, zero, suc, ◌+◌, ◌-◌, ◌≤◌, ◌<◌, Ordering}
use Rattle.std.specs.Prelude.{◌≡◌, ◌≢◌, Bool, List, [], ◌∷◌, ltb, length, get_or, take, drop, if◌then◌else◌, Option, Some, None}
use Rattle.model.specs.Bytes.{Bytes, ascii, slash, same_bytes, split, Free}
use Rattle.model.specs.Path.{Path, Component, root, current, parent, name, named, components}
use Rattle.compare.specs.declared.path.Piece.{Piece}

-- the bytes from place s up to place e
abbrev pub piece : Bytes → ℕ → ℕ → Bytes
piece path s e = take (e - s) (drop s path)

-- the piece that starts at p ends at e: no slash is in it, and one comes next unless the path ends
pub record PieceEnd (path : Bytes) (p e : ℕ) : Type 0 where
  pub from : p ≤ e
  pub most : e ≤ length path
  pub free : Free slash (piece path p e)
  pub stops : e < length path → get_or path e 0 ≡ slash

-- p is behind the last slash before place n, or 0 where there is none
pub record NameStart (path : Bytes) (n p : ℕ) : Type 0 where
  pub most : p ≤ n
  pub slashed : 0 < p → get_or path (p - 1) 0 ≡ slash
  pub last : (k : ℕ) → p ≤ k → k < n → get_or path k 0 ≢ slash

-- what a piece is as a component; an empty piece and '.' are none unless the path begins with them
abbrev pub component_of : Bytes → Component
component_of [] = root
component_of (b ∷ bs) =
    if same_bytes (b ∷ bs) (ascii ".") then current
    else if same_bytes (b ∷ bs) (ascii "..") then parent
    else name (b ∷ bs)

-- the first number of a component's code
abbrev pub rank_of : Component → ℕ
rank_of root = 0
rank_of current = 1
rank_of parent = 2
rank_of (name bytes) = 3

-- whether the piece from p to e is a component: the first is, save in the empty path, and behind it those that are neither empty nor '.'
abbrev pub is_component : Bytes → ℕ → ℕ → Bool
is_component path zero e = ltb 0 (length path)
is_component path (suc p) e = ltb 1 (rank_of (component_of (piece path (suc p) e)))

-- the pieces behind the slash at place p; none where the path ends at p
abbrev pub pieces_past : Bytes → ℕ → List Bytes
pieces_past path p = if ltb p (length path) then split slash (drop (suc p) path) else []

-- the components of the pieces from place p on
abbrev pub components_from : Bytes → ℕ → Path
components_from path zero = components path
components_from path (suc p) = named (pieces_past path p)

-- the components that an answer finds
abbrev pub found : Bytes → Option Piece → Path
found path (Some p) = component_of (piece path p.start p.end) ∷ components_from path (p.end + 1)
found path None = []

abbrev pub PieceWithin : Bytes → ℕ → Option Piece → Type 0
PieceWithin path from (Some p) = (from ≤ p.start) × (p.start ≤ p.end) × (p.end ≤ length path)
PieceWithin path from None = Unit {0}

pub record NextComponent (path : Bytes) (from : ℕ) (r : Option Piece) : Type 0 where
  pub is : components_from path from ≡ found path r
  pub within : PieceWithin path from r

-- no component compared with what is left of the other path
abbrev pub none_against : Option Piece → Ordering
none_against (Some p) = Ordering.lt
none_against None = Ordering.eq

abbrev pub dot : ℕ
dot = 46

-- a byte that only names have: a piece with it is neither empty nor made of dots, and goes on behind it
pub record InName (b : ℕ) : Type 0 where
  pub no_slash : b ≢ slash
  pub no_dot : b ≢ dot
