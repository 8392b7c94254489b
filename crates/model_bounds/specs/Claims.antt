-- What is claimed of bounds (request N11), of reports and of texts. Clause by clause:
--   "Both must hold the same keys": `accepts` and `keys_differ`, by members; in key order they are compared place by place (`same_keys`).
--   "Every text with those keys and counts between the two has its hit numbers within these": `within`, and `texts_within` of texts.
--   "both ends are reached by some such text": `reached`, and `texts_reached` of texts.
--   "It refuses differing keys with 27 and a least count above its greatest with 28, in that order, after both texts were read": `keys_differ`,
--   `count_above`, `texts_read`, `least_unread` and `greatest_unread`.
-- Assumes nothing.
use Rattle.std.specs.Prelude.{ℕ, ◌≤◌, ◌<◌, ◌≡◌, ◌↔◌}
use mathlib.Core.List.{Memᴰ as Member}
use Rattle.model.specs.declared.Fault.TheVariants.{DifferentKeys, LeastAboveGreatest}
use Rattle.model.specs.declared.Kind.{Kind}
use Rattle.model.specs.declared.Refusal.{Refusal}
use Rattle.model.specs.Bytes.{Bytes}
use Rattle.model.specs.Answer.{accepted, refused, refuse, in_text}
use Rattle.model.specs.Tags.{Lawful}
use Rattle.model.specs.Report.{Entry, Report, Key, entry_key, count_of}
use Rattle.model.specs.Reading.{read_text}
use Rattle.model.specs.Gather.{entry_limit, read_and_print}
use Rattle.model.specs.Valid.{Valid}
use Rattle.model_bounds.specs.declared.Hits.{Hits}
use Rattle.model_bounds.specs.declared.Bounds.{Bounds}
use Rattle.model_bounds.specs.Bounds.{hits_of, bounds, hit_bounds}

-- a report holds a key
abbrev pub Holds : Key → Report → Type 0
Holds k report = (e : Entry) × Member e report × (entry_key e ≡ k)

abbrev pub SameKeys : Report → Report → Type 0
SameKeys a b = (k : Key) → Holds k a ↔ Holds k b

-- no count of the first is above the one of its key in the second
abbrev pub CountsRise : Report → Report → Type 0
CountsRise a b = (x y : Entry) → Member x a → Member y b → entry_key x ≡ entry_key y → count_of x.item ≤ count_of y.item

-- a count of the first that is above the one of its key in the second
abbrev pub CountAbove : Report → Report → Type 0
CountAbove a b = (x : Entry) × (y : Entry) × Member x a × Member y b × (entry_key x ≡ entry_key y) × (count_of y.item < count_of x.item)

-- a report with the keys of two others and counts between theirs
pub record Between (least greatest report : Report) : Type 0 where
  pub keys : SameKeys least report
  pub from_least : CountsRise least report
  pub to_greatest : CountsRise report greatest

pub record AtMost (a b : Hits) : Type 0 where
  pub lines_at_most : a.lines ≤ b.lines
  pub functions_at_most : a.functions ≤ b.functions
  pub branches_at_most : a.branches ≤ b.branches

-- every number is within its bounds
pub record Within (b : Bounds) (h : Hits) : Type 0 where
  pub not_below : AtMost b.least h
  pub not_above : AtMost h b.greatest

-- both ends are those of reports between the two: of the two themselves
pub record Reached (b : Bounds) (least greatest : Report) : Type 0 where
  pub least_between : Between least greatest least
  pub least_hits : hits_of least ≡ b.least
  pub greatest_between : Between least greatest greatest
  pub greatest_hits : hits_of greatest ≡ b.greatest

-- what the two texts of a call are read as
pub record TwoRead (tag : Kind → Bytes) (least greatest : Bytes) (limit : ℕ) : Type 0 where
  pub low : Report
  pub high : Report
  pub low_read : read_text tag limit least ≡ accepted low
  pub high_read : read_text tag limit greatest ≡ accepted high

pub record BoundsClaim : Type 0 where
  pub within : (least greatest report : Report) (b : Bounds) → Valid least → Valid greatest → Valid report → bounds least greatest ≡ accepted b
      → Between least greatest report → Within b (hits_of report)
  pub reached : (least greatest : Report) (b : Bounds) → Valid least → Valid greatest → bounds least greatest ≡ accepted b → Reached b least greatest
  -- accepted exactly where the keys are the same and no count is above; the refusals likewise
  pub accepts : (least greatest : Report) → Valid least → Valid greatest
      → ((b : Bounds) × (bounds least greatest ≡ accepted b)) ↔ (SameKeys least greatest × CountsRise least greatest)
  pub keys_differ : (least greatest : Report) → Valid least → Valid greatest → (bounds least greatest ≡ refuse DifferentKeys) ↔ (SameKeys least greatest → ⊥)
  pub count_above : (least greatest : Report) → Valid least → Valid greatest
      → (bounds least greatest ≡ refuse LeastAboveGreatest) ↔ (SameKeys least greatest × CountAbove least greatest)
  -- texts: every text, read under any limit
  pub texts_within : (tag : Kind → Bytes) (least greatest text : Bytes) (words limit : ℕ) (b : Bounds) (report : Report)
      → hit_bounds tag least greatest words ≡ accepted b → (t : TwoRead tag least greatest (entry_limit words))
      → read_text tag limit text ≡ accepted report → Between t.low t.high report → Within b (hits_of report)
  pub texts_reached : (tag : Kind → Bytes) (least greatest : Bytes) (words : ℕ) (b : Bounds) → hit_bounds tag least greatest words ≡ accepted b
      → (t : TwoRead tag least greatest (entry_limit words)) × Reached b t.low t.high
  -- the call, where both texts are read and where one is not
  pub texts_read : (tag : Kind → Bytes) (least greatest : Bytes) (words : ℕ) (t : TwoRead tag least greatest (entry_limit words))
      → hit_bounds tag least greatest words ≡ bounds t.low t.high
  pub least_unread : (tag : Kind → Bytes) (least greatest : Bytes) (words : ℕ) (r : Refusal) → read_text tag (entry_limit words) least ≡ refused r
      → hit_bounds tag least greatest words ≡ in_text 0 (refused r)
  pub greatest_unread : (tag : Kind → Bytes) (least greatest : Bytes) (words : ℕ) (low : Report) (r : Refusal)
      → read_text tag (entry_limit words) least ≡ accepted low → read_text tag (entry_limit words) greatest ≡ refused r
      → hit_bounds tag least greatest words ≡ in_text 1 (refused r)
  -- the texts as the library prints them have the same bounds
  pub bounds_printed : (tag : Kind → Bytes) → Lawful tag → (least greatest low high : Bytes) (words room : ℕ)
      → read_and_print tag least words room ≡ accepted low → read_and_print tag greatest words room ≡ accepted high
      → hit_bounds tag low high words ≡ hit_bounds tag least greatest words
