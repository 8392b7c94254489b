-- One text of a bundle read, in front or behind the joined table. Assumes nothing.
use Prim.Native.Nat.{ℕ, ◌+◌, ◌*◌, ◌-◌, ◌≤◌, ◌<◌}
use native.Mathlib.Omega.{arith}
use mathlib.Core.Path.{◌≡◌, refl, sym, ap, subst, ◌∙◌}
use mathlib.Core.List.{List, [], ◌++◌, append-nil}
use lib.ListN.{length, take, drop, length-drop, take-append-drop, drop_of_length-le}
use lib.Seq.{length-take-le, take-add, take_at, drop_at}
use Rattle.model.specs.declared.Kind.{Kind}
use Rattle.model.specs.declared.Part.{Part}
use Rattle.model.specs.declared.Refusal.{Refusal}
use Rattle.model.specs.Bytes.{Bytes}
use Rattle.model.specs.Answer.{Answer, accepted}
use Rattle.model.specs.Report.{Report}
use Rattle.model.specs.Reading.{read_text}
use Rattle.model.proofs.Read.{read_text-valid}
use Rattle.table_section.specs.Sections.{entries_at}
use Rattle.section.specs.Table.{Table}
use Rattle.section.specs.Reading.{SectionRoom}
use Rattle.std.specs.Prelude.{Result, Ok, Err}
use Rattle.report_parser.specs.declared.TextRead.{TextRead as TextSizes}
use Rattle.report_parser.specs.Reader.{TextRead}
use Rattle.bundle.specs.Places.{part_from, text_from}
use Rattle.scratch_layout.specs.Layout.{index_at, base_at, ScratchRoom}
use Rattle.joined_table.specs.Gathering.{ReadOne, ReadBehind}
use Rattle.joined_table.proofs.TableLaws.{entries_longer, table_longer}

-- what was read is a table
pub read_table : (tag : Kind → Bytes) (text ws : List ℕ) (index limit from kept used : ℕ) → TextRead tag text ws index limit from (Ok (record { kept = kept; used = used })) → Table text ws index used kept
read_table tag text ws index limit from kept used t =
    let s = t.held.0 in
    record { store = s.store; room = s.room; whole = s.whole; valid = (read_text-valid tag limit (drop from text) (sym t.is)).0 }

-- the front of a bundle up to a text's end, from its start on
text-bytes : (bundle : Bytes) (start len : ℕ) → start + len ≤ length bundle → drop start (take (start + len) bundle) ≡ take len (drop start bundle)
text-bytes bundle start len h =
    ap (drop start) (take-add start len bundle) ∙ drop_at (take start bundle) (take len (drop start bundle)) start (length-take-le start bundle (omega arith))

-- ---- lent words

-- a front has its own length
pub front_long : (s : List ℕ) (n : ℕ) → n ≤ length s → n ≡ length (take n s)
front_long s n h = sym (length-take-le n s h)

-- the words ws after those from base on were lent and came back as ys
abbrev pub lent : List ℕ → List ℕ → ℕ → List ℕ
lent ws ys base = take base ws ++ (ys ++ drop (length ws - base) (drop base ws))

module _ (ws ys : List ℕ) (base : ℕ) (inside : base ≤ length ws) where
  none_left : drop (length ws - base) (drop base ws) ≡ []
  none_left = drop_of_length-le (drop base ws) {i = length ws - base} (rw (length-drop base ws) (omega arith))

  pub lent-behind : drop base (lent ws ys base) ≡ ys
  lent-behind =
      drop_at (take base ws) (ys ++ drop (length ws - base) (drop base ws)) base (length-take-le base ws inside)
      ∙ ap (λ (l : List ℕ). ys ++ l) none_left ∙ append-nil ys

  pub lent-before : take base (lent ws ys base) ≡ take base ws
  lent-before = take_at (take base ws) (ys ++ drop (length ws - base) (drop base ws)) base (length-take-le base ws inside)

module _ (ws : List ℕ) (limit : ℕ) (space : ScratchRoom ws limit) (base : ℕ) (at_base : base ≡ base_at limit) where
  pub base_inside : base ≤ length ws
  base_inside = omega (arith, space.words)

  -- the words behind have room for a reading
  pub behind-room : SectionRoom (take (length ws - base) (drop base ws)) (index_at limit) limit
  behind-room = record { rows = omega arith; words = omega (arith, space.words, long) }
    where
      long : length (take (length ws - base) (drop base ws)) ≡ length ws - base
      long = length-take-le (length ws - base) (drop base ws) (rw (length-drop base ws) (omega arith))

  -- and so have those in front
  pub front-room : SectionRoom (take base ws) (index_at limit) limit
  front-room = record { rows = omega arith; words = omega (arith, length-take-le base ws base_inside) }

-- as the code has the index's place in a local
pub room_as : (ws : List ℕ) (limit index : ℕ) → index ≡ index_at limit → SectionRoom ws (index_at limit) limit → SectionRoom ws index limit
room_as ws limit index e room = rw e room

-- a text starts within the front that ends with it
pub starts-inside : (bundle : List ℕ) (start len : ℕ) → start + len ≤ length bundle → start ≤ length (take (start + len) bundle)
starts-inside bundle start len h = omega (arith, length-take-le (start + len) bundle h)

-- ---- the reading

module _ (tag : Kind → Bytes) (bundle : Bytes) (body : ℕ) (ws : List ℕ) (limit i : ℕ) (p : Part) (place : p ≡ part_from body bundle i) (inside : p.start + p.len ≤ length bundle) where
  abbrev end : ℕ
  end = p.start + p.len

  text-is : drop p.start (take end bundle) ≡ (text_from body bundle i).bytes
  text-is = text-bytes bundle p.start p.len inside ∙ ap (λ (q : Part). take q.len (drop q.start bundle)) place

  whole_is : take end bundle ++ drop end bundle ≡ bundle
  whole_is = take-append-drop end bundle

  one_as : (r : Result TextSizes Refusal) → TextRead tag (take end bundle) ws (index_at limit) limit p.start r → ReadOne tag bundle body ws limit i r
  one_as (Err q) t = record { is = t.is ∙ ap (read_text tag limit) text-is; held = tt }
  one_as (Ok sizes) t =
      let table = read_table tag (take end bundle) ws (index_at limit) limit p.start sizes.kept sizes.used t in
      record {
        is =
            ap (λ (l : Report). accepted l)
            (subst (λ (b : Bytes). entries_at b ws (index_at limit) sizes.kept ≡ entries_at (take end bundle) ws (index_at limit) sizes.kept) whole_is
            (entries_longer (take end bundle) (drop end bundle) ws (index_at limit) sizes.used sizes.kept table))
            ∙ t.is ∙ ap (read_text tag limit) text-is;
        held = (
          subst (λ (b : Bytes). Table b ws (index_at limit) sizes.used sizes.kept) whole_is
              (table_longer (take end bundle) (drop end bundle) ws (index_at limit) sizes.used sizes.kept table),
          t.held.1,
          t.held.2,
        );
      }

  -- as the code has the place in a local
  pub read_one_lem : (index : ℕ) → index ≡ index_at limit → (r : Result TextSizes Refusal) → TextRead tag (take end bundle) ws index limit p.start r → ReadOne tag bundle body ws limit i r
  read_one_lem index e r t = one_as r (rw e at t)

-- and behind the joined table
pub read_behind : (tag : Kind → Bytes) (bundle : Bytes) (body : ℕ) (ws ys : List ℕ) (limit i base : ℕ) (r : Result TextSizes Refusal) → ScratchRoom ws limit → base ≡ base_at limit → ReadOne tag bundle body ys limit i r
    → ReadBehind tag bundle body ws (lent ws ys base) limit i r
read_behind tag bundle body ws ys limit i base r space e o =
    let inside = base_inside ws limit space base e in
    let here = lent-behind ws ys base inside in
    let there = lent-before ws ys base inside in
    record { read = rw (← e, here) o; stays = rw (← e, there) }
