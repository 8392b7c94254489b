-- The walk through the entries that are merged into the joined ones. Assumes nothing.
use Prim.Native.Nat.{ℕ, ◌+◌, ◌≤◌, ◌<◌}
use native.Mathlib.Omega.{arith}
use mathlib.Core.Path.{◌≡◌, refl, sym, ap, ◌∙◌}
use mathlib.Core.Bool.{Bool, false}
use mathlib.Core.List.{List, ◌∷◌}
use lib.Dec.{compare_is_eq}
use lib.ListN.{length, take, drop, length-take}
use lib.Seq.{get_or-take}
use Rattle.table.specs.declared.Row.{Row}
use Rattle.table.specs.Places.{tabulate, Unchanged}
use Rattle.table.specs.Rows.{word}
use Rattle.table.specs.Store.{row}
use Rattle.table.proofs.TabulateLaws.{tabulate_cong, length-tabulate}
use Rattle.table_interleave.specs.Interleaved.{InsertPositions}
use Rattle.table_interleave.proofs.PositionLaws.{positions_as, positions-more}
use Rattle.ordmap.specs.Keyed.{Sorted}
use Rattle.model.specs.declared.Fault.{Fault}
use Rattle.model.specs.declared.Mode.{Mode}
use Rattle.model.specs.Answer.{Answer, refuse, unplaced}
use Rattle.model.specs.Report.{Entry, Report, entry_key, compare_keys, merge}
use Rattle.model.proofs.KeyOrder.{keys-order}
use Rattle.table_section.specs.Sections.{entry_of, entry_at, entries_at, RowInBounds}
use Rattle.section.specs.Table.{Table}
use Rattle.table_item.proofs.SearchLaws.{sorted_at}
use Rattle.merge_search.specs.Names.{SameEntry}
use Rattle.merge_search.specs.Search.{compare_entries}
use Rattle.merge.specs.declared.Walk.{Walk}
use Rattle.std.specs.Prelude.{Err}
use Rattle.merge.specs.Walking.{new_at, news_at, TableWithin, Ahead, RowComesNext, RowOutcome, known, fresh, left, Stepped, RowAdded, PositionNoted, spare_word}
use Rattle.merge.specs.Merging.{Tables}
use Rattle.merge.proofs.StandLaws.{counted, Standing, standing_start, standing_refused, standing_known, standing_fresh, standing_left}
use Rattle.merge.proofs.PartLaws.{part-row, part-store}
use Rattle.merge.proofs.RestLaws.{rest_from, rest-next, rest_sorted, rest-start, each-tabulate, tabulate-last, result_rest, result_none}

-- ---- the loop

-- k of the m entries are merged into those in ws, the insert positions of the new ones are written, and the rest gives
-- the whole answer
pub record Walked (text ws back : List ℕ) (place : ℕ → ℕ) (index limit m : ℕ) (mode : Mode) (whole : Answer Report) (walk : Walk) (k : ℕ)
    : Type 0 where
  pub most : k ≤ m
  pub joined : TableWithin text ws index limit walk
  pub seats : InsertPositions entry_key compare_keys (entry_at text ws index) (new_at text ws index walk.main) place walk.main walk.delta
  pub ahead : (j : ℕ) → k ≤ j → j < m → Ahead text ws index walk (row back index j)
  pub standing : Standing mode limit whole (rest_from (entry_at text back index) m k) (entries_at text ws index walk.main)
      (news_at text ws index walk.main walk.delta) walk.full

pub standing_as : {mode : Mode} {limit : ℕ} {whole : Answer Report} {rest rest' joined joined' news news' : Report} {full : Bool} → rest ≡ rest'
    → joined ≡ joined' → news ≡ news'
    → Standing mode limit whole rest joined news full
    → Standing mode limit whole rest' joined' news' full
standing_as e f g σ = rw (e, f, g) at σ

-- the answer of the whole merge
abbrev pub answer : List ℕ → List ℕ → ℕ → ℕ → ℕ → ℕ → ℕ → Mode → Answer Report
answer text words base index limit n m mode =
    counted limit (merge mode (entries_at text (take base words) index n) (entries_at text (drop base words) index m))

-- the words before the spare ones
abbrev pub rows_part : ℕ → ℕ → ℕ → List ℕ → List ℕ
rows_part base index limit words = take (index + limit) (take base words)

module _ {text words : List ℕ} {base index limit n used m : ℕ} (mode : Mode) (τ : Tables text words base index limit n used m) where
  abbrev front : List ℕ
  front = take base words

  abbrev part : List ℕ
  part = rows_part base index limit words

  part_same : (j : ℕ) → j < index + limit → word part j ≡ word front j
  part_same j l = get_or-take (index + limit) front j 0 l

  part-entries : entries_at text part index n ≡ entries_at text front index n
  part-entries =
      tabulate_cong (entry_at text part index) (entry_at text front index) n
      (λ k l. ap (entry_of text) (part-row front part part_same τ.into.store (omega (arith, τ.most)) k l))

  pub walked_start : Walked text part (drop base words) (spare_word front (index + limit)) index limit m mode
      (answer text words base index limit n m mode)
      (record { main = n; delta = 0; from = 0; full = false }) 0
  unfolding tabulate
  walked_start = record {
    most = omega arith;
    joined = record {
      ascending = record {
        store = rw (let z : n + 0 ≡ n = omega arith in z) (part-store front part part_same τ.into.store (omega (arith, τ.most)) long);
        room = omega arith;
        whole = λ k l. rw (part-row front part part_same τ.into.store (omega (arith, τ.most)) k l) (τ.into.whole k l);
        sorted = rw part-entries τ.into.valid.sorted;
      };
      fresh = λ j l. absurd (omega arith);
      ascend = λ i j l h. absurd (omega arith);
      rows = τ.rows;
      words = long;
      most = omega (arith, τ.most);
      from = omega arith;
    };
    seats = record { most = λ j l. absurd (omega arith); past = λ j i l h. absurd (omega arith); rest = λ j i l h o. absurd (omega arith) };
    ahead = λ j l h. record { passed = λ k o. absurd (omega arith); newer = λ k o. absurd (omega arith) };
    standing = standing_as (sym (rest-start (entry_at text (drop base words) index) m)) (sym part-entries) refl
        (standing_start mode limit (entries_at text front index n) (entries_at text (drop base words) index m) τ.into.valid.sorted);
  }
    where
      long : index + limit ≤ length part
      long = simp length-take (omega (arith, τ.words, τ.whole))

module _ {text ws back : List ℕ} {place : ℕ → ℕ} {index limit used m : ℕ} {mode : Mode} {whole : Answer Report} {walk : Walk} {k : ℕ}
    (ω : Walked text ws back place index limit m mode whole walk k) (τ : Table text back index used m) (h : k < m) (r : Row)
    (μ : SameEntry text (row back index k) r) where
  abbrev f : ℕ → Entry
  f = entry_at text back index

  abbrev n : ℕ
  n = walk.main

  abbrev p : ℕ
  p = walk.delta

  -- the entry at hand, and those after it
  rest-is : rest_from f m k ≡ entry_of text r ∷ rest_from f m (k + 1)
  rest-is = rest-next f m k h ∙ ap (λ (x : Entry). x ∷ rest_from f m (k + 1)) (sym μ.entry)

  at_hand : Standing mode limit whole (entry_of text r ∷ rest_from f m (k + 1)) (entries_at text ws index n) (news_at text ws index n p) walk.full
  at_hand = standing_as rest-is refl refl ω.standing

  sorted_hand : Sorted entry_key compare_keys (entry_of text r ∷ rest_from f m (k + 1))
  sorted_hand = go (rest_from f m k) rest-is (rest_sorted f m k (omega arith) τ.valid.sorted)
    where
      go : (l : Report) → l ≡ entry_of text r ∷ rest_from f m (k + 1) → Sorted entry_key compare_keys l
          → Sorted entry_key compare_keys (entry_of text r ∷ rest_from f m (k + 1))
      go l q s = rw q at s

  ahead_hand : Ahead text ws index walk r
  ahead_hand = record {
    passed = λ i l. ap (λ (x : Entry). compare_entries (entry_at text ws index i) x) μ.entry ∙ (ω.ahead k (omega arith) h).passed i l;
    newer = λ j l. ap (λ (x : Entry). compare_entries (new_at text ws index n j) x) μ.entry ∙ (ω.ahead k (omega arith) h).newer j l;
  }

  pub walked_ready : RowComesNext text ws index limit walk r × RowInBounds text r
  walked_ready = (record { joined = ω.joined; ahead = ahead_hand }, μ.whole)

  pub walked_refused : (ws' : List ℕ) (fault : Fault) → RowAdded text ws ws' index limit walk r mode (Err fault) → refuse fault ≡ whole
  walked_refused ws' fault q = standing_refused at_hand ω.joined.ascending.sorted sorted_hand (unplaced fault) q

  -- ---- the row is taken

  module _ (ws' : List ℕ) (place' : ℕ → ℕ) (next : Walk) (ν : PositionNoted place place' walk next) where
    abbrev Sits : Type 0
    Sits = InsertPositions entry_key compare_keys (entry_at text ws' index) (new_at text ws' index next.main) place' next.main next.delta

    abbrev Stands : Type 0
    Stands = Standing mode limit whole (rest_from f m (k + 1)) (entries_at text ws' index next.main)
        (news_at text ws' index next.main next.delta) next.full

    new-key : Unchanged (row ws index) (row ws' index) n (n + p) → (j : ℕ) → j < p → new_at text ws' index n j ≡ new_at text ws index n j
    new-key same j l = ap (entry_of text) (same (n + j) (omega arith) (omega arith))

    old-key : Unchanged (row ws index) (row ws' index) 0 (n + p) → (j : ℕ) → j < n → entry_at text ws' index j ≡ entry_at text ws index j
    old-key same j l = ap (entry_of text) (same j (omega arith) (omega arith))

    sits : next.main ≡ n → RowOutcome text ws ws' index limit walk r mode next → Sits
    sits q (known a b is keys news) =
        rw (q, a) (positions_as entry_key compare_keys keys (λ j l. ap entry_key (new-key news j l)) ν.older ω.seats)
    sits q (left a b full s same) =
        rw (q, a, same) (positions_as entry_key compare_keys (λ j l. refl) (λ j l. refl) ν.older ω.seats)
    sits q (fresh a b s same stands-there) =
        let here : place' p ≡ next.from = ν.newest (omega arith) in
        let new : new_at text ws' index n p ≡ entry_of text r = ap (entry_of text) stands-there in
        rw (q, a)
        (positions-more entry_key compare_keys
        (positions_as entry_key compare_keys (λ j l. ap entry_key (old-key same j l)) (λ j l. ap entry_key (new-key (λ i o u. same i (omega arith) u) j l))
        ν.older ω.seats)
        (rw here s.0)
        (λ i l. rw (new, old-key same i (omega (arith, here, s.0))) (s.1 i (omega arith)))
        (λ i l o. rw (new, old-key same i o) (result_rest r ω.joined.ascending s i (omega arith) o)))

    stands : next.main ≡ n → RowOutcome text ws ws' index limit walk r mode next → Stands
    stands q (known a b is keys news) =
        rw (q, a, b)
        (standing_as refl refl (sym (tabulate_cong (new_at text ws' index n) (new_at text ws index n) p (new-key news)))
        (standing_known at_hand ω.joined.ascending.sorted sorted_hand (entries_at text ws' index n) is
        (each-tabulate (λ x. compare_is_eq (compare_entries (entry_of text r) x) ≡ false) (new_at text ws index n) p
        (λ j l. ap compare_is_eq (keys-order.greater (ahead_hand.newer j l))))))
    stands q (left a b full s same) =
        rw (q, a, b, same)
        (standing_left at_hand ω.joined.ascending.sorted sorted_hand (result_none r ω.joined.ascending s)
        (rw (length-tabulate (entry_at text ws index) n, length-tabulate (new_at text ws index n) p) full))
    stands q (fresh a b s same stands-there) =
        rw (q, a, b)
        (standing_as refl
        (sym (tabulate_cong (entry_at text ws' index) (entry_at text ws index) n (old-key same)))
        (sym (tabulate-last (new_at text ws' index n) (new_at text ws index n) p (entry_of text r) (new-key (λ i o u. same i (omega arith) u))
        (ap (entry_of text) stands-there)))
        (standing_fresh at_hand ω.joined.ascending.sorted sorted_hand (result_none r ω.joined.ascending s)))

    pub walked_next : Stepped text ws ws' index limit walk r mode next → Walked text ws' back place' index limit m mode whole next (k + 1)
    walked_next σ = record {
      most = omega arith;
      joined = σ.joined;
      seats = sits σ.same σ.taken;
      ahead = λ j l o. σ.ahead (row back index j)
          (ap (λ (x : Entry). compare_entries x (f j)) μ.entry ∙ sorted_at entry_key compare_keys f m τ.valid.sorted k j (omega arith) o);
      standing = stands σ.same σ.taken;
    }
