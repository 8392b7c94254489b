-- The end of the walk: the delta is merged, and the result is the model's answer. Assumes nothing.
use Prim.Native.Nat.{ℕ, ◌+◌, ◌-◌, ◌≤◌, ◌<◌}
use native.Mathlib.Omega.{arith}
use native.Mathlib.Nat.{zero-add}
use mathlib.Core.Path.{◌≡◌, refl, sym, ap, ◌∙◌}
use mathlib.Core.Bool.{Bool, true, false}
use mathlib.Core.List.{List, []}
use lib.ListN.{length, take, drop, length-take}
use lib.Seq.{get_or-take}
use Rattle.table.specs.Rows.{word}
use Rattle.table.specs.Store.{row, Store}
use Rattle.table.proofs.PlaceLaws.{by-lt}
use Rattle.table.proofs.TabulateLaws.{length-tabulate}
use Rattle.table_interleave.specs.Interleaved.{Ascending}
use Rattle.table_interleave.proofs.InterleavedLaws.{interleaved_each}
use Rattle.table_interleave.proofs.PositionLaws.{sorted-tabulate, positions-rising, interleaved_adds}
use Rattle.ordmap.proofs.Results.{not_accepted, bind-accepted}
use Rattle.model.specs.declared.Fault.{Fault}
use Rattle.model.specs.declared.Fault.TheVariants.{TooManyEntries}
use Rattle.model.specs.declared.Mode.{Mode}
use Rattle.model.specs.Answer.{accepted, refuse}
use Rattle.model.specs.Report.{Report, entry_key, compare_keys, combine_entries, merge, within}
use Rattle.model.proofs.KeyOrder.{keys-order}
use Rattle.model.proofs.Entries.{entries_keyed}
use Rattle.model.proofs.MergeValid.{merge-valid}
use Rattle.table_section.specs.Sections.{entry_of, entry_at, entries_at, RowInBounds}
use Rattle.section.specs.Table.{Table}
use Rattle.section_upsert.proofs.UpsertLaws.{within-fits, within-past}
use Rattle.std.specs.Prelude.{Result, Ok, Err}
use Rattle.merge.specs.declared.Walk.{Walk}
use Rattle.merge.specs.Walking.{new_at, news_at, spare_word, DeltaMerged, ended_of}
use Rattle.merge.specs.Merging.{Tables, MergedAsModel}
use Rattle.merge.proofs.StandLaws.{all, Standing, standing_fits, standing_full}
use Rattle.merge.proofs.PartLaws.{part-row, part-store}
use Rattle.merge.proofs.RestLaws.{rest_end}
use Rattle.merge.proofs.WalkLaws.{Walked, standing_as, answer, rows_part}

-- ---- the end

pub ended_full : (full : Bool) (n : ℕ) → full ≡ true → Err TooManyEntries ≡ ended_of full n
ended_full full n e = rw e

pub ended-fits : (full : Bool) (n : ℕ) → full ≡ false → Ok n ≡ ended_of full n
ended-fits full n e = rw e

-- ---- the answers

pub merged-refused : {text words₀ words : List ℕ} {base index limit n m : ℕ} {mode : Mode} {fault : Fault}
    → refuse fault ≡ answer text words₀ base index limit n m mode
    → MergedAsModel text words₀ words base index limit n m mode (Err fault)
merged-refused e = record { is = e; held = tt }

-- the whole text is merged
module _ {text words₀ : List ℕ} (words : List ℕ) {base index limit n used m : ℕ} {mode : Mode} {walk : Walk} {k : ℕ}
    (τ : Tables text words₀ base index limit n used m)
    (ω : Walked text (rows_part base index limit words) (drop base words₀) (spare_word (take base words) (index + limit)) index limit m mode
    (answer text words₀ base index limit n m mode) walk k)
    (h : m ≤ k) (size : base ≤ length words) where
  abbrev earlier : List ℕ
  earlier = take base words

  abbrev ws : List ℕ
  ws = rows_part base index limit words

  abbrev both : ℕ
  both = walk.main + walk.delta

  same-words : (j : ℕ) → j < index + limit → word earlier j ≡ word ws j
  same-words j l = sym (get_or-take (index + limit) earlier j 0 l)

  same_row : (j : ℕ) → j < both → row earlier index j ≡ row ws index j
  same_row = part-row ws earlier same-words ω.joined.ascending.store (omega (arith, ω.joined.most))

  -- what `merge_delta` needs
  pub settle_store : Store earlier index both
  settle_store =
      part-store ws earlier same-words ω.joined.ascending.store (omega (arith, ω.joined.most)) (simp length-take (omega (arith, τ.words)))

  pub settle_rising : Ascending (spare_word earlier (index + limit)) walk.main walk.delta
  settle_rising = positions-rising entry_key compare_keys keys-order ω.joined.ascend ω.seats

  last : Standing mode limit (answer text words₀ base index limit n m mode) [] (entries_at text ws index walk.main)
      (news_at text ws index walk.main walk.delta) walk.full
  last = standing_as (rest_end (entry_at text (drop base words₀) index) m k h) refl refl ω.standing

  module _ (front : List ℕ) (σ : DeltaMerged earlier front index (index + limit) walk.main walk.delta) where
    abbrev joined : Report
    joined = entries_at text front index both

    merged_combined : all mode (news_at text ws index walk.main walk.delta) (entries_at text ws index walk.main) ≡ accepted joined
    merged_combined =
        interleaved_adds (entry_of text) σ.rows
        (λ i l. ap (entry_of text) (sym (same_row i (omega arith)) ∙ ap (row earlier index) (sym (zero-add i))))
        (λ j l. ap (entry_of text)
        (sym (same_row (walk.main + j) (omega arith)) ∙ ap (row earlier index) (let z : walk.main + j ≡ 0 + walk.main + j = omega arith in z)))
        (λ i l. ap (entry_of text) (ap (row front index) (sym (zero-add i))))
        entry_key compare_keys (combine_entries mode) keys-order (entries_keyed mode) ω.seats settle_rising ω.joined.ascending.sorted
        (sorted-tabulate entry_key compare_keys (new_at text ws index walk.main) walk.delta ω.joined.ascend)

    fitting : walk.full ≡ false → accepted joined ≡ answer text words₀ base index limit n m mode
    fitting e = standing_fits last joined e merged_combined (rw (length-tabulate (entry_at text front index) both) ω.joined.most)

    -- what is joined is the model's report, which is valid
    report : walk.full ≡ false → merge mode (entries_at text (take base words₀) index n) (entries_at text (drop base words₀) index m) ≡ accepted joined
    report e =
        let (l, p, q) = bind-accepted (merge mode (entries_at text (take base words₀) index n) (entries_at text (drop base words₀) index m))
        (λ l. within limit (length l) l) (sym (fitting e)) in
        p ∙ by-lt limit (length l)
        (λ z. absurd (not_accepted (sym (within-past limit (length l) l z) ∙ q)))
        (λ z. sym (within-fits limit (length l) l z) ∙ q)

    whole_row : (j : ℕ) → j < both → RowInBounds text (row earlier index j)
    whole_row j l = rw (same_row j l)
        (by-lt j walk.main
        (λ z. ω.joined.ascending.whole j z)
        (λ z. rw (let y : j ≡ walk.main + (j - walk.main) = omega arith in y) (ω.joined.fresh (j - walk.main) (omega arith))))

    whole-joined : (j : ℕ) → j < both → RowInBounds text (row front index j)
    whole-joined j l = interleaved_each settle_rising σ.rows (RowInBounds text) (λ i a b. whole_row i (omega arith)) j (omega arith) (omega arith)

    module _ (words' : List ℕ) (put : take base words' ≡ front) where
      done : (full : Bool) → walk.full ≡ full → MergedAsModel text words₀ words' base index limit n m mode (ended_of full both)
      done true e = record { is = standing_full last e; held = tt }
      done false e = record {
        is = ap (λ (ws : List ℕ). accepted (entries_at text ws index both)) put ∙ fitting e;
        held = (rw put table, ω.joined.most);
      }
        where
          table : Table text front index both both
          table = record {
            store = σ.store;
            room = omega arith;
            whole = whole-joined;
            valid = merge-valid mode (entries_at text (take base words₀) index n) (entries_at text (drop base words₀) index m) joined
                τ.into.valid τ.other.valid (report e);
          }

      pub merged_done : (r : Result ℕ Fault) → r ≡ ended_of walk.full both → MergedAsModel text words₀ words' base index limit n m mode r
      merged_done r e = rw e (done walk.full refl)
