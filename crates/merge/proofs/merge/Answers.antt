-- `merge::merge` meets its contract. Assumes nothing.
use Rattle.std.proofs.Common.{◌≡◌, ◌+◌, ◌∙◌, refl, ap, rules, arith, List, ℕ, take, drop, Err}
use Rattle.table.specs.Store.{row}
use Rattle.merge_search.specs.Names.{SameEntry}
use Rattle.merge_search.proofs.NameLaws.{same-entry_as}
use Rattle.merge_search.proofs.SearchLaws.{whole_as}
use Rattle.merge.specs.Walking.{spare_word}
use Rattle.merge.proofs.PartLaws.{other-part, lent-front, lent_back}
use Rattle.merge.proofs.WalkLaws.{walked_start, walked_ready, walked_refused, walked_next}
use Rattle.merge.proofs.EndLaws.{merged-refused, settle_store, settle_rising, merged_done}
use Rattle.merge.proofs.merge.Goals as goal

pub loop-k-init : goal.loop-k-init
loop-k-init c = record { lent = record { other = refl; size = refl }; walked = walked_start c.args.mode c.requires; section = c.no_section-section.ensures _ }

pub step-requires-clause-row_comes_next : goal.step-requires-clause-row_comes_next
step-requires-clause-row_comes_next c =
    let i = c.loop-k.invariant in
    let is : c.get-read.result ≡ row (drop c.args.base c.args.words.now) c.args.index c.loop-k.k =
    c.get-read.ensures ∙ ap (λ (ws : List ℕ). row ws c.args.index c.loop-k.k) (other-part i.lent) in
    let μ : SameEntry c.args.text.now (row (drop c.args.base c.args.words.now) c.args.index c.loop-k.k) c.with_known_names-row.result =
    same-entry_as is (c.with_known_names-row.ensures _ i.section (whole_as is (c.requires.other.whole c.loop-k.k c.loop-k-test.true))) in
    walked_ready i.walked c.requires.other (omega arith) c.with_known_names-row.result μ

pub returns-in_err-next : goal.returns-in_err-next
returns-in_err-next c =
    let i = c.loop-k.invariant in
    let is : c.get-read.result ≡ row (drop c.args.base c.args.words.now) c.args.index c.loop-k.k =
    c.get-read.ensures ∙ ap (λ (ws : List ℕ). row ws c.args.index c.loop-k.k) (other-part i.lent) in
    let μ : SameEntry c.args.text.now (row (drop c.args.base c.args.words.now) c.args.index c.loop-k.k) c.with_known_names-row.result =
    same-entry_as is (c.with_known_names-row.ensures _ i.section (whole_as is (c.requires.other.whole c.loop-k.k c.loop-k-test.true))) in
    let fault = c.in_err-next.field-0.0 in
    let e : c.from_residual.result ≡ Err fault = search rules in
    rw e (merged-refused (walked_refused i.walked c.requires.other (omega arith) c.with_known_names-row.result μ (take (c.args.index + c.args.limit) c.step.new.words) fault c.in_err-next.ensures.row_added))

pub loop-k-preserved : goal.loop-k-preserved
loop-k-preserved c =
    let i = c.loop-k.invariant in
    let is : c.get-read.result ≡ row (drop c.args.base c.args.words.now) c.args.index c.loop-k.k =
    c.get-read.ensures ∙ ap (λ (ws : List ℕ). row ws c.args.index c.loop-k.k) (other-part i.lent) in
    let μ : SameEntry c.args.text.now (row (drop c.args.base c.args.words.now) c.args.index c.loop-k.k) c.with_known_names-row.result =
    same-entry_as is (c.with_known_names-row.ensures _ i.section (whole_as is (c.requires.other.whole c.loop-k.k c.loop-k-test.true))) in
    let spare = c.args.index + c.args.limit in
    record {
      lent = lent_back i.lent c.step.new.words c.requires.whole c.step.auto.words;
      walked = rw (lent-front i.lent c.step.new.words c.requires.whole c.step.auto.words)
          (walked_next i.walked c.requires.other (omega arith) c.with_known_names-row.result μ (take spare c.step.new.words) (spare_word c.step.new.words spare) c.in_ok-next.next
          c.in_ok-next.ensures.positions_kept c.in_ok-next.ensures.row_added);
      section = c.section_of-section.ensures;
    }

pub merge_delta-requires-clause-store : goal.merge_delta-requires-clause-store
merge_delta-requires-clause-store c =
    let ω = c.loop-k.invariant.walked in (
      settle_store c.loop-k.words c.requires ω c.loop-k-test.false (omega (arith, c.requires.whole, c.loop-k.invariant.lent.size)),
      settle_rising c.loop-k.words c.requires ω c.loop-k-test.false (omega (arith, c.requires.whole, c.loop-k.invariant.lent.size)),
    )

pub returns : goal.returns
returns c =
    let i = c.loop-k.invariant in
    merged_done c.loop-k.words c.requires i.walked c.loop-k-test.false (omega (arith, c.requires.whole, i.lent.size)) c.merge_delta.new.words
    c.merge_delta.ensures _ (lent-front i.lent c.merge_delta.new.words c.requires.whole c.merge_delta.auto.words) c.finish_merge.result c.finish_merge.ensures
