use Rattle.std.proofs.Common.{arith, refl, ◌≡◌, ℕ, List, ◌++◌, length, drop, ap, sym, ◌∙◌}
use Rattle.model.specs.Output.{output_after}
use Rattle.format.proofs.PutLaws.{short_out, copied_out}
use Rattle.lcov_c_words.proofs.put_words.Goals as goal

pub returns-then-slice-lt8 : goal.returns-then-slice-lt8
returns-then-slice-lt8 c = short_out c.args.words c.args.slice.now (omega (arith, c.if-slice-lt8.true, c.well_formed))

pub returns : goal.returns
unfolding output_after
returns c =
    let words = c.args.words in
    let slice = c.args.slice.now in
    let n : length words ≡ 8 = omega (arith, c.well_formed) in
    ap (λ (s : List ℕ). s ++ drop 8 slice) c.copy_from_slice.ensures.after
    ∙ ap (λ (k : ℕ). words ++ drop k slice) (sym n)
    ∙ copied_out words slice words refl (omega (arith, n, c.if-slice-lt8.false))
