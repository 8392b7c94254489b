-- `section::on_source_file` meets its contract. Assumes nothing.
use Rattle.section.proofs.StateLaws.{named-valid}
use Rattle.section.proofs.OtherLaws.{second_path, first-path}
use Rattle.section.proofs.on_source_file.Goals as goal

pub returns-then-has_path : goal.returns-then-has_path
returns-then-has_path c = λ text ζ i. second_path c.args.state _ c.if-has_path.true

pub returns : goal.returns
returns c = λ text ζ i.
    let named = c.with_path-named.ensures in
    first-path c.args.state ζ c.if-has_path.false named (c.open_section.ensures text (named-valid named ζ i))
