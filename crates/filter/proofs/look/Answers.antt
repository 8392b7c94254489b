-- `filter::look` meets its contract, rule by rule. Assumes nothing.
use Rattle.std.proofs.Common.{take}
use Rattle.line_num_pairs.specs.Pairs.{ranges_in}
use Rattle.filter.proofs.ItemLaws.{next-printable, stays-held, stays_until}
use Rattle.filter.proofs.BoundLaws.{ahead-same}
use Rattle.filter.proofs.look.Goals as goal

pub reckon_end-reckoned-requires-clause-printable :
    goal.reckon_end-reckoned-requires-clause-printable
reckon_end-reckoned-requires-clause-printable c = (c.requires.printable.0, next-printable c.requires.printable.1 c.requires.n_nonzero.0)

pub reckon_end-reckoned-requires-clause-last_end :
    goal.reckon_end-reckoned-requires-clause-last_end
reckon_end-reckoned-requires-clause-last_end c =
    ahead-same c.args.words.now c.args.at c.args.n c.args.rule _ c.in-Until.is c.start_line-start.result c.requires.n_nonzero.0
    c.args.last c.requires.ahead c.read_row-row.result c.read_row-row.ensures c.start_line-start.ensures

pub returns-in-Held-clause-stays : goal.returns-in-Held-clause-stays
returns-in-Held-clause-stays c =
    stays-held (take c.args.count (ranges_in c.args.pairs.now)) c.args.words.now c.args.at c.args.n c.args.rule c.read_row-row.result c.read_row-row.ensures
    c.holds_at.result c.in-Held.is c.line_of-line.result c.line_of-line.ensures c.holds_at.ensures

pub returns-in-Until-clause-stays : goal.returns-in-Until-clause-stays
returns-in-Until-clause-stays c =
    stays_until (take c.args.count (ranges_in c.args.pairs.now)) c.args.words.now c.args.at c.args.n c.args.rule c.read_row-row.result c.read_row-row.ensures
    c.holds_at-in-Until.result _ c.in-Until.is c.start_line-start.result c.reckon_end-reckoned.result c.end_of-end.result
    c.start_line-start.ensures c.reckon_end-reckoned.ensures c.end_of-end.ensures c.holds_at-in-Until.ensures
