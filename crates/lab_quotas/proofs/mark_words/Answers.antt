-- `lab_quotas::mark_words` meets its contract. Assumes nothing.
use Rattle.std.proofs.Common.{rules}
use Rattle.lab_quotas.proofs.LabLaws.{let_in_words, over-words, refused-words}
use Rattle.lab_quotas.proofs.mark_words.Goals as goal

pub returns-in-LetIn : goal.returns-in-LetIn
returns-in-LetIn c = search (let_in_words, rules)

pub returns-in-OverQuota : goal.returns-in-OverQuota
returns-in-OverQuota c = search (over-words, rules)

pub returns-in-RefusedLab : goal.returns-in-RefusedLab
returns-in-RefusedLab c = search (refused-words, rules)
