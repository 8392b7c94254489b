-- What the loop of `merge::merge` keeps. Assumes nothing.
use Rattle.std.proofs.Common.{◌+◌, take, drop}
use Rattle.merge_search.specs.Names.{OneSection}
use Rattle.merge.specs.Walking.{spare_word}
use Rattle.merge.proofs.PartLaws.{Lent}
use Rattle.merge.proofs.WalkLaws.{Walked, answer, rows_part}
use Rattle.merge.proofs.merge.Given as goal

abbrev pub invariant-loop-k : goal.invariant-loop-k
invariant-loop-k l = record {
  lent : Lent l.base l.initial.words l.words;
  walked : Walked l.text (rows_part l.base l.index l.limit l.words) (drop l.base l.initial.words) (spare_word (take l.base l.words) (l.index + l.limit)) l.index l.limit l.m l.mode
      (answer l.text l.initial.words l.base l.index l.limit l.n l.m l.mode) l.walk l.k;
  section : OneSection l.text l.section;
}
