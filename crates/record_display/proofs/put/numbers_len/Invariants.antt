-- The invariant: the first i fields are n bytes long, at most 21 each.
use Rattle.std.proofs.Common.{◌≡◌, ◌+◌, ◌*◌, ◌≤◌, length, drop}
use Rattle.record_display.specs.Fields.{separated, number_texts}
use Rattle.record_display.proofs.put.numbers_len.Given as goal

abbrev pub invariant-loop-i : goal.invariant-loop-i
invariant-loop-i l =
    (l.n ≤ 21 * l.i)
    × (l.n + length (separated 58 (drop l.i (number_texts l.numbers l.count))) ≡ length (separated 58 (number_texts l.numbers l.count)))
