-- What a program prints for the answer of a call is at the front of its output. Assumes nothing.
use Rattle.std.specs.Prelude.{Result, Ok, Err}
use Prim.Native.Nat.{ℕ, ◌≤◌, ◌<◌}
use mathlib.Core.Path.{◌≡◌, sym, ap, ◌∙◌}
use native.Mathlib.Omega.{arith}
use lib.ListN.{length, drop, length-append}
use lib.Seq.{take_at}
use borrow.Author.Tests.{le-leb, lt-leb}
use Rattle.model.specs.declared.Fault.TheVariants.{MalformedBundle}
use Rattle.model.specs.declared.Refusal.{Refusal}
use Rattle.model.specs.Bytes.{Bytes}
use Rattle.model.specs.Answer.{Answer, accepted, refused, unplaced}
use Rattle.model.specs.Limits.{program_input, program_words, program_output}
use Rattle.model.specs.Output.{output_after}
use Rattle.model.specs.Calls.{WriteCall, length_answer}
use Rattle.model.proofs.CallLaws.{length_exact}
use Rattle.model.specs.Gather.{printed_answer, program_of}
use Rattle.format.specs.Put.{over}
use Rattle.ordmap.proofs.Results.{impossible}
use Rattle.program_io.specs.Refused.{refused_line}
use Rattle.program_io.specs.Front.{Fronts}

-- bytes at the front are the first so many
front : (s old out : Bytes) (n : ℕ) → n ≡ length s → out ≡ over s old → Fronts n out s
unfolding output_after
front s old out n e o = rw o (record {
  within = omega (arith, length-append s (drop (length s) old));
  is = take_at s (drop (length s) old) n (sym e);
})

fronts_as : {n : ℕ} {out : Bytes} (s t : Bytes) → s ≡ t → Fronts n out s → Fronts n out t
fronts_as s t e φ = rw e at φ

module _ (old out : Bytes) (n : ℕ) where
  written_shown : (a : Answer Bytes) → Ok n ≡ length_answer a → out ≡ output_after a old → Fronts n out (printed_answer a)
  unfolding length_answer printed_answer
  written_shown (accepted bytes) w o = front bytes old out n (cc) o
  written_shown (refused r) w o = impossible cc

  refused_shown : (a : Answer Bytes) (q : Refusal) → Err q ≡ length_answer a → n ≡ length (refused_line q) → out ≡ over (refused_line q) old → Fronts n out (printed_answer a)
  unfolding length_answer
  refused_shown (accepted bytes) q w e o = impossible cc
  refused_shown (refused r) q w e o = let z : q ≡ r = cc in fronts_as _ _ (ap refused_line z) (front (refused_line q) old out n e o)

-- a program that hands its input to a call
module _ (call : Bytes → ℕ → ℕ → Answer Bytes) where
  -- the call is lent the program's scratch and output
  module _ (bundle old : Bytes) (words : ℕ) (scratch : words ≡ program_words) (lent : length old ≡ program_output) where
    as_lent : call bundle words (length old) ≡ call bundle program_words program_output
    as_lent = rw (scratch, lent)

    pub written-front : (out : Bytes) (n : ℕ) (a : Result ℕ Refusal) → WriteCall (call bundle words (length old)) old out a → a ≡ Ok n
        → Fronts n out (printed_answer (call bundle program_words program_output))
    written-front out n a c w =
        fronts_as _ _ (ap printed_answer as_lent)
        (written_shown old out n (call bundle words (length old)) (sym w ∙ length_exact (call bundle words (length old)) a c.returns) c.leaves)

    pub refused-front : {was : Bytes} (mid out : Bytes) (n : ℕ) (a : Result ℕ Refusal) (q : Refusal) → WriteCall (call bundle words (length old)) old was a → a ≡ Err q
        → n ≡ length (refused_line q) → out ≡ over (refused_line q) mid → Fronts n out (printed_answer (call bundle program_words program_output))
    refused-front mid out n a q c w l o =
        fronts_as _ _ (ap printed_answer as_lent)
        (refused_shown mid out n (call bundle words (length old)) q (sym w ∙ length_exact (call bundle words (length old)) a c.returns) l o)

  -- any input
  module _ (input old out : Bytes) (n : ℕ) where
    pub too_long : (q : Refusal) → program_input < length input → q ≡ unplaced MalformedBundle → n ≡ length (refused_line q) → out ≡ over (refused_line q) old
        → Fronts n out (program_of call input)
    unfolding program_of
    too_long q h e l o = fronts_as _ _ (ap refused_line e ∙ rw (lt-leb (length input) program_input h)) (front (refused_line q) old out n l o)

    pub short_enough : length input ≤ program_input → Fronts n out (printed_answer (call input program_words program_output)) → Fronts n out (program_of call input)
    unfolding program_of
    short_enough h φ = fronts_as _ _ (rw (le-leb (length input) program_input h)) φ
