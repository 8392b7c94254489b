-- What a call with quotas returns and leaves in the lent buffers. Assumes nothing.
use Rattle.model.specs.declared.Refusal.{Refusal}
use Rattle.std.specs.Prelude.{ℕ, ◌≡◌, List, Result}
use Rattle.model.specs.Bytes.{Bytes}
use Rattle.model.specs.Answer.{Answer}
use Rattle.model.specs.Calls.{WriteCall}
use Rattle.text_choice.specs.Quotas.{LabsAnswer, joint_of, marks_after}

pub record QuotasCall (answer : Answer LabsAnswer) (out out' : Bytes) (marks marks' : List ℕ) (r : Result ℕ Refusal) : Type 0 where
  pub call : WriteCall (joint_of answer) out out' r
  pub marked : marks' ≡ marks_after answer marks
