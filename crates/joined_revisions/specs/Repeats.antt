-- Refusal 20 at a text. Assumes nothing.
use Rattle.std.specs.Prelude.{ℕ}
use Rattle.model.specs.declared.Fault.TheVariants.{RepeatedRevision}
use Rattle.model.specs.declared.Refusal.{Refusal}

abbrev pub repeat_at : ℕ → Refusal
repeat_at i = record { fault = RepeatedRevision; text = i; line = 0; field = 0; needed = 0 }
