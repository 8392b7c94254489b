-- The line that a program prints for a refusal, piece by piece. Assumes nothing.
use Rattle.std.specs.Prelude.{ℕ, ◌++◌}
use Rattle.model.specs.declared.Refusal.{Refusal}
use Rattle.model.specs.Bytes.{Bytes, ascii}
use Rattle.model.specs.Answer.{number_of, refused}
use Rattle.model.specs.Gather.{printed_answer}
use Rattle.format.specs.Put.{pair}

-- its line, as SPEC 7.3's program prints it
abbrev pub refused_line : Refusal → Bytes
refused_line r = printed_answer (refused r)

-- number, text, line and field, a blank before each
unfoldable pub places : ℕ → ℕ → ℕ → ℕ → Bytes
places number text line field = pair 32 number 32 text ++ pair 32 line 32 field

-- all but byte 10
unfoldable pub refused_places : Refusal → Bytes
refused_places r = ascii "refused" ++ places (number_of r.fault) r.text r.line r.field

-- "refused", four blanks, four numbers of at most 20 digits, and byte 10
abbrev pub max_refused : ℕ
max_refused = 92
