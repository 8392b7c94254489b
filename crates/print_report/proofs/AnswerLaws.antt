-- A length that is enough for bytes, and the answer of a call that measures and then writes them. Assumes nothing.
use Rattle.std.specs.Prelude.{Result, Ok, Err}
use Rattle.model.specs.declared.Refusal.{Refusal}
use Prim.Native.Nat.{ℕ, ◌*◌, ◌^◌, ◌≤◌, ◌<◌, min}
use native.Mathlib.Omega.{arith}
use native.Mathlib.Nat.{zero-add}
use mathlib.Core.Path.{◌≡◌, refl, sym, ap, ◌∙◌}
use mathlib.Core.Bool.{true, false}
use mathlib.Core.List.{◌++◌}
use lib.ListN.{length, drop}
use lib.Dec.{leb}
use borrow.Author.Tests.{le-leb, lt-leb}
use Rattle.model.specs.declared.Fault.TheVariants.{OutputTooShort}
use Rattle.model.specs.Answer.{Answer, accepted, refuse_length}
use Rattle.model.specs.Bytes.{Bytes}
use Rattle.model.specs.Calls.{length_answer}
use Rattle.model.specs.Limits.{u64_max}
use Rattle.model.specs.Output.{written, output_after}
use Rattle.print_rows.specs.Emit.{RoomFor, Emitted}
use Rattle.print_report.specs.Printing.{RequiredLength}

-- a length that the bytes, as they were measured, need
pub required_measured : {out out₁ bytes : Bytes} {r : ℕ} → Emitted false out out₁ 0 bytes r → length out * 1 < 2 ^ 63 → RequiredLength out out₁ bytes r
required_measured ε few = record { same = ε.after; short = λ h. omega (arith, ε.next); fits = λ h. omega (arith, ε.next) }

-- and none where they surely fit
pub required_none : {out bytes : Bytes} → length bytes ≤ length out → RequiredLength out out bytes 0
required_none h = record { same = refl; short = λ l. absurd (omega arith); fits = λ l. h }

module _ {bytes out out₁ : Bytes} {needed : ℕ} (enough : RequiredLength out out₁ bytes needed) (few : length out * 1 < 2 ^ 63) where
  size : length out₁ ≡ length out
  size = ap length enough.same

  -- too short
  module _ (h : length out₁ < needed) where
    needed-is : needed ≡ min (length bytes) u64_max
    needed-is = enough.short (omega (arith, size))

    is-short : written (length out) bytes ≡ refuse_length (length bytes)
    unfolding written
    is-short = let e : leb (length bytes) (length out) ≡ false = lt-leb (length bytes) (length out) (omega (arith, needed-is, size)) in rw e

    pub short_answer : {r : Result ℕ Refusal} → r ≡ length_answer {A = ℕ} (refuse_length needed) → r ≡ length_answer (written (length out) bytes)
    unfolding length_answer
    short_answer e =
        let once : min (min (length bytes) u64_max) u64_max ≡ min (length bytes) u64_max = omega arith in
        e ∙ ap (λ (m : ℕ). length_answer {A = ℕ} (refuse_length m)) needed-is ∙ (rw once) ∙ sym (ap length_answer is-short)

    pub short-out : out₁ ≡ output_after (written (length out) bytes) out
    unfolding output_after
    short-out = enough.same ∙ sym (ap (λ (a : Answer Bytes). output_after a out) is-short)

  -- long enough, and written then
  module _ (h : needed ≤ length out₁) where
    fits : length bytes ≤ length out
    fits = omega (arith, enough.fits (omega (arith, size)))

    is-written : written (length out) bytes ≡ accepted bytes
    unfolding written
    is-written = let e : leb (length bytes) (length out) ≡ true = le-leb (length bytes) (length out) fits in rw e

    pub second-room : RoomFor true out₁ 0 bytes
    second-room = omega (arith, fits, size)

    module _ {out₂ : Bytes} {len : ℕ} (ε : Emitted true out₁ out₂ 0 bytes len) where
      second : Emitted true out out₂ 0 bytes len
      second = rw enough.same at ε

      pub written_answer : Ok len ≡ length_answer (written (length out) bytes)
      unfolding length_answer
      written_answer = ap Ok (let e : len ≡ length bytes = omega (arith, second.next, fits, few) in e) ∙ sym (ap length_answer is-written)

      pub written_out : out₂ ≡ output_after (written (length out) bytes) out
      unfolding output_after
      written_out =
          second.after ∙ ap (λ (m : ℕ). bytes ++ drop m out) (zero-add (length bytes)) ∙ sym (ap (λ (a : Answer Bytes). output_after a out) is-written)

pub short-is : (needed : ℕ) → needed ≤ u64_max
    → Err (record { fault = OutputTooShort; text = 0; line = 0; field = 0; needed = needed }) ≡ length_answer {A = ℕ} (refuse_length needed)
unfolding length_answer
short-is needed h = let e : min needed u64_max ≡ needed = omega arith in rw e
