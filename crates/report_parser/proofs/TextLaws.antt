-- The whole text: the loop's start, its iterations and its end. Assumes nothing.
use Prim.Native.Nat.{ℕ, ◌≤◌}
use mathlib.Core.Path.{◌≡◌, refl, sym, ap, ◌∙◌}
use mathlib.Core.Bool.{Bool, true, false}
use mathlib.Core.List.{List, []}
use lib.ListN.{length}
use Rattle.model.specs.Bytes.{Bytes}
use Rattle.model.specs.declared.Kind.{Kind}
use Rattle.model.specs.declared.Refusal.{Refusal}
use Rattle.model.specs.Answer.{accepted}
use Rattle.model.specs.Reading.{outside}
use Rattle.section.specs.declared.State.{State}
use Rattle.section.specs.Reading.{SectionRoom, state_of, HoldsState}
use Rattle.section.proofs.OtherLaws.{main-few}
use Rattle.std.specs.Prelude.{Result}
use Rattle.report_parser.specs.declared.TextRead.{TextRead as TextSizes}
use Rattle.report_parser.specs.Reader.{Progress, TextFinished, TextRead}
use Rattle.report_parser.proofs.LoopLaws.{start_progress, done_inside, done_outside}

-- before the first line
pub text-start : (tag : Kind → Bytes) (text ws : List ℕ) (index limit from : ℕ) (st : State) → SectionRoom ws index limit
    → ((text words : List ℕ) (index limit : ℕ) → SectionRoom words index limit → HoldsState text words index limit st)
    → ((text words : List ℕ) (index : ℕ) → state_of text words index st ≡ outside [] []) → Progress tag text ws index limit from from 1 st
text-start tag text ws index limit from st room valid state = start_progress tag text ws index limit from st (valid text ws index limit room) (state text ws index)

-- past the last line
pub text_done : (tag : Kind → Bytes) (text ws ws' : List ℕ) (index limit from at number : ℕ) (st : State) (r : Result TextSizes Refusal) → Progress tag text ws index limit from at number st
    → length text ≤ at → TextFinished text ws ws' index st number r → TextRead tag text ws' index limit from r
text_done tag text ws ws' index limit from at number st r p end ε = go st.inside refl
  where
    go : (b : Bool) → st.inside ≡ b → TextRead tag text ws' index limit from r
    go true i = rw (ε.is, i) (record { is = sym (done_inside tag text ws index limit at number st end i) ∙ p.left; held = tt })
    go false i =
        let σ = ε.in_main i in
        rw (ε.is, i) (record {
          is = ap accepted σ.entries ∙ sym (done_outside tag text ws index limit at number st end i) ∙ p.left;
          held = (σ.sections, p.valid.space.most, main-few p.valid σ);
        })
