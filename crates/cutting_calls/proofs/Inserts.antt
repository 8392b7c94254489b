-- Inserts and queries: the calls do what the definitions do. Assumes nothing.
use Rattle.std.specs.Prelude.{Result, Ok, Err}
use Prim.Native.Nat.{ℕ, ◌≤◌}
use mathlib.Core.Path.{◌≡◌, refl, sym, ap, ◌∙◌}
use mathlib.Core.Logic.{◌↔◌}
use mathlib.Core.Bool.{Bool, true}
use mathlib.Core.List.{List, [], Memᴰ as Member}
use lib.ListN.{length}
use Rattle.ordmap.proofs.Results.{impossible}
use Rattle.model.specs.declared.Range.{Range}
use Rattle.model.specs.declared.Refusal.{Refusal}
use Rattle.model.specs.Answer.{Answer, accepted, refused}
use Rattle.model.specs.Ranges.{insert_call, slice_after, holds, query_call}
use Rattle.model.specs.Calls.{InsertCall, length_answer, ValueCall, call_answer}
use Rattle.model.proofs.CallLaws.{length_exact, call_exact}
use Rattle.cutting.specs.Inserts.{insert_all, Shares, Inserts, no_more as end-of-inserts, one_more as insert-more}
use Rattle.cutting.proofs.Inserts.{queries}
use Rattle.cutting_calls.specs.Inserts.{InsertCalls, no_more, one_more, QueriesCalls}

-- a call that returned a number of pairs was accepted
used-accepted : (answer : Answer (List Range)) (slice slice' : List Range) (used : ℕ) → InsertCall answer slice slice' (Ok used)
    → (ranges : List Range) × (answer ≡ accepted ranges) × (length ranges ≡ used) × (slice_after (accepted ranges) slice ≡ slice')
unfolding length_answer
used-accepted (accepted ranges) slice slice' used c = (ranges, refl, used_inj (sym (length_exact (accepted ranges) (Ok used) c.returns)), sym c.leaves)
  where
    used_inj : {m n : ℕ} → ◌≡◌ {A = Result ℕ Refusal} (Ok m) (Ok n) → m ≡ n
    used_inj p = cc
used-accepted (refused q) slice slice' used c = absurd (clash (length_exact {A = Range} (refused q) (Ok used) c.returns))
  where
    clash : {n : ℕ} {q : Refusal} → ◌≡◌ {A = Result ℕ Refusal} (Ok n) (Err q) → ⊥
    clash p = impossible cc

calls-insert : {slice last : List Range} {used n : ℕ} {rs : List Range} → InsertCalls slice used rs last n → Inserts slice used rs last n
calls-insert no_more = end-of-inserts
calls-insert (one_more {slice = slice} {slice' = slice'} {last = last} {used = used} {used' = used'} {n = n} {r = r} {rs = rs} c more) =
    let (ranges, is, long, left) = used-accepted (insert_call slice used r) slice slice' used' c in
    let behind : Inserts (slice_after (accepted ranges) slice) (length ranges) rs last n = rw (left, long) (calls-insert more) in
    insert-more is behind

module _ (slice last rs : List Range) (n s e : ℕ) (answer : Result Bool Refusal) (inserts : InsertCalls slice 0 rs last n) (asked : ValueCall (query_call last n s e) answer) where
  calls_answer : answer ≡ Ok (holds (insert_all rs []) s e)
  unfolding call_answer
  calls_answer = call_exact (query_call last n s e) answer asked ∙ ap call_answer (queries.answers slice last rs n s e (calls-insert inserts))

  calls_say_yes : s ≤ e → (answer ≡ Ok true) ↔ ((r : Range) × Member r rs × Shares s e r)
  calls_say_yes h =
      let (to, from) = queries.ranges_hold rs s e h in
      (λ p. to (holds_inj (sym calls_answer ∙ p)), λ x. calls_answer ∙ ap (λ (b : Bool). Ok b) (from x))
    where
      holds_inj : {a b : Bool} → ◌≡◌ {A = Result Bool Refusal} (Ok a) (Ok b) → a ≡ b
      holds_inj p = cc

-- INSERTS AND QUERIES, of the calls
pub queries-calls : QueriesCalls
queries-calls =
    record {
      says_yes = λ slice last rs n s e answer inserts asked h. calls_say_yes slice last rs n s e answer inserts asked h;
      answers = calls_answer;
    }
