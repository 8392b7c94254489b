-- What the rest of a line keeps, the text of its record has: one law for each reader of a field. Assumes nothing.
use Prim.Native.Nat.{ℕ, zero, suc}
use mathlib.Core.Path.{◌≡◌, refl, ap, ◌∙◌}
use mathlib.Core.Bool.{Bool, true, false}
use mathlib.Core.List.{[], ◌∷◌}
use mathlib.Core.Option.{Option, none, some}
use lib.Dec.{eqb}
use Rattle.ordmap.proofs.Results.{impossible, accepted_inj, not_accepted}
use Rattle.model.specs.declared.Fault.TheVariants.{FieldNotFound}
use Rattle.std.specs.Prelude.{if◌then◌else◌}
use Rattle.model.specs.Bytes.{Bytes, comma, after}
use Rattle.model.specs.Answer.{Answer, accepted, refuse_field}
use Rattle.model.specs.Line.{from_field, text_field}

-- P holds of what is left when a byte is taken from the front
module _ (P : Bytes → Type 0) (tail : (b : ℕ) (bs : Bytes) → P (b ∷ bs) → P bs) where
  pub after_has : (sep : ℕ) (bs : Bytes) {rest : Bytes} → P bs → after sep bs ≡ some rest → P rest
  unfolding after
  after_has sep [] c p = impossible cc
  after_has sep (b ∷ bs) {rest} c p = go (eqb b sep) p (after_has sep bs (tail b bs c))
    where
      go : (test : Bool) → (if test then some bs else after sep bs) ≡ some rest → (after sep bs ≡ some rest → P rest) → P rest
      go true q ih = let e : bs ≡ rest = cc in rw (← e) (tail b bs c)
      go false q ih = ih q

  pub from_has : (k : ℕ) (body : Bytes) {rest : Bytes} → P body → from_field k body ≡ some rest → P rest
  unfolding from_field
  from_has zero body c p = impossible cc
  from_has (suc zero) body {rest} c p = let e : body ≡ rest = cc in rw (← e) c
  from_has (suc (suc k)) body {rest} c p = go (from_field (suc k) body) refl p (λ r q. from_has (suc k) body {rest = r} c q)
    where
      go : (o : Option Bytes) → from_field (suc k) body ≡ o → elim o as (λ _. Option Bytes) [ none ↦ none | some r ↦ after comma r ] ≡ some rest
          → ((r : Bytes) → from_field (suc k) body ≡ some r → P r) → P rest
      go none e q ih = impossible cc
      go (some r) e q ih = after_has comma r (ih r e) q

  pub text_has : (k : ℕ) (body : Bytes) {text : Bytes} → P body → text_field k body ≡ accepted text → P text
  unfolding text_field
  text_has k body {text} c p = go (from_field k body) refl p
    where
      go : (o : Option Bytes) → from_field k body ≡ o
          → ◌≡◌ {A = Answer Bytes} (elim o [ none ↦ refuse_field FieldNotFound k | some rest ↦ accepted rest ]) (accepted text) → P text
      go none e q = absurd (not_accepted q)
      go (some rest) e q = from_has k body c (e ∙ ap (λ (r : Bytes). some r) (accepted_inj q))
