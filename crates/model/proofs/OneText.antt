-- The gather of one text answers as the reading of that text does, refusals included. Assumes nothing.
use Prim.Native.Nat.{ℕ, zero, suc}
use mathlib.Core.Path.{◌≡◌, refl, sym, ap, ◌∙◌}
use mathlib.Core.Bool.{true}
use mathlib.Core.List.{List, [], ◌∷◌, map}
use lib.ListN.{length}
use Rattle.ordmap.specs.Result.{bind}
use Rattle.ordmap.proofs.Results.{impossible}
use Rattle.ordmap.proofs.Adding.{add_all_empty}
use Rattle.ordmap.proofs.Gathered.{within-fits}
use Rattle.model.specs.declared.Kind.{Kind}
use Rattle.model.specs.declared.Kind.TheVariants as K
use Rattle.model.specs.declared.Mode.{Mode}
use Rattle.model.specs.Lists.{from}
use Rattle.model.specs.Bytes.{Bytes}
use Rattle.model.specs.Answer.{Answer, accepted, refused, in_text}
use Rattle.model.specs.Report.{Report, compare_keys, entry_key, combine_entries, merge, within}
use Rattle.model.specs.Reading.{read_text}
use Rattle.model.specs.Output.{written}
use Rattle.model.specs.Printing.{print_report}
use Rattle.model.specs.Bundle.{Text, contents, text_count, text_at, well_formed, texts}
use Rattle.model.specs.Gather.{entry_limit, read_and_print, gather_text, gather_texts, gather}
use Rattle.model.proofs.KeyOrder.{keys-order}
use Rattle.model.proofs.Entries.{entries_keyed}
use Rattle.model.proofs.Read.{read_text-valid}
use Rattle.model.proofs.Demand.{full, gather-texts}
use Rattle.model.proofs.Refusals.{NoText, no_text}

-- ---- a bundle's texts are numbered from 0

abbrev Numbered : ℕ → List Text → Type 0
Numbered i [] = Unit {0}
Numbered i (t ∷ ts) = (t.index ≡ i) × Numbered (suc i) ts

numbered : (bundle : Bytes) → Numbered 0 (texts bundle)
unfolding texts text_at from
numbered bundle = go 0 (text_count bundle)
  where
    go : (i n : ℕ) → Numbered i (map (text_at bundle) (from i n))
    go i zero = tt
    go i (suc n) = (refl, go (suc i) n)

-- ---- a text

module _ (tag : Kind → Bytes) (limit : ℕ) where
  -- a text joined to nothing is its report
  pub read-alone : (mode : Mode) (text : Bytes) → gather_text tag mode limit text [] ≡ read_text tag limit text
  unfolding gather_text merge within
  read-alone mode text = go (read_text tag limit text) refl
    where
      go : (r : Answer Report) → read_text tag limit text ≡ r
          → bind r (λ read. bind (merge mode [] read) (λ joined. within limit (length joined) joined)) ≡ r
      go (refused c) e = refl
      go (accepted r) e =
          let (R, n) = read_text-valid tag limit text e in
          rw (add_all_empty entry_key compare_keys (combine_entries mode) keys-order (entries_keyed mode) r R.sorted, within-fits full limit (length r) r n)

  first-text : (r : Answer Report) → NoText r → in_text 0 r ≡ r
  first-text (refused c) h = ap (λ (n : ℕ). refused (record { fault = c.fault; text = n; line = c.line; field = c.field; needed = c.needed })) (sym h.0)
  first-text (accepted r) h = refl

  alone : (mode : Mode) (text : Bytes) → in_text 0 (gather_text tag mode limit text []) ≡ read_text tag limit text
  alone mode text = ap (in_text 0) (read-alone mode text) ∙ first-text (read_text tag limit text) (no_text tag limit text)

-- ONE TEXT
pub gather-one : (tag : Kind → Bytes) (mode : Mode) (bundle text : Bytes) (words room : ℕ) → well_formed bundle ≡ true
    → contents (texts bundle) ≡ text ∷ [] → gather tag mode bundle words room ≡ read_and_print tag text words room
unfolding read_and_print gather_texts
gather-one tag mode bundle text words room w t =
    gather-texts tag mode bundle words room w
    ∙ ap (λ (r : Answer Report). bind r next) (only (texts bundle) t (numbered bundle))
  where
    next : Report → Answer Bytes
    next report = written room (print_report tag report)

    self : (r : Answer Report) → bind r (λ report. accepted report) ≡ r
    self (accepted a) = refl
    self (refused c) = refl

    head : {b c : Bytes} {bs cs : List Bytes} → ◌≡◌ {A = List Bytes} (b ∷ bs) (c ∷ cs) → b ≡ c
    head e = cc

    only : (ts : List Text) → contents ts ≡ text ∷ [] → Numbered 0 ts → gather_texts tag mode (entry_limit words) ts [] ≡ read_text tag (entry_limit words) text
    only [] e n = impossible cc
    only (u ∷ v ∷ ts) e n = impossible cc
    only (u ∷ []) e n =
        self (in_text u.index (gather_text tag mode (entry_limit words) u.bytes []))
        ∙ ap (λ (i : ℕ). in_text i (gather_text tag mode (entry_limit words) u.bytes [])) n.0
        ∙ ap (λ (b : Bytes). in_text 0 (gather_text tag mode (entry_limit words) b [])) (head e)
        ∙ alone tag (entry_limit words) mode text
