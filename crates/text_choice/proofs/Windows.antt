-- Request N8, proved of the definitions, for every lawful table of tags. Assumes nothing.
use Prim.Native.Nat.{ℕ, zero, suc, ◌+◌, ◌-◌, ◌<◌, ◌≤◌}
use native.Mathlib.Omega.{arith}
use mathlib.Core.Path.{◌≡◌, refl, sym, ap, ◌∙◌}
use mathlib.Core.Logic.{◌↔◌, inl, inr, ◌⊎◌}
use mathlib.Core.Bool.{Bool, true, false}
use mathlib.Core.List.{List, [], ◌∷◌, map}
use lib.Dec.{ltb}
use lib.ListN.{length, get_or, length-map}
use borrow.Author.Tests.{le-leb, lt-leb, leb-true, leb-false}
use Rattle.ordmap.specs.Result.{bind, value, IsAccepted}
use Rattle.ordmap.specs.Gathering.{flat}
use Rattle.ordmap.proofs.Results.{accepted_inj, not_accepted, not_refused, accepted-is, bind-accepted, bind-refused, value-accepted}
use Rattle.model.specs.declared.Fault.TheVariants.{MalformedBundle, WidthOutside}
use Rattle.model.specs.declared.Kind.{Kind}
use Rattle.model.specs.declared.Mode.TheVariants.{Checked}
use Rattle.model.specs.declared.Refusal.{Refusal}
use Rattle.std.specs.Prelude.{if◌then◌else◌}
use Rattle.model.specs.Lists.{filter, from}
use Rattle.model.specs.Bytes.{Bytes}
use Rattle.model.specs.Limits.{max_width}
use Rattle.model.specs.Answer.{Answer, accepted, refused, refuse}
use Rattle.model.specs.Tags.{default_tag, Lawful}
use Rattle.model.specs.TagTable.{load_tags}
use Rattle.model.specs.Report.{Report}
use Rattle.model.specs.Output.{written}
use Rattle.model.specs.Printing.{print_report}
use Rattle.model.specs.Bundle.{Text, contents, well_formed, text_count, text_at, texts}
use Rattle.model.specs.Gather.{entry_limit, gather_texts}
use Rattle.model.specs.Joined.{joined_report}
use Rattle.model.specs.Demand.{Gatherable}
use Rattle.model.specs.Groups.{texts_of}
use Rattle.model.proofs.Read.{empty_valid}
use Rattle.model.proofs.TagLaws.{default_tag_lawful}
use Rattle.model.proofs.TagTableLaws.{loads_lawful}
use Rattle.model.proofs.Demand.{texts-alike, written-accepted, written-fits, gather-texts, gathered-valid, texts-exactly, print_back}
use Rattle.model.proofs.Refusals.{gathered_never_14}
use Rattle.text_choice.specs.Choice.{choose_texts, RefusedText}
use Rattle.text_choice.specs.Windows.{is_width, is_in_window, window_texts, windows, hit_of_found, window_line, window_lines, print_windows, gather_windows, Holds, WindowsClaim}
use Rattle.text_choice.proofs.ListGather.{refused_text}

-- ---- numbers in a row

from-length : (k n : ℕ) → length (from k n) ≡ n
unfolding from
from-length k zero = refl
from-length k (suc n) = ap suc (from-length (suc k) n)

pub at_from : {A : Type 0} (f : ℕ → A) (k n i : ℕ) (d : A) → i < n → get_or (map f (from k n)) i d ≡ f (k + i)
unfolding from
at_from f k zero i d h = absurd (omega arith)
at_from f k (suc n) zero d h = let e : k ≡ k + 0 = omega arith in ap f e
at_from f k (suc n) (suc i) d h = let e : suc k + i ≡ k + suc i = omega arith in at_from f (suc k) n i d (omega arith) ∙ ap f e

module _ (test : ℕ → Bool) (s e : ℕ) (inside : (j : ℕ) → s ≤ j → j < e → test j ≡ true) (past : (j : ℕ) → e ≤ j → test j ≡ false) where
  -- those from k on, where k is inside or past
  row-rest : (k n : ℕ) → s ≤ k → e ≤ k + n → filter test (from k n) ≡ from k (e - k)
  unfolding filter from
  row-rest k zero h l = let z : e - k ≡ 0 = omega arith in rw z
  row-rest k (suc n) h l = go (ltb k e) refl (row-rest (suc k) n (omega arith) (omega arith))
    where
      go : (b : Bool) → ltb k e ≡ b → filter test (from (suc k) n) ≡ from (suc k) (e - suc k)
          → (if test k then k ∷ filter test (from (suc k) n) else filter test (from (suc k) n)) ≡ from k (e - k)
      go true c r =
          let f : k < e = leb-true (suc k) e c in
          let z : e - k ≡ suc (e - suc k) = omega arith in
          rw (inside k h f, r, z)
      go false c r =
          let f : e ≤ k = omega (arith, leb-false (suc k) e c) in
          let z : e - k ≡ 0 = omega arith in
          let y : e - suc k ≡ 0 = omega arith in
          rw (past k f, r, z, y)

  -- those from k on, where k is before or at s
  row : ((j : ℕ) → j < s → test j ≡ false) → s ≤ e → (k n : ℕ) → k ≤ s → e ≤ k + n → filter test (from k n) ≡ from s (e - s)
  unfolding filter from
  row before o k zero h l = let z : e - s ≡ 0 = omega arith in rw z
  row before o k (suc n) h l = go (ltb k s) refl (λ i. row before o (suc k) n i (omega arith))
    where
      go : (b : Bool) → ltb k s ≡ b → (suc k ≤ s → filter test (from (suc k) n) ≡ from s (e - s)) → filter test (from k (suc n)) ≡ from s (e - s)
      go true c r = let f : k < s = leb-true (suc k) s c in rw (before k f) (r f)
      go false c r =
          let f : s ≤ k = omega (arith, leb-false (suc k) s c) in
          let z : k ≡ s = omega arith in
          row-rest k (suc n) f l ∙ ap (λ (x : ℕ). from x (e - x)) z

-- ---- the window

in_window : (w i j : ℕ) → suc i - w ≤ j → j < suc i → is_in_window w i j ≡ true
unfolding is_in_window
in_window w i j h l =
    let a : j ≤ i = omega arith in
    let b : suc i ≤ j + w = omega arith in
    rw (le-leb j i a, le-leb (suc i) (j + w) b)

pub past_window : (w i j : ℕ) → suc i ≤ j → is_in_window w i j ≡ false
unfolding is_in_window
past_window w i j h = rw (lt-leb j i h)

before_window : (w i j : ℕ) → j < suc i - w → is_in_window w i j ≡ false
unfolding is_in_window
before_window w i j h =
    let a : j ≤ i = omega arith in
    let b : j + w < suc i = omega arith in
    rw (le-leb j i a, lt-leb (suc i) (j + w) b)

-- WINDOW: a row of texts that ends at i
window_row : (w : ℕ) (bundle : Bytes) (i : ℕ) → i < text_count bundle
    → window_texts w bundle i ≡ map (text_at bundle) (from (suc i - w) (suc i - (suc i - w)))
unfolding window_texts choose_texts
window_row w bundle i h =
    ap (map (text_at bundle))
    (row (is_in_window w i) (suc i - w) (suc i) (in_window w i) (past_window w i) (before_window w i) (omega arith) 0 (text_count bundle) (omega arith) (omega arith))

windows-length : (w : ℕ) (bundle : Bytes) → length (windows w bundle) ≡ text_count bundle
windows-length w bundle = length-map (from 0 (text_count bundle)) (window_texts w bundle) ∙ from-length 0 (text_count bundle)

window_at : (w : ℕ) (bundle : Bytes) (i : ℕ) → i < text_count bundle → get_or (windows w bundle) i [] ≡ window_texts w bundle i
window_at w bundle i h = let e : 0 + i ≡ i = omega arith in at_from (window_texts w bundle) 0 (text_count bundle) i [] h ∙ ap (window_texts w bundle) e

-- ---- lines

module _ (tag : Kind → Bytes) where
  lines-length : (limit : ℕ) (tss : List (List Text)) {ls : List Bytes} → window_lines tag limit tss ≡ accepted ls → length ls ≡ length tss
  unfolding window_lines
  lines-length limit [] p = ap length (sym (accepted_inj p))
  lines-length limit (ts ∷ tss) {ls} p =
      let (l, a, q) = bind-accepted (window_line tag limit ts) _ p in
      let (ms, b, c) = bind-accepted (window_lines tag limit tss) _ q in
      ap length (sym (accepted_inj c)) ∙ ap suc (lines-length limit tss b)

  lines_at : (limit : ℕ) (tss : List (List Text)) {ls : List Bytes} → window_lines tag limit tss ≡ accepted ls
      → (i : ℕ) → i < length tss → window_line tag limit (get_or tss i []) ≡ accepted (get_or ls i [])
  unfolding window_lines
  lines_at limit [] p i h = absurd (omega arith)
  lines_at limit (ts ∷ tss) {ls} p i h =
      let (l, a, q) = bind-accepted (window_line tag limit ts) _ p in
      let (ms, b, c) = bind-accepted (window_lines tag limit tss) _ q in
      go i h l ms a (λ k g. lines_at limit tss b k g) (accepted_inj c)
    where
      go : (i : ℕ) → i < suc (length tss) → (l : Bytes) (ms : List Bytes) → window_line tag limit ts ≡ accepted l
          → ((k : ℕ) → k < length tss → window_line tag limit (get_or tss k []) ≡ accepted (get_or ms k [])) → l ∷ ms ≡ ls
          → window_line tag limit (get_or (ts ∷ tss) i []) ≡ accepted (get_or ls i [])
      go zero h l ms a ih e = a ∙ ap (λ (ls : List Bytes). accepted (get_or ls 0 [])) e
      go (suc k) h l ms a ih e = ih k (omega arith) ∙ ap (λ (ls : List Bytes). accepted (get_or ls (suc k) [])) e

  at_lines : (limit : ℕ) (tss : List (List Text)) (ls : List Bytes) → length ls ≡ length tss
      → ((i : ℕ) → i < length tss → window_line tag limit (get_or tss i []) ≡ accepted (get_or ls i [])) → window_lines tag limit tss ≡ accepted ls
  unfolding window_lines
  at_lines limit [] [] e h = refl
  at_lines limit [] (l ∷ ls) e h = absurd (omega arith)
  at_lines limit (ts ∷ tss) [] e h = absurd (omega arith)
  at_lines limit (ts ∷ tss) (l ∷ ls) e h = rw (h 0 (omega arith), at_lines limit tss ls (omega arith) (λ i g. h (suc i) (omega arith)))

  first-refused : (limit : ℕ) (tss : List (List Text)) (i : ℕ) (r : Refusal) → i < length tss
      → ((j : ℕ) → j < i → IsAccepted (window_line tag limit (get_or tss j []))) → window_line tag limit (get_or tss i []) ≡ refused r
      → window_lines tag limit tss ≡ refused r
  unfolding window_lines
  first-refused limit [] i r h a e = absurd (omega arith)
  first-refused limit (ts ∷ tss) zero r h a e = rw e
  first-refused limit (ts ∷ tss) (suc i) r h a e =
      let (l, p) = accepted-is (window_line tag limit ts) (a 0 (omega arith)) in
      rw (p, first-refused limit tss i r (omega arith) (λ j g. a (suc j) (omega arith)) e)

  -- ---- the call

  windows_answer : (bundle : Bytes) (w words room : ℕ) → well_formed bundle ≡ true → 1 ≤ w → w ≤ max_width
      → gather_windows tag bundle w words room ≡ print_windows tag bundle w words room
  unfolding gather_windows
  windows_answer bundle w words room v h l = rw (v, le-leb 1 w h, le-leb w max_width l)

  windows-accepted : (bundle : Bytes) (w words room : ℕ) {out : Bytes} → gather_windows tag bundle w words room ≡ accepted out
      → (ls : List Bytes) × (window_lines tag (entry_limit words) (windows w bundle) ≡ accepted ls) × (out ≡ flat ls)
  unfolding gather_windows
  windows-accepted bundle w words room {out} p = go (well_formed bundle) (is_width w) p
    where
      go : (b c : Bool) → ◌≡◌ {A = Answer Bytes} (if b then (if c then print_windows tag bundle w words room else refuse WidthOutside) else refuse MalformedBundle) (accepted out)
          → (ls : List Bytes) × (window_lines tag (entry_limit words) (windows w bundle) ≡ accepted ls) × (out ≡ flat ls)
      go true true q =
          let (ls, a, r) = bind-accepted (window_lines tag (entry_limit words) (windows w bundle)) _ q in
          (ls, a, (written-accepted room (flat ls) r).0)
      go true false q = absurd (not_accepted q)
      go false c q = absurd (not_accepted q)

  lines_of : (bundle : Bytes) (w words room : ℕ) (out : Bytes) → gather_windows tag bundle w words room ≡ accepted out
      → (ls : List Bytes) × (out ≡ flat ls) × (length ls ≡ text_count bundle)
      × ((i : ℕ) → i < text_count bundle → window_line tag (entry_limit words) (window_texts w bundle i) ≡ accepted (get_or ls i []))
  lines_of bundle w words room out p =
      let (ls, a, e) = windows-accepted bundle w words room p in (
        ls,
        e,
        lines-length (entry_limit words) (windows w bundle) a ∙ windows-length w bundle,
        λ i h.
            ap (window_line tag (entry_limit words)) (sym (window_at w bundle i h))
            ∙ lines_at (entry_limit words) (windows w bundle) a i (omega (arith, h, windows-length w bundle)),
      )

  pub lines-written : (bundle : Bytes) (w words room : ℕ) (ls : List Bytes) → well_formed bundle ≡ true → 1 ≤ w → w ≤ max_width → length ls ≡ text_count bundle
      → ((i : ℕ) → i < text_count bundle → window_line tag (entry_limit words) (window_texts w bundle i) ≡ accepted (get_or ls i []))
      → gather_windows tag bundle w words room ≡ written room (flat ls)
  lines-written bundle w words room ls v h l e each =
      windows_answer bundle w words room v h l
      ∙ ap (λ (r : Answer (List Bytes)). bind r (λ lines. written room (flat lines)))
      (at_lines (entry_limit words) (windows w bundle) ls (e ∙ sym (windows-length w bundle))
      (λ i g. let k : i < text_count bundle = omega (arith, g, windows-length w bundle) in ap (window_line tag (entry_limit words)) (window_at w bundle i k) ∙ each i k))

  pub window_refused : (bundle : Bytes) (w words room i : ℕ) (r : Refusal) → well_formed bundle ≡ true → 1 ≤ w → w ≤ max_width → i < text_count bundle
      → ((j : ℕ) → j < i → IsAccepted (window_line tag (entry_limit words) (window_texts w bundle j)))
      → window_line tag (entry_limit words) (window_texts w bundle i) ≡ refused r
      → gather_windows tag bundle w words room ≡ refused r
  window_refused bundle w words room i r v h l k before e =
      windows_answer bundle w words room v h l
      ∙ ap (λ (r : Answer (List Bytes)). bind r (λ lines. written room (flat lines)))
      (first-refused (entry_limit words) (windows w bundle) i r (omega (arith, k, windows-length w bundle))
      (λ j g. rw (window_at w bundle j (omega arith)) (before j g))
      (ap (window_line tag (entry_limit words)) (window_at w bundle i k) ∙ e))

  -- ---- a line

  line-report : (limit : ℕ) (ts : List Text) {line : Bytes} → window_line tag limit ts ≡ accepted line
      → (report : Report) × (gather_texts tag Checked limit ts [] ≡ accepted report) × (line ≡ hit_of_found report)
  unfolding window_line
  line-report limit ts p =
      let (n, g, q) = bind-accepted (gather_texts tag Checked limit ts []) _ p in
      (n, g, sym (accepted_inj q))

  line_refused : (limit : ℕ) (ts : List Text) {r : Refusal} → window_line tag limit ts ≡ refused r → gather_texts tag Checked limit ts [] ≡ refused r
  unfolding window_line
  line_refused limit ts {r} p = go (bind-refused (gather_texts tag Checked limit ts []) _ p)
    where
      go : (gather_texts tag Checked limit ts [] ≡ refused r)
          ⊎ ((n : Report) × (gather_texts tag Checked limit ts [] ≡ accepted n) × (◌≡◌ {A = Answer Bytes} (accepted (hit_of_found n)) (refused r)))
          → gather_texts tag Checked limit ts [] ≡ refused r
      go (inl q) = q
      go (inr (n, g, q)) = absurd (not_refused q)

  line-exactly : (limit : ℕ) (ts : List Text) (line : Bytes)
      → (window_line tag limit ts ≡ accepted line) ↔ ((reports : List Report) × Gatherable tag limit ts reports × (line ≡ hit_of_found (joined_report reports)))
  unfolding window_line
  line-exactly limit ts line = (to, back)
    where
      to : window_line tag limit ts ≡ accepted line → (reports : List Report) × Gatherable tag limit ts reports × (line ≡ hit_of_found (joined_report reports))
      to p =
          let (n, g, e) = line-report limit ts p in
          let (rs, G, f) = (texts-exactly tag limit ts n).0 g in
          (rs, G, e ∙ ap hit_of_found f)

      back : (reports : List Report) × Gatherable tag limit ts reports × (line ≡ hit_of_found (joined_report reports)) → window_line tag limit ts ≡ accepted line
      back (rs, G, e) = rw ((texts-exactly tag limit ts (joined_report rs)).1 (rs, G, refl), e)

  text-refused : (bundle : Bytes) (w limit i : ℕ) (r : Refusal) → window_line tag limit (window_texts w bundle i) ≡ refused r
      → (r.text < text_count bundle) × RefusedText tag (is_in_window w i) (text_at bundle) limit r.text r
  unfolding window_texts text_at
  text-refused bundle w limit i r p =
      refused_text tag (is_in_window w i) (text_at bundle) (λ j. refl) limit (text_count bundle) r (line_refused limit (window_texts w bundle i) p)

  module _ (L : Lawful tag) where
    -- HELD: any bundle that has exactly the texts
    line-held : (ts : List Text) (part : Bytes) (words words' : ℕ) (line : Bytes) → window_line tag (entry_limit words) ts ≡ accepted line
        → well_formed part ≡ true → texts_of part ≡ contents ts → entry_limit words' ≡ entry_limit words → Holds tag part words' line
    line-held ts part words words' line p v e l =
        let (n, g, f) = line-report (entry_limit words) ts p in
        let same : gather_texts tag Checked (entry_limit words) (texts part) [] ≡ accepted n =
        value-accepted (gather_texts tag Checked (entry_limit words) (texts part) []) (texts-alike tag Checked (entry_limit words) (texts part) ts [] e ∙ ap value g) in
        let (N, i) = gathered-valid tag Checked (entry_limit words) ts [] n empty_valid (omega arith) g in
        record {
          report = n;
          gathers = λ room h.
              gather-texts tag Checked part words' room v
              ∙ ap (λ (k : ℕ). bind (gather_texts tag Checked k (texts part) []) (λ report. written room (print_report tag report))) l
              ∙ ap (λ (r : Answer Report). bind r (λ report. written room (print_report tag report))) same
              ∙ written-fits room (print_report tag n) h;
          reads = (print_back tag L (entry_limit words) n N i (omega arith) (print_report tag n) refl words' (length (print_report tag n)) l (omega arith)).0;
          line_is = f;
        }

    -- N8
    pub windows_hold : WindowsClaim tag
    windows_hold =
        record {
          window_is = window_row;
          lines = lines_of;
          held = λ bundle part w words words' i line p v t l. line-held (window_texts w bundle i) part words words' line p v t l;
          exactly = line-exactly;
          accepts = lines-written;
          refuses = window_refused;
          refused_text = text-refused;
          never_14 = λ limit ts r p n. gathered_never_14 tag Checked limit ts [] (line_refused limit ts p) n;
        }

-- N8 under every table of tags that loads
pub windows_loaded : (table : Bytes) (tag : Kind → Bytes) → load_tags table ≡ accepted tag → WindowsClaim tag
windows_loaded table tag loads = windows_hold tag (loads_lawful table tag loads)

-- N8 under the tags of `RecordKind::as_str`
pub windows-default : WindowsClaim default_tag
windows-default = windows_hold default_tag default_tag_lawful
