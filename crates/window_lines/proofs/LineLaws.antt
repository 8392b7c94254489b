-- The lines of windows, put one after the other. Assumes nothing.
use Prim.Native.Nat.{ℕ, ◌+◌, ◌*◌, ◌-◌, ◌≤◌, ◌<◌}
use native.Mathlib.Omega.{arith}
use mathlib.Core.Path.{◌≡◌, refl, sym, ap, ◌∙◌}
use mathlib.Core.Bool.{Bool, true, false}
use mathlib.Core.List.{List, [], ◌∷◌, ◌++◌, append_assoc, append-nil}
use lib.Dec.{leb}
use lib.ListN.{length, take, drop, get_or, set, length-append, length-take, length-drop, length-set, get_or-append}
use lib.Seq.{take_at, get_or_at}
use borrow.Author.Count.{below_more}
use borrow.Author.Tests.{le-leb, lt-leb}
use mir.Val.{Fits}
use mir.Syntax.{w64}
use Rattle.ordmap.specs.Result.{IsAccepted}
use Rattle.ordmap.specs.Gathering.{flat}
use Rattle.ordmap.proofs.Members.{flat_append}
use Rattle.model.specs.declared.Fault.TheVariants.{MalformedBundle, WidthOutside}
use Rattle.model.specs.declared.Kind.{Kind}
use Rattle.model.specs.declared.Refusal.{Refusal}
use Rattle.model.specs.Bytes.{Bytes, slash, newline}
use Rattle.model.specs.Limits.{max_texts}
use Rattle.model.specs.Answer.{Answer, accepted, refused, refuse_length, unplaced}
use Rattle.model.specs.Calls.{length_answer, WriteCall}
use Rattle.model.proofs.CallLaws.{write_called}
use Rattle.model.specs.Number.{decimal}
use Rattle.model.specs.Output.{written, output_after}
use Rattle.model.specs.Bundle.{text_count, well_formed}
use Rattle.model.specs.Gather.{entry_limit}
use Rattle.model_totals.specs.declared.Ratio.{Ratio}
use Rattle.text_choice.specs.Windows.{is_width, window_texts, window_line, gather_windows}
use Rattle.text_choice.proofs.Windows.{lines-written, window_refused}
use Rattle.format.specs.Put.{put_len, over, pair}
use Rattle.format.proofs.DecimalLaws.{decimal-most}
use Rattle.format.proofs.OverLaws.{to_end, over-more, over_size, lent_size, last_out, put_over, put_len_lem}
use Rattle.joined_table.proofs.BundleLaws.{few-texts}
use Rattle.std.specs.Prelude.{Result, Ok, Err}
use Rattle.window_lines.specs.Lines.{max_line, ratio_line, line_of, LinesPut}
use Rattle.window_lines.proofs.WindowLaws.{at_least, at_most}

-- ---- one line

-- the line with a byte 10 before it, as it is made
module _ (lines : Ratio) where
  abbrev made : Bytes
  made = pair newline lines.hit slash lines.found

  made-is : made ++ (newline ∷ []) ≡ newline ∷ ratio_line lines
  made-is = simp append_assoc

  pub line-most : length (ratio_line lines) ≤ max_line
  line-most =
      omega (arith, ap length made-is, length-append made (newline ∷ []), length-append (newline ∷ decimal lines.hit) (slash ∷ decimal lines.found), decimal-most lines.hit, decimal-most lines.found)

  made-most : length made ≤ max_line
  made-most = omega (arith, length-append (newline ∷ decimal lines.hit) (slash ∷ decimal lines.found), decimal-most lines.hit, decimal-most lines.found)

  module _ (old : Bytes) (room : max_line + 1 ≤ length old) where
    pub made-room : length made ≤ length old
    made-room = omega (arith, made-most)

    module _ (line : Bytes) (n : ℕ) (up_to : n ≡ length made) (held : line ≡ over made old) where
      pub made-end : n < max_line + 1
      made-end = omega (arith, made-most)

      pub made-fits : Fits w64 (n + 1)
      made-fits = record { fits = omega (arith, made-most) }

      pub line-end : (b : ℕ) → n + 1 ≤ length (set line n b)
      line-end b = rw length-set (omega (arith, made-most, over_size old line made [] [] n held made-room))

      -- without the byte before it
      line-slice : take (n + 1 - 1) (drop 1 (set line n newline)) ≡ ratio_line lines
      unfolding output_after
      line-slice =
          let all : set line n newline ≡ over (newline ∷ ratio_line lines) old =
          last_out old line made n newline held up_to (omega (arith, made-most)) ∙ ap (λ (s : Bytes). over s old) made-is in
          rw all (take_at (ratio_line lines) (drop (length (newline ∷ ratio_line lines)) old) (n + 1 - 1) (omega (arith, ap length made-is, length-append made (newline ∷ []))))

      module _ (out : Bytes) (enough : max_line ≤ length out) where
        pub line_len : (r : ℕ) → r ≡ put_len (written (length out) (take (n + 1 - 1) (drop 1 (set line n newline)))) → r ≡ length (ratio_line lines)
        line_len r e = put_len_lem (ratio_line lines) out (omega (arith, line-most)) r (rw line-slice at e)

        pub line-out : (out' : Bytes) → out' ≡ output_after (written (length out) (take (n + 1 - 1) (drop 1 (set line n newline)))) out → out' ≡ over (ratio_line lines) out
        line-out out' e = put_over (ratio_line lines) out (omega (arith, line-most)) out' (rw line-slice at e)

-- ---- all lines

-- the lines of the first i windows are at the front of the output
pub record Putting (tag : Kind → Bytes) (bundle : Bytes) (w words : ℕ) (old out : Bytes) (i at : ℕ) : Type 0 where
  pub lines : List Bytes
  pub many : length lines ≡ i
  pub each : (j : ℕ) → j < i → window_line tag (entry_limit words) (window_texts w bundle j) ≡ accepted (get_or lines j [])
  pub held : out ≡ over (flat lines) old
  pub ends : at ≡ length (flat lines)
  pub small : length (flat lines) ≤ max_line * i

module _ (tag : Kind → Bytes) (bundle : Bytes) (w words : ℕ) (old : Bytes) where
  pub putting_start : Putting tag bundle w words old old 0 0
  unfolding output_after
  putting_start = record { lines = []; many = refl; each = λ j l. absurd (omega arith); held = refl; ends = refl; small = omega arith }

  module _ (room : max_texts * max_line ≤ length old) (well : well_formed bundle ≡ true) (n : ℕ) (count : n ≡ text_count bundle) (out : Bytes) (i at : ℕ)
      (p : Putting tag bundle w words old out i at) where
    few : n ≤ max_texts
    few = few-texts bundle well n count

    module _ (more : i < n) where
      same_size : length out ≡ length old
      same_size = over_size old out (flat p.lines) [] [] at p.held (omega (arith, p.small, few))

      pub line_at : at ≤ length out
      line_at = omega (arith, same_size, p.ends, p.small, few)

      pub line-room : max_line ≤ length (take (length out - at) (drop at out))
      line-room = rw (to_end out at, length-drop) (omega (arith, same_size, p.ends, p.small, few))

      -- the window of the next text, counted in as many words
      module _ (words' : ℕ) (same : words' ≡ words) (q : Result Ratio Refusal) (counted : line_of q ≡ window_line tag (entry_limit words') (window_texts w bundle i)) where
        line_is : line_of q ≡ window_line tag (entry_limit words) (window_texts w bundle i)
        line_is = rw same at counted

        -- it has a line
        module _ (ratio : Ratio) (e : q ≡ Ok ratio) (len : ℕ) (long : len ≡ length (ratio_line ratio)) where
          pub line-fits : Fits w64 (at + len)
          line-fits = record { fits = omega (arith, p.ends, p.small, few, line-most ratio) }

          module _ (ys : Bytes) (put : ys ≡ over (ratio_line ratio) (take (length out - at) (drop at out))) where
            pub next_size : length (take at out ++ (ys ++ drop (length out - at) (drop at out))) ≡ length old
            next_size = lent_size out ys at (ap length put ∙ over_size (take (length out - at) (drop at out)) (over (ratio_line ratio) (take (length out - at) (drop at out))) (ratio_line ratio) [] [] 0 refl (omega (arith, line-room, line-most ratio))) line_at ∙ same_size

            pub putting_next : Putting tag bundle w words old (take at out ++ (ys ++ drop (length out - at) (drop at out))) (i + 1) (at + len)
            putting_next =
                record {
                  lines = p.lines ++ (ratio_line ratio ∷ []);
                  many = length-append p.lines (ratio_line ratio ∷ []) ∙ ap (λ (k : ℕ). k + 1) p.many;
                  each = below_more (λ j. window_line tag (entry_limit words) (window_texts w bundle j) ≡ accepted (get_or (p.lines ++ (ratio_line ratio ∷ [])) j [])) i earlier last;
                  held = over-more old out (flat p.lines) ys (ratio_line ratio) at p.held p.ends put ∙ ap (λ (s : Bytes). over s old) (sym joined);
                  ends = rw joined (omega (arith, p.ends, length-append (flat p.lines) (ratio_line ratio)));
                  small = rw joined (omega (arith, p.small, length-append (flat p.lines) (ratio_line ratio), line-most ratio));
                }
              where
                joined : flat (p.lines ++ (ratio_line ratio ∷ [])) ≡ flat p.lines ++ ratio_line ratio
                joined = flat_append p.lines (ratio_line ratio ∷ []) ∙ ap (λ (s : Bytes). flat p.lines ++ s) (append-nil (ratio_line ratio))

                earlier : (j : ℕ) → j < i → window_line tag (entry_limit words) (window_texts w bundle j) ≡ accepted (get_or (p.lines ++ (ratio_line ratio ∷ [])) j [])
                earlier j l = rw (get_or-append p.lines (ratio_line ratio ∷ []) [] j (omega (arith, p.many))) (p.each j l)

                last : window_line tag (entry_limit words) (window_texts w bundle i) ≡ accepted (get_or (p.lines ++ (ratio_line ratio ∷ [])) i [])
                last = rw (get_or_at p.lines (ratio_line ratio) [] [] i p.many) (sym (rw e at line_is))

        -- it is refused
        pub putting_refused : is_width w ≡ true → (r : Refusal) → q ≡ Err r → LinesPut (gather_windows tag bundle w words) out (Err r)
        putting_refused width r e =
            record {
              is = λ room. window_refused tag bundle w words room i r well (at_least w width) (at_most w width) (omega arith) accepted-before (sym (rw e at line_is));
              held = tt;
            }
          where
            accepted-before : (j : ℕ) → j < i → IsAccepted (window_line tag (entry_limit words) (window_texts w bundle j))
            accepted-before j l = rw (p.each j l) tt

    -- no text is left
    pub putting_done : is_width w ≡ true → i ≤ n → n ≤ i → LinesPut (gather_windows tag bundle w words) out (Ok at)
    unfolding output_after
    putting_done width most all =
        record {
          is = λ room. lines-written tag bundle w words room p.lines well (at_least w width) (at_most w width) (omega (arith, p.many)) (λ j l. p.each j (omega arith)) ∙ ap (written room) (sym front);
          held = omega (arith, over_size old out (flat p.lines) [] [] at p.held (omega (arith, p.small, few)), p.ends, p.small, few);
        }
      where
        front : take at out ≡ flat p.lines
        front = rw p.held (take_at (flat p.lines) (drop (length (flat p.lines)) old) at (sym p.ends))

-- ---- the call

pub bytes-short : (bytes out : Bytes) → length out < length bytes → (r : Result ℕ Refusal) → r ≡ length_answer {A = ℕ} (refuse_length (length bytes)) → WriteCall (written (length out) bytes) out out r
unfolding written output_after
bytes-short bytes out h r e =
    let short : leb (length bytes) (length out) ≡ false = lt-leb (length bytes) (length out) h in
    rw short (write_called (refuse_length (length bytes)) out out r e refl)

pub bytes-written : (bytes out : Bytes) → length bytes ≤ length out → (len : ℕ) → len ≡ put_len (written (length out) bytes) → (out' : Bytes)
    → out' ≡ output_after (written (length out) bytes) out → WriteCall (written (length out) bytes) out out' (Ok len)
unfolding written length_answer
bytes-written bytes out h len e out' o =
    let fits : leb (length bytes) (length out) ≡ true = le-leb (length bytes) (length out) h in
    rw fits (write_called (accepted bytes) out out' (Ok len) (ap Ok (rw fits at e)) (rw fits at o))

module _ (answer : ℕ → Answer Bytes) (lines : Bytes) (got : Result ℕ Refusal) (p : LinesPut answer lines got) (out : Bytes) where
  pub lines-refused : (r : Refusal) → got ≡ Err r → WriteCall (answer (length out)) out out (Err r)
  unfolding length_answer output_after
  lines-refused r e =
      let is : answer (length out) ≡ refused r = rw e at (p.is (length out)) in
      rw is (write_called (refused r) out out (Err r) refl refl)

  module _ (len : ℕ) (e : got ≡ Ok len) where
    pub lines_within : len ≤ length lines
    lines_within = rw e at p.held

    pub lines-length : len ≡ length (take len lines)
    lines-length = rw length-take (omega (arith, lines_within))

    pub lines_called : (out' : Bytes) (r : Result ℕ Refusal) → WriteCall (written (length out) (take len lines)) out out' r → WriteCall (answer (length out)) out out' r
    lines_called out' r c =
        let is : answer (length out) ≡ written (length out) (take len lines) = rw e at (p.is (length out)) in
        rw is c

pub is_well : (bundle : Bytes) (b : Bool) → b ≡ well_formed bundle → b ≡ true → well_formed bundle ≡ true
is_well bundle b is h = sym is ∙ h

pub is_wide : (w : ℕ) (b : Bool) → b ≡ is_width w → b ≡ true → is_width w ≡ true
is_wide w b is h = sym is ∙ h

module _ (tag : Kind → Bytes) (bundle : Bytes) (w words : ℕ) (out : Bytes) (b : Bool) (is : b ≡ well_formed bundle) where
  pub no_bundle : b ≡ false → (q : Refusal) → q ≡ unplaced MalformedBundle → WriteCall (gather_windows tag bundle w words (length out)) out out (Err q)
  unfolding gather_windows length_answer output_after
  no_bundle h q e =
      let ill : well_formed bundle ≡ false = sym is ∙ h in
      rw (ill, e) (write_called (refused (unplaced MalformedBundle)) out out (Err (unplaced MalformedBundle)) refl refl)

  pub no_width : b ≡ true → (d : Bool) → d ≡ is_width w → d ≡ false → (q : Refusal) → q ≡ unplaced WidthOutside
      → WriteCall (gather_windows tag bundle w words (length out)) out out (Err q)
  unfolding gather_windows length_answer output_after
  no_width h d at i q e =
      let well : well_formed bundle ≡ true = sym is ∙ h in
      let outside : is_width w ≡ false = sym at ∙ i in
      rw (well, outside, e) (write_called (refused (unplaced WidthOutside)) out out (Err (unplaced WidthOutside)) refl refl)
