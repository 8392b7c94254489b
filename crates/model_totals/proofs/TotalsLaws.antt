-- The laws of the page of totals: sums, shares and the call. Assumes nothing.
use Prim.Native.Nat.{ℕ, zero, suc, ◌+◌, ◌*◌, ◌/◌, ◌≤◌, ◌<◌}
use native.Mathlib.Nat.{le_refl, div-lt_iff_lt-mul, div-mul-le_self, lt-div-mul-add}
use native.Mathlib.Omega.{arith}
use mathlib.Core.Path.{◌≡◌, refl, sym, ap, ◌∙◌, subst}
use mathlib.Core.Logic.{◌↔◌}
use mathlib.Core.Bool.{Bool, true, false}
use mathlib.Core.List.Memᴰ.{head as here}
use mathlib.Core.List.Memᴰ.{tail as there}
use mathlib.Core.List.{List, [], ◌∷◌, ◌++◌, map, Memᴰ as Member}
use mathlib.Core.Option.{Option, none, some, some-injective}
use lib.ListN.{length, length-append}
use borrow.Author.Tests.{le-leb, lt-leb}
use Rattle.ordmap.specs.Result.{accepted, refused}
use Rattle.ordmap.proofs.Maps.{some≢none}
use Rattle.model.specs.declared.Kind.{Kind}
use Rattle.model.specs.declared.Mode.TheVariants.{Checked}
use Rattle.model.specs.declared.Refusal.{Refusal}
use Rattle.model.specs.Lists.{filter, concat_map}
use Rattle.model.specs.Bytes.{Bytes, newline, slash, split, Free}
use Rattle.model.specs.Answer.{refuse_length}
use Rattle.model.specs.Number.{decimal}
use Rattle.model.specs.Tags.{Lawful}
use Rattle.model.specs.Report.{Item, section_item, Report, SectionKey, in_section}
use Rattle.model.specs.Reading.{without_empty_last, lines as cutLines, read_text}
use Rattle.model.specs.Printing.{Section, is_function, is_branch, is_line, hits, compare_printed, functions_of, sections}
use Rattle.model.specs.Output.{written}
use Rattle.model.specs.Bundle.{texts}
use Rattle.model.specs.Gather.{entry_limit, gather_bundle, gather}
use Rattle.model.specs.Joined.{total}
use Rattle.model.specs.Valid.{Valid}
use Rattle.model.proofs.ListLaws.{All, select_append, select_length, sort-length}
use Rattle.model.proofs.ByteLaws.{free-append}
use Rattle.model.proofs.TextLaws.{lines_seam}
use Rattle.model.proofs.Read.{empty_valid}
use Rattle.model.proofs.Blocks.{Block, block_entries, block_section, blocks_entries, blocks_of, sections_of_blocks, Good, good_blocks}
use Rattle.model.proofs.Demand.{gathered-valid, gather-wrote, print_back}
use Rattle.model_totals.specs.declared.Ratio.{Ratio}
use Rattle.model_totals.specs.declared.Totals.{Totals}
use Rattle.model_totals.specs.Totals.{ratio_of, totals_of, add_ratios, add_totals, no_totals, sum_totals, share, blank, print_share, print_ratio, columns, section_line, section_totals, last_totals, page, totals}
use Rattle.model_totals.specs.Laws.{items_of, Summed, HitWithinFound, FoundAtMost, TotalsLaws}
use Rattle.model_totals.proofs.Lines.{lines-before, decimal-line}
use Rattle.model_totals.proofs.HitLaws.{hits_at_most, hits-append, hits-sort}

-- ---- sums

-- a column of a sum, where it adds up
column : (f : Totals → ℕ) → f no_totals ≡ 0 → ((a b : Totals) → f (add_totals a b) ≡ f a + f b) → (ts : List Totals) → f (sum_totals ts) ≡ total (map f ts)
unfolding sum_totals total
column f z p [] = z
column f z p (t ∷ ts) = p t (sum_totals ts) ∙ ap (λ (n : ℕ). f t + n) (column f z p ts)

summed : (report : Report) → Summed (section_totals report) (last_totals report)
unfolding last_totals
summed report =
    let ts = section_totals report in
    record {
      functions_hit_lem = column (λ t. t.functions.hit) refl (λ a b. refl) ts;
      functions_found_lem = column (λ t. t.functions.found) refl (λ a b. refl) ts;
      branches_hit_lem = column (λ t. t.branches.hit) refl (λ a b. refl) ts;
      branches_found_lem = column (λ t. t.branches.found) refl (λ a b. refl) ts;
      lines_hit_lem = column (λ t. t.lines.hit) refl (λ a b. refl) ts;
      lines_found_lem = column (λ t. t.lines.found) refl (λ a b. refl) ts;
    }

-- ---- the report's own entries

pub ratio_path : {a b : Ratio} → a.hit ≡ b.hit → a.found ≡ b.found → a ≡ b
ratio_path p q = λ i. record { hit = p i; found = q i }

pub totals-path : {a b : Totals} → a.functions ≡ b.functions → a.branches ≡ b.branches → a.lines ≡ b.lines → a ≡ b
totals-path p q r = λ i. record { functions = p i; branches = q i; lines = r i }

ratio_append : (kind : Item → Bool) (a b : List Item) → ratio_of kind (a ++ b) ≡ add_ratios (ratio_of kind a) (ratio_of kind b)
unfolding ratio_of
ratio_append kind a b =
    ratio_path (ap hits (select_append kind a b) ∙ hits-append (filter kind a) (filter kind b))
    (ap (λ (l : List Item). length l) (select_append kind a b) ∙ length-append (filter kind a) (filter kind b))

totals-append : (a b : List Item) → totals_of (a ++ b) ≡ add_totals (totals_of a) (totals_of b)
unfolding totals_of
totals-append a b = totals-path (ratio_append is_function a b) (ratio_append is_branch a b) (ratio_append is_line a b)

none-counted : no_totals ≡ totals_of []
unfolding totals_of ratio_of filter hits
none-counted = refl

-- of a kind there are no more than of all
each-kind : (items : List Item) → FoundAtMost (length items) (totals_of items)
unfolding totals_of ratio_of
each-kind items =
    record {
      functions_most = select_length is_function items;
      branches_most = select_length is_branch items;
      lines_most = select_length is_line items;
    }

-- a section's own item is of no kind
own_item : (spelling : Bytes) (items : List Item) → totals_of (section_item spelling ∷ items) ≡ totals_of items
unfolding totals_of ratio_of filter is_function is_branch is_line
own_item spelling items = refl

items_in : (key : SectionKey) (items : List Item) → items_of (map (in_section key) items) ≡ items
items_in key [] = refl
items_in key (i ∷ is) = ap (λ (l : List Item). i ∷ l) (items_in key is)

items-append : (a b : Report) → items_of (a ++ b) ≡ items_of a ++ items_of b
items-append [] b = refl
items-append (x ∷ xs) b = ap (λ (l : List Item). x.item ∷ l) (items-append xs b)

block_totals : (b : Block) → totals_of (items_of (block_entries b)) ≡ totals_of b.items
block_totals b = own_item b.spelling (items_of (map (in_section (b.test, b.path)) b.items)) ∙ ap totals_of (items_in (b.test, b.path) b.items)

blocks_totals : (blocks : List Block) → sum_totals (map (λ s. totals_of s.items) (map block_section blocks)) ≡ totals_of (items_of (blocks_entries blocks))
unfolding sum_totals concat_map
blocks_totals [] = none-counted
blocks_totals (b ∷ bs) =
    ap (λ (t : Totals). add_totals (totals_of b.items) t) (blocks_totals bs)
    ∙ ap (λ (t : Totals). add_totals t (totals_of (items_of (blocks_entries bs)))) (sym (block_totals b))
    ∙ sym (totals-append (items_of (block_entries b)) (items_of (blocks_entries bs)))
    ∙ ap totals_of (sym (items-append (block_entries b) (blocks_entries bs)))

own_entries : (report : Report) → Valid report → last_totals report ≡ totals_of (items_of report)
unfolding last_totals section_totals
own_entries report R =
    let (blocks, e, h) = blocks_of report R in
    ap (λ (r : Report). sum_totals (map (λ s. totals_of s.items) (sections r))) e
    ∙ ap (λ (l : List Section). sum_totals (map (λ s. totals_of s.items) l)) (sections_of_blocks blocks h)
    ∙ blocks_totals blocks
    ∙ ap (λ (r : Report). totals_of (items_of r)) (sym e)

items-length : (report : Report) → length (items_of report) ≡ length report
items-length [] = refl
items-length (x ∷ xs) = ap suc (items-length xs)

found_most : (report : Report) → Valid report → FoundAtMost (length report) (last_totals report)
found_most report R = rw (own_entries report R) (counted (items_of report) (items-length report))
  where
    counted : (items : List Item) → length items ≡ length report → FoundAtMost (length report) (totals_of items)
    counted items e = rw (← e) (each-kind items)

-- ---- shares

share_most : (r : Ratio) (tenths : ℕ) → r.hit ≤ r.found → share r ≡ some tenths → tenths ≤ 1000
unfolding share
share_most r tenths h p = go r.found h p
  where
    go : (found : ℕ) → r.hit ≤ found → share (record { hit = r.hit; found = found }) ≡ some tenths → tenths ≤ 1000
    go zero h q = absurd (some≢none (sym q))
    go (suc n) h q =
        let e : 1000 * r.hit / suc n ≡ tenths = some-injective (1000 * r.hit / suc n) tenths q in
        let k : 1000 * r.hit / suc n < 1001 = (div-lt_iff_lt-mul {k = suc n} {x = 1000 * r.hit} {y = 1001} (omega arith)).1 (omega (arith, h)) in
        omega (arith, e, k)

share_none : (r : Ratio) → (share r ≡ none) ↔ (r.found ≡ 0)
unfolding share
share_none r = (λ p. forward r.found p, λ e. rw e)
  where
    forward : (found : ℕ) → share (record { hit = r.hit; found = found }) ≡ none → found ≡ 0
    forward zero q = refl
    forward (suc n) q = absurd (some≢none q)

share_down : (r : Ratio) (tenths : ℕ) → share r ≡ some tenths → (tenths * r.found ≤ 1000 * r.hit) × (1000 * r.hit < tenths * r.found + r.found)
unfolding share
share_down r tenths p = go r.found p
  where
    go : (found : ℕ) → share (record { hit = r.hit; found = found }) ≡ some tenths → (tenths * found ≤ 1000 * r.hit) × (1000 * r.hit < tenths * found + found)
    go zero q = absurd (some≢none (sym q))
    go (suc n) q = rw (← (some-injective (1000 * r.hit / suc n) tenths q)) (div-mul-le_self (1000 * r.hit) (suc n), lt-div-mul-add (omega arith))

-- ---- hit at most found

ratio_within : (kind : Item → Bool) (items : List Item) → (ratio_of kind items).hit ≤ (ratio_of kind items).found
unfolding ratio_of
ratio_within kind items = hits_at_most (filter kind items)

within-items : (items : List Item) → HitWithinFound (totals_of items)
unfolding totals_of
within-items items =
    record {
      functions_within = ratio_within is_function items;
      branches_within = ratio_within is_branch items;
      lines_within = ratio_within is_line items;
      share_most = λ tenths p. share_most (ratio_of is_line items) tenths (ratio_within is_line items) p;
    }

within_section : (report : Report) (t : Totals) → Member t (section_totals report) → HitWithinFound t
unfolding section_totals
within_section report t i = go (sections report) i
  where
    go : (l : List Section) → Member t (map (λ s. totals_of s.items) l) → HitWithinFound t
    go [] i = elim i [ ]
    go (s ∷ l) (here e) = rw e (within-items s.items)
    go (s ∷ l) (there j) = go l j

within-sum : (ts : List Totals) → ((t : Totals) → Member t ts → HitWithinFound t) → HitWithinFound (sum_totals ts)
unfolding sum_totals
within-sum [] h =
    record {
      functions_within = omega arith;
      branches_within = omega arith;
      lines_within = omega arith;
      share_most = λ tenths p. share_most (record { hit = 0; found = 0 }) tenths (omega arith) p;
    }
within-sum (t ∷ ts) h =
    let a = h t (here refl) in
    let b = within-sum ts (λ u i. h u (there i)) in
    let most : t.lines.hit + (sum_totals ts).lines.hit ≤ t.lines.found + (sum_totals ts).lines.found = omega (arith, a.lines_within, b.lines_within) in
    record {
      functions_within = omega (arith, a.functions_within, b.functions_within);
      branches_within = omega (arith, a.branches_within, b.branches_within);
      lines_within = most;
      share_most = λ tenths p. share_most (add_ratios t.lines (sum_totals ts).lines) tenths most p;
    }

within_last : (report : Report) → HitWithinFound (last_totals report)
unfolding last_totals
within_last report = within-sum (section_totals report) (within_section report)

as_printed : (items : List Item)
    → ((totals_of items).functions.found ≡ length (functions_of items)) × ((totals_of items).functions.hit ≡ hits (functions_of items))
unfolding totals_of ratio_of functions_of
as_printed items = (sym (sort-length compare_printed (filter is_function items)), sym (hits-sort compare_printed (filter is_function items)))

-- ---- the bytes

ratio_line_lem : (r : Ratio) → Free newline (print_ratio r)
unfolding print_ratio
ratio_line_lem r = free-append newline (decimal r.hit) (slash ∷ decimal r.found) (decimal-line r.hit) (refl, decimal-line r.found)

share-line : (o : Option ℕ) → Free newline (print_share o)
share-line none = (refl, tt)
share-line (some tenths) = decimal-line tenths

-- a blank between two
spaced : (a b : Bytes) → Free newline a → Free newline b → Free newline (a ++ blank ∷ b)
spaced a b f g = free-append newline a (blank ∷ b) f (refl, g)

columns-line : (t : Totals) → Free newline (columns t)
unfolding columns
columns-line t =
    spaced (print_ratio t.functions ++ blank ∷ print_ratio t.branches ++ blank ∷ print_ratio t.lines) (print_share (share t.lines))
    (spaced (print_ratio t.functions ++ blank ∷ print_ratio t.branches) (print_ratio t.lines)
    (spaced (print_ratio t.functions) (print_ratio t.branches) (ratio_line_lem t.functions) (ratio_line_lem t.branches)) (ratio_line_lem t.lines))
    (share-line (share t.lines))

section-line : (b : Block) → Good b → Free newline (section_line (block_section b))
unfolding section_line
section-line b G =
    spaced (columns (totals_of b.items) ++ blank ∷ b.test) b.spelling
    (spaced (columns (totals_of b.items)) b.test (columns-line (totals_of b.items)) G.test-text.one_line) G.spelling-text.one_line

lines_printed : (report : Report) → Valid report → cutLines (page report) ≡ map section_line (sections report) ++ columns (last_totals report) ∷ []
unfolding page cutLines split without_empty_last
lines_printed report R =
    lines-before section_line (sections report) (columns (last_totals report) ++ newline ∷ []) free
    ∙ ap (λ (ls : List Bytes). map section_line (sections report) ++ ls) (lines_seam (columns (last_totals report)) [] (columns-line (last_totals report)))
  where
    blocks_free : (blocks : List Block) → All Good blocks → All (λ s. Free newline (section_line s)) (map block_section blocks)
    blocks_free [] h = tt
    blocks_free (b ∷ bs) h = (section-line b h.0, blocks_free bs h.1)

    free : All (λ s. Free newline (section_line s)) (sections report)
    free =
        let (blocks, e, h) = blocks_of report R in
        let good : All Good blocks = good_blocks report R blocks (λ d i. subst (λ (r : Report). Member d r) (sym e) i) h in
        let is : sections report ≡ map block_section blocks = ap sections e ∙ sections_of_blocks blocks h in
        subst (λ (l : List Section). All (λ s. Free newline (section_line s)) l) (sym is) (blocks_free blocks good)

-- ---- the call

module _ (tag : Kind → Bytes) (bundle : Bytes) (words room : ℕ) where
  refuses : (r : Refusal) → gather_bundle tag Checked bundle words ≡ refused r → totals tag bundle words room ≡ refused r
  unfolding totals
  refuses r p = rw p

  module _ (report : Report) (p : gather_bundle tag Checked bundle words ≡ accepted report) where
    writes : length (page report) ≤ room → totals tag bundle words room ≡ accepted (page report)
    unfolding totals written
    writes h = rw (p, le-leb (length (page report)) room h)

    page_too_long : room < length (page report) → totals tag bundle words room ≡ refuse_length (length (page report))
    unfolding totals written
    page_too_long h = rw (p, lt-leb (length (page report)) room h)

page_written : (tag : Kind → Bytes) → Lawful tag → (bundle out : Bytes) (words room : ℕ) → gather tag Checked bundle words room ≡ accepted out
    → (report : Report) × (read_text tag (entry_limit words) out ≡ accepted report)
    × ((room' : ℕ) → totals tag bundle words room' ≡ written room' (page report))
unfolding totals gather_bundle
page_written tag L bundle out words room p =
    let (report, w, g, e, h) = gather-wrote tag Checked bundle words room p in
    let (R, f) = gathered-valid tag Checked (entry_limit words) (texts bundle) [] report empty_valid (omega arith) g in
    (report, (print_back tag L (entry_limit words) report R f (omega arith) out e words (length out) refl (le_refl (length out))).0, λ room'. rw (w, g))

pub totals_laws : TotalsLaws
totals_laws =
    record {
      summed = summed;
      own_entries = own_entries;
      found_most = found_most;
      within_section = within_section;
      within_last = within_last;
      share_none = share_none;
      share_down = share_down;
      lines_printed = lines_printed;
      as_printed = as_printed;
      refuses = refuses;
      writes = writes;
      page_too_long = page_too_long;
      page_written = page_written;
    }
