-- READ BACK: a valid report that fits the limit, printed under a lawful table of tags, is read as itself. Assumes nothing.
use Prim.Native.Nat.{ℕ, suc, ◌+◌, ◌≤◌}
use native.Mathlib.Nat.{le_trans}
use native.Mathlib.Omega.{arith}
use mathlib.Core.Path.{◌≡◌, refl, sym, ap, ◌∙◌, subst}
use mathlib.Core.List.{List, [], ◌∷◌, ◌++◌, map, append_assoc, append-nil, Memᴰ as Member}
use lib.ListN.{length, length-append, length-map}
use Rattle.ordmap.proofs.Members.{sorted-right}
use Rattle.model.specs.declared.Kind.{Kind}
use Rattle.model.specs.Lists.{concat_map}
use Rattle.model.specs.Bytes.{Bytes}
use Rattle.model.specs.Answer.{accepted}
use Rattle.model.specs.Limits.{u32_max}
use Rattle.model.specs.Record.{Record}
use Rattle.model.specs.Tags.{Lawful}
use Rattle.model.specs.Report.{section_item, Entry, Report, compare_keys, entry_key, in_section}
use Rattle.model.specs.Reading.{outside, lines, read_lines, read_text}
use Rattle.model.specs.Printing.{Section, is_section, sections, section_records, print_records, print_sections, print_report}
use Rattle.model.specs.Valid.{Valid}
use Rattle.model.proofs.ListLaws.{All, all_append}
use Rattle.model.proofs.Clean.{RecordFits}
use Rattle.model.proofs.TextLaws.{lines_print}
use Rattle.model.proofs.RunLaws.{run, run-append, read_lines-run}
use Rattle.model.specs.Path.{Path as Names}
use Rattle.model.proofs.SectionLaws.{entries_of, section-run}
use Rattle.model.proofs.PrintLaws.{one-lines, section-fits}
use Rattle.model.proofs.Blocks.{
  Block,
  block_entries,
  block_section,
  blocks_entries,
  Shaped,
  Good,
  SortedEntries,
  blocks_of,
  good_blocks,
  sections_of_blocks,
  sorted-items,
  past-kept,
}

-- ---- the records of blocks

abbrev records : List Block → List Record
records blocks = concat_map section_records (map block_section blocks)

blocks_run : (limit : ℕ) (kept : Report) (blocks : List Block) → SortedEntries (kept ++ blocks_entries blocks) → All Good blocks
    → length (kept ++ blocks_entries blocks) ≤ limit
    → run limit (records blocks) (outside kept []) ≡ accepted (outside (kept ++ blocks_entries blocks) [])
unfolding concat_map run is_section
blocks_run limit kept [] s g n = ap (λ (r : Report). accepted (outside r [])) (sym (append-nil kept))
blocks_run limit kept (b ∷ bs) s g n =
    run-append limit (section_records (block_section b)) (records bs) (outside kept []) (outside (kept ++ block_entries b) []) one
    ∙ blocks_run limit (kept ++ block_entries b) bs (rw assoc s) g.1 (rw assoc n)
    ∙ ap (λ (r : Report). accepted (outside r [])) assoc
  where
    assoc : kept ++ block_entries b ++ blocks_entries bs ≡ kept ++ (block_entries b ++ blocks_entries bs)
    assoc = append_assoc kept (block_entries b) (blocks_entries bs)

    own : Entry
    own = in_section (b.test, b.path) (section_item b.spelling)

    after : Report
    after = map (in_section (b.test, b.path)) b.items ++ blocks_entries bs

    room : length kept + suc (length b.items) ≤ limit
    room =
        omega (
          arith,
          n,
          length-append kept (block_entries b ++ blocks_entries bs),
          length-append (block_entries b) (blocks_entries bs),
          length-map (section_item b.spelling ∷ b.items) (in_section (b.test, b.path)),
        )

    one : run limit (section_records (block_section b)) (outside kept []) ≡ accepted (outside (kept ++ block_entries b) [])
    one =
        section-run limit kept b.test b.spelling b.items
        (sorted-items b.test b.path b.items (blocks_entries bs) (sorted-right entry_key compare_keys kept (own ∷ after) s).1)
        g.0.shaped.in_section_lem g.0.fits room g.0.shaped.some_item.first g.0.shaped.some_item.rest g.0.shaped.some_item.is
        (rw g.0.spelled (past-kept kept own after refl s)) []
        ∙ ap (λ (p : Names). accepted (outside (kept ++ entries_of b.test p b.spelling b.items) [])) g.0.spelled

blocks_fit : (blocks : List Block) → All Good blocks → length (blocks_entries blocks) ≤ u32_max → All RecordFits (records blocks)
unfolding concat_map
blocks_fit [] g n = tt
blocks_fit (b ∷ bs) g n =
    all_append RecordFits (section_records (block_section b)) (records bs)
    (section-fits b.test b.spelling b.items g.0.test-text g.0.spelling-text g.0.fits
    (omega (arith, n, total, own)))
    (blocks_fit bs g.1 (omega (arith, n, total)))
  where
    total : length (block_entries b ++ blocks_entries bs) ≡ length (block_entries b) + length (blocks_entries bs)
    total = length-append (block_entries b) (blocks_entries bs)

    own : length (block_entries b) ≡ suc (length b.items)
    own = length-map (section_item b.spelling ∷ b.items) (in_section (b.test, b.path))

-- ---- reports

module _ (tag : Kind → Bytes) (L : Lawful tag) where
  -- READ BACK, for any limit up to a u32
  pub read_text_print : (limit : ℕ) (r : Report) → Valid r → length r ≤ limit → limit ≤ u32_max → read_text tag limit (print_report tag r) ≡ accepted r
  unfolding read_text print_report print_sections outside
  read_text_print limit r R n m = go (blocks_of r R)
    where
      go : (blocks : List Block) × (r ≡ blocks_entries blocks) × All Shaped blocks → read_text tag limit (print_report tag r) ≡ accepted r
      go (blocks, e, h) =
          ap (λ (s : List Section). read_lines tag limit 1 (lines (print_records tag (concat_map section_records s))) (outside [] [])) (ap sections e ∙ sections_of_blocks blocks h)
          ∙ ap (λ (ls : List Bytes). read_lines tag limit 1 ls (outside [] [])) (lines_print tag (records blocks) (one-lines tag L (records blocks) fit))
          ∙ read_lines-run tag L limit 1 (records blocks) (outside [] []) (outside (blocks_entries blocks) []) fit
          (blocks_run limit [] blocks (subst SortedEntries e R.sorted) good (subst (λ (l : Report). length l ≤ limit) e n)) refl
          ∙ ap accepted (sym e)
        where
          good : All Good blocks
          good = good_blocks r R blocks (λ x k. subst (λ (l : Report). Member x l) (sym e) k) h

          fit : All RecordFits (records blocks)
          fit = blocks_fit blocks good (subst (λ (l : Report). length l ≤ u32_max) e (le_trans n m))
