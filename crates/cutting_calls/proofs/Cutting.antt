-- Cutting before or after adding: the calls write what the definitions say. Assumes nothing.
use Prim.Native.Nat.{ℕ}
use mathlib.Core.Path.{◌≡◌}
use mathlib.Core.List.{List, [], ◌∷◌}
use lib.ListN.{length}
use Rattle.model.specs.declared.Bound.{Bound}
use Rattle.model.specs.declared.Kind.{Kind}
use Rattle.model.specs.declared.Mode.TheVariants.{Checked}
use Rattle.model.specs.declared.Range.{Range}
use Rattle.model.specs.Bytes.{Bytes}
use Rattle.model.specs.Answer.{accepted}
use Rattle.model.specs.Report.{Report}
use Rattle.model.specs.Reading.{read_text}
use Rattle.model.specs.Printing.{print_report}
use Rattle.model.specs.Filter.{filter_text}
use Rattle.model.specs.Gather.{entry_limit, read_and_print, gather}
use Rattle.model.specs.Groups.{texts_of}
use Rattle.lcov.proofs.Demand.{wrote_of, of_wrote}
use Rattle.cutting.specs.Cutting.{Pairwise, cut_report, CutText, Filtered, BothWays, Cutting}
use Rattle.cutting.proofs.Cutting.{written-fits, cutting_tables}
use Rattle.cutting_calls.specs.Cutting.{CutCall, ReadsAs, FilteredCalls, BothWaysCalls, CuttingCalls, CuttingCallsTables}

-- what `read_text` writes of a text that is readable
reads_as : (tag : Kind → Bytes) (limit : ℕ) (text : Bytes) (report : Report) → read_text tag limit text ≡ accepted report → ReadsAs tag limit text report
unfolding read_and_print
reads_as tag limit text report p =
    record {
      report_read = p;
      writes = λ words out out' r l h c.
          wrote_of out out' r (read_and_print tag text words (length out)) c (print_report tag report)
          (rw (l, p) (written-fits (length out) (print_report tag report) h));
    }

module _ (tag : Kind → Bytes) (bound : Bound) where
  filtered-calls : (ranges : List Range) (limit : ℕ) (text : Bytes) (report : Report) → Filtered tag bound ranges limit text report
      → FilteredCalls tag bound ranges limit text report
  filtered-calls ranges limit text report F =
      record {
        bytes = F.out;
        writes = λ slice used words out out' r well e l h c.
            wrote_of out out' r (filter_text tag bound text slice used words (length out)) c F.out (F.writes slice used words (length out) well e l h);
        reads = reads_as tag limit F.out report F.reads;
      }

  -- the definition's answer is what a call wrote
  cut_text : (ranges : List Range) (limit : ℕ) (text part : Bytes) → CutCall tag bound ranges limit text part → CutText tag bound ranges limit text part
  cut_text ranges limit text part c =
      record {
        slice = c.slice;
        used = c.used;
        words = c.words;
        room = length c.out;
        by_ranges = c.by_ranges;
        one_limit = c.one_limit;
        wrote =
            of_wrote c.out c.out' c.r (filter_text tag bound text c.slice c.used c.words (length c.out)) c.call part c.wrote;
      }

  cut_texts : (ranges : List Range) (limit : ℕ) (ts ps : List Bytes) → Pairwise (CutCall tag bound ranges limit) ts ps
      → Pairwise (CutText tag bound ranges limit) ts ps
  cut_texts ranges limit [] (p ∷ ps) cs = elim cs [ ]
  cut_texts ranges limit (t ∷ ts) [] cs = elim cs [ ]
  cut_texts ranges limit [] [] cs = tt
  cut_texts ranges limit (t ∷ ts) (p ∷ ps) cs = (cut_text ranges limit t p cs.0, cut_texts ranges limit ts ps cs.1)

  both_ways_calls : (ranges : List Range) (limit : ℕ) (whole parts : Bytes) → BothWays tag bound ranges limit whole parts
      → BothWaysCalls tag bound ranges limit whole parts
  both_ways_calls ranges limit whole parts B =
      record {
        cut_first_lem = B.cut_first_lem;
        gathers = λ words out out' r l h c.
            wrote_of out out' r (gather tag Checked parts words (length out)) c B.cut_first_lem (B.gathers words (length out) l h);
        cut_first_report = B.cut_first_report;
        cut_first_reads = reads_as tag limit B.cut_first_lem B.cut_first_report B.cut_first_reads;
        added_first_report = B.added_first_report;
        added_first_lem = filtered-calls ranges limit whole B.added_first_report B.added_first_lem;
        same_counts = B.same_counts;
      }

  -- CUTTING, of the calls
  pub cutting_calls : Cutting tag bound → CuttingCalls tag bound
  cutting_calls C =
      record {
        same = λ bundle whole parts ranges words out out' r c w cuts well.
            both_ways_calls ranges (entry_limit words) whole parts
            (C.same bundle whole parts ranges words (length out) (of_wrote out out' r (gather tag Checked bundle words (length out)) c whole w)
            (cut_texts ranges (entry_limit words) (texts_of bundle) (texts_of parts) cuts) well);
        filters = λ ranges words text report p.
            filtered-calls ranges (entry_limit words) text (cut_report bound ranges report) (C.filters ranges words text report p);
      }

pub cutting_calls-tables : CuttingCallsTables
cutting_calls-tables =
    record {
      default = λ bound. cutting_calls _ bound (cutting_tables.default bound);
      lent = λ table tag loads bound. cutting_calls tag bound (cutting_tables.lent table tag loads bound);
      filters = λ table tag loads bound text slice used words out out' r. (λ c. rw loads at c, λ c. rw loads c);
    }
