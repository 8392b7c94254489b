-- One name that opens every definition of the model: a proof by computation says `unfolding open_all`. Assumes nothing.
use Rattle.model.specs.Answer.{refusal_values}
use Rattle.model.specs.Lists.{filter, all, any, insert_sorted, sort, from, concat_map}
use Rattle.model.specs.Bytes.{compare_bytes, before, after, onto, split, joined}
use Rattle.model.specs.Path.{code, compare_paths, named, leading, components}
use Rattle.model.specs.Number.{read_digits, read_number, read_field, decimal_digits, decimal}
use Rattle.model.specs.Tags.{all_kinds, default_tag, differ}
use Rattle.model.specs.TagTable.{tag_length, slot_at, tag_at, tag_fits, well_formed_tags, load_tags, zeros, table_of, tags_of, are_tags}
use Rattle.model.specs.Line.{
  before_trimmed,
  trimmed,
  kind_among,
  from_field,
  in_field,
  number_field,
  text_field,
  taken_field,
  checksum_field,
  last_before,
  read_one,
  all_digits,
  is_digits,
  begins_with_end,
  with_end,
  read_function,
  read_body,
  body_of,
  read_trimmed,
  read_record,
  read_line,
  print_fields,
  print_end,
  print_taken,
  print_checksum,
  print_record,
}
use Rattle.model.specs.Output.{written, output_after}
use Rattle.model.specs.Parts.{part_of, given_in, checksum_in, record_in, print_line}
use Rattle.model.specs.Report.{
  item_key,
  compare_items,
  compare_sections,
  compare_keys,
  entry_key,
  extent_of,
  taken_of,
  checksum_of,
  count_of,
  sum,
  sum_taken,
  agree,
  combine_extents,
  combine_items,
  combine_entries,
  merge,
  within,
}
use Rattle.model.specs.Reading.{
  without_empty_last,
  lines,
  outside,
  open_section,
  entries,
  spelling_of,
  replace_section,
  keep_section,
  add_calls,
  enter_item,
  ignored,
  name_section,
  effect,
  step,
  read_lines,
  read_text,
}
use Rattle.model.specs.Printing.{
  is_section,
  is_function,
  is_branch,
  is_line,
  items_here,
  section_here,
  sections,
  print_key,
  compare_printed,
  functions_of,
  start_record,
  data_record,
  hits,
  group,
  section_records,
  print_records,
  print_sections,
  print_report,
}
use Rattle.model.specs.Bundle.{u32_at, text_count, text_bytes, text_start, text_length, well_formed, text_at, texts}
use Rattle.model.specs.Gather.{read_and_print, gather_text, gather_texts, gather_bundle, gather, printed_answer, program_of, gather_program}
use Rattle.model.specs.Joined.{
  insert_key,
  distinct_keys,
  items_at,
  given,
  all_agree,
  agreeing,
  total,
  total_given,
  largest,
  joined_as,
  joined_item,
  joined_entry,
  joined_report,
  summed_of,
  spellings,
}
use Rattle.model.specs.Ranges.{
  ascending,
  well_formed_ranges,
  half_open,
  join_into,
  insert_range,
  insert_call,
  slice_after,
  holds,
  query_call,
}
use Rattle.model.specs.Filter.{
  line_of,
  is_held,
  start_line,
  has_start,
  bounding,
  end_before,
  end_line,
  held_functions,
  filter_items,
  filter_section,
  filter_text,
}

unfoldable pub open_all : {A : Type 0} → A → A
unfolding refusal_values filter all any insert_sorted sort from concat_map compare_bytes before after onto split joined code compare_paths named leading components read_digits read_number read_field decimal_digits decimal all_kinds default_tag differ tag_length slot_at tag_at tag_fits well_formed_tags load_tags zeros table_of tags_of are_tags before_trimmed trimmed kind_among from_field in_field number_field text_field taken_field checksum_field last_before read_one all_digits is_digits begins_with_end with_end read_function read_body body_of read_trimmed read_record read_line print_fields print_end print_taken print_checksum print_record written output_after part_of given_in checksum_in record_in print_line item_key compare_items compare_sections compare_keys entry_key extent_of taken_of checksum_of count_of sum sum_taken agree combine_extents combine_items combine_entries merge within without_empty_last lines outside open_section entries spelling_of replace_section keep_section add_calls enter_item ignored name_section effect step read_lines read_text is_section is_function is_branch is_line items_here section_here sections print_key compare_printed functions_of start_record data_record hits group section_records print_records print_sections print_report u32_at text_count text_bytes text_start text_length well_formed text_at texts read_and_print gather_text gather_texts gather_bundle gather printed_answer program_of gather_program insert_key distinct_keys items_at given all_agree agreeing total total_given largest joined_as joined_item joined_entry joined_report summed_of spellings ascending well_formed_ranges half_open join_into insert_range insert_call slice_after holds query_call line_of is_held start_line has_start bounding end_before end_line held_functions filter_items filter_section filter_text
open_all a = a
