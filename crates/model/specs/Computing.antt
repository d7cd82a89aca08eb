-- Names that open every definition: `unfolding computing` is what a proof by computation writes.
-- Assumes nothing.
use Rattle.model.specs.Lists.{is_in, any_in, twice, count, same, add, union, without, last, first}
use Rattle.model.specs.Bytes.{u16, u32, put16, put32}
use Rattle.model.specs.Answer.{◌>>=◌, unless, guard, checked}
use Rattle.model.specs.Down.{under, down_fuel, down}
use Rattle.model.specs.Tree.{same_rec, many, root, take_t, drop_t, snoc, grow, row_bytes, row_len, directory, bodies}
use Rattle.model.specs.Tree.{forest_of, serialise, size, depth, rows}
use Rattle.model.specs.Shape.{a_byte, a_id, a_type, a_opt, ◌then◌, times, a_counted, whole, bits, shapes, fits}
use Rattle.model.specs.Shape.{shape_of}
use Rattle.model.specs.Shape.{both_ways, one_way, agrees}
use Rattle.model.specs.Faults.{faults}
use Rattle.model.specs.Forest.{tree_count, record_count, pairs_at, pairs_of, row_of, rows_at, body_start, rows_in}
use Rattle.model.specs.Forest.{trees_of}
use Rattle.model.specs.Forest.{check2, bad_pairs, check3, check4, check5, unclosed, check6, check7, other_shape, check16}
use Rattle.model.specs.Binding.{kind, id_of, opt_of, args_of, arg_ids, inside, after, check8, check9, check10}
use Rattle.model.specs.Accept.{checks, accept}
use Rattle.model.specs.Unfold.{meaning, bind_from, unfold_kind, unfold_item, unfolded, unfold_at}
use Rattle.model.specs.Intern.{start, is_key, lookup_in, lookup, climb, placement, union_deps, push, alloc, finish}
use Rattle.model.specs.Intern.{alloc_args, resolve, bind_def, thunked, intern_scoped, recall, new_projections}
use Rattle.model.specs.Intern.{pair_projection, intern_last, node_of, intern_general, intern_field, intern_func}
use Rattle.model.specs.Intern.{intern_kind}
use Rattle.model.specs.Intern.{intern_forest, intern}
use Rattle.model.specs.Gate.{reach, slots_of, reachable, usage, is_context_property, is_internal, is_const}
use Rattle.model.specs.Gate.{should_hoist}
use Rattle.model.specs.Schedule.{classify, rel_of, each, visit_step, visit, operands, local_dep_order, body_only}
use Rattle.model.specs.Schedule.{body_neighbours, outsiders, collect, free_step, free_vars, neighbours, schedule}
use Rattle.model.specs.Materialize.{val_use_of, val_def_of, renames, wrap_block, id_given, member, define}
use Rattle.model.specs.Materialize.{process_scope}
use Rattle.model.specs.Materialize.{build_op, arg_lit, build_node, build_step, build_value, materialize}
use Rattle.model.specs.Call.{check1, lent_checks, interned, tree_of, bytes_of, check13, check14, tree_checks}
use Rattle.model.specs.Call.{written_of, measured, written, run, numbers_of, numbers, out_with, out_after, work_after}
use Rattle.model.specs.Savings.{weight, value_size, own_use, uses_of, def_here, defs_of, saving, savings, sum_ℤ, worth}
use Rattle.model.specs.Savings.{bind, hide, use_share, share, later, shares_of, counted}
use Rattle.model.specs.Labels.{erase, l_snoc, l_val_use_of, l_val_def_of, l_wrap_block, l_define, l_process_scope, l_build_op}
use Rattle.model.specs.Labels.{l_build_node, l_build_step, l_build_value, labelled, defined_of, held_by, blocks_of}
use Rattle.model.specs.Rules.{tests, first_rule, first_scope, rule_of, in_order, rules_of}
use Rattle.model.specs.Text.{text}
use Rattle.model.specs.Lister.{digits, numeral, hex_digit, hex_byte, tag_of, opcode_shown, yes_no, line, lines_from}
use Rattle.model.specs.Lister.{symbol_lines, signed, saving_line, saving_lines, rule_text, rule_line, rule_lines, refusal}
use Rattle.model.specs.Lister.{lines_of, lister}
use Rattle.model.specs.ArchiveLister.{mixed_opcode, mixed_line, archive_lister}
use Rattle.model.specs.Sheet.{named, shape_names, class_names, opcode_names, hex_bytes, id_texts, args_text}
use Rattle.model.specs.Sheet.{id_text, mark_text, const_text, own_text, literal_text, place_text, opcode_text, record_line}
use Rattle.model.specs.Sheet.{tree_lines, forest_lines, sheet_of, sheet}
use Rattle.model.specs.Template.{is_parameter, definitions}
use Rattle.model.specs.TemplateLine.{is_of, stands_at, value_of, has_another, two_values, parameters_below, parameters}
use Rattle.model.specs.TemplateLine.{verdict, line_of, template_line}
use Rattle.model.specs.Failing.{value_in, skipped, found_from, applied, eval_kind, eval}
use Rattle.model.specs.Nesting.{extents}
use Rattle.model.specs.Ends.{ends_from, ends_of, entries_of, checking, told}

unfoldable pub bytes_and-trees : Unit {0}
unfolding is_in any_in twice count same add union without last first u16 u32 put16 put32 ◌>>=◌ unless guard checked
    under down_fuel down same_rec many root take_t drop_t snoc grow row_bytes row_len directory bodies forest_of serialise
    size depth rows
bytes_and-trees = tt

unfoldable pub acceptance : Unit {0}
unfolding a_byte a_id a_type a_opt ◌then◌ times a_counted whole bits shapes fits shape_of both_ways one_way agrees tree_count
    record_count pairs_at pairs_of row_of rows_at body_start rows_in trees_of check2 bad_pairs check3 check4 check5 unclosed
    check6 check7 other_shape check16 faults kind id_of opt_of args_of arg_ids inside after check8 check9 check10
    checks accept
acceptance = tt

unfoldable pub unfolding_a_tree : Unit {0}
unfolding meaning bind_from unfold_kind unfold_item unfolded unfold_at
unfolding_a_tree = tt

unfoldable pub interning : Unit {0}
unfolding start is_key lookup_in lookup climb placement union_deps push alloc finish alloc_args resolve bind_def thunked
    intern_scoped recall new_projections pair_projection intern_last node_of intern_general intern_field intern_func
    intern_kind intern_forest intern
interning = tt

unfoldable pub materializing : Unit {0}
unfolding reach slots_of reachable usage is_context_property is_internal is_const should_hoist classify rel_of each visit_step
    visit operands local_dep_order body_only body_neighbours outsiders collect free_step free_vars neighbours schedule
    val_use_of val_def_of renames wrap_block id_given member define process_scope build_op arg_lit build_node build_step
    build_value materialize
materializing = tt

unfoldable pub calling : Unit {0}
unfolding check1 lent_checks interned tree_of bytes_of check13 check14 tree_checks written_of measured written run
    numbers_of numbers out_with out_after work_after
calling = tt

unfoldable pub saving_bytes : Unit {0}
unfolding weight value_size own_use uses_of def_here defs_of saving savings sum_ℤ worth bind hide use_share share later shares_of counted
saving_bytes = tt

unfoldable pub ruling : Unit {0}
unfolding erase l_snoc l_val_use_of l_val_def_of l_wrap_block l_define l_process_scope l_build_op l_build_node l_build_step
    l_build_value labelled defined_of held_by blocks_of tests first_rule first_scope rule_of in_order rules_of
ruling = tt

unfoldable pub listing : Unit {0}
unfolding text digits numeral hex_digit hex_byte tag_of opcode_shown yes_no line lines_from symbol_lines signed saving_line
    saving_lines rule_text rule_line rule_lines refusal lines_of lister mixed_opcode mixed_line archive_lister
    saving_bytes ruling
listing = tt

unfoldable pub showing : Unit {0}
unfolding named shape_names class_names opcode_names hex_bytes id_texts args_text id_text mark_text const_text own_text literal_text
    place_text opcode_text record_line tree_lines forest_lines sheet_of sheet
showing = tt

unfoldable pub filling : Unit {0}
unfolding is_parameter definitions is_of stands_at value_of has_another two_values parameters_below parameters verdict line_of
    template_line
filling = tt

unfoldable pub evaluating : Unit {0}
unfolding value_in skipped found_from applied eval_kind eval
evaluating = tt

unfoldable pub ending : Unit {0}
unfolding extents ends_from ends_of entries_of checking told
ending = tt

unfoldable pub computing : Unit {0}
unfolding bytes_and-trees acceptance unfolding_a_tree interning materializing calling listing showing filling
computing = tt
