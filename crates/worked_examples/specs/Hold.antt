-- Every row of the tables of examples holds, by computation.
--   Holds e         == the call answers what it must
--   examples-hold   == each of document 01's marked examples does
--   readings-hold   == so does each example that tells another reading from document 01
--   refusals-hold   == and each of the refusals
-- Assumes nothing.
use Rattle.std.specs.Prelude.{◌≡◌, refl, List, [], ◌∷◌, ◌++◌, ℕ, get_or, drop}
use Rattle.std.proofs.Common.{ap}
use Rattle.linear.specs.Span.{All, none, more}
use Rattle.worked_examples.specs.Answer.{Example, answer}
use Rattle.worked_examples.specs.Marked.{marked}
use Rattle.worked_examples.specs.Readings.{readings}
use Rattle.worked_examples.specs.Refusals.{refusals}
use Rattle.counts.specs.Gaussian.{gaussian}
use Rattle.settings.specs.Settings.{row_length_ok, range_ok, count_ok, settings_refusal, list_refusal, count_of}
use Rattle.field.specs.Polynomial.{times, remainder}
use Rattle.field.specs.Field.{is_field_size, is_polynomial, add, multiply, negate, least_from, invert}
use Rattle.matrix.specs.Matrix.{lead_from, lead, pivot_at, identifying, column_value, entries_below, column_alone, row_reduced, is_reduced}
use Rattle.matrix.specs.Shape.{cell, flatten}
use Rattle.matrix.specs.Laws.Shape.{top_value}
use Rattle.extended.specs.Extended.{ones_among, extended_term_at, extended_term, extended_index, extended_column, extended_before}
use Rattle.extended.specs.Drawn.{extended_shape, drawn_extended}
use Rattle.extended.specs.Laws.ShapeRank.{extended_rank}
use Rattle.partitions.specs.Partitions.{partitions_row, partitions, box_count}
use Rattle.ferrers.specs.Ferrers.{free_from, free_columns, dots, diagram, total, size, dotted_from, tableau_of, tableau, tableau_value}
use Rattle.ferrers.specs.Ferrers.{diagram_term, diagram_place, larger_diagrams, ferrers_index}
use Rattle.ferrers.specs.Drawn.{diagram_shape, sized_shape, ferrers_shape, drawn_ferrers}
use Rattle.ferrers.specs.Laws.ShapeRank.{shape_size, shape_place, shape_tableau, ferrers_rank}
use Rattle.linear.specs.Eliminate.{lead_of, eliminate, residue, monic, put_among, insert_residue, insert_row, insert_rows, reduced_rows, join}
use Rattle.linear.specs.Eliminate.{in_span, reduced_of, dimension}
use Rattle.linear.specs.Span.{combination_at, combination, InSpan, SameSpan, rows_of, HasDimension}
use Rattle.refusal.specs.Refusal.{refuse_unless, first, unless_refused, among, named}
use Rattle.numbering.specs.Numbering.{is_numbering, numbering_of, choice_refusal}
use Rattle.draw.specs.Draw.{draw_refusal, draw_buffer}
use Rattle.draw_batch.specs.Batch.{batch_refusal, draw_parts, draw_answers, batch_matrices, batch_answers}
use Rattle.number.specs.Number.{entries_refusal, number_refusal, number_of}
use Rattle.convert.specs.Convert.{convert_refusal, convert_of}
use Rattle.reduce.specs.Reduce.{row_settings_refusal, rows_size_refusal, row_list_refusal, reduce_refusal, reduce_of, reduce_buffer}
use Rattle.distance.specs.Distance.{distance_refusal, distance_of}
use Rattle.receive.specs.Answer.{space_refusal, space_answer}
use Rattle.receive.specs.Receive.{rows_refusal, receive_refusal, receive_of}
use Rattle.receiver.specs.Receiver.{start_of, well_formed, held_rows, holding, take_refusal, taken_in, take_of, close_refusal, close_of}
use Rattle.promise_recovery.specs.Calls.{after, accepted}
use Rattle.spaces.specs.Spaces.{joint_of, joint_dimension, wide, wide_rows, stacked, right_halves, common_rows, common_of, common_dimension}
use Rattle.spaces.specs.Distance.{distance}
use Rattle.pool.specs.Pool.{alike, pool_refusal, pooled, pool_of, joint_buffer, common_buffer}
use Rattle.pandrwyg.specs.Exported.{bytes_of, exported_refusal, exported_number, exported_of, exported_bytes}
use Rattle.text.specs.Piece.{place_after, buffer_after}
use Rattle.text.specs.Text.{numeral_within, numeral}
use Rattle.rows_text.specs.Rows.{row_text, rows_text}
use Rattle.listing.specs.Line.{line_text}
use Rattle.settings_line.specs.Decimal.{is_digit, digit_run, reading, is_numeral, decimal_at, marked_at}
use Rattle.settings_line.specs.SettingsLine.{parsed}
use Rattle.listing.specs.Listing.{listing_line, lines_from, column_names, header, refused_word, refused_line, listing_output}
use Rattle.basics.specs.All.{all_below}
use Rattle.basics.specs.Sum.{sum, sum_range, value}
use Rattle.basics.specs.Table.{tabulate}
use Rattle.reduction.specs.Padded.{padded}

abbrev pub Holds : Example → Type 0
Holds e = answer e.call ≡ e.must

-- the answers, and what they must be, row by row
abbrev answers : List Example → List (List ℕ)
answers [] = []
answers (e ∷ es) = answer e.call ∷ answers es

abbrev musts : List Example → List (List ℕ)
musts [] = []
musts (e ∷ es) = e.must ∷ musts es

each : (es : List Example) → answers es ≡ musts es → All Holds es
each [] same = none
each (e ∷ es) same = more (ap (λ l. get_or l 0 []) same) (each es (ap (drop 1) same))

-- all rows at once
every : All Holds (marked ++ (readings ++ refusals))
unfolding place_after buffer_after listing_output column_names header lines_from listing_line list_refusal parsed marked_at decimal_at digit_run
    is_digit reading is_numeral line_text numeral numeral_within rows_text row_text gaussian row_length_ok range_ok count_ok settings_refusal count_of
    is_field_size is_polynomial times remainder add multiply negate least_from invert lead_from lead pivot_at identifying column_value
    entries_below column_alone row_reduced is_reduced top_value cell flatten ones_among extended_term_at extended_term extended_index extended_column
    extended_before extended_rank extended_shape drawn_extended partitions_row partitions free_from free_columns dots diagram total size
    dotted_from tableau_of tableau tableau_value diagram_term diagram_place larger_diagrams ferrers_index shape_size box_count shape_place
    shape_tableau ferrers_rank diagram_shape sized_shape ferrers_shape drawn_ferrers lead_of eliminate residue monic put_among insert_residue
    insert_row insert_rows reduced_rows join reduced_of in_span dimension combination_at combination InSpan SameSpan rows_of HasDimension
    refuse_unless first unless_refused is_numbering numbering_of choice_refusal draw_refusal draw_buffer batch_refusal draw_parts draw_answers
    batch_matrices batch_answers entries_refusal number_refusal number_of row_settings_refusal rows_size_refusal row_list_refusal reduce_refusal
    reduce_buffer distance distance_refusal distance_of space_answer rows_refusal receive_refusal receive_of all_below sum sum_range value tabulate
    padded refused_word refused_line reduce_of convert_refusal convert_of start_of well_formed held_rows holding take_refusal taken_in take_of
    close_refusal close_of bytes_of exported_refusal exported_number exported_of exported_bytes space_refusal joint_of joint_dimension wide wide_rows
    stacked right_halves common_rows common_of common_dimension alike pool_refusal pooled pool_of joint_buffer common_buffer after accepted
    among named
every = each (marked ++ (readings ++ refusals)) refl

front : {P : Example → Type 0} (xs ys : List Example) → All P (xs ++ ys) → All P xs
front [] ys h = none
front (x ∷ xs) ys (more p ps) = more p (front xs ys ps)

behind : {P : Example → Type 0} (xs ys : List Example) → All P (xs ++ ys) → All P ys
behind [] ys h = h
behind (x ∷ xs) ys (more p ps) = behind xs ys ps

pub examples-hold : All Holds marked
examples-hold = front marked (readings ++ refusals) every

pub readings-hold : All Holds readings
readings-hold = front readings refusals (behind marked (readings ++ refusals) every)

pub refusals-hold : All Holds refusals
refusals-hold = behind readings refusals (behind marked (readings ++ refusals) every)
