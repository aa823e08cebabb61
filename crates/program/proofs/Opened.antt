-- The reader's definitions, open for computing with them: the crates above name this and not the definitions.
use mathlib.Core.Bool.{Bool, true}
use Rattle.program.specs.Command.{rows, row_at, width_at, command_of, row_of, width, names, named, times, held, is_end, uses_cell}
use Rattle.program.specs.Reading.{read, bare, readings_after, readings, wholes, commands_of}
use Rattle.program.specs.Bodies.{first_body, after_end, locate, bodies_of, program_of, from, is_place}
use Rattle.program.specs.Scan.{name_fits, atom_fits, placing, left_after, body_after, verdict, fits_length, fits_bodies, scan, bytes, starts_from, layout_of}
use Rattle.program.specs.Count.{sum_over, tally_to, tally, work_of, activities_of, clocks_of, accumulators_of}
use Rattle.program.specs.Table.{over_count, number_of, counted, table_of}
use Rattle.program.specs.Places.{marks, table_marks, places_of}
use Rattle.program.specs.Same.{same_list, same_lists}

-- To name this on an `unfolding` line is to open the reader of tables, its counts and its places.
unfoldable pub reader_opened : Bool
unfolding rows row_at width_at command_of row_of width names named times held is_end uses_cell read bare readings_after readings wholes commands_of first_body after_end locate bodies_of program_of from is_place name_fits atom_fits placing left_after body_after verdict fits_length fits_bodies scan bytes starts_from layout_of sum_over tally_to tally work_of activities_of clocks_of accumulators_of over_count number_of counted table_of marks table_marks places_of same_list same_lists
reader_opened = true
