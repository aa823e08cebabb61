-- The rules, open for computing with them: the crates above name this and not the definitions.
use mathlib.Core.Bool.{Bool, true}
use Rattle.program.proofs.Opened.{reader_opened}
use Rattle.rules.specs.Search.{some_below, all_below, count_below, bits_below, list_from, chain}
use Rattle.rules.specs.Clocks.{holds_some, is_behind, behind, quiescent}
use Rattle.rules.specs.Tree.{rest, here, next_offset, finishes, in_own_finish, in_finish_body, descends, inside}
use Rattle.rules.specs.Faults.{lends_unheld, lends_quiesced, async_fault, read_fault, fault_for, faulted_inside, spoilt}
use Rattle.rules.specs.Waiting.{behind_of, unended_below, unended_inside, waits_for, awaited_at}
use Rattle.rules.specs.Effects.{past, pushed, again, popped, end_of, next_of, repeat_of, choose_of, lent, child, cell_after, touch, touch_all, effect_of, with_stores, applied}
use Rattle.rules.specs.WellFormed.{is_no_activity, run_by, is_placed, is_bottom, is_stacked, frame_fits, stack_fits, body_fits, barrier_fits, hold_fits, names_fit, spawner_fits, activity_fits, counts_fit, activities_fit, accumulators_fit, well_formed}
use Rattle.rules.specs.Steps.{at, breach, awaited, waits, fault, effect, refusal, exceeds, advance, unfit, start_with, start, step_with, step, can_step, ready, awaited_number, awaited_count, registration_on, sheet_of, registrations_number, registrations}
use Rattle.rules.specs.Runs.{run_from, answers_from, awaited_from, run, answers, awaiteds, taken, some_fault, finished, skips, spares, spared_from, all_ran_from, spared, all_ran}
use Rattle.rules.specs.History.{is_finish_body, begins_finish, spawns_now, insides_after, insides_from, insides}

-- To name this on an `unfolding` line is to open the rules, and the reader below them.
unfoldable pub rules_opened : Bool
unfolding reader_opened some_below all_below count_below bits_below list_from chain holds_some is_behind behind quiescent rest here next_offset finishes in_own_finish in_finish_body descends inside lends_unheld lends_quiesced async_fault read_fault fault_for faulted_inside spoilt behind_of unended_below unended_inside waits_for awaited_at past pushed again popped end_of next_of repeat_of choose_of lent child cell_after touch touch_all effect_of with_stores applied is_no_activity run_by is_placed is_bottom is_stacked frame_fits stack_fits body_fits barrier_fits hold_fits names_fit spawner_fits activity_fits counts_fit activities_fit accumulators_fit well_formed at breach awaited waits fault effect refusal exceeds advance unfit start_with start step_with step can_step ready awaited_number awaited_count registration_on sheet_of registrations_number registrations run_from answers_from awaited_from run answers awaiteds taken some_fault finished skips spares spared_from all_ran_from spared all_ran is_finish_body begins_finish spawns_now insides_after insides_from insides
rules_opened = true
