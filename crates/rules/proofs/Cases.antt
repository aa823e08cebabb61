-- The cases hold: computed from the rules.
use mathlib.Core.Path.{◌≡◌, refl}
use mathlib.Core.Bool.{Bool, true, ◌&&◌}
use Rattle.rules.specs.Same.{activity_numbers, same_activities, shared_numbers, same_state}
use Rattle.rules.specs.Written.{activity, written, with_acts, with_accs, with_counts, change, change_acc, nest, nested, pair, paired, crowd, crowded, deep, deepest, atom, standing}
use Rattle.rules.specs.CasesStates.{all_unfit, breaks, all_break, broken, stacked, every, unrun, highest, mainly, over, unmade, spawned, last}
use Rattle.rules.specs.CasesCalls.{starts_so, all_start, started, answers_so, all_so, reader, reading, lined, finish, hand_made, all_fault, breaches, rows_begin, shows, all_show, renamed, cornered, sheets, quiet_from, all_quiet, quiets}
use Rattle.rules.specs.CasesAwaited.{waits_along, waits_so, all_wait, waited, counts_so, all_count, standing_line, asked}
use Rattle.rules.specs.CasesPassedOn.{passed_on, lost, handed_on}
use Rattle.rules.specs.CasesChosen.{chosen, chosen_work, spares_so, all_spare, sparing, under_choose, choosing, unawaited}
use Rattle.rules.specs.CasesRuns.{goes, goes_so, all_go, naming, faulting, affected}
use Rattle.rules.specs.CasesValues.{begins_with, leaves, all_leave, valued}
use Rattle.rules.specs.Cases.{numbered, has_fault, accepts, holds_for, all_hold, marked, unfinished, answers_by, state_by, answers_as, all_answer, own, lines_from, printed, walk_prints}
use Rattle.rules.proofs.Opened.{rules_opened}

-- To name this on an `unfolding` line is to open the rules and the cases, for computing with them.
unfoldable pub opened : Bool
unfolding rules_opened numbered has_fault accepts holds_for all_hold marked unfinished answers_by state_by answers_as all_answer own begins_with leaves all_leave valued activity_numbers same_activities shared_numbers same_state activity written with_acts with_accs with_counts change change_acc nest nested pair paired crowd crowded deep deepest atom standing goes goes_so all_go naming faulting affected all_unfit breaks all_break broken stacked every unrun highest mainly over unmade spawned last starts_so all_start started answers_so all_so reader reading lined finish hand_made all_fault breaches rows_begin shows all_show renamed cornered sheets quiet_from all_quiet quiets lines_from printed walk_prints waits_along waits_so all_wait waited counts_so all_count standing_line asked passed_on lost handed_on chosen chosen_work spares_so all_spare sparing under_choose choosing unawaited
opened = true

marked_hold : all_hold marked ≡ true
unfolding opened
marked_hold = refl

own_hold : all_hold unfinished ≡ true
unfolding opened
own_hold = refl

walk_prints_lem : walk_prints ≡ true
unfolding opened
walk_prints_lem = refl

own_answer : all_answer own ≡ true
unfolding opened
own_answer = refl

values_left : all_leave valued ≡ true
unfolding opened
values_left = refl

names_go : all_go naming ≡ true
unfolding opened
names_go = refl

faults_go : all_go faulting ≡ true
unfolding opened
faults_go = refl

effects_go : all_go affected ≡ true
unfolding opened
effects_go = refl

states_break : all_break broken ≡ true
unfolding opened
states_break = refl

parts_break : breaks stacked && (breaks unrun && (breaks highest && (breaks mainly && (breaks over && (breaks unmade && (breaks spawned && breaks last)))))) ≡ true
unfolding opened
parts_break = refl

starts_hold : all_start started ≡ true
unfolding opened
starts_hold = refl

states_answer : all_so hand_made ≡ true
unfolding opened
states_answer = refl

states_fault : all_fault breaches ≡ true
unfolding opened
states_fault = refl

sheets_show : all_show sheets ≡ true
unfolding opened
sheets_show = refl

phases_quiet : all_quiet quiets ≡ true
unfolding opened
phases_quiet = refl

enums_numbered : numbered ≡ true
unfolding opened
enums_numbered = refl

runs_wait : all_wait waited ≡ true
unfolding opened
runs_wait = refl

states_wait : all_count asked ≡ true
unfolding opened
states_wait = refl

runs_pass_on : all_go passed_on ≡ true
unfolding opened
runs_pass_on = refl

work_lost : all_hold lost ≡ true
unfolding opened
work_lost = refl

states_pass_on : all_so handed_on ≡ true
unfolding opened
states_pass_on = refl

runs_choose : all_go chosen ≡ true
unfolding opened
runs_choose = refl

work_chosen : all_hold chosen_work ≡ true
unfolding opened
work_chosen = refl

runs_spare : all_spare sparing ≡ true
unfolding opened
runs_spare = refl

states_choose : breaks under_choose && (all_so choosing && all_count unawaited) ≡ true
unfolding opened
states_choose = refl

-- Every case of every list.
pub cases_hold : all_hold marked
    && ((all_hold unfinished && walk_prints)
    && (numbered
    && (all_answer own
    && (all_leave valued
    && (all_go naming
    && (all_go faulting
    && (all_go affected
    && (all_break broken
    && ((breaks stacked && (breaks unrun && (breaks highest && (breaks mainly && (breaks over && (breaks unmade && (breaks spawned && breaks last)))))))
    && (all_start started && ((all_so hand_made && all_fault breaches) && ((all_show sheets && all_quiet quiets) && ((all_wait waited && all_count asked) && ((all_go passed_on && (all_hold lost && all_so handed_on)) && (all_go chosen && (all_hold chosen_work && (all_spare sparing && (breaks under_choose && (all_so choosing && all_count unawaited))))))))))))))))))) ≡ true
cases_hold =
    rw (marked_hold, own_hold, walk_prints_lem, enums_numbered, own_answer, values_left, names_go, faults_go, effects_go, states_break, parts_break, starts_hold, states_answer, states_fault, sheets_show, phases_quiet, runs_wait, states_wait, runs_pass_on, work_lost, states_pass_on, runs_choose, work_chosen, runs_spare, states_choose)
