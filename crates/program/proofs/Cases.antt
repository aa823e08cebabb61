-- The cases hold: computed from the definitions.
use mathlib.Core.Path.{◌≡◌, refl}
use mathlib.Core.Bool.{Bool, true, ◌&&◌}
use Rattle.program.specs.Cases.{numbers_of, tells, all_tell, complete, longest, turned_down, limited, spelt, spells}
use Rattle.program.proofs.Opened.{reader_opened}

-- To name this on an `unfolding` line is to open the definitions and the cases, for computing with them.
unfoldable opened : Bool
unfolding reader_opened numbers_of tells all_tell complete longest turned_down limited spelt spells
opened = true

counts_hold : all_tell complete ≡ true
unfolding opened
counts_hold = refl

longest_holds : all_tell longest ≡ true
unfolding opened
longest_holds = refl

numbers_hold : all_tell turned_down ≡ true
unfolding opened
numbers_hold = refl

limits_hold : all_tell limited ≡ true
unfolding opened
limits_hold = refl

commands_spelt : spells ≡ true
unfolding opened
commands_spelt = refl

-- Every case of every list.
pub cases_hold : all_tell complete && (all_tell longest && (all_tell turned_down && (all_tell limited && spells))) ≡ true
cases_hold = rw (counts_hold, longest_holds, numbers_hold, limits_hold, commands_spelt)
