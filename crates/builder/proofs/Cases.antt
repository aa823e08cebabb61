-- The cases hold: computed from the definitions.
use mathlib.Core.Path.{◌≡◌, refl}
use mathlib.Core.Bool.{Bool, true, ◌&&◌}
use Rattle.program.proofs.Opened.{reader_opened}
use Rattle.builder.specs.Build.{command_in, bytes_in, entry_of, ends_in, bytes_of, list_bytes, built_number, built_length, built_bytes, listed_number, listed_count, listed_entries}
use Rattle.builder.specs.Cases.{builds, all_build, built, longest, lists, all_list, listed}

-- To name this on an `unfolding` line is to open the definitions and the cases, for computing with them.
unfoldable opened : Bool
unfolding reader_opened command_in bytes_in entry_of ends_in bytes_of list_bytes built_number built_length built_bytes listed_number listed_count listed_entries builds all_build built longest lists all_list listed
opened = true

built_hold : all_build built ≡ true
unfolding opened
built_hold = refl

longest_holds : builds longest ≡ true
unfolding opened
longest_holds = refl

listed_hold : all_list listed ≡ true
unfolding opened
listed_hold = refl

-- Every case of every list.
pub cases_hold : all_build built && (builds longest && all_list listed) ≡ true
cases_hold = rw (built_hold, longest_holds, listed_hold)
