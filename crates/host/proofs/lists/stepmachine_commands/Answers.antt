-- The number, the entries and how many they are by what the table's call answers.
use mathlib.Core.Path.{ap, ◌∙◌}
use lib.ListN.{length}
use Rattle.std.specs.Result.{result_unwrap_or}
use Rattle.program.specs.Refusal.{told}
use Rattle.host.proofs.ListNumbers.{listed_told, listed_left}
use Rattle.host.proofs.lists.stepmachine_commands.Goals as goal

pub returns : goal.returns
returns c =
    let table = c.args.table.now in
    let room = length c.args.entries.now in
    let listed = c.list-listed.ensures in
    record {
      value = c.number_of.ensures ∙ ap told listed.value ∙ listed_told table room;
      entries_after = listed.entries_after;
      found_after = c.unwrap_or.ensures ∙ ap (λ r. result_unwrap_or r c.args.found.now) listed.value ∙ listed_left table room c.args.found.now;
    }
