-- The number, the table and the length by what the list's call answers.
use mathlib.Core.Path.{ap, ◌∙◌}
use lib.ListN.{length}
use Rattle.std.specs.Result.{result_unwrap_or}
use Rattle.program.specs.Refusal.{told}
use Rattle.host.proofs.ListNumbers.{built_told, built_left}
use Rattle.host.proofs.lists.stepmachine_build.Goals as goal

pub returns : goal.returns
returns c =
    let entries = c.args.entries.now in
    let room = length c.args.table.now in
    let built = c.build-built.ensures in
    record {
      value = c.number_of.ensures ∙ ap told built.value ∙ built_told entries room;
      table_after = built.table_after;
      size_after = c.unwrap_or.ensures ∙ ap (λ r. result_unwrap_or r c.args.size.now) built.value ∙ built_left entries room c.args.size.now;
    }
