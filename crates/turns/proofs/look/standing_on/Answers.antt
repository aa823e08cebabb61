-- Numbers 14 and 15 in their order, then the command.
use mathlib.Core.Path.{sym, ◌∙◌}
use Rattle.turns.proofs.Looking.{not_spawned, has_ended, bodiless, on}
use Rattle.turns.proofs.look.standing_on.Goals as goal

pub returns-then-made-i : goal.returns-then-made-i
returns-then-made-i c = not_spawned c.args.table.now.bytes.now c.activities_of-made.ensures c.if-made-i.true

pub returns-then-is_ended : goal.returns-then-is_ended
returns-then-is_ended c = has_ended c.args.table.now.bytes.now c.activities_of-made.ensures c.if-made-i.false c.status_at.ensures (sym c.is_ended.ensures ∙ c.if-is_ended.true)

pub returns-then-depth-eq0 : goal.returns-then-depth-eq0
returns-then-depth-eq0 c = bodiless c.args.table.now.bytes.now c.activities_of-made.ensures c.if-made-i.false c.status_at.ensures (sym c.is_ended.ensures ∙ c.if-is_ended.false) c.depth_at-depth.ensures c.if-depth-eq0.true

pub returns : goal.returns
returns c =
    on c.args.table.now.bytes.now c.activities_of-made.ensures c.if-made-i.false c.status_at.ensures (sym c.is_ended.ensures ∙ c.if-is_ended.false) c.depth_at-depth.ensures c.frame_at.ensures c.command_at.ensures
