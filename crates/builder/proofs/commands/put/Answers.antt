-- The commands so far are passed, and their entries are written.
use Prim.Native.Nat.{◌<◌}
use native.Mathlib.Omega.{arith}
use mathlib.Core.List.{map}
use mathlib.Core.Path.{◌≡◌, refl, sym, ap, ◌∙◌}
use lib.ListN.{length, get_or, length-map, get_or-map}
use Rattle.program.specs.Reading.{commands_of}
use Rattle.program.specs.declared.command.Command.TheVariants.{End}
use Rattle.builder.specs.Build.{entry_of}
use Rattle.builder.proofs.Walking.{walking_none, walking_ahead, walking_here, walking_fits, walking_on}
use Rattle.builder.proofs.Copied.{copied_more, copied_all}
use Rattle.builder.proofs.commands.put.Goals as goal

pub loop-entry-init : goal.loop-entry-init
loop-entry-init c = (walking_none c.args.table.now c.requires.0, refl)

pub bounds-table-at : goal.bounds-table-at
bounds-table-at c =
    let i = c.loop-entry-test.true in
    let e = c.requires.1 in
    walking_ahead c.loop-entry.invariant.0 (omega arith)

pub overflow_add-at : goal.overflow_add-at
overflow_add-at c =
    let w = c.loop-entry.invariant.0 in
    let i = c.loop-entry-test.true in
    let e = c.requires.1 in
    let f = walking_fits w (walking_ahead w (omega arith)) c.width_at-at.ensures in
    omega arith

pub loop-entry-preserved : goal.loop-entry-preserved
loop-entry-preserved c =
    let w = c.loop-entry.invariant.0 in
    let cs = commands_of c.args.table.now in
    let i = c.loop-entry.entry-index in
    let e = c.requires.1 in
    let below : i < length cs = let t = c.loop-entry-test.true in omega arith in
    let more = walking_ahead w below in
    let here : c.entry_of.result ≡ get_or (map entry_of cs) i (entry_of End) = c.entry_of.ensures ∙ ap entry_of (c.known.ensures ∙ walking_here w more) ∙ sym (get_or-map entry_of cs i End) in (
      walking_on w more c.width_at-at.ensures,
      rw (here, c.loop-entry.invariant.1) (copied_more (map entry_of cs) c.args.entries.now i (entry_of End) (rw length-map below) (omega arith)),
    )

pub returns : goal.returns
returns c =
    let cs = commands_of c.args.table.now in
    let e = c.requires.1 in
    let m = length-map cs entry_of in
    let w = c.loop-entry.invariant.0 in
    let last = c.loop-entry-test.false in
    let within = w.within in
    c.loop-entry.invariant.1 ∙ copied_all (map entry_of cs) c.args.entries.now c.loop-entry.entry-index (omega arith) (omega arith) (omega arith)
