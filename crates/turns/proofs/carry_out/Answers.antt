-- Each arm is its command's function; one that can wait asks first.
use mathlib.Core.Path.{refl}
use mathlib.Core.Logic.{inl, inr}
use Rattle.std.proofs.Common.{rules}
use Rattle.program.specs.declared.command.Command.TheVariants.{Next, Read, Reset}
use Rattle.program.proofs.ShapeRanges.{Within}
use Rattle.rules.specs.State.{taken_number}
use Rattle.moves.specs.Moves.{Turns}
use Rattle.bodies.specs.Pops.{Ends}
use Rattle.waits.proofs.Waitings.{awaits_end, awaits_next, awaits_own}
use Rattle.turns.proofs.Carrying.{ends, met, simply, ranging, plain, plain_simply, plain_ranging}
use Rattle.turns.proofs.carry_out.Goals as goal

pub returns-in-End : goal.returns-in-End
returns-in-End c =
    let table = c.args.table.now in
    met table (awaits_end table.known c.in-End.is c.end_inside-seen.ensures) c.meet.ensures.waits (λ z. (c.meet.ensures.goes z).1)
    (λ z.
    let d : Ends c.end_inside-seen.result.faulted c.args.state.now c.meet.new.state table.work c.args.i (taken_number c.meet.result.answer) = search rules in
    rw c.in-End.is (ends table.known c.end_inside-seen.ensures d))

pub returns-in-Next : goal.returns-in-Next
returns-in-Next c =
    let table = c.args.table.now in
    met table (awaits_next table.known c.in-Next.is c.next_awaits.ensures) c.meet-in-Next.ensures.waits (λ z. (c.meet-in-Next.ensures.goes z).1)
    (λ z.
    let d : Turns Next c.args.state.now c.meet-in-Next.new.state table.work c.args.i (taken_number c.meet-in-Next.result.answer) = search rules in
    rw c.in-Next.is (simply table d))

pub returns-in-Clock : goal.returns-in-Clock
returns-in-Clock c = plain_ranging c.args.table.now c.in-Clock.is refl c.alone.ensures c.clock.ensures

pub returns-in-Resume : goal.returns-in-Resume
returns-in-Resume c = plain_ranging c.args.table.now c.in-Resume.is refl c.alone-in-Resume.ensures c.resume.ensures

pub returns-in-Drop : goal.returns-in-Drop
returns-in-Drop c = plain_ranging c.args.table.now c.in-Drop.is refl c.alone-in-Drop.ensures c.drop.ensures

pub returns-in-Async : goal.returns-in-Async
returns-in-Async c = plain c.args.table.now c.in-Async.is refl c.alone-in-Async.ensures c.spawn.ensures

pub returns-in-Finish : goal.returns-in-Finish
returns-in-Finish c = plain_simply c.args.table.now c.in-Finish.is refl c.alone-in-Finish.ensures c.finish.ensures

pub returns-in-Repeat : goal.returns-in-Repeat
returns-in-Repeat c = plain_simply c.args.table.now c.in-Repeat.is refl c.alone-in-Repeat.ensures c.repeat.ensures

pub returns-in-Acc : goal.returns-in-Acc
returns-in-Acc c = plain_ranging c.args.table.now c.in-Acc.is refl c.alone-in-Acc.ensures (λ h. c.acc.ensures h.0)

pub returns-in-Offer : goal.returns-in-Offer
returns-in-Offer c = plain_ranging c.args.table.now c.in-Offer.is refl c.alone-in-Offer.ensures c.offer.ensures

pub returns-in-Read : goal.returns-in-Read
returns-in-Read c =
    let table = c.args.table.now in
    met table (awaits_own table.known c.own_awaits.ensures (inl c.in-Read.is)) c.meet-in-Read.ensures.waits (λ z. (c.meet-in-Read.ensures.goes z).1)
    (λ z.
    let d : Within (Read c.in-Read.n) → Turns (Read c.in-Read.n) c.args.state.now c.meet-in-Read.new.state table.work c.args.i (taken_number c.meet-in-Read.result.answer) = search rules in
    rw c.in-Read.is (ranging table d))

pub returns-in-Reset : goal.returns-in-Reset
returns-in-Reset c =
    let table = c.args.table.now in
    met table (awaits_own table.known c.own_awaits-in-Reset.ensures (inr c.in-Reset.is)) c.meet-in-Reset.ensures.waits (λ z. (c.meet-in-Reset.ensures.goes z).1)
    (λ z.
    let d : Within (Reset c.in-Reset.n) → Turns (Reset c.in-Reset.n) c.args.state.now c.meet-in-Reset.new.state table.work c.args.i (taken_number c.meet-in-Reset.result.answer) = search rules in
    rw c.in-Reset.is (ranging table d))

pub returns-in-Put : goal.returns-in-Put
returns-in-Put c = plain_simply c.args.table.now c.in-Put.is refl c.alone-in-Put.ensures c.put.ensures

pub returns-in-Fetch : goal.returns-in-Fetch
returns-in-Fetch c = plain_ranging c.args.table.now c.in-Fetch.is refl c.alone-in-Fetch.ensures c.fetch.ensures

pub returns-in-Store : goal.returns-in-Store
returns-in-Store c = plain_ranging c.args.table.now c.in-Store.is refl c.alone-in-Store.ensures c.store.ensures

pub returns-in-Add : goal.returns-in-Add
returns-in-Add c = plain_ranging c.args.table.now c.in-Add.is refl c.alone-in-Add.ensures c.add.ensures

pub returns-in-Atom : goal.returns-in-Atom
returns-in-Atom c = plain c.args.table.now c.in-Atom.is refl c.alone-in-Atom.ensures c.atom.ensures

pub returns-in-Choose : goal.returns-in-Choose
returns-in-Choose c = plain_simply c.args.table.now c.in-Choose.is refl c.alone-in-Choose.ensures c.choose.ensures
