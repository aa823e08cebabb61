-- The header, the lines and the total, or the line of a table turned down.
use Rattle.std.proofs.Common.{rules, ◌≡◌, ◌≤◌, ◌++◌, ℕ, List, length, min, subst, sym, ap, ◌∙◌, arith}
use Rattle.std.specs.Prelude.{OnOk}
use Rattle.std.specs.Io.KnownBytes.{Appends}
use Rattle.std.proofs.KnownBytes.{Appends-trans}
use Rattle.rules.specs.Search.{count_below}
use Rattle.rules.specs.State.{ended}
use Rattle.lines.specs.Text.{header_of, total_of, refused_of}
use Rattle.lines.specs.Walk.{lines_from, walk_text}
use Rattle.lines.proofs.Paging.{refused_length}
use Rattle.lines.proofs.Putting.{within}
use Rattle.walk.specs.Walked.{walked}
use Rattle.walk.proofs.Printed.{printed_text, printed_refused}
use Rattle.walk.proofs.Written.{sent, on_ok, total_fits, number_read, work_read}
use Rattle.walk.proofs.walk.Goals as goal

pub of-requires : goal.of-requires
of-requires g c = within c.put_ending.ensures (omega (arith, c.new-total.ensures.empty))

pub returns-in-Err : goal.returns-in-Err
returns-in-Err g c =
    let job = c.args.job.now in
    let n = c.number.result in
    let number = number_read job (sym c.in-Err.is ∙ c.read_table.ensures) in
    let text : refused_of n ≡ walked job c.args.order.now =
    ap refused_of (c.number.ensures ∙ number.0) ∙ printed_refused job c.args.order.now (λ z. absurd (omega (arith, number.1))) in
    let written : List ℕ → Type 0 = λ l. OnOk c.send.result (Appends (g.W.Write.contents c.args.to.now) (g.W.Write.contents c.send.new.to) l) in
    let room : 128 ≤ length c.new-line.result.text.out.now = search rules in
    subst written text (sent written c.refused.ensures c.new-line.ensures.empty (omega (arith, refused_length n (search rules), room)) (rw c.text.ensures at c.send.ensures.written))

pub returns : goal.returns
unfolding walk_text
returns g c =
    let state = c.trace-ran.result.state in
    let work = c.in-Ok.found.work in
    let read = work_read c.args.job.now (sym c.in-Ok.is ∙ c.read_table.ensures) in
    let total : List ℕ = total_of work state.steps (count_below (min state.activities 64) (ended state)) state.activities in
    let lines : List ℕ = lines_from 0 0 c.args.order.now c.trace-ran.new.answers c.trace-ran.new.counts in
    let begun = g.W.Write.contents c.args.to.now in
    let headed = g.W.Write.contents c.send-2.new.to in
    let listed = g.W.Write.contents c.print_lines.new.to in
    let done = g.W.Write.contents c.send-3.new.to in
    let header-room : 128 ≤ length c.new-header.result.text.out.now = search rules in
    let total-room : 128 ≤ length c.new-total.result.out.now = search rules in
    let first : Appends begun headed header_of = sent (Appends begun headed) c.header.ensures c.new-header.ensures.empty (omega (arith, header-room)) (rw c.text-2.ensures at c.in_ok-send.ensures.written) in
    let second : Appends headed listed lines = c.in_ok-print_lines.ensures.printed in
    let fits : length total ≤ length c.new-total.result.out.now =
    omega (arith, total_fits work state.steps state.activities (ended state) (search rules) (search rules) (search rules), total-room) in
    let third : OnOk c.send-3.result (Appends listed done total) =
    sent (λ (l : List ℕ). OnOk c.send-3.result (Appends listed done l)) c.put_ending.ensures c.new-total.ensures.empty fits (rw (c.text-3.ensures, c.of.ensures) at c.send-3.ensures.written) in
    let text : header_of ++ lines ++ total ≡ walked c.args.job.now c.args.order.now =
    ap (λ (n : ℕ). header_of ++ lines ++ total_of n state.steps (count_below (min state.activities 64) (ended state)) state.activities) read.1
    ∙ printed_text c.args.job.now c.args.order.now c.args.answers.now c.args.counts.now c.trace-ran.ensures c.requires.order_in_bounds c.requires.order_in_bounds_2 read.0 in
    on_ok c.send-3.result
    (λ third. subst (Appends begun done) text (Appends-trans begun headed done header_of (lines ++ total) first (Appends-trans headed listed done lines total second third)))
    third
