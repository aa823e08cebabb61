-- What is written, text by text.
use Rattle.std.proofs.Common.{◌≡◌, ℕ, zero, suc, ◌+◌, ◌<◌, ◌≤◌, min, Bool, true, false, cond, List, length, take, subst, sym, ap, arith}
use Rattle.std.specs.Prelude.{OnOk, Ok, Err}
use Rattle.std.specs.declared.option.Option.{Option}
use Rattle.std.specs.declared.result.Result.{Result}
use Rattle.std.specs.Io.KnownBytes.{Appends}
use Rattle.std.proofs.KnownBytes.{Appends-trans}
use Rattle.program.specs.Bodies.{program_of}
use Rattle.program.specs.Count.{work_of}
use Rattle.program.specs.Table.{work_limit, number_of, counted, table_of}
use Rattle.program.specs.declared.refusal.Refusal.{Refusal}
use Rattle.program.specs.Refusal.{refusal_number}
use Rattle.program.proofs.NumberLaws.{number_small}
use Rattle.program.proofs.Refusals.{answered_ok, answered_err}
use Rattle.program.specs.declared.table.Table.{Table}
use Rattle.rules.specs.Search.{count_below}
use Rattle.lines.specs.Text.{total_of}
use Rattle.lines.specs.declared.put.Text.{Text}
use Rattle.lines.specs.Put.{Put}
use Rattle.lines.specs.Paged.{lines_between, Paged}
use Rattle.lines.proofs.Paging.{between_join, total_length}
use Rattle.lines.proofs.Putting.{within}
use Rattle.lines.proofs.Pages.{handed}

-- What fits an empty text is what stands before its end, and is handed on whole.
pub sent : (P : List ℕ → Type 0) {a b : Text} {xs : List ℕ} → Put a xs b → a.end ≡ 0 → length xs ≤ length a.out.now → (b.end ≤ length b.out.now → P (take b.end b.out.now)) → P xs
sent P {a} {b} {xs} p z fits written =
    let whole : b.end ≡ a.end + length xs = omega (arith, p.place) in
    subst P (handed p z whole) (written (within p (omega arith)))

-- What holds on Ok holds of what follows from it.
pub on_ok : {V E P Q : Type 0} (r : Result V E) → (P → Q) → OnOk r P → OnOk r Q
on_ok (Ok v) f p = f p
on_ok (Err e) f p = tt

-- A page more.
pub more_written : (order answers counts : List ℕ) → length order ≤ length answers → length order ≤ length counts
    → (p q r : Option (List ℕ)) {line next : ℕ} {a b : Text} → line ≤ length order
    → Appends p q (lines_between order answers counts 0 line) → a.end ≡ 0 → Paged a order answers counts line b next
    → (b.end ≤ length b.out.now → Appends q r (take b.end b.out.now)) → Appends p r (lines_between order answers counts 0 next)
more_written order answers counts room space p q r {line} {next} {a} {b} h first z page last =
    let inside = page.within h in
    let fits : length (lines_between order answers counts line next) ≤ length a.out.now = omega (arith, page.put.place, page.whole) in
    let second = sent (Appends q r) page.put z fits last in
    subst (Appends p r) (sym (between_join order answers counts 0 line next (omega arith) page.onward h (omega arith) (omega arith)))
    (Appends-trans p q r (lines_between order answers counts 0 line) (lines_between order answers counts line next) first second)

-- A count of those that pass below a number is at most that.
count_few : (n : ℕ) (f : ℕ → Bool) → count_below n f ≤ n
unfolding count_below
count_few zero f = omega arith
count_few (suc n) f = go (f n) (count_few n f)
  where
    go : (b : Bool) → count_below n f ≤ n → cond b 1 0 + count_below n f ≤ suc n
    go true h = omega arith
    go false h = omega arith

-- A total, with how many of at most 64 have ended, fits 128 bytes.
pub total_fits : (work taken spawned : ℕ) (f : ℕ → Bool) → work < 18446744073709551616 → taken < 18446744073709551616 → spawned < 18446744073709551616
    → length (total_of work taken (count_below (min spawned 64) f) spawned) ≤ 118
total_fits work taken spawned f a b c = total_length work taken (count_below (min spawned 64) f) spawned a b (omega (arith, count_few (min spawned 64) f)) c

-- What the reader answers of a table that it turns down, and of one that it accepts.
pub number_read : (t : List ℕ) {r : Refusal} → Err r ≡ table_of work_limit t → (refusal_number r ≡ number_of work_limit t) × (0 < number_of work_limit t)
unfolding table_of
number_read t e = answered_err (number_of work_limit t) (counted t) (sym e) (omega (arith, number_small work_limit t))

pub work_read : (t : List ℕ) {x : Table} → Ok x ≡ table_of work_limit t → (number_of work_limit t ≡ 0) × (x.work ≡ work_of (program_of t))
unfolding table_of counted
work_read t e = let q = answered_ok (number_of work_limit t) (counted t) (sym e) in (q.0, ap (λ (y : Table). y.work) q.1)
