-- A turn that 14 or 15 turns down.
use Prim.Native.Nat.{ℕ}
use native.Mathlib.Omega.{arith}
use mathlib.Core.Path.{◌≡◌, sym, ap, ◌∙◌, subst}
use mathlib.Core.List.{List}
use borrow.Author.Tests.{ne_eqb}
use Rattle.std.specs.Prelude.{Err}
use Rattle.program.specs.Bodies.{program_of}
use Rattle.program.specs.declared.refusal.Refusal.{Refusal}
use Rattle.program.specs.Refusal.{refusal_at}
use Rattle.rules.specs.declared.answer.Stepped.{Stepped}
use Rattle.rules.specs.State.{answer_number, taken_number}
use Rattle.rules.specs.Steps.{base, stepped, refusal, advance}
use Rattle.rules.proofs.AnswerNumbers.{number_positive, refused_number}
use Rattle.fields.specs.Lent.{Lent}
use Rattle.turns.specs.declared.Reply.{Reply}
use Rattle.turns.specs.Turns.{Stands, TurnsAny}
use Rattle.turns.proofs.Looking.{stays}

pub refused : {t b : List ℕ} {i : ℕ} {r : Reply} {e : Refusal} → Stands t b i (Err e) → (r.answer ≡ Err e) × (r.awaited ≡ 0) → TurnsAny t b b i r
unfolding advance
refused {t} {b = b} {i = i} {r = r} {e = e} k alone =
    record {
      turns =
          λ s l w.
          let p = program_of t in
          let d = stays p s i (k.stands s l w) in
          let some : refusal p s i ≡ 0 → ⊥ = λ z. let h = number_positive e in let y = d.0 in omega arith in
          let q : advance base p s i ≡ stepped (Err (refusal_at (refusal p s i))) s = rw (ne_eqb (refusal p s i) 0 some) in
          record {
            state = subst (λ (x : Stepped). Lent b x.state) (sym q) l;
            number = ap taken_number alone.0 ∙ d.0 ∙ sym (refused_number p s i some) ∙ ap (λ (x : Stepped). answer_number x.answer) (sym q);
          };
      waits = λ s l w. alone.1 ∙ (stays (program_of t) s i (k.stands s l w)).1;
    }
