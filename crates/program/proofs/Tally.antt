-- The counts of an accepted program: a body comes to what its commands come to, however deep the bodies are nested, and what is left of it from a place on.
use Prim.Native.Nat.{ℕ, zero, suc, ◌+◌, ◌*◌, ◌≤◌, ◌<◌}
use native.Mathlib.Omega.{arith}
use native.Mathlib.Nat.{zero-mul}
use mathlib.Core.Path.{◌≡◌, refl, sym, ◌∙◌}
use mathlib.Core.List.{[], ◌∷◌}
use mathlib.Core.Bool.{Bool, true, false}
use lib.ListN.{length, get_or}
use Rattle.program.specs.Command.{names, named, times, is_end}
use Rattle.program.specs.Bodies.{Located, Body, Program, from}
use Rattle.program.specs.Count.{sum_over, tally_to, tally}
use Rattle.program.specs.declared.command.Command.{Command}
use Rattle.program.proofs.Shape.{Sound, stride, Shaped, Accepted}
use Rattle.program.proofs.ShapeRows.{times_none, closing}
use Rattle.program.proofs.ShapeLaws.{Each}
use Rattle.program.proofs.Located.{found, end_last}

-- Each command of a body of its shape is sound.
shaped_each : (n b : ℕ) (body : Body) → Shaped n b body → Each (Sound n b) body
unfolding Shaped Each
shaped_each n b [] h = tt
shaped_each n b (x ∷ []) h = (h.0, tt)
shaped_each n b (x ∷ (y ∷ r)) h = (h.0, shaped_each n b (y ∷ r) h.3)

-- What a command adds for the body that it names: nothing where it names none.
named_none : (c : Command) (v : ℕ) → names c ≡ false → times c * v ≡ 0
named_none c v e = rw (times_none c e) (zero-mul v)

module _ (own : Command → ℕ) (of of' : ℕ → ℕ) (n b : ℕ) (same : (i : ℕ) → b < i → i < n → of i ≡ of' i) where
  -- A command of body b counts only bodies after b.
  named_same : (x : Located) → Sound n b x → times x.command * of (named x.command) ≡ times x.command * of' (named x.command)
  named_same x h = by (names x.command) refl
    where
      by : (q : Bool) → names x.command ≡ q → times x.command * of (named x.command) ≡ times x.command * of' (named x.command)
      by true q = let k = h.above q in rw (same (named x.command) k.0 k.1)
      by false q = named_none x.command _ q ∙ sym (named_none x.command _ q)

  sum_same : (body : Body) → Each (Sound n b) body → sum_over own of body ≡ sum_over own of' body
  unfolding sum_over Each
  sum_same [] h = refl
  sum_same (x ∷ xs) h = rw (named_same x h.0, sum_same xs h.1)

module _ {p : Program} (ok : Accepted p) (own : Command → ℕ) where
  -- A body names only bodies after it: any two depths that reach from it to the last body give the same tally.
  pub tally_deep : (d e b : ℕ) → b < length p → length p ≤ d + b → length p ≤ e + b → tally_to own p d b ≡ tally_to own p e b
  unfolding tally_to
  tally_deep zero e b h l m = absurd (let y : ⊥ = omega arith in y)
  tally_deep (suc d) zero b h l m = absurd (let y : ⊥ = omega arith in y)
  tally_deep (suc d) (suc e) b h l m =
      sum_same own (tally_to own p d) (tally_to own p e) (length p) b (λ i above below. tally_deep d e i below (omega arith) (omega arith))
      (get_or p b []) (shaped_each (length p) b (get_or p b []) (ok.shaped b h))

  -- A body comes to what its commands come to, with the tallies of the bodies that they name.
  pub tally_is : (b : ℕ) → b < length p → tally own p b ≡ sum_over own (tally own p) (get_or p b [])
  unfolding tally tally_to
  tally_is b h = tally_deep (length p) (suc (length p)) b h (omega arith) (omega arith)

-- WHAT IS LEFT

-- What a body comes to from an offset on.
unfoldable pub left_of : (Command → ℕ) → Program → ℕ → ℕ → ℕ
left_of own p b o = sum_over own (tally own p) (from (get_or p b []) o)

module _ {p : Program} (ok : Accepted p) (own : Command → ℕ) (b : ℕ) (h : b < length p) where
  module _ (o : ℕ) {x : Located} {r : Body} (at : from (get_or p b []) o ≡ x ∷ r) where
    -- What is left from a command: its own, the body that it names as often as it runs it, and what is left from the next offset.
    pub left_at : left_of own p b o ≡ own x.command + times x.command * tally own p (named x.command) + left_of own p b (o + stride x)
    unfolding left_of sum_over
    left_at = rw (at, (found ok b h o at).next)

    -- The same of END.
    pub left_end : is_end x.command ≡ true → left_of own p b o ≡ own x.command
    unfolding left_of sum_over
    left_end e = let g = named_none x.command (tally own p (named x.command)) (closing x.command e).nameless in rw (at, end_last ok b h o at e) (omega arith)
