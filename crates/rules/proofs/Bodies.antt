-- Frames on the commands of an accepted program: what is left of a body from a frame's place on, and the frame after its command.
use Prim.Native.Nat.{ℕ, ◌<◌}
use mathlib.Core.List.{[], ◌∷◌}
use mathlib.Core.Bool.{true, false}
use mathlib.Core.Path.{◌≡◌, refl, ap, ◌∙◌, subst}
use lib.ListN.{length, get_or}
use Rattle.rules.specs.declared.state.Frame.{Frame}
use Rattle.program.specs.Command.{names, named, is_end}
use Rattle.program.specs.Bodies.{Located, Body, head_of, tail_of, Program}
use Rattle.program.proofs.Shape.{Accepted}
use Rattle.program.proofs.Located.{Stands, from_here, shaped_some, onward_goes, found, found_onward, end_last, next_offset_lem}
use Rattle.rules.specs.Tree.{here, rest, next_offset}

-- A frame stands on a command of its body.
pub record Placed (p : Program) (f : Frame) : Type 0 where
  pub listed : f.body < length p
  pub item : Located
  pub more : Body
  pub found : rest p f ≡ item ∷ more

-- There is a command after it.
pub record Onward (p : Program) (f : Frame) : Type 0 where
  pub item : Located
  pub next : Located
  pub more : Body
  pub found : rest p f ≡ item ∷ (next ∷ more)

-- A body has a first command, at offset 0.
pub record Begun (p : Program) (b : ℕ) : Type 0 where
  pub head : Located
  pub more : Body
  pub whole : get_or p b [] ≡ head ∷ more
  pub zero : head.offset ≡ 0

-- The frame after its command.
abbrev pub moved : Program → Frame → Frame
moved p f = record { offset = next_offset p f; body = f.body; runs = f.runs; first = f.first }

module _ (p : Program) (ok : Accepted p) where
  -- A frame's command stands in its body.
  pub stands : (f : Frame) (q : Placed p f) → Stands (length p) f.body (get_or p f.body []) f.offset q.item q.more
  unfolding rest
  stands f q = found ok f.body q.listed f.offset q.found

  -- What a command names lies after its own body.
  pub above_here : (f : Frame) → Placed p f → names (here p f).command ≡ true
      → (f.body < named (here p f).command) × (named (here p f).command < length p)
  unfolding here
  above_here f q = rw q.found (stands f q).sound.above

  -- After END a body has nothing left.
  pub last_here : (f : Frame) → Placed p f → is_end (here p f).command ≡ true → tail_of (rest p f) ≡ []
  unfolding here rest
  last_here f q e =
      let ends = subst (λ l. is_end (head_of l).command ≡ true) q.found e in
      ap tail_of q.found ∙ end_last ok f.body q.listed f.offset q.found ends

  -- After any other it has.
  pub onward : (f : Frame) → Placed p f → is_end (here p f).command ≡ false → Onward p f
  unfolding here rest
  onward f q e =
      let goes = subst (λ l. is_end (head_of l).command ≡ false) q.found e in
      let r = onward_goes (found_onward ok f.body q.listed f.offset q.found) goes in
      record { item = q.item; next = head_of q.more; more = tail_of q.more; found = q.found ∙ ap (λ r. q.item ∷ r) r }

  -- What is left there is what was left after the command.
  pub moved_rest : (f : Frame) → Placed p f → (o : Onward p f) → (g : Frame) → g.body ≡ f.body → g.offset ≡ next_offset p f → rest p g ≡ o.next ∷ o.more
  unfolding rest next_offset
  moved_rest f q o g b a =
      let at : g.offset ≡ o.next.offset = a ∙ ap (λ l. (head_of (tail_of l)).offset) o.found in
      rw (b, at ∙ next_offset_lem ok f.body q.listed f.offset o.found) (found ok f.body q.listed f.offset o.found).next

  -- The frame after its command stands on one.
  pub placed_on : (f : Frame) → Placed p f → Onward p f → Placed p (moved p f)
  placed_on f q o = record { listed = q.listed; item = o.next; more = o.more; found = moved_rest f q o (moved p f) refl refl }

  -- Each body of an accepted program has one.
  pub begin : (b : ℕ) → b < length p → Begun p b
  begin b l =
      record {
        head = head_of (get_or p b []);
        more = tail_of (get_or p b []);
        whole = shaped_some (length p) b (get_or p b []) (ok.shaped b l);
        zero = ok.first b l;
      }

  -- A body begun is left whole.
  pub begun_rest : (f : Frame) (b : Begun p f.body) → f.offset ≡ 0 → rest p f ≡ b.head ∷ b.more
  unfolding rest
  begun_rest f b e = rw (e, b.whole) (from_here b.head b.more 0 b.zero)

  -- A frame at offset 0 stands on its body's first command.
  pub placed_begun : (f : Frame) → f.body < length p → f.offset ≡ 0 → Placed p f
  placed_begun f l e = let b = begin f.body l in record { listed = l; item = b.head; more = b.more; found = begun_rest f b e }
