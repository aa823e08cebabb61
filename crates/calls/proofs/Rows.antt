-- The loop that writes the rows of the standing sheet.
use Prim.Native.Nat.{ℕ, ◌+◌, ◌-◌, ◌*◌, ◌≤◌, ◌<◌}
use native.Mathlib.Omega.{arith}
use mathlib.Core.Path.{◌≡◌, refl, sym, ◌∙◌}
use mathlib.Core.List.{List, []}
use lib.ListN.{length, take, drop}
use borrow.Rule.Slice.PartMut.{put_mid}
use Rattle.rules.specs.declared.state.Activity.{Activity}
use Rattle.rules.specs.declared.state.State.{State}
use Rattle.rules.specs.Steps.{sheet_of}
use Rattle.encoding.proofs.FieldLaws.{put}
use Rattle.encoding.proofs.PartLaws.{turn, turn_fits, Each, write_none, write_more, write_done}
use Rattle.fields.specs.Lent.{Lent, ReadsAct}
use Rattle.turns.specs.Sheet.{row_of}
use Rattle.turns.proofs.Sheets.{sheet_size, sheet_at}
use Rattle.calls.specs.Calls.{row_bytes}
use Rattle.calls.specs.Sheet.{Tells}

-- The first i rows are written.
pub record Rowed (b c : List ℕ) (i : ℕ) : Type 0 where
  pub within : i ≤ 64
  pub sized : length c ≡ 1024
  pub rows : (s : State) → Lent b s → Each row_bytes (sheet_of s) 16 64 i c

module _ {b c : List ℕ} where
  -- none yet
  pub rowed_none : length c ≡ 1024 → Rowed b c 0
  rowed_none h = record { within = omega arith; sized = h; rows = λ s l. write_none row_bytes (sheet_of s) 16 64 c h }

  module _ {i : ℕ} (x : Rowed b c i) where
    -- one row more
    pub rowed_more : {row e : List ℕ} → i < 64 → ReadsAct (λ (a : Activity). row_of a.holds) b i row → length e ≡ length (take (16 * i + 16 - 16 * i) (drop (16 * i) c)) → e ≡ row_bytes row
        → Rowed b (put_mid (16 * i) (16 * i + 16 - 16 * i) c e) (i + 1)
    rowed_more {row} {e} h r w v =
        record {
          within = omega arith;
          sized = (put {l = c} {p = take (16 * i) c} {n = 16 * 64} {at = 16 * i} 16 _ e e (record { full = x.sized; done = refl }) (turn_fits 16 h) (turn 16 i) w refl).full;
          rows = λ s l. write_more row_bytes (sheet_of s) 16 64 i [] c e (x.rows s l) (sheet_size s) h w (v ∙ r.reads s l h ∙ sym (sheet_at s i [] h));
        }

    -- all
    pub rowed_all : 64 ≤ i → Tells b c
    rowed_all h = record { tells = λ s l. write_done row_bytes (sheet_of s) 16 64 i c (x.rows s l) (sheet_size s) h }
