-- The papers' numbers for the calls that are turned down, and answers that are a value or a refusal.
use Rattle.std.specs.Prelude.{ℕ, zero, suc, ◌-◌, [], ◌∷◌, get_or, Result, Ok, Err}
use Rattle.program.specs.declared.refusal.Refusal.{Refusal}
use Rattle.program.specs.declared.refusal.Refusal.TheVariants.{Size, Bodies, Unknown, Cut, Operand, Named, Atom, Surplus, Activities, Clocks, Accumulators, Work, State, Unspawned, Ended, Waits, Spent, Room, Buffer}

-- "Turned down, in checking order": 1 to 17; 18 is document 02's. 255 is said of lent buffers alone.
abbrev pub refusal_number : Refusal → ℕ
refusal_number Size = 1
refusal_number Bodies = 2
refusal_number Unknown = 3
refusal_number Cut = 4
refusal_number Operand = 5
refusal_number Named = 6
refusal_number Atom = 7
refusal_number Surplus = 8
refusal_number Activities = 9
refusal_number Clocks = 10
refusal_number Accumulators = 11
refusal_number Work = 12
refusal_number State = 13
refusal_number Unspawned = 14
refusal_number Ended = 15
refusal_number Waits = 16
refusal_number Spent = 17
refusal_number Room = 18
refusal_number Buffer = 255

-- The refusal of a number 1 to 18. No call asks for that of another number.
abbrev pub refusal_at : ℕ → Refusal
refusal_at n = get_or (Size ∷ Bodies ∷ Unknown ∷ Cut ∷ Operand ∷ Named ∷ Atom ∷ Surplus ∷ Activities ∷ Clocks ∷ Accumulators ∷ Work ∷ State ∷ Unspawned ∷ Ended ∷ Waits ∷ Spent ∷ Room ∷ []) (n - 1) Buffer

-- The number of an answer, 0 where it is a value.
abbrev pub told : {A : Type 0} → Result A Refusal → ℕ
told (Ok x) = 0
told (Err e) = refusal_number e

-- The answer of a call that is turned down by a number, or has a value where the number is 0.
abbrev pub answered : {A : Type 0} → ℕ → A → Result A Refusal
answered zero x = Ok x
answered (suc n) x = Err (refusal_at (suc n))
