-- The texts that the walk prints, as bytes.
use Rattle.std.specs.Prelude.{ℕ, zero, suc, ◌+◌, ◌/◌, ◌%◌, cond, List, [], ◌∷◌, ◌++◌, ltb, eqb}

-- The last decimal digit of a number, in ASCII.
abbrev pub last_digit : ℕ → ℕ
last_digit n = 48 + n % 10

-- The decimal digits of a number below 10 to the power of the first argument.
unfoldable pub digits_of : ℕ → ℕ → List ℕ
digits_of zero n = []
digits_of (suc k) n = cond (ltb n 10) (last_digit n ∷ []) (digits_of k (n / 10) ++ (last_digit n ∷ []))

-- A number has no more digits than the number after it says.
unfoldable pub decimal_of : ℕ → List ℕ
decimal_of n = digits_of (suc n) n

-- A number and the byte behind it.
abbrev pub field_of : ℕ → ℕ → List ℕ
field_of n end = decimal_of n ++ (end ∷ [])

-- A name and the number behind it.
abbrev pub named_of : List ℕ → ℕ → List ℕ
named_of name n = name ++ decimal_of n

-- "line act answer taken"
abbrev pub header_of : List ℕ
header_of = 108 ∷ 105 ∷ 110 ∷ 101 ∷ 32 ∷ 97 ∷ 99 ∷ 116 ∷ 32 ∷ 97 ∷ 110 ∷ 115 ∷ 119 ∷ 101 ∷ 114 ∷ 32 ∷ 116 ∷ 97 ∷ 107 ∷ 101 ∷ 110 ∷ 10 ∷ []

-- "a walk line with 16 now ends with a blank and this number": how many activities that activity waits for.
unfoldable pub awaited_of : ℕ → ℕ → List ℕ
awaited_of answer awaited = cond (eqb answer 16) (32 ∷ decimal_of awaited) []

-- A line for a byte of the order: blanks between the numbers, and byte 0A.
unfoldable pub line_of : ℕ → ℕ → ℕ → ℕ → ℕ → List ℕ
line_of line act answer taken awaited =
    field_of line 32 ++ field_of act 32 ++ field_of answer 32 ++ decimal_of taken ++ awaited_of answer awaited ++ (10 ∷ [])

-- "work ", " taken ", " ended ", " of " and "table "
abbrev pub work_name : List ℕ
work_name = 119 ∷ 111 ∷ 114 ∷ 107 ∷ 32 ∷ []

abbrev pub taken_name : List ℕ
taken_name = 32 ∷ 116 ∷ 97 ∷ 107 ∷ 101 ∷ 110 ∷ 32 ∷ []

abbrev pub ended_name : List ℕ
ended_name = 32 ∷ 101 ∷ 110 ∷ 100 ∷ 101 ∷ 100 ∷ 32 ∷ []

abbrev pub of_name : List ℕ
of_name = 32 ∷ 111 ∷ 102 ∷ 32 ∷ []

abbrev pub table_name : List ℕ
table_name = 116 ∷ 97 ∷ 98 ∷ 108 ∷ 101 ∷ 32 ∷ []

-- The total: the work, the steps taken, the activities ended and the activities spawned.
unfoldable pub total_of : ℕ → ℕ → ℕ → ℕ → List ℕ
total_of work taken ended spawned = named_of work_name work ++ named_of taken_name taken ++ named_of ended_name ended ++ named_of of_name spawned ++ (10 ∷ [])

-- The one line of a table that is turned down.
unfoldable pub refused_of : ℕ → List ℕ
refused_of number = named_of table_name number ++ (10 ∷ [])
