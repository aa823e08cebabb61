-- The commands, as document 01 lists them under "The table", and document 02's CHOOSE: each is a row of one table.
use Rattle.std.specs.Prelude.{ℕ, ◌+◌, ◌*◌, ◌/◌, ◌%◌, List, [], ◌∷◌, Bool, true, false, cond, ◌||◌, ◌&&◌, length, get_or, ltb, leb, eqb}
use Rattle.program.specs.declared.command.Command.{Command}
use Rattle.program.specs.declared.command.Command.TheVariants.{End, Next, Clock, Resume, Drop, Async, Finish, Repeat, Acc, Offer, Read, Reset, Put, Fetch, Store, Add, Atom, Choose}

-- "Operands: c, a clock name 0 to 7; a, an accumulator name 0 to 7; m, a mask byte whose bit i means clock name i; b, a body; n, 0 to 255;
-- k, 1 to 8; d, a cell 0 to 15; v, four bytes, lowest first. All others are one byte." o is 0, 1 or 2. v is four operand bytes here.
pub data Operand : Type 0 where
  clockName accumulatorName operatorCode mask bodyNumber runCount commandCount cellNumber valueByte : Operand

-- "5. A c, a, o, d or k is outside its range." (b is tried apart, as number 6.)
abbrev pub inside : Operand → ℕ → Bool
inside clockName x = ltb x 8
inside accumulatorName x = ltb x 8
inside operatorCode x = ltb x 3
inside mask x = true
inside bodyNumber x = true
inside runCount x = true
inside commandCount x = leb 1 x && leb x 8
inside cellNumber x = ltb x 16
inside valueByte x = true

-- What a command's bytes are after the first, and what it counts by itself.
pub record Row : Type 0 where
  pub operands : List Operand
  pub work : ℕ
  pub activities : ℕ
  pub clocks : ℕ
  pub accumulators : ℕ

abbrev row : List Operand → ℕ → ℕ → ℕ → ℕ → Row
row operands work activities clocks accumulators = record { operands = operands; work = work; activities = activities; clocks = clocks; accumulators = accumulators }

-- A row for each command byte from 00 on. "Work of a body: END 1; NEXT 2; FINISH and ASYNC 1 plus the work of b; REPEAT 1 plus n times that of b;
-- ATOM 1 together with its k commands; others 1. Activities (plus one for main), clocks and accumulators are counted likewise." Of CHOOSE, document 02: "Its work is 1
-- plus the work of b".
unfoldable pub rows : List Row
rows =
    row [] 1 0 0 0  -- 00 END
    ∷ row [] 2 0 0 0  -- 01 NEXT
    ∷ row (clockName ∷ []) 1 0 1 0  -- 02 CLOCK c
    ∷ row (clockName ∷ []) 1 0 0 0  -- 03 RESUME c
    ∷ row (clockName ∷ []) 1 0 0 0  -- 04 DROP c
    ∷ row (bodyNumber ∷ mask ∷ []) 1 1 0 0  -- 05 ASYNC b m
    ∷ row (bodyNumber ∷ []) 1 0 0 0  -- 06 FINISH b
    ∷ row (runCount ∷ bodyNumber ∷ []) 1 0 0 0  -- 07 REPEAT n b
    ∷ row (accumulatorName ∷ operatorCode ∷ []) 1 0 0 1  -- 08 ACC a o
    ∷ row (accumulatorName ∷ []) 1 0 0 0  -- 09 OFFER a
    ∷ row (accumulatorName ∷ []) 1 0 0 0  -- 0A READ a
    ∷ row (accumulatorName ∷ []) 1 0 0 0  -- 0B RESET a
    ∷ row (valueByte ∷ valueByte ∷ valueByte ∷ valueByte ∷ []) 1 0 0 0  -- 0C PUT v
    ∷ row (cellNumber ∷ []) 1 0 0 0  -- 0D FETCH d
    ∷ row (cellNumber ∷ []) 1 0 0 0  -- 0E STORE d
    ∷ row (cellNumber ∷ []) 1 0 0 0  -- 0F ADD d
    ∷ row (commandCount ∷ []) 1 0 0 0  -- 10 ATOM k
    ∷ row (bodyNumber ∷ []) 1 0 0 0  -- 11 CHOOSE b
    ∷ []

-- The row of a command byte.
unfoldable pub row_at : ℕ → Row
row_at op = get_or rows op (row [] 0 0 0 0)

-- The bytes of a command byte and its operands. A byte that is no command stands alone.
unfoldable pub width_at : ℕ → ℕ
width_at op = length (row_at op).operands + 1

-- A command's byte.
abbrev pub opcode : Command → ℕ
opcode End = 0x00
opcode Next = 0x01
opcode (Clock c) = 0x02
opcode (Resume c) = 0x03
opcode (Drop c) = 0x04
opcode (Async b m) = 0x05
opcode (Finish b) = 0x06
opcode (Repeat n b) = 0x07
opcode (Acc a o) = 0x08
opcode (Offer a) = 0x09
opcode (Read a) = 0x0A
opcode (Reset a) = 0x0B
opcode (Put v) = 0x0C
opcode (Fetch d) = 0x0D
opcode (Store d) = 0x0E
opcode (Add d) = 0x0F
opcode (Atom k) = 0x10
opcode (Choose b) = 0x11

-- A command's operand bytes, in the order of the table.
abbrev pub operands_of : Command → List ℕ
operands_of End = []
operands_of Next = []
operands_of (Clock c) = c ∷ []
operands_of (Resume c) = c ∷ []
operands_of (Drop c) = c ∷ []
operands_of (Async b m) = b ∷ m ∷ []
operands_of (Finish b) = b ∷ []
operands_of (Repeat n b) = n ∷ b ∷ []
operands_of (Acc a o) = a ∷ o ∷ []
operands_of (Offer a) = a ∷ []
operands_of (Read a) = a ∷ []
operands_of (Reset a) = a ∷ []
operands_of (Put v) = v % 256 ∷ v / 256 % 256 ∷ v / 65536 % 256 ∷ v / 16777216 % 256 ∷ []
operands_of (Fetch d) = d ∷ []
operands_of (Store d) = d ∷ []
operands_of (Add d) = d ∷ []
operands_of (Atom k) = k ∷ []
operands_of (Choose b) = b ∷ []

-- The first four of a list, 0 for those that it lacks.
abbrev pub padded : List ℕ → List ℕ
padded s = get_or s 0 0 ∷ get_or s 1 0 ∷ get_or s 2 0 ∷ get_or s 3 0 ∷ []

-- Four bytes, lowest first.
abbrev pub word : List ℕ → ℕ
word s = get_or s 0 0 + 256 * get_or s 1 0 + 65536 * get_or s 2 0 + 16777216 * get_or s 3 0

-- The command of a byte whose operands stand at the start of a list.
unfoldable pub command_of : ℕ → List ℕ → Command
command_of op s =
    let x = get_or s 0 0 in
    let y = get_or s 1 0 in
    get_or
    (End
    ∷ Next
    ∷ Clock x
    ∷ Resume x
    ∷ Drop x
    ∷ Async x y
    ∷ Finish x
    ∷ Repeat x y
    ∷ Acc x y
    ∷ Offer x
    ∷ Read x
    ∷ Reset x
    ∷ Put (word s)
    ∷ Fetch x
    ∷ Store x
    ∷ Add x
    ∷ Atom x
    ∷ Choose x
    ∷ [])
    op
    End

-- WHAT A COMMAND'S ROW SAYS OF IT

unfoldable pub row_of : Command → Row
row_of c = row_at (opcode c)

-- The bytes of a command, its first one included.
unfoldable pub width : Command → ℕ
width c = length (row_of c).operands + 1

abbrev pub is_body : Operand → Bool
is_body clockName = false
is_body accumulatorName = false
is_body operatorCode = false
is_body mask = false
is_body bodyNumber = true
is_body runCount = false
is_body commandCount = false
is_body cellNumber = false
is_body valueByte = false

abbrev pub is_run_count : Operand → Bool
is_run_count clockName = false
is_run_count accumulatorName = false
is_run_count operatorCode = false
is_run_count mask = false
is_run_count bodyNumber = false
is_run_count runCount = true
is_run_count commandCount = false
is_run_count cellNumber = false
is_run_count valueByte = false

abbrev pub is_command_count : Operand → Bool
is_command_count clockName = false
is_command_count accumulatorName = false
is_command_count operatorCode = false
is_command_count mask = false
is_command_count bodyNumber = false
is_command_count runCount = false
is_command_count commandCount = true
is_command_count cellNumber = false
is_command_count valueByte = false

-- The operand whose kind passes the test, or the number given where none does.
abbrev pub operand_where : (Operand → Bool) → ℕ → List Operand → List ℕ → ℕ
operand_where test default [] values = default
operand_where test default (kind ∷ kinds) [] = default
operand_where test default (kind ∷ kinds) (x ∷ values) = cond (test kind) x (operand_where test default kinds values)

abbrev pub has : (Operand → Bool) → List Operand → Bool
has test [] = false
has test (kind ∷ kinds) = test kind || has test kinds

-- Whether a command names a body; which; and how often the counts take it: FINISH, ASYNC and CHOOSE once, REPEAT n times.
unfoldable pub names : Command → Bool
names c = has is_body (row_of c).operands

unfoldable pub named : Command → ℕ
named c = operand_where is_body 0 (row_of c).operands (operands_of c)

unfoldable pub times : Command → ℕ
times c = cond (names c) (operand_where is_run_count 1 (row_of c).operands (operands_of c)) 0

-- How many of the commands that follow belong to a command: the k of ATOM.
unfoldable pub held : Command → ℕ
held c = operand_where is_command_count 0 (row_of c).operands (operands_of c)

-- "each body .. ends with its first END"
unfoldable pub is_end : Command → Bool
is_end c = eqb (opcode c) 0x00

-- "the next k commands, all 0D to 0F"
unfoldable pub uses_cell : Command → Bool
uses_cell c = leb 0x0D (opcode c) && leb (opcode c) 0x0F
