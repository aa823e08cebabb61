-- Cases: lists of commands and the buffers that they leave, tables and the entries that they leave.
use Rattle.std.specs.Prelude.{ℕ, List, [], ◌∷◌, ◌++◌, Bool, true, ◌&&◌, length, replicate, eqb}
use Rattle.program.specs.Same.{same_list, same_lists}
use Rattle.builder.specs.Build.{built_number, built_length, built_bytes, listed_number, listed_count, listed_entries}

-- A list and a lent buffer; the number, the length, and the whole buffer after it.
pub record Build : Type 0 where
  pub entries : List (List ℕ)
  pub buffer : List ℕ
  pub number : ℕ
  pub size : ℕ
  pub after : List ℕ

unfoldable pub builds : Build → Bool
builds c =
    eqb (built_number c.entries (length c.buffer)) c.number
    && (eqb (built_length c.entries (length c.buffer)) c.size && same_list (built_bytes c.entries c.buffer) c.after)

unfoldable pub all_build : List Build → Bool
all_build [] = true
all_build (c ∷ cs) = let r = all_build cs in builds c && r

-- A table and lent entries; the number, the count, and all entries after it.
pub record Listing : Type 0 where
  pub table : List ℕ
  pub entries : List (List ℕ)
  pub number : ℕ
  pub count : ℕ
  pub after : List (List ℕ)

unfoldable pub lists : Listing → Bool
lists c =
    eqb (listed_number c.table (length c.entries)) c.number
    && (eqb (listed_count c.table (length c.entries)) c.count && same_lists (listed_entries c.table c.entries) c.after)

unfoldable pub all_list : List Listing → Bool
all_list [] = true
all_list (c ∷ cs) = let r = all_list cs in lists c && r

-- ENTRIES

-- A command with no operand, one, two and four, and other bytes past them.
abbrev alone : ℕ → List ℕ
alone op = op ∷ 0xE1 ∷ 0xE2 ∷ 0xE3 ∷ 0xE4 ∷ []

abbrev one : ℕ → ℕ → List ℕ
one op x = op ∷ x ∷ 0xE2 ∷ 0xE3 ∷ 0xE4 ∷ []

abbrev two : ℕ → ℕ → ℕ → List ℕ
two op x y = op ∷ x ∷ y ∷ 0xE3 ∷ 0xE4 ∷ []

abbrev end : List ℕ
end = alone 0x00

abbrev next : List ℕ
next = alone 0x01

-- The table that document 01 prints.
abbrev walk_entries : List (List ℕ)
walk_entries = one 0x02 0x00 ∷ two 0x05 0x01 0x01 ∷ next ∷ end ∷ next ∷ end ∷ []

abbrev walk_table : List ℕ
walk_table = 0x02 ∷ 0x02 ∷ 0x00 ∷ 0x05 ∷ 0x01 ∷ 0x01 ∷ 0x01 ∷ 0x00 ∷ 0x01 ∷ 0x00 ∷ []

-- Every command, in three bodies.
abbrev every_entry : List (List ℕ)
every_entry =
    one 0x02 0x07
    ∷ one 0x02 0x03
    ∷ one 0x03 0x07
    ∷ next
    ∷ two 0x08 0x05 0x02
    ∷ one 0x09 0x05
    ∷ one 0x0B 0x05
    ∷ one 0x0A 0x06
    ∷ (0x0C ∷ 0x11 ∷ 0x22 ∷ 0x83 ∷ 0xF4 ∷ [])
    ∷ one 0x0E 0x0F
    ∷ one 0x0D 0x0E
    ∷ one 0x0F 0x0D
    ∷ one 0x10 0x02
    ∷ one 0x0D 0x09
    ∷ one 0x0F 0x08
    ∷ two 0x05 0x02 0x88
    ∷ one 0x06 0x01
    ∷ two 0x07 0x03 0x02
    ∷ one 0x04 0x03
    ∷ one 0x11 0x01
    ∷ end
    ∷ end
    ∷ next
    ∷ end
    ∷ []

abbrev every_table : List ℕ
every_table =
    0x03
    ∷ 0x02 ∷ 0x07
    ∷ 0x02 ∷ 0x03
    ∷ 0x03 ∷ 0x07
    ∷ 0x01
    ∷ 0x08 ∷ 0x05 ∷ 0x02
    ∷ 0x09 ∷ 0x05
    ∷ 0x0B ∷ 0x05
    ∷ 0x0A ∷ 0x06
    ∷ 0x0C ∷ 0x11 ∷ 0x22 ∷ 0x83 ∷ 0xF4
    ∷ 0x0E ∷ 0x0F
    ∷ 0x0D ∷ 0x0E
    ∷ 0x0F ∷ 0x0D
    ∷ 0x10 ∷ 0x02
    ∷ 0x0D ∷ 0x09
    ∷ 0x0F ∷ 0x08
    ∷ 0x05 ∷ 0x02 ∷ 0x88
    ∷ 0x06 ∷ 0x01
    ∷ 0x07 ∷ 0x03 ∷ 0x02
    ∷ 0x04 ∷ 0x03
    ∷ 0x11 ∷ 0x01
    ∷ 0x00
    ∷ 0x00
    ∷ 0x01
    ∷ 0x00
    ∷ []

-- BUILD

abbrev accepted : List (List ℕ) → List ℕ → ℕ → List ℕ → Build
accepted entries buffer size after = record { entries = entries; buffer = buffer; number = 0; size = size; after = after }

-- Turned away: the buffer keeps its contents.
abbrev turned_away : List (List ℕ) → List ℕ → ℕ → Build
turned_away entries buffer number = record { entries = entries; buffer = buffer; number = number; size = 0; after = buffer }

-- By a number of the reader, in seven bytes: enough for some of the lists.
abbrev refused : List (List ℕ) → ℕ → Build
refused entries number = turned_away entries (0xA1 ∷ 0xA2 ∷ 0xA3 ∷ 0xA4 ∷ 0xA5 ∷ 0xA6 ∷ 0xA7 ∷ []) number

-- Work of 65,282, and 1 for each FETCH.
abbrev working : ℕ → List (List ℕ)
working fetches = two 0x07 0xFF 0x01 ∷ replicate fetches (one 0x0D 0x0F) ++ (end ∷ two 0x07 0xFE 0x02 ∷ end ∷ end ∷ [])

unfoldable pub built : List Build
built =
    accepted walk_entries (replicate 12 0xA5) 10 (walk_table ++ (0xA5 ∷ 0xA5 ∷ []))
    ∷ accepted walk_entries (replicate 10 0xA5) 10 walk_table
    ∷ turned_away walk_entries (replicate 9 0xA5) 18
    ∷ turned_away walk_entries [] 18
    ∷ accepted every_entry (replicate 60 0x5A) 50 (every_table ++ replicate 10 0x5A)
    ∷ accepted (end ∷ []) (0xA1 ∷ 0xA2 ∷ 0xA3 ∷ []) 2 (0x01 ∷ 0x00 ∷ 0xA3 ∷ [])
    ∷ refused [] 1
    ∷ refused (replicate 2047 next ++ (end ∷ [])) 1
    ∷ refused (replicate 2048 end) 1
    ∷ refused (replicate 17 end) 2
    ∷ refused (replicate 300 end) 2
    ∷ refused (next ∷ []) 2
    ∷ refused (alone 0x20 ∷ []) 2
    ∷ refused (alone 0x20 ∷ end ∷ []) 3
    ∷ refused (alone 0x12 ∷ end ∷ []) 3
    ∷ refused (one 0x11 0x00 ∷ end ∷ []) 6
    ∷ refused (one 0x10 0x01 ∷ one 0x11 0x01 ∷ end ∷ end ∷ []) 7
    ∷ refused (one 0x10 0x02 ∷ alone 0xFF ∷ end ∷ []) 3
    ∷ refused (one 0x02 0x08 ∷ end ∷ []) 5
    ∷ turned_away (one 0x02 0x08 ∷ end ∷ []) [] 5
    ∷ refused (one 0x0D 0x10 ∷ one 0x02 0x08 ∷ end ∷ []) 5
    ∷ refused (one 0x06 0x00 ∷ end ∷ []) 6
    ∷ refused (one 0x06 0x02 ∷ end ∷ end ∷ []) 6
    ∷ refused (one 0x10 0x01 ∷ next ∷ end ∷ []) 7
    ∷ refused (one 0x10 0x01 ∷ end ∷ end ∷ []) 7
    ∷ refused (end ∷ next ∷ []) 8
    ∷ refused (end ∷ alone 0x20 ∷ []) 8
    ∷ refused (two 0x07 0x40 0x01 ∷ end ∷ two 0x05 0x02 0x00 ∷ end ∷ end ∷ []) 9
    ∷ refused (two 0x07 0x11 0x01 ∷ end ∷ one 0x02 0x07 ∷ end ∷ []) 10
    ∷ refused (two 0x07 0x11 0x01 ∷ end ∷ two 0x08 0x07 0x02 ∷ end ∷ []) 11
    ∷ refused (working 254) 12
    ∷ turned_away (working 253) [] 18
    ∷ []

-- The longest table, 2,048 bytes.
unfoldable pub longest : Build
longest = accepted (replicate 2046 next ++ (end ∷ [])) (replicate 2049 0xA5) 2048 (0x01 ∷ replicate 2046 0x01 ++ (0x00 ∷ 0xA5 ∷ []))

-- LIST

-- The entries of the two tables, 0 in the bytes that a command lacks.
abbrev walk_listed : List (List ℕ)
walk_listed =
    (0x02 ∷ 0x00 ∷ 0 ∷ 0 ∷ 0 ∷ [])
    ∷ (0x05 ∷ 0x01 ∷ 0x01 ∷ 0 ∷ 0 ∷ [])
    ∷ (0x01 ∷ 0 ∷ 0 ∷ 0 ∷ 0 ∷ [])
    ∷ (0x00 ∷ 0 ∷ 0 ∷ 0 ∷ 0 ∷ [])
    ∷ (0x01 ∷ 0 ∷ 0 ∷ 0 ∷ 0 ∷ [])
    ∷ (0x00 ∷ 0 ∷ 0 ∷ 0 ∷ 0 ∷ [])
    ∷ []

abbrev every_listed : List (List ℕ)
every_listed =
    (0x02 ∷ 0x07 ∷ 0 ∷ 0 ∷ 0 ∷ [])
    ∷ (0x02 ∷ 0x03 ∷ 0 ∷ 0 ∷ 0 ∷ [])
    ∷ (0x03 ∷ 0x07 ∷ 0 ∷ 0 ∷ 0 ∷ [])
    ∷ (0x01 ∷ 0 ∷ 0 ∷ 0 ∷ 0 ∷ [])
    ∷ (0x08 ∷ 0x05 ∷ 0x02 ∷ 0 ∷ 0 ∷ [])
    ∷ (0x09 ∷ 0x05 ∷ 0 ∷ 0 ∷ 0 ∷ [])
    ∷ (0x0B ∷ 0x05 ∷ 0 ∷ 0 ∷ 0 ∷ [])
    ∷ (0x0A ∷ 0x06 ∷ 0 ∷ 0 ∷ 0 ∷ [])
    ∷ (0x0C ∷ 0x11 ∷ 0x22 ∷ 0x83 ∷ 0xF4 ∷ [])
    ∷ (0x0E ∷ 0x0F ∷ 0 ∷ 0 ∷ 0 ∷ [])
    ∷ (0x0D ∷ 0x0E ∷ 0 ∷ 0 ∷ 0 ∷ [])
    ∷ (0x0F ∷ 0x0D ∷ 0 ∷ 0 ∷ 0 ∷ [])
    ∷ (0x10 ∷ 0x02 ∷ 0 ∷ 0 ∷ 0 ∷ [])
    ∷ (0x0D ∷ 0x09 ∷ 0 ∷ 0 ∷ 0 ∷ [])
    ∷ (0x0F ∷ 0x08 ∷ 0 ∷ 0 ∷ 0 ∷ [])
    ∷ (0x05 ∷ 0x02 ∷ 0x88 ∷ 0 ∷ 0 ∷ [])
    ∷ (0x06 ∷ 0x01 ∷ 0 ∷ 0 ∷ 0 ∷ [])
    ∷ (0x07 ∷ 0x03 ∷ 0x02 ∷ 0 ∷ 0 ∷ [])
    ∷ (0x04 ∷ 0x03 ∷ 0 ∷ 0 ∷ 0 ∷ [])
    ∷ (0x11 ∷ 0x01 ∷ 0 ∷ 0 ∷ 0 ∷ [])
    ∷ (0x00 ∷ 0 ∷ 0 ∷ 0 ∷ 0 ∷ [])
    ∷ (0x00 ∷ 0 ∷ 0 ∷ 0 ∷ 0 ∷ [])
    ∷ (0x01 ∷ 0 ∷ 0 ∷ 0 ∷ 0 ∷ [])
    ∷ (0x00 ∷ 0 ∷ 0 ∷ 0 ∷ 0 ∷ [])
    ∷ []

abbrev listed_as : List ℕ → List (List ℕ) → ℕ → List (List ℕ) → Listing
listed_as table entries count after = record { table = table; entries = entries; number = 0; count = count; after = after }

abbrev unlisted : List ℕ → List (List ℕ) → ℕ → Listing
unlisted table entries number = record { table = table; entries = entries; number = number; count = 0; after = entries }

unfoldable pub listed : List Listing
listed =
    listed_as walk_table (replicate 8 (alone 0xA5)) 6 (walk_listed ++ replicate 2 (alone 0xA5))
    ∷ listed_as walk_table (replicate 6 (alone 0xA5)) 6 walk_listed
    ∷ unlisted walk_table (replicate 5 (alone 0xA5)) 18
    ∷ unlisted walk_table [] 18
    ∷ listed_as every_table (replicate 25 (alone 0x5A)) 24 (every_listed ++ (alone 0x5A ∷ []))
    ∷ unlisted [] (replicate 3 (alone 0xA5)) 1
    ∷ unlisted (0x00 ∷ 0x00 ∷ []) (replicate 3 (alone 0xA5)) 2
    ∷ unlisted (0x01 ∷ 0x12 ∷ []) [] 3
    ∷ unlisted (0x01 ∷ 0x11 ∷ []) [] 4
    ∷ unlisted (0x01 ∷ 0x01 ∷ []) (replicate 3 (alone 0xA5)) 4
    ∷ unlisted (0x01 ∷ 0x00 ∷ 0x00 ∷ []) [] 8
    ∷ unlisted (0x03 ∷ 0x07 ∷ 0xFF ∷ 0x01 ∷ 0x00 ∷ 0x07 ∷ 0xFF ∷ 0x02 ∷ 0x00 ∷ 0x00 ∷ []) (replicate 9 (alone 0xA5)) 12
    ∷ unlisted (0x03 ∷ 0x07 ∷ 0xFF ∷ 0x01 ∷ 0x00 ∷ 0x07 ∷ 0xFE ∷ 0x02 ∷ 0x00 ∷ 0x00 ∷ []) [] 18
    ∷ []
