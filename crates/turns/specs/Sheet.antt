-- A row of the standing sheet.
use Rattle.std.specs.Prelude.{ℕ, List}
use Rattle.rules.specs.declared.state.Hold.{Hold}
use Rattle.rules.specs.Search.{list_from}
use Rattle.rules.specs.Steps.{registration_on}

-- "sixteen entries, by .. clock number"
abbrev pub row_of : List Hold → List ℕ
row_of hs = list_from 16 0 (λ c. registration_on c hs)
