-- The walk that document 01 prints, computed from the rules.
use mathlib.Core.Path.{◌≡◌, refl}
use Rattle.rules.specs.Cases.{walk_table, walk_order}
use Rattle.rules.proofs.Opened.{rules_opened}
use Rattle.lines.specs.Text.{digits_of, decimal_of, awaited_of, line_of, total_of}
use Rattle.lines.proofs.Example.{bytes}
use Rattle.walk.specs.Walked.{lines_of, total_in, walked}

printed : walked walk_table walk_order ≡ bytes
unfolding walked lines_of total_in bytes digits_of decimal_of awaited_of line_of total_of rules_opened
printed = refl
