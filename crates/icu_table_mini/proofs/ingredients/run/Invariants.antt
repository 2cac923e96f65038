-- The numbers as far as they have come.
use Rattle.std.proofs.Common.{◌≡◌}
use Rattle.icu_table_mini.specs.Characters.{run}
use Rattle.icu_table_mini.proofs.ingredients.run.Given as goal

abbrev pub invariant-loop-i : goal.invariant-loop-i
invariant-loop-i l = l.numbers.items ≡ run l.first l.step l.i
