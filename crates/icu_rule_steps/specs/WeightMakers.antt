-- The statements by which tailored weights are made.
use Rattle.std.specs.Prelude.{ℕ, nat_lt, if◌then◌else◌, List, [], ◌∷◌, Option, Some, None}
use Rattle.icu_rule_parser.specs.declared.rules.PlacedStatement.{PlacedStatement}
use Rattle.icu_rule_meaning.specs.Rules.{statement_rules}
use Rattle.icu_rule_meaning.specs.TailoredRoots.{Root}
use Rattle.icu_rule_meaning.specs.Steps.{TailoringState, state_after}
use Rattle.icu_rule_steps.specs.declared.statement_place.StatementPlace.{StatementPlace}

-- where a statement stands
abbrev pub statement_place : PlacedStatement → StatementPlace
statement_place placed = record { place = placed.place; import = placed.import }

-- Where the statement stands that makes a weight, by how many are made before it: the first one after which more were
-- made.
unfoldable pub maker_of : Root → ℕ → TailoringState → List PlacedStatement → Option StatementPlace
maker_of root weight state [] = None
maker_of root weight state (placed ∷ statements) =
    let after = state_after root state (statement_rules placed.statement) in
    if nat_lt weight after.made then Some (statement_place placed) else maker_of root weight after statements
