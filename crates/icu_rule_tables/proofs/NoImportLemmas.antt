-- Where no rules come from, what is resolved had no import.
use Rattle.std.proofs.Common.{◌≡◌, List, ◌∷◌, refl, ap}
use Rattle.icu_rule_parser.specs.declared.rules.PlacedStatement.{PlacedStatement}
use Rattle.icu_rule_parser.specs.Imports.{Resolve, nothing, own, imported}
use Rattle.icu_rule_tables.specs.inner.NoImports.{have_none}

pub same_resolved : {stated all : List PlacedStatement} → Resolve have_none stated all → stated ≡ all
same_resolved nothing = refl
same_resolved (own {placed = placed} is more) = ap (λ rest. placed ∷ rest) (same_resolved more)
same_resolved (imported inner all are first more is) = absurd are.found
