use Rattle.std.proofs.Common.{◌≡◌, true, rules}
use Rattle.std.specs.List.{list_all}
use Rattle.icu_rule_parser.specs.Imports.{has_no_import}
use Rattle.icu_rule_parser.proofs.ImportLemmas.{resolve_none}
use Rattle.icu_rule_parser.proofs.rules.Rules.resolve.Goals as goal

pub returns-in-None-clause-resolved : goal.returns-in-None-clause-resolved
returns-in-None-clause-resolved g c =
    let none : list_all has_no_import c.loop.statements.items ≡ true = search rules in
    c.loop.invariant c.loop.statements.items (resolve_none c.loop.statements.items none)
