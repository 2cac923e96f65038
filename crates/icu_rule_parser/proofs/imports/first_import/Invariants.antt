use Rattle.std.proofs.Common.{IsTrue, drop}
use Rattle.std.specs.List.{list_all}
use Rattle.icu_rule_parser.specs.Imports.{has_no_import}
use Rattle.icu_rule_parser.proofs.imports.first_import.Given as goal

-- if none of what is left is an import, none is
abbrev pub invariant-loop-placed : goal.invariant-loop-placed
invariant-loop-placed l = IsTrue (list_all has_no_import (drop l.placed-index l.statements))
    → IsTrue (list_all has_no_import l.statements)
