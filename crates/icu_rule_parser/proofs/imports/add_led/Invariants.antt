use Rattle.std.proofs.Common.{◌≡◌, ◌++◌, map}
use Rattle.icu_rule_parser.specs.Imports.{led_by}
use Rattle.icu_rule_parser.proofs.imports.add_led.Given as goal

-- those so far are added
abbrev pub invariant-loop-placed : goal.invariant-loop-placed
invariant-loop-placed l = l.statements.items ≡ l.fn.statements.items ++ map (led_by l.led) l.yielded
