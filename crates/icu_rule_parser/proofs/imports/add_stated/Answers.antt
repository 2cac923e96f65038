use Rattle.std.proofs.lemmas.Result.{on_ok_weaker}
use Rattle.icu_rule_parser.proofs.ImportLemmas.{adds_imported}
use Rattle.icu_rule_parser.proofs.imports.add_stated.Goals as goal

pub returns-in_ok-rules-in-Import : goal.returns-in_ok-rules-in-Import
returns-in_ok-rules-in-Import g c =
    on_ok_weaker c.add_led.result
    (adds_imported c.args.placed c.in-Import.tag c.as_str.result.now c.outermost.result
    c.in_ok-rules-in-Import.rules.statements.items c.args.statements.now.items c.add_led.new.statements.items
    c.in-Import.is c.as_str.ensures.value c.outermost.ensures c.in_ok-rules-in-Import.ensures)
    c.add_led.ensures
