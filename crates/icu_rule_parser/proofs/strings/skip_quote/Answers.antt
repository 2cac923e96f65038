use Rattle.icu_rule_parser.proofs.StringLemmas.{characters_quote, no_quote_from}
use Rattle.icu_rule_parser.proofs.strings.skip_quote.Goals as goal

pub returns-in-None-clause-taken : goal.returns-in-None-clause-taken
returns-in-None-clause-taken c = characters_quote c.args.within c.in-Some.ensures (no_quote_from _ c.in-None.ensures)
