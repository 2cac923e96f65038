use Rattle.icu_rule_parser.proofs.BracketLemmas.{take_perl}
use Rattle.icu_rule_parser.proofs.properties.read_perl.Goals as goal

pub returns-clause-taken : goal.returns-clause-taken
returns-clause-taken c = take_perl _ c.requires.opened c.in_ok-body.ensures.taken c.in_ok-property_of.ensures.named
