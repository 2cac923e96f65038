use Rattle.icu_rule_parser.proofs.BracketLemmas.{take_posix}
use Rattle.icu_rule_parser.proofs.properties.read_posix.Goals as goal

pub returns-clause-taken : goal.returns-clause-taken
returns-clause-taken c = take_posix _ c.requires.opened c.in_ok-body.ensures.taken c.in-Some.ensures c.in_ok-property_of.ensures.named
