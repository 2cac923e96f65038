use Rattle.icu_rule_parser.proofs.StarredLemmas.{take_dash}
use Rattle.icu_rule_parser.proofs.starred.behind_dash.Goals as goal

pub returns-clause-taken : goal.returns-clause-taken
returns-clause-taken c = take_dash c.in_ok-after.after.now c.skip_blanks.ensures.takes c.in_ok-after.ensures
