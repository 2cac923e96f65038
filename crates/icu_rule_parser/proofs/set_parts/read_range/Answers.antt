use Rattle.std.proofs.Common.{refl}
use Rattle.icu_rule_parser.proofs.BracketLemmas.{range_pair}
use Rattle.icu_rule_parser.proofs.set_parts.read_range.Goals as goal

pub returns-clause-taken : goal.returns-clause-taken
returns-clause-taken c =
    range_pair _ refl refl c.if-last-first.false c.in-Some-read_member.ensures.taken c.skip_white.ensures.skips
    c.in-Some-behind.ensures c.skip_white-2.ensures.skips c.in-Some-read_member-2.ensures.taken
