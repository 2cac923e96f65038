use Rattle.std.proofs.Common.{rules}
use Rattle.std.proofs.lemmas.Option.{IfSome_then}
use Rattle.icu_rule_parser.proofs.BracketLemmas.{member_escape, member_plain}
use Rattle.icu_rule_parser.proofs.set_parts.read_member.Goals as goal

pub returns-else-is_other_escape-clause-taken : goal.returns-else-is_other_escape-clause-taken
returns-else-is_other_escape-clause-taken c =
    IfSome_then c.read_escape.result c.read_escape.ensures.taken
    (λ r t. member_escape c.in_ok-c.ensures (search rules) c.in_ok-letter.ensures (search rules) (search rules) t)

pub returns-then-is_member-clause-taken : goal.returns-then-is_member-clause-taken
returns-then-is_member-clause-taken c = member_plain c.in_ok-c.ensures (search rules)
