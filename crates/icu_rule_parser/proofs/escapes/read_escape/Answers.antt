use Rattle.std.proofs.Common.{rules}
use Rattle.std.proofs.lemmas.Option.{IfSome_then}
use Rattle.icu_rule_parser.proofs.EscapeLemmas.{escape_four, escape_eight, escape_short, escape_itself}
use Rattle.icu_rule_parser.proofs.escapes.read_escape.Goals as goal

pub returns-in-u-clause-taken : goal.returns-in-u-clause-taken
returns-in-u-clause-taken c =
    IfSome_then c.read_digits.result c.read_digits.ensures.taken (λ r t. escape_four c.in_ok-c.ensures c.in-u.is t)

pub returns-in-U-clause-taken : goal.returns-in-U-clause-taken
returns-in-U-clause-taken c =
    IfSome_then c.read_digits-in-U.result c.read_digits-in-U.ensures.taken
    (λ r t. escape_eight c.in_ok-c.ensures c.in-U.is t)

pub returns-in-x-clause-taken : goal.returns-in-x-clause-taken
returns-in-x-clause-taken c =
    IfSome_then c.read_short.result c.read_short.ensures.taken (λ r t. escape_short c.in_ok-c.ensures c.in-x.is t)

pub returns-in_default-clause-taken : goal.returns-in_default-clause-taken
returns-in_default-clause-taken c = escape_itself c.in_ok-c.ensures (search rules) (search rules) (search rules)
