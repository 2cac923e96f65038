use Rattle.std.proofs.Common.{rules, sym}
use Rattle.icu_rule_parser.proofs.StringLemmas.{characters_apostrophe, characters_escape, characters_one}
use Rattle.icu_rule_parser.proofs.strings.read_character.Goals as goal

pub returns-in-Some-behind-clause-taken : goal.returns-in-Some-behind-clause-taken
returns-in-Some-behind-clause-taken c =
    characters_apostrophe c.args.within c.in-Some.ensures c.in-39.is c.in-Some-behind.ensures

pub returns-in-Some-read_escape-clause-taken : goal.returns-in-Some-read_escape-clause-taken
returns-in-Some-read_escape-clause-taken c =
    characters_escape c.args.within c.in-Some.ensures c.in-92.is c.in-Some-read_escape.ensures.taken

pub returns-in_default-c-clause-taken : goal.returns-in_default-c-clause-taken
returns-in_default-c-clause-taken c =
    characters_one c.args.within c.in-Some.ensures (search rules) (search rules) (sym c.if-stands_in.ensures)
