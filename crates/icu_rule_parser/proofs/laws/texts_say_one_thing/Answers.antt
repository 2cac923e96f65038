use Rattle.icu_rule_parser.proofs.StatementsOnce.{same_tokens}
use Rattle.icu_rule_parser.proofs.SayingsOnce.{says_once}
use Rattle.icu_rule_parser.proofs.laws.texts_say_one_thing.Goals as goal

pub returns : goal.returns
returns c first second text a b =
    let same = same_tokens first second text a b in
    let said = says_once first second a.tokens b.tokens a.each b.each same in (same, said.0, said.1)
