use Rattle.std.proofs.Common.{subst, sym}
use Rattle.icu_rule_parser.specs.declared.set_parts.CharacterProperty.{CharacterProperty}
use Rattle.icu_rule_parser.specs.CharacterSets.{other_property, NamesProperty}
use Rattle.icu_rule_parser.proofs.BracketLemmas.{other_twice, take_other_perl}
use Rattle.icu_rule_parser.proofs.properties.read_other_perl.Goals as goal

pub returns-clause-taken : goal.returns-clause-taken
returns-clause-taken c =
    let property : CharacterProperty = c.in_ok-property.property in
    take_other_perl (other_property property) c.requires.opened c.in_ok-body.ensures.taken
    (subst (λ (q : CharacterProperty). NamesProperty q c.in_ok-body.body.now) (sym (other_twice property)) c.in_ok-property.ensures.named)
