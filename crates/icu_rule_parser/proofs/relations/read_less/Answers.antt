use Rattle.std.proofs.Common.{◌∷◌, ap, ◌∙◌, refl, rules}
use Rattle.icu_options.specs.declared.settings.Strength.TheVariants.{Primary, Secondary, Tertiary, Quaternary}
use Rattle.icu_rule_parser.proofs.StatementLemmas.{signed_at}
use Rattle.icu_rule_parser.proofs.FaultLemmas.{longest_one, longest_two, longest_three, longest_four}
use Rattle.icu_rule_parser.proofs.relations.read_less.Goals as goal

pub returns-in_default-clause-taken : goal.returns-in_default-clause-taken
returns-in_default-clause-taken c = signed_at _ Primary _ _ _ c.with_star.ensures.strength c.with_star.ensures.star refl

pub returns-in_default-behind-clause-taken : goal.returns-in_default-behind-clause-taken
returns-in_default-behind-clause-taken c =
    signed_at _ Secondary _ _ _ c.with_star-in_default-behind.ensures.strength
    c.with_star-in_default-behind.ensures.star (ap (λ t. 60 ∷ t) c.in-Some.ensures)

pub returns-in_default-behind-2-clause-taken : goal.returns-in_default-behind-2-clause-taken
returns-in_default-behind-2-clause-taken c =
    signed_at _ Tertiary _ _ _ c.with_star-in_default-behind-2.ensures.strength
    c.with_star-in_default-behind-2.ensures.star
    (ap (λ t. 60 ∷ t) (c.in-Some.ensures ∙ ap (λ t. 60 ∷ t) c.in-Some-behind.ensures))

pub returns-clause-taken : goal.returns-clause-taken
returns-clause-taken c =
    signed_at _ Quaternary _ _ _ c.with_star-2.ensures.strength c.with_star-2.ensures.star
    (ap (λ t. 60 ∷ t) (c.in-Some.ensures ∙ ap (λ t. 60 ∷ t)
    (c.in-Some-behind.ensures ∙ ap (λ t. 60 ∷ t) c.in-Some-behind-2.ensures)))

pub returns-in_default-clause-longest : goal.returns-in_default-clause-longest
returns-in_default-clause-longest c = longest_one c.args.text.now c.with_star.ensures.strength (search rules)

pub returns-in_default-behind-clause-longest : goal.returns-in_default-behind-clause-longest
returns-in_default-behind-clause-longest c =
    longest_two c.args.text.now c.in-Some.second.now c.with_star-in_default-behind.ensures.strength c.in-Some.ensures (search rules)

pub returns-in_default-behind-2-clause-longest : goal.returns-in_default-behind-2-clause-longest
returns-in_default-behind-2-clause-longest c =
    longest_three c.args.text.now c.in-Some.second.now c.in-Some-behind.third.now
    c.with_star-in_default-behind-2.ensures.strength c.in-Some.ensures c.in-Some-behind.ensures (search rules)

pub returns-clause-longest : goal.returns-clause-longest
returns-clause-longest c =
    longest_four c.args.text.now c.in-Some.second.now c.in-Some-behind.third.now c.in-Some-behind-2.fourth.now
    c.with_star-2.ensures.strength c.in-Some.ensures c.in-Some-behind.ensures c.in-Some-behind-2.ensures
