use Rattle.std.proofs.Common.{[], ◌∷◌, ap, ◌∙◌}
use Rattle.icu_options.specs.declared.settings.Strength.TheVariants.{Identical}
use Rattle.icu_rule_parser.proofs.StatementLemmas.{signed_at, old_secondary, old_tertiary}
use Rattle.icu_rule_parser.proofs.relations.read_sign.Goals as goal

pub returns-in-61-clause-taken : goal.returns-in-61-clause-taken
returns-in-61-clause-taken c =
    signed_at _ Identical _ _ _ c.with_star.ensures.strength c.with_star.ensures.star
    (c.in_ok-c.ensures ∙ ap (λ k. k ∷ c.in_ok-c.after.now) c.in-61.is)

pub returns-in-59-clause-taken : goal.returns-in-59-clause-taken
returns-in-59-clause-taken c = (
  59 ∷ [],
  old_secondary _ _ c.without_star.ensures.0 c.without_star.ensures.1,
  c.in_ok-c.ensures ∙ ap (λ k. k ∷ c.in_ok-c.after.now) c.in-59.is,
)

pub returns-in-44-clause-taken : goal.returns-in-44-clause-taken
returns-in-44-clause-taken c = (
  44 ∷ [],
  old_tertiary _ _ c.without_star-in-44.ensures.0 c.without_star-in-44.ensures.1,
  c.in_ok-c.ensures ∙ ap (λ k. k ∷ c.in_ok-c.after.now) c.in-44.is,
)
