use Rattle.std.proofs.Common.{rules, ◌≡◌, ◌∙◌, Bool, false, not, sym, ap, Some, Option}
use Rattle.std.proofs.lemmas.Fn.{filter_same}
use Rattle.icu_cldr_locales.specs.locale_rules.TagRules.{is_backwards, with_backward}
use Rattle.icu_cldr_locales.proofs.locale_rules.tag_rules.with_backward.Goals as goal

pub returns-in-Some-false-clause-with : goal.returns-in-Some-false-clause-with
returns-in-Some-false-clause-with c =
    let statements = c.args.rules.statements.items in
    let kept = filter_same _ (λ p. not (is_backwards p.statement)) _ (λ x b f called. search rules) _ _ c.retain.ensures.filtered in
    let asked : c.args.backward ≡ Some false = c.in-Some-false.is ∙ ap (λ b. Some b) c.in-Some-false.field-0-test in
    kept ∙ sym (ap (λ (o : Option Bool). with_backward o statements) asked)
