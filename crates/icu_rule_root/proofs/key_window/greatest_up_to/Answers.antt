-- The last key that comes to no more has the greatest weight, if one.
use Rattle.std.proofs.Common.{◌+◌, ◌-◌, min, arith, ap, subst, ◌∙◌}
use Rattle.icu_rule_root.specs.inner.KeyPlaces.{IsKeyCount}
use Rattle.icu_rule_root.proofs.KeyPlaceLemmas.{up_to_none, up_to_found}
use Rattle.icu_rule_root.proofs.key_window.greatest_up_to.Goals as goal

pub returns-then-place-eq0 : goal.returns-then-place-eq0
returns-then-place-eq0 c =
    up_to_none c.args.window c.requires.window c.args.keys.now c.requires.ascending c.args.w c.count_up_to-place.result
    (subst (λ m. IsKeyCount c.args.window.level c.args.keys.now (c.args.window.base + m) c.count_up_to-place.result)
    (c.min.ensures ∙ ap (λ n. min n (c.args.window.last - c.args.window.base)) c.from.ensures) c.count_up_to-place.ensures) c.if-place-eq0.true

pub returns : goal.returns
returns c =
    c.window_weight.ensures
    ∙ up_to_found c.args.window c.requires.window c.args.keys.now c.requires.ascending c.args.w c.count_up_to-place.result
    (subst (λ m. IsKeyCount c.args.window.level c.args.keys.now (c.args.window.base + m) c.count_up_to-place.result)
    (c.min.ensures ∙ ap (λ n. min n (c.args.window.last - c.args.window.base)) c.from.ensures) c.count_up_to-place.ensures) (omega (arith, c.if-place-eq0.false)) 0
