-- The last of the weights.
use Rattle.std.proofs.Common.{◌≡◌, ◌<◌, ◌-◌, length, get_or, rules, ap, ◌∙◌}
use Rattle.icu_rule_meaning.specs.declared.symbolic.SymbolicWeight.TheVariants.{Rooted}
use Rattle.icu_rule_meaning.specs.SymbolicElements.{is_same_weight}
use Rattle.icu_rule_root.proofs.WindowLemmas.{ends_is}
use Rattle.icu_rule_root.proofs.checked_root.ends_with_zero.Goals as goal

pub returns-in-Some : goal.returns-in-Some
returns-in-Some c =
    let xs = c.args.above.now in
    let some : 0 < length xs = search rules in
    let at : c.in-Some.w.now ≡ get_or xs (length xs - 1) c.in-Some.w.now = search rules in
    c.is_zero.ensures ∙ ap (λ w. is_same_weight w (Rooted 0)) at ∙ ends_is xs c.in-Some.w.now some
