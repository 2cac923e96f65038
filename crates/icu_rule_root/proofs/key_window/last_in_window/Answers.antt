-- No weight of a window is above its last number.
use Rattle.std.proofs.Common.{◌+◌, ◌-◌, unwrap_or, ap, ◌∙◌}
use Rattle.icu_rule_root.specs.inner.KeyWindows.{weights_in_window}
use Rattle.icu_rule_root.proofs.KeyPlaceLemmas.{bounded, last_is}
use Rattle.icu_rule_root.proofs.key_window.last_in_window.Goals as goal

pub returns : goal.returns
returns c =
    let window = c.args.window in
    let ws = weights_in_window window c.args.keys.now in
    c.unwrap_or.ensures ∙ ap (λ o. unwrap_or o 0) c.greatest_up_to.ensures
    ∙ last_is (window.last - window.base + 1) ws (bounded window c.requires.window c.args.keys.now)
