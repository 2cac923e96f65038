-- The next lesser weight, or what stands below all.
use Rattle.std.proofs.Common.{unwrap_or, ap, ◌∙◌}
use Rattle.icu_rule_root.specs.inner.KeyWindows.{lesser_by_keys}
use Rattle.icu_rule_root.proofs.WindowLemmas.{lesser_is}
use Rattle.icu_rule_root.proofs.checked_root.CheckedRootRootWeights.lesser_weight.Goals as goal

pub returns : goal.returns
returns c =
    c.unwrap_or.ensures
    ∙ ap (λ o. unwrap_or o c.lowest_below.result) (c.lesser_by_keys.ensures ∙ ap (λ keys. lesser_by_keys keys c.args.above.now c.args.w) c.as_slice.ensures.value)
    ∙ ap (unwrap_or (lesser_by_keys c.args.self.now.keys.items c.args.above.now c.args.w)) c.lowest_below.ensures ∙ lesser_is c.args.self.now c.args.above.now c.args.w
