-- No primary weight is 0.
use Rattle.std.proofs.Common.{unwrap_or, ap, ◌∙◌}
use Rattle.icu_rule_root.proofs.WindowLemmas.{first_of_primaries}
use Rattle.icu_rule_root.proofs.checked_root.first_by_keys.Goals as goal

pub returns : goal.returns
returns c = c.unwrap_or.ensures ∙ ap (λ o. unwrap_or o 0) c.least_above.ensures ∙ first_of_primaries c.args.keys.now
