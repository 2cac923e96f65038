-- Nothing is less than 0.
use Rattle.std.proofs.Common.{None, ap, sym, ◌∙◌}
use Rattle.icu_rule_meaning.specs.TailoredRoots.{last_below}
use Rattle.icu_rule_root.specs.inner.KeyWindows.{weights_in_window}
use Rattle.icu_rule_root.proofs.KeyPlaceLemmas.{below_zero}
use Rattle.icu_rule_root.proofs.key_window.greatest_below.Goals as goal

pub returns-then-w-eq0 : goal.returns-then-w-eq0
returns-then-w-eq0 c =
    sym (ap (last_below None (weights_in_window c.args.window c.args.keys.now)) c.if-w-eq0.true ∙ below_zero None (weights_in_window c.args.window c.args.keys.now))
