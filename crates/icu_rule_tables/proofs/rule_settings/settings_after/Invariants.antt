use Rattle.std.proofs.Common.{◌≡◌}
use Rattle.icu_rule_tables.specs.RuleSettings.{settings_after}
use Rattle.icu_rule_tables.proofs.RuleSettingLemmas.{said_to}
use Rattle.icu_rule_tables.proofs.rule_settings.settings_after.Given as goal

abbrev pub invariant-loop-setting : goal.invariant-loop-setting
invariant-loop-setting l = l.settings ≡ settings_after l.fn.root (said_to l.setting-index l.said)
