-- Each setting is put in its place.
use Rattle.std.proofs.Common.{refl}
use Rattle.icu_rule_tables.specs.RuleSettings.{settings_after}
use Rattle.icu_rule_tables.proofs.RuleSettingLemmas.{one_setting}
use Rattle.icu_rule_tables.proofs.rule_settings.settings_after.Goals as goal

pub loop-setting-init : goal.loop-setting-init
unfolding settings_after
loop-setting-init c = refl

pub loop-setting-preserved : goal.loop-setting-preserved
loop-setting-preserved c =
    one_setting c.args.root c.loop-setting.settings c.with_setting-settings.result c.args.said.now c.loop-setting.setting-index
    c.setting-item.result c.loop-setting-test.true c.setting-item.is c.loop-setting.invariant c.with_setting-settings.ensures
