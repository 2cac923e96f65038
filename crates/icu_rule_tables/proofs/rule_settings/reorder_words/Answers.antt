-- Each setting is looked at.
use Rattle.std.proofs.Common.{refl, option_map}
use Rattle.icu_rule_tables.specs.RuleSettings.{reorder_words}
use Rattle.icu_rule_tables.proofs.RuleSettingLemmas.{one_words}
use Rattle.icu_rule_tables.proofs.rule_settings.reorder_words.Goals as goal

pub loop-setting-init : goal.loop-setting-init
unfolding reorder_words
loop-setting-init c = refl

pub loop-setting-preserved : goal.loop-setting-preserved
loop-setting-preserved c =
    one_words (option_map (λ w. w.now) c.loop-setting.words) (option_map (λ w. w.now) c.words_with-words.result) c.args.said.now c.loop-setting.setting-index
    c.setting-item.result c.loop-setting-test.true c.setting-item.is c.loop-setting.invariant c.words_with-words.ensures
