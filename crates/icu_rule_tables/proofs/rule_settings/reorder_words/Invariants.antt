use Rattle.std.proofs.Common.{◌≡◌, option_map, List, String, Bor}
use Rattle.std.specs.declared.alloc.Global.{Global}
use Rattle.icu_rule_tables.specs.RuleSettings.{reorder_words}
use Rattle.icu_rule_tables.proofs.RuleSettingLemmas.{said_to}
use Rattle.icu_rule_tables.proofs.rule_settings.reorder_words.Given as goal

abbrev pub invariant-loop-setting : goal.invariant-loop-setting
invariant-loop-setting l = option_map (λ w. w.now) l.words ≡ reorder_words (said_to l.setting-index l.said)
