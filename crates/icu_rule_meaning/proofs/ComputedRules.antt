-- What short rules need unfolded so that `refl` computes what they say.
use Rattle.unicode_normalization.proofs.Computing.{unicode_normalization}
use Rattle.icu_rule_meaning.specs.WeightTrees.{with_rooted, with_behind, put_behind, before_from, with_weights}
use Rattle.icu_rule_meaning.specs.TailoredRoots.{last_below, first_above, lesser_weight}
use Rattle.icu_rule_meaning.specs.TailoredMappings.{mappings_behind, longest_suffix, joined_marks, symbolic_along}
use Rattle.icu_rule_meaning.specs.TailoredCases.{cases_for, with_cases}
use Rattle.icu_rule_meaning.specs.Steps.{counting_at, before_step, reset_step, difference_step, relation_step, suppression_step}

-- `unfolding icu_rule_meaning` lets `refl` compute what short rules say
unfoldable pub icu_tailoring : Unit {0}
unfolding unicode_normalization with_rooted with_behind put_behind before_from with_weights last_below first_above lesser_weight mappings_behind longest_suffix joined_marks symbolic_along cases_for with_cases counting_at before_step reset_step difference_step relation_step suppression_step
icu_tailoring = tt
