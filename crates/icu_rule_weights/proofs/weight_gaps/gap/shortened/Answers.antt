use Rattle.std.proofs.Common.{ℕ, List, sym, subst, arith}
use Rattle.icu_rule_weights.specs.weight_gaps.GapWeights.{FillsGap}
use Rattle.icu_rule_weights.proofs.weight_gaps.GapLemmas.{fills_taken}
use Rattle.icu_rule_weights.proofs.weight_gaps.gap.shortened.Goals as goal

pub add_weights-requires-clause-fills : goal.add_weights-requires-clause-fills
add_weights-requires-clause-fills c =
    let gap = c.args.gap in
    subst (FillsGap gap.form gap.low gap.high) (sym c.truncate.ensures.items)
    (fills_taken gap.form gap.low gap.high c.args.shorter.items c.kept_of-kept.result c.requires.shorter_fills)

pub add_weights-requires-clause-at_most : goal.add_weights-requires-clause-at_most
add_weights-requires-clause-at_most c = omega (arith, c.truncate.ensures.len, c.kept_of-kept.ensures.of_short, c.kept_of-kept.ensures.of_count)
