-- What was appended, and then the lines of the levels that are left, is the whole.
use Rattle.std.proofs.Common.{◌≡◌, ◌++◌, drop, chars}
use Rattle.icu_collator.specs.Collators.{collation_borrowed}
use Rattle.text_reasons.specs.order_reasons.Reasons.{level_lines}
use Rattle.text_reasons.proofs.order_reasons.explained_levels.push_level_lines.Given as goal

abbrev pub invariant-loop-level : goal.invariant-loop-level
invariant-loop-level l =
    let c = collation_borrowed l.collator in
    l.output.items ++ level_lines c (chars l.text) l.before (drop l.level-index l.levels)
    ≡ l.initial.output.items ++ level_lines c (chars l.text) 0 l.levels
