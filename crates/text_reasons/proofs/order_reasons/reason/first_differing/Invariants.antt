-- What decides is among the levels that are left.
use Rattle.std.proofs.Common.{◌≡◌, drop, chars}
use Rattle.icu_collator.specs.Collators.{collation_borrowed}
use Rattle.text_reasons.specs.order_reasons.OrderLevels.{first_differing}
use Rattle.text_reasons.proofs.order_reasons.reason.first_differing.Given as goal

abbrev pub invariant-loop-level : goal.invariant-loop-level
invariant-loop-level l =
    let c = collation_borrowed l.collator in
    first_differing c (chars l.one) (chars l.other) (drop l.level-index l.levels)
    ≡ first_differing c (chars l.one) (chars l.other) l.levels
