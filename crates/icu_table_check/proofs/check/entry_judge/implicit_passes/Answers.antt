use Rattle.std.proofs.Common.{◌+◌, below_more}
use Rattle.icu_table_provider.specs.TableSets.{tables_in}
use Rattle.icu_table_check.specs.inner.EntryViolations.{HasEndsApart}
use Rattle.icu_table_check.proofs.check.entry_judge.implicit_passes.Goals as goal

pub loop-second-preserved : goal.loop-second-preserved
loop-second-preserved c =
    let passed : HasEndsApart (tables_in c.args.tables) (0xFE00 + c.loop-second.second) = rw c.from.ensures at (c.has_ends_apart.ensures c.if-not-has_ends_apart.false) in
    below_more (λ s. HasEndsApart (tables_in c.args.tables) (0xFE00 + s)) c.loop-second.second c.loop-second.invariant passed
