use Rattle.std.proofs.Common.{subst}
use Rattle.icu_table_provider.specs.TableSets.{tables_in}
use Rattle.icu_table_check.specs.inner.EntryViolations.{HasEndsApart}
use Rattle.icu_table_check.proofs.check.entry_judge.implicit_ends_apart.Goals as goal

pub returns : goal.returns
returns c apart = subst (λ h. HasEndsApart (tables_in c.args.tables) h) c.implicit_high.ensures (c.has_ends_apart.ensures apart)
