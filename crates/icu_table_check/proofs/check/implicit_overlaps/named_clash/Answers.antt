use Rattle.std.proofs.Common.{refl}
use Rattle.icu_table_check.specs.declared.check.weights.WeightList.TheVariants.{Primaries}
use Rattle.icu_table_provider.specs.TableSets.{tables_in}
use Rattle.icu_table_check.proofs.WeightListLemmas.{more_listed}
use Rattle.icu_table_check.proofs.check.implicit_overlaps.named_clash.Goals as goal

pub first_clash-requires : goal.first_clash-requires
first_clash-requires c = more_listed Primaries Primaries (tables_in c.args.tables) _ _ _ refl c.loop-index.invariant c.in_ok-collect.ensures

pub loop-index-preserved : goal.loop-index-preserved
loop-index-preserved c = more_listed Primaries Primaries (tables_in c.args.tables) _ _ _ refl c.loop-index.invariant c.in_ok-collect.ensures
