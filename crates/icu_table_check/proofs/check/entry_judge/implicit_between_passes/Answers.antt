use Rattle.std.proofs.Common.{◌≤◌, subst}
use Rattle.icu_table_provider.specs.TableSets.{tables_in}
use Rattle.icu_table_check.proofs.ImplicitLemmas.{run_passes}
use Rattle.icu_table_check.proofs.check.entry_judge.implicit_between_passes.Goals as goal

pub returns-then-low : goal.returns-then-low
returns-then-low c passes char from to =
    run_passes (tables_in c.args.tables) c.args.first c.args.last c.requires (c.implicit_ends_apart-low.ensures c.if-low.true) (c.implicit_ends_apart-high.ensures passes)
    (subst (λ n. n ≤ 0xFD) c.numeric_lead.ensures.value c.numeric_lead.ensures.bound.1) char from to
