use Rattle.std.proofs.Common.{sym, subst, ◌∙◌}
use Rattle.icu_table_provider.specs.TableSets.{tables_in}
use Rattle.icu_table_check.specs.inner.ImplicitOverlaps.{IsImplicitBy}
use Rattle.icu_table_check.proofs.ImplicitOverlapLemmas.{loaded_root}
use Rattle.icu_table_check.proofs.check.implicit_overlaps.is_implicit_by.Goals as goal

pub returns-in-Root : goal.returns-in-Root
returns-in-Root c = λ t.
    subst (λ table. IsImplicitBy table (tables_in c.args.tables).tables c.args.c) (sym c.in-Root.is)
    (loaded_root c.args.tables c.args.c c.ce32_for_char.result c.ranges.c.0 c.ce32_for_char.ensures (sym c.leads_to_implicit.ensures ∙ t))
