use Rattle.std.proofs.Common.{◌∙◌, [], ap, subst, length}
use Rattle.std.specs.Prelude.{is_some}
use Rattle.icu_table_entries.specs.declared.entry.EntryKind.TheVariants.{Contraction}
use Rattle.icu_table_provider.specs.builder.Building.{built_data}
use Rattle.icu_table_mappings.specs.inner.ContextParts.{AddsContext}
use Rattle.icu_table_mappings.specs.Surroundings.{entry_at, nearest}
use Rattle.icu_table_mappings.proofs.AddedContextLemmas.{leads_by, leads_to_default, there}
use Rattle.icu_table_mappings.proofs.NearestLemmas.{has_nearest}
use Rattle.icu_table_mappings.proofs.contexts.contraction.Goals as goal

pub add_context-requires : goal.add_context-requires
add_context-requires c =
    there (entry_at c.in_ok-entries.entries []) c.entry_alone-default.result c.args.own
    (ap is_some (c.in_ok-entries.ensures []) ∙ has_nearest c.args.contexts.now c.args.own (length c.args.before.now) c.args.before.now)
    c.entry_alone-default.ensures

pub returns-in-Some-clause-gives : goal.returns-in-Some-clause-gives
returns-in-Some-clause-gives c =
    leads_by Contraction (built_data c.add_context.new.builder) c.in_ok-entries.entries (nearest c.args.contexts.now c.args.own c.args.before.now)
    c.in-Some.index c.contraction.result c.contraction.ensures.kind c.contraction.ensures.index
    (subst (λ o. AddsContext (built_data c.add_context.new.builder) c.in_ok-entries.entries o) c.in-Some.is c.in_ok-index.ensures.adds)
    c.in_ok-entries.ensures

pub returns-clause-gives : goal.returns-clause-gives
returns-clause-gives c =
    leads_to_default Contraction (built_data c.add_context.new.builder) c.in_ok-entries.entries (nearest c.args.contexts.now c.args.own c.args.before.now)
    c.entry_alone-default.result
    (subst (λ o. AddsContext (built_data c.add_context.new.builder) c.in_ok-entries.entries o) c.in-None.is c.in_ok-index.ensures.adds)
    (there (entry_at c.in_ok-entries.entries []) c.entry_alone-default.result c.args.own
    (ap is_some (c.in_ok-entries.ensures []) ∙ has_nearest c.args.contexts.now c.args.own (length c.args.before.now) c.args.before.now)
    c.entry_alone-default.ensures)
    c.in_ok-entries.ensures
