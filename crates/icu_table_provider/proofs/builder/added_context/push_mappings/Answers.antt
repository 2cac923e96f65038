-- One mapping more is one given mapping more.
use Rattle.std.proofs.Common.{refl, sym}
use Rattle.icu_table_provider.specs.builder.AddedContexts.{given_mapping}
use Rattle.icu_table_provider.proofs.builder.AddedMappingLemmas.{AddsMappings-none, AddsMappings-more, map-take_more}
use Rattle.icu_table_provider.proofs.builder.added_context.push_mappings.Goals as goal

pub loop-list-init : goal.loop-list-init
loop-list-init c = AddsMappings-none c.args.mappings.now.items c.args.chars.now.items

pub loop-list-preserved : goal.loop-list-preserved
loop-list-preserved c =
    rw (map-take_more given_mapping c.args.given.now c.loop-list.list-index c.loop-list-item.result c.loop-list-test.true)
    (rw (sym c.loop-list-item.is)
    (AddsMappings-more _ _ _ _ _ _ _ _ _ _ c.loop-list.invariant refl c.in_ok-push_mapping.ensures.mapping c.in_ok-push_mapping.ensures.chars))
