-- The context says what it was given.
use Rattle.std.proofs.Common.{sym}
use Rattle.std.proofs.lemmas.List.{length-map}
use Rattle.icu_table_provider.specs.builder.AddedContexts.{given_mapping}
use Rattle.icu_table_provider.proofs.builder.AddedMappingLemmas.{stored_contexts-added}
use Rattle.icu_table_provider.proofs.builder.added_context.add_context.Goals as goal

pub returns-in-Ok-clause-adds : goal.returns-in-Ok-clause-adds
returns-in-Ok-clause-adds c =
    stored_contexts-added _ _ _ _ _ _ _ _ _ c.in-Ok.ensures.adds (sym (length-map c.args.given.now given_mapping)) c.in-Ok.ensures.pushed
