use Rattle.std.proofs.Common.{[], ap, ◌∙◌}
use Rattle.std.specs.Option.{unwrap_or}
use Rattle.icu_table_mappings.proofs.SurroundingLemmas.{found_among}
use Rattle.icu_table_mappings.proofs.surroundings.entry_alone.Goals as goal

pub returns : goal.returns
returns c = c.unwrap_or.ensures
    ∙ ap (λ o. unwrap_or o c.args.otherwise) (c.copied.ensures ∙ c.get.ensures.value ∙ found_among c.args.entries.now.entries [])
