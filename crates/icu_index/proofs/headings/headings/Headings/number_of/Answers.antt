use Rattle.std.proofs.Common.{◌∙◌}
use Rattle.icu_collator.specs.Collators.{collation_borrowed}
use Rattle.icu_index_keys.specs.keyed_starts.Starts.{starts_in}
use Rattle.icu_index.proofs.headings.StartKeyLemmas.{number_as}
use Rattle.icu_index.proofs.headings.headings.Headings.number_of.Goals as goal

pub returns : goal.returns
returns c =
    let self = c.args.self.now in
    c.up_to.ensures
    ∙ number_as (collation_borrowed self.collator) c.has_well_formed_tables.ensures c.args.name.now c.as_slice.result.now (c.as_slice.ensures.value ∙ c.in_ok-key.ensures)
    (starts_in self.starts) self.keyed
