use Rattle.std.proofs.Common.{◌∙◌}
use Rattle.icu_collator.specs.Collators.{collation_borrowed}
use Rattle.icu_index_keys.specs.KeyedLists.{keyed_names}
use Rattle.icu_index.proofs.NameLemmas.{names_begun}
use Rattle.icu_index.proofs.index.NameIndex.beginning_with.Goals as goal

pub returns : goal.returns
returns c =
    let self = c.args.self.now in
    c.in_ok-names.ensures
    ∙ names_begun (collation_borrowed self.collator) c.has_well_formed_tables.ensures c.args.beginning.now c.as_slice.result.now
    (c.as_slice.ensures.value ∙ c.in_ok-key.ensures) (keyed_names self.names) self.keyed
