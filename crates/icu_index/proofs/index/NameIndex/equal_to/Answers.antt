use Rattle.std.proofs.Common.{◌∙◌}
use Rattle.icu_collator.specs.Collators.{collation_borrowed}
use Rattle.icu_index_keys.specs.KeyedLists.{keyed_names}
use Rattle.icu_collator.proofs.NameOrderLemmas.{names_keep}
use Rattle.icu_index.proofs.NameLemmas.{equal_between}
use Rattle.icu_collator.specs.NameOrders.{name_order}
use Rattle.icu_index.specs.inner.NameKeys.{key_of}
use Rattle.icu_index.proofs.index.NameIndex.equal_to.Goals as goal

pub returns : goal.returns
returns c =
    let self = c.args.self.now in
    let collation = collation_borrowed self.collator in
    c.between-names.ensures
    ∙ equal_between (name_order collation) (key_of collation) (names_keep self.collator c.has_well_formed_tables.ensures) c.args.name.now
    c.as_slice.result c.as_slice-2.result (c.as_slice.ensures.value ∙ c.in_ok-key.ensures) (c.as_slice-2.ensures.value ∙ c.in_ok-key.ensures)
    (keyed_names self.names) self.keyed
