use Rattle.std.proofs.Common.{◌≡◌, ◌∙◌, ◌++◌, ap}
use Rattle.std.proofs.lemmas.Result.{on_ok_weaker}
use Rattle.icu_collator.specs.Collators.{collation_borrowed}
use Rattle.icu_index_keys.specs.KeyedLists.{keyed_names, names_in, placed}
use Rattle.icu_collator.proofs.NameOrderLemmas.{names_keep}
use Rattle.icu_index.proofs.NameLemmas.{keyed_after, placed_is_inserted}
use Rattle.icu_collator.specs.NameOrders.{name_order}
use Rattle.icu_index.specs.inner.NameKeys.{key_of}
use Rattle.icu_index.proofs.index.NameIndex.insert.Goals as goal

pub invariant_of-self-2 : goal.invariant_of-self-2
invariant_of-self-2 c =
    let self = c.args.self.now in
    let collation = collation_borrowed self.collator in
    let is = c.as_slice.ensures.value ∙ (c.in_ok-write_key.ensures ∙ ap (λ bs. bs ++ key_of collation c.args.name.now) c.clear.ensures.items) in
    record {
      keyed = keyed_after (name_order collation) (key_of collation) (names_keep self.collator c.has_well_formed_tables.ensures) c.insert.result
          c.args.name.now c.as_slice.result.now is (keyed_names self.names) (keyed_names c.insert.new.self) self.keyed c.insert.ensures.ok c.insert.ensures.err;
    }

pub returns-clause-ok : goal.returns-clause-ok
returns-clause-ok c =
    let self = c.args.self.now in
    let collation = collation_borrowed self.collator in
    let is = c.as_slice.ensures.value ∙ (c.in_ok-write_key.ensures ∙ ap (λ bs. bs ++ key_of collation c.args.name.now) c.clear.ensures.items) in
    on_ok_weaker c.insert.result
    (λ (h : keyed_names c.insert.new.self ≡ placed (c.as_slice.result.now, c.args.name.now) (keyed_names self.names)).
    ap names_in h
    ∙ placed_is_inserted (name_order collation) (key_of collation) (names_keep self.collator c.has_well_formed_tables.ensures)
    c.args.name.now c.as_slice.result.now is (keyed_names self.names) self.keyed)
    c.insert.ensures.ok
