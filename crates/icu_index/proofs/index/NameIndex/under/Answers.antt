use Rattle.std.proofs.Common.{◌∙◌, subst}
use Rattle.icu_index.specs.headings.Headed.{heading_starts}
use Rattle.icu_index.specs.headings.HeadingLaws.{KeysStandUnder}
use Rattle.icu_collator.specs.Collators.{collation_borrowed}
use Rattle.icu_index_keys.specs.KeyedLists.{keyed_names}
use Rattle.icu_index.proofs.NameLemmas.{names_stand_under}
use Rattle.icu_index.proofs.index.NameIndex.under.Goals as goal

pub returns : goal.returns
returns c =
    let self = c.args.self.now in
    let starts = heading_starts c.args.headings.now in
    c.names_within-names.ensures
    ∙ names_stand_under (collation_borrowed self.collator) starts c.args.number c.key_bounds-bounds.result
    (subst (λ collation. KeysStandUnder collation starts c.args.number c.key_bounds-bounds.result) c.requires c.key_bounds-bounds.ensures)
    (keyed_names self.names) self.keyed
