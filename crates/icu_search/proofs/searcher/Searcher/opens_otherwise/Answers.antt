use Rattle.std.proofs.Common.{refl}
use Rattle.std.specs.Prelude.{chars, string_bytes}
use Rattle.icu_collator.specs.Collators.{collation_borrowed}
use Rattle.icu_search.proofs.FirstWeightLemmas.{unequal_part}
use Rattle.icu_search.proofs.searcher.Searcher.opens_otherwise.Goals as goal

pub returns : goal.returns
returns c = λ is part rest begins.
    let s = c.args.self.now in
    let collation = collation_borrowed s.collator in
    unequal_part collation collation refl c.args.text.now part rest (chars (string_bytes s.pattern)) s.first.items (c.begins_with_other.ensures is) s.first_is begins
