use Rattle.icu_collator.specs.Collators.{collation_borrowed}
use Rattle.icu_search.proofs.AsciiMarkLemmas.{counted_if}
use Rattle.icu_search.proofs.searcher.Searcher.count_of.Goals as goal

pub returns-then-c-lt128 : goal.returns-then-c-lt128
returns-then-c-lt128 c =
    let s = c.args.self.now in
    counted_if (collation_borrowed s.collator) s.counts c.args.c c.count_of_char.result s.counts_are c.count_of_char.ensures
