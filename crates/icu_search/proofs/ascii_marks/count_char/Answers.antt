use Rattle.icu_collator.specs.Collators.{collation_borrowed}
use Rattle.icu_search.proofs.AsciiMarkLemmas.{one_more_count}
use Rattle.icu_search.proofs.ascii_marks.count_char.Goals as goal
