use Rattle.std.proofs.Common.{◌<◌, length, arith}
use Rattle.std.proofs.lemmas.Bool.Decides.{nat_tests}
use Rattle.icu_table_files.proofs.ContextNumberLemmas.{mappings_end_whole}
use Rattle.icu_table_files.proofs.context_numbers.mappings_of_numbers.Goals as goal

pub returns-then-not-is_empty-clause-refused : goal.returns-then-not-is_empty-clause-refused
returns-then-not-is_empty-clause-refused c =
    let some : 0 < length c.reading.rest.now = grind (arith, nat_tests) in
    λ xs e. absurd (mappings_end_whole c.reading.mappings.items xs c.reading.rest.now c.args.numbers.now some c.in_default.ensures c.reading.invariant e)
