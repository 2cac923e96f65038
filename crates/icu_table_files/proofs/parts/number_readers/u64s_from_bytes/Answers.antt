use Rattle.std.proofs.Common.{◌<◌, ◌^◌, length, subst, arith}
use Rattle.std.proofs.lemmas.Bool.Decides.{nat_tests}
use Rattle.icu_table_files.specs.parts.SpeltParts.{AreBelow}
use Rattle.icu_table_files.proofs.parts.SpeltNumberLemmas.{ends_whole_64}
use Rattle.icu_table_files.proofs.parts.number_readers.u64s_from_bytes.Goals as goal

pub returns-then-not-is_empty-clause-refused : goal.returns-then-not-is_empty-clause-refused
returns-then-not-is_empty-clause-refused c =
    let some : 0 < length c.reading.rest.now = grind (arith, nat_tests) in
    λ xs fits e. absurd (ends_whole_64 c.reading.numbers.items xs c.reading.rest.now c.args.bytes.now some c.in_default.ensures.cases c.reading.invariant e)

pub returns-clause-range : goal.returns-clause-range
returns-clause-range c = subst (AreBelow (2 ^ 64)) c.as_slice.ensures.value c.are_u64s.ensures
