use Rattle.std.proofs.Common.{◌<◌, ◌^◌, length, map, arith}
use Rattle.std.proofs.lemmas.Bool.Decides.{nat_tests}
use Rattle.icu_table_files.proofs.parts.SpeltPartLemmas.{no_parts}
use Rattle.icu_table_files.proofs.parts.counted_parts.parts_of.Goals as goal

pub returns-in-None-clause-refused : goal.returns-in-None-clause-refused
returns-in-None-clause-refused c =
    let some : 0 < length c.reading.rest.now = grind (arith, nat_tests) in
    let small : length c.args.bytes.now < 2 ^ 64 = omega arith in
    λ parts e. absurd (no_parts (map (λ p. p.now) c.reading.parts.items) parts c.reading.rest.now c.args.bytes.now small some c.in-None.ensures c.reading.invariant e)
