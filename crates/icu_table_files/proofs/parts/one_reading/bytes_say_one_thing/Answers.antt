use Rattle.std.proofs.Common.{◌^◌}
use Rattle.std.specs.Int.{w16, w32, w64}
use Rattle.icu_table_files.proofs.parts.SpeltNumberLemmas.{numbers_tell, wide16, wide32, wide64}
use Rattle.icu_table_files.proofs.parts.SpeltPartLemmas.{parts_tell}
use Rattle.icu_table_files.proofs.parts.one_reading.bytes_say_one_thing.Goals as goal

pub returns-clause-parts : goal.returns-clause-parts
returns-clause-parts c = λ xs ys small e. parts_tell xs ys small e

pub returns-clause-numbers : goal.returns-clause-numbers
returns-clause-numbers c = record {
  of_16_bits = numbers_tell w16 (2 ^ 16) wide16;
  of_32_bits = numbers_tell w32 (2 ^ 32) wide32;
  of_64_bits = numbers_tell w64 (2 ^ 64) wide64;
}
