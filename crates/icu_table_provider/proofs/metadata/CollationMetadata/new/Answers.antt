-- The case that sorts first stands above nine bits of other facts.
use Rattle.std.proofs.Common.{◌≡◌, ℕ, ◌+◌, ◌*◌, ◌%◌, ◌<◌, ap, ◌∙◌, arith}
use Rattle.icu_options.specs.Metadata.{case_first_of}
use Rattle.icu_table_provider.specs.MetadataFields.{bits_of_case}
use Rattle.icu_table_provider.proofs.MetadataLemmas.{case_first_back}
use Rattle.icu_table_provider.proofs.metadata.CollationMetadata.new.Goals as goal

pub returns-clause-case_first : goal.returns-clause-case_first
returns-clause-case_first c =
    let low : ℕ = c.bits_of_group.result + c.bit.result + c.bit-2.result + c.bit-3.result + c.bit-4.result + c.bit-5.result + c.bit-6.result in
    let below : low < 512 = grind (arith, c.bits_of_group.ensures.bound, c.bit.ensures, c.bit-2.ensures, c.bit-3.ensures, c.bit-4.ensures, c.bit-5.ensures, c.bit-6.ensures) in
    let same : low + c.bits_of_case.result * 512 % 4294967296 ≡ low + bits_of_case c.args.fields.case_first * 512
    = grind (arith, c.bits_of_case.ensures.value, c.bits_of_case.ensures.bound) in
    ap case_first_of same ∙ case_first_back low c.args.fields.case_first below
