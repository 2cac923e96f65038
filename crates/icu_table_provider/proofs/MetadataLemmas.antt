-- The bits of the case that sorts first are read as what they were made of.
use Rattle.std.proofs.Common.{◌≡◌, ℕ, ◌+◌, ◌*◌, ◌<◌, arith}
use Rattle.icu_options.specs.Metadata.{case_first_of}
use Rattle.icu_options.specs.declared.settings.CollationCaseFirst.{CollationCaseFirst}
use Rattle.icu_options.specs.declared.settings.CollationCaseFirst.TheVariants.{False, Lower, Upper}
use Rattle.icu_table_provider.specs.MetadataFields.{bits_of_case}

pub case_first_back : (low : ℕ) (x : CollationCaseFirst) → low < 512 → case_first_of (low + bits_of_case x * 512) ≡ x
case_first_back low False below = grind (arith, below)
case_first_back low Lower below = grind (arith, below)
case_first_back low Upper below = grind (arith, below)
