use Rattle.std.proofs.Common.{arith}
use Rattle.icu_table_data.specs.StoredData.{data_of}
use Rattle.icu_element_reading.proofs.ReadableLemmas.{match_decimal}
use Rattle.icu_element_reading.proofs.steady_elements.steady_step.decimal_digit.Goals as goal

pub returns-clause-decimal : goal.returns-clause-decimal
returns-clause-decimal c =
    let small = match_decimal (data_of c.args.home) c.args.c c.args.found.now.ce32 c.requires.well_formed c.requires.is_digit in
    omega (arith, c.digit.ensures.value, small)
