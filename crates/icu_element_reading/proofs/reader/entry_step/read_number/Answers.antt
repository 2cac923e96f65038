use Rattle.icu_table_data.specs.StoredData.{data_of}
use Rattle.icu_element_reading.proofs.ReadableLemmas.{match_decimal}
use Rattle.icu_element_reading.proofs.reader.entry_step.read_number.Goals as goal

pub take_number-requires-clause-decimal : goal.take_number-requires-clause-decimal
take_number-requires-clause-decimal c =
    match_decimal (data_of c.args.home) c.args.c c.args.found.now.ce32 c.requires.well_formed c.requires.is_digit
