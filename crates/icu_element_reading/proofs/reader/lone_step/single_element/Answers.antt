use Rattle.icu_table_data.specs.StoredData.{data_of}
use Rattle.icu_element_reading.specs.Reading.{element_tables}
use Rattle.icu_table_provider.specs.Tables.{entry_of}
use Rattle.icu_element_reading.proofs.LoneStepLemmas.{found_inside, found_fits, plain_single}
use Rattle.icu_element_reading.proofs.reader.lone_step.single_element.Goals as goal

pub ce_from_offset_ce32-requires-clause-inside : goal.ce_from_offset_ce32-requires-clause-inside
ce_from_offset_ce32-requires-clause-inside c = found_inside (data_of c.entry-entry.result.home) c.args.c c.entry-entry.result.ce32 c.entry-entry.ensures.well_formed

pub ce_from_offset_ce32-requires-clause-fits : goal.ce_from_offset_ce32-requires-clause-fits
ce_from_offset_ce32-requires-clause-fits c = found_fits (data_of c.entry-entry.result.home) c.args.c c.entry-entry.result.ce32 c.entry-entry.ensures.well_formed

pub returns-then-is_some : goal.returns-then-is_some
returns-then-is_some c =
    plain_single (entry_of (element_tables c.args.tables) c.args.c) (data_of c.entry-entry.result.home) c.entry-entry.result.ce32 c.args.c c.to_ce_simple_or_long_primary-plain.result c.entry-entry.ensures.value c.to_ce_simple_or_long_primary-plain.ensures
