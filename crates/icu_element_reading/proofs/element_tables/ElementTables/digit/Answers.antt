use Rattle.std.proofs.Common.{rules}
use Rattle.icu_table_data.specs.StoredData.{data_of}
use Rattle.icu_element_reading.proofs.MatchedAloneLemmas.{alone_decimal}
use Rattle.icu_element_reading.proofs.element_tables.ElementTables.digit.Goals as goal

pub returns-in-Digit-clause-decimal : goal.returns-in-Digit-clause-decimal
returns-in-Digit-clause-decimal c =
    let own = c.entry-own in
    let alone = c.matched_alone-ce32 in
    let decimal = alone_decimal (data_of own.result.home) c.args.c own.result.ce32 alone.result own.ensures.well_formed alone.ensures in search rules
