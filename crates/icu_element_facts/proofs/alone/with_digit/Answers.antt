-- A digit's plain entry is there, and may be read.
use Rattle.std.proofs.Common.{rules}
use Rattle.icu_table_data.specs.StoredData.{data_of}
use Rattle.icu_element_reading.proofs.ReadableLemmas.{plain_inside, plain_readable}
use Rattle.icu_element_facts.proofs.DigitEntryLemmas.{well_formed_digit}
use Rattle.icu_element_facts.proofs.alone.with_digit.Goals as goal

pub get_ce32-requires : goal.get_ce32-requires
get_ce32-requires c =
    let well_formed = well_formed_digit (data_of c.args.home) c.args.c c.args.ce32 c.requires.is_digit c.requires.well_formed in
    let inside = plain_inside (data_of c.args.home) c.args.c c.args.ce32 well_formed c.requires.is_digit in search rules

pub with_final-requires : goal.with_final-requires
with_final-requires c =
    let well_formed = well_formed_digit (data_of c.args.home) c.args.c c.args.ce32 c.requires.is_digit c.requires.well_formed in
    let readable = plain_readable (data_of c.args.home) c.args.c c.args.ce32 well_formed c.requires.is_digit in search rules
