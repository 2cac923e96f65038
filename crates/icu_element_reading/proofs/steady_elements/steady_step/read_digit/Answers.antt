use Rattle.std.proofs.Common.{rules}
use Rattle.icu_table_data.specs.StoredData.{data_of}
use Rattle.icu_element_reading.proofs.ReadableLemmas.{plain_inside, plain_readable}
use Rattle.icu_element_reading.proofs.steady_elements.steady_step.read_digit.Goals as goal

pub get_ce32-requires : goal.get_ce32-requires
get_ce32-requires g c =
    let inside = plain_inside (data_of c.args.home) c.args.c c.args.found.now.ce32 c.requires.well_formed c.requires.is_digit in search rules

pub read_final-requires : goal.read_final-requires
read_final-requires g c =
    let readable = plain_readable (data_of c.args.home) c.args.c c.args.found.now.ce32 c.requires.well_formed c.requires.is_digit in search rules
