use Rattle.icu_table_data.specs.StoredData.{data_of}
use Rattle.icu_element_reading.proofs.ReadableLemmas.{match_readable}
use Rattle.icu_element_reading.proofs.steady_elements.steady_step.read_entry.Goals as goal

pub read_final-requires : goal.read_final-requires
read_final-requires g c = match_readable (data_of c.args.home) c.args.c c.args.found.now.ce32 c.requires
