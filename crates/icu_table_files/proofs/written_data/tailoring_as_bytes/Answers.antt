use Rattle.std.proofs.Common.{ap, sym}
use Rattle.std.specs.Prelude.{option_map}
use Rattle.icu_table_data.specs.StoredData.{data_of}
use Rattle.icu_table_files.proofs.WrittenLemmas.{tailoring_spelt}
use Rattle.icu_table_files.proofs.written_data.tailoring_as_bytes.Goals as goal

pub returns-in-Some : goal.returns-in-Some
returns-in-Some c =
    tailoring_spelt c.data_as_bytes.result (data_of c.in-Some.home) (option_map data_of c.args.tailoring) (sym (ap (option_map data_of) c.in-Some.is)) c.data_as_bytes.ensures
