-- What was visited comes after what there was.
use Rattle.std.proofs.Common.{◌∙◌}
use Rattle.icu_table_data.specs.Data.{homed}
use Rattle.icu_table_data.specs.Final.{final_elements}
use Rattle.icu_table_data.specs.StoredData.{data_of}
use Rattle.icu_element_reading.proofs.ReaderLemmas.{fold_pushed}
use Rattle.icu_element_facts.specs.FewElements.{few_elements}
use Rattle.icu_element_facts.proofs.few_elements.FewElements.with_final.Goals as goal

pub returns-in-Ok : goal.returns-in-Ok
returns-in-Ok c =
    c.in-Ok.ensures ∙ fold_pushed (few_elements c.args.self) (final_elements (homed (data_of c.args.home) c.args.ce32) c.args.c)
