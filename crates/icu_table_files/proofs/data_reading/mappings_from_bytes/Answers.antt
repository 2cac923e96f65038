use Rattle.icu_table_files.specs.fingerprint.FingerprintForms.{mapping_words}
use Rattle.icu_table_files.proofs.RefusalLemmas.{refused_numbers}
use Rattle.icu_table_files.proofs.data_reading.mappings_from_bytes.Goals as goal

pub returns-clause-refused : goal.returns-clause-refused
returns-clause-refused c =
    refused_numbers c.mappings_of_numbers.result mapping_words c.as_slice.result.now c.in_ok-numbers.numbers.items c.args.bytes.now
    c.in_ok-numbers.ensures.spelt c.in_ok-numbers.ensures.range c.as_slice.ensures.value c.mappings_of_numbers.ensures.refused
