use Rattle.icu_table_files.proofs.parts.SpeltCharLemmas.{refused_numbers, refused_chars}
use Rattle.icu_table_files.proofs.parts.number_readers.chars_from_bytes.Goals as goal

pub returns-clause-refused : goal.returns-clause-refused
returns-clause-refused c =
    refused_chars c.chars_of_numbers.result c.in_ok-numbers.numbers.items c.args.bytes.now c.in_ok-numbers.ensures.spelt c.in_ok-numbers.ensures.range
    (refused_numbers c.chars_of_numbers.result c.as_slice.result.now c.in_ok-numbers.numbers.items c.as_slice.ensures.value c.chars_of_numbers.ensures.refused)
