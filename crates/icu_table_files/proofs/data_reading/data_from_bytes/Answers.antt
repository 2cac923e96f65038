use Rattle.std.proofs.Common.{refl, arith}
use Rattle.icu_table_files.specs.TableFiles.{HasWidths}
use Rattle.icu_table_files.specs.TableBytes.{data_parts}
use Rattle.icu_table_files.specs.inner.Vectors.{parts_in_data}
use Rattle.icu_table_files.proofs.RefusalLemmas.{refused_parts}
use Rattle.icu_table_files.proofs.data_reading.data_from_bytes.Goals as goal

pub returns-in-Ok-clause-refused : goal.returns-in-Ok-clause-refused
returns-in-Ok-clause-refused c =
    refused_parts c.data_lists.result data_parts HasWidths (parts_in_data c.in-Ok.parts) c.args.bytes.now (omega arith) c.in-Ok.ensures.spelt c.data_lists.ensures.refused

pub returns-in-Err-clause-refused : goal.returns-in-Err-clause-refused
returns-in-Err-clause-refused c = λ s widths e. c.in-Err.ensures.refused (data_parts s) refl e
