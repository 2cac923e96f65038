use Rattle.std.proofs.Common.{refl, arith}
use Rattle.icu_table_files.specs.TableFiles.{HasReorderingWidths}
use Rattle.icu_table_files.specs.TableBytes.{reordering_parts}
use Rattle.icu_table_files.specs.inner.Vectors.{parts_in_reordering}
use Rattle.icu_table_files.proofs.RefusalLemmas.{refused_parts}
use Rattle.icu_table_files.proofs.other_reading.present_from_bytes.Goals as goal

pub returns-in-Ok-clause-refused : goal.returns-in-Ok-clause-refused
returns-in-Ok-clause-refused c =
    refused_parts c.reordering_lists.result reordering_parts HasReorderingWidths (parts_in_reordering c.in-Ok.parts) c.args.bytes.now (omega arith) c.in-Ok.ensures.spelt c.reordering_lists.ensures.refused

pub returns-in-Err-clause-refused : goal.returns-in-Err-clause-refused
returns-in-Err-clause-refused c = λ s widths e. c.in-Err.ensures.refused (reordering_parts s) refl e
