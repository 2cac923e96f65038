use Rattle.std.proofs.Common.{◌∙◌, sym, subst}
use Rattle.std.specs.Prelude.{string_bytes}
use Rattle.icu_table_files.specs.inner.ReadRefusals.{IsNoFrameError}
use Rattle.icu_table_files.proofs.FileReadLemmas.{data_no_frame, data_no_memory}
use Rattle.icu_table_files.proofs.table_file.file_of.Goals as goal

pub returns-in-Ok-clause-keeps : goal.returns-in-Ok-clause-keeps
returns-in-Ok-clause-keeps c = λ i. record {
  tag = string_bytes c.args.texts.tag;
  cldr = string_bytes c.args.texts.cldr;
  unicode = string_bytes c.args.texts.unicode;
  tables = c.in-Ok.ensures.keeps i;
}

pub returns-in-Err-clause-refused : goal.returns-in-Err-clause-refused
returns-in-Err-clause-refused c = λ borrows well_formed. c.from.ensures ∙ data_no_memory c.in-Err.error (c.in-Err.ensures.refuses borrows well_formed)

pub returns-in-Err-clause-unframed : goal.returns-in-Err-clause-unframed
returns-in-Err-clause-unframed c = subst IsNoFrameError (sym c.from.ensures) (data_no_frame c.in-Err.error)
