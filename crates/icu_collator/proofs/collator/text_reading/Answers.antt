-- The reading has what the tables and the settings say.
use Rattle.std.proofs.Common.{ap, ◌∙◌}
use Rattle.icu_table_provider.specs.Metadata.{is_lithuanian}
use Rattle.icu_collator.proofs.collator.text_reading.Goals as goal

pub returns-clause-reading : goal.returns-clause-reading
returns-clause-reading c =
    let lithuanian = c.lithuanian_dot_above.ensures ∙ ap is_lithuanian c.metadata.ensures in
    rw (c.new.ensures, c.numeric_primary.ensures, lithuanian)
