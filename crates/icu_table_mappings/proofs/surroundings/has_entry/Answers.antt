use Rattle.std.proofs.Common.{ap, ◌∙◌}
use Rattle.std.specs.Prelude.{is_some}
use Rattle.icu_table_mappings.proofs.SurroundingLemmas.{found_among}
use Rattle.icu_table_mappings.proofs.surroundings.has_entry.Goals as goal

pub returns : goal.returns
returns c = c.is_some.ensures ∙ ap is_some (c.copied.ensures ∙ c.get.ensures.value ∙ found_among c.args.entries.now.entries c.args.chars.now)
