use Rattle.std.proofs.Common.{[], ap, ◌∙◌}
use Rattle.std.specs.Option.{option_or}
use Rattle.icu_table_mappings.specs.Surroundings.{entry_between, nearest_of}
use Rattle.icu_table_mappings.proofs.entries_behind.entries_anywhere.Goals as goal

pub returns : goal.returns
unfolding nearest_of
returns c = λ after.
    c.in_ok-add_behind.ensures after ∙ ap (λ o. option_or (entry_between c.args.contexts.now [] after) o) (c.in_ok-entries.ensures after)
