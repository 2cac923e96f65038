use Rattle.std.proofs.Common.{ap, sym, ◌∙◌}
use Rattle.std.specs.Option.{option_or}
use Rattle.icu_table_mappings.specs.Surroundings.{entry_at}
use Rattle.icu_table_mappings.proofs.AddedContextLemmas.{between_from_get}
use Rattle.icu_table_mappings.proofs.surroundings.add_behind.Goals as goal

pub returns-in_ok-add_all-in-Some : goal.returns-in_ok-add_all-in-Some
returns-in_ok-add_all-in-Some c = λ after.
    c.in_ok-add_all-in-Some.ensures after
    ∙ ap (λ o. option_or o (entry_at c.args.entries.now after))
    (sym (between_from_get c.args.contexts.now c.args.before.now _ c.in-Some.ensures.value after))

pub returns-in-None : goal.returns-in-None
returns-in-None c = λ after.
    ap (λ o. option_or o (entry_at c.args.entries.now after))
    (sym (between_from_get c.args.contexts.now c.args.before.now _ c.in-None.ensures.value after))
