use Rattle.std.proofs.Common.{◌≡◌, ◌&&◌, ◌||◌, ◌∙◌, ℕ, Bool, false, ap}
use Rattle.icu_table_entries.specs.Entries.{fallback_entry}
use Rattle.icu_table_provider.specs.builder.Building.{built_data, empty_data}
use Rattle.icu_table_provider.specs.builder.OwnedData.{vectors_data}
use Rattle.icu_rule_meaning.specs.Rules.{have_character}
use Rattle.icu_rule_steps.specs.symbolic_mappings.TouchedCharacters.{suppressed_in, touched_in}
use Rattle.icu_rule_tables.specs.tailored_entries.inner.TailoredSets.{loses_contexts}
use Rattle.icu_rule_tables.proofs.tailored_entries.TailoredCharacterLemmas.{all_given, built_tailors, nothing_set}
use Rattle.icu_rule_tables.proofs.tailored_entries.tailored_lists.tailored_data.Goals as goal

pub returns : goal.returns
returns g c =
    let root = g.R.RootMappings.mappings_of in
    let t = c.args.numbers.now in
    let held = c.args.mappings.now in
    let given : ℕ → Bool = λ x. (false || touched_in held x) || (have_character (suppressed_in held) x && loses_contexts root held x) in
    let empty : built_data c.in_ok-builder.builder ≡ empty_data fallback_entry = c.in_ok-builder.ensures ∙ ap empty_data c.fallback.ensures.entry in
    built_tailors root t held (built_data c.set_suppressed.new.builder) (vectors_data c.in_ok-build.field-0) given c.in_ok-build.ensures.says
    (c.in_ok-set_suppressed.ensures (λ x. false || touched_in held x)
    (c.in_ok-set_touched.ensures (λ _. false) (nothing_set root t held (built_data c.in_ok-builder.builder) empty))) (all_given root t held)
