use Rattle.std.proofs.Common.{◌≡◌, ◌∙◌, List, true, sym, subst}
use Rattle.icu_table_provider.specs.builder.Building.{built_data}
use Rattle.icu_table_mappings.specs.Given.{Spells}
use Rattle.icu_table_mappings.proofs.GrownListLemmas.{spells_further}
use Rattle.icu_rule_meaning.specs.declared.symbolic.SymbolicElement.{SymbolicElement}
use Rattle.icu_rule_meaning.specs.TailoredMappings.{has_no_context}
use Rattle.icu_rule_steps.specs.symbolic_mappings.StoredMappings.{symbolic_mapping}
use Rattle.icu_rule_tables.specs.tailored_entries.GivenMappings.{all_fit, numbered_elements}
use Rattle.icu_rule_tables.proofs.tailored_entries.MappingEntryLemmas.{entry_of_digit}
use Rattle.icu_rule_tables.proofs.tailored_entries.contexts.entry_of_mapping.Goals as goal

pub returns-in_ok-entry_of_digit-in-Some-clause-entry : goal.returns-in_ok-entry_of_digit-in-Some-clause-entry
returns-in_ok-entry_of_digit-in-Some-clause-entry c =
    let t = c.args.sources.numbers.now in
    let own = c.args.mapping.now in
    let alone : has_no_context (symbolic_mapping own) ≡ true = sym c.has_no_context.ensures ∙ c.if-not-has_no_context.false in
    let spelt : Spells (built_data c.entry_of_symbolic_elements.new.builder) c.in_ok-letter.letter (numbered_elements t own.elements.items) =
    subst (λ (es : List SymbolicElement). Spells (built_data c.entry_of_symbolic_elements.new.builder) c.in_ok-letter.letter (numbered_elements t es))
    c.as_slice-elements.ensures.value c.in_ok-letter.ensures.spells in
    let fit : all_fit t own.elements.items ≡ true =
    subst (λ (es : List SymbolicElement). all_fit t es ≡ true) c.as_slice-elements.ensures.value c.in_ok-letter.ensures.fits in
    entry_of_digit t (built_data c.entry_of_digit.new.builder) c.args.c (symbolic_mapping own) c.in_ok-letter.letter c.in-Some.value
    c.in_ok-entry_of_digit-in-Some.field-0 c.value_of_digit.result alone c.value_of_digit.ensures c.in-Some.is
    (spells_further _ _ c.in_ok-letter.letter (numbered_elements t own.elements.items) c.in_ok-entry_of_digit-in-Some.ensures.extends.lists spelt) fit
    c.in_ok-entry_of_digit-in-Some.ensures.digit
