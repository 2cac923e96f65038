-- The tables are those of the root, with what was made.
use Rattle.std.proofs.Common.{ap, sym, subst, option_map, ◌∙◌}
use Rattle.icu_table_data.specs.Data.{Data}
use Rattle.icu_rule_tables.specs.tailored_entries.GivenMappings.{TailorsCharacter}
use Rattle.icu_rule_tables.specs.StatesByRules.{mappings_beside}
use Rattle.icu_rule_steps.specs.symbolic_mappings.TouchedCharacters.{root_of}
use Rattle.icu_rule_steps.specs.declared.symbolic_mappings.kept_mappings.Mappings.{Mappings}
use Rattle.icu_rule_root.specs.declared.checked_root.CheckedRoot.{CheckedRoot}
use Rattle.icu_table_provider.specs.builder.OwnedData.{owned_data}
use Rattle.icu_table_provider.specs.OwnedTables.{owned_diacritics, owned_reordering}
use Rattle.icu_rule_root.specs.StoredRoots.{stored_root, tables_beside}
use Rattle.icu_rule_steps.specs.SymbolicTailorings.{settings_in}
use Rattle.icu_rule_tables.specs.RuleErrors.{IsErrorOfRules}
use Rattle.icu_rule_tables.specs.Tailorings.{jamo_beside, root_beside}
use Rattle.icu_rule_tables.proofs.TailoringLemmas.{diacritics_given, handed_on, jamo_given, tables_are}
use Rattle.icu_rule_tables.proofs.tailoring.Tailoring.of_numbers.Goals as goal

pub returns-clause-ok : goal.returns-clause-ok
returns-clause-ok c =
    let lists = c.in_ok-checked_data.field-0 in
    let diacritics = owned_diacritics c.in_ok-checked_diacritics.field-0 in
    let kept = c.mappings-mappings.result.now in
    let own = c.in_ok-jamo.jamo in
    let base = tables_beside c.args.root.now in
    record {
      root = root_beside base own;
      jamo = jamo_beside base own;
      own = owned_data lists;
      diacritics = diacritics;
      given = record {
        kept = kept;
        same = c.mappings-mappings.ensures.says;
        of_root = ap mappings_beside (ap (λ (m : Mappings CheckedRoot). root_of m) c.mappings-mappings.ensures.kept ∙ c.requires.over);
        gives = λ x small.
            subst (λ (d : Data). TailorsCharacter mappings_beside c.args.numbers.now kept d x)
            (sym c.in_ok-checked_data.ensures.ok) (c.in_ok-vectors.ensures x small);
        gives_jamo = jamo_given c.args.numbers.now kept own c.tables-tables.result.now base c.tables-tables.ensures c.in_ok-jamo.ensures.ok;
        gives_diacritics = diacritics_given c.args.numbers.now kept c.tables-tables.result.now base c.secondaries-secondaries.result.now
            c.in_ok-diacritics.diacritics.items diacritics c.tables-tables.ensures c.in_ok-checked_diacritics.ensures.ok
            (c.secondaries-secondaries.ensures.value ∙ c.diacritics.ensures) c.in_ok-diacritics.ensures;
      };
      reordering = option_map owned_reordering c.args.reordering;
      reordered = c.requires.reordered;
      are = tables_are c.tables-tables.result.now base c.tailored_metadata-metadata.result.bits lists own
          diacritics c.as_slice.result.now (settings_in c.args.said.now) _
          (option_map owned_reordering c.args.reordering) c.tables-tables.ensures c.tailored_metadata-metadata.ensures
          c.settings.ensures (c.as_slice.ensures.value ∙ sym c.in_ok-checked_diacritics.ensures.ok);
    }

pub returns-in_err-jamo-clause-err : goal.returns-in_err-jamo-clause-err
returns-in_err-jamo-clause-err c statements =
    handed_on c.from_residual.result c.in_err-jamo.field-0.0 (IsErrorOfRules (stored_root c.args.root.now) statements)
    c.from_residual.ensures.1 (c.in_err-jamo.ensures.err (stored_root c.args.root.now) statements)

pub returns-in_err-checked_data-clause-err : goal.returns-in_err-checked_data-clause-err
returns-in_err-checked_data-clause-err c statements =
    handed_on c.from_residual-in_err-checked_data.result c.in_err-checked_data.field-0.0 (IsErrorOfRules (stored_root c.args.root.now) statements)
    c.from_residual-in_err-checked_data.ensures.1 (c.in_err-checked_data.ensures.err (stored_root c.args.root.now) statements)

pub returns-in_err-checked_diacritics-clause-err : goal.returns-in_err-checked_diacritics-clause-err
returns-in_err-checked_diacritics-clause-err c statements =
    handed_on c.from_residual-in_err-checked_diacritics.result c.in_err-checked_diacritics.field-0.0 (IsErrorOfRules (stored_root c.args.root.now) statements)
    c.from_residual-in_err-checked_diacritics.ensures.1 (c.in_err-checked_diacritics.ensures.err (stored_root c.args.root.now) statements)
