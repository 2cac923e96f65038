-- Texts are read by the tables of rules as the rules say.
use Rattle.std.proofs.Common.{◌≡◌, ℕ, List, map, Some, refl, ap, sym, subst, ◌∙◌, arith}
use Rattle.std.specs.Char.{IsScalar}
use Rattle.std.specs.List.{AllByRecursion}
use Rattle.std.proofs.lemmas.Bool.Decides.{nat_tests}
use Rattle.icu_table_data.specs.Data.{Data}
use Rattle.icu_table_provider.specs.CollatorTables.{CollatorTables}
use Rattle.icu_table_provider.specs.Tables.{Tables}
use Rattle.icu_table_provider.specs.well_formed.Checked.{checked_tables}
use Rattle.icu_table_provider.specs.well_formed.WellFormedTables.{IsWellFormedTables}
use Rattle.icu_element_reading.specs.TextElements.{non_numeric_reading, elements_of}
use Rattle.icu_rule_parser.specs.declared.rules.PlacedStatement.{PlacedStatement}
use Rattle.icu_rule_root.specs.declared.checked_root.CheckedRoot.{CheckedRoot}
use Rattle.icu_rule_root.specs.StoredRoots.{stored_root, tables_beside}
use Rattle.icu_rule_root.proofs.RootEntryLemmas.{entry_well_formed}
use Rattle.icu_rule_meaning.specs.Rules.{rules_of}
use Rattle.icu_rule_meaning.specs.Steps.{TailoringState}
use Rattle.icu_rule_meaning.specs.TailoredMappings.{SymbolicMappings, symbolic_elements}
use Rattle.icu_rule_weights.specs.tailoring_numbers.NumberedElements.{RootElementsStay, numbered_element}
use Rattle.icu_rule_weights.specs.declared.tailoring_numbers.tailoring_numbers.TailoringNumbers.{TailoringNumbers}
use Rattle.icu_rule_laws.specs.mapped_texts.MappedTexts.{weighted}
use Rattle.icu_rule_tables.specs.StatesByRules.{mappings_beside, state_over}
use Rattle.icu_rule_tables.specs.Tailorings.{HasTablesOf, tailored_tables}
use Rattle.icu_rule_tables.specs.declared.tailoring.Tailoring.{Tailoring}
use Rattle.icu_rule_tables.proofs.TailoredHalves.{HaveHalves, tailored_halves}
use Rattle.icu_rule_laws.specs.tailored_texts.SaidMappings.{HasMappingAlone}
use Rattle.icu_rule_laws.specs.tailored_texts.TailoredTexts.{AreLegible, HasPlainDiacritics, IsScalarCode, TailorTables}
use Rattle.icu_rule_laws.proofs.tailored_texts.AloneMappings.{roots_have_alone, rules_keep_alone}
use Rattle.icu_rule_laws.proofs.tailored_texts.TailoredTextLemmas.{read_by_tailorings}
use Rattle.icu_rule_laws.specs.RuleTexts.{AreRuledTables, TextsAreReadByRules, tables_of_root}

-- a scalar value is one of std
scalar_of : (c : ℕ) → IsScalarCode c → IsScalar c
scalar_of c h = grind (arith, nat_tests)

module _ (root : CheckedRoot) (state : TailoringState) (numbers : TailoringNumbers) (t : Tailoring)
    (stays : RootElementsStay) (base : IsWellFormedTables (checked_tables (tables_beside root)))
    (h : HasTablesOf root numbers state t) (alone : (c : ℕ) → HasMappingAlone (state.mappings c)) where
  abbrev made_tables : Tables
  made_tables = record { root = h.root; tailoring = Some h.own; jamo = h.jamo; diacritics = h.diacritics }

  are_made : (tailored_tables t).tables ≡ made_tables
  are_made = ap (λ (all : CollatorTables). all.tables) h.are

  tailor : TailorTables mappings_beside numbers h.given.kept (tables_of_root root) h.own made_tables
  tailor = record {
    of_root = h.given.of_root;
    tailoring = refl;
    characters = h.given.gives;
    jamo = h.given.gives_jamo;
    diacritics = h.given.gives_diacritics;
  }

  legible : AreRuledTables root t → AreLegible mappings_beside h.given.kept (tables_of_root root) h.own made_tables
  legible ok =
      let accepted : IsWellFormedTables _ = subst IsWellFormedTables h.are ok.accepted in
      record {
        ascending = accepted.tables.tailoring h.own refl;
        ascending_root = accepted.tables.root;
        halves = subst (λ (d : Data). HaveHalves d) (ap (λ (ts : Tables). ts.root) are_made) (tailored_halves t);
        rooted = λ c char. entry_well_formed (checked_tables (tables_beside root)) base c (scalar_of c char);
        plain = subst (HasPlainDiacritics (tables_of_root root)) are_made ok.plain;
        alone = λ c char. subst (λ (ms : SymbolicMappings). HasMappingAlone (ms c)) (sym h.given.same) (alone c);
      }

  pub read_by_state : AreRuledTables root t → (text : List ℕ) → AllByRecursion IsScalarCode text
      → weighted (elements_of (non_numeric_reading (tailored_tables t).tables) text)
      ≡ weighted (map (numbered_element numbers) (symbolic_elements state.mappings text))
  read_by_state ok text all =
      ap (λ (tables : Tables). weighted (elements_of (non_numeric_reading tables) text)) are_made
      ∙ read_by_tailorings mappings_beside stays numbers h.given.kept (tables_of_root root) h.own made_tables tailor
      (legible ok) text all
      ∙ ap (λ (ms : SymbolicMappings). weighted (map (numbered_element numbers) (symbolic_elements ms text))) h.given.same

state_has_alone : (root : CheckedRoot) (statements : List PlacedStatement) (c : ℕ) → HasMappingAlone ((state_over root statements).mappings c)
state_has_alone root statements = rules_keep_alone (stored_root root) (rules_of statements) (roots_have_alone (tables_of_root root))

pub read_by_rules : RootElementsStay → (root : CheckedRoot) → IsWellFormedTables (checked_tables (tables_beside root)) → TextsAreReadByRules root
read_by_rules stays root base statements t says ok text all =
    read_by_state root (state_over root statements) says.numbers t stays base says.tables (state_has_alone root statements) ok text all
