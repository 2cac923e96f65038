-- The tables of a tailoring are those of its root, with what was made.
use Rattle.std.proofs.Common.{◌≡◌, ℕ, List, Option, Some, Result, Ok, Err, IfErr, ap, sym, subst, ◌∙◌}
use Rattle.std.specs.Result.{IsErrAnd}
use Rattle.icu_table_provider.specs.declared.builder.data_vectors.OwnedData.{OwnedData}
use Rattle.icu_table_provider.specs.builder.OwnedData.{owned_data}
use Rattle.icu_table_provider.specs.Reorderings.{Reordering}
use Rattle.icu_table_provider.specs.CollatorTables.{CollatorTables}
use Rattle.icu_table_data.specs.Data.{Data}
use Rattle.icu_table_provider.specs.declared.well_formed.checked.CheckedTables.{CheckedTables}
use Rattle.icu_table_provider.specs.well_formed.Checked.{checked_tables}
use Rattle.icu_rule_parser.specs.declared.statement.RuleSetting.{RuleSetting}
use Rattle.icu_rule_tables.specs.RuleSettings.{tailored_bits}
use Rattle.icu_rule_tables.specs.Tailorings.{jamo_beside, root_beside, tables_by_rules}
use Rattle.icu_rule_tables.specs.StatesByRules.{mappings_beside}
use Rattle.icu_rule_tables.specs.declared.own_jamo.OwnJamo.{OwnJamo}
use Rattle.icu_rule_root.specs.declared.checked_root.CheckedRoot.{CheckedRoot}
use Rattle.icu_rule_weights.specs.declared.tailoring_numbers.tailoring_numbers.TailoringNumbers.{TailoringNumbers}
use Rattle.icu_rule_steps.specs.declared.symbolic_mappings.kept_mappings.Mappings.{Mappings}
use Rattle.icu_rule_tables.specs.tailored_entries.TailoredJamo.{TailorsJamo, jamo_or, root_or}
use Rattle.icu_rule_tables.specs.tailored_entries.TailoredDiacritics.{TailorsDiacritics}
use Rattle.icu_rule_tables.specs.declared.tailored_entries.jamo_table.JamoVectors.{JamoVectors}
use Rattle.icu_rule_tables.specs.declared.rule_tables_error.RuleTablesError.{RuleTablesError}

-- the tables over a root, with these bits and diacritics
abbrev pub tables_over : OwnedData → Option OwnJamo → List ℕ → Option Reordering → CheckedTables → ℕ → CollatorTables
tables_over lists own diacritics reordering at bits = record {
  tables = record {
    root = root_beside at own;
    tailoring = Some (owned_data lists);
    jamo = jamo_beside at own;
    diacritics = diacritics;
  };
  special = (checked_tables at).special;
  bits = bits;
  reordering = reordering;
}

pub tables_are : (at root : CheckedTables) (bits : ℕ) (lists : OwnedData) (own : Option OwnJamo) (diacritics read : List ℕ) (said kept : List RuleSetting)
    (made : Option Reordering)
    → at ≡ root → bits ≡ tailored_bits (checked_tables at) kept read → kept ≡ said → read ≡ diacritics
    → tables_over lists own diacritics made at bits
    ≡ tables_by_rules (checked_tables root) said (root_beside root own) (jamo_beside root own) (owned_data lists) diacritics made
tables_are at root bits lists own diacritics read said kept made same is settings secondaries =
    ap (tables_over lists own diacritics made at)
    (is ∙ ap (λ (s : List RuleSetting). tailored_bits (checked_tables at) s read) settings ∙ ap (tailored_bits (checked_tables at) said) secondaries)
    ∙ ap (λ (t : CheckedTables). tables_over lists own diacritics made t (tailored_bits (checked_tables t) said diacritics)) same

-- what tables give for jamo
abbrev pub GivesJamo : TailoringNumbers → Mappings CheckedRoot → Option OwnJamo → CheckedTables → Type 0
GivesJamo numbers kept own t =
    TailorsJamo mappings_beside numbers kept (checked_tables t).tables.root (checked_tables t).tables.jamo (root_beside t own) (jamo_beside t own)

pub jamo_given : (numbers : TailoringNumbers) (kept : Mappings CheckedRoot) (own : Option OwnJamo) (at root : CheckedTables)
    → at ≡ root → GivesJamo numbers kept own at → GivesJamo numbers kept own root
jamo_given numbers kept own at root same gives = subst (GivesJamo numbers kept own) same gives

-- what tables give for marks
pub diacritics_given : (numbers : TailoringNumbers) (kept : Mappings CheckedRoot) (at root : CheckedTables) (read made checked : List ℕ)
    → at ≡ root → checked ≡ made → read ≡ (checked_tables at).tables.diacritics
    → TailorsDiacritics mappings_beside numbers kept read made
    → TailorsDiacritics mappings_beside numbers kept (checked_tables root).tables.diacritics checked
diacritics_given numbers kept at root read made checked same is from gives =
    subst (λ (own : List ℕ). TailorsDiacritics mappings_beside numbers kept (checked_tables root).tables.diacritics own) (sym is)
    (subst (λ (before : List ℕ). TailorsDiacritics mappings_beside numbers kept before made)
    (from ∙ ap (λ (t : CheckedTables). (checked_tables t).tables.diacritics) same) gives)

-- what was made, if anything was, over a root and jamo that are these
pub made_over : (numbers : TailoringNumbers) (kept : Mappings CheckedRoot) (over base : Data) (jamo base_jamo : List ℕ) (found made : Option JamoVectors)
    → over ≡ base → jamo ≡ base_jamo → found ≡ made
    → TailorsJamo mappings_beside numbers kept over jamo (root_or over found) (jamo_or jamo found)
    → TailorsJamo mappings_beside numbers kept base base_jamo (root_or base made) (jamo_or base_jamo made)
made_over numbers kept over base jamo base_jamo found made root entries same gives =
    subst (λ (f : Option JamoVectors). TailorsJamo mappings_beside numbers kept base base_jamo (root_or base f) (jamo_or base_jamo f)) same
    (subst (λ (js : List ℕ). TailorsJamo mappings_beside numbers kept base js (root_or base found) (jamo_or js found)) entries
    (subst (λ (d : Data). TailorsJamo mappings_beside numbers kept d jamo (root_or d found) (jamo_or jamo found)) root gives))

-- what lists give for jamo, the root and the entries that were made of them give
pub jamo_checked : (numbers : TailoringNumbers) (kept : Mappings CheckedRoot) (over made checked : Data) (jamo made_jamo checked_jamo : List ℕ)
    → checked ≡ made → checked_jamo ≡ made_jamo → TailorsJamo mappings_beside numbers kept over jamo made made_jamo
    → TailorsJamo mappings_beside numbers kept over jamo checked checked_jamo
jamo_checked numbers kept over made checked jamo made_jamo checked_jamo root entries gives =
    subst (λ (d : Data). TailorsJamo mappings_beside numbers kept over jamo d checked_jamo) (sym root)
    (subst (λ (es : List ℕ). TailorsJamo mappings_beside numbers kept over jamo made es) (sym entries) gives)

-- what holds of an error holds of it where it is handed on
pub handed_on : {T : Type 0} (r : Result T RuleTablesError) (e : RuleTablesError) (P : RuleTablesError → Type 0)
    → IsErrAnd r (λ x. x ≡ e) → P e → IfErr r P
handed_on (Ok x) e P is p = tt
handed_on (Err x) e P is p = subst P (sym is) p
