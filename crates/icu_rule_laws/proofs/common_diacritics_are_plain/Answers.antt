-- Without diacritics of their own both tables have as many as all collations have in common.
use Rattle.std.proofs.Common.{◌≡◌, Bool, true, false, ◌||◌, length, refl, sym, subst, ◌∙◌}
use Rattle.std.specs.Prelude.{IsTrue}
use Rattle.std.proofs.lemmas.Bool.{eqb-true}
use Rattle.icu_table_provider.specs.CollatorTables.{CollatorTables}
use Rattle.icu_table_provider.specs.Metadata.{has_tailored_diacritics}
use Rattle.icu_table_provider.specs.declared.well_formed.condition.Condition.TheVariants as conditions
use Rattle.icu_table_provider.specs.well_formed.Checked.{checked_tables}
use Rattle.icu_table_provider.specs.well_formed.WellFormedTables.{IsWellFormedTables}
use Rattle.icu_table_provider.specs.declared.well_formed.checked.CheckedTables.{CheckedTables}
use Rattle.icu_rule_root.specs.declared.checked_root.CheckedRoot.{CheckedRoot}
use Rattle.icu_rule_root.specs.StoredRoots.{tables_beside}
use Rattle.icu_rule_tables.specs.Tailorings.{tailored_tables}
use Rattle.icu_rule_laws.specs.RuleTexts.{CommonDiacriticsArePlain}
use Rattle.icu_rule_laws.specs.tailored_texts.TailoredTexts.{DiacriticsOfOneLengthArePlain}
use Rattle.icu_rule_laws.proofs.common_diacritics_are_plain.Goals as goal

first_holds : (a b : Bool) → IsTrue (a || b) → b ≡ false → a ≡ true
first_holds true b h e = refl
first_holds false true h e = cc
first_holds false false h e = cc

common_count : (all : CollatorTables) → IsWellFormedTables all → has_tailored_diacritics all.bits ≡ false → length all.tables.diacritics ≡ 79
common_count all ok none = eqb-true (length all.tables.diacritics) 79 (first_holds _ _ (ok.each conditions.DiacriticCount) none)

are_plain : (root : CheckedRoot) → IsWellFormedTables (checked_tables (tables_beside root)) → DiacriticsOfOneLengthArePlain → CommonDiacriticsArePlain root
are_plain root base plain t ok none over = record {
  accepted = ok;
  plain = plain (checked_tables (tables_beside root)).tables (tailored_tables t).tables
      (common_count (tailored_tables t) ok none ∙ sym (common_count (checked_tables (tables_beside root)) base over));
}

pub returns : goal.returns
returns c =
    are_plain c.args.root.now
    (subst (λ (t : CheckedTables). IsWellFormedTables (checked_tables t)) c.tables-tables.ensures c.are_well_formed.ensures)
    c.diacritics_of_one_length_are_plain.ensures
