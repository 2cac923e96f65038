-- The elements of the roots of checked tables, and of tailorings, have lower halves of 16 bits.
use Rattle.std.proofs.Common.{ℕ, ◌<◌, ◌^◌, List, [], ◌∷◌, map, Option, Some, None, arith}
use Rattle.std.specs.List.{AllByRecursion}
use Rattle.icu_table_entries.specs.Elements.{Element, element_of}
use Rattle.icu_table_data.specs.Data.{Data}
use Rattle.icu_table_provider.specs.builder.OwnedData.{owned_data, vectors_data}
use Rattle.icu_table_provider.specs.declared.builder.data_vectors.OwnedData.{OwnedData}
use Rattle.icu_table_provider.specs.OwnedTables.{owned_tables}
use Rattle.icu_table_provider.specs.declared.table_set.OwnedTables.{OwnedTables}
use Rattle.icu_table_provider.specs.declared.well_formed.checked.CheckedTables.{CheckedTables}
use Rattle.icu_rule_tables.specs.Tailorings.{root_beside, tailored_tables}
use Rattle.icu_rule_tables.specs.declared.own_jamo.OwnJamo.{OwnJamo}
use Rattle.icu_rule_tables.specs.declared.tailoring.Tailoring.{Tailoring}

abbrev pub HaveHalves : Data → Type 0
HaveHalves d = AllByRecursion (λ (x : Element). x.lower < 2 ^ 16) d.elements

stored_halves : (ces : List ℕ) → AllByRecursion (λ (x : Element). x.lower < 2 ^ 16) (map element_of ces)
stored_halves [] = tt
stored_halves (bits ∷ ces) = (omega arith, stored_halves ces)

owned_halves : (o : OwnedData) → HaveHalves (owned_data o)
unfolding owned_data vectors_data
owned_halves o = stored_halves o.vectors.ces.items

tables_halves : (o : OwnedTables) → HaveHalves (owned_tables o).tables.root
unfolding owned_tables
tables_halves o = owned_halves o.root

pub beside_halves : (over : CheckedTables) (own : Option OwnJamo) → HaveHalves (root_beside over own)
beside_halves over None = tables_halves _
beside_halves over (Some own) = owned_halves own.root

pub tailored_halves : (t : Tailoring) → HaveHalves (tailored_tables t).tables.root
tailored_halves t = beside_halves t.root.now t.jamo
