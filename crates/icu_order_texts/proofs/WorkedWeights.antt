-- Tertiaries of a few elements in each form, and a reachable secondary.
use Rattle.std.proofs.Common.{◌≡◌, ℕ, [], ◌∷◌, None, refl, inr, arith, lit<}
use Rattle.icu_order_levels.specs.declared.forms.TertiaryForm.TheVariants.{WithoutCase, LowerFirst, UpperFirst}
use Rattle.icu_table_entries.specs.declared.error.DataTable.TheVariants.{Diacritics}
use Rattle.icu_table_entries.specs.Elements.{Element, of_secondary}
use Rattle.icu_table_provider.specs.CollatorTables.{CollatorTables}
use Rattle.icu_order_texts.specs.weighting.Levels.{tertiary_in}
use Rattle.icu_order_texts.specs.ReachableWeights.{least_secondary_lead, IsReachableSecondary}

-- a letter, a capital with a quaternary, one of mixed case, and an element with a tertiary alone
abbrev of_lower : ℕ → Element
of_lower l = record { primary = 0x61100000; secondary = 0x500; lower = l }

abbrev tertiary_element : Element
tertiary_element = record { primary = 0; secondary = 0; lower = 0x8601 }

small_letter : (tertiary_in WithoutCase (of_lower 0x500) ≡ 0x500) × (tertiary_in LowerFirst (of_lower 0x500) ≡ 0x500) × (tertiary_in UpperFirst (of_lower 0x500) ≡ 0xC500)
small_letter = (refl, refl, refl)

capital : (tertiary_in WithoutCase (of_lower 0x9C40) ≡ 0x1C00) × (tertiary_in LowerFirst (of_lower 0x9C40) ≡ 0x9C00) × (tertiary_in UpperFirst (of_lower 0x9C40) ≡ 0x5C00)
capital = (refl, refl, refl)

mixed : (tertiary_in WithoutCase (of_lower 0x5C00) ≡ 0x1C00) × (tertiary_in LowerFirst (of_lower 0x5C00) ≡ 0x5C00) × (tertiary_in UpperFirst (of_lower 0x5C00) ≡ 0x9C00)
mixed = (refl, refl, refl)

tertiary_alone : (tertiary_in WithoutCase tertiary_element ≡ 0x601) × (tertiary_in LowerFirst tertiary_element ≡ 0x8601) × (tertiary_in UpperFirst tertiary_element ≡ 0xC601)
tertiary_alone = (refl, refl, refl)

-- two diacritics and nothing else, forward
abbrev diacritics_alone : CollatorTables
diacritics_alone = record {
  tables = record {
    root = record { value = λ c. 0; elements = []; entries = []; contexts = [] };
    tailoring = None;
    jamo = [];
    diacritics = 0x8800 ∷ 0x8A00 ∷ [];
  };
  special = record { last = []; numeric = 0x0F };
  bits = 0;
  reordering = None;
}

forward_lead : least_secondary_lead diacritics_alone ≡ 2
forward_lead = refl

second_diacritic : IsReachableSecondary diacritics_alone 0x8A00
second_diacritic = inr (record {
  table = Diacritics;
  element = of_secondary 0x8A00;
  reachable = record { place = 1; inside = lit< tt; kept = refl; is = refl };
  some = λ e. omega (arith, e);
  is = refl;
})
