-- By the same tables, and with digits read as before, texts are read alike: what is kept of characters stays true.
use Rattle.std.proofs.Common.{◌≡◌, Bool, true, false, Some, None, if◌then◌else◌, refl, sym, ◌∙◌, subst, rules}
use mathlib.Core.Bool.{not, beq}
use Rattle.icu_table_provider.specs.CollatorTables.{CollatorTables}
use Rattle.icu_table_provider.specs.Metadata.{is_lithuanian}
use Rattle.icu_element_reading.specs.ReachableTexts.{collator_reading}
use Rattle.icu_element_reading.specs.TextElements.{Reading}
use Rattle.icu_element_facts.specs.FactsTables.{AreFacts}
use Rattle.icu_element_facts.specs.declared.facts_table.KeptFacts.{KeptFacts}

-- two settings that were compared, and do not differ
same : (a b : Bool) → not (beq a b) ≡ false → a ≡ b
same true true e = refl
same false false e = refl
same true false e = search rules
same false true e = search rules

-- how texts are read, with digits as numbers or not
abbrev reading_with : CollatorTables → Bool → Reading
reading_with all numeric = collator_reading all (if numeric then Some all.special.numeric else None) (is_lithuanian all.bits)

-- the setting that is asked for, and the one that a collator has, as they were read
pub facts_stay : (all : CollatorTables) (kept : KeptFacts) (asked own : Bool) (x y : Bool) → x ≡ asked → y ≡ own → not (beq x y) ≡ false
    → AreFacts (reading_with all own) kept → AreFacts (reading_with all asked) kept
facts_stay all kept asked own x y p q e facts =
    subst (λ (n : Bool). AreFacts (reading_with all n) kept) (sym q ∙ (sym (same x y e) ∙ p)) facts
