-- Characters that go on a number.
use Rattle.std.proofs.Common.{◌≡◌, ℕ, ◌<◌, true, false, not, ◌&&◌, Option, Some, None, is_some, sym, ap, ◌∙◌}
use Rattle.icu_table_entries.specs.declared.entry.EntryKind.{EntryKind}
use Rattle.icu_table_entries.specs.declared.entry.EntryKind.TheVariants.{Digit}
use Rattle.icu_table_entries.specs.Entries.{kind_of, digit_value}
use Rattle.icu_table_provider.specs.Tables.{diacritic_of, entry_of}
use Rattle.icu_element_reading.specs.TextElements.{Reading, is_digit_kind, entry_alone}
use Rattle.icu_element_reading.proofs.MatchedAloneLemmas.{digit_alone}
use Rattle.icu_element_facts.specs.KeptFacts.{IsNumberDigit}

goes_on : (o : Option ℕ) (k : EntryKind) → is_some o ≡ false → k ≡ Digit → (not (is_some o) && is_digit_kind k) ≡ true
goes_on None k h is = ap is_digit_kind is
goes_on (Some x) k h is = cc

-- a digit's entry and no diacritic
pub number_digit : (reading : Reading) (c d e : ℕ) → c < 0xC0 → is_some (diacritic_of reading.tables c) ≡ false → (entry_of reading.tables c).entry ≡ e → kind_of e ≡ Digit → d ≡ digit_value e → d < 10
    → IsNumberDigit reading c d
number_digit reading c d e low plain is digit value decimal =
    let own : kind_of (entry_of reading.tables c).entry ≡ Digit = ap kind_of is ∙ digit in
    let alone : entry_alone reading.tables c ≡ e = digit_alone reading.tables c own ∙ is in
    record {
      low = low;
      own = own;
      continues = goes_on (diacritic_of reading.tables c) (kind_of (entry_alone reading.tables c)) plain (ap kind_of alone ∙ digit);
      value = ap digit_value alone ∙ sym value;
      decimal = decimal;
    }
