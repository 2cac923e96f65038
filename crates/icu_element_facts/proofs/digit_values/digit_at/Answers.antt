use Rattle.std.proofs.Common.{◌≡◌, ◌<◌, false, is_some, ap, rules}
use Rattle.icu_table_data.specs.Data.{HomedEntry}
use Rattle.icu_table_data.proofs.ViolationLemmas.{weaker_some}
use Rattle.icu_table_provider.specs.Tables.{diacritic_of}
use Rattle.icu_element_reading.specs.boundaries.BoundaryTables.{boundary_reading}
use Rattle.icu_element_facts.specs.KeptFacts.{IsNumberDigit}
use Rattle.icu_element_facts.proofs.DigitCharLemmas.{number_digit}
use Rattle.icu_element_facts.proofs.digit_values.digit_at.Goals as goal

pub returns : goal.returns
unfolding boundary_reading
returns c =
    let reading = boundary_reading c.args.places.now in
    let low : c.args.c < 0xC0 = search rules in
    let plain : is_some (diacritic_of reading.tables c.args.c) ≡ false = search rules in
    weaker_some _ (λ d. IsNumberDigit reading c.args.c d)
    (λ d is. number_digit reading c.args.c d c.homed_entry-ce32.result.1 low plain (ap (λ (h : HomedEntry). h.entry) c.homed_entry-ce32.ensures.value) is.0 is.1.0 is.1.1)
    c.digit_of_entry.result c.digit_of_entry.ensures
