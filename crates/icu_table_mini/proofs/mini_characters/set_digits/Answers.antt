-- One digit more gets its entry.
use Rattle.std.proofs.Common.{sym, ap, ◌∙◌, rules}
use Rattle.icu_table_entries.specs.EncodedEntries.{digit_entry}
use Rattle.icu_table_provider.specs.builder.Building.{built_data, set_in}
use Rattle.icu_table_data.specs.Data.{Data}
use Rattle.icu_table_mini.proofs.CharacterLemmas.{rising_none, rising_more}
use Rattle.icu_table_mini.proofs.mini_characters.set_digits.Goals as goal

pub loop-digit-init : goal.loop-digit-init
loop-digit-init c = sym (rising_none (built_data c.args.builder.now) 0x30 (digit_entry 0 0) 0x2100)

pub loop-digit-preserved : goal.loop-digit-preserved
loop-digit-preserved c =
    let set : Data → Data = λ d. set_in d c.from-in-loop-digit.result c.from-in-loop-digit.result c.digit_with_plain-entry.result in
    c.set_entry.ensures ∙ ap set c.loop-digit.invariant
    ∙ sym (rising_more (built_data c.args.builder.now) 0x30 (digit_entry 0 0) 0x2100 c.loop-digit.digit _ _ (search rules) (search rules))
