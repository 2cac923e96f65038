-- One letter more gets its entry.
use Rattle.std.proofs.Common.{sym, ap, ◌∙◌, rules}
use Rattle.icu_table_entries.specs.EncodedEntries.{simple_entry}
use Rattle.icu_table_provider.specs.builder.Building.{built_data, set_in}
use Rattle.icu_table_data.specs.Data.{Data}
use Rattle.icu_table_mini.proofs.CharacterLemmas.{rising_none, rising_more}
use Rattle.icu_table_mini.proofs.mini_characters.set_letters.Goals as goal

pub loop-index-init : goal.loop-index-init
loop-index-init c = sym (rising_none (built_data c.args.builder.now) c.args.first (simple_entry 0x6110 5 c.args.lower) 0x40000)

pub loop-index-preserved : goal.loop-index-preserved
loop-index-preserved c =
    let set : Data → Data = λ d. set_in d c.from-in-loop-index.result c.from-in-loop-index.result c.simple-entry.result in
    c.set_entry.ensures ∙ ap set c.loop-index.invariant
    ∙ sym (rising_more (built_data c.args.builder.now) c.args.first (simple_entry 0x6110 5 c.args.lower) 0x40000 c.loop-index.index _ _ (search rules) (search rules))
