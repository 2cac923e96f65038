-- The lists one after another are all of Mini's characters.
use Rattle.std.proofs.Common.{ℕ, List, ◌++◌, append_assoc, ap, ◌∙◌}
use Rattle.icu_table_entries.specs.EncodedEntries.{digit_entry, simple_entry}
use Rattle.icu_table_provider.specs.builder.Building.{built_data}
use Rattle.icu_table_mini.specs.Characters.{mini_characters, mini_others, rising, with_characters_in}
use Rattle.icu_table_mini.proofs.CharacterLemmas.{both_given}
use Rattle.icu_table_mini.proofs.mini_characters.set_mini_characters.Goals as goal

pub returns : goal.returns
unfolding mini_characters mini_others
returns c =
    let d = built_data c.args.builder.now in
    let digits : List (ℕ × ℕ) = rising 0x30 (digit_entry 0 0) 0x2100 10 in
    let small : List (ℕ × ℕ) = rising 0x61 (simple_entry 0x6110 5 0x05) 0x40000 26 in
    let capital : List (ℕ × ℕ) = rising 0x41 (simple_entry 0x6110 5 0x9C) 0x40000 26 in
    let others_given = c.set_characters.ensures ∙ ap (with_characters_in d) c.mini_others.ensures in
    let with_digits = both_given d _ _ mini_others digits others_given c.set_digits.ensures in
    let with_small = both_given d _ _ (mini_others ++ digits) small with_digits c.set_letters.ensures in
    both_given d _ _ ((mini_others ++ digits) ++ small) capital with_small c.set_letters-2.ensures
    ∙ ap (with_characters_in d) (append_assoc (mini_others ++ digits) small capital ∙ append_assoc mini_others digits (small ++ capital))
