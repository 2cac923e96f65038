-- One character more gets its entry after those before it.
use Rattle.std.proofs.Common.{ℕ, refl, sym, ap, ◌∙◌}
use Rattle.icu_table_provider.specs.builder.Building.{built_data, with_entries}
use Rattle.icu_table_data.specs.Data.{Data}
use Rattle.icu_table_mini.specs.Characters.{with_characters}
use Rattle.icu_table_mini.proofs.CharacterLemmas.{with_characters_item}
use Rattle.icu_table_mini.proofs.mini_characters.set_characters.Goals as goal

pub loop-c-init : goal.loop-c-init
unfolding with_characters
loop-c-init c = refl

pub loop-c-preserved : goal.loop-c-preserved
loop-c-preserved c =
    let before : Data = built_data c.args.builder.now in
    let x : ℕ × ℕ = c.loop-c-item.result in
    let set : Data → Data = λ d. record d { value = with_entries x.0 x.0 x.1 d.value } in
    let with_value : (ℕ → ℕ) → Data = λ v. record before { value = v } in
    c.set_entry.ensures
    ∙ ap set c.loop-c.invariant
    ∙ ap with_value (sym (with_characters_item c.args.characters.now c.loop-c.c-index x before.value c.loop-c-test.true c.loop-c-item.is))
