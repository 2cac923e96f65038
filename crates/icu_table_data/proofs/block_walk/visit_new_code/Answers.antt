use Rattle.std.proofs.Common.{sym, ap, ◌∙◌}
use Rattle.std.specs.Prelude.{◌&&◌, ◌==◌}
use Rattle.icu_table_data.specs.Reachable.{goes_by_character}
use Rattle.icu_table_data.specs.StoredData.{data_of}
use Rattle.icu_table_data.proofs.SpentLemmas.{no_char, char_goes, char_falls, char_spent}
use Rattle.icu_table_data.proofs.WalkLemmas.{on_ok}
use Rattle.icu_table_data.proofs.block_walk.visit_new_code.Goals as goal

pub returns-in_default : goal.returns-in_default
returns-in_default g c = no_char g.V.Visit.after c.args.falls_back (data_of c.args.home) _ _ c.args.code c.in_default.ensures.value

pub returns-then-goes_by_character : goal.returns-then-goes_by_character
returns-then-goes_by_character g c =
    let value = c.bits_for_char-bits.ensures ∙ ap (data_of c.args.home).value c.in-Some.ensures.value.1 in
    char_goes g.V.Visit.after c.args.falls_back (data_of c.args.home) _ _ c.args.code
    (ap goes_by_character (sym (c.new-entry.ensures ∙ value)) ∙ sym c.goes_by_character.ensures ∙ c.if-goes_by_character.true)

pub returns-then-is_fallback : goal.returns-then-is_fallback
returns-then-is_fallback g c =
    let value = c.bits_for_char-bits.ensures ∙ ap (data_of c.args.home).value c.in-Some.ensures.value.1 in
    char_falls g.V.Visit.after c.args.falls_back (data_of c.args.home) _ _ c.args.code
    (ap (λ b. b && (data_of c.args.home).value c.args.code == 0xC0) c.if-falls_back.true ∙ ap (λ e. e == 0xC0) (sym (c.new-entry.ensures ∙ value)) ∙ sym c.is_fallback.ensures ∙ c.if-is_fallback.true)

pub returns : goal.returns
returns g c =
    let value = c.bits_for_char-bits.ensures ∙ ap (data_of c.args.home).value c.in-Some.ensures.value.1 in
    on_ok _ _ (char_spent g.V.Visit.after c.args.falls_back (data_of c.args.home) _ _ _ _ c.args.code _ (sym value)) _ c.visit_new.ensures
