-- The mappings' characters were appended.
use Rattle.std.proofs.Common.{◌∙◌, sym, ap, ◌++◌, if◌then◌else◌}
use Rattle.std.specs.List.{list_any}
use Rattle.icu_table_provider.specs.well_formed.MappingCharacters.{is_named, is_named_in}
use Rattle.icu_table_provider.specs.well_formed.MappingCharacters.{has_character}
use Rattle.icu_table_provider.proofs.well_formed.NamedLemmas.{contexts_absent, absent_from_both, on_ok_by}
use Rattle.icu_table_provider.proofs.well_formed.named_characters.push_named.Goals as goal

pub returns-clause-mappings : goal.returns-clause-mappings
returns-clause-mappings c =
    let mapping_chars = c.parts-2.result.2.now in
    let old = c.args.chars.now.items in
    on_ok_by c.extend_from_slice.result
    (λ ok. λ x absent.
    let appended = c.extend_from_slice.ensures.items ∙ ap (λ b. if b then old ++ mapping_chars else old) ok in
    let none = absent_from_both x old mapping_chars (sym (ap (has_character x) appended) ∙ absent) in
    ap (is_named x) (sym c.parts.ensures.value) ∙ ap (list_any (is_named_in x)) (sym c.parts-2.ensures.value)
    ∙ contexts_absent x c.parts-2.result.0.now c.parts-2.result.1.now mapping_chars none.1)
