use Rattle.std.proofs.Common.{◌≡◌, ◌<◌, length, string_bytes, subst, rules, arith}
use Rattle.icu_cldr_files.specs.xml.XmlCharacters.{with_spaces}
use Rattle.icu_cldr_files.specs.xml.CharacterReferences.{WritesValue}
use Rattle.icu_cldr_files.specs.declared.xml.event.Attribute.{Attribute}
use Rattle.icu_cldr_files.proofs.xml.ContentLemmas.{attribute_in}
use Rattle.icu_cldr_files.proofs.xml.attributes.read_attribute.Goals as goal

pub returns-clause-attribute : goal.returns-clause-attribute
returns-clause-attribute c =
    let attribute : Attribute = record { name = c.in_ok-name.name; value = c.in-Ok.value } in
    let plain : c.as_str.result.now ≡ with_spaces c.in_ok-written.written.now = search rules in
    let some : 0 < length c.run.result.0.now = search rules in
    attribute_in attribute c.args.text.now c.run.result.0.now c.run.result.1.now c.in_ok-name.rest.now c.run-2.result.0.now c.run-2.result.1.now c.in-Some.rest.now
    c.run-3.result.0.now c.run-3.result.1.now c.in_ok-written.written.now c.in_ok-written.rest.now
    c.run.ensures.whole some c.in_ok-name.ensures.whole c.in_ok-name.ensures.name c.run-2.ensures.whole c.in-Some.ensures c.run-3.ensures.whole c.in_ok-written.ensures.quoted
    c.run.ensures.each c.run-2.ensures.each c.run-3.ensures.each c.in_default-cut_around.ensures
    (subst (λ t. WritesValue t (string_bytes c.in-Ok.value)) plain c.in-Ok.ensures.value)
