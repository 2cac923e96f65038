use Rattle.icu_cldr_files.specs.declared.xml.event.StartTag.{StartTag}
use Rattle.icu_cldr_files.proofs.xml.ContentLemmas.{tag_in}
use Rattle.icu_cldr_files.proofs.xml.attributes.read_tag.Goals as goal

pub returns-clause-tag : goal.returns-clause-tag
returns-clause-tag c =
    let tag : StartTag = record { name = c.in_ok-name.name; attributes = c.in_ok-attributes.attributes } in
    let spelled = c.in_ok-attributes.ensures.spelled in
    tag_in tag c.args.text.now c.in_ok-name.rest.now spelled.0 spelled.1 c.in_ok-attributes.rest.now c.in_ok-name.ensures.whole c.in_ok-name.ensures.name
    spelled.2 spelled.3 spelled.4 c.in_ok-attributes.ensures.distinct
