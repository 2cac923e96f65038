use Rattle.std.proofs.Common.{inr, rules}
use Rattle.icu_cldr_files.specs.xml.XmlDocuments.{AreDeclared}
use Rattle.icu_cldr_files.proofs.xml.ContentLemmas.{declaration_in}
use Rattle.icu_cldr_files.proofs.xml.prolog.declaration.Goals as goal

pub returns-in-Some-behind-clause-declaration : goal.returns-in-Some-behind-clause-declaration
returns-in-Some-behind-clause-declaration c =
    let declared : AreDeclared c.in_ok-attributes.attributes.items = search rules in
    let found = declaration_in c.in_ok-attributes.attributes.items c.args.text.now c.in-Some.rest.now c.in_ok-attributes.rest.now c.in-Some-behind.rest.now
    c.in-Some.ensures c.in_ok-attributes.ensures.spelled c.in_ok-attributes.ensures.distinct declared c.in-Some-behind.ensures in
    (found.0, found.1, inr found.2)
