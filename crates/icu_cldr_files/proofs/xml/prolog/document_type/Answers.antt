use Rattle.std.proofs.Common.{inr}
use Rattle.icu_cldr_files.proofs.xml.ContentLemmas.{document_type_in}
use Rattle.icu_cldr_files.proofs.xml.prolog.document_type.Goals as goal

pub returns-clause-document_type : goal.returns-clause-document_type
returns-clause-document_type c =
    let found = document_type_in c.args.text.now c.in-Some.rest.now c.in_ok-named.named.now c.in_ok-rest.rest.now c.in_ok-after.after.now c.in-Some-behind.rest.now
    c.in_ok-literal.literal.now c.in_ok-closing.closing.now c.in_ok-end.end.now c.in_ok-rest.field-0-0.now c.in_ok-closing.field-0-0.now
    c.in-Some.ensures c.in_ok-named.ensures.space c.in_ok-rest.ensures.whole c.in_ok-rest.ensures.name c.in_ok-after.ensures.space c.in-Some-behind.ensures
    c.in_ok-literal.ensures.space c.in_ok-closing.ensures.quoted c.in_ok-end.ensures.end in
    (found.0, found.1, inr found.2)
