use Rattle.icu_cldr_files.proofs.xml.ContentLemmas.{prolog_in}
use Rattle.icu_cldr_files.proofs.xml.prolog.behind_prolog.Goals as goal

pub returns-clause-prolog : goal.returns-clause-prolog
returns-clause-prolog c =
    prolog_in c.args.text.now c.behind_mark-marked.result.now c.in_ok-declared.declared.now c.in_ok-before.before.now c.in_ok-typed.typed.now c.in_ok-rest.rest.now
    c.behind_mark-marked.ensures c.in_ok-declared.ensures.declaration c.in_ok-before.ensures.misc c.in_ok-typed.ensures.document_type c.in_ok-rest.ensures.misc
