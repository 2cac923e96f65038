use Rattle.icu_cldr_files.proofs.xml.ContentLemmas.{comment_in}
use Rattle.icu_cldr_files.proofs.xml.content.read_comment.Goals as goal

pub returns-clause-comment : goal.returns-clause-comment
returns-clause-comment c =
    comment_in c.args.text.now c.in-Some._body.now c.in-Some.rest.now c.in-Some-behind.rest.now c.in-Some.ensures c.in-Some-behind.ensures
