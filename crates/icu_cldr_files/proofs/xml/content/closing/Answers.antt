use Rattle.icu_cldr_files.proofs.xml.ContentLemmas.{end_in}
use Rattle.icu_cldr_files.proofs.xml.content.closing.Goals as goal

pub returns-clause-piece : goal.returns-clause-piece
returns-clause-piece c =
    end_in c.args.text.now c.in_ok-name.name.now c.in_ok-name.rest.now c.run.result.0.now c.run.result.1.now c.in-Some.rest.now
    c.in_ok-name.ensures.name c.in_ok-name.ensures.whole c.run.ensures.whole c.run.ensures.each c.in-Some.ensures
