use Rattle.icu_cldr_files.proofs.xml.MarkCutLemmas.{lacks_where_none, cut_before_at}
use Rattle.icu_cldr_files.proofs.xml.spans.cut_before.Goals as goal

pub returns-in-Some : goal.returns-in-Some
returns-in-Some c =
    let found = c.in-Some.ensures.cases in
    cut_before_at c.args.mark.now c.args.text.now c.split_at.result.0.now c.split_at.result.1.now c.in-Some.at found.0 c.requires found.3.0
    found.1.0 found.1.1 c.split_at.ensures.front c.split_at.ensures.back

pub returns-in-None : goal.returns-in-None
returns-in-None c = lacks_where_none c.args.mark.now c.args.text.now c.in-None.ensures.cases
