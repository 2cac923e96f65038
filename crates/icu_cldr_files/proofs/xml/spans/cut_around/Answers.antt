use Rattle.icu_cldr_files.proofs.xml.MarkCutLemmas.{cut_around_cases}
use Rattle.icu_cldr_files.proofs.xml.spans.cut_around.Goals as goal

pub returns : goal.returns
returns c = cut_around_cases c.args.mark.now c.args.text.now c.split_once.result c.requires c.split_once.ensures.cases
