use Rattle.icu_text_decomposition.proofs.LookLemmas.{end_itself}
use Rattle.icu_text_decomposition.proofs.TakingLemmas.{class_look}
use Rattle.icu_text_decomposition.proofs.taking.Taking.new.Goals as goal

pub returns-clause-taking : goal.returns-clause-taking
returns-clause-taking g c = record {
  text_is = c.new-text.ensures.is;
  look_is = class_look _ _ c.new-text.ensures.is.limit;
  behind = end_itself _;
}
