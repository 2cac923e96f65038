use Rattle.icu_search_places.proofs.indexed_text.SizeLemmas.{latin1_all}
use Rattle.icu_search_places.proofs.indexed_text.sized_text.Latin1TextSizedText.takes_all_units.Goals as goal

pub returns-clause-all : goal.returns-clause-all
returns-clause-all c = latin1_all c.args.self.0.now
