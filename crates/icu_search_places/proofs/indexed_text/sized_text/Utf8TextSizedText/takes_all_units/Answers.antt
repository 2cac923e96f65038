use Rattle.icu_search_places.proofs.indexed_text.SizeLemmas.{utf8_all}
use Rattle.icu_search_places.proofs.indexed_text.sized_text.Utf8TextSizedText.takes_all_units.Goals as goal

pub returns-clause-all : goal.returns-clause-all
returns-clause-all c = utf8_all c.args.self.0.now
