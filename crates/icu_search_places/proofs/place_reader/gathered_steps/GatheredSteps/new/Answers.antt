use Rattle.std.proofs.Common.{refl}
use Rattle.unicode_normalization.specs.Forms.{nfd}
use Rattle.icu_search_places.proofs.place_reader.GatheredLemmas.{HasReadTo-start}
use Rattle.icu_search_places.proofs.place_reader.gathered_steps.GatheredSteps.new.Goals as goal

pub returns-clause-text : goal.returns-clause-text
returns-clause-text g c = λ cs h. HasReadTo-start g.I.Iterator.next_gives _ (nfd cs) (c.new.ensures.text cs h) c.new-2.ensures.items refl
