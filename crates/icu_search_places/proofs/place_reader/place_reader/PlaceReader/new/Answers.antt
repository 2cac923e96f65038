use Rattle.std.proofs.Common.{subst}
use Rattle.unicode_normalization.specs.Forms.{nfd}
use Rattle.icu_search_places.specs.place_reader.inner.StepsGathered.{HasReadTo}
use Rattle.icu_search_places.proofs.place_reader.PlaceLemmas.{length-nfd}
use Rattle.icu_search_places.proofs.place_reader.place_reader.PlaceReader.new.Goals as goal

pub returns-clause-text : goal.returns-clause-text
returns-clause-text g c = λ h.
    let text = c.args.text.now in
    record { read = subst (λ n. HasReadTo g.I.Iterator.next_gives c.new.result (nfd text) n) (length-nfd text) (c.new.ensures.text text h) }
