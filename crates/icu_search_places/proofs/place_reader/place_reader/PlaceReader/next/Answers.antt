use Rattle.icu_search_places.proofs.place_reader.PlaceLemmas.{passes}
use Rattle.icu_search_places.proofs.place_reader.place_reader.PlaceReader.next.Goals as goal

pub returns-clause-step : goal.returns-clause-step
returns-clause-step g c = λ front h.
    passes g.I.Iterator.next_gives c.args.self.now _ front c.in-Some.c c.decomposed_len.result c.is_at_place.result h c.in-Some.ensures c.decomposed_len.ensures c.consume.ensures.reading
    c.in_ok-consume.ensures.read c.is_at_place.ensures
