use Rattle.std.proofs.Common.{◌≡◌, refl, sym, ap, ◌∙◌, subst}
use Rattle.icu_search_places.specs.LeastMatches.{Span, TellsLeastStop}
use Rattle.icu_search_places.proofs.found_spans.least_at.Goals as goal

pub returns-in-Some-clause-tells : goal.returns-in-Some-clause-tells
returns-in-Some-clause-tells g c =
    let told = rw c.in-Some.is at c.in_ok-stop.ensures.tells in
    (ap (λ (s : Span). s.start) c.new.ensures, rw (ap (λ (s : Span). s.stop) c.new.ensures) told)

pub returns-in-None-clause-tells : goal.returns-in-None-clause-tells
returns-in-None-clause-tells g c = rw c.in-None.is at c.in_ok-stop.ensures.tells
