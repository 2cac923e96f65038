use Rattle.std.proofs.Common.{◌≡◌, ◌∙◌, ◌≤◌, List, [], sym, ap, arith}
use Rattle.icu_table_entries.specs.Elements.{Element}
use Rattle.icu_order_texts.specs.level_weights.Weighings.{element_weights, handled_weights}
use Rattle.icu_order_texts.specs.weighting.VariableWeightings.{handled_after}
use Rattle.icu_order_texts.proofs.level_weights.WeighedLemmas.{none_weighed}
use Rattle.icu_search_places.specs.LevelWalks.{weighing_at}
use Rattle.icu_search_places.proofs.LevelWalkLemmas.{begun}
use Rattle.icu_search_places.proofs.level_walks.LevelWalk.new.Goals as goal

pub returns-clause-begun : goal.returns-clause-begun
returns-clause-begun c =
    let w = weighing_at c.args.level.now in
    let v = c.handles-handles.result in
    let is : (es : List Element) → element_weights w es ≡ handled_weights w (handled_after v es) = λ es. ap (handled_weights w) (sym (c.handles-handles.ensures es)) in
    record {
      further = begun w v is;
      met = (omega arith, sym (is [] ∙ none_weighed w v));
    }
