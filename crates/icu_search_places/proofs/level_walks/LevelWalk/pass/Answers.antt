use Rattle.std.proofs.Common.{◌≡◌, ◌∷◌, ◌++◌, ◌∙◌, ℕ, List, [], Option, sym, ap, subst, append-nil}
use Rattle.std.specs.Prelude.{option_to_list}
use Rattle.icu_table_entries.specs.Elements.{Element}
use Rattle.icu_order_texts.specs.level_weights.Weighings.{element_weights, handled_weights}
use Rattle.icu_order_texts.specs.weighting.VariableWeightings.{handled_after}
use Rattle.icu_search_places.specs.LevelWalks.{MeetsWeights, weighing_at, weights_at}
use Rattle.icu_search_places.proofs.LevelWalkLemmas.{passed_one, passed_further}
use Rattle.icu_search_places.proofs.level_walks.LevelWalk.pass.Goals as goal

pub returns-in-Some-clause-walked : goal.returns-in-Some-clause-walked
returns-in-Some-clause-walked c = λ es h.
    let level = c.args.self.now.level.now in
    let w = weighing_at level in
    let old = c.args.self.now.handles in
    let new = c.next_weight.new.handles in
    let given : List ℕ = c.in-Some.weight ∷ [] in
    let next : (xs : List Element) → handled_weights w (handled_after old (c.args.element ∷ xs)) ≡ given ++ handled_weights w (handled_after new xs) =
    λ xs. c.next_weight.ensures xs ∙ ap (λ (o : Option ℕ). option_to_list o ++ handled_weights w (handled_after new xs)) c.in-Some.is in
    let part = element_weights w es in
    let before = subst (λ (ws : List ℕ). MeetsWeights part ws c.args.self.now.met) (sym c.as_slice.ensures.value) h.met in
    let now = subst (λ (ws : List ℕ). MeetsWeights (part ++ given) ws c.met_with-self.result) c.as_slice.ensures.value (c.met_with-self.ensures part before) in
    record {
      further = passed_further w old new es c.args.element given h.further next;
      met = subst (λ (l : List ℕ). MeetsWeights l (weights_at level) c.met_with-self.result) (sym (passed_one w old new es c.args.element given h.further next)) now;
    }

pub returns-in-None-clause-walked : goal.returns-in-None-clause-walked
returns-in-None-clause-walked c = λ es h.
    let level = c.args.self.now.level.now in
    let w = weighing_at level in
    let old = c.args.self.now.handles in
    let new = c.next_weight.new.handles in
    let next : (xs : List Element) → handled_weights w (handled_after old (c.args.element ∷ xs)) ≡ [] ++ handled_weights w (handled_after new xs) =
    λ xs. c.next_weight.ensures xs ∙ ap (λ (o : Option ℕ). option_to_list o ++ handled_weights w (handled_after new xs)) c.in-None.is in
    record {
      further = passed_further w old new es c.args.element [] h.further next;
      met = subst (λ (l : List ℕ). MeetsWeights l (weights_at level) c.args.self.now.met) (sym (passed_one w old new es c.args.element [] h.further next ∙ append-nil (element_weights w es))) h.met;
    }
