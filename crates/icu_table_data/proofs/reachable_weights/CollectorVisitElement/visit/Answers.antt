use Rattle.std.proofs.Common.{◌≡◌, ℕ, Bool, Some, sym, ap, ◌∙◌}
use Rattle.icu_table_data.specs.inner.Visitors.{holds, and_found}
use Rattle.icu_table_data.proofs.WalkLemmas.{on_ok}
use Rattle.icu_table_data.proofs.CollectedWeightLemmas.{one_held}
use Rattle.icu_table_data.proofs.reachable_weights.CollectorVisitElement.visit.Goals as goal

pub returns-in-Some : goal.returns-in-Some
returns-in-Some g c =
    let old = g.H.HoldWeights.weights c.args.self.now.weights in
    let new = g.H.HoldWeights.weights c.add.new.self in
    let weighs : g.W.Weigh.weight c.args.self.now.weigh.now c.args.element ≡ Some c.in-Some.weight = sym c.weight.ensures ∙ c.in-Some.is in
    on_ok _ _ (λ adds. ap (λ (has : ℕ → Bool). (c.args.self.now.weigh.now, has)) (one_held old new c.in-Some.weight adds ∙ ap (and_found (holds old)) (sym weighs))) c.add.result c.add.ensures
