use Rattle.std.proofs.Common.{◌≡◌, ℕ, List, ◌-◌, Some, length, sym, ap, subst, ◌∙◌}
use Rattle.std.specs.List.{slice_get}
use Rattle.icu_table_data.specs.CollectedWeights.{Adds}
use Rattle.icu_table_data.proofs.CollectedWeightLemmas.{last_again, one_more}
use Rattle.icu_table_data.proofs.reachable_weights.add_weight.Goals as goal

pub returns-then-last-weight : goal.returns-then-last-weight
returns-then-last-weight c =
    let last = subst (λ (ws : List ℕ). slice_get ws (length ws - 1) ≡ Some c.in-Some.last.now) c.deref.ensures.value (sym c.in-Some.ensures.value) in
    last_again c.args.weights.now.items c.args.weight (last ∙ ap Some c.if-last-weight.true)

pub returns : goal.returns
returns c =
    subst (λ ws. Adds (λ w. w ≡ c.args.weight) c.args.weights.now.items ws) (sym c.in_ok-push.ensures.items) (one_more c.args.weights.now.items _ c.args.weight c.in_ok-make_room.ensures)
