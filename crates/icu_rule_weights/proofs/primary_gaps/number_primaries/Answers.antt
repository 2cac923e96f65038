use Rattle.std.proofs.Common.{ℕ, refl, ◌≡◌, ◌+◌, ◌∷◌, [], ◌++◌, List, take, sym, ap, ◌∙◌, subst, length, arith}
use Rattle.std.specs.Global.{Vec}
use Rattle.std.proofs.lemmas.List.{take_more}
use Rattle.icu_rule_weights.specs.declared.primary_gaps.PrimaryGap.{PrimaryGap}
use Rattle.icu_rule_weights.specs.PrimaryGaps.{FillPrimaryGaps}
use Rattle.icu_rule_weights.proofs.PrimaryGapLemmas.{fill_primary_more}
use Rattle.icu_rule_weights.proofs.primary_gaps.number_primaries.Goals as goal

pub loop-place-preserved : goal.loop-place-preserved
loop-place-preserved c =
    let gaps : List PrimaryGap = c.args.gaps.now in
    let place : ℕ = c.loop-place.place in
    let gap : PrimaryGap = c.index-gaps-place.result in
    let lists : List (Vec ℕ) = c.loop-place.lists.items in
    let weights : Vec ℕ = c.in-Some.weights in
    let fills = rw c.in-Some.is at c.in_ok-weights.ensures.fills in
    let so_many = rw c.in-Some.is at c.in_ok-weights.ensures.so_many in
    let long : length weights.items ≡ gap.count = omega (arith, weights.ok.0, so_many) in
    let items : c.push.new.self.items ≡ lists ++ weights ∷ [] = c.in_ok-push-in-Some.ensures.items in
    let taken : take (place + 1) gaps ≡ take place gaps ++ gap ∷ [] =
    take_more gaps place gap c.loop-place-test.true ∙ ap (λ (g : PrimaryGap). take place gaps ++ g ∷ []) (sym c.index-gaps-place.is) in
    subst (FillPrimaryGaps (take (place + 1) gaps)) (sym items)
    (subst (λ (gs : List PrimaryGap). FillPrimaryGaps gs (lists ++ weights ∷ [])) (sym taken)
    (fill_primary_more (take place gaps) lists gap weights c.loop-place.invariant (record { so_many = long; fills = fills })))

pub returns-in-None-clause-full : goal.returns-in-None-clause-full
returns-in-None-clause-full c =
    let room = rw c.in-None.is at c.in_ok-weights.ensures.room in
    record { wanted = c.index-gaps-place.result; inside = c.loop-place-test.true; is = sym c.index-gaps-place.is; full = room refl }
