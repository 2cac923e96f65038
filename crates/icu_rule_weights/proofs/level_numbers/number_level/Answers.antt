use Rattle.std.proofs.Common.{ℕ, ◌≡◌, ◌+◌, ◌∷◌, [], ◌++◌, List, get_or, take, sym, subst}
use Rattle.std.specs.List.{All}
use Rattle.std.specs.Global.{Vec}
use Rattle.std.proofs.lemmas.List.{take_more}
use Rattle.std.proofs.lemmas.List.Elements.{All-push}
use Rattle.icu_rule_weights.specs.declared.level_gap.LevelGap.{LevelGap}
use Rattle.icu_rule_weights.specs.LevelGaps.{greatest_second, FillsLevelGap, FillEach}
use Rattle.icu_rule_weights.specs.inner.LeadUses.{IsWrittenBy}
use Rattle.icu_rule_weights.proofs.LevelGapLemmas.{fill_more, lists_apart}
use Rattle.icu_rule_weights.proofs.level_numbers.number_level.Goals as goal

pub loop-place-preserved : goal.loop-place-preserved
loop-place-preserved c =
    let greatest : ℕ = greatest_second c.args.level in
    let gaps : List LevelGap = c.args.gaps.now in
    let place : ℕ = c.loop-place.place in
    let gap : LevelGap = get_or gaps place (record { low = 0; high = 0; count = 0 }) in
    let lists : List (Vec ℕ) = c.loop-place.lists.items in
    let weights : Vec ℕ = c.in-Some.weights in
    let found = rw c.in-Some.is at c.in_ok-weights.ensures.fills in
    let fills = subst (λ n. FillsLevelGap n gap weights.items) c.greatest_second-greatest.ensures found in
    let written = rw c.in-Some.is at c.in_ok-weights.ensures.written in
    let items : c.push.new.self.items ≡ lists ++ weights ∷ [] = c.in_ok-push-in-Some.ensures.items in
    record {
      fill = subst (FillEach greatest (take (place + 1) gaps)) (sym items)
          (subst (λ (gs : List LevelGap). FillEach greatest gs (lists ++ weights ∷ []))
          (sym (take_more gaps place (record { low = 0; high = 0; count = 0 }) c.loop-place-test.true))
          (fill_more greatest (take place gaps) lists gap weights c.loop-place.invariant.fill fills));
      written = subst (λ (ls : List (Vec ℕ)). All (λ (ws : Vec ℕ). All (IsWrittenBy c.uses_with_room-uses.result) ws.items) ls) (sym items)
          (All-push (λ (ws : Vec ℕ). All (IsWrittenBy c.uses_with_room-uses.result) ws.items) lists weights c.loop-place.invariant.written written);
    }

pub returns-clause-apart : goal.returns-clause-apart
returns-clause-apart c = λ root. lists_apart c.uses_with_room-uses.result c.args.root.now c.loop-place.lists.items (c.uses_with_room-uses.ensures root) c.loop-place.invariant.written
