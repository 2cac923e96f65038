use Rattle.std.proofs.Common.{ℕ, ◌≡◌, ◌+◌, List, [], ◌∷◌, ◌++◌, length, vec_len, None, sym, ap, subst, arith, length-append}
use Rattle.icu_rule_weights.specs.weight_gaps.GapWeights.{byte_ranges, FillsGap, IsNextAbove, IsPast, HasNoNext, HoldsNoMore}
use Rattle.icu_rule_weights.proofs.weight_gaps.GapLemmas.{GoesOnAbove, first_above, fills_further, past_further, further_above, no_more}
use Rattle.icu_rule_weights.proofs.weight_gaps.gap.add_weights.Goals as goal

pub loop-have-preserved : goal.loop-have-preserved
loop-have-preserved c =
    let form = c.args.gap.form in
    let low : ℕ = c.args.gap.low in
    let high : ℕ = c.args.gap.high in
    let ws : List ℕ = c.loop-have.weights.items in
    let w : ℕ = c.in-Some.next in
    let last : ℕ = c.loop-have.last in
    let end : ℕ = c.last_begun-last.result in
    let items : c.push.new.self.items ≡ ws ++ w ∷ [] = c.in_ok-push.ensures.items in
    let more : length c.push.new.self.items ≡ length ws + 1 = omega (arith, simp length-append at (ap length items)) in
    record {
      fills = subst (FillsGap form low high) (sym items)
          (fills_further form low high ws c.args.length last w c.loop-have.invariant.fills c.loop-have.invariant.past c.requires.long c.requires.short c.in-Some.ensures);
      so_many = omega (arith, c.in_ok-push.ensures.len);
      past = subst (λ (l : List ℕ). IsPast low l end) (sym items)
          (past_further form low high ws last w end c.loop-have.invariant.past c.in-Some.ensures.next.above c.last_begun-last.ensures.from c.last_begun-last.ensures.clear);
      best = λ longest empty.
          let next = subst (λ n. IsNextAbove (byte_ranges form.seconds n) last w) longest c.in-Some.ensures.next in
          subst (λ n. GoesOnAbove form low high n end) (sym more)
          (further_above form low high (length ws) last w end next c.last_begun-last.ensures.clear (c.loop-have.invariant.best longest empty));
    }

pub returns-in_default-clause-best : goal.returns-in_default-clause-best
returns-in_default-clause-best c = λ longest empty few.
    let form = c.args.gap.form in
    let none = subst (λ n. HasNoNext form.seconds n c.loop-have.last c.args.gap.high) longest c.in_default.ensures in
    subst (HoldsNoMore form c.args.gap.low c.args.gap.high) (sym c.loop-have.weights.ok.0)
    (no_more form c.args.gap.low c.args.gap.high (length c.loop-have.weights.items) c.loop-have.last (omega arith) none
    (c.loop-have.invariant.best longest empty))
