-- What is left of the siblings decides.
use Rattle.std.proofs.Common.{◌≡◌, ◌+◌, ◌&&◌, true, false, nat_lt, drop, get_or, ap, sym, ◌∙◌, subst, rules}
use Rattle.std.proofs.lemmas.List.{at_drop_more, drop_all}
use Rattle.icu_rule_meaning.specs.declared.symbolic.SymbolicWeight.{SymbolicWeight}
use Rattle.icu_rule_meaning.specs.declared.symbolic.SymbolicWeight.TheVariants.{Rooted}
use Rattle.icu_rule_meaning.specs.weight_tree.BuiltTrees.{parent_weights}
use Rattle.icu_rule_weights.specs.tailoring_numbers.Numberings.{number_of}
use Rattle.icu_rule_weights.specs.tailoring_numbers.inner.AscendingTests.{ascend_above, next_behind, stands_below}
use Rattle.icu_rule_weights.proofs.tailoring_numbers.AscendingNumberLemmas.{ascend_more, ascend_ended, ascend_none}
use Rattle.icu_rule_weights.proofs.tailoring_numbers.ascending.ascend_above.Goals as goal

pub loop-w-preserved : goal.loop-w-preserved
loop-w-preserved g c =
    let root = g.R.RootWeights.root c.args.root.now in
    let pw = parent_weights c.args.parents in
    let t = c.args.numbers.now in
    let ss = c.args.siblings.now in
    let i = c.loop-w.w-index in
    let before = c.loop-w.before in
    let limit = c.loop-w.limit in
    let w : SymbolicWeight = get_or ss i (Rooted 0) in
    let tests : (nat_lt before (number_of t w) && stands_below w limit (number_of t w)) ≡ true =
    subst (λ n. (nat_lt before n && stands_below w limit n) ≡ true) c.number-number.ensures (sym c.follows.ensures ∙ c.if-not-follows.false) in
    ap (λ n. ascend_above root pw t n c.next_behind-limit.result (drop (i + 1) ss)) c.number-number.ensures
    ∙ (ap (λ o. ascend_above root pw t (number_of t w) o (drop (i + 1) ss)) c.next_behind-limit.ensures
    ∙ (ascend_more root pw t before limit w (drop (i + 1) ss) tests
    ∙ (sym (at_drop_more (λ vs. ascend_above root pw t before limit vs) ss i (Rooted 0) c.loop-w-test.true) ∙ c.loop-w.invariant)))

pub returns-then-not-follows : goal.returns-then-not-follows
returns-then-not-follows g c =
    let root = g.R.RootWeights.root c.args.root.now in
    let pw = parent_weights c.args.parents in
    let t = c.args.numbers.now in
    let ss = c.args.siblings.now in
    let i = c.loop-w.w-index in
    let before = c.loop-w.before in
    let limit = c.loop-w.limit in
    let w : SymbolicWeight = get_or ss i (Rooted 0) in
    let tests : (nat_lt before (number_of t w) && stands_below w limit (number_of t w)) ≡ false =
    subst (λ n. (nat_lt before n && stands_below w limit n) ≡ false) c.number-number.ensures (sym c.follows.ensures ∙ c.if-not-follows.true) in
    ascend_ended root pw t before limit w (drop (i + 1) ss) tests
    ∙ (sym (at_drop_more (λ vs. ascend_above root pw t before limit vs) ss i (Rooted 0) c.loop-w-test.true) ∙ c.loop-w.invariant)

pub returns : goal.returns
returns g c =
    let root = g.R.RootWeights.root c.args.root.now in
    let pw = parent_weights c.args.parents in
    let t = c.args.numbers.now in
    let ss = c.args.siblings.now in
    ascend_none root pw t c.loop-w.before c.loop-w.limit
    ∙ (sym (ap (λ vs. ascend_above root pw t c.loop-w.before c.loop-w.limit vs) (drop_all c.loop-w.w-index ss c.loop-w-test.false))
    ∙ c.loop-w.invariant)
