use Rattle.std.proofs.Common.{◌≡◌, ◌+◌, ◌-◌, ◌<◌, ◌≤◌, List, ℕ, get_or, length, sym, ap, subst, ◌∙◌, arith, rules}
use Rattle.icu_search.specs.SearchedTexts.{text_searched}
use Rattle.icu_search.specs.inner.BarrenParts.{Repeats}
use Rattle.icu_search.proofs.BarrenLemmas.{repeats_more}
use Rattle.icu_search.proofs.searched_text.SearchedText.repeats_to.Goals as goal

pub loop-at-init : goal.loop-at-init
loop-at-init c = λ start so_far. so_far

pub is_repeated-requires-clause-within : goal.is_repeated-requires-clause-within
is_repeated-requires-clause-within c =
    let before : c.loop-at.at < c.args.stop = search rules in
    omega (arith, before, c.requires.within, ap length c.characters-text.ensures)

pub loop-at-preserved : goal.loop-at-preserved
loop-at-preserved c = λ start so_far.
    let text = text_searched c.args.self.now in
    let at = c.loop-at.at in
    let from : c.args.reach ≤ at = search rules in
    let same : get_or text at 0 ≡ get_or text (at - c.args.step) 0 =
    subst (λ (l : List ℕ). get_or l at 0 ≡ get_or l (at - c.args.step) 0) c.characters-text.ensures (c.is_repeated.ensures c.if-not-is_repeated.false) in
    repeats_more text start c.args.step at (c.loop-at.invariant start so_far) (omega (arith, c.requires.steps, from)) same

pub returns : goal.returns
returns c = λ start so_far.
    let done : c.loop-at.at ≡ c.args.stop = search rules in
    subst (λ k. Repeats (text_searched c.args.self.now) start c.args.step k) done (c.loop-at.invariant start so_far)
