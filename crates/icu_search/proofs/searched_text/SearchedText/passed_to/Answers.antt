use Rattle.std.proofs.Common.{◌≡◌, ℕ, ◌<◌, ◌≤◌, None, sym, subst, arith, inl, inr}
use Rattle.std.proofs.lemmas.Bool.{cases_lt}
use Rattle.icu_search_places.specs.LeastMatches.{TellsLeastStop}
use Rattle.icu_search.specs.SearchedTexts.{char_len_in, matches_in}
use Rattle.icu_search.proofs.searched_text.SearchedText.passed_to.Goals as goal

pub loop-at-init : goal.loop-at-init
loop-at-init c = λ k from before. absurd (omega (arith, from, before))

pub loop-at-preserved : goal.loop-at-preserved
loop-at-preserved c = λ k from before.
    let t = c.args.self.now in
    let at = c.loop-at.at in
    elim (cases_lt k at) as (λ _. TellsLeastStop (matches_in t) k (char_len_in t) None) [
      | inl earlier ↦ c.loop-at.invariant k from earlier
      | inr last ↦
          let here : k ≡ at = omega (arith, before, last) in
          subst (λ i. TellsLeastStop (matches_in t) i (char_len_in t) None) (sym here) (c.passes.ensures c.if-not-passes.false)
    ]
