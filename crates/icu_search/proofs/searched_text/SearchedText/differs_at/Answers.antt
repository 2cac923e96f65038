use Rattle.std.proofs.Common.{◌≡◌, List, ℕ, ◌-◌, length, drop, ap, subst, ◌∙◌, arith}
use Rattle.std.specs.Prelude.{slice_range}
use Rattle.std.proofs.lemmas.List.{length-drop, take_all}
use Rattle.icu_search.specs.SearchedTexts.{searched_in, text_searched}
use Rattle.icu_search.specs.inner.WeightsBehind.{DiffersBehind}
use Rattle.icu_search.proofs.TextRunLemmas.{none_behind_run}
use Rattle.icu_search.proofs.searched_text.SearchedText.differs_at.Goals as goal

pub returns : goal.returns
returns c = λ is stop after to.
    let t = c.args.self.now in
    let s = searched_in t in
    let text = text_searched t in
    let at = c.args.at in
    let start = c.args.start in
    let chars = c.characters-text.result.now in
    let left : slice_range chars at (length chars) ≡ drop at text =
    take_all (length chars - at) (drop at chars) (omega (arith, length-drop at chars)) ∙ ap (drop at) c.characters-text.ensures in
    none_behind_run s text start at c.requires.ordered (omega (arith, c.if-at-text.false, ap length c.characters-text.ensures)) c.requires.alone
    (subst (λ (l : List ℕ). DiffersBehind s l (at - start)) left (c.has_other_weight.ensures is)) stop after to
