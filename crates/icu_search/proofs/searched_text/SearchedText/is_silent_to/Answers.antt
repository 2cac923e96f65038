use Rattle.std.proofs.Common.{◌≡◌, ◌<◌, ◌+◌, ◌-◌, true, length, take, drop, sym, ap, ◌∙◌, arith}
use Rattle.std.proofs.lemmas.List.{take_all, length-drop}
use Rattle.icu_order_texts.specs.TextOrder.{reading_by}
use Rattle.icu_search.specs.SearchedTexts.{searched_in, text_searched}
use Rattle.icu_search.specs.inner.SearchCuts.{CutsAt}
use Rattle.icu_search.proofs.SilentStartLemmas.{silent_at}
use Rattle.icu_search.proofs.searched_text.SearchedText.is_silent_to.Goals as goal

pub returns : goal.returns
returns c = λ silent stop longer match.
    let t = c.args.self.now in
    let s = searched_in t in
    let text = text_searched t in
    let start = c.args.start in
    let cut = c.args.cut in
    let h = c.passes_silent.ensures c.if-not-passes_silent.false in
    let whole : c.characters-text.result.now ≡ text = c.characters-text.ensures in
    let count : length c.characters-text.result.now ≡ length text = ap length whole in
    let at : CutsAt (reading_by s.collation) text cut = c.cuts_at.ensures c.if-not-cuts_at.false in
    let allowed : s.allowed cut ≡ true = sym c.is_allowed.ensures ∙ silent in
    let chars = c.characters-text.result.now in
    let rest : take (length chars - start) (drop start chars) ≡ drop start text = take_all (length chars - start) (drop start chars) (omega (arith, length-drop start chars)) ∙ ap (drop start) whole in
    let front : c.split_at.result.0.now ≡ take (cut - start) (drop start text) = c.split_at.ensures.front ∙ ap (take (cut - start)) rest in
    let back : c.split_at.result.1.now ≡ drop (cut - start) (drop start text) = c.split_at.ensures.back ∙ ap (drop (cut - start)) rest in
    silent_at s text start cut c.requires.behind at allowed h.0 c.requires.some c.split_at.result.0.now c.split_at.result.1.now front back h.1 stop longer match
