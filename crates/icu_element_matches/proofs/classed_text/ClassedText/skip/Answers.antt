use Rattle.std.proofs.Common.{◌≡◌, ◌+◌, ℕ, List, true, is_some, drop, sym, ap, ◌∙◌, rules}
use Rattle.std.proofs.lemmas.List.{drop-drop}
use Rattle.icu_element_matches.specs.Texts.{still_unread}
use Rattle.icu_element_matches.proofs.MarkQueueLemmas.{dropped_first}
use Rattle.icu_element_matches.proofs.classed_text.ClassedText.skip.Goals as goal

pub loop-index-preserved : goal.loop-index-preserved
loop-index-preserved c =
    let l = c.loop-index in
    let all : List ℕ = still_unread c.args.self.now in
    let some : is_some c.take_first.result ≡ true = search rules in
    sym (dropped_first (still_unread l.self) (still_unread c.take_first.new.self) c.take_first.result c.take_first.ensures.taken some)
    ∙ ap (drop 1) l.invariant ∙ drop-drop 1 l.index all
