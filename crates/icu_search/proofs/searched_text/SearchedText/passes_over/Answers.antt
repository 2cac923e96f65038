use Rattle.icu_search.specs.SearchedTexts.{searched_in, text_searched}
use Rattle.icu_search.proofs.SilentStartLemmas.{told_silent}
use Rattle.icu_search.proofs.searched_text.SearchedText.passes_over.Goals as goal

pub returns-then-begins_silently : goal.returns-then-begins_silently
returns-then-begins_silently c = λ is.
    let t = c.args.self.now in
    told_silent (searched_in t) (text_searched t) c.args.start c.args.last c.requires.some (c.begins_silently.ensures c.if-begins_silently.true)
