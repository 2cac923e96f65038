use Rattle.icu_search.specs.SearchedTexts.{char_len_in, matches_in}
use Rattle.std.proofs.Common.{arith}
use Rattle.icu_search.proofs.TextCutLemmas.{told_in_time, told_too_late, told_none}
use Rattle.icu_search.proofs.searched_text.SearchedText.shortest_stop_to.Goals as goal

pub returns-then-stop-last : goal.returns-then-stop-last
returns-then-stop-last c =
    let t = c.args.self.now in
    told_in_time (matches_in t) c.args.start c.args.last (char_len_in t) c.in-Some.stop c.requires.ordered c.requires.within (rw c.in-Some.is at c.in_ok-stop.ensures) c.if-stop-last.true

pub returns-else-stop-last : goal.returns-else-stop-last
returns-else-stop-last c =
    let t = c.args.self.now in
    told_too_late (matches_in t) c.args.start c.args.last (char_len_in t) c.in-Some.stop c.requires.ordered c.requires.within (rw c.in-Some.is at c.in_ok-stop.ensures) (omega (arith, c.if-stop-last.false))

pub returns-in-None : goal.returns-in-None
returns-in-None c =
    let t = c.args.self.now in
    told_none (matches_in t) c.args.start c.args.last (char_len_in t) c.requires.ordered c.requires.within (rw c.in-None.is at c.in_ok-stop.ensures)
