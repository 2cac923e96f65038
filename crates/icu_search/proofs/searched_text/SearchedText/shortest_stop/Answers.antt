use Rattle.std.proofs.Common.{sym, ◌∙◌}
use Rattle.icu_search.specs.SearchedTexts.{searched_in, text_searched}
use Rattle.icu_search.proofs.PartWalks.{no_start, not_allowed, empty_matches, empty_matches_not}
use Rattle.icu_search.proofs.searched_text.SearchedText.shortest_stop.Goals as goal

pub returns-then-not-is_allowed : goal.returns-then-not-is_allowed
returns-then-not-is_allowed c =
    let t = c.args.self.now in
    not_allowed (searched_in t) (text_searched t) c.args.start (sym c.is_allowed.ensures ∙ c.if-not-is_allowed.true) c.requires

pub returns-then-not-here : goal.returns-then-not-here
returns-then-not-here c =
    let t = c.args.self.now in
    no_start (searched_in t) (text_searched t) c.args.start (sym c.in_ok-here.ensures ∙ c.if-not-here.true) c.requires

pub returns-then-equals_empty : goal.returns-then-equals_empty
returns-then-equals_empty c =
    let t = c.args.self.now in
    empty_matches (searched_in t) (text_searched t) c.args.start (sym c.in_ok-here.ensures ∙ c.if-not-here.false) (sym c.is_allowed.ensures ∙ c.if-not-is_allowed.false) (sym c.equals_empty.ensures ∙ c.if-equals_empty.true) c.requires

pub returns-in-Some : goal.returns-in-Some
returns-in-Some c =
    let t = c.args.self.now in
    let told = rw c.in-Some.is at c.in_ok-told.ensures in
    told (sym c.in_ok-here.ensures ∙ c.if-not-here.false) (sym c.is_allowed.ensures ∙ c.if-not-is_allowed.false)
    (empty_matches_not (searched_in t) (text_searched t) c.args.start (sym c.equals_empty.ensures ∙ c.if-equals_empty.false))

pub returns-then-count_of_pattern-eq0 : goal.returns-then-count_of_pattern-eq0
returns-then-count_of_pattern-eq0 c =
    let t = c.args.self.now in
    c.looked_stop.ensures (sym c.in_ok-here.ensures ∙ c.if-not-here.false) (sym c.is_allowed.ensures ∙ c.if-not-is_allowed.false)
    (empty_matches_not (searched_in t) (text_searched t) c.args.start (sym c.equals_empty.ensures ∙ c.if-equals_empty.false))

pub returns-in-None : goal.returns-in-None
returns-in-None c =
    let t = c.args.self.now in
    c.looked_stop-in-None.ensures (sym c.in_ok-here.ensures ∙ c.if-not-here.false) (sym c.is_allowed.ensures ∙ c.if-not-is_allowed.false)
    (empty_matches_not (searched_in t) (text_searched t) c.args.start (sym c.equals_empty.ensures ∙ c.if-equals_empty.false))
