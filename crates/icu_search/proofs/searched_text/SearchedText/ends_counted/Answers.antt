use Rattle.std.proofs.Common.{◌≡◌, ◌+◌, ◌&&◌, false, sym, ap, subst, ◌∙◌, arith}
use Rattle.std.specs.Prelude.{slice_range}
use Rattle.icu_search.specs.SearchedTexts.{searched_in, text_searched}
use Rattle.icu_search.specs.inner.EqualParts.{ends_match, equals_pattern}
use Rattle.icu_search.proofs.CountedWalks.{ends_otherwise}
use Rattle.icu_search.proofs.SilentEndLemmas.{still_unlike}
use Rattle.icu_search.proofs.searched_text.SearchedText.ends_counted.Goals as goal

pub returns-then-met-count_of_pattern : goal.returns-then-met-count_of_pattern
returns-then-met-count_of_pattern c = λ is first may not.
    let t = c.args.self.now in
    ends_otherwise (searched_in t) (slice_range (text_searched t) c.args.start c.args.stop) c.args.stop c.args.met is
    (λ e. omega (arith, c.if-met-count_of_pattern.true, e, c.count_of_pattern.ensures))

pub returns-then-not-is_allowed : goal.returns-then-not-is_allowed
returns-then-not-is_allowed c = λ is first may not.
    let t = c.args.self.now in
    let part = slice_range (text_searched t) c.args.start c.args.stop in
    sym (ap (λ b. b && equals_pattern (searched_in t) part) (sym c.is_allowed.ensures ∙ c.if-not-is_allowed.true))

pub returns-then-adds_nothing : goal.returns-then-adds_nothing
returns-then-adds_nothing c = λ is first may not.
    let t = c.args.self.now in
    let s = searched_in t in
    let text = text_searched t in
    let start = c.args.start in
    let unlike = still_unlike s text start c.args.at (c.adds_nothing.ensures c.if-adds_nothing.true) may first not in
    sym (subst (λ k. ends_match s (slice_range text start k) k ≡ false) (sym c.requires.next) unlike)

pub returns : goal.returns
returns c = λ is first may not.
    let t = c.args.self.now in
    let part = slice_range (text_searched t) c.args.start c.args.stop in
    c.in_ok-equal.ensures ∙ sym (ap (λ b. b && equals_pattern (searched_in t) part) (sym c.is_allowed.ensures ∙ c.if-not-is_allowed.false))
