use Rattle.std.proofs.Common.{◌≡◌, ◌≤◌, ◌+◌, max, ℕ, ap, sym, ◌∙◌, ◌++◌, refl, arith}
use Rattle.icu_text_decomposition.specs.inner.ClassPlaces.{marks_from}
use Rattle.icu_text_decomposition.specs.inner.OrderedParts.{order_left}
use Rattle.icu_text_decomposition.specs.inner.Taking.{ahead_of, unread_of}
use Rattle.icu_text_decomposition.specs.UnreadTexts.{marks_up_to}
use Rattle.icu_text_decomposition.proofs.TakingLemmas.{class_look, class_behind, passes_up_to, marks_parted}
use Rattle.icu_text_decomposition.proofs.taking.Taking.pass_up_to.Goals as goal

pub returns-then-has_places-clause-taking : goal.returns-then-has_places-clause-taking
returns-then-has_places-clause-taking g c =
    let to = c.begin_run.new.self in
    let begun = c.begin_run.ensures.begun in
    let from = c.from.ensures in
    let most = c.max.ensures in
    let low : to.class ≤ c.max.result = omega arith in
    let limit : c.max.result ≤ 256 = omega arith in
    record {
      text_is = c.begin_run.ensures.is;
      look_is = class_look _ _ limit;
      behind = class_behind g.T.EncodedText.text to c.max.result low limit;
    }

pub returns-then-has_places-clause-passed : goal.returns-then-has_places-clause-passed
returns-then-has_places-clause-passed g c =
    let text = g.T.EncodedText.text in
    let to = c.begin_run.new.self in
    let begun = c.begin_run.ensures.begun in
    let from = c.from.ensures in
    let most = c.max.ensures in
    let low : to.class ≤ c.max.result = omega arith in
    let limit : c.max.result ≤ 256 = omega arith in
    let is : c.max.result ≡ max to.class (c.args.class + 1) = most ∙ ap (λ n. max to.class (n + 1)) from in
    sym c.begin_run.ensures.left
    ∙ passes_up_to text to c.max.result low limit c.args.class (c.begin_run.ensures.is.ends begun) is
    ∙ ap (λ l. marks_up_to c.args.class l ++ (marks_from text to.places c.max.result ++ order_left text to.rest)) c.begin_run.ensures.left

pub returns-else-goes_on-clause-passed : goal.returns-else-goes_on-clause-passed
returns-else-goes_on-clause-passed g c =
    marks_parted c.args.class _ _ _ c.requires.taking.behind c.requires.marks (c.if-goes_on.ensures refl)
