use Rattle.std.proofs.Common.{◌≡◌, ℕ, ◌<◌, ◌≤◌, ◌+◌, ◌||◌, true, false, nat_lt, List, Option, sym, ap, ◌∙◌, subst, arith, rules}
use Rattle.icu_search_places.specs.LeastMatches.{Span}
use Rattle.icu_search_places.specs.Selections.{first_span, found_from}
use Rattle.icu_search_places.specs.inner.HeldSpans.{TellsLeastSpan, joined_to_held, last_to_try, stops_before}
use Rattle.icu_search_places.proofs.SelectionLemmas.{joined_to_held-none, told, least_to, least_to-past, first_found, over, over_not, passed_over, starts_below, sure_stays}
use Rattle.icu_search_places.proofs.found_spans.first_least.Goals as goal

pub starts-init : goal.starts-init
starts-init g c = (record { barren = λ some. absurd (omega (arith, some, c.none-known.ensures.barren)); run = λ some. absurd (omega (arith, some, c.none-known.ensures.run)) }, sym (first_found (g.M.MatchEnds.matches c.args.ends.now) (g.M.MatchEnds.char_len c.args.ends.now) c.args.offset))

pub returns-then-is_over-clause-least : goal.returns-then-is_over-clause-least
returns-then-is_over-clause-least g c =
    let n = g.M.MatchEnds.char_len c.args.ends.now in
    let held = c.starts.held in
    let here = c.passed_from-here.result in
    let is : (nat_lt n here || stops_before held here) ≡ true =
    ap (λ k. nat_lt k here || stops_before held here) (sym c.char_count-count.ensures.count) ∙ sym c.is_over.ensures ∙ c.if-is_over.true in
    over (g.M.MatchEnds.matches c.args.ends.now) n held c.starts.start here c.passed_from-here.ensures.behind c.passed_from-here.ensures.passed is ∙ c.starts.invariant.1

pub returns-then-is_over-clause-bound : goal.returns-then-is_over-clause-bound
returns-then-is_over-clause-bound g c =
    let matches = g.M.MatchEnds.matches c.args.ends.now in
    let n = g.M.MatchEnds.char_len c.args.ends.now in
    let held = c.starts.held in
    let here = c.passed_from-here.result in
    let small = rw c.char_count-count.ensures.count at c.char_count-count.ensures.bound in
    let is : (nat_lt n here || stops_before held here) ≡ true =
    ap (λ k. nat_lt k here || stops_before held here) (sym c.char_count-count.ensures.count) ∙ sym c.is_over.ensures ∙ c.if-is_over.true in
    starts_below matches n c.args.offset held (over matches n held c.starts.start here c.passed_from-here.ensures.behind c.passed_from-here.ensures.passed is ∙ c.starts.invariant.1) _ small

pub returns-then-is_sure-clause-least : goal.returns-then-is_sure-clause-least
returns-then-is_sure-clause-least g c =
    let matches = g.M.MatchEnds.matches c.args.ends.now in
    let n = g.M.MatchEnds.char_len c.args.ends.now in
    let held = c.starts.held in
    let here = c.passed_from-here.result in
    let found = c.in_ok-least_at.field-0 in
    let later = first_span (least_to matches n (here + 1)) in
    let not : (nat_lt n here || stops_before held here) ≡ false =
    ap (λ k. nat_lt k here || stops_before held here) (sym c.char_count-count.ensures.count) ∙ sym c.is_over.ensures ∙ c.if-is_over.false in
    let last : c.last_stop-last.result ≡ last_to_try held n = search rules in
    let tells : TellsLeastSpan matches here (last_to_try held n) found = subst (λ (l : ℕ). TellsLeastSpan matches here l found) last c.in_ok-least_at.ensures.tells in
    let joins : c.joined-held.result ≡ joined_to_held held found = search rules in
    sure_stays matches n c.joined-held.result here (c.is_sure.ensures c.if-is_sure.true)
    ∙ ap (λ (o : Option Span). joined_to_held o later) joins
    ∙ told matches n held here found (over_not matches n held here not) tells
    ∙ passed_over matches n held c.starts.start here c.passed_from-here.ensures.behind c.passed_from-here.ensures.passed
    ∙ c.starts.invariant.1

pub starts-preserved : goal.starts-preserved
starts-preserved g c =
    let matches = g.M.MatchEnds.matches c.args.ends.now in
    let n = g.M.MatchEnds.char_len c.args.ends.now in
    let held = c.starts.held in
    let here = c.passed_from-here.result in
    let found = c.in_ok-least_at.field-0 in
    let later = first_span (least_to matches n (here + 1)) in
    let not : (nat_lt n here || stops_before held here) ≡ false =
    ap (λ k. nat_lt k here || stops_before held here) (sym c.char_count-count.ensures.count) ∙ sym c.is_over.ensures ∙ c.if-is_over.false in
    let last : c.last_stop-last.result ≡ last_to_try held n = search rules in
    let tells : TellsLeastSpan matches here (last_to_try held n) found = subst (λ (l : ℕ). TellsLeastSpan matches here l found) last c.in_ok-least_at.ensures.tells in
    let joins : c.joined-held.result ≡ joined_to_held held found = search rules in (
      c.in_ok-least_at.ensures.known,
      ap (λ (o : Option Span). joined_to_held o later) joins
          ∙ told matches n held here found (over_not matches n held here not) tells
          ∙ passed_over matches n held c.starts.start here c.passed_from-here.ensures.behind c.passed_from-here.ensures.passed
          ∙ c.starts.invariant.1,
    )

pub returns-clause-least : goal.returns-clause-least
returns-clause-least g c =
    let matches = g.M.MatchEnds.matches c.args.ends.now in
    let n = g.M.MatchEnds.char_len c.args.ends.now in
    let held = c.starts.held in
    let past : n < c.starts.start = omega (arith, c.starts-test.false, c.char_count-count.ensures.count) in
    sym (joined_to_held-none held) ∙ ap (λ (l : List Span). joined_to_held held (first_span l)) (sym (least_to-past matches n c.starts.start past)) ∙ c.starts.invariant.1

pub returns-clause-bound : goal.returns-clause-bound
returns-clause-bound g c =
    let matches = g.M.MatchEnds.matches c.args.ends.now in
    let n = g.M.MatchEnds.char_len c.args.ends.now in
    let held = c.starts.held in
    let small = rw c.char_count-count.ensures.count at c.char_count-count.ensures.bound in
    let past : n < c.starts.start = omega (arith, c.starts-test.false, c.char_count-count.ensures.count) in
    starts_below matches n c.args.offset held (sym (joined_to_held-none held) ∙ ap (λ (l : List Span). joined_to_held held (first_span l)) (sym (least_to-past matches n c.starts.start past)) ∙ c.starts.invariant.1) _ small
