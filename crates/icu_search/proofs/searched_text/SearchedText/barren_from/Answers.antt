use Rattle.std.proofs.Common.{◌≡◌, ℕ, ◌+◌, ◌-◌, ◌<◌, ◌≤◌, true, length, drop, ap, sym, subst, ◌∙◌, arith, rules, inl, inr}
use Rattle.std.proofs.lemmas.Bool.{cases_lt}
use Rattle.std.proofs.lemmas.List.{length-drop, take_all}
use Rattle.std.specs.Prelude.{slice_range}
use Rattle.icu_search_places.specs.LeastMatches.{span}
use Rattle.icu_order_texts.specs.TextOrder.{reading_by}
use Rattle.icu_search.specs.inner.BarrenParts.{IsBarren}
use Rattle.icu_search.specs.inner.SearchCuts.{EndsPieceAt}
use Rattle.icu_search.specs.SearchedTexts.{searched_in, text_searched}
use Rattle.icu_search.proofs.BarrenLemmas.{counted_by, is_barren, none_left}
use Rattle.icu_search.proofs.CountedWalks.{CountedTo, counted_none, total_is, weight_count}
use Rattle.icu_search.proofs.searched_text.SearchedText.barren_from.Goals as goal

pub loop-at-init : goal.loop-at-init
loop-at-init c = record {
  counted = counted_none (searched_in c.args.self.now) (text_searched c.args.self.now) c.args.start (c.requires.none c.args.start (omega arith) c.requires.within);
  ended = λ k after to as_many. absurd (omega (arith, after, to));
  ends = λ k after to. absurd (omega (arith, after, to));
}

pub returns-then-total-count_of_pattern : goal.returns-then-total-count_of_pattern
returns-then-total-count_of_pattern c =
    let t = c.args.self.now in
    let s = searched_in t in
    let text = text_searched t in
    let start = c.args.start in
    let at = c.loop-at.at in
    let from : start ≤ at = search rules in
    let before : at < c.char_count-count.result = search rules in
    let inside : at < length text = omega (arith, before, c.char_count-count.ensures.count) in
    let total = total_is s text start at c.loop-at.met c.in-Some.more inside from c.loop-at.invariant.counted c.in-Some.ensures in
    let many : weight_count s.collation s.pattern < weight_count s.collation (slice_range text start (at + 1)) =
    omega (arith, total, c.if-total-count_of_pattern.true, c.in-Some-checked_add.ensures.1, c.count_of_pattern.ensures) in
    let ended : (k : ℕ) → start < k → k ≤ at + 1 → weight_count s.collation (slice_range text start k) ≡ weight_count s.collation s.pattern → s.allowed k ≡ true =
    λ k after to as_many. elim (cases_lt at k) as (λ _. s.allowed k ≡ true) [
      | inl last ↦
          let here : k ≡ at + 1 = omega (arith, last, to) in
          absurd (omega (arith, many, as_many, ap (λ i. weight_count s.collation (slice_range text start i)) here))
      | inr earlier ↦ c.loop-at.invariant.ended k after earlier as_many
    ] in
    subst (IsBarren s text) (sym c.new.ensures)
    (inl (is_barren s text start (at + 1) (omega (arith, from)) (omega (arith, inside)) (sym c.is_allowed.ensures ∙ c.if-not-is_allowed.false) ended (c.begins_piece.ensures c.if-not-begins_piece.false)
    c.in-Some.ensures.ends c.requires.none many))

pub loop-at-preserved : goal.loop-at-preserved
loop-at-preserved c =
    let t = c.args.self.now in
    let s = searched_in t in
    let text = text_searched t in
    let start = c.args.start in
    let at = c.loop-at.at in
    let from : start ≤ at = search rules in
    let before : at < c.char_count-count.result = search rules in
    let inside : at < length text = omega (arith, before, c.char_count-count.ensures.count) in
    let sum : c.in-Some-checked_add.total ≡ c.loop-at.met + c.in-Some.more = omega (arith, c.in-Some-checked_add.ensures.1) in
    record {
      counted = subst (CountedTo s text start (at + 1)) (sym sum)
          (counted_by s text start at c.loop-at.met c.in-Some.more inside from c.loop-at.invariant.counted c.in-Some.ensures c.requires.none);
      ended = λ k after to as_many. elim (cases_lt at k) as (λ _. s.allowed k ≡ true) [
        | inl last ↦
            let here : k ≡ at + 1 = omega (arith, last, to) in
            let total = total_is s text start at c.loop-at.met c.in-Some.more inside from c.loop-at.invariant.counted c.in-Some.ensures in
            subst (λ i. s.allowed i ≡ true) (sym here)
            (c.may_end.ensures c.if-not-may_end.false (sum ∙ total ∙ ap (λ i. weight_count s.collation (slice_range text start i)) (sym here) ∙ as_many))
        | inr earlier ↦ c.loop-at.invariant.ended k after earlier as_many
      ];
      ends = λ k after to. elim (cases_lt at k) as (λ _. EndsPieceAt (reading_by s.collation) text k) [
        | inl last ↦
            let here : at + 1 ≡ k = omega (arith, last, to) in
            subst (EndsPieceAt (reading_by s.collation) text) here c.in-Some.ensures.ends
        | inr earlier ↦ c.loop-at.invariant.ends k after earlier
      ];
    }

pub returns-then-met-count_of_pattern : goal.returns-then-met-count_of_pattern
returns-then-met-count_of_pattern c =
    let t = c.args.self.now in
    let s = searched_in t in
    let text = text_searched t in
    let start = c.args.start in
    let end : c.loop-at.at ≡ c.char_count-count.result = search rules in
    let done : c.loop-at.at ≡ length text = end ∙ c.char_count-count.ensures.count in
    let rest : slice_range text start c.loop-at.at ≡ drop start text =
    take_all (c.loop-at.at - start) (drop start text) (omega (arith, done, length-drop start text)) in
    let few : weight_count s.collation (drop start text) < weight_count s.collation s.pattern =
    omega (arith, c.if-met-count_of_pattern.true, c.count_of_pattern-2.ensures, c.loop-at.invariant.counted.count, ap (weight_count s.collation) rest) in
    subst (IsBarren s text) (sym c.new-then-met-count_of_pattern.ensures)
    (inr (omega (arith, c.char_count-count.ensures.count), none_left s text start few (λ k after to. c.loop-at.invariant.ends k after (omega (arith, to, done)))))
