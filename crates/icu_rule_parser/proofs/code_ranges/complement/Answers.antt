use Rattle.std.proofs.Common.{ℕ, ◌≤◌, ◌<◌, not, List, take, slice_index_or, subst, ap, sym, ◌∙◌, arith}
use Rattle.std.specs.Prelude.{◌&&◌, nat_le}
use Rattle.std.proofs.lemmas.List.{take_all, get_or_default}
use Rattle.std.proofs.lemmas.List.Folds.{list_any_more}
use Rattle.icu_rule_parser.specs.declared.statement.CharacterRange.{CharacterRange}
use Rattle.icu_rule_parser.specs.CharacterSets.{have_character}
use Rattle.icu_rule_parser.proofs.CodeRangeLemmas.{right_step, none_step, below_step, right_end, scalar_small}
use Rattle.icu_rule_parser.proofs.code_ranges.complement.Goals as goal

pub loop-range-preserved : goal.loop-range-preserved
loop-range-preserved c =
    let ranges : List CharacterRange = c.deref-range-items.result.now in
    let i : ℕ = c.loop-range.range-index in
    let d : CharacterRange = record { first = 0; last = 0 } in
    let range : CharacterRange = slice_index_or ranges i d in
    let next : ℕ = c.loop-range.next in
    record {
      up = c.loop-range.invariant.up;
      right = λ x k h.
          c.in_ok-push_gap.ensures x k
          ∙ right_step (have_character c.loop-range.others.items x) (have_character (take i ranges) x) next range.first range.last x
          (c.loop-range.invariant.right x k) (c.loop-range.invariant.none x)
          (λ o. c.loop-range.invariant.below x k o i (omega arith) c.loop-range-test.true d)
          (subst (λ n. x < n) c.max-next.ensures h)
          ∙ ap not (sym (list_any_more (λ (r : CharacterRange). nat_le r.first x && nat_le x r.last) ranges i d c.loop-range-test.true));
      none = λ x h.
          list_any_more (λ (r : CharacterRange). nat_le r.first x && nat_le x r.last) ranges i d c.loop-range-test.true
          ∙ none_step (have_character (take i ranges) x) next range.first range.last x (c.loop-range.invariant.none x)
          (subst (λ n. n ≤ x) c.max-next.ensures h);
      below = λ x k o j up less e.
          subst (λ (r : CharacterRange). x < r.first) (get_or_default ranges j d e less)
          (below_step (have_character c.loop-range.others.items x) next range.first (slice_index_or ranges j d).first x
          (λ t. c.loop-range.invariant.below x k t j (omega arith) less d)
          (c.loop-range.invariant.up i j d (omega arith) less)
          (sym (c.in_ok-push_gap.ensures x k) ∙ o));
    }

pub returns : goal.returns
returns c x k =
    let ranges : List CharacterRange = c.deref-range-items.result.now in
    let i : ℕ = c.loop-range.range-index in
    c.in_ok-push_gap-2.ensures x k
    ∙ right_end (have_character c.loop-range.others.items x) (have_character (take i ranges) x) c.loop-range.next x
    (c.loop-range.invariant.right x k) (c.loop-range.invariant.none x) (scalar_small x k)
    ∙ ap not (ap (λ (rs : List CharacterRange). have_character rs x) (take_all i ranges c.loop-range-test.false)
    ∙ ap (λ (rs : List CharacterRange). have_character rs x) c.deref-range-items.ensures.value
    ∙ c.in_ok-sorted.ensures.same x)
