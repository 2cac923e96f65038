-- Groups that a reordering moves as wholes, one behind another.
use Rattle.std.proofs.Common.{◌≡◌, ℕ, ◌+◌, ◌-◌, ◌*◌, ◌/◌, ◌%◌, ◌^◌, ◌<◌, ◌≤◌, List, length, get_or, refl, subst, ◌∙◌, arith, below_more}
use Rattle.std.proofs.lemmas.List.{get_or_default}
use Rattle.icu_table_provider.specs.Reorderings.{Reordering, reordered}
use Rattle.icu_table_provider.specs.well_formed.Leads.{TakesBlock}
use Rattle.icu_table_provider.proofs.well_formed.LeadLemmas.{reordered-rest}
use Rattle.icu_rule_tables.specs.declared.script_reordering.script_groups.ScriptSpan.{ScriptSpan}
use Rattle.icu_rule_tables.specs.script_reordering.ReorderedSpans.{IsInSpan, KeepsWeightOrder, PutsBefore, IsReorderedBy}
use Rattle.icu_rule_tables.specs.script_reordering.inner.CarriedSpans.{CarriesUpTo, CarriesTo, IsCarried, IsReorderedTo}

pub carries_one_more : (r : Reordering) (s : ScriptSpan) (to limit : ℕ) → CarriesUpTo r s to limit
    → TakesBlock r limit (to + limit / 256 - s.start / 256) → CarriesUpTo r s to (limit + 1)
carries_one_more r s to limit done more =
    below_more (λ h. s.start ≤ h → TakesBlock r h (to + h / 256 - s.start / 256)) limit done (λ from. more)

-- a weight moves by whole lead bytes
carried_weight : (r : Reordering) (s : ScriptSpan) (to p : ℕ) → s.end ≤ 0xFF00 → CarriesTo r s to → IsInSpan s p
    → reordered r p ≡ (to + p / 65536 / 256 - s.start / 256) * 2 ^ 24 + p % 2 ^ 24
carried_weight r s to p small carries inside =
    let from : s.start * 65536 ≤ p = inside.0 in
    let below : p < s.end * 65536 = inside.1 in
    let lead : reordered r p / 0x1000000 ≡ to + p / 65536 / 256 - s.start / 256 = carries (p / 65536) (omega arith) (omega arith) p (omega arith) refl in
    omega (arith, reordered-rest r p)

keeps_order : (r : Reordering) (s : ScriptSpan) (to : ℕ) → s.end ≤ 0xFF00 → CarriesTo r s to → KeepsWeightOrder r s
keeps_order r s to small carries = λ p q in_p in_q less.
    let from : s.start * 65536 ≤ p = in_p.0 in
    omega (arith, carried_weight r s to p small carries in_p, carried_weight r s to q small carries in_q)

never_descends : (r : Reordering) (s : ScriptSpan) (to p q : ℕ) → s.end ≤ 0xFF00 → CarriesTo r s to → IsInSpan s p → IsInSpan s q → p ≤ q
    → reordered r p ≤ reordered r q
never_descends r s to p q small carries in_p in_q up =
    let from : s.start * 65536 ≤ p = in_p.0 in
    omega (arith, carried_weight r s to p small carries in_p, carried_weight r s to q small carries in_q)

pub is_carried : (r : Reordering) (s : ScriptSpan) (to above least greatest : ℕ) → s.start < s.end → s.end ≤ 0xFF00 → CarriesTo r s to
    → least ≡ reordered r (s.start * 65536) → greatest ≡ reordered r (s.end * 65536 - 1) → above ≤ least → greatest < 0xFF000000
    → IsCarried r s above (greatest + 1)
is_carried r s to above least greatest some small carries first last up inside =
    let at_first : IsInSpan s (s.start * 65536) = (omega arith, omega arith) in
    let at_last : IsInSpan s (s.end * 65536 - 1) = (omega arith, omega arith) in
    record {
      kept = keeps_order r s to small carries;
      from = λ p in_p.
          let lower : s.start * 65536 ≤ p = in_p.0 in
          let up_to : reordered r (s.start * 65536) ≤ reordered r p = never_descends r s to (s.start * 65536) p small carries at_first in_p lower in
          omega arith;
      below = λ p in_p.
          let higher : p < s.end * 65536 = in_p.1 in
          let up_to : reordered r p ≤ reordered r (s.end * 65536 - 1) = never_descends r s to p (s.end * 65536 - 1) small carries in_p at_last (omega arith) in
          omega arith;
      ascends =
          let up_to : reordered r (s.start * 65536) ≤ reordered r (s.end * 65536 - 1) = never_descends r s to (s.start * 65536) (s.end * 65536 - 1) small carries at_first at_last (omega arith) in
          omega arith;
      small = omega arith;
    }

none_inside : (s : ScriptSpan) (p : ℕ) → s.end ≤ s.start → IsInSpan s p → ⊥
none_inside s p none inside =
    let from : s.start * 65536 ≤ p = inside.0 in
    let below : p < s.end * 65536 = inside.1 in
    omega arith

-- a group without weights is put anywhere
pub empty_is_carried : (r : Reordering) (s : ScriptSpan) (above : ℕ) → s.end ≤ s.start → above ≤ 0xFF000000 → IsCarried r s above above
empty_is_carried r s above none small = record {
  kept = λ p q in_p. absurd (none_inside s p none in_p);
  from = λ p in_p. absurd (none_inside s p none in_p);
  below = λ p in_p. absurd (none_inside s p none in_p);
  ascends = omega arith;
  small = small;
}

-- ---- groups one after another

pub no_span : (order : List ScriptSpan) (r : Reordering) → IsReorderedTo order r 0 0x3000000
no_span order r = record {
  kept = λ i small. absurd (omega arith);
  from = λ i small. absurd (omega arith);
  below = λ i small. absurd (omega arith);
  apart = λ j small. absurd (omega arith);
  least = omega arith;
  small = omega arith;
}

pub one_more_span : (order : List ScriptSpan) (r : Reordering) (s : ScriptSpan) (count above next : ℕ) → count < length order
    → IsReorderedTo order r count above → IsCarried r s above next → s ≡ get_or order count s → IsReorderedTo order r (count + 1) next
one_more_span order r s count above next small before new is =
    let at : (d : ScriptSpan) → s ≡ get_or order count d = λ d. is ∙ get_or_default order count s d small in
    record {
      kept = below_more (λ i. (d : ScriptSpan) → KeepsWeightOrder r (get_or order i d)) count before.kept (λ d. subst (λ t. KeepsWeightOrder r t) (at d) new.kept);
      from = below_more (λ i. (d : ScriptSpan) → (p : ℕ) → IsInSpan (get_or order i d) p → 0x3000000 ≤ reordered r p) count before.from
          (λ d. subst (λ (t : ScriptSpan). (p : ℕ) → IsInSpan t p → 0x3000000 ≤ reordered r p) (at d)
          (λ p inside. let up : above ≤ reordered r p = new.from p inside in omega (arith, before.least)));
      below = below_more (λ i. (d : ScriptSpan) → (p : ℕ) → IsInSpan (get_or order i d) p → reordered r p < next) count
          (λ i less d p inside. let low : reordered r p < above = before.below i less d p inside in omega (arith, new.ascends))
          (λ d. subst (λ (t : ScriptSpan). (p : ℕ) → IsInSpan t p → reordered r p < next) (at d) new.below);
      apart = below_more (λ j. (i : ℕ) → i < j → (d : ScriptSpan) → PutsBefore r (get_or order i d) (get_or order j d)) count before.apart
          (λ i less d. subst (λ (t : ScriptSpan). PutsBefore r (get_or order i d) t) (at d)
          (λ p q in_p in_q.
          let low : reordered r p < above = before.below i less d p in_p in
          let up : above ≤ reordered r q = new.from q in_q in
          omega arith));
      least = omega (arith, before.least, new.ascends);
      small = new.small;
    }

pub all_spans : (order : List ScriptSpan) (r : Reordering) (count above : ℕ) → count ≡ length order → IsReorderedTo order r count above → IsReorderedBy order r
all_spans order r count above all before =
    let done : IsReorderedTo order r (length order) above = subst (λ n. IsReorderedTo order r n above) all before in
    record {
      kept = done.kept;
      inside = λ i less d p in_p.
          let low : reordered r p < above = done.below i less d p in_p in
          (done.from i less d p in_p, omega (arith, done.small));
      apart = done.apart;
    }
