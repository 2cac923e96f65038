-- Sorting keeps each weight.
use Rattle.std.proofs.Common.{List, ℕ, sym, subst}
use Rattle.std.specs.List.{Contains}
use Rattle.icu_rule_root.proofs.LevelListLemmas.{same_numbers}
use Rattle.icu_rule_root.proofs.level_weights.level_weights.Goals as goal

pub returns : goal.returns
returns c = record {
  ascending = c.sort_and_dedup.ensures.ascending;
  numbers = λ w.
      let sorted = c.sort_and_dedup.ensures.members w in
      same_numbers _ _ w (
        λ h. subst (λ (xs : List ℕ). Contains xs w) c.in_ok-weights.ensures (sorted.0 h),
        λ h. sorted.1 (subst (λ (xs : List ℕ). Contains xs w) (sym c.in_ok-weights.ensures) h),
      );
}
