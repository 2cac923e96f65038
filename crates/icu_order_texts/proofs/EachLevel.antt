-- Each level of two keys by itself.
use Rattle.std.proofs.Common.{◌≡◌, map, Ordering, Equal}
use Rattle.icu_order_levels.specs.Primaries.{Compression, primary_level}
use Rattle.icu_order_levels.specs.Keys.{LevelPart, part_bytes, PartDetermines, LevelLists, secondary_part, case_part, tertiary_part, quaternary_part, identical_part, secondaries_order, cases_order, tertiaries_order, quaternaries_order, characters_order}
use Rattle.icu_order_levels.specs.KeyPremises.{ReachableWeights, AreWeights, AreLists, AreParallel}
use Rattle.icu_order_levels.specs.KeyLaws.{SameSecondaries, SameCases, SameTertiaries, SameQuaternaries, SameCharacters}
use Rattle.icu_order_levels.specs.declared.forms.KeyForm.{KeyForm}
use Rattle.icu_order_levels.proofs.KeepLemmas.{tie, keeps}
use Rattle.icu_order_levels.proofs.PrimaryOrder.{primary_order}
use Rattle.icu_order_levels.proofs.KeyOrder.{part_determines, secondary_determines, case_determines, tertiary_determines, quaternary_determines, identical_determines}
use Rattle.icu_order_levels.proofs.SameKeys.{secondaries_from, cases_from, tertiaries_from, quaternaries_from, characters_from}
use Rattle.icu_order_texts.specs.TextOrderLaws.{LevelKeeps, LevelsKeep}

level_keeps : (p q : LevelPart) (o : Ordering) (Same : Type 0) → PartDetermines p q o → (o ≡ Equal → Same) → LevelKeeps p q o Same
level_keeps p q o Same determines same =
    record { determines = determines; same = λ e. same (tie (part_bytes p) (part_bytes q) o (part_determines p q o determines) e) }

module _ (c : Compression) (f : KeyForm) (reachable : ReachableWeights) (t u : LevelLists) (well_formed : AreWeights c f reachable) (p : AreLists f reachable t)
    (q : AreLists f reachable u) (both : AreParallel c f t u) where
  pub levels_keep : LevelsKeep c f t u
  levels_keep = record {
    primaries =
        keeps (primary_level c 0 t.primaries) (primary_level c 0 u.primaries) (map c.reorder t.primaries) (map c.reorder u.primaries)
        (λ x y k l. primary_order c reachable.numeric reachable.primary well_formed.primaries t.primaries u.primaries x y p.primaries q.primaries k l);
    secondaries = λ _.
        level_keeps (secondary_part f.secondary t) (secondary_part f.secondary u) (secondaries_order f.secondary t u)
        (SameSecondaries f.secondary t u)
        (secondary_determines f.secondary reachable.secondary t u well_formed.secondaries p.secondaries q.secondaries)
        (secondaries_from t u f.secondary);
    cases = λ e0 e1.
        level_keeps (case_part f.cases t) (case_part f.cases u) (cases_order f.cases t u) (SameCases f.cases t u)
        (case_determines f.cases t u p.cases q.cases (λ h. both.cases h e0 e1)) (cases_from t u f.cases);
    tertiaries = λ _ _ _.
        level_keeps (tertiary_part f.tertiary t) (tertiary_part f.tertiary u) (tertiaries_order f.tertiary t u)
        (SameTertiaries f.tertiary t u)
        (tertiary_determines f.tertiary reachable.tertiary t u well_formed.tertiaries p.tertiaries q.tertiaries) (tertiaries_from t u f.tertiary);
    quaternaries = λ e0 e1 e2 e3.
        level_keeps (quaternary_part f.quaternary t) (quaternary_part f.quaternary u) (quaternaries_order f.quaternary t u)
        (SameQuaternaries f.quaternary t u)
        (quaternary_determines f.quaternary reachable.shifted_primary t u well_formed.quaternaries p.quaternaries q.quaternaries
        (λ h. both.quaternaries h e0 e1 e2 e3)) (quaternaries_from t u f.quaternary);
    characters = λ _ _ _ _ _.
        level_keeps (identical_part f.identical t) (identical_part f.identical u) (characters_order f.identical t u)
        (SameCharacters f.identical t u) (identical_determines f.identical t u p.characters q.characters) (characters_from t u f.identical);
  }
