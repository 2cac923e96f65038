-- A list with the weights of a level in keys has the weights of the root there.
use Rattle.std.proofs.Common.{◌≡◌, ℕ, true, List, ◌↔◌, sym, ◌∙◌, nat_eq, eqb-true}
use Rattle.std.proofs.lemmas.Cmp.{nat_eq_equiv}
use Rattle.std.proofs.lemmas.Map.Views.{list_any-from_Contains, Contains-from_any}
use Rattle.icu_table_data.proofs.CollectedWeightLemmas.{same_bool}
use Rattle.std.specs.List.{Contains}
use Rattle.icu_rule_meaning.specs.TailoredRoots.{Root}
use Rattle.icu_rule_root.specs.declared.key_window.KeyLevel.{KeyLevel}
use Rattle.icu_rule_root.specs.declared.key_window.KeyLevel.TheVariants.{Secondary, Tertiary}
use Rattle.icu_rule_root.specs.CheckedRoots.{AreAll, IsSecondaryOfRoot, IsTertiaryOfRoot}
use Rattle.icu_rule_root.specs.inner.KeyWindows.{low_parts, weights_by_keys}
use Rattle.icu_rule_root.specs.inner.LevelLists.{HasLevelWeights, has_number}
use Rattle.icu_rule_root.proofs.RootWeightLemmas.{secondaries_are, tertiaries_are}

found : (ws : List ℕ) (w : ℕ) → Contains ws w → has_number ws w ≡ true
found ws w has = list_any-from_Contains nat_eq_equiv w ws has

contained : (ws : List ℕ) (w : ℕ) → has_number ws w ≡ true → Contains ws w
contained ws w has = Contains-from_any eqb-true w ws has

-- lists with the same members have the same numbers
pub same_numbers : (vs ws : List ℕ) (w : ℕ) → (Contains vs w ↔ Contains ws w) → has_number vs w ≡ has_number ws w
same_numbers vs ws w same =
    same_bool (has_number vs w) (has_number ws w) (λ h. found ws w (same.0 (contained vs w h))) (λ h. found vs w (same.1 (contained ws w h)))

all_of : (level : KeyLevel) (keys ws : List ℕ) (P : ℕ → Type 0) → HasLevelWeights level keys ws
    → ((w : ℕ) → Contains (low_parts level keys) w ↔ P w) → AreAll P ws
all_of level keys ws P are holds = record {
  ascending = are.ascending;
  members = λ w. (
    λ has. (holds w).0 (contained (low_parts level keys) w (sym (are.numbers w) ∙ found ws w has)),
    λ p. contained ws w (are.numbers w ∙ found (low_parts level keys) w ((holds w).1 p)),
  );
}

pub all_secondaries : (keys ws : List ℕ) (root : Root) → root.weights ≡ weights_by_keys keys
    → HasLevelWeights Secondary keys ws → AreAll (IsSecondaryOfRoot root) ws
all_secondaries keys ws root same are = all_of Secondary keys ws _ are (secondaries_are keys root same)

pub all_tertiaries : (keys ws : List ℕ) (root : Root) → root.weights ≡ weights_by_keys keys
    → HasLevelWeights Tertiary keys ws → AreAll (IsTertiaryOfRoot root) ws
all_tertiaries keys ws root same are = all_of Tertiary keys ws _ are (tertiaries_are keys root same)
