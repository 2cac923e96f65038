-- The lists that are kept have all weights of their levels.
use Rattle.std.proofs.Common.{List, ℕ, refl, sym, subst}
use Rattle.icu_rule_meaning.specs.TailoredRoots.{Root}
use Rattle.icu_rule_root.specs.CheckedRoots.{AreAll, IsSecondaryOfRoot, IsTertiaryOfRoot}
use Rattle.icu_rule_root.specs.StoredRoots.{stored_root}
use Rattle.icu_rule_root.proofs.LevelListLemmas.{all_secondaries, all_tertiaries}
use Rattle.icu_rule_root.proofs.checked_root.CheckedRoot.levels.Goals as goal

pub returns-clause-secondaries : goal.returns-clause-secondaries
returns-clause-secondaries c =
    let kept = c.args.self.now in
    let root : Root = stored_root c.args.self.now in
    subst (λ (ws : List ℕ). AreAll (IsSecondaryOfRoot root) ws) (sym c.as_slice.ensures.value)
    (all_secondaries kept.keys.items kept.secondaries.items root refl kept.secondary_level)

pub returns-clause-tertiaries : goal.returns-clause-tertiaries
returns-clause-tertiaries c =
    let kept = c.args.self.now in
    let root : Root = stored_root c.args.self.now in
    subst (λ (ws : List ℕ). AreAll (IsTertiaryOfRoot root) ws) (sym c.as_slice-2.ensures.value)
    (all_tertiaries kept.keys.items kept.tertiaries.items root refl kept.tertiary_level)
