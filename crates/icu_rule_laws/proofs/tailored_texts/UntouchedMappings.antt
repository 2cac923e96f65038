-- Characters without mappings of their own have those of the root.
use Rattle.std.proofs.Common.{◌≡◌, ℕ, Bool, true, false, ◌||◌, ◌&&◌, not, List, [], ◌∷◌, map, filter, if◌then◌else◌, refl, ap, ◌∙◌}
use Rattle.icu_rule_meaning.specs.Rules.{have_character, is_scalar}
use Rattle.icu_rule_meaning.specs.TailoredRoots.{RootMapping}
use Rattle.icu_rule_meaning.specs.TailoredMappings.{SymbolicMapping, has_no_context, mapping_of_root}
use Rattle.icu_rule_steps.specs.symbolic_mappings.KeptMappings.{mappings_in}
use Rattle.icu_rule_steps.specs.symbolic_mappings.TouchedCharacters.{has_own_mappings, has_root_context, have_context, root_of, suppressed_in, touched_in}
use Rattle.icu_rule_steps.specs.declared.symbolic_mappings.kept_mappings.Mappings.{Mappings}
use Rattle.icu_rule_steps.proofs.symbolic_mappings.TouchedLemmas.{untouched_own}

-- without contexts none is lost
none_lost : (ms : List RootMapping) → have_context ms ≡ false
    → filter has_no_context (map mapping_of_root ms) ≡ map mapping_of_root ms
none_lost [] h = refl
none_lost (m ∷ ms) h = here (has_no_context (mapping_of_root m)) (λ k. none_lost ms k) h
  where
    here : (b : Bool) → (have_context ms ≡ false → filter has_no_context (map mapping_of_root ms) ≡ map mapping_of_root ms)
        → (not b || have_context ms) ≡ false
        → (if b then mapping_of_root m ∷ filter has_no_context (map mapping_of_root ms) else filter has_no_context (map mapping_of_root ms))
        ≡ mapping_of_root m ∷ map mapping_of_root ms
    here true more h = ap (λ (xs : List SymbolicMapping). mapping_of_root m ∷ xs) (more h)
    here false more h = cc

unsuppressed : (b : Bool) (ms : List RootMapping) → (b && have_context ms) ≡ false
    → (if b then filter has_no_context (map mapping_of_root ms) else map mapping_of_root ms) ≡ map mapping_of_root ms
unsuppressed true ms h = none_lost ms h
unsuppressed false ms h = refl

parts : (t s x : Bool) → (t || (s && x)) ≡ false → s ≡ true → (t ≡ false) × (x ≡ false)
parts true s x h e = cc
parts false true x h e = (refl, h)
parts false false x h e = cc

pub untouched_are_roots : {R : Type 0} (mappings_of : R → ℕ → List RootMapping) (m : Mappings R) (c : ℕ)
    → has_own_mappings mappings_of m c ≡ false → is_scalar c ≡ true
    → mappings_in mappings_of m c ≡ map mapping_of_root (mappings_of (root_of m) c)
untouched_are_roots mappings_of m c none scalar =
    let p = parts (touched_in m c) (is_scalar c) (have_character (suppressed_in m) c && has_root_context mappings_of m c) none scalar in
    untouched_own mappings_of m c p.0
    ∙ unsuppressed (have_character (suppressed_in m) c) (mappings_of (root_of m) c) p.1
