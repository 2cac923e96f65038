-- The states that resets and relations leave.
use Rattle.std.proofs.Common.{◌≡◌, ℕ, List, Option, Some, None, refl, ap, sym, ◌∙◌}
use Rattle.unicode_normalization.specs.Forms.{nfd}
use Rattle.icu_options.specs.declared.settings.Strength.{Strength}
use Rattle.icu_rule_parser.specs.declared.statement.CharacterRange.{CharacterRange}
use Rattle.icu_rule_meaning.specs.declared.symbolic.SymbolicElement.{SymbolicElement}
use Rattle.icu_rule_meaning.specs.Rules.{ResetPlace, reset, relation}
use Rattle.icu_rule_meaning.specs.TailoredRoots.{RootMapping, Root, lesser_weight}
use Rattle.icu_rule_meaning.specs.TailoredMappings.{SymbolicMappings, root_mappings, symbolic_elements}
use Rattle.icu_rule_meaning.specs.TailoredCases.{cased_elements}
use Rattle.icu_rule_meaning.specs.Steps.{TailoringState, before_level, before_step, place_elements, case_step, suppression_step, reset_step, relation_step}
use Rattle.icu_rule_meaning.specs.weight_tree.RuleStates.{with_elements}
use Rattle.icu_rule_steps.specs.RuleFaults.{place_fault, before_fault, maybe_before_fault, or_fault, decomposed_fault}
use Rattle.icu_rule_steps.specs.ReadRules.{ReadsRule, maybe_before, decomposed_step}

-- a root with other mappings has the same weights
pub before_same : (root : Root) (mappings : ℕ → List RootMapping) (level : ℕ) (state : TailoringState)
    → (let other : Root = record root { mappings = mappings } in before_step other level state) ≡ before_step root level state
unfolding before_step lesser_weight
before_same root mappings level state = refl

pub case_is : (root : Root) (state : TailoringState) (string text : List ℕ) (ms : SymbolicMappings)
    (es of_string cased : List SymbolicElement) → ms ≡ root_mappings root → text ≡ string → of_string ≡ symbolic_elements ms text
    → es ≡ state.elements → cased ≡ cased_elements of_string es → with_elements state cased ≡ case_step root string state
case_is root state string text ms es of_string cased same copied read now is = rw (is, read, same, copied, now) refl

pub suppressed_is : (ranges : List CharacterRange) (state : TailoringState) (new : SymbolicMappings)
    → (suppression_step ranges state).mappings ≡ new
    → (let after : TailoringState = record state { mappings = new } in after) ≡ suppression_step ranges state
unfolding suppression_step
suppressed_is ranges state new is =
    sym (ap (λ (ms : SymbolicMappings). let after : TailoringState = record state { mappings = ms } in after) is)

pub reset_read : (root : Root) (before : Option Strength) (place : ResetPlace) (old at new : TailoringState) (es : List SymbolicElement)
    → es ≡ place_elements root old place → at ≡ with_elements old es → new ≡ maybe_before root before at
    → place_fault old place ≡ None → maybe_before_fault root before at.elements ≡ None → ReadsRule root (reset before place) old new
unfolding reset_step
reset_read root None place old at new es placed taken is there before = record {
  state = is ∙ taken ∙ ap (with_elements old) placed;
  sound = rw there refl;
}
reset_read root (Some strength) place old at new es placed taken is there before =
    let step = before_step root (before_level strength) in
    record {
      state = is ∙ ap step (taken ∙ ap (with_elements old) placed);
      sound =
          ap (λ f. or_fault f (before_fault root (before_level strength) (place_elements root old place))) there
          ∙ sym (ap (before_fault root (before_level strength)) (ap (λ (t : TailoringState). t.elements) taken ∙ placed)) ∙ before;
    }

pub relation_read : (root : Root) (strength : Strength) (prefix string extension p s e : List ℕ) (old new : TailoringState)
    → p ≡ nfd prefix → s ≡ nfd string → e ≡ nfd extension → new ≡ decomposed_step root strength p s e old
    → decomposed_fault strength p s e old ≡ None → ReadsRule root (relation strength prefix string extension) old new
unfolding relation_step
relation_read root strength prefix string extension p s e old new a b c is sound = record {
  state = rw (is, a, b, c) refl;
  sound =
      sym (ap (λ q. decomposed_fault strength q (nfd string) (nfd extension) old) a)
      ∙ sym (ap (λ q. decomposed_fault strength p q (nfd extension) old) b)
      ∙ sym (ap (λ q. decomposed_fault strength p s q old) c) ∙ sound;
}
