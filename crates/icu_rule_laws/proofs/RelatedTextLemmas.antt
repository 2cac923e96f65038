-- Relations of two strings that no later rule moves hold by the tables of rules.
use Rattle.std.proofs.Common.{◌≡◌, ℕ, zero, suc, ◌+◌, ◌-◌, Bool, true, false, ◌==◌, not, List, [], ◌∷◌, ◌++◌, take, drop, Option, Some, None, get_or, if◌then◌else◌, refl, sym, ap, ◌∙◌, arith}
use Rattle.std.specs.List.{slice_get}
use Rattle.std.specs.Prelude.{slice_index_or}
use Rattle.std.proofs.lemmas.Bool.Decides.{nat_tests}
use Rattle.std.proofs.lemmas.Grind.{flat_map-append}
use Rattle.std.proofs.lemmas.List.{drop_more, take-append-drop, take_more}
use Rattle.std.proofs.lemmas.Option.{get_or_from_slice_get, slice_get_within}
use Rattle.icu_options.specs.declared.settings.Strength.{Strength}
use Rattle.icu_table_entries.specs.Elements.{Element}
use Rattle.icu_rule_parser.specs.declared.rules.PlacedStatement.{PlacedStatement}
use Rattle.icu_rule_parser.specs.declared.statement.Statement.{Statement}
use Rattle.icu_rule_parser.specs.declared.statement.Statement.TheVariants as statements
use Rattle.icu_rule_meaning.specs.Rules.{Rule, relation, rules_of, statement_rules}
use Rattle.icu_rule_meaning.specs.SymbolicElements.{weights_of}
use Rattle.icu_rule_weights.specs.tailoring_numbers.NumberedElements.{element_numbers}
use Rattle.icu_rule_laws.specs.mapped_texts.MappedTexts.{is_weighted, weighted}
use Rattle.icu_rule_steps.specs.held_relations.HeldRelations.{plain_string, string_alone}
use Rattle.icu_rule_laws.specs.RelatedTexts.{relation_strength, strength_said}

-- ---- elements without weights

abbrev no_weights : List ℕ
no_weights = 0 ∷ 0 ∷ 0 ∷ 0 ∷ []

no_weight_at : (level : ℕ) → ◌≡◌ {A = ℕ} (slice_index_or no_weights level 0) 0
no_weight_at zero = refl
no_weight_at (suc zero) = refl
no_weight_at (suc (suc zero)) = refl
no_weight_at (suc (suc (suc zero))) = refl
no_weight_at (suc (suc (suc (suc n)))) = refl

none_weighted : (x : Element) → is_weighted x ≡ false → weights_of x ≡ no_weights
none_weighted x h =
    let none : (x.primary ≡ 0) × (x.secondary ≡ 0) × (x.lower ≡ 0) = grind (arith, nat_tests) in
    ap (λ p. let y : Element = record { primary = p; secondary = x.secondary; lower = x.lower } in weights_of y) none.0
    ∙ ap (λ s. let y : Element = record { primary = 0; secondary = s; lower = x.lower } in weights_of y) none.1
    ∙ ap (λ l. let y : Element = record { primary = 0; secondary = 0; lower = l } in weights_of y) none.2

abbrev and_number : ℕ → List ℕ → List ℕ
and_number w ws = if not (w == 0) then w ∷ ws else ws

abbrev number_in : ℕ → Element → ℕ
number_in level x = slice_index_or (weights_of x) (level - 1) 0

one_weighted : (level : ℕ) (x : Element) (xs : List Element) (b : Bool) → is_weighted x ≡ b
    → element_numbers level (weighted xs) ≡ element_numbers level xs
    → element_numbers level (if b then x ∷ weighted xs else weighted xs) ≡ and_number (number_in level x) (element_numbers level xs)
one_weighted level x xs true is more = ap (and_number (number_in level x)) more
one_weighted level x xs false is more =
    more
    ∙ sym (ap (λ w. and_number w (element_numbers level xs))
    (ap (λ (ws : List ℕ). slice_index_or ws (level - 1) 0) (none_weighted x is) ∙ no_weight_at (level - 1)))

-- elements without weights have none at a level
pub numbers_weighted : (level : ℕ) (xs : List Element) → element_numbers level (weighted xs) ≡ element_numbers level xs
numbers_weighted level [] = refl
numbers_weighted level (x ∷ xs) = one_weighted level x xs (is_weighted x) refl (numbers_weighted level xs)

-- ---- the rules of statements

alone : (prefix said extension string : List ℕ) → string_alone prefix said extension ≡ Some string
    → (prefix ≡ []) × (said ≡ string) × (extension ≡ [])
alone [] said [] string h = (refl, ap (list_or []) h, refl)
  where
    list_or : List ℕ → Option (List ℕ) → List ℕ
    list_or d None = d
    list_or d (Some xs) = xs
alone [] said (e ∷ es) string h = cc
alone (p ∷ ps) said [] string h = cc
alone (p ∷ ps) said (e ∷ es) string h = cc

pub plain_rules : (said : Statement) (strength : Strength) (string : List ℕ) → strength_said said ≡ Some strength
    → plain_string said ≡ Some string → statement_rules said ≡ relation strength [] string [] ∷ []
plain_rules (statements.Relation r) strength string s h =
    let parts = alone r.prefix.items r.string.items r.extension.items string h in
    ap (λ (p : List ℕ). relation r.strength p r.string.items r.extension.items ∷ []) parts.0
    ∙ ap (λ (x : List ℕ). relation r.strength [] x r.extension.items ∷ []) parts.1
    ∙ ap (λ (e : List ℕ). relation r.strength [] string e ∷ []) parts.2
    ∙ ap (λ (n : Strength). relation n [] string [] ∷ []) (ap (strength_or r.strength) s)
  where
    strength_or : Strength → Option Strength → Strength
    strength_or d None = d
    strength_or d (Some n) = n
plain_rules (statements.Reset r) strength string s h = cc
plain_rules (statements.Starred r) strength string s h = cc
plain_rules (statements.Setting r) strength string s h = cc
plain_rules (statements.Import r) strength string s h = cc

module _ (placed : List PlacedStatement) (index : ℕ) (p : PlacedStatement) (found : slice_get placed index ≡ Some p)
    (rule : Rule) (says : statement_rules p.statement ≡ rule ∷ []) where
  one_of : (s : PlacedStatement) → s ≡ p → statement_rules s.statement ≡ rule ∷ []
  one_of s e = ap (λ (x : PlacedStatement). statement_rules x.statement) e ∙ says

  here : get_or placed index p ≡ p
  here = get_or_from_slice_get placed index p p found

  pub rules_are : rules_of placed ≡ rules_of (take index placed) ++ rule ∷ rules_of (drop (index + 1) placed)
  rules_are =
      sym (ap rules_of (take-append-drop index placed))
      ∙ flat_map-append (λ (s : PlacedStatement). statement_rules s.statement) (take index placed) (drop index placed)
      ∙ ap (λ (rs : List Rule). rules_of (take index placed) ++ rs)
      (ap rules_of (drop_more placed index p (slice_get_within placed index p found))
      ∙ ap (λ (rs : List Rule). rs ++ rules_of (drop (index + 1) placed)) (one_of (get_or placed index p) here))

  pub first_are : rules_of (take (index + 1) placed) ≡ rules_of (take index placed) ++ rule ∷ []
  first_are =
      ap rules_of (take_more placed index p (slice_get_within placed index p found))
      ∙ flat_map-append (λ (s : PlacedStatement). statement_rules s.statement) (take index placed) (get_or placed index p ∷ [])
      ∙ ap (λ (rs : List Rule). rules_of (take index placed) ++ (rs ++ [])) (one_of (get_or placed index p) here)

pub strength_at : (placed : List PlacedStatement) (index : ℕ) (p : PlacedStatement) (strength : Strength) → slice_get placed index ≡ Some p
    → relation_strength (slice_get placed index) ≡ Some strength → strength_said p.statement ≡ Some strength
strength_at placed index p strength found is = sym (ap relation_strength found) ∙ is
