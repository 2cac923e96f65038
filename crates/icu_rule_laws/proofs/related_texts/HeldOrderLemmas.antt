-- The strings of a held relation stand in a chain of this relation alone.
use Rattle.std.proofs.Common.{◌≡◌, ◌≤◌, ℕ, List, [], ◌∷◌, ◌++◌, take, drop, Some, refl, ap, sym, subst, ◌∙◌, ◌+◌}
use Rattle.std.specs.List.{slice_get}
use Rattle.std.proofs.lemmas.List.{append-nil}
use Rattle.icu_options.specs.declared.settings.Strength.{Strength}
use Rattle.icu_options.specs.declared.settings.Strength.TheVariants.{Primary, Secondary, Tertiary, Quaternary, Identical}
use Rattle.icu_rule_parser.specs.declared.rules.PlacedStatement.{PlacedStatement}
use Rattle.icu_rule_root.specs.declared.checked_root.CheckedRoot.{CheckedRoot}
use Rattle.icu_rule_root.specs.StoredRoots.{stored_root}
use Rattle.icu_rule_meaning.specs.RelationLaws.{elements_at}
use Rattle.icu_rule_meaning.specs.Rules.{Rule, relation, level_of, rules_of}
use Rattle.icu_rule_meaning.specs.SymbolicOrders.{Numbering}
use Rattle.icu_rule_meaning.specs.TailoredRoots.{Root}
use Rattle.icu_rule_weights.specs.tailoring_numbers.Numberings.{numbering_of}
use Rattle.icu_rule_steps.specs.held_relations.HeldRelations.{IsHeld}
use Rattle.icu_rule_steps.proofs.held_relations.RelatedLemmas.{relation_at}
use Rattle.icu_rule_laws.specs.RelatedTexts.{relation_strength}
use Rattle.icu_rule_laws.specs.apart_elements.ApartElements.{said_at}
use Rattle.icu_rule_laws.specs.related_texts.PlainOrders.{HasPlainSettings}
use Rattle.icu_rule_laws.specs.related_texts.RelationOrders.{HeldRelationsOrder, IdentitiesOrder, RelationsOrder, StandInChain, chain_level}
use Rattle.icu_rule_laws.proofs.RelatedTextLemmas.{first_are, plain_rules, rules_are, strength_at}
use Rattle.icu_rule_laws.proofs.related_texts.RelationOrderLemmas.{level_is_one}

abbrev alone : Strength → List ℕ → List Rule
alone strength string = relation strength [] string [] ∷ []

level_alone : (strength : Strength) (string : List ℕ) → chain_level (alone strength string) ≡ level_of strength
level_alone Primary string = refl
level_alone Secondary string = refl
level_alone Tertiary string = refl
level_alone Quaternary string = refl
level_alone Identical string = refl

stands : (root : Root) (placed : List PlacedStatement) (numbering : Numbering) (index : ℕ) (strength : Strength)
    → relation_strength (slice_get placed index) ≡ Some strength → (held : IsHeld root placed index)
    → StandInChain root placed numbering (alone strength held.strings.string) held.strings.other held.strings.string
stands root placed numbering index strength is held =
    let r = relation_at placed index held.strings held.related in
    let rule : Rule = relation strength [] held.strings.string [] in
    let says = plain_rules r.at.statement strength held.strings.string (strength_at placed index r.at strength r.found is) r.plain in
    let earlier = rules_of (take index placed) in
    record {
      earlier = earlier;
      later = rules_of (drop (index + 1) placed);
      rules = rules_are placed index r.at r.found rule says;
      front = [];
      behind = [];
      of_left = held.other ∙ sym (append-nil (elements_at root earlier));
      of_right =
          held.string ∙ ap (λ (rs : List Rule). elements_at root rs) (first_are placed index r.at r.found rule says)
          ∙ sym (append-nil (elements_at root (earlier ++ rule ∷ [])));
      counts = λ none. absurd (none refl);
    }

pub held_are_ordered : (root : CheckedRoot) → RelationsOrder root → IdentitiesOrder root → HeldRelationsOrder root
held_are_ordered root order same placed t says ok c tables index strength is held first second =
    let other = held.strings.other in
    let string = held.strings.string in
    let at = stands (stored_root root) placed (numbering_of says.numbers) index strength is held in
    let level = level_alone strength string in
    record {
      differ = λ plain v w low.
          order placed t says ok c tables other string first second (alone strength string) at
          (subst (λ n. 1 ≤ n) (sym level) (level_is_one strength)) (subst (HasPlainSettings c) (sym level) plain) v w
          (λ far. low (subst (λ n. 4 ≤ n) level far))
          ∙ ap (said_at c.settings.strength) level;
      same = λ none plain case.
          same placed t says ok c tables other string first second (alone strength string) at (level ∙ ap level_of none) plain case;
    }
