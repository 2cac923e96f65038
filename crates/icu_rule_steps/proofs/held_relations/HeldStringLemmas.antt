-- What is held of a relation's strings.
use Rattle.std.proofs.Common.{◌≡◌, ℕ, ◌+◌, Bool, true, false, ◌&&◌, List, Option, Some, None, sym, ap, ap₂, subst, ◌∙◌}
use Rattle.std.proofs.lemmas.Bool.{and_parts}
use Rattle.icu_rule_parser.specs.declared.rules.PlacedStatement.{PlacedStatement}
use Rattle.icu_rule_meaning.specs.TailoredRoots.{Root}
use Rattle.icu_rule_steps.specs.held_relations.HeldRelations.{IsHeld, RelatedStrings, elements_by_all, elements_of_first, related_at}

abbrev strings_or : RelatedStrings → Option RelatedStrings → RelatedStrings
strings_or d None = d
strings_or d (Some s) = s

-- a relation of two strings is held exactly where both have their elements
pub held_is : (root : Root) (placed : List PlacedStatement) (index : ℕ) (s : RelatedStrings) → related_at placed index ≡ Some s
    → (a b : Bool)
    → ((a ≡ true → elements_by_all root placed s.other ≡ elements_of_first root placed index)
    × (elements_by_all root placed s.other ≡ elements_of_first root placed index → a ≡ true))
    → ((b ≡ true → elements_by_all root placed s.string ≡ elements_of_first root placed (index + 1))
    × (elements_by_all root placed s.string ≡ elements_of_first root placed (index + 1) → b ≡ true))
    → ((a && b) ≡ true → IsHeld root placed index) × (IsHeld root placed index → (a && b) ≡ true)
held_is root placed index s related a b one two = (
  λ h. let parts = and_parts a b h in
      record { strings = s; related = related; other = one.0 parts.0; string = two.0 parts.1 },
  λ held.
      let same : held.strings ≡ s = ap (strings_or s) (sym held.related ∙ related) in
      ap₂ (λ x y. x && y)
      (one.1 (subst (λ (t : RelatedStrings). elements_by_all root placed t.other ≡ elements_of_first root placed index) same held.other))
      (two.1 (subst (λ (t : RelatedStrings). elements_by_all root placed t.string ≡ elements_of_first root placed (index + 1)) same held.string)),
)

-- where no two strings are related, nothing is held
pub none_held : (root : Root) (placed : List PlacedStatement) (index : ℕ) → related_at placed index ≡ None
    → (false ≡ true → IsHeld root placed index) × (IsHeld root placed index → false ≡ true)
none_held root placed index none = (λ h. cc, λ held. nothing held.strings (sym none ∙ held.related))
  where
    nothing : (s : RelatedStrings) → None ≡ Some s → false ≡ true
    nothing s e = cc
