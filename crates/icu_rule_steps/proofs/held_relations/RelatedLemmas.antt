-- What the strings of a relation are among statements.
use Rattle.std.proofs.Common.{◌≡◌, ℕ, ◌-◌, ◌<◌, Bool, true, false, List, [], length, Option, Some, None, if◌then◌else◌, refl, ap, ◌∙◌}
use Rattle.std.specs.Prelude.{nat_lt}
use Rattle.std.specs.List.{slice_get}
use Rattle.std.proofs.lemmas.Option.{slice_get_within}
use Rattle.icu_rule_parser.specs.declared.rules.PlacedStatement.{PlacedStatement}
use Rattle.icu_rule_steps.specs.held_relations.HeldRelations.{RelatedStrings, both_strings, plain_at, related_at, string_at, plain_string}

-- the statement at an index is a relation of a string
pub record IsRelationAt (placed : List PlacedStatement) (index : ℕ) (string : List ℕ) : Type 0 where
  pub at : PlacedStatement
  pub found : slice_get placed index ≡ Some at
  pub plain : plain_string at.statement ≡ Some string

abbrev string_or : List ℕ → Option RelatedStrings → List ℕ
string_or d None = d
string_or d (Some s) = s.string

by_plain : (placed : List PlacedStatement) (index : ℕ) (s : RelatedStrings) (p : PlacedStatement) → slice_get placed index ≡ Some p
    → (o other : Option (List ℕ)) → plain_string p.statement ≡ o → both_strings o other ≡ Some s → IsRelationAt placed index s.string
by_plain placed index s p found None None is h = cc
by_plain placed index s p found None (Some other) is h = cc
by_plain placed index s p found (Some string) None is h = cc
by_plain placed index s p found (Some string) (Some other) is h =
    record { at = p; found = found; plain = is ∙ ap Some (ap (string_or []) h) }

by_get : (placed : List PlacedStatement) (index : ℕ) (s : RelatedStrings) (o : Option PlacedStatement) (other : Option (List ℕ))
    → slice_get placed index ≡ o → both_strings (plain_at o) other ≡ Some s → IsRelationAt placed index s.string
by_get placed index s None None e h = cc
by_get placed index s None (Some other) e h = cc
by_get placed index s (Some p) other e h = by_plain placed index s p e (plain_string p.statement) other refl h

by_test : (placed : List PlacedStatement) (index : ℕ) (s : RelatedStrings) (b : Bool) (other : Option (List ℕ))
    → (if b then both_strings (plain_at (slice_get placed index)) other else None) ≡ Some s → IsRelationAt placed index s.string
by_test placed index s true other h = by_get placed index s (slice_get placed index) other refl h
by_test placed index s false other h = cc

pub relation_at : (placed : List PlacedStatement) (index : ℕ) (s : RelatedStrings) → related_at placed index ≡ Some s
    → IsRelationAt placed index s.string
unfolding related_at
relation_at placed index s h = by_test placed index s (nat_lt 0 index) (string_at (slice_get placed (index - 1))) h

pub relation_inside : (placed : List PlacedStatement) (index : ℕ) (s : RelatedStrings) → related_at placed index ≡ Some s
    → index < length placed
relation_inside placed index s h = let r = relation_at placed index s h in slice_get_within placed index r.at r.found
