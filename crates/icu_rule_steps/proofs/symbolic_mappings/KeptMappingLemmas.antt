-- The mappings that are kept, after a relation and after a suppression.
use Rattle.std.proofs.Common.{◌≡◌, ℕ, Bool, true, false, ◌||◌, ◌&&◌, ◌==◌, List, [], ◌∷◌, ◌++◌, map, Option, Some, None, cond, if◌then◌else◌, refl, sym, ap, ◌∙◌, subst, arith}
use Rattle.std.specs.Prelude.{filter, nat_le}
use Rattle.std.specs.Global.{Vec}
use Rattle.std.specs.Map.{lookup}
use Rattle.std.specs.Map.Calls.{RetainsPairs}
use Rattle.std.specs.Ordering.{nat_cmp}
use Rattle.std.specs.Cmp.{unsigned_tied}
use Rattle.std.specs.BTreeMap.{get, is_at}
use Rattle.std.proofs.lemmas.List.Folds.{list_any-append}
use Rattle.std.proofs.lemmas.Bool.Decides.{Decides-eqb, nat_tests}
use Rattle.icu_rule_parser.specs.declared.statement.CharacterRange.{CharacterRange}
use Rattle.icu_rule_meaning.specs.declared.symbolic.SymbolicElement.{SymbolicElement}
use Rattle.icu_rule_meaning.specs.Rules.{have_character}
use Rattle.icu_rule_meaning.specs.TailoredMappings.{SymbolicMapping, has_no_context}
use Rattle.icu_rule_meaning.specs.TailoredRoots.{RootMapping}
use Rattle.icu_rule_steps.specs.declared.symbolic_mappings.character_mapping.CharacterMapping.{CharacterMapping}
use Rattle.icu_rule_steps.specs.declared.symbolic_mappings.kept_mappings.Mappings.{Mappings}
use Rattle.icu_rule_steps.specs.symbolic_mappings.StoredMappings.{suppressed_at, symbolic_mappings}
use Rattle.icu_rule_steps.specs.symbolic_mappings.KeptMappings.{mappings_in, own_or, untouched_mappings}

-- ---- filters

map_kept : {X Y : Type 0} (f : X → Y) (b : Bool) (x : X) (xs : List X) (ys : List Y) → ys ≡ map f xs → cond b (f x ∷ ys) ys ≡ map f (cond b (x ∷ xs) xs)
map_kept f true x xs ys e = ap (λ zs. f x ∷ zs) e
map_kept f false x xs ys e = e

-- a filter of what a function makes of the members
pub filter_of_map : {X Y : Type 0} (p : Y → Bool) (f : X → Y) (xs : List X) → filter p (map f xs) ≡ map f (filter (λ x. p (f x)) xs)
filter_of_map p f [] = refl
filter_of_map p f (x ∷ xs) = map_kept f (p (f x)) x (filter (λ y. p (f y)) xs) (filter p (map f xs)) (filter_of_map p f xs)

kept_twice : {X : Type 0} (p : X → Bool) (b : Bool) (x : X) (xs : List X) → p x ≡ b → filter p xs ≡ xs → filter p (cond b (x ∷ xs) xs) ≡ cond b (x ∷ xs) xs
kept_twice p true x xs h e = rw h (ap (λ ys. x ∷ ys) e)
kept_twice p false x xs h e = e

filter_twice : {X : Type 0} (p : X → Bool) (xs : List X) → filter p (filter p xs) ≡ filter p xs
filter_twice p [] = refl
filter_twice p (x ∷ xs) = kept_twice p (p x) x (filter p xs) refl (filter_twice p xs)

both_suppressed : (a b : Bool) (ms : List SymbolicMapping)
    → (if b then filter has_no_context (if a then filter has_no_context ms else ms) else (if a then filter has_no_context ms else ms)) ≡ (if a || b then filter has_no_context ms else ms)
both_suppressed true true ms = filter_twice has_no_context ms
both_suppressed true false ms = refl
both_suppressed false true ms = refl
both_suppressed false false ms = refl

have_more : (ranges more : List CharacterRange) (c : ℕ) → have_character (ranges ++ more) c ≡ (have_character ranges c || have_character more c)
have_more ranges more c = list_any-append (λ (range : CharacterRange). nat_le range.first c && nat_le c range.last) ranges more

-- suppressions one after another
pub suppressed_more : (ranges more : List CharacterRange) (c : ℕ) (ms : List SymbolicMapping) → suppressed_at more c (suppressed_at ranges c ms) ≡ suppressed_at (ranges ++ more) c ms
suppressed_more ranges more c ms =
    both_suppressed (have_character ranges c) (have_character more c) ms
    ∙ ap (λ b. if b then filter has_no_context ms else ms) (sym (have_more ranges more c))

-- ---- the map of the characters that were touched

abbrev pub Own : Type 0
Own = Vec (CharacterMapping SymbolicElement)

pub same_key : (q k : ℕ) → is_at (nat_cmp q) k ≡ true → q ≡ k
same_key q k h = (Decides-eqb q k).0 (sym (unsigned_tied q k) ∙ h)

-- what a suppression leaves of what a character has of its own
abbrev pub IsSuppressed : List CharacterRange → ℕ → Own → Own → Type 0
IsSuppressed ranges k v w = symbolic_mappings w.items ≡ suppressed_at ranges k (symbolic_mappings v.items)

module _ {F : Type 0} (T : F → ℕ → Own → Bool → Own → F → Type 0) (f : F) (ranges : List CharacterRange)
    (says : (k : ℕ) (v : Own) (b : Bool) (w : Own) (g : F) → T f k v b w g → (b ≡ true) × IsSuppressed ranges k v w × (g ≡ f)) where
  found_in : (q k : ℕ) (v w : Own) (b : Bool) (old new : Option Own) (d : List SymbolicMapping) → is_at (nat_cmp q) k ≡ b → IsSuppressed ranges k v w
      → own_or new (suppressed_at ranges q d) ≡ suppressed_at ranges q (own_or old d)
      → own_or (cond b (Some w) new) (suppressed_at ranges q d) ≡ suppressed_at ranges q (own_or (cond b (Some v) old) d)
  found_in q k v w true old new d h s e = s ∙ ap (λ j. suppressed_at ranges j (symbolic_mappings v.items)) (sym (same_key q k h))
  found_in q k v w false old new d h s e = e

  pub retained_at : (es kept : List (ℕ × Own)) → RetainsPairs T f es kept → (q : ℕ) (d : List SymbolicMapping)
      → own_or (lookup (is_at (nat_cmp q)) kept) (suppressed_at ranges q d) ≡ suppressed_at ranges q (own_or (lookup (is_at (nat_cmp q)) es) d)
  retained_at [] kept r q d = ap (λ ks. own_or (lookup (is_at (nat_cmp q)) ks) (suppressed_at ranges q d)) r
  retained_at (e ∷ es) kept (b, w, g, rest, t, more, is) q d =
      let said = says e.0 e.1 b w g t in
      let next : RetainsPairs T f es rest = subst (λ h. RetainsPairs T h es rest) said.2 more in
      let kept_is : kept ≡ (e.0, w) ∷ rest = is ∙ ap (λ a. cond a ((e.0, w) ∷ rest) rest) said.0 in
      ap (λ ks. own_or (lookup (is_at (nat_cmp q)) ks) (suppressed_at ranges q d)) kept_is
      ∙ found_in q e.0 e.1 w (is_at (nat_cmp q) e.0) (lookup (is_at (nat_cmp q)) es) (lookup (is_at (nat_cmp q)) rest) d refl said.1 (retained_at es rest next q d)

own_at : (b : Bool) (own : Own) (o : Option Own) (d : List SymbolicMapping) → own_or (cond b (Some own) (cond b None o)) d ≡ (if b then symbolic_mappings own.items else own_or o d)
own_at true own o d = refl
own_at false own o d = refl

pub turned : (c q : ℕ) → (c == q) ≡ (q == c)
turned c q = grind (arith, nat_tests)

-- what a character has of its own, where that was taken out and put in again
pub put_at : (c q : ℕ) (own : Own) (o : Option Own) (d : List SymbolicMapping)
    → own_or (cond (is_at (nat_cmp c) q) (Some own) (cond (is_at (nat_cmp c) q) None o)) d ≡ (if q == c then symbolic_mappings own.items else own_or o d)
put_at c q own o d =
    own_at (is_at (nat_cmp c) q) own o d
    ∙ ap (λ b. if b then symbolic_mappings own.items else own_or o d) (unsigned_tied c q ∙ turned c q)

-- ---- the mappings of a character

module _ {R : Type 0} (mappings_of : R → ℕ → List RootMapping) (m : Mappings R) (c : ℕ) where
  pub own_there : (own : Own) → get nat_cmp m.touched c ≡ Some own → mappings_in mappings_of m c ≡ symbolic_mappings own.items
  unfolding mappings_in
  own_there own is = ap (λ o. own_or o (untouched_mappings mappings_of m c)) is

  pub own_absent : get nat_cmp m.touched c ≡ None → mappings_in mappings_of m c ≡ untouched_mappings mappings_of m c
  unfolding mappings_in
  own_absent is = ap (λ o. own_or o (untouched_mappings mappings_of m c)) is
