-- Which characters relations touched, after a relation and after a suppression.
use Rattle.std.proofs.Common.{◌≡◌, ℕ, Bool, true, false, ◌||◌, ◌&&◌, ◌==◌, List, [], ◌∷◌, ◌++◌, Option, Some, None, cond, refl, sym, ap, ◌∙◌, subst}
use Rattle.std.specs.List.{list_any}
use Rattle.std.specs.Option.{is_some}
use Rattle.std.specs.Map.{keys_of, lookup}
use Rattle.std.specs.Map.Calls.{RetainsPairs}
use Rattle.std.specs.Ordering.{nat_cmp}
use Rattle.std.specs.Cmp.{unsigned_tied}
use Rattle.std.specs.BTreeMap.{get, is_at}
use Rattle.std.proofs.lemmas.Bool.{true≢false}
use Rattle.std.proofs.lemmas.Map.Made.{is_some-lookup}
use Rattle.std.proofs.lemmas.List.Folds.{list_any-append}
use Rattle.icu_rule_parser.specs.declared.statement.CharacterRange.{CharacterRange}
use Rattle.icu_rule_steps.specs.declared.symbolic_mappings.character_mapping.TouchedCharacter.{TouchedCharacter}
use Rattle.icu_rule_steps.specs.declared.symbolic_mappings.kept_mappings.Mappings.{Mappings}
use Rattle.icu_rule_meaning.specs.TailoredRoots.{RootMapping}
use Rattle.icu_rule_steps.specs.symbolic_mappings.KeptMappings.{mappings_in, untouched_mappings}
use Rattle.icu_rule_steps.specs.symbolic_mappings.TouchedCharacters.{have_touched, touched_in}
use Rattle.icu_rule_steps.proofs.symbolic_mappings.KeptMappingLemmas.{Own, IsSuppressed, own_absent, same_key, turned}

put_there : (b : Bool) (own : Own) (o : Option Own) → is_some (cond b (Some own) (cond b None o)) ≡ (is_some o || b)
put_there true own None = refl
put_there true own (Some other) = refl
put_there false own None = refl
put_there false own (Some other) = refl

-- what was taken out and put in again is touched, and the others are as they were
pub touched_put : (c q : ℕ) (own : Own) (o : Option Own)
    → is_some (cond (is_at (nat_cmp c) q) (Some own) (cond (is_at (nat_cmp c) q) None o)) ≡ (is_some o || (q == c))
touched_put c q own o =
    put_there (is_at (nat_cmp c) q) own o ∙ ap (λ b. is_some o || b) (unsigned_tied c q ∙ turned c q)

module _ {F : Type 0} (T : F → ℕ → Own → Bool → Own → F → Type 0) (f : F) (ranges : List CharacterRange)
    (says : (k : ℕ) (v : Own) (b : Bool) (w : Own) (g : F) → T f k v b w g → (b ≡ true) × IsSuppressed ranges k v w × (g ≡ f)) where
  same_found : (b : Bool) (v w : Own) (old new : Option Own) → is_some new ≡ is_some old → is_some (cond b (Some w) new) ≡ is_some (cond b (Some v) old)
  same_found true v w old new e = refl
  same_found false v w old new e = e

  -- a suppression takes no character out
  pub retained_touched : (es kept : List (ℕ × Own)) → RetainsPairs T f es kept → (q : ℕ)
      → is_some (lookup (is_at (nat_cmp q)) kept) ≡ is_some (lookup (is_at (nat_cmp q)) es)
  retained_touched [] kept r q = ap (λ ks. is_some (lookup (is_at (nat_cmp q)) ks)) r
  retained_touched (e ∷ es) kept (b, w, g, rest, t, more, is) q =
      let said = says e.0 e.1 b w g t in
      let next : RetainsPairs T f es rest = subst (λ h. RetainsPairs T h es rest) said.2 more in
      let kept_is : kept ≡ (e.0, w) ∷ rest = is ∙ ap (λ a. cond a ((e.0, w) ∷ rest) rest) said.0 in
      ap (λ ks. is_some (lookup (is_at (nat_cmp q)) ks)) kept_is
      ∙ same_found (is_at (nat_cmp q) e.0) e.1 w (lookup (is_at (nat_cmp q)) es) (lookup (is_at (nat_cmp q)) rest) (retained_touched es rest next q)

-- ---- characters that are listed one after another

-- the characters that are listed, and those still to come, are all that were touched
abbrev pub IsListedTo : {R : Type 0} → Mappings R → List TouchedCharacter → List ℕ → Type 0
IsListedTo m listed rest = (q : ℕ) → (have_touched listed q || (touched_in m q && list_any (is_at (nat_cmp q)) rest)) ≡ touched_in m q

one_more : (h b a t : Bool) → (b ≡ true → t ≡ true) → (h || (t && (b || a))) ≡ t → ((h || (b || false)) || (t && a)) ≡ t
one_more true b a t s e = e
one_more false true a t s e = sym (s refl)
one_more false false a t s e = e

one_less : (h b a t : Bool) → (b ≡ true → t ≡ false) → (h || (t && (b || a))) ≡ t → (h || (t && a)) ≡ t
one_less true b a t s e = e
one_less false true a t s e = ap (λ x. x && a) (s refl) ∙ sym (s refl)
one_less false false a t s e = e

none_left : (h t : Bool) → (h || (t && false)) ≡ t → t ≡ h
none_left true t e = sym e
none_left false true e = sym e
none_left false false e = refl

twice : (b : Bool) → (b && b) ≡ b
twice true = refl
twice false = refl

is_there : (t k q : ℕ) → t ≡ k → (t == q) ≡ is_at (nat_cmp q) k
is_there t k q e = ap (λ x. x == q) e ∙ turned k q ∙ sym (unsigned_tied q k)

module _ {R : Type 0} (m : Mappings R) where
  pub listed_all : (listed : List TouchedCharacter) (rest : List ℕ) → listed ≡ [] → rest ≡ keys_of m.touched.entries → IsListedTo m listed rest
  unfolding touched_in
  listed_all listed rest none e q =
      ap (λ (ts : List TouchedCharacter). have_touched ts q || (touched_in m q && list_any (is_at (nat_cmp q)) rest)) none
      ∙ ap (λ b. touched_in m q && b) (ap (list_any (is_at (nat_cmp q))) e ∙ sym (is_some-lookup (is_at (nat_cmp q)) m.touched.entries))
      ∙ twice (touched_in m q)

  pub listed_one : (listed more : List TouchedCharacter) (t : TouchedCharacter) (k : ℕ) (rest0 rest : List ℕ) → more ≡ listed ++ t ∷ [] → t.character ≡ k
      → rest0 ≡ k ∷ rest → touched_in m k ≡ true → IsListedTo m listed rest0 → IsListedTo m more rest
  listed_one listed more t k rest0 rest is same begins there before q =
      ap (λ (ts : List TouchedCharacter). have_touched ts q || (touched_in m q && list_any (is_at (nat_cmp q)) rest)) is
      ∙ ap (λ b. b || (touched_in m q && list_any (is_at (nat_cmp q)) rest)) (list_any-append (λ (x : TouchedCharacter). x.character == q) listed (t ∷ [])
      ∙ ap (λ b. have_touched listed q || (b || false)) (is_there t.character k q same))
      ∙ one_more (have_touched listed q) (is_at (nat_cmp q) k) (list_any (is_at (nat_cmp q)) rest) (touched_in m q)
      (λ h. ap (touched_in m) (same_key q k h) ∙ there)
      (ap (λ ks. have_touched listed q || (touched_in m q && list_any (is_at (nat_cmp q)) ks)) (sym begins) ∙ before q)

  pub listed_none : (listed : List TouchedCharacter) (k : ℕ) (rest0 rest : List ℕ)
      → rest0 ≡ k ∷ rest → touched_in m k ≡ false → IsListedTo m listed rest0 → IsListedTo m listed rest
  listed_none listed k rest0 rest begins absent before q =
      one_less (have_touched listed q) (is_at (nat_cmp q) k) (list_any (is_at (nat_cmp q)) rest) (touched_in m q)
      (λ h. ap (touched_in m) (same_key q k h) ∙ absent)
      (ap (λ ks. have_touched listed q || (touched_in m q && list_any (is_at (nat_cmp q)) ks)) (sym begins) ∙ before q)

  pub listed_whole : (listed : List TouchedCharacter) (rest : List ℕ) → rest ≡ [] → IsListedTo m listed rest → (q : ℕ) → touched_in m q ≡ have_touched listed q
  listed_whole listed rest e to q =
      none_left (have_touched listed q) (touched_in m q)
      (ap (λ ks. have_touched listed q || (touched_in m q && list_any (is_at (nat_cmp q)) ks)) (sym e) ∙ to q)

-- ---- characters that no relation touched

none_there : {X : Type 0} (o : Option X) → is_some o ≡ false → o ≡ None
none_there None e = refl
none_there (Some x) e = absurd (true≢false e)

-- the mappings of a character that no relation touched
pub untouched_own : {R : Type 0} (mappings_of : R → ℕ → List RootMapping) (m : Mappings R) (c : ℕ) → touched_in m c ≡ false
    → mappings_in mappings_of m c ≡ untouched_mappings mappings_of m c
unfolding touched_in
untouched_own mappings_of m c e = own_absent mappings_of m c (none_there (get nat_cmp m.touched c) e)
