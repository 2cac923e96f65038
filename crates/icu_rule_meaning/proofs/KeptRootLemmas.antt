-- What rules leave of the root.
use Rattle.std.proofs.Common.{◌≡◌, ℕ, zero, suc, Bool, true, false, ◌==◌, ◌||◌, List, [], ◌∷◌, ◌++◌, drop, length, Option, Some, None, if◌then◌else◌, refl, ap, ◌∙◌}
use Rattle.std.specs.List.{list_any, AllByRecursion}
use Rattle.unicode_normalization.specs.Forms.{nfd}
use Rattle.unicode_normalization.specs.Order.{is_starter}
use Rattle.icu_options.specs.declared.settings.Strength.{Strength}
use Rattle.icu_options.specs.declared.settings.Strength.TheVariants.{Primary, Secondary, Tertiary, Quaternary, Identical}
use Rattle.icu_rule_meaning.specs.Rules.{ResetPlace, Rule, reset, relation, suppression, setting, have_character}
use Rattle.icu_rule_meaning.specs.declared.symbolic.SymbolicElement.{SymbolicElement}
use Rattle.icu_rule_meaning.specs.TailoredRoots.{Root}
use Rattle.icu_rule_meaning.specs.TailoredMappings.{SymbolicMapping, SymbolicMappings, SymbolicMatch, root_mappings, beginnings, mappings_behind, mapping_with, is_blocked_by, joined_marks, longest_suffix, match_by, symbolic_match, context_behind, symbolic_along, symbolic_elements}
use Rattle.icu_rule_meaning.specs.Steps.{TailoringState, first_state, difference_step, strength_step, case_step, mapping_step, reset_step, before_step, relation_step, suppression_step, rule_step, state_after, tailoring_of}
use Rattle.icu_rule_meaning.specs.RootLaws.{string_begins, touches, IsUntouched}

-- ---- untouched characters keep their mappings

or_left : (a b : Bool) → (a || b) ≡ false → a ≡ false
or_left true b e = e
or_left false b e = refl

or_right : (a b : Bool) → (a || b) ≡ false → b ≡ false
or_right true b e = absurd_bool e where
  absurd_bool : {b : Bool} → true ≡ false → b ≡ false
  absurd_bool e = cc
or_right false b e = e

second_of : {A : Type 0} (b : Bool) (x y : A) → b ≡ false → (if b then x else y) ≡ y
second_of true x y e = cc
second_of false x y e = refl

pub before_keeps : (root : Root) (before : Option Strength) (place : ResetPlace) (state : TailoringState)
    → (reset_step root before place state).mappings ≡ state.mappings
unfolding reset_step before_step
before_keeps root None place state = refl
before_keeps root (Some strength) place state = refl

pub strength_keeps : (strength : Strength) (state : TailoringState) → (strength_step strength state).mappings ≡ state.mappings
unfolding difference_step
strength_keeps Primary state = refl
strength_keeps Secondary state = refl
strength_keeps Tertiary state = refl
strength_keeps Quaternary state = refl
strength_keeps Identical state = refl

mapping_keeps : (prefix string : List ℕ) (es : List SymbolicElement) (state : TailoringState) (c : ℕ)
    → string_begins c string ≡ false → (mapping_step prefix string es state).mappings c ≡ state.mappings c
mapping_keeps prefix [] es state c e = refl
mapping_keeps prefix (d ∷ suffix) es state c e = second_of (c == d) _ (state.mappings c) e

rule_keeps : (root : Root) (state : TailoringState) (rule : Rule) (c : ℕ) → touches c rule ≡ false
    → (rule_step root state rule).mappings c ≡ state.mappings c
unfolding relation_step suppression_step
rule_keeps root state (reset before place) c e = ap (λ (m : SymbolicMappings). m c) (before_keeps root before place state)
rule_keeps root state (relation strength prefix string extension) c e =
    mapping_keeps (nfd prefix) (nfd string) _ (case_step root (nfd string) (strength_step strength state)) c e
    ∙ ap (λ (m : SymbolicMappings). m c) (strength_keeps strength state)
rule_keeps root state (suppression ranges) c e = second_of (have_character ranges c) _ (state.mappings c) e
rule_keeps root state (setting s) c e = refl

state_keeps : (root : Root) (state : TailoringState) (rules : List Rule) (c : ℕ) → IsUntouched rules c
    → (state_after root state rules).mappings c ≡ state.mappings c
state_keeps root state [] c e = refl
state_keeps root state (rule ∷ rules) c e =
    state_keeps root (rule_step root state rule) rules c (or_right (touches c rule) (list_any (touches c) rules) e)
    ∙ rule_keeps root state rule c (or_left (touches c rule) (list_any (touches c) rules) e)

-- ---- what a match leaves is of the text

pub all_append : (P : ℕ → Type 0) (xs ys : List ℕ) → AllByRecursion P xs → AllByRecursion P ys → AllByRecursion P (xs ++ ys)
all_append P [] ys p q = q
all_append P (x ∷ xs) ys (p, ps) q = (p, all_append P xs ys ps q)

pub all_drop : (P : ℕ → Type 0) (n : ℕ) (xs : List ℕ) → AllByRecursion P xs → AllByRecursion P (drop n xs)
all_drop P zero xs p = p
all_drop P (suc n) [] p = p
all_drop P (suc n) (x ∷ xs) (p, ps) = all_drop P n xs ps

pub one_of : (P : ℕ → Type 0) (b : Bool) (m n : SymbolicMatch) → AllByRecursion P m.rest → AllByRecursion P n.rest
    → AllByRecursion P (if b then m else n).rest
one_of P true m n p q = p
one_of P false m n p q = q

pub found_or : (P : ℕ → Type 0) (o : Option SymbolicMapping) (some : SymbolicMapping → SymbolicMatch) (none : SymbolicMatch)
    → ((m : SymbolicMapping) → AllByRecursion P (some m).rest) → AllByRecursion P none.rest
    → AllByRecursion P (elim o as (λ _. SymbolicMatch) [ Some m ↦ some m | None ↦ none ]).rest
found_or P (Some m) some none p q = p m
found_or P None some none p q = q

pub marks_leave : (P : ℕ → Type 0) (mappings : List SymbolicMapping) (found : SymbolicMapping) (passed text : List ℕ)
    → AllByRecursion P passed → AllByRecursion P text → AllByRecursion P (joined_marks mappings found passed text).rest
unfolding joined_marks
marks_leave P mappings found passed [] p q = p
marks_leave P mappings found passed (m ∷ text) p (q, qs) =
    let with_m : AllByRecursion P (passed ++ m ∷ []) = all_append P passed (m ∷ []) p (q, tt) in
    let over = marks_leave P mappings found (passed ++ m ∷ []) text with_m qs in
    let ended : SymbolicMatch =
    record { elements = found.elements; suffix = found.suffix; rest = passed ++ m ∷ text } in
    let passed_over = joined_marks mappings found (passed ++ m ∷ []) text in
    let tried : SymbolicMatch = elim (mapping_with mappings (found.suffix ++ m ∷ [])) [
      | Some longer ↦ joined_marks mappings longer passed text
      | None ↦ passed_over
    ] in
    let unblocked : SymbolicMatch = if is_blocked_by passed m then passed_over else tried in
    one_of P (is_starter m) ended unblocked (all_append P passed (m ∷ text) p (q, qs))
    (one_of P (is_blocked_by passed m) passed_over tried over
    (found_or P (mapping_with mappings (found.suffix ++ m ∷ [])) (λ longer. joined_marks mappings longer passed text)
    passed_over (λ longer. marks_leave P mappings longer passed text p qs) over))

pub match_leaves : (P : ℕ → Type 0) (mappings : List SymbolicMapping) (text : List ℕ) → AllByRecursion P text
    → AllByRecursion P (match_by mappings text).rest
match_leaves P mappings text p =
    let none : SymbolicMatch = record { elements = []; suffix = []; rest = text } in
    found_or P (longest_suffix None mappings text)
    (λ found. joined_marks mappings found [] (drop (length found.suffix) text)) none
    (λ found. marks_leave P mappings found [] (drop (length found.suffix) text) tt (all_drop P (length found.suffix) text p))
    p

-- ---- characters with the same mappings give the same elements

same_along : (along : List ℕ) (mappings others : SymbolicMappings) (before text : List ℕ)
    → AllByRecursion (λ c. mappings c ≡ others c) text
    → symbolic_along along mappings before text ≡ symbolic_along along others before text
unfolding symbolic_along
same_along along mappings others before [] p = refl
same_along [] mappings others before (c ∷ text) p = refl
same_along (a ∷ along) mappings others before (c ∷ text) (p, ps) =
    let m = symbolic_match mappings before c text in
    let rest_same = same_along along mappings others (context_behind before c m) m.rest
    (match_leaves (λ d. mappings d ≡ others d) (mappings_behind (mappings c) (beginnings before)) text ps) in
    ap (λ es. m.elements ++ es) rest_same
    ∙ ap (λ ms. let n = match_by (mappings_behind ms (beginnings before)) text in
    n.elements ++ symbolic_along along others (context_behind before c n) n.rest) p

all_map : {P Q : ℕ → Type 0} (xs : List ℕ) → ((x : ℕ) → P x → Q x) → AllByRecursion P xs → AllByRecursion Q xs
all_map [] f p = tt
all_map (x ∷ xs) f (p, ps) = (f x p, all_map xs f ps)

pub untouched_elements : (root : Root) (rules : List Rule) (text : List ℕ) → AllByRecursion (IsUntouched rules) text
    → symbolic_elements (tailoring_of root rules).mappings text ≡ symbolic_elements (root_mappings root) text
untouched_elements root rules text p =
    same_along text (tailoring_of root rules).mappings (root_mappings root) [] text
    (all_map text (state_keeps root (first_state root) rules) p)
