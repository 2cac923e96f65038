-- The elements of a text are those of one match and of what it leaves: a match leaves no more than stood after its
-- character, so any list that is long enough will do to go by.
use Rattle.std.proofs.Common.{◌≡◌, ℕ, ◌+◌, ◌≤◌, List, [], ◌∷◌, ◌++◌, length, drop, refl, sym, ap, ◌∙◌, ◌<◌, append_assoc, arith, length-append, length-drop, None}
use Rattle.std.proofs.lemmas.List.{append-nil}
use Rattle.unicode_normalization.specs.Order.{is_starter}
use Rattle.icu_element_matches.proofs.ChoiceLemmas.{either, maybe_any}
use Rattle.icu_rule_meaning.specs.declared.symbolic.SymbolicElement.{SymbolicElement}
use Rattle.icu_rule_meaning.specs.TailoredMappings.{SymbolicMapping, SymbolicMappings, SymbolicMatch, beginnings, mappings_behind, longest_suffix, mapping_with, is_blocked_by, joined_marks, match_by, symbolic_match, context_behind, symbolic_along}
use Rattle.icu_rule_steps.specs.symbolic_mappings.inner.ReadByMappings.{ReadsCharacter}

-- a match leaves at most this many characters
pub record LeavesAtMost (n : ℕ) (m : SymbolicMatch) : Type 0 where
  pub fits : length m.rest ≤ n

joined_leave : (mappings : List SymbolicMapping) (found : SymbolicMapping) (passed text : List ℕ) → LeavesAtMost (length passed + length text) (joined_marks mappings found passed text)
unfolding joined_marks
joined_leave mappings found passed [] = record { fits = omega arith }
joined_leave mappings found passed (m ∷ ms) =
    let n = length passed + length (m ∷ ms) in
    let over : LeavesAtMost n (joined_marks mappings found (passed ++ m ∷ []) ms) =
    record { fits = omega (arith, (joined_leave mappings found (passed ++ m ∷ []) ms).fits, length-append passed (m ∷ [])) } in
    either (LeavesAtMost n) (is_starter m) _ _ (record { fits = simp length-append (omega arith) })
    (either (LeavesAtMost n) (is_blocked_by passed m) _ _ over
    (maybe_any (LeavesAtMost n) (mapping_with mappings (found.suffix ++ m ∷ [])) _ _ (λ longer. record { fits = omega (arith, (joined_leave mappings longer passed ms).fits) }) over))

pub match_leaves : (mappings : List SymbolicMapping) (text : List ℕ) → LeavesAtMost (length text) (match_by mappings text)
match_leaves mappings text =
    maybe_any (LeavesAtMost (length text)) (longest_suffix None mappings text) _ _
    (λ found. record { fits = omega (arith, (joined_leave mappings found [] (drop (length found.suffix) text)).fits, length-drop (length found.suffix) text) })
    (record { fits = omega arith })

pub along_enough : (mappings : SymbolicMappings) (along others before text : List ℕ) → length text ≤ length along → length text ≤ length others
    → symbolic_along along mappings before text ≡ symbolic_along others mappings before text
unfolding symbolic_along
along_enough mappings along others before [] fits fit = refl
along_enough mappings [] others before (c ∷ text) fits fit = absurd (omega arith)
along_enough mappings (_ ∷ along) [] before (c ∷ text) fits fit = absurd (omega arith)
along_enough mappings (_ ∷ along) (_ ∷ others) before (c ∷ text) fits fit =
    let m = symbolic_match mappings before c text in
    let shorter = (match_leaves (mappings_behind (mappings c) (beginnings before)) text).fits in
    ap (λ (es : List SymbolicElement). m.elements ++ es)
    (along_enough mappings along others (context_behind before c m) m.rest (omega (arith, shorter)) (omega (arith, shorter)))

-- one match, and then the rest
pub along_cons : (mappings : SymbolicMappings) (before : List ℕ) (c : ℕ) (text : List ℕ)
    → symbolic_along (c ∷ text) mappings before (c ∷ text)
    ≡ (symbolic_match mappings before c text).elements ++ symbolic_along (symbolic_match mappings before c text).rest mappings (context_behind before c (symbolic_match mappings before c text)) (symbolic_match mappings before c text).rest
unfolding symbolic_along
along_cons mappings before c text =
    let m = symbolic_match mappings before c text in
    let shorter = (match_leaves (mappings_behind (mappings c) (beginnings before)) text).fits in
    ap (λ (es : List SymbolicElement). m.elements ++ es)
    (along_enough mappings text m.rest (context_behind before c m) m.rest shorter (omega arith))

-- nothing has no elements
along_nil : (mappings : SymbolicMappings) (along before : List ℕ) → symbolic_along along mappings before [] ≡ []
unfolding symbolic_along
along_nil mappings along before = refl

-- the elements so far and those of what is left, where a character was read
pub along_turn : (mappings : SymbolicMappings) (c : ℕ) (before before' text0 text text' : List ℕ) (es es' whole : List SymbolicElement)
    → text0 ≡ c ∷ text → ReadsCharacter (mappings c) c before before' text text' es es'
    → es ++ symbolic_along text0 mappings before text0 ≡ whole → es' ++ symbolic_along text' mappings before' text' ≡ whole
along_turn mappings c before before' text0 text text' es es' whole is read so_far =
    let m = symbolic_match mappings before c text in
    ap (λ (xs : List SymbolicElement). xs ++ symbolic_along text' mappings before' text') read.added
    ∙ append_assoc es m.elements (symbolic_along text' mappings before' text')
    ∙ ap (λ (b : List ℕ). es ++ (m.elements ++ symbolic_along text' mappings b text')) read.context
    ∙ ap (λ (t : List ℕ). es ++ (m.elements ++ symbolic_along t mappings (context_behind before c m) t)) read.left
    ∙ ap (λ (xs : List SymbolicElement). es ++ xs) (sym (along_cons mappings before c text))
    ∙ ap (λ (t : List ℕ). es ++ symbolic_along t mappings before t) (sym is)
    ∙ so_far

-- the elements so far, where nothing is left
pub along_end : (mappings : SymbolicMappings) (before text : List ℕ) (es whole : List SymbolicElement) → text ≡ [] → es ++ symbolic_along text mappings before text ≡ whole → es ≡ whole
along_end mappings before text es whole is so_far =
    sym (append-nil es) ∙ ap (λ (xs : List SymbolicElement). es ++ xs) (sym (along_nil mappings [] before))
    ∙ ap (λ (t : List ℕ). es ++ symbolic_along t mappings before t) (sym is) ∙ so_far

-- what reading a character leaves
pub read_shorter : (mappings : SymbolicMappings) (c : ℕ) (before before' text0 text text' : List ℕ) (es es' : List SymbolicElement)
    → text0 ≡ c ∷ text → ReadsCharacter (mappings c) c before before' text text' es es' → length text' < length text0
read_shorter mappings c before before' text0 text text' es es' is read =
    omega (arith, ap length is, ap length read.left, (match_leaves (mappings_behind (mappings c) (beginnings before)) text).fits)
