-- Lists that a loop goes over, and the mappings that count behind a context.
use Rattle.std.proofs.Common.{◌≡◌, ℕ, zero, suc, ◌+◌, ◌<◌, ◌≤◌, Bool, List, [], ◌∷◌, ◌++◌, length, get_or, drop, take, map, Option, Bor, if◌then◌else◌, refl, sym, ap, ◌∙◌, arith}
use Rattle.std.specs.Prelude.{filter}
use Rattle.std.proofs.lemmas.List.{take_more, at_drop_more, map-append}
use Rattle.std.proofs.Math.ListN.{drop_of_length-le}
use Rattle.std.proofs.lemmas.List.Elements.{filter-append}
use Rattle.icu_rule_meaning.specs.declared.symbolic.SymbolicElement.{SymbolicElement}
use Rattle.icu_rule_meaning.specs.TailoredMappings.{SymbolicMapping, beginnings, longer_mapping, longest_suffix, mappings_behind}
use Rattle.icu_rule_steps.specs.declared.symbolic_mappings.character_mapping.CharacterMapping.{CharacterMapping}
use Rattle.icu_rule_steps.specs.symbolic_mappings.inner.Tiers.{lent_mapping, lent_mappings, with_tier}

pub filter_more : {X Y : Type 0} (p : Y → Bool) (f : X → Y) (xs : List X) (i : ℕ) (x : X) → i < length xs → x ≡ get_or xs i x
    → filter p (map f (take (i + 1) xs)) ≡ filter p (map f (take i xs)) ++ (if p (f x) then f x ∷ [] else [])
filter_more p f xs i x h is =
    ap (λ ys. filter p (map f ys)) (take_more xs i x h ∙ ap (λ y. take i xs ++ y ∷ []) (sym is))
    ∙ ap (filter p) (map-append f (take i xs) (x ∷ []))
    ∙ filter-append p (map f (take i xs)) (f x ∷ [])

pub next_turn : {X Z : Type 0} (F : List X → Z) (xs : List X) (i : ℕ) (x : X) → i < length xs → x ≡ get_or xs i x → F (drop i xs) ≡ F (x ∷ drop (i + 1) xs)
next_turn F xs i x h is = at_drop_more F xs i x h ∙ ap (λ y. F (y ∷ drop (i + 1) xs)) (sym is)

pub longest_turn : (best : Option SymbolicMapping) (xs : List (Bor (CharacterMapping SymbolicElement))) (i : ℕ) (x : Bor (CharacterMapping SymbolicElement)) (text : List ℕ) → i < length xs → x ≡ get_or xs i x
    → longest_suffix best (lent_mappings (drop i xs)) text ≡ longest_suffix (longer_mapping text best (lent_mapping x)) (lent_mappings (drop (i + 1) xs)) text
unfolding longest_suffix
longest_turn best xs i x text h is = next_turn (λ ys. longest_suffix best (lent_mappings ys) text) xs i x h is

pub longest_end : (best : Option SymbolicMapping) (xs : List (Bor (CharacterMapping SymbolicElement))) (i : ℕ) (text : List ℕ) → length xs ≤ i → longest_suffix best (lent_mappings (drop i xs)) text ≡ best
unfolding longest_suffix
longest_end best xs i text past = ap (λ ys. longest_suffix best (lent_mappings ys) text) (drop_of_length-le xs past)

longest_prefix_first : (xs : List ℕ) (i : ℕ) → i < length xs → beginnings (take (suc i) xs) ≡ take (suc i) xs ∷ beginnings (take i xs)
longest_prefix_first [] i h = absurd (omega arith)
longest_prefix_first (x ∷ xs) zero h = refl
longest_prefix_first (x ∷ xs) (suc i) h =
    ap (λ bs. map (λ more. x ∷ more) bs ++ [] ∷ []) (longest_prefix_first xs i (omega arith))

pub tier_more : (mappings : List SymbolicMapping) (xs : List ℕ) (i : ℕ) → i < length xs
    → mappings_behind mappings (beginnings (take (i + 1) xs)) ≡ with_tier mappings (take (i + 1) xs) (mappings_behind mappings (beginnings (take i xs)))
unfolding mappings_behind
tier_more mappings xs i h =
    let next : i + 1 ≡ suc i = omega arith in
    let more : beginnings (take (i + 1) xs) ≡ take (i + 1) xs ∷ beginnings (take i xs) =
    ap (λ n. beginnings (take n xs)) next ∙ longest_prefix_first xs i h ∙ ap (λ n. take n xs ∷ beginnings (take i xs)) (sym next) in
    ap (mappings_behind mappings) more

pub first_tier : (mappings : List SymbolicMapping) → mappings_behind mappings (beginnings []) ≡ with_tier mappings [] []
unfolding mappings_behind
first_tier mappings = refl
