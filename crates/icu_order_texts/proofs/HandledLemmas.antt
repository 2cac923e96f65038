-- What handled elements, and the lists of their weights, have.
use Rattle.std.proofs.Common.{◌≡◌, ◌≢◌, ℕ, Bool, true, false, ◌&&◌, ◌==◌, List, [], ◌∷◌, ◌++◌, if◌then◌else◌, refl}
use Rattle.std.proofs.lemmas.Bool.{eqb-false}
use Rattle.std.specs.List.{AllByRecursion}
use Rattle.icu_options.specs.declared.settings.AlternateHandling.{AlternateHandling}
use Rattle.icu_options.specs.declared.settings.AlternateHandling.TheVariants.{NonIgnorable, Shifted, Blanked}
use Rattle.icu_table_entries.specs.Elements.{Element}
use Rattle.icu_order_texts.specs.weighting.Handled.{HandledElement, stayed, shifted_primary, is_variable, handled_variable, handled, stayed_elements}
use Rattle.icu_order_texts.specs.weighting.Levels.{weights}

-- what holds of each branch, where its test came out so
pub by_test : {X : Type 0} (C : X → Type 0) (b : Bool) (x y : X) → (b ≡ true → C x) → (b ≡ false → C y) → C (if b then x else y)
by_test C true x y f g = f refl
by_test C false x y f g = g refl

-- what holds of an element that stayed, or of the primary of one that is shifted
abbrev pub HoldsOf : (Element → Type 0) → (ℕ → Type 0) → HandledElement → Type 0
HoldsOf P Q (stayed x) = P x
HoldsOf P Q (shifted_primary p) = Q p

variable_holds : (P : Element → Type 0) (Q : ℕ → Type 0) (handling : AlternateHandling) (p : ℕ) (hs : List HandledElement) → Q p
    → AllByRecursion (HoldsOf P Q) hs → AllByRecursion (HoldsOf P Q) (handled_variable handling p ++ hs)
variable_holds P Q NonIgnorable p hs q h = (q, h)
variable_holds P Q Shifted p hs q h = (q, h)
variable_holds P Q Blanked p hs q h = h

pub handled_hold : (P : Element → Type 0) (Q : ℕ → Type 0) (handling : AlternateHandling) (last : ℕ)
    → ((x : Element) → P x → is_variable last x ≡ true → Q x.primary)
    → (after : Bool) (es : List Element) → AllByRecursion P es → AllByRecursion (HoldsOf P Q) (handled handling last after es)
unfolding handled
handled_hold P Q handling last f after [] h = tt
handled_hold P Q handling last f after (x ∷ xs) h =
    by_test (AllByRecursion (HoldsOf P Q)) (is_variable last x) _ _
    (λ v. variable_holds P Q handling x.primary (handled handling last true xs) (f x h.0 v) (handled_hold P Q handling last f true xs h.1))
    (λ v. by_test (AllByRecursion (HoldsOf P Q)) (after && x.primary == 0) _ _ (λ _. handled_hold P Q handling last f true xs h.1)
    (λ _. (h.0, handled_hold P Q handling last f false xs h.1)))

-- a variable element gives nothing that stayed
pub none_stayed : (handling : AlternateHandling) (p : ℕ) (hs : List HandledElement)
    → stayed_elements (handled_variable handling p ++ hs) ≡ stayed_elements hs
none_stayed NonIgnorable p hs = refl
none_stayed Shifted p hs = refl
none_stayed Blanked p hs = refl

pub stayed_hold : (P : Element → Type 0) (Q : ℕ → Type 0) (hs : List HandledElement) → AllByRecursion (HoldsOf P Q) hs
    → AllByRecursion P (stayed_elements hs)
stayed_hold P Q [] h = tt
stayed_hold P Q (stayed x ∷ hs) h = (h.0, stayed_hold P Q hs h.1)
stayed_hold P Q (shifted_primary p ∷ hs) h = stayed_hold P Q hs h.1

-- what a level has for each element that it reads something of
pub weights_hold : (P : Element → Type 0) (Q : ℕ → Type 0) (reads has : Element → ℕ) → ((x : Element) → P x → reads x ≢ 0 → Q (has x))
    → (es : List Element) → AllByRecursion P es → AllByRecursion Q (weights reads has es)
unfolding weights
weights_hold P Q reads has f [] h = tt
weights_hold P Q reads has f (x ∷ xs) h =
    by_test (AllByRecursion Q) (reads x == 0) _ _ (λ _. weights_hold P Q reads has f xs h.1)
    (λ n. (f x h.0 (eqb-false (reads x) 0 n), weights_hold P Q reads has f xs h.1))
