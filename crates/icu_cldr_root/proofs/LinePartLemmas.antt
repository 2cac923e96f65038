-- The words behind the name of a line in brackets, one by one.
use Rattle.std.proofs.Common.{◌≡◌, Bool, true, false, List, [], ◌∷◌, ◌++◌, refl, sym, ap, ◌∙◌}
use Rattle.std.specs.Prelude.{◌||◌}
use Rattle.std.specs.List.{list_any}

or_more : (a b c : Bool) → (a || b) || c ≡ a || (b || c)
or_more true b c = refl
or_more false b c = refl

or_false : (a : Bool) → a || false ≡ a
or_false true = refl
or_false false = refl

-- one item more
any_more : {X : Type 0} (f : X → Bool) (xs : List X) (y : X) → list_any f (xs ++ y ∷ []) ≡ list_any f xs || f y
any_more f [] y = or_false (f y)
any_more f (x ∷ xs) y = ap (λ b. f x || b) (any_more f xs y) ∙ sym (or_more (f x) (list_any f xs) (f y))

-- there was one before
pub any_before : {X : Type 0} (f : X → Bool) (xs : List X) (y : X) (b : Bool) → b ≡ list_any f xs → b ≡ true → b ≡ list_any f (xs ++ y ∷ [])
any_before f xs y b e t = t ∙ sym (any_more f xs y ∙ ap (λ a. a || f y) (sym e ∙ t))

-- there was none before
pub any_now : {X : Type 0} (f : X → Bool) (xs : List X) (y : X) (b new : Bool) → b ≡ list_any f xs → b ≡ false → new ≡ f y → new ≡ list_any f (xs ++ y ∷ [])
any_now f xs y b new e t n = n ∙ sym (any_more f xs y ∙ ap (λ a. a || f y) (sym e ∙ t))
