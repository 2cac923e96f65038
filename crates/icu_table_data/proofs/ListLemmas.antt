-- A part of a list that a function went over.
use Rattle.std.proofs.Common.{◌≡◌, ℕ, ◌<◌, List, [], ◌∷◌, ◌++◌, ◌⊎◌, inl, inr, length, get_or, map, take, drop, subst, ap, ◌∙◌, arith}
use Rattle.std.proofs.lemmas.List.{take-map, drop-map, drop_more, length-map}
use Rattle.std.proofs.lemmas.List.Elements.{All-contains_itself, All-contains, All-from_recursion, recursion_from_All, Contains-append_cases, Contains-append_left, Contains-append_right, Contains-push, Contains-push_cases}
use Rattle.std.specs.List.{AllByRecursion, Contains}

pub map_taken : {X Y : Type 0} (f : X → Y) (n i : ℕ) (xs : List X) → take n (drop i (map f xs)) ≡ map f (take n (drop i xs))
map_taken f n i xs = ap (take n) (drop-map f i xs) ∙ take-map f n (drop i xs)

pub one_taken : {X Y : Type 0} (f : X → Y) (i : ℕ) (xs : List X) (d : X) → i < length (map f xs) → take 1 (drop i (map f xs)) ≡ f (get_or xs i d) ∷ []
one_taken f i xs d inside =
    let place : i < length xs = subst (λ n. i < n) (length-map xs f) inside in
    map_taken f 1 i xs ∙ ap (λ ys. map f (take 1 ys)) (drop_more xs i d place)

-- a fact of everything is one of each member
pub all_of : {X : Type 0} (P : X → Type 0) → ((x : X) → P x) → (xs : List X) → AllByRecursion P xs
all_of P f [] = tt
all_of P f (x ∷ xs) = (f x, all_of P f xs)

-- each member is one
pub all_members : {X : Type 0} (xs : List X) → AllByRecursion (Contains xs) xs
all_members xs = recursion_from_All (Contains xs) xs (All-contains_itself xs)

-- a fact of each member is one of this member
pub of_member : {X : Type 0} (P : X → Type 0) (xs : List X) (x : X) → AllByRecursion P xs → Contains xs x → P x
of_member P xs x all is = All-contains P xs x (All-from_recursion P xs all) is

-- a fact of each member gives a weaker one of each
pub weaker : {X : Type 0} (P Q : X → Type 0) → ((x : X) → P x → Q x) → (xs : List X) → AllByRecursion P xs → AllByRecursion Q xs
weaker P Q f [] all = tt
weaker P Q f (x ∷ xs) all = (f x all.0, weaker P Q f xs all.1)

pub all_append : {X : Type 0} (P : X → Type 0) (xs ys : List X) → AllByRecursion P xs → AllByRecursion P ys → AllByRecursion P (xs ++ ys)
all_append P [] ys p q = q
all_append P (x ∷ xs) ys p q = (p.0, all_append P xs ys p.1 q)

pub all_first : {X : Type 0} (P : X → Type 0) (xs ys : List X) → AllByRecursion P (xs ++ ys) → AllByRecursion P xs
all_first P [] ys p = tt
all_first P (x ∷ xs) ys p = (p.0, all_first P xs ys p.1)

pub all_second : {X : Type 0} (P : X → Type 0) (xs ys : List X) → AllByRecursion P (xs ++ ys) → AllByRecursion P ys
all_second P [] ys p = p
all_second P (x ∷ xs) ys p = all_second P xs ys p.1

pub nothing_in : {X : Type 0} (x : X) → Contains [] x → ⊥
nothing_in x has = absurd (omega (arith, has.1))

pub in_first : {X : Type 0} (x y : X) (xs : List X) → Contains (x ∷ xs) y → (x ≡ y) ⊎ Contains xs y
in_first x y xs has =
    elim (Contains-append_cases (x ∷ []) xs y has) [
      | inl at ↦ elim (Contains-push_cases [] x y at) [ inl none ↦ absurd (nothing_in y none) | inr is ↦ inl is ]
      | inr rest ↦ inr rest
    ]

pub at_first : {X : Type 0} (x : X) (xs : List X) → Contains (x ∷ xs) x
at_first x xs = Contains-append_left (x ∷ []) xs x (Contains-push [] x)

pub at_rest : {X : Type 0} (x y : X) (xs : List X) → Contains xs y → Contains (x ∷ xs) y
at_rest x y xs = Contains-append_right (x ∷ []) xs y

pub in_map : {X Y : Type 0} (f : X → Y) (xs : List X) (x : X) → Contains xs x → Contains (map f xs) (f x)
in_map f [] x has = absurd (nothing_in x has)
in_map f (y ∷ xs) x has =
    elim (in_first y x xs has) [
      | inl same ↦ subst (λ z. Contains (f y ∷ map f xs) (f z)) same (at_first (f y) (map f xs))
      | inr rest ↦ at_rest (f y) (f x) (map f xs) (in_map f xs x rest)
    ]

pub map_all : {X Y : Type 0} (P : Y → Type 0) (f : X → Y) (xs : List X) → AllByRecursion (λ x. P (f x)) xs → AllByRecursion P (map f xs)
map_all P f [] all = tt
map_all P f (x ∷ xs) all = (all.0, map_all P f xs all.1)

-- what holds of each member holds by recursion
pub all_where : {X : Type 0} (P : X → Type 0) (xs : List X) → ((x : X) → Contains xs x → P x) → AllByRecursion P xs
all_where P xs each = weaker (Contains xs) P each xs (all_members xs)
