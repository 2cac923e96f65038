-- Lists compared from their ends.
use Rattle.std.proofs.Common.{ℕ, ◌≡◌, ◌+◌, ◌-◌, List, [], ◌∷◌, ◌++◌, length, take, drop, reverse, Option, Some, None, IfSome, refl, sym, ap, ◌∙◌, arith}
use Rattle.std.proofs.lemmas.Bool.Decides.{nat_tests}
use Rattle.std.proofs.lemmas.Grind.{reverse_onto}
use Rattle.std.proofs.lemmas.List.{length-reverse, reverse-append, length-take-le, length-drop, take-append-drop, drop-drop}
use Rattle.std.specs.Ordering.{ordering_then, nat_cmp}
use Rattle.std.specs.declared.cmp.Ordering.{Ordering}
use Rattle.icu_order_levels.specs.ListOrder.{list_order}
use Rattle.icu_order_levels.proofs.Orderings.{then_assoc, then_equal}

-- where two lists are as long, what follows them decides after them
beyond : (xs ys s t : List ℕ) → length xs ≡ length ys → list_order (xs ++ s) (ys ++ t) ≡ ordering_then (list_order xs ys) (list_order s t)
beyond [] [] s t h = refl
beyond [] (y ∷ ys) s t h = cc
beyond (x ∷ xs) [] s t h = cc
beyond (x ∷ xs) (y ∷ ys) s t h =
    let same : length xs ≡ length ys = omega arith in
    ap (ordering_then (nat_cmp x y)) (beyond xs ys s t same) ∙ then_assoc (nat_cmp x y) (list_order xs ys) (list_order s t)

-- from the ends, the first pair decides where no later one does
pub first_pair_last : (x y : ℕ) (xs ys : List ℕ) (o : Ordering) → length xs ≡ length ys
    → ordering_then (list_order (reverse (x ∷ xs)) (reverse (y ∷ ys))) o ≡ ordering_then (list_order (reverse xs) (reverse ys)) (ordering_then (nat_cmp x y) o)
first_pair_last x y xs ys o same =
    let long : length (reverse xs) ≡ length (reverse ys) = length-reverse xs ∙ same ∙ sym (length-reverse ys) in
    let parts : list_order (reverse xs ++ x ∷ []) (reverse ys ++ y ∷ []) ≡ ordering_then (list_order (reverse xs) (reverse ys)) (nat_cmp x y) =
    beyond (reverse xs) (reverse ys) (x ∷ []) (y ∷ []) long ∙ ap (ordering_then (list_order (reverse xs) (reverse ys))) (then_equal (nat_cmp x y)) in
    let whole : list_order (reverse (x ∷ xs)) (reverse (y ∷ ys)) ≡ ordering_then (list_order (reverse xs) (reverse ys)) (nat_cmp x y) =
    rw (reverse_onto xs x [], reverse_onto ys y []) parts in
    ap (λ p. ordering_then p o) whole ∙ sym (then_assoc (list_order (reverse xs) (reverse ys)) (nat_cmp x y) o)

-- of two lists of which one at least is empty the longer one comes last
ends_order : (s t : List ℕ) (n m : ℕ) → length s ≡ n - m → length t ≡ m - n → list_order s t ≡ nat_cmp n m
ends_order [] [] n m h h' = grind (arith, nat_tests)
ends_order [] (y ∷ t) n m h h' = grind (arith, nat_tests)
ends_order (x ∷ s) [] n m h h' = grind (arith, nat_tests)
ends_order (x ∷ s) (y ∷ t) n m h h' = absurd (omega arith)

-- from the ends, the surplus that the longer list begins with counts only where the rest ties
pub surplus : (xs ys : List ℕ)
    → list_order (reverse xs) (reverse ys)
    ≡ ordering_then (list_order (reverse (drop (length xs - length ys) xs)) (reverse (drop (length ys - length xs) ys))) (nat_cmp (length xs) (length ys))
surplus xs ys =
    let d : ℕ = length xs - length ys in
    let e : ℕ = length ys - length xs in
    let left : reverse xs ≡ reverse (drop d xs) ++ reverse (take d xs) = ap reverse (sym (take-append-drop d xs)) ∙ reverse-append (take d xs) (drop d xs) in
    let right : reverse ys ≡ reverse (drop e ys) ++ reverse (take e ys) = ap reverse (sym (take-append-drop e ys)) ∙ reverse-append (take e ys) (drop e ys) in
    let long : length (reverse (drop d xs)) ≡ length (reverse (drop e ys)) =
    omega (arith, length-reverse (drop d xs), length-reverse (drop e ys), length-drop d xs, length-drop e ys) in
    let ends : list_order (reverse (take d xs)) (reverse (take e ys)) ≡ nat_cmp (length xs) (length ys) =
    ends_order (reverse (take d xs)) (reverse (take e ys)) (length xs) (length ys)
    (length-reverse (take d xs) ∙ length-take-le d xs (omega arith)) (length-reverse (take e ys) ∙ length-take-le e ys (omega arith)) in
    ap (λ l. list_order l (reverse ys)) left ∙ ap (list_order (reverse (drop d xs) ++ reverse (take d xs))) right
    ∙ beyond (reverse (drop d xs)) (reverse (drop e ys)) (reverse (take d xs)) (reverse (take e ys)) long
    ∙ ap (ordering_then (list_order (reverse (drop d xs)) (reverse (drop e ys)))) ends

-- one more that is passed over, if there is one
pub skipped : (whole old new : List ℕ) (k : ℕ) (r : Option ℕ) → old ≡ drop k whole
    → IfSome r (λ w. old ≡ w ∷ new) → (r ≡ None → (old ≡ []) × (new ≡ old)) → new ≡ drop (k + 1) whole
skipped whole old new k None is some none =
    let nothing = none refl in
    nothing.1 ∙ nothing.0 ∙ ap (drop 1) (sym nothing.0 ∙ is) ∙ drop-drop 1 k whole
skipped whole old new k (Some w) is some none = ap (drop 1) (sym some ∙ is) ∙ drop-drop 1 k whole
