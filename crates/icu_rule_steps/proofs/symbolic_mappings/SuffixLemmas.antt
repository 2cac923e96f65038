-- A suffix with one more mark.
use Rattle.std.proofs.Common.{◌≡◌, ◌≢◌, ℕ, false, ◌&&◌, ◌==◌, List, [], ◌∷◌, ◌++◌, bytes_eq, refl, sym, ap, ◌∙◌}
use Rattle.std.proofs.lemmas.Bool.{ne_eqb}
use Rattle.std.proofs.Math.Bool.{and-false}
use Rattle.icu_element_matches.proofs.steady_matches.BegunLemmas.{and_assoc}

none_equal : (ys : List ℕ) (b : ℕ) → bytes_eq [] (ys ++ b ∷ []) ≡ false
none_equal [] b = refl
none_equal (y ∷ ys) b = refl

all_equal : (xs : List ℕ) (a : ℕ) → bytes_eq (xs ++ a ∷ []) [] ≡ false
all_equal [] a = refl
all_equal (x ∷ xs) a = refl

-- lists with one more member each are equal where the members and the lists are
pub equal_pushed : (xs ys : List ℕ) (a b : ℕ) → bytes_eq (xs ++ a ∷ []) (ys ++ b ∷ []) ≡ ((a == b) && bytes_eq xs ys)
equal_pushed [] [] a b = refl
equal_pushed [] (y ∷ ys) a b = ap (λ e. (a == y) && e) (none_equal ys b) ∙ and-false (a == y) ∙ sym (and-false (a == b))
equal_pushed (x ∷ xs) [] a b = ap (λ e. (x == b) && e) (all_equal xs a) ∙ and-false (x == b) ∙ sym (and-false (a == b))
equal_pushed (x ∷ xs) (y ∷ ys) a b = ap (λ e. (x == y) && e) (equal_pushed xs ys a b) ∙ and_assoc (x == y) (a == b) (bytes_eq xs ys)

-- a list that ends so
pub equal_behind : (longer front suffix : List ℕ) (last mark : ℕ) → longer ≡ front ++ last ∷ [] → bytes_eq longer (suffix ++ mark ∷ []) ≡ ((last == mark) && bytes_eq front suffix)
equal_behind longer front suffix last mark is = ap (λ l. bytes_eq l (suffix ++ mark ∷ [])) is ∙ equal_pushed front suffix last mark

-- nothing doesn't end so
pub equal_nothing : (longer suffix : List ℕ) (mark : ℕ) → longer ≡ [] → bytes_eq longer (suffix ++ mark ∷ []) ≡ false
equal_nothing longer suffix mark is = ap (λ l. bytes_eq l (suffix ++ mark ∷ [])) is ∙ none_equal suffix mark

-- a list that ends with another mark
pub unequal_behind : (longer front suffix : List ℕ) (last mark : ℕ) → longer ≡ front ++ last ∷ [] → last ≢ mark
    → bytes_eq longer (suffix ++ mark ∷ []) ≡ false
unequal_behind longer front suffix last mark is other =
    equal_behind longer front suffix last mark is
    ∙ ap (λ e. e && bytes_eq front suffix) (ne_eqb last mark other)
