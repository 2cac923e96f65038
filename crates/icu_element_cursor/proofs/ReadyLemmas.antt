-- The elements that were read and not given yet, one by one.
use Rattle.std.proofs.Common.{◌≡◌, ℕ, ◌+◌, ◌<◌, ◌≤◌, Bool, true, false, not, List, [], ◌∷◌, ◌++◌, length, take, drop, get_or, length-take, append-nil, refl, sym, ap, ◌∙◌, arith}
use Rattle.std.proofs.lemmas.List.{drop_more, get_or-take}
use Rattle.std.proofs.Math.ListN.{drop_of_length-le}
use Rattle.icu_table_entries.specs.Elements.{Element}

-- the next of the first elements of a list
pub next_taken : (xs : List Element) (next end : ℕ) (e : Element) → next < end → end ≤ length xs → e ≡ get_or xs next e
    → drop next (take end xs) ≡ e ∷ drop (next + 1) (take end xs)
next_taken xs next end e inside fits is =
    drop_more (take end xs) next e (omega (arith, inside, fits, length-take end xs))
    ∙ ap (λ x. x ∷ drop (next + 1) (take end xs)) (get_or-take end xs next e inside ∙ sym is)

pub none_taken : (xs : List Element) (next end : ℕ) → end ≤ next → drop next (take end xs) ≡ []
none_taken xs next end past = drop_of_length-le (take end xs) (omega (arith, past, length-take end xs))

-- where a list and another one after it are empty, each is
pub both_empty : (xs ys : List Element) → xs ++ ys ≡ [] → (xs ≡ []) × (ys ≡ [])
both_empty [] ys h = (refl, h)
both_empty (x ∷ xs) ys h = absurd (omega (arith, ap length h))

-- the elements of a character are kept where no number has any
pub kept_alone : (all first kept number : List Element) → number ≡ [] → all ≡ first ++ kept → all ≡ first ++ (kept ++ number)
kept_alone all first kept number none is = is ∙ ap (λ (es : List Element). first ++ es) (sym (append-nil kept) ∙ ap (λ (es : List Element). kept ++ es) (sym none))

-- a flag that says that something is left
pub flag_of_empty : (empty : Bool) → not empty ≡ false → empty ≡ true
flag_of_empty true h = refl
flag_of_empty false h = sym h
