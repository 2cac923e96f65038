use Rattle.std.proofs.Common.{◌≡◌, ℕ, ◌-◌, ◌<◌, ◌≤◌, List, [], ◌∷◌, length, take, drop, get_or, subst, arith}
use Rattle.std.proofs.lemmas.List.{take_all}
use Rattle.std.specs.Char.{IsScalar}
use Rattle.std.specs.List.{AllByRecursion}
use Rattle.icu_text_encodings.proofs.chars_text.are_scalar_values.Goals as goal

first_and_others : (xs : List ℕ) (x d : ℕ) → 1 ≤ length xs → x ≡ get_or xs 0 d → IsScalar x → AllByRecursion IsScalar (take (length xs - 1) (drop 1 xs)) → AllByRecursion IsScalar xs
first_and_others [] x d some is scalar others = absurd (omega (arith, some))
first_and_others (y ∷ ys) x d some is scalar others = (subst IsScalar is scalar, subst (AllByRecursion IsScalar) (take_all (length (y ∷ ys) - 1) ys (omega arith)) others)

none_left : (xs : List ℕ) → length xs < 1 → AllByRecursion IsScalar xs
none_left [] few = tt
none_left (x ∷ xs) few = absurd (omega (arith, few))

pub characters-init : goal.characters-init
characters-init c = λ all. all

pub characters-preserved : goal.characters-preserved
characters-preserved c = λ all. c.characters.invariant (first_and_others c.characters.rest.now c.first-item.result _ c.in-len1-up.len_at_least c.first-item.is c.is_scalar_value.ensures all)

pub returns : goal.returns
returns c = c.characters.invariant (none_left c.characters.rest.now c.in_default.len_below)
