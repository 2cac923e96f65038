-- The elements of a line, one by one.
use Rattle.std.proofs.Common.{◌≡◌, ℕ, true, List, [], ◌∷◌, ◌++◌, refl, subst, sym, ap, ◌∙◌, append_assoc, length, arith}
use Rattle.std.specs.Prelude.{◌==◌}
use Rattle.std.proofs.lemmas.Bool.Decides.{nat_tests}
use Rattle.std.proofs.lemmas.List.{append-nil}
use Rattle.std.specs.Str.{trim_start}
use Rattle.icu_cldr_root.specs.WrittenElements.{BeginsWithElement, WriteElements}
use Rattle.icu_cldr_root.specs.declared.fractional_element.FractionalElement.{FractionalElement}

-- the first element, and the others
pub write_first : (text rest : List ℕ) (e : FractionalElement) (es : List FractionalElement)
    → BeginsWithElement text e rest → WriteElements rest es → WriteElements text (e ∷ es)
unfolding WriteElements
write_first text rest e es begins more = (rest, begins, more)

-- no element
pub write_nothing : (text : List ℕ) → trim_start text ≡ [] → WriteElements text []
unfolding WriteElements
write_nothing text blank = blank

-- one element more was read
pub write_more : (all text rest : List ℕ) (done new : List FractionalElement) (e : FractionalElement)
    → new ≡ done ++ e ∷ [] → BeginsWithElement text e rest
    → ((more : List FractionalElement) → WriteElements text more → WriteElements all (done ++ more))
    → (more : List FractionalElement) → WriteElements rest more → WriteElements all (new ++ more)
write_more all text rest done new e added begins before more left =
    subst (WriteElements all) (sym (ap (λ n. n ++ more) added ∙ append_assoc done (e ∷ []) more))
    (before (e ∷ more) (write_first text rest e more begins left))

-- no element is left
pub write_end : (all text : List ℕ) (done : List FractionalElement)
    → trim_start text ≡ [] → ((more : List FractionalElement) → WriteElements text more → WriteElements all (done ++ more))
    → WriteElements all done
write_end all text done blank before = subst (WriteElements all) (append-nil done) (before [] (write_nothing text blank))

-- a test that a text is empty
pub nothing_at : (text : List ℕ) → true ≡ (length text == 0) → text ≡ []
nothing_at [] h = refl
nothing_at (b ∷ bs) h = absurd (grind (arith, nat_tests))
