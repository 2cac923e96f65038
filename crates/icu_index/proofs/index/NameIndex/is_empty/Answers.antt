-- There is no name where their count is zero.
use Rattle.std.proofs.Common.{◌≡◌, ℕ, IsTrue, List, [], ◌∷◌, length, nat_eq, refl, sym, ap, ◌∙◌, arith}
use Rattle.std.proofs.lemmas.Bool.Decides.{nat_tests}
use Rattle.std.proofs.lemmas.List.{length-map}
use Rattle.icu_index.specs.NameIndexes.{listing}
use Rattle.icu_index.proofs.index.NameIndex.is_empty.Goals as goal

none_of : (xs : List (List ℕ)) (n : ℕ) → length xs ≡ n → IsTrue (nat_eq n 0) → xs ≡ []
none_of [] n e t = refl
none_of (x ∷ xs) n e t = let z : n ≡ 0 = grind (arith, nat_tests) in absurd (omega (arith, e, z))

zero_of : (xs : List (List ℕ)) (n : ℕ) → length xs ≡ n → xs ≡ [] → IsTrue (nat_eq n 0)
zero_of xs n e none = let z : n ≡ 0 = sym e ∙ ap length none in grind (arith, nat_tests)

pub returns : goal.returns
returns c =
    let count : length (listing c.args.self.now) ≡ c.len.result = length-map _ _ ∙ sym c.len.ensures in
    (none_of (listing c.args.self.now) c.len.result count, zero_of (listing c.args.self.now) c.len.result count)
