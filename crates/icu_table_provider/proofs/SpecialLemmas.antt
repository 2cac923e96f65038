-- The ends of the variable groups.
use Rattle.std.proofs.Common.{◌≡◌, ℕ, ◌≤◌, ◌*◌, List, length, take, get_or, subst, nat_le, arith, IsTrue}
use Rattle.std.specs.Prelude.{All}
use Rattle.std.proofs.lemmas.Bool.{and_parts}
use Rattle.std.proofs.lemmas.Bool.Decides.{nat_tests}
use Rattle.std.proofs.lemmas.Grind.{common_steps}
use Rattle.icu_table_provider.specs.SpecialPrimaries.{ends_below}

at_least_one : (n p : ℕ) → IsTrue (ends_below n p) → 1 ≤ p
at_least_one n p h = grind (arith, nat_tests, (and_parts (nat_le 1 p) (nat_le p (256 * n)) h).0)

first_four : (P : ℕ → Type 0) (last : List ℕ) (i : ℕ) → i ≤ 3 → 4 ≤ length last → All P (take 4 last) → P (get_or last i 0)
first_four P last i small long all = let e : get_or (take 4 last) i 0 ≡ get_or last i 0 = grind (arith, common_steps) in let Q : ℕ → Type 0 = P in subst Q e (all i 0 (grind (arith, common_steps)))

pub group_end : (n i : ℕ) (last : List ℕ) → i ≤ 3 → 4 ≤ length last → All (λ p. IsTrue (ends_below n p)) (take 4 last) → 1 ≤ get_or last i 0
group_end n i last small long all = at_least_one n _ (first_four (λ p. IsTrue (ends_below n p)) last i small long all)
