use Rattle.std.proofs.Common.{◌+◌, ◌*◌, ◌≤◌, ◌<◌, ◌^◌, suc, add-one, subst, sym, arith}
use Rattle.std.proofs.Math.Nat.{mul-le-mul_right, mul-le-mul}
use Rattle.icu_rule_weights.proofs.weight_gaps.ByteLemmas.{few_places, joined_fits}
use Rattle.icu_rule_weights.proofs.weight_gaps.least_above.joined.Goals as goal

pub overflow_mul-result : goal.overflow_mul-result
overflow_mul-result c =
    let place : c.place_of.result ≤ 16777216 = subst (λ p. p ≤ 16777216) (sym c.place_of.ensures) (few_places c.args.places c.requires.few) in
    let byte : c.from.result ≤ 255 = omega arith in
    omega (arith, mul-le-mul byte place)

pub overflow_add-result : goal.overflow_add-result
overflow_add-result c =
    let place : c.place_of.result ≤ 16777216 = subst (λ p. p ≤ 16777216) (sym c.place_of.ensures) (few_places c.args.places c.requires.few) in
    let others : c.args.others < c.place_of.result = omega arith in
    let byte : c.from.result ≤ 255 = omega arith in
    omega (arith, mul-le-mul_right c.place_of.result byte)

pub returns-clause-bound : goal.returns-clause-bound
returns-clause-bound c =
    let n = c.from.result in
    let byte : n ≤ 255 = omega arith in
    subst (λ k. n * c.place_of.result + c.args.others < 256 ^ k) (sym (add-one c.args.places))
    (subst (λ p. n * p + c.args.others < 256 ^ suc c.args.places) (sym c.place_of.ensures)
    (joined_fits n c.args.places c.args.others byte c.requires.fits))
