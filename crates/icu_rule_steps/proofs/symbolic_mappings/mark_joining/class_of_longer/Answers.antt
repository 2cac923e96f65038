use Rattle.std.proofs.Common.{◌≡◌, ◌<◌, ℕ, [], ◌∷◌, ◌++◌, rules, arith, ap}
use Rattle.ucd_normal.specs.CanonicalCombiningClass.{canonical_combining_class as class_of}
use Rattle.icu_rule_steps.proofs.symbolic_mappings.SuffixLemmas.{unequal_behind}
use Rattle.icu_rule_steps.proofs.symbolic_mappings.mark_joining.class_of_longer.Goals as goal

pub returns-then-front-suffix : goal.returns-then-front-suffix
returns-then-front-suffix c =
    let last : ℕ = c.in-Some.last.now in
    let split : c.args.longer.now ≡ c.in-Some.front.now ++ last ∷ [] = search rules in
    let class : c.canonical_combining_class.result ≡ class_of last = c.canonical_combining_class.ensures in
    λ m (above : c.canonical_combining_class.result < class_of m).
    unequal_behind c.args.longer.now c.in-Some.front.now c.args.suffix.now last m split
    (λ (e : last ≡ m). omega (arith, above, class, ap class_of e))
