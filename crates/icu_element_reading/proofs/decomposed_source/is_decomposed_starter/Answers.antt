use Rattle.std.proofs.Common.{◌≡◌, arith, rules}
use Rattle.ucd_normal.specs.CanonicalCombiningClass.{canonical_combining_class}
use Rattle.ucd_normal.specs.declared.forms.Form.TheVariants.{Nfd}
use Rattle.ucd_normal.specs.declared.forms.QuickCheck.TheVariants.{Yes}
use Rattle.ucd_normal.specs.QuickCheck.{quick_check}
use Rattle.icu_element_reading.proofs.DecomposedSourceLemmas.{decomposed_starter, latin_starter}
use Rattle.icu_element_reading.proofs.decomposed_source.is_decomposed_starter.Goals as goal

pub returns-then-c-lt192-clause-starter : goal.returns-then-c-lt192-clause-starter
returns-then-c-lt192-clause-starter c = λ _. (latin_starter c.args.c (omega arith)).0

pub returns-then-c-lt192-clause-itself : goal.returns-then-c-lt192-clause-itself
returns-then-c-lt192-clause-itself c = λ _. (latin_starter c.args.c (omega arith)).1

pub returns-then-class-eq0-clause-itself : goal.returns-then-class-eq0-clause-itself
returns-then-class-eq0-clause-itself c = λ h.
    let class : canonical_combining_class c.args.c ≡ 0 = search rules in
    let passes : quick_check Nfd c.args.c ≡ Yes = search rules in
    (decomposed_starter c.args.c class passes).1
