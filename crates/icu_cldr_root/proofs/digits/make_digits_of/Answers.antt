use Rattle.std.proofs.Common.{◌≡◌, ◌≤◌, rules, subst}
use Rattle.icu_table_provider.specs.builder.Building.{built_data}
use Rattle.icu_cldr_root.specs.inner.Digits.{MakesDigits}
use Rattle.icu_table_mappings.proofs.GrownListLemmas.{extends_itself, extends_further}
use Rattle.icu_cldr_root.proofs.DigitRangeLemmas.{no_digits, next_digit}
use Rattle.icu_cldr_root.proofs.digits.make_digits_of.Goals as goal

pub loop-code-init : goal.loop-code-init
loop-code-init c = record {
  extends = extends_itself (built_data c.args.builder.now);
  digits = no_digits (built_data c.args.builder.now) c.args.start c.args.first c.args.entries.now;
}

pub loop-code-preserved : goal.loop-code-preserved
loop-code-preserved c =
    let up : c.args.first ≤ c.loop-code.code = search rules in
    record {
      extends = extends_further _ _ _ c.loop-code.invariant.extends c.in_ok-make_digit.ensures.extends;
      digits = next_digit (built_data c.loop-code.builder) (built_data c.make_digit.new.builder) c.args.start c.args.first c.loop-code.code c.args.entries.now
          c.loop-code.entries c.make_digit.new.entries up c.in_ok-make_digit.ensures.extends c.loop-code.invariant.digits
          c.in_ok-make_digit.ensures.others c.in_ok-make_digit.ensures.digit;
    }

pub returns-then-end-first-clause-extends : goal.returns-then-end-first-clause-extends
returns-then-end-first-clause-extends c = extends_itself (built_data c.args.builder.now)

pub returns-clause-digits : goal.returns-clause-digits
returns-clause-digits c =
    let done : c.loop-code.code ≡ c.args.end = search rules in
    subst (λ e. MakesDigits (built_data c.loop-code.builder) c.args.start c.args.first e c.args.entries.now c.loop-code.entries) done c.loop-code.invariant.digits
