-- Each code is looked at.
use Rattle.std.proofs.Common.{◌==◌, ◌+◌, ◌&&◌, ℕ, Bool, refl, inl, inr, arith}
use Rattle.std.specs.Prelude.{nat_le, nat_lt}
use Rattle.icu_table_provider.specs.builder.Building.{built_data}
use Rattle.icu_rule_tables.specs.tailored_entries.inner.TailoredSets.{loses_contexts}
use Rattle.icu_rule_tables.proofs.tailored_entries.TailoredCharacterLemmas.{both_more, last_code, next_code, no_code, nothing_more, same_more}
use Rattle.icu_rule_tables.proofs.tailored_entries.tailored_lists.suppress_from.Goals as goal

pub loop-code-init : goal.loop-code-init
loop-code-init g c =
    let root = g.R.RootMappings.mappings_of in
    let loses : ℕ → Bool = loses_contexts root c.args.mappings.now in
    let first : ℕ = c.args.first in
    record {
      from = omega arith;
      to = inr refl;
      given = nothing_more root c.args.sources.numbers.now c.args.mappings.now (built_data c.args.builder.now)
          (λ x. (nat_le first x && nat_lt x first) && loses x) (λ x small. no_code first first x (loses x) (omega arith));
    }

pub loop-code-preserved : goal.loop-code-preserved
loop-code-preserved g c =
    let root = g.R.RootMappings.mappings_of in
    let loses : ℕ → Bool = loses_contexts root c.args.mappings.now in
    let first : ℕ = c.args.first in
    let code : ℕ = c.loop-code.code in
    record {
      from = omega (arith, c.loop-code.invariant.from);
      to = inl (omega (arith, c.loop-code-test.true));
      given = both_more root c.args.sources.numbers.now c.args.mappings.now (built_data c.args.builder.now) (built_data c.loop-code.builder)
          (built_data c.suppress.new.builder) (λ x. (nat_le first x && nat_lt x code) && loses x) (λ x. (code == x) && loses x)
          (λ x. (nat_le first x && nat_lt x (code + 1)) && loses x)
          (λ x small. next_code first code x (loses x) c.loop-code.invariant.from) c.loop-code.invariant.given c.in_ok-suppress.ensures;
    }

pub returns : goal.returns
returns g c =
    let root = g.R.RootMappings.mappings_of in
    let loses : ℕ → Bool = loses_contexts root c.args.mappings.now in
    let first : ℕ = c.args.first in
    let code : ℕ = c.loop-code.code in
    let end : ℕ = c.args.end in
    same_more root c.args.sources.numbers.now c.args.mappings.now (built_data c.args.builder.now) (built_data c.loop-code.builder)
    (λ x. (nat_le first x && nat_lt x code) && loses x) (λ x. (nat_le first x && nat_lt x end) && loses x)
    (λ x small. last_code first code end x (loses x) (omega (arith, c.loop-code-test.false)) c.loop-code.invariant.to) c.loop-code.invariant.given
