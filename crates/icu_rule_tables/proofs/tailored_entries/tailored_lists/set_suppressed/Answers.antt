-- Each range is gone through.
use Rattle.std.proofs.Common.{◌≡◌, ◌+◌, ◌&&◌, ◌∷◌, ◌++◌, [], List, ℕ, Bool, get_or, take, ap, refl, ◌∙◌, rules, arith}
use Rattle.std.specs.Prelude.{nat_le, nat_lt}
use Rattle.std.proofs.lemmas.List.{take_all, take_more}
use Rattle.icu_rule_parser.specs.declared.statement.CharacterRange.{CharacterRange}
use Rattle.icu_table_provider.specs.builder.Building.{built_data}
use Rattle.icu_rule_meaning.specs.Rules.{have_character}
use Rattle.icu_rule_steps.specs.symbolic_mappings.TouchedCharacters.{suppressed_in}
use Rattle.icu_rule_tables.specs.tailored_entries.inner.TailoredSets.{loses_contexts}
use Rattle.icu_rule_tables.proofs.tailored_entries.TailoredCharacterLemmas.{both_more, next_range, nothing_more, same_more}
use Rattle.icu_rule_tables.proofs.tailored_entries.tailored_lists.set_suppressed.Goals as goal

abbrev no_range : CharacterRange
no_range = record { first = 0; last = 0 }

pub loop-range-init : goal.loop-range-init
loop-range-init g c =
    let root = g.R.RootMappings.mappings_of in
    let none : List CharacterRange = [] in
    nothing_more root c.args.sources.numbers.now c.args.mappings.now (built_data c.args.builder.now)
    (λ x. have_character none x && loses_contexts root c.args.mappings.now x) (λ x small. refl)

pub loop-range-preserved : goal.loop-range-preserved
loop-range-preserved g c =
    let root = g.R.RootMappings.mappings_of in
    let loses : ℕ → Bool = loses_contexts root c.args.mappings.now in
    let ranges : List CharacterRange = c.deref-range-items.result.now in
    let i : ℕ = c.loop-range.range-index in
    let range : CharacterRange = get_or ranges i no_range in
    let next : take (i + 1) ranges ≡ take i ranges ++ range ∷ [] = take_more ranges i no_range c.loop-range-test.true in
    let begins : c.from-first.result ≡ range.first = search rules in
    let ends : c.from-end.result ≡ range.last = search rules in
    both_more root c.args.sources.numbers.now c.args.mappings.now (built_data c.args.builder.now) (built_data c.loop-range.builder)
    (built_data c.suppress_from.new.builder) (λ x. have_character (take i ranges) x && loses x)
    (λ x. (nat_le c.from-first.result x && nat_lt x (c.from-end.result + 1)) && loses x)
    (λ x. have_character (take (i + 1) ranges) x && loses x)
    (λ x small. next_range (take i ranges) (take (i + 1) ranges) range c.from-first.result (c.from-end.result + 1) x (loses x) next begins (ap (λ n. n + 1) ends))
    c.loop-range.invariant c.in_ok-suppress_from.ensures

pub returns : goal.returns
returns g c =
    let root = g.R.RootMappings.mappings_of in
    let loses : ℕ → Bool = loses_contexts root c.args.mappings.now in
    let ranges : List CharacterRange = c.deref-range-items.result.now in
    same_more root c.args.sources.numbers.now c.args.mappings.now (built_data c.args.builder.now) (built_data c.loop-range.builder)
    (λ x. have_character (take c.loop-range.range-index ranges) x && loses x) (λ x. have_character (suppressed_in c.args.mappings.now) x && loses x)
    (λ x small. ap (λ b. b && loses x)
    (ap (λ (rs : List CharacterRange). have_character rs x)
    (take_all c.loop-range.range-index ranges (omega (arith, c.loop-range-test.false)) ∙ c.deref-range-items.ensures.value)
    ∙ c.in_ok-merged_ranges.ensures x ∙ ap (λ (rs : List CharacterRange). have_character rs x) c.suppressed.ensures)) c.loop-range.invariant
