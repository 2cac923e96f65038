-- The character of the code gets an entry where it loses contexts.
use Rattle.std.proofs.Common.{◌≡◌, ◌==◌, ◌&&◌, false, true, refl, sym, rules}
use Rattle.icu_table_provider.specs.builder.Building.{built_data}
use Rattle.icu_rule_steps.specs.symbolic_mappings.TouchedCharacters.{has_root_context, touched_in}
use Rattle.icu_rule_tables.specs.tailored_entries.inner.TailoredSets.{loses_contexts, may_lose_contexts}
use Rattle.icu_rule_tables.proofs.tailored_entries.TailoredCharacterLemmas.{loses_alone, loses_nothing, may_be_untouched, no_character, nothing_more, same_more}
use Rattle.icu_rule_tables.proofs.tailored_entries.tailored_lists.suppress.Goals as goal

pub returns-in_default : goal.returns-in_default
returns-in_default g c =
    let root = g.R.RootMappings.mappings_of in
    let held = c.args.mappings.now in
    nothing_more root c.args.sources.numbers.now held (built_data c.args.builder.now) (λ x. (c.args.code == x) && loses_contexts root held x)
    (λ x small. no_character (may_lose_contexts root held) c.args.code x small c.in_default.ensures)

pub returns-then-not-branch : goal.returns-then-not-branch
returns-then-not-branch g c =
    let root = g.R.RootMappings.mappings_of in
    let held = c.args.mappings.now in
    let none : may_lose_contexts root held c.in-Some.c ≡ false = search rules in
    nothing_more root c.args.sources.numbers.now held (built_data c.args.builder.now) (λ x. (c.args.code == x) && loses_contexts root held x)
    (λ x small. loses_nothing (may_lose_contexts root held) c.args.code x c.in-Some.c c.in-Some.ensures.0 none)

pub set_untouched-requires : goal.set_untouched-requires
set_untouched-requires g c =
    let root = g.R.RootMappings.mappings_of in
    let held = c.args.mappings.now in
    let has : may_lose_contexts root held c.in-Some.c ≡ true = search rules in
    may_be_untouched (touched_in held c.in-Some.c) (has_root_context root held c.in-Some.c) true (sym has) refl

pub returns : goal.returns
returns g c =
    let root = g.R.RootMappings.mappings_of in
    let held = c.args.mappings.now in
    let has : may_lose_contexts root held c.in-Some.c ≡ true = search rules in
    same_more root c.args.sources.numbers.now held (built_data c.args.builder.now) (built_data c.set_untouched.new.builder)
    (λ x. c.in-Some.c == x) (λ x. (c.args.code == x) && loses_contexts root held x)
    (λ x small. loses_alone (may_lose_contexts root held) c.args.code x c.in-Some.c c.in-Some.ensures.0 c.in-Some.ensures.1 has)
    c.in_ok-set_untouched.ensures
