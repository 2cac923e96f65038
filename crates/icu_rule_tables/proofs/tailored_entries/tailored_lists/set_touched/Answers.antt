-- Each touched character gets its entry.
use Rattle.std.proofs.Common.{◌≡◌, ◌==◌, ◌+◌, ◌∷◌, ◌++◌, [], List, ℕ, take, ap, refl, sym, ◌∙◌, subst, rules, arith}
use Rattle.std.proofs.lemmas.Grind.{common_steps}
use Rattle.std.proofs.lemmas.List.{take_all, take_more}
use Rattle.icu_table_provider.specs.builder.Building.{built_data}
use Rattle.icu_rule_meaning.specs.TailoredMappings.{SymbolicMapping}
use Rattle.icu_rule_steps.specs.symbolic_mappings.KeptMappings.{mappings_in}
use Rattle.icu_rule_steps.specs.symbolic_mappings.StoredMappings.{symbolic_mappings}
use Rattle.icu_rule_steps.specs.symbolic_mappings.TouchedCharacters.{have_touched, touched_in}
use Rattle.icu_rule_steps.specs.declared.symbolic_mappings.character_mapping.TouchedCharacter.{TouchedCharacter}
use Rattle.icu_rule_tables.specs.tailored_entries.GivenMappings.{GivesMappings}
use Rattle.icu_rule_tables.proofs.tailored_entries.TailoredCharacterLemmas.{both_more, next_listed, nothing_more, one_set, same_more}
use Rattle.icu_rule_tables.proofs.tailored_entries.tailored_lists.set_touched.Goals as goal

pub loop-touched-init : goal.loop-touched-init
loop-touched-init g c =
    nothing_more g.R.RootMappings.mappings_of c.args.sources.numbers.now c.args.mappings.now (built_data c.args.builder.now)
    (have_touched []) (λ x small. refl)

pub loop-touched-preserved : goal.loop-touched-preserved
loop-touched-preserved g c =
    let root = g.R.RootMappings.mappings_of in
    let t = c.args.sources.numbers.now in
    let held = c.args.mappings.now in
    let x : TouchedCharacter = c.touched-item.result in
    let listed : List TouchedCharacter = c.deref-touched-items.result.now in
    let i : ℕ = c.loop-touched.touched-index in
    let grown = built_data c.entry_of_mappings.new.builder in
    let own : symbolic_mappings x.mappings.now ≡ mappings_in root held x.character = first_of (search rules, grind (arith, common_steps)) in
    let gives : GivesMappings t grown x.character (mappings_in root held x.character) c.in_ok-entry.entry =
    subst (λ (ms : List SymbolicMapping). GivesMappings t grown x.character ms c.in_ok-entry.entry) own c.in_ok-entry.ensures.gives in
    let next : take (i + 1) listed ≡ take i listed ++ x ∷ [] =
    take_more listed i x c.loop-touched-test.true ∙ ap (λ (y : TouchedCharacter). take i listed ++ y ∷ []) (sym c.touched-item.is) in
    both_more root t held (built_data c.args.builder.now) (built_data c.loop-touched.builder) (built_data c.set_entry.new.self)
    (have_touched (take i listed)) (λ y. x.character == y) (have_touched (take (i + 1) listed))
    (λ y small. next_listed (take i listed) (take (i + 1) listed) x y next) c.loop-touched.invariant
    (one_set root t held (built_data c.loop-touched.builder) grown (built_data c.set_entry.new.self) x.character c.in_ok-entry.entry
    c.in_ok-entry.ensures.extends c.set_entry.ensures gives)

pub returns : goal.returns
returns g c =
    let listed : List TouchedCharacter = c.deref-touched-items.result.now in
    same_more g.R.RootMappings.mappings_of c.args.sources.numbers.now c.args.mappings.now (built_data c.args.builder.now) (built_data c.loop-touched.builder)
    (have_touched (take c.loop-touched.touched-index listed)) (touched_in c.args.mappings.now)
    (λ x small. ap (λ (ts : List TouchedCharacter). have_touched ts x)
    (take_all c.loop-touched.touched-index listed (omega (arith, c.loop-touched-test.false)) ∙ c.deref-touched-items.ensures.value)
    ∙ sym (c.in_ok-touched_characters.ensures.all x)) c.loop-touched.invariant
