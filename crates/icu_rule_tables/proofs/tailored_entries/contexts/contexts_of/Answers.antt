use Rattle.std.proofs.Common.{◌≡◌, ◌<◌, ◌≤◌, ◌∙◌, ◌∷◌, ◌+◌, ◌-◌, ◌&&◌, ℕ, Bool, true, List, [], refl, sym, ap, ap₂, subst, drop, length, arith, rules}
use Rattle.std.proofs.lemmas.List.{at_drop_more, at_drop_all}
use Rattle.icu_table_provider.specs.builder.Building.{built_data}
use Rattle.icu_table_mappings.proofs.GrownListLemmas.{extends_further, extends_itself}
use Rattle.icu_rule_meaning.specs.declared.symbolic.SymbolicElement.{SymbolicElement}
use Rattle.icu_rule_meaning.specs.TailoredMappings.{SymbolicMapping}
use Rattle.icu_rule_steps.specs.symbolic_mappings.StoredMappings.{symbolic_mapping, symbolic_mappings}
use Rattle.icu_rule_steps.specs.declared.symbolic_mappings.character_mapping.CharacterMapping.{CharacterMapping}
use Rattle.icu_rule_tables.specs.tailored_entries.GivenMappings.{mappings_fit}
use Rattle.icu_rule_tables.specs.tailored_entries.inner.MappingEntries.{HasEntriesOf}
use Rattle.icu_rule_tables.proofs.tailored_entries.MappingEntryLemmas.{entries_further, entries_more, no_entries}
use Rattle.icu_rule_tables.proofs.tailored_entries.contexts.contexts_of.Goals as goal

pub loop-index-init : goal.loop-index-init
loop-index-init c =
    let own : List (CharacterMapping SymbolicElement) = c.args.own.now in
    let over : length own ≤ length own = omega arith in
    let none : symbolic_mappings (drop (length own) own) ≡ [] = at_drop_all symbolic_mappings own (length own) over in
    record {
      extends = extends_itself (built_data c.args.builder.now);
      entries = no_entries c.args.sources.numbers.now (built_data c.args.builder.now) c.args.c (symbolic_mappings (drop (length own) own))
          c.new-contexts.result none c.new-contexts.ensures.empty;
      fit = ap (mappings_fit c.args.sources.numbers.now) none;
    }

pub loop-index-preserved : goal.loop-index-preserved
loop-index-preserved c =
    let t = c.args.sources.numbers.now in
    let old = built_data c.loop-index.builder in
    let new = built_data c.put_entry.new.builder in
    let own : List (CharacterMapping SymbolicElement) = c.args.own.now in
    let n : ℕ = c.loop-index.index in
    let x : CharacterMapping SymbolicElement = c.index-own-index.result in
    let some : n - 1 < length own = search rules in
    let back : (n - 1) + 1 ≡ n = search rules in
    let first : drop (n - 1) own ≡ x ∷ drop n own =
    at_drop_more (λ ms. ms) own (n - 1) _ some ∙ ap (λ (m : CharacterMapping SymbolicElement). m ∷ drop ((n - 1) + 1) own) (sym c.index-own-index.is)
    ∙ ap (λ k. x ∷ drop k own) back in
    record {
      extends = extends_further _ _ _ c.loop-index.invariant.extends c.in_ok-put_entry.ensures.extends;
      entries = subst (λ (ms : List SymbolicMapping). HasEntriesOf t new c.args.c ms c.put_entry.new.contexts) (sym (ap symbolic_mappings first))
          (entries_more t new c.args.c (symbolic_mapping x) (symbolic_mappings (drop n own)) c.loop-index.contexts c.put_entry.new.contexts
          c.in_ok-put_entry.ensures.puts.entry c.in_ok-put_entry.ensures.puts.is_entry c.in_ok-put_entry.ensures.puts.puts
          (entries_further t old new c.args.c (symbolic_mappings (drop n own)) c.loop-index.contexts c.in_ok-put_entry.ensures.extends.lists c.loop-index.invariant.entries));
      fit = ap (λ (ms : List (CharacterMapping SymbolicElement)). mappings_fit t (symbolic_mappings ms)) first
          ∙ ap₂ (λ (a b : Bool). a && b) c.in_ok-put_entry.ensures.puts.is_entry.fits c.loop-index.invariant.fit;
    }
