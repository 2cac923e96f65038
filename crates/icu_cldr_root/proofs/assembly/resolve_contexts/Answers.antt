use Rattle.std.proofs.Common.{◌≡◌, rules, subst}
use Rattle.icu_table_provider.specs.builder.Building.{built_data}
use Rattle.icu_cldr_root.specs.inner.Resolved.{GivesAll}
use Rattle.icu_table_mappings.proofs.GrownListLemmas.{extends_itself, extends_further}
use Rattle.icu_cldr_root.proofs.SpeltEntryLemmas.{other_key}
use Rattle.icu_cldr_root.proofs.ResolvedLemmas.{none_resolved, one_resolved, all_resolved}
use Rattle.icu_cldr_root.proofs.assembly.resolve_contexts.Goals as goal

pub loop-c-init : goal.loop-c-init
loop-c-init c =
    let all : c.into_iter-c-iterator.result ≡ c.args.contexts.now.entries = search rules in
    record {
      extends = extends_itself (built_data c.args.builder.now);
      so_far = none_resolved c.args.contexts.now (built_data c.args.builder.now) c.args.entries.now c.into_iter-c-iterator.result all
          c.iter-c-items.ensures.ordered;
    }

pub loop-c-preserved : goal.loop-c-preserved
loop-c-preserved c =
    let k = c.in-Some.c.now in
    let e = c.in_ok-entry.entry in
    let v = c.in-Some.contexts.now in
    let new = built_data c.entry_in_contexts.new.builder in
    let gives = subst (λ own. GivesAll new v own e) c.entry_of_char-own.ensures c.in_ok-entry.ensures.gives in
    record {
      extends = extends_further _ _ _ c.loop-c.invariant.extends c.in_ok-entry.ensures.extends;
      so_far = one_resolved c.args.contexts.now (built_data c.loop-c.builder) new c.args.entries.now c.loop-c.entries c.insert.new.self
          c.loop-c.c-iterator c.next.new.self k e v c.loop-c.invariant.so_far c.in-Some.ensures.steps c.in_ok-entry.ensures.extends gives
          c.in_ok-insert.ensures.updates.1 (λ x other. c.in_ok-insert.ensures.updates.2 x (other_key k x other));
    }

pub returns-clause-resolved : goal.returns-clause-resolved
returns-clause-resolved c =
    all_resolved c.args.contexts.now (built_data c.loop-c.builder) c.args.entries.now c.loop-c.entries c.loop-c.c-iterator
    c.in-None.ensures.steps.0 c.loop-c.invariant.so_far
