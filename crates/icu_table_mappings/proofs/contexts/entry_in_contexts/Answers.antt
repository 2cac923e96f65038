use Rattle.std.proofs.Common.{◌≡◌, ◌<◌, [], ap, sym, subst, ◌∙◌, length, vec_len, arith, inr, refl}
use Rattle.std.proofs.lemmas.Bool.{eqb-true}
use Rattle.icu_table_entries.specs.declared.entry.EntryKind.TheVariants.{Prefix}
use Rattle.icu_table_provider.specs.builder.Building.{built_data}
use Rattle.icu_table_mappings.specs.Surroundings.{entry_at}
use Rattle.icu_table_mappings.specs.inner.ContextParts.{AddsContext, LeadsNearest, is_among}
use Rattle.icu_table_mappings.proofs.GrownListLemmas.{extends_further}
use Rattle.icu_table_mappings.proofs.AddedContextLemmas.{leads_by, leads_to_default, positive}
use Rattle.icu_table_mappings.proofs.PrefixLemmas.{Inserts, alone_turn, covers_end, covers_skip, covers_turn, gives_just, gives_nearest, leads_first, leads_turn}
use Rattle.icu_table_mappings.proofs.contexts.entry_in_contexts.Goals as goal

pub loop-before-init : goal.loop-before-init
loop-before-init c = record {
  extends = c.in_ok-default.ensures.extends;
  alone = c.in_ok-entries.ensures [];
  leads = leads_first c.args.contexts.now c.args.own (built_data c.contraction.new.builder) c.in_ok-default.default c.in_ok-entries.entries
      c.in_ok-entries.ensures c.in_ok-default.ensures.gives;
  covers = λ before h.
      inr (ap (λ ks. is_among ks before) (c.into_iter-before-iterator.ensures.into_iter_gives ∙ c.keys-before-items.ensures.rest) ∙ h);
}

pub loop-before-preserved-in_ok-insert : goal.loop-before-preserved-in_ok-insert
loop-before-preserved-in_ok-insert c =
    let k = c.in-Some.before.now in
    let same : vec_len k ≡ length k.items = k.ok.0 in
    let some : 0 < vec_len k = positive (vec_len k) (sym c.is_empty.ensures ∙ c.if-not-is_empty.true) in
    let inside : 0 < length k.items = omega arith in
    let inserts : Inserts c.loop-before.entries c.insert.new.self k.items c.in_ok-entry.entry = record {
      copy = c.in_ok-from_slice.field-0;
      chars = c.in_ok-from_slice.ensures.items ∙ c.as_slice-then-not-is_empty.ensures.value;
      entries = c.in_ok-insert.ensures.entries;
    } in
    record {
      extends = extends_further (built_data c.args.builder.now) (built_data c.loop-before.builder) (built_data c.contraction-then-not-is_empty.new.builder)
          c.loop-before.invariant.extends c.in_ok-entry.ensures.extends;
      alone = alone_turn c.loop-before.entries c.insert.new.self k.items c.in_ok-entry.entry c.in_ok-default.default inserts inside c.loop-before.invariant.alone;
      leads = leads_turn c.args.contexts.now c.args.own (built_data c.loop-before.builder) (built_data c.contraction-then-not-is_empty.new.builder)
          k.items c.in_ok-entry.entry c.loop-before.entries c.insert.new.self inserts c.in_ok-entry.ensures.extends
          (subst (λ cs. LeadsNearest c.args.contexts.now c.args.own (built_data c.contraction-then-not-is_empty.new.builder) cs c.in_ok-entry.entry)
          c.as_slice.ensures.value c.in_ok-entry.ensures.gives) c.loop-before.invariant.leads;
      covers = λ before h. covers_turn c.loop-before.before-iterator c.next.new.self k c.in_ok-entry.entry c.loop-before.entries c.insert.new.self
          c.in-Some.ensures.steps inserts before (c.loop-before.invariant.covers before h);
    }

pub loop-before-preserved : goal.loop-before-preserved
loop-before-preserved c =
    let k = c.in-Some.before.now in
    let same : vec_len k ≡ length k.items = k.ok.0 in
    let none : vec_len k ≡ 0 = eqb-true (vec_len k) 0 (sym c.is_empty.ensures ∙ c.if-not-is_empty.false) in
    record {
      extends = c.loop-before.invariant.extends;
      alone = c.loop-before.invariant.alone;
      leads = c.loop-before.invariant.leads;
      covers = λ before h. covers_skip c.loop-before.before-iterator c.next.new.self k c.loop-before.entries c.in_ok-default.default
          c.in-Some.ensures.steps (omega arith) c.loop-before.invariant.alone before (c.loop-before.invariant.covers before h);
    }

pub returns-in-Some-2-clause-just : goal.returns-in-Some-2-clause-just
returns-in-Some-2-clause-just c =
    gives_just c.args.contexts.now c.args.own (built_data c.loop-before.builder) (built_data c.add_context.new.builder) c.loop-before.entries
    c.in_ok-default.default c.prefix.result c.in_ok-index.ensures.extends c.loop-before.invariant.leads
    (λ before h. covers_end c.loop-before.before-iterator c.loop-before.entries c.in-None.ensures.steps.0 before (c.loop-before.invariant.covers before h))
    c.loop-before.invariant.alone
    (leads_by Prefix (built_data c.add_context.new.builder) c.loop-before.entries (entry_at c.loop-before.entries) c.in-Some-2.index
    c.prefix.result c.prefix.ensures.kind c.prefix.ensures.index
    (subst (λ o. AddsContext (built_data c.add_context.new.builder) c.loop-before.entries o) c.in-Some-2.is c.in_ok-index.ensures.adds)
    (λ chars. refl))

pub returns-in-Some-2-clause-gives : goal.returns-in-Some-2-clause-gives
returns-in-Some-2-clause-gives c =
    gives_nearest c.args.contexts.now c.args.own (built_data c.add_context.new.builder) c.prefix.result
    (gives_just c.args.contexts.now c.args.own (built_data c.loop-before.builder) (built_data c.add_context.new.builder) c.loop-before.entries
    c.in_ok-default.default c.prefix.result c.in_ok-index.ensures.extends c.loop-before.invariant.leads
    (λ before h. covers_end c.loop-before.before-iterator c.loop-before.entries c.in-None.ensures.steps.0 before (c.loop-before.invariant.covers before h))
    c.loop-before.invariant.alone
    (leads_by Prefix (built_data c.add_context.new.builder) c.loop-before.entries (entry_at c.loop-before.entries) c.in-Some-2.index
    c.prefix.result c.prefix.ensures.kind c.prefix.ensures.index
    (subst (λ o. AddsContext (built_data c.add_context.new.builder) c.loop-before.entries o) c.in-Some-2.is c.in_ok-index.ensures.adds)
    (λ chars. refl)))

pub returns-clause-just : goal.returns-clause-just
returns-clause-just c =
    gives_just c.args.contexts.now c.args.own (built_data c.loop-before.builder) (built_data c.add_context.new.builder) c.loop-before.entries
    c.in_ok-default.default c.in_ok-default.default c.in_ok-index.ensures.extends c.loop-before.invariant.leads
    (λ before h. covers_end c.loop-before.before-iterator c.loop-before.entries c.in-None.ensures.steps.0 before (c.loop-before.invariant.covers before h))
    c.loop-before.invariant.alone
    (leads_to_default Prefix (built_data c.add_context.new.builder) c.loop-before.entries (entry_at c.loop-before.entries)
    c.in_ok-default.default
    (subst (λ o. AddsContext (built_data c.add_context.new.builder) c.loop-before.entries o) c.in-None-2.is c.in_ok-index.ensures.adds)
    c.loop-before.invariant.alone (λ chars. refl))

pub returns-clause-gives : goal.returns-clause-gives
returns-clause-gives c =
    gives_nearest c.args.contexts.now c.args.own (built_data c.add_context.new.builder) c.in_ok-default.default
    (gives_just c.args.contexts.now c.args.own (built_data c.loop-before.builder) (built_data c.add_context.new.builder) c.loop-before.entries
    c.in_ok-default.default c.in_ok-default.default c.in_ok-index.ensures.extends c.loop-before.invariant.leads
    (λ before h. covers_end c.loop-before.before-iterator c.loop-before.entries c.in-None.ensures.steps.0 before (c.loop-before.invariant.covers before h))
    c.loop-before.invariant.alone
    (leads_to_default Prefix (built_data c.add_context.new.builder) c.loop-before.entries (entry_at c.loop-before.entries)
    c.in_ok-default.default
    (subst (λ o. AddsContext (built_data c.add_context.new.builder) c.loop-before.entries o) c.in-None-2.is c.in_ok-index.ensures.adds)
    c.loop-before.invariant.alone (λ chars. refl)))
