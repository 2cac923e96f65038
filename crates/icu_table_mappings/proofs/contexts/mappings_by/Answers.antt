use Rattle.std.proofs.Common.{◌≡◌, ◌<◌, ◌++◌, ap, sym, ◌∙◌, refl, length, vec_len, map, arith}
use Rattle.std.proofs.lemmas.Bool.{eqb-true}
use Rattle.icu_table_provider.specs.builder.AddedContexts.{given_mapping}
use Rattle.icu_table_mappings.specs.inner.ContextParts.{mappings_by}
use Rattle.icu_table_mappings.proofs.AddedContextLemmas.{put_turn, put_end, mappings_skip, positive}
use Rattle.icu_table_mappings.proofs.contexts.mappings_by.Goals as goal

pub loop-chars-preserved-in-Continue-1 : goal.loop-chars-preserved-in-Continue-1
loop-chars-preserved-in-Continue-1 c =
    let k = c.in-Some.chars.now in
    let same : vec_len k ≡ length k.items = k.ok.0 in
    let some : 0 < vec_len k = positive (vec_len k) (sym c.is_empty.ensures ∙ c.if-not-is_empty.true) in
    put_turn c.loop-chars.list.items c.extend_from_slice.new.self.items (c.as_slice.result, c.in-Some.entry.now) c.loop-chars.chars-iterator c.next.new.self
    k c.in-Some.entry.now _ c.in_ok-extend_from_slice.ensures.items c.as_slice.ensures.value refl c.in-Some.ensures.steps (omega arith) c.loop-chars.invariant

pub loop-chars-preserved : goal.loop-chars-preserved
loop-chars-preserved c =
    let k = c.in-Some.chars.now in
    let same : vec_len k ≡ length k.items = k.ok.0 in
    let none : vec_len k ≡ 0 = eqb-true (vec_len k) 0 (sym c.is_empty.ensures ∙ c.if-not-is_empty.false) in
    sym (ap (λ ms. map given_mapping c.loop-chars.list.items ++ ms)
    (mappings_skip c.loop-chars.chars-iterator c.next.new.self k c.in-Some.entry.now c.in-Some.ensures.steps (omega arith)))
    ∙ c.loop-chars.invariant

pub returns : goal.returns
returns c = put_end (map given_mapping c.loop-chars.list.items) (mappings_by c.args.entries.now.entries) c.loop-chars.chars-iterator c.in-None.ensures.steps.0 c.loop-chars.invariant
