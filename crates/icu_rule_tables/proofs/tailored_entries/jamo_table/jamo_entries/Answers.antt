-- One entry after another.
use Rattle.std.proofs.Common.{◌≡◌, ◌∙◌, ◌+◌, ◌∷◌, ◌++◌, [], ℕ, List, ap, sym, subst, length, slice_index, arith, rules}
use Rattle.std.proofs.lemmas.List.{length_push}
use Rattle.icu_table_provider.specs.builder.Building.{built_data}
use Rattle.icu_table_mappings.proofs.GrownListLemmas.{extends_further, extends_itself}
use Rattle.icu_table_provider.specs.Tables.{jamo_base}
use Rattle.icu_rule_tables.specs.tailored_entries.TailoredJamo.{IsJamoEntry}
use Rattle.icu_rule_tables.proofs.tailored_entries.JamoTableLemmas.{entries_more}
use Rattle.icu_rule_tables.proofs.tailored_entries.jamo_table.jamo_entries.Goals as goal

pub loop-place-init : goal.loop-place-init
loop-place-init g c = record {
  extends = extends_itself (built_data c.args.builder.now);
  count = ap length c.new-entries.ensures.items;
  entries = λ k none. absurd (omega (arith, none));
}

pub loop-place-preserved : goal.loop-place-preserved
loop-place-preserved g c =
    let root = g.R.RootMappings.mappings_of in
    let t = c.args.sources.numbers.now in
    let held = c.args.mappings.now in
    let old = built_data c.loop-place.builder in
    let new = built_data c.entry_of_jamo.new.builder in
    let rooted : List ℕ = c.args.rooted.now in
    let n : ℕ = c.loop-place.place in
    let e : ℕ = c.bits.result in
    let pushed : c.push.new.self.items ≡ c.loop-place.entries.items ++ e ∷ [] = c.in_ok-push.ensures.items in
    let before : c.new-before.result ≡ slice_index rooted n = search rules in
    let last : IsJamoEntry root t held new (jamo_base + n) (slice_index rooted n) e =
    subst (λ x. IsJamoEntry root t held new x (slice_index rooted n) e) c.jamo_char-c.ensures
    (subst (λ y. IsJamoEntry root t held new c.jamo_char-c.result y e) before
    (subst (λ z. IsJamoEntry root t held new c.jamo_char-c.result c.new-before.result z) (sym c.bits.ensures) c.in_ok-entry.ensures.entry)) in
    record {
      extends = extends_further _ _ _ c.loop-place.invariant.extends c.in_ok-entry.ensures.extends;
      count = ap length pushed ∙ length_push c.loop-place.entries.items e ∙ ap (λ k. k + 1) c.loop-place.invariant.count;
      entries = entries_more root t held old new rooted c.loop-place.entries.items c.push.new.self.items n e
          c.in_ok-entry.ensures.extends.lists c.loop-place.invariant.count pushed c.loop-place.invariant.entries last;
    }
