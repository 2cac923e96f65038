-- One weight after another.
use Rattle.std.proofs.Common.{◌≡◌, ◌∙◌, ◌+◌, ◌≤◌, ◌∷◌, ◌++◌, [], ℕ, List, ap, refl, sym, subst, length, slice_index, arith, rules}
use Rattle.std.proofs.lemmas.Bool.Decides.{nat_tests}
use Rattle.std.proofs.lemmas.Grind.{common_steps}
use Rattle.std.proofs.lemmas.List.{length_push}
use Rattle.icu_table_data.specs.DataConditions.{diacritics_base}
use Rattle.icu_rule_tables.specs.tailored_entries.TailoredDiacritics.{TailorsDiacritic}
use Rattle.icu_rule_tables.specs.tailored_entries.inner.RootLists.{ListsTouched}
use Rattle.icu_rule_tables.proofs.tailored_entries.OwnDiacriticLemmas.{tailored_by_list, weights_more, weights_so_far}
use Rattle.icu_rule_tables.proofs.tailored_entries.kept_diacritics.tailored_diacritics.Goals as goal

pub loop-secondary-init : goal.loop-secondary-init
loop-secondary-init g c = record {
  code = refl;
  small = omega arith;
  count = ap length c.new-found.ensures.items;
  weights = λ k none. absurd (omega (arith, none));
}

pub loop-secondary-preserved : goal.loop-secondary-preserved
loop-secondary-preserved g c =
    let root = g.R.RootMappings.mappings_of in
    let t = c.args.numbers.now in
    let held = c.args.mappings.now in
    let rooted : List ℕ = c.args.root.now in
    let n : ℕ = c.loop-secondary.secondary-index in
    let x : ℕ = c.in-Some.c in
    let own : ℕ = c.in-Some-tailored_secondary.own in
    let pushed : c.push.new.self.items ≡ c.loop-secondary.found.items ++ own ∷ [] = c.in_ok-push-in-Some-tailored_secondary.ensures.items in
    let here : x ≡ c.loop-secondary.code = first_of (search rules, grind (arith, common_steps)) in
    let under : c.loop-secondary.code ≤ 0x10FFFF = first_of (search rules, grind (arith, common_steps), grind (arith, nat_tests)) in
    let next : c.saturating_add-code.result ≡ c.loop-secondary.code + 1 = first_of (search rules, grind (arith, common_steps), grind (arith, nat_tests)) in
    let at : x ≡ diacritics_base + n = here ∙ c.loop-secondary.invariant.code in
    let listed : ListsTouched root held c.as_slice.result.now =
    subst (ListsTouched root held) (sym c.as_slice.ensures.value)
    (record { mappings = c.in_ok-touched.ensures.mappings; all = c.in_ok-touched.ensures.all }) in
    let last : TailorsDiacritic root t held (diacritics_base + n) (slice_index rooted n) own =
    subst (λ y. TailorsDiacritic root t held y (slice_index rooted n) own) at
    (tailored_by_list root t held c.as_slice.result.now listed x (slice_index rooted n) own c.in-Some-tailored_secondary.ensures) in
    record {
      code = next ∙ ap (λ k. k + 1) c.loop-secondary.invariant.code ∙ omega arith;
      small = omega (arith, next, under);
      count = ap length pushed ∙ length_push c.loop-secondary.found.items own ∙ ap (λ k. k + 1) c.loop-secondary.invariant.count;
      weights = weights_more root t held rooted c.loop-secondary.found.items c.push.new.self.items n own
          c.loop-secondary.invariant.count pushed c.loop-secondary.invariant.weights last;
    }

pub returns-in_default : goal.returns-in_default
returns-in_default g c =
    weights_so_far g.R.RootMappings.mappings_of c.args.numbers.now c.args.mappings.now c.args.root.now c.loop-secondary.found.items
    c.loop-secondary.secondary-index c.loop-secondary.invariant.count (omega (arith, c.loop-secondary-test.true)) c.loop-secondary.invariant.weights

pub returns-in-None : goal.returns-in-None
returns-in-None g c =
    weights_so_far g.R.RootMappings.mappings_of c.args.numbers.now c.args.mappings.now c.args.root.now c.loop-secondary.found.items
    c.loop-secondary.secondary-index c.loop-secondary.invariant.count (omega (arith, c.loop-secondary-test.true)) c.loop-secondary.invariant.weights

pub returns : goal.returns
returns g c =
    weights_so_far g.R.RootMappings.mappings_of c.args.numbers.now c.args.mappings.now c.args.root.now c.loop-secondary.found.items
    c.loop-secondary.secondary-index c.loop-secondary.invariant.count (omega (arith, c.loop-secondary.auto.secondary-index-end))
    c.loop-secondary.invariant.weights
