-- One more block comes after those there are.
use Rattle.std.proofs.Common.{◌≡◌, ◌+◌, ◌-◌, ◌*◌, ◌/◌, ◌<◌, ◌++◌, ◌∷◌, [], ◌∙◌, Bool, List, length, length-append, take, drop, ap, sym, subst, rules, arith}
use Rattle.std.specs.List.{list_all}
use Rattle.icu_table_entries.specs.Entries.{kind_of}
use Rattle.icu_element_facts.specs.inner.LoneEntries.{is_lone_kind, LoneStored}
use Rattle.icu_element_facts.proofs.LoneLemmas.{one_stored}
use Rattle.icu_element_facts.proofs.lone_blocks.lone_stored.Goals as goal

pub loop-block-preserved : goal.loop-block-preserved
loop-block-preserved c =
    let values = c.args.values.now in
    let stored = c.loop-block.stored.items in
    let block = c.loop-block.block in
    let b = c.are_lone.result in
    let at : length stored ≡ block = c.loop-block.invariant.0 in
    let pushed : c.push.new.self.items ≡ stored ++ b ∷ [] = c.in_ok-push.ensures.items in
    let below : block < length values / 64 = search rules in
    let count : 64 * block + 64 - 64 * block ≡ 64 = omega arith in
    let here : b ≡ list_all (λ e. is_lone_kind (kind_of e)) (take 64 (drop (64 * block) values)) =
    c.are_lone.ensures ∙ ap (λ n. list_all (λ e. is_lone_kind (kind_of e)) (take n (drop (64 * block) values))) count in
    let is = here ∙ ap (λ n. list_all (λ e. is_lone_kind (kind_of e)) (take 64 (drop (64 * n) values))) (sym at) in (
      omega (arith, ap length pushed ∙ length-append stored (b ∷ []), at),
      subst (λ (l : List Bool). LoneStored l values) (sym pushed) (one_stored values stored b c.loop-block.invariant.1 (omega (arith, at, below)) is),
    )
