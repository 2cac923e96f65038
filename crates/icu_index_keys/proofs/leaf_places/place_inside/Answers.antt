use Rattle.std.proofs.Common.{◌≡◌, ◌-◌, ◌<◌, IsTrue, arith, false, length, rules, subst, true}
use Rattle.icu_index_keys.proofs.LeafPlaceLemmas.{same_got}
use Rattle.icu_index_keys.specs.declared.name_entries.Entry.{Entry}
use Rattle.icu_index_keys.specs.inner.NameEntries.{entry_before}
use Rattle.icu_index_keys.proofs.leaf_places.place_inside.Goals as goal

pub returns-then-is_above : goal.returns-then-is_above
returns-then-is_above c =
    let test = entry_before c.args.bytes.now c.args.sought.now.border in
    let xs = c.args.leaf.now in
    let i = c.entries_below-count.result in
    let below : IsTrue c.is_below.result = search rules in
    let above : IsTrue c.is_above.result = search rules in
    let there : i < length xs = search rules in
    record {
      some = search rules;
      low = there;
      passes = λ d some. subst (λ (y : Entry). test y ≡ true) (same_got test xs (i - 1) _ d (omega (arith, there, some))) (c.is_below.ensures below c.args.bytes.now);
      fails = λ d low. subst (λ (y : Entry). test y ≡ false) (same_got test xs i _ d low) (c.is_above.ensures above c.args.bytes.now);
    }

pub tied_place-requires-clause-passes : goal.tied_place-requires-clause-passes
tied_place-requires-clause-passes c = λ d some.
    let test = entry_before c.args.bytes.now c.args.sought.now.border in
    let xs = c.args.leaf.now in
    let i = c.entries_below-count.result in
    let below : IsTrue c.is_below.result = search rules in
    let there : i < length xs = search rules in
    subst (λ (y : Entry). test y ≡ true) (same_got test xs (i - 1) _ d (omega (arith, there, some))) (c.is_below.ensures below c.args.bytes.now)
