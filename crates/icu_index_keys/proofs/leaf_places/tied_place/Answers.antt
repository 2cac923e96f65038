use Rattle.std.proofs.Common.{◌≡◌, ◌+◌, ◌-◌, ◌<◌, ◌∙◌, IsTrue, arith, false, get_or, length, rules, subst, sym, true}
use Rattle.icu_index_keys.proofs.LeafPlaceLemmas.{same_got}
use Rattle.icu_index_keys.specs.declared.name_entries.Entry.{Entry}
use Rattle.icu_index_keys.specs.inner.NameEntries.{entry_before}
use Rattle.icu_index_keys.proofs.leaf_places.tied_place.Goals as goal

pub returns-then-is_before : goal.returns-then-is_before
returns-then-is_before c =
    let test = entry_before c.args.bytes.now c.args.sought.now.border in
    let xs = c.args.leaf.now in
    let i = c.args.count in
    let above : IsTrue c.is_above.result = search rules in
    let before : IsTrue c.is_before.result = search rules in
    let next : i + 1 < length xs = search rules in
    let back : i ≡ i + 1 - 1 = omega arith in
    record {
      some = omega arith;
      low = next;
      passes = λ d some. subst (λ k. test (get_or xs k d) ≡ true) back (subst (λ (y : Entry). test y ≡ true) (same_got test xs i _ d c.requires.there) (sym c.is_before.ensures ∙ before));
      fails = λ d low. subst (λ (y : Entry). test y ≡ false) (same_got test xs (i + 1) _ d low) (c.is_above.ensures above c.args.bytes.now);
    }
