use Rattle.std.proofs.Common.{arith, false, rules, subst, sym, true, ◌-◌, ◌∙◌, ◌≡◌}
use Rattle.icu_index_keys.proofs.LeafPlaceLemmas.{same_got}
use Rattle.icu_index_keys.specs.declared.name_entries.Entry.{Entry}
use Rattle.icu_index_keys.specs.inner.NameEntries.{entry_before}
use Rattle.icu_index_keys.proofs.leaf_places.has_place.Goals as goal

pub returns : goal.returns
returns c = λ h.
    let test = entry_before c.args.bytes.now c.args.sought.now.border in
    let xs = c.args.leaf.now in
    let i = c.args.index in
    let first : c.is_before.result ≡ true = search rules in
    let second : c.is_before-2.result ≡ false = search rules in
    record {
      some = omega (arith, c.if-index-eq0.false);
      low = omega (arith, c.if-index-leaf.false);
      passes = λ d some. subst (λ (y : Entry). test y ≡ true) (same_got test xs (i - 1) _ d (omega (arith, c.if-index-leaf.false, some))) (sym c.is_before.ensures ∙ first);
      fails = λ d low. subst (λ (y : Entry). test y ≡ false) (same_got test xs i _ d low) (sym c.is_before-2.ensures ∙ second);
    }
