use Rattle.std.proofs.Common.{◌∙◌, ap, length, map, refl, subst, sym}
use Rattle.icu_index_keys.proofs.BeginningRangeLemmas.{names_behind}
use Rattle.icu_index_keys.proofs.PlacedLemmas.{entries_parted}
use Rattle.icu_index_keys.specs.Borders.{border_key}
use Rattle.icu_index_keys.specs.KeyedLists.{Keyed, behind_border, names_in}
use Rattle.icu_index_keys.specs.inner.NameEntries.{AreEntriesIn, entry_before, keyed_in}
use Rattle.icu_order_levels.specs.beginnings.KeyBeginnings.{AreBytes}
use Rattle.icu_index_keys.specs.inner.Leaves.{AreFilled, Parts, Rise, entries_of}
use Rattle.icu_index_keys.proofs.keyed_names.KeyedNames.behind.Goals as goal

pub returns : goal.returns
returns c =
    let self = c.args.self.now in
    let read = c.all-bytes.result.now in
    let got = c.as_slice-leaves.result.now in
    let read_is = sym c.all-bytes.ensures.value in
    let got_is = sym c.as_slice-leaves.ensures.value in
    let are = c.all-bytes.ensures.bytes in
    let sound = subst (λ ls. AreEntriesIn read (entries_of ls)) got_is (subst (λ bs. AreEntriesIn bs (entries_of self.leaves.items)) read_is self.sound) in
    let rise = subst (λ ls. Rise (map (λ (x : Keyed). x.0) (map (keyed_in read) (entries_of ls)))) got_is
    (subst (λ bs. Rise (map (λ (x : Keyed). x.0) (map (keyed_in bs) (entries_of self.leaves.items)))) read_is self.rise) in
    let filled = subst AreFilled got_is self.filled in
    let first = subst (λ b. Parts (entry_before read b) got c.find_place-first.result.leaf c.find_place-first.result.index) c.new.ensures.border
    (c.find_place-first.ensures.parts filled
    (entries_parted read are c.new.result.border (subst (λ b. AreBytes (border_key b)) (sym c.new.ensures.border) c.new.ensures.bytes) (entries_of got) sound rise)) in
    c.names_between.ensures
    ∙ (names_behind read are got sound c.args.from c.new.ensures.bytes c.find_place-first.result.leaf c.find_place-first.result.index (length got) refl first
    ∙ (ap (λ ls. names_in (behind_border c.args.from (map (keyed_in read) (entries_of ls)))) (sym got_is)
    ∙ ap (λ bs. names_in (behind_border c.args.from (map (keyed_in bs) (entries_of self.leaves.items)))) (sym read_is)))
