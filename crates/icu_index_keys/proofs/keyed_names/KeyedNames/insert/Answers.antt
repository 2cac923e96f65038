use Rattle.std.proofs.Common.{◌≡◌, ◌+◌, ◌++◌, ◌∙◌, sym, ap, add-one, length, map, rules, suc, subst}
use Rattle.icu_index_keys.proofs.BufferLemmas.{shortened}
use Rattle.icu_index_keys.proofs.PlacedLemmas.{keyed_placed, length_after, parted_in, rise_after, sound_placed}
use Rattle.icu_index_keys.specs.KeyedLists.{Keyed, placed}
use Rattle.icu_index_keys.specs.inner.NameEntries.{AreEntriesIn, IsEntryOf, with_count, keyed_in}
use Rattle.icu_index_keys.specs.inner.Leaves.{Rise, entries_of}
use Rattle.icu_index_keys.proofs.keyed_names.KeyedNames.insert.Goals as goal

pub add-requires-clause-parted : goal.add-requires-clause-parted
add-requires-clause-parted c =
    let first = c.args.self.now in
    let es = entries_of first.leaves.items in
    let key = c.args.key in
    let name = c.args.name.now in
    let new = c.append.new.bytes.items in
    let read = c.all-bytes.result.now in
    let is : new ≡ first.bytes.items ++ (with_count 8 key.now ++ with_count 0 name) = c.in_ok-entry.ensures.ok in
    let read_is : read ≡ new = c.all-bytes.ensures.value in
    let kept = c.new-sought.ensures.bytes in
    let entry = subst (λ bs. IsEntryOf bs key.now name c.in_ok-entry.entry) (sym read_is) c.in_ok-entry.ensures.entry in
    parted_in first.bytes.items (with_count 8 key.now ++ with_count 0 name) read (read_is ∙ is) es first.sound c.all-bytes.ensures.bytes key name c.new-sought.result.border c.new-sought.ensures.border kept c.in_ok-entry.entry entry first.rise

pub invariant_of-self-2 : goal.invariant_of-self-2
invariant_of-self-2 c =
    let first = c.args.self.now in
    let es = entries_of first.leaves.items in
    let key = c.args.key in
    let name = c.args.name.now in
    let new = c.append.new.bytes.items in
    let read = c.all-bytes.result.now in
    let is : new ≡ first.bytes.items ++ (with_count 8 key.now ++ with_count 0 name) = c.in_ok-entry.ensures.ok in
    let read_is : read ≡ new = c.all-bytes.ensures.value in
    let kept = c.new-sought.ensures.bytes in
    let entry = subst (λ bs. IsEntryOf bs key.now name c.in_ok-entry.entry) (sym read_is) c.in_ok-entry.ensures.entry in
    let after = entries_of c.add.new.leaves.items in
    record {
      sound = subst (λ bs. AreEntriesIn bs after) read_is (sound_placed first.bytes.items (with_count 8 key.now ++ with_count 0 name) read (read_is ∙ is) es first.sound c.all-bytes.ensures.bytes key name c.new-sought.result.border c.new-sought.ensures.border kept c.in_ok-entry.entry entry first.rise after c.in_default.ensures.ok);
      filled = c.add.ensures.filled;
      rise = subst (λ bs. Rise (map (λ (x : Keyed). x.0) (map (keyed_in bs) after))) read_is (rise_after first.bytes.items (with_count 8 key.now ++ with_count 0 name) read (read_is ∙ is) es first.sound c.all-bytes.ensures.bytes key name c.new-sought.result.border c.new-sought.ensures.border kept c.in_ok-entry.entry entry first.rise after c.in_default.ensures.ok);
      counted = let more : c.in_ok-len.len ≡ first.len + 1 = search rules in
          more ∙ (add-one first.len ∙ (ap suc first.counted ∙ sym (length_after first.bytes.items (with_count 8 key.now ++ with_count 0 name) read (read_is ∙ is) es first.sound c.all-bytes.ensures.bytes key name c.new-sought.result.border c.new-sought.ensures.border kept c.in_ok-entry.entry entry first.rise after c.in_default.ensures.ok)));
    }

pub returns-clause-ok : goal.returns-clause-ok
returns-clause-ok c =
    let first = c.args.self.now in
    let es = entries_of first.leaves.items in
    let key = c.args.key in
    let name = c.args.name.now in
    let new = c.append.new.bytes.items in
    let read = c.all-bytes.result.now in
    let is : new ≡ first.bytes.items ++ (with_count 8 key.now ++ with_count 0 name) = c.in_ok-entry.ensures.ok in
    let read_is : read ≡ new = c.all-bytes.ensures.value in
    let kept = c.new-sought.ensures.bytes in
    let entry = subst (λ bs. IsEntryOf bs key.now name c.in_ok-entry.entry) (sym read_is) c.in_ok-entry.ensures.entry in
    let after = entries_of c.add.new.leaves.items in
    subst (λ bs. map (keyed_in bs) after ≡ placed (key.now, name) (map (keyed_in first.bytes.items) es)) read_is
    (keyed_placed first.bytes.items (with_count 8 key.now ++ with_count 0 name) read (read_is ∙ is) es first.sound c.all-bytes.ensures.bytes key name c.new-sought.result.border c.new-sought.ensures.border kept c.in_ok-entry.entry entry first.rise after c.in_default.ensures.ok)

pub invariant_of-self-in-Err : goal.invariant_of-self-in-Err
invariant_of-self-in-Err c =
    let first = c.args.self.now in
    let old = first.bytes.items in
    let start : c.len-start.result ≡ length old = search rules in
    let bytes : c.truncate.new.self.items ≡ old
    = c.truncate.ensures.items
    ∙ shortened old (with_count 8 c.args.key.now ++ with_count 0 c.args.name.now) c.append.new.bytes.items c.len-start.result c.in_ok-entry.ensures.ok start in
    let entries : entries_of c.add.new.leaves.items ≡ entries_of first.leaves.items = c.in-Err.ensures.err in
    record {
      sound = subst (λ bs. AreEntriesIn bs (entries_of c.add.new.leaves.items)) (sym bytes) (subst (AreEntriesIn old) (sym entries) first.sound);
      filled = c.add.ensures.filled;
      rise = subst (λ bs. Rise (map (λ (x : Keyed). x.0) (map (keyed_in bs) (entries_of c.add.new.leaves.items)))) (sym bytes)
          (subst (λ es. Rise (map (λ (x : Keyed). x.0) (map (keyed_in old) es))) (sym entries) first.rise);
      counted = first.counted ∙ ap length (sym entries);
    }
