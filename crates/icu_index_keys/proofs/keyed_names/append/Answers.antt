use Rattle.std.proofs.Common.{◌≡◌, ◌++◌, ◌^◌, ◌<◌, ◌∙◌, ap, append_assoc, length, rules}
use Rattle.icu_index_keys.proofs.BufferLemmas.{entry_is}
use Rattle.icu_index_keys.specs.inner.NameEntries.{with_count}
use Rattle.icu_index_keys.proofs.keyed_names.append.Goals as goal

pub returns-clause-entry : goal.returns-clause-entry
returns-clause-entry c =
    let old = c.args.bytes.now.items in
    let key = c.args.key.now in
    let name = c.args.name.now in
    let is : c.push_counted-2.new.bytes.items ≡ old ++ (with_count 8 key ++ with_count 0 name)
    = c.in_default.ensures.ok
    ∙ (ap (λ bs. bs ++ with_count 0 name) (c.in_ok-push_counted.ensures.ok ∙ ap (λ bs. bs ++ with_count 8 key) c.reserve.ensures)
    ∙ append_assoc old (with_count 8 key) (with_count 0 name)) in
    let start : c.len-start.result ≡ length old = search rules in
    let short : length key < 2 ^ 64 = search rules in
    let small : length name < 2 ^ 64 = search rules in
    entry_is old key name c.push_counted-2.new.bytes.items is c.are_bytes.ensures short small record {
      prefix = c.prefix-prefix.result;
      start = c.len-start.result;
    } c.prefix-prefix.ensures start
