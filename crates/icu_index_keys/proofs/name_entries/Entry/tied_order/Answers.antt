use Rattle.std.proofs.Common.{◌≡◌, ◌∙◌, ap, drop, length, min}
use Rattle.std.specs.Ordering.{nat_cmp, ordering_then}
use Rattle.icu_order_levels.specs.ListOrder.{list_order}
use Rattle.icu_index_keys.proofs.TiedLemmas.{tied}
use Rattle.icu_index_keys.specs.inner.NameEntries.{count_of, first_counted}
use Rattle.icu_index_keys.proofs.name_entries.Entry.tied_order.Goals as goal

pub returns : goal.returns
returns c = λ alike.
    let bytes = c.args.bytes.now in
    let e = c.args.self.now in
    let other = c.args.other.now in
    let from = drop e.start bytes in
    let first : c.cmp-first.result ≡ nat_cmp (min (count_of from) 8) (min (length other) 8)
    = c.cmp-first.ensures
    ∙ (ap (λ n. nat_cmp n c.min-2.result) (c.min.ensures ∙ ap (λ n. min n 8) c.key-key.ensures.count)
    ∙ ap (nat_cmp (min (count_of from) 8)) c.min-2.ensures) in
    let second : c.cmp.result ≡ list_order (first_counted 8 from) (drop 8 other)
    = c.cmp.ensures
    ∙ (ap (λ bs. list_order bs c.skip.result.now) c.key-key.ensures.first ∙ ap (list_order (first_counted 8 from)) c.skip.ensures) in
    c.then.ensures
    ∙ (ap (λ o. ordering_then o c.cmp.result) first
    ∙ (ap (ordering_then (nat_cmp (min (count_of from) 8) (min (length other) 8))) second ∙ tied bytes e other c.are_bytes.ensures alike))
