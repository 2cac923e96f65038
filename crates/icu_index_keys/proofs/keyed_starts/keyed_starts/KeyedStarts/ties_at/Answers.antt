use Rattle.std.proofs.Common.{◌∙◌, ap, sym}
use Rattle.std.specs.Ordering.{is_eq}
use Rattle.icu_index_keys.proofs.keyed_starts.StartLemmas.{ties_got, ties_none}
use Rattle.icu_index_keys.specs.keyed_starts.KeyOrders.{ties_at}
use Rattle.icu_index_keys.proofs.keyed_starts.keyed_starts.KeyedStarts.ties_at.Goals as goal

pub returns-in-Some : goal.returns-in-Some
returns-in-Some c =
    let l = c.in-Some.ensures.lookup in
    c.is_eq.ensures
    ∙ (ap is_eq c.order.ensures
    ∙ (sym (ties_got c.args.key.now c.deref.result.now c.args.index c.in-Some.start.now l.3.0 l.1)
    ∙ ap (λ ss. ties_at c.args.key.now ss c.args.index) c.deref.ensures.value))

pub returns-in-None : goal.returns-in-None
returns-in-None c =
    sym (ap (λ ss. ties_at c.args.key.now ss c.args.index) (sym c.deref.ensures.value)
    ∙ ties_none c.args.key.now c.deref.result.now c.args.index c.in-None.ensures.lookup.3)
