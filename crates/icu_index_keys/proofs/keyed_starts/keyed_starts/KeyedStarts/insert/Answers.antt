use Rattle.std.proofs.Common.{◌≡◌, ◌∙◌, false, true, ap, map, refl, subst, sym}
use Rattle.std.specs.Prelude.{is_ok}
use Rattle.icu_index_keys.proofs.keyed_starts.StartLemmas.{IsPlace, ascend_after, put_in, stays_out}
use Rattle.icu_index_keys.specs.keyed_starts.KeyOrders.{ties_at}
use Rattle.icu_index_keys.specs.keyed_starts.Starts.{start_of}
use Rattle.icu_index_keys.proofs.keyed_starts.keyed_starts.KeyedStarts.insert.Goals as goal

pub returns-then-ties_at-clause-ok : goal.returns-then-ties_at-clause-ok
returns-then-ties_at-clause-ok c =
    let ss = c.args.self.now.starts.items in
    let i = c.below-place.result in
    let place = subst (λ k. IsPlace k ss i) c.as_slice.ensures.value c.below-place.ensures.point in
    let taken : ties_at c.args.start.key.items ss i ≡ true
    = ap (λ k. ties_at k ss i) (sym c.as_slice-2.ensures.value) ∙ (sym c.ties_at.ensures ∙ c.if-ties_at.true) in
    sym (stays_out (start_of c.args.start) ss i place c.below-place.ensures.bound taken)

pub invariant_of-self : goal.invariant_of-self
invariant_of-self c =
    let ss = c.args.self.now.starts.items in
    let i = c.below-place.result in
    let place = subst (λ k. IsPlace k ss i) c.as_slice.ensures.value c.below-place.ensures.point in
    let free : ties_at c.args.start.key.items ss i ≡ false
    = ap (λ k. ties_at k ss i) (sym c.as_slice-2.ensures.value) ∙ (sym c.ties_at.ensures ∙ c.if-ties_at.false) in
    record {
      ascend = ascend_after (is_ok c.insert.result) c.args.start ss c.insert.new.self.items i c.insert.ensures.items place c.below-place.ensures.bound free c.args.self.now.ascend;
    }

pub returns-clause-ok : goal.returns-clause-ok
returns-clause-ok c =
    let ss = c.args.self.now.starts.items in
    let i = c.below-place.result in
    let place = subst (λ k. IsPlace k ss i) c.as_slice.ensures.value c.below-place.ensures.point in
    let free : ties_at c.args.start.key.items ss i ≡ false
    = ap (λ k. ties_at k ss i) (sym c.as_slice-2.ensures.value) ∙ (sym c.ties_at.ensures ∙ c.if-ties_at.false) in
    ap (map start_of) c.in_ok-insert.ensures.items ∙ sym (put_in (start_of c.args.start) c.args.start refl ss i place c.below-place.ensures.bound free)
