use Rattle.std.proofs.Common.{rules, ◌≡◌, ◌+◌, Some, None, w64, to_z, of_z, sym, ◌∙◌, subst, arith}
use Rattle.std.proofs.lemmas.Int.{to_z-of_z}
use Rattle.icu_index_store.proofs.stored_rows.RenewalLemmas.{RenewsSome, renewal_begins, renewal_ends, renewal_goes_on}
use Rattle.icu_index_store.proofs.stored_rows.TransactionLemmas.{survives_both}
use Rattle.icu_index_store.specs.stored_rows.Renewals.{GivesKey, RenewsNext}
use Rattle.sqlite.proofs.InsideLemmas.{keeps_then}
use Rattle.sqlite.specs.Held.{state}
use Rattle.sqlite.specs.State.{HasCleanDisk}
use Rattle.icu_collator.specs.Collators.{collation_borrowed}
use Rattle.icu_index_store.specs.StoreLaws.{stored_key}
use Rattle.icu_index_store.proofs.rebuilding.rekey_some.Goals as goal

pub loop-row-init : goal.loop-row-init
loop-row-init g c = (
  c.names_after.ensures.same_reference,
  c.names_after.ensures.survives,
  c.names_after.ensures.kept,
  λ clean inside.
      let key = stored_key (collation_borrowed c.args.collator.now) in
      let shown = c.in_ok-rows.ensures.ok clean in
      let begun = renewal_begins g.S.Store key (to_z w64 (of_z w64 c.args.behind)) 256 c.in_ok-rows.rows.items c.args.transaction.now.conn.now c.names_after.new.transaction.conn.now inside shown in
      subst (λ rows. RenewsSome g.S.Store key (to_z w64 (of_z w64 c.args.behind)) 256 rows c.args.transaction.now.conn.now c.names_after.new.transaction.conn.now 0 None)
      (sym c.deref-row-items.ensures.value) begun,
)

pub loop-row-preserved : goal.loop-row-preserved
loop-row-preserved g c = (
  c.rekey_one.ensures.same_reference ∙ c.loop-row.invariant.0,
  survives_both _ _ _ c.loop-row.invariant.1 c.in_ok-rekey_one.ensures.survives,
  λ clean inside.
      let early : HasCleanDisk (state g.S.Store c.loop-row.transaction.conn.now) = omega (arith, clean, c.in_ok-rekey_one.ensures.survives.clean) in
      keeps_then _ _ _ (c.loop-row.invariant.2 early inside) (c.in_ok-rekey_one.ensures.kept clean (c.loop-row.invariant.3 early inside).inside),
  λ clean inside.
      let key = stored_key (collation_borrowed c.args.collator.now) in
      let early : HasCleanDisk (state g.S.Store c.loop-row.transaction.conn.now) = omega (arith, clean, c.in_ok-rekey_one.ensures.survives.clean) in
      let some = c.loop-row.invariant.3 early inside in
      let gives = c.in_ok-rekey_one.ensures.gives clean some.inside in
      let test = c.loop-row-test.true in
      let given = subst (λ r. GivesKey key g.S.Store r c.in_ok-rekey_one.field-0 c.loop-row.transaction.conn.now c.rekey_one.new.transaction.conn.now) c.row-item.is gives in
      let fits : to_z w64 (of_z w64 c.in_ok-rekey_one.field-0) ≡ c.in_ok-rekey_one.field-0 = search rules in
      subst (λ n. RenewsSome g.S.Store key (to_z w64 (of_z w64 c.args.behind)) 256 c.deref-row-items.result.now c.args.transaction.now.conn.now c.rekey_one.new.transaction.conn.now (c.loop-row.row-index + 1) (Some n))
      (sym fits)
      (renewal_goes_on g.S.Store key (to_z w64 (of_z w64 c.args.behind)) 256 c.deref-row-items.result.now c.args.transaction.now.conn.now c.loop-row.transaction.conn.now c.rekey_one.new.transaction.conn.now
      c.loop-row.row-index c.loop-row.last c.row-item.result c.in_ok-rekey_one.field-0 some test given),
)

pub returns-clause-renews : goal.returns-clause-renews
returns-clause-renews g c = λ clean inside.
    let key = stored_key (collation_borrowed c.args.collator.now) in
    let some = c.loop-row.invariant.3 clean inside in
    let test = c.loop-row-test.false in
    subst (λ b. RenewsNext key g.S.Store b c.loop-row.last c.args.transaction.now.conn.now c.loop-row.transaction.conn.now) (to_z-of_z w64 c.args.behind c.ranges.behind)
    (renewal_ends g.S.Store key (to_z w64 (of_z w64 c.args.behind)) 256 c.deref-row-items.result.now c.args.transaction.now.conn.now c.loop-row.transaction.conn.now c.loop-row.row-index c.loop-row.last (omega arith) test some)
