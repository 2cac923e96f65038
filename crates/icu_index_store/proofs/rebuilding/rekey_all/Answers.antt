use Rattle.std.proofs.Common.{rules, ◌≡◌, ◌<ℤ◌, ◌∙◌, Some, refl, sym, subst, to_z, of_z, w64, arith}
use Rattle.std.proofs.lemmas.Int.{ints}
use Rattle.icu_index_store.proofs.stored_rows.RenewalLemmas.{all_begin, all_go_on, all_stuck}
use Rattle.icu_index_store.proofs.stored_rows.TransactionLemmas.{keeps_none, survives_both, survives_none}
use Rattle.icu_index_store.specs.stored_rows.Renewals.{HasRenewed, RenewsNext}
use Rattle.sqlite.proofs.InsideLemmas.{keeps_then}
use Rattle.sqlite.specs.Held.{state}
use Rattle.sqlite.specs.State.{HasCleanDisk}
use Rattle.icu_collator.specs.Collators.{collation_borrowed}
use Rattle.icu_index_store.specs.StoreLaws.{stored_key}
use Rattle.icu_index_store.proofs.rebuilding.rekey_all.Goals as goal

pub chunks-init : goal.chunks-init
chunks-init g c = (
  refl,
  survives_none (state g.S.Store c.args.transaction.now.conn.now),
  λ clean inside. keeps_none (state g.S.Store c.args.transaction.now.conn.now),
  λ clean inside. all_begin g.S.Store (stored_key (collation_borrowed c.args.collator.now)) 9223372036854775807 c.args.transaction.now.conn.now inside,
)

pub chunks-preserved : goal.chunks-preserved
chunks-preserved g c = (
  c.rekey_some.ensures.same_reference ∙ c.chunks.invariant.0,
  survives_both _ _ _ c.chunks.invariant.1 c.rekey_some.ensures.survives,
  λ clean inside.
      let early : HasCleanDisk (state g.S.Store c.chunks.transaction.conn.now) = omega (arith, clean, c.rekey_some.ensures.survives.clean) in
      keeps_then _ _ _ (c.chunks.invariant.2 early inside) (c.rekey_some.ensures.kept clean (c.chunks.invariant.3 early inside).inside),
  λ clean inside.
      let key = stored_key (collation_borrowed c.args.collator.now) in
      let early : HasCleanDisk (state g.S.Store c.chunks.transaction.conn.now) = omega (arith, clean, c.rekey_some.ensures.survives.clean) in
      let so = c.chunks.invariant.3 early inside in
      let some = subst (λ o. RenewsNext key g.S.Store (to_z w64 c.chunks.behind-bits) o c.chunks.transaction.conn.now c.rekey_some.new.transaction.conn.now) c.in-Some.is (c.in_ok-last.ensures.renews clean so.inside) in
      let fits : to_z w64 (of_z w64 c.in-Some.last) ≡ c.in-Some.last = search rules in
      subst (λ n. HasRenewed key g.S.Store n c.args.transaction.now.conn.now c.rekey_some.new.transaction.conn.now) (sym fits)
      (all_go_on g.S.Store key (to_z w64 c.chunks.behind-bits) c.in-Some.last c.args.transaction.now.conn.now c.chunks.transaction.conn.now c.rekey_some.new.transaction.conn.now so some),
)

pub returns-then-last-behind-clause-renews : goal.returns-then-last-behind-clause-renews
returns-then-last-behind-clause-renews g c = λ clean inside.
    let key = stored_key (collation_borrowed c.args.collator.now) in
    let early : HasCleanDisk (state g.S.Store c.chunks.transaction.conn.now) = omega (arith, clean, c.rekey_some.ensures.survives.clean) in
    let so = c.chunks.invariant.3 early inside in
    let some = subst (λ o. RenewsNext key g.S.Store (to_z w64 c.chunks.behind-bits) o c.chunks.transaction.conn.now c.rekey_some.new.transaction.conn.now) c.in-Some.is (c.in_ok-last.ensures.renews clean so.inside) in
    let test = c.if-last-behind.true in
    let stuck : ¬ (to_z w64 c.chunks.behind-bits <ℤ c.in-Some.last) = λ up. absurd (omega (arith, ints)) in
    (some.inside, all_stuck g.S.Store key (to_z w64 c.chunks.behind-bits) c.in-Some.last c.args.transaction.now.conn.now c.chunks.transaction.conn.now c.rekey_some.new.transaction.conn.now stuck so some)

pub returns-then-last-behind-clause-survives : goal.returns-then-last-behind-clause-survives
returns-then-last-behind-clause-survives g c = survives_both _ _ _ c.chunks.invariant.1 c.rekey_some.ensures.survives
