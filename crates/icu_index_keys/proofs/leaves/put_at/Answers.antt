use Rattle.std.proofs.Common.{◌≡◌, ◌<◌, ◌≤◌, ◌∷◌, ◌++◌, arith, drop, length, take}
use Rattle.std.proofs.lemmas.Result.{on_err_weaker, on_ok_weaker}
use Rattle.icu_index_keys.proofs.AddLemmas.{place_inside, put_failed, put_in_place, put_last}
use Rattle.icu_index_keys.proofs.leaves.put_at.Goals as goal

pub put-requires : goal.put-requires
put-requires c =
    let ls = c.args.leaves.now.items in
    let low : c.args.place.leaf < length ls = omega (arith, c.if-place-len.true, c.len.ensures) in
    place_inside ls c.args.place.leaf c.args.place.index c.index_mut.result.now c.index_mut.ensures.value low c.requires.within

pub returns-then-place-len-clause-ok : goal.returns-then-place-len-clause-ok
returns-then-place-len-clause-ok c =
    let ls = c.args.leaves.now.items in
    let j = c.args.place.index in
    let low : c.args.place.leaf < length ls = omega (arith, c.if-place-len.true, c.len.ensures) in
    on_ok_weaker c.put.result
    (λ (h : c.put.new.leaf.items ≡ take j c.index_mut.result.now.items ++ c.args.entry ∷ drop j c.index_mut.result.now.items). put_in_place ls c.args.place.leaf j c.args.entry c.index_mut.result.now c.put.new.leaf c.index_mut.ensures.value low h)
    c.put.ensures.ok

pub returns-then-place-len-clause-err : goal.returns-then-place-len-clause-err
returns-then-place-len-clause-err c =
    let ls = c.args.leaves.now.items in
    let low : c.args.place.leaf < length ls = omega (arith, c.if-place-len.true, c.len.ensures) in
    on_err_weaker c.put.result
    (λ (h : c.put.new.leaf.items ≡ c.index_mut.result.now.items). put_failed ls c.args.place.leaf c.args.place.index c.index_mut.result.now c.put.new.leaf c.index_mut.ensures.value low h)
    c.put.ensures.err

pub returns-clause-ok : goal.returns-clause-ok
returns-clause-ok c =
    let ls = c.args.leaves.now.items in
    let past : length ls ≤ c.args.place.leaf = omega (arith, c.if-place-len.false, c.len.ensures) in
    put_last ls c.args.place.leaf c.args.place.index c.args.entry c.in_ok-leaf.leaf c.push.new.self.items c.in_ok-leaf.ensures.items c.in_ok-push.ensures.items past c.requires.within
