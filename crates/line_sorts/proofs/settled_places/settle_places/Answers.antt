-- A run is settled behind those before it.
use Rattle.std.proofs.Common.{◌≡◌, ◌<◌, ◌≤◌, ◌+◌, ◌-◌, ◌∙◌, ℕ, List, ap, drop, length, length-drop, length-take, refl, subst, take, arith}
use Rattle.std.proofs.Math.Seq.{take_all}
use Rattle.std.specs.List.{AllByRecursion}
use borrow.Rule.Slice.PartMut.{put_mid, same_len_mid}
use Rattle.line_sorts.proofs.SettledLemmas.{all_settled, nothing_settled, run_in_place, run_is_right}
use Rattle.line_sorts.specs.declared.line_places.LinePlace.{LinePlace}
use Rattle.line_sorts.specs.inner.SettledPlaces.{IsPlaceOfRun, Settles, first_run}
use Rattle.line_sorts.proofs.settled_places.settle_places.Goals as goal

pub settling-init : goal.settling-init
settling-init g c = record {
  len = refl;
  bound = omega arith;
  left = nothing_settled (g.L.TiedLines.view c.args.lines.now) c.args.order c.args.places.now c.requires.right c.requires.fronts;
}

pub settle_run-requires : goal.settle_run-requires
settle_run-requires g c =
    let k = g.L.TiedLines.view c.args.lines.now in
    let n = c.run_length.result in
    let done = c.settling.done in
    let now = c.settling.places in
    let count : n ≡ first_run (drop done now) =
    c.run_length.ensures.count ∙ ap first_run (take_all (length now - done) (drop done now) (omega (arith, length-drop done now))) in
    let right : (f : ℕ) × AllByRecursion (IsPlaceOfRun k f) (take n (drop done now)) =
    run_is_right k c.args.order c.args.places.now (take done now) (drop done now) n count c.settling.invariant.left in
    subst (λ m. (f : ℕ) × AllByRecursion (IsPlaceOfRun k f) (take m (drop done now))) (omega arith) right

pub settling-preserved : goal.settling-preserved
settling-preserved g c =
    let k = g.L.TiedLines.view c.args.lines.now in
    let o = c.args.order in
    let places = c.args.places.now in
    let n = c.run_length.result in
    let done = c.settling.done in
    let now = c.settling.places in
    let size = done + n - done in
    let ys : List LinePlace = c.settle_run.new.run in
    let same : size ≡ n = omega arith in
    let count : n ≡ first_run (drop done now) =
    c.run_length.ensures.count ∙ ap first_run (take_all (length now - done) (drop done now) (omega (arith, length-drop done now))) in
    let some : done < length now = c.settling-test.true in
    let len : length (put_mid done size now ys) ≡ length now = same_len_mid done size now ys c.settle_run.ensures.len in
    let settles : Settles k o (take n (drop done now)) ys =
    subst (λ m. Settles k o (take m (drop done now)) ys) same c.in_ok-settle_run.ensures.settles in
    let whole : take (length now - done) (drop done now) ≡ drop done now = take_all (length now - done) (drop done now) (omega (arith, length-drop done now)) in
    let fits : n ≤ length (drop done now) = subst (λ (ps : List LinePlace). n ≤ length ps) whole c.run_length.ensures.bound in
    let long : length ys ≡ n = omega (arith, c.settle_run.ensures.len, same, length-take size (drop done now), fits) in
    record {
      len = len ∙ c.settling.invariant.len;
      bound = omega (arith, len, fits, length-drop done now, some);
      left = run_in_place k o places now ys done n (done + n) size count some refl same long c.settling.invariant.left settles;
    }

pub returns-clause-settles : goal.returns-clause-settles
returns-clause-settles g c =
    let now = c.settling.places in
    let done = c.settling.done in
    let none : length (drop done now) ≡ 0 = omega (arith, length-drop done now, c.settling-test.false) in
    subst (λ (ps : List LinePlace). Settles (g.L.TiedLines.view c.args.lines.now) c.args.order c.args.places.now ps) (take_all done now c.settling-test.false)
    (all_settled (g.L.TiedLines.view c.args.lines.now) c.args.order c.args.places.now (take done now) (drop done now) none c.settling.invariant.left)
