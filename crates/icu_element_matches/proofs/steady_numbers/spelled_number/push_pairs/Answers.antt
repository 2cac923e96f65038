use Rattle.std.proofs.Common.{◌≡◌, ◌<◌, ◌+◌, ◌-◌, ◌*◌, ℕ, List, get_or, length, take, drop, arith, ap, ◌∙◌, length-drop}
use Rattle.std.proofs.lemmas.List.{length_push, length-take-le}
use Rattle.std.proofs.lemmas.List.Elements.{All-take, All-drop}
use Rattle.icu_element_matches.proofs.numbers.PairLemmas.{pair_turn}
use Rattle.icu_element_matches.specs.steady_numbers.inner.Rooms.{room_bytes}
use Rattle.icu_element_matches.proofs.steady_numbers.spelled_number.push_pairs.Goals as goal

pub loop-left-preserved : goal.loop-left-preserved
loop-left-preserved c =
    let ds : List ℕ = c.loop-left.left.now in
    let some : 1 < length ds = omega arith in
    let first : 0 < length ds = omega arith in
    let tens : get_or ds 0 0 < 10 = c.loop-left.invariant.decimal 0 0 first in
    let ones : get_or ds 1 0 < 10 = c.loop-left.invariant.decimal 1 0 some in
    let longer : length (room_bytes c.push.new.self) ≡ length (room_bytes c.loop-left.room) + 1 = ap length c.push.ensures ∙ length_push (room_bytes c.loop-left.room) (11 + 2 * c.loop-left.pair) in
    let behind : length (drop 2 ds) ≡ length ds - 2 = length-drop 2 ds in
    let fewer : length (take (length ds - 2) (drop 2 ds)) ≡ length ds - 2 = length-take-le (length ds - 2) (drop 2 ds) (omega (arith, behind)) in
    record {
      decimal = All-take (λ d. d < 10) (length ds - 2) (drop 2 ds) (All-drop (λ d. d < 10) 2 ds c.loop-left.invariant.decimal);
      pair = omega arith;
      fits = omega (arith, c.loop-left.invariant.fits, longer, fewer, some);
      bytes = pair_turn (room_bytes c.loop-left.room) (room_bytes c.push.new.self) c.loop-left.pair ds c.push.ensures (omega arith)
          ∙ c.loop-left.invariant.bytes;
    }
