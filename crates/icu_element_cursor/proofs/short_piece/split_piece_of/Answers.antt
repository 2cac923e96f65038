-- The piece is decomposed, and then put in order.
use Rattle.std.proofs.Common.{◌∷◌, length, refl, ap, arith}
use Rattle.icu_element_cursor.proofs.PieceLemmas.{more_parts, no_parts}
use Rattle.icu_element_cursor.proofs.short_piece.split_piece_of.Goals as goal

pub chars-init : goal.chars-init
chars-init g c =
    let all = c.args.first ∷ g.T.EncodedText.text c.args.text in
    record {
      decomposed = more_parts all _ all _ (g.T.EncodedText.text c.args.text) c.args.first (no_parts all _ c.clear.ensures) refl (c.push.ensures c.if-not-push.false);
      fewer = omega arith;
    }

pub chars-preserved : goal.chars-preserved
chars-preserved g c =
    let text = g.T.EncodedText.text in
    let next = c.in-Some.ensures.char in
    record {
      decomposed = more_parts (c.args.first ∷ text c.args.text) _ (text c.chars.rest) _ (text c.take_inside.new.text) c.in-Some.c c.chars.invariant.decomposed next (c.push-in-Some.ensures c.if-not-push-2.false);
      fewer = omega (arith, ap length next, c.chars.invariant.fewer);
    }
