use Rattle.std.proofs.Common.{arith}
use Rattle.icu_element_cursor.proofs.PieceLemmas.{rest_dropped}
use Rattle.icu_element_cursor.proofs.piece.split_piece.Goals as goal

pub chars-preserved : goal.chars-preserved
chars-preserved g c =
    let text = g.T.EncodedText.text in
    record {
      left = rest_dropped (text c.args.text) (text c.chars.rest) _ c.chars.count c.chars.invariant.left c.in-Some.ensures.after;
      fits = omega (arith, c.in-Some.ensures.shorter, c.chars.invariant.fits);
      some = omega arith;
    }
