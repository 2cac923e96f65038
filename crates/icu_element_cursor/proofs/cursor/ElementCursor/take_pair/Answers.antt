use Rattle.std.proofs.Common.{length, option_to_list, ap, arith}
use Rattle.icu_element_cursor.specs.Cursors.{cursor_reading, gives_with}
use Rattle.icu_element_cursor.proofs.CursorLemmas.{pair_begun}
use Rattle.icu_element_cursor.proofs.cursor.ElementCursor.take_pair.Goals as goal

pub returns : goal.returns
unfolding gives_with
returns g c =
    let text = g.T.EncodedText.text in record {
      next = pair_begun (cursor_reading c.args.self.now.tables.now) _ _ c.requires.nothing c.args.c c.args.read.second _ _ (text c.args.rest) (text c.args.read.rest) _ _
          (option_to_list c.begin_few.result) _ c.requires.text c.requires.next c.requires.stand c.begin_few.ensures c.push.ensures c.push-2.ensures;
      shorter = omega (arith, ap length c.requires.next);
    }
