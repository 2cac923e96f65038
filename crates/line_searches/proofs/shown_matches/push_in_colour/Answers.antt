-- The three parts stand one behind another.
use Rattle.std.proofs.Common.{◌∙◌, ◌++◌, ap, append_assoc}
use Rattle.line_searches.specs.ShownMatches.{colour_off}
use Rattle.line_searches.proofs.shown_matches.push_in_colour.Goals as goal

pub returns : goal.returns
returns c =
    let text = c.args.text.now.items in
    let on = c.args.on.now in
    let bytes = c.args.bytes.now in
    c.in_ok-extend_from_slice-3.ensures.items
    ∙ (ap (λ l. l ++ colour_off)
    (c.in_ok-extend_from_slice-2.ensures.items ∙ (ap (λ l. l ++ bytes) c.in_ok-extend_from_slice.ensures.items ∙ append_assoc text on bytes))
    ∙ (append_assoc text (on ++ bytes) colour_off ∙ ap (λ l. text ++ l) (append_assoc on bytes colour_off)))
