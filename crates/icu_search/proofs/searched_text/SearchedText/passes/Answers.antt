use Rattle.std.proofs.Common.{◌≡◌, List, ℕ, [], ◌∷◌, ◌+◌, ◌-◌, length, take, drop, refl, sym, ap, ◌∙◌, arith, inl}
use Rattle.std.specs.Prelude.{slice_range}
use Rattle.std.proofs.lemmas.List.{take_all, length-drop}
use Rattle.icu_order_texts.specs.TextOrder.{reading_by}
use Rattle.icu_search.specs.SearchedTexts.{searched_in, text_searched}
use Rattle.icu_search.specs.inner.SearchCuts.{IsPieceFrom}
use Rattle.icu_search.proofs.SilentStartLemmas.{silent_start, told_silent}
use Rattle.icu_search.proofs.TextCutLemmas.{told_ruled_out}
use Rattle.icu_search.proofs.searched_text.SearchedText.passes.Goals as goal

pub returns-then-opens_otherwise : goal.returns-then-opens_otherwise
returns-then-opens_otherwise c = λ is.
    let t = c.args.self.now in
    let s = searched_in t in
    let text = text_searched t in
    let at = c.args.at in
    let chars = c.characters.result.now in
    let rest = slice_range chars at (length chars) in
    let piece : IsPieceFrom (reading_by s.collation) text at (length text) rest = record {
      stop = length text;
      reaches = omega arith;
      within = omega arith;
      ends = inl refl;
      part_is = ap (λ (l : List ℕ). slice_range l at (length l)) c.characters.ensures;
    } in
    told_ruled_out s text at (length text) rest piece (c.opens_otherwise.ensures c.if-opens_otherwise.true) (omega (arith, c.requires.within)) c.requires.some

pub returns-then-allows_each : goal.returns-then-allows_each
returns-then-allows_each c = λ is.
    let t = c.args.self.now in
    let s = searched_in t in
    let text = text_searched t in
    let at = c.args.at in
    let chars = c.characters.result.now in
    let o = c.opens_silently.ensures is in
    let rest_is : slice_range chars at (length chars) ≡ drop at text =
    take_all (length chars - at) (drop at chars) (omega (arith, length-drop at chars)) ∙ ap (drop at) c.characters.ensures in
    told_silent s text at (length text) c.requires.some (λ stop longer match.
    silent_start s text at (o.char ∷ []) o.next o.tail (sym rest_is ∙ o.text_is) o.silent o.ends c.requires.some (c.allows_each.ensures c.if-allows_each.true (at + length (o.char ∷ [])))
    (omega arith) stop longer match)
