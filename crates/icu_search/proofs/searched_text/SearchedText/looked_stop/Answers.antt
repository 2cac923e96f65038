use Rattle.std.proofs.Common.{◌≡◌, List, ℕ, ◌-◌, length, drop, refl, sym, ap, ◌∙◌, arith, inl}
use Rattle.std.specs.Prelude.{slice_range}
use Rattle.std.proofs.lemmas.List.{take_all, length-drop}
use Rattle.icu_order_texts.specs.TextOrder.{reading_by}
use Rattle.icu_search.specs.SearchedTexts.{searched_in, text_searched}
use Rattle.icu_search.specs.inner.SearchCuts.{IsPieceFrom}
use Rattle.icu_search.proofs.BarrenLemmas.{none_from_there}
use Rattle.icu_search.proofs.TextCutLemmas.{none_matches}
use Rattle.icu_search.proofs.searched_text.SearchedText.looked_stop.Goals as goal

pub walk_along-requires-clause-rest : goal.walk_along-requires-clause-rest
walk_along-requires-clause-rest c =
    let chars = c.characters.result.now in
    take_all (length chars - c.args.start) (drop c.args.start chars) (omega (arith, length-drop c.args.start chars)) ∙ ap (drop c.args.start) c.characters.ensures

pub returns-then-begins_otherwise : goal.returns-then-begins_otherwise
returns-then-begins_otherwise c = λ place allowed not.
    let t = c.args.self.now in
    let s = searched_in t in
    let text = text_searched t in
    let start = c.args.start in
    let chars = c.characters.result.now in
    let rest = slice_range chars start (length chars) in
    let piece : IsPieceFrom (reading_by s.collation) text start (length text) rest = record {
      stop = length text;
      reaches = omega arith;
      within = omega arith;
      ends = inl refl;
      part_is = ap (λ (l : List ℕ). slice_range l start (length l)) c.characters.ensures;
    } in
    none_from_there s text start c.requires.within c.requires.some
    (λ k after to. none_matches s text start (length text) rest piece (c.begins_otherwise.ensures c.if-begins_otherwise.true) k after to)
