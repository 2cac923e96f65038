use Rattle.std.proofs.Common.{List, ℕ, length, refl, ap, arith, inl, inr}
use Rattle.std.specs.Prelude.{slice_range}
use Rattle.icu_search.specs.SearchedTexts.{text_searched}
use Rattle.icu_search.proofs.searched_text.SearchedText.piece_from.Goals as goal

pub returns-then-cuts_at : goal.returns-then-cuts_at
returns-then-cuts_at c =
    record {
      stop = c.args.last;
      reaches = omega arith;
      within = c.requires.within;
      ends = inr (c.cuts_at.ensures c.if-cuts_at.true);
      part_is = ap (λ (l : List ℕ). slice_range l c.args.start c.args.last) c.characters.ensures;
    }

pub returns-else-cuts_at : goal.returns-else-cuts_at
returns-else-cuts_at c =
    let text = text_searched c.args.self.now in
    record {
      stop = length text;
      reaches = c.requires.within;
      within = omega arith;
      ends = inl refl;
      part_is = ap (λ (l : List ℕ). slice_range l c.args.start (length l)) c.characters-else-cuts_at.ensures;
    }
