use Rattle.std.proofs.Common.{◌≡◌, ◌&&◌, ◌∙◌, ℕ, List, true, false, sym, ap}
use Rattle.std.proofs.Math.Bool.{and-false}
use Rattle.std.specs.Prelude.{slice_range}
use Rattle.icu_search.specs.SearchedTexts.{searched_in, text_searched}
use Rattle.icu_search.specs.inner.PartLevels.{PartFits}
use Rattle.icu_search_places.specs.declared.level_walks.LevelFit.{LevelFit}
use Rattle.icu_search_places.specs.declared.level_walks.LevelFit.TheVariants.{Unlike, Fewer}
use Rattle.icu_search.proofs.searched_text.SearchedText.outcome.Goals as goal

pub returns-in-Unlike : goal.returns-in-Unlike
returns-in-Unlike c =
    let s = searched_in c.args.self.now in
    let part = slice_range (text_searched c.args.self.now) c.args.start c.args.stop in (
      c.if-not-here.false,
      λ its.
          let told : PartFits s part Unlike = rw c.in-Unlike.is at (c.fit.ensures s part its.gone) in
          (told.0, ap (λ b. s.allowed c.args.stop && b) told.1 ∙ and-false (s.allowed c.args.stop)),
    )

pub returns-in-Fewer : goal.returns-in-Fewer
returns-in-Fewer c = λ its.
    let s = searched_in c.args.self.now in
    let part = slice_range (text_searched c.args.self.now) c.args.start c.args.stop in
    let told : PartFits s part Fewer = rw c.in-Fewer.is at (c.fit.ensures s part its.gone) in
    ap (λ b. s.allowed c.args.stop && b) told ∙ and-false (s.allowed c.args.stop)
