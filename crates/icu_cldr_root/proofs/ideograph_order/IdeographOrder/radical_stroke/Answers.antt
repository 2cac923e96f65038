use Rattle.std.proofs.Common.{◌≡◌, ◌∙◌, ◌∷◌, ◌++◌, [], ℕ, List, Option, false, true, ap, rules, sym, subst, string_bytes}
use Rattle.std.specs.Io.Iter.{lines_known_bytes}
use Rattle.std.proofs.lemmas.Result.{IfOk-at_ok}
use Rattle.icu_cldr_root.specs.FileLines.{LinesRead}
use Rattle.icu_cldr_root.specs.RadicalOrder.{RadicalLineSays, is_radical_end}
use Rattle.icu_cldr_root.specs.declared.ideographs.CharRange.{CharRange}
use Rattle.icu_cldr_root.specs.declared.radical_line.RadicalLine.{RadicalLine}
use Rattle.icu_cldr_root.proofs.FileLineLemmas.{none_read, more_read}
use Rattle.icu_cldr_root.proofs.RadicalOrderLemmas.{SayRadicals, radicals_end, radicals_more, radicals_none}
use Rattle.icu_cldr_root.proofs.ideograph_order.IdeographOrder.radical_stroke.Goals as goal

pub loop-line-init : goal.loop-line-init
loop-line-init g c =
    let known = g.R.Read.remaining c.args.reader in
    let same = ap (lines_known_bytes g.R.Read.remaining) c.into_iter-line-iterator.ensures.into_iter_gives ∙ c.lines-line-items.ensures in (
      [],
      [],
      subst (λ (left : Option (List ℕ)). LinesRead known [] left) (sym same) (none_read known),
      subst (λ (rs : List CharRange). SayRadicals rs [] []) (sym c.new-first.ensures.items) radicals_none,
    )

pub loop-line-preserved : goal.loop-line-preserved
loop-line-preserved g c =
    let lines : List (List ℕ) = c.loop-line.invariant.0 in
    let said : List RadicalLine = c.loop-line.invariant.1 in
    let line : List ℕ = string_bytes c.in-Ok.line in
    let old = lines_known_bytes g.R.Read.remaining c.loop-line.line-iterator in
    let new = lines_known_bytes g.R.Read.remaining c.next.new.self in
    let read = IfOk-at_ok _ c.in-Ok.is c.in-Some.ensures.steps.1 in
    let one = c.in-Ok-false.ensures in
    let other : is_radical_end one.0 ≡ false = search rules in (
      lines ++ line ∷ [],
      said ++ one.0 ∷ [],
      more_read (g.R.Read.remaining c.args.reader) old new lines line read.0 read.1 c.loop-line.invariant.2,
      radicals_more c.loop-line.first.items c.take_line.new.ranges.items lines said line one.0 c.loop-line.invariant.3
          (subst (λ (l : List ℕ). RadicalLineSays l one.0) c.as_str.ensures.value one.1) other one.3,
    )

pub returns-in-Ok-true-clause-says : goal.returns-in-Ok-true-clause-says
returns-in-Ok-true-clause-says g c =
    let lines : List (List ℕ) = c.loop-line.invariant.0 in
    let said : List RadicalLine = c.loop-line.invariant.1 in
    let line : List ℕ = string_bytes c.in-Ok.line in
    let old = lines_known_bytes g.R.Read.remaining c.loop-line.line-iterator in
    let new = lines_known_bytes g.R.Read.remaining c.next.new.self in
    let read = IfOk-at_ok _ c.in-Ok.is c.in-Some.ensures.steps.1 in
    let one = c.in-Ok-true.ensures in
    let end : is_radical_end one.0 ≡ true = search rules in
    radicals_end (g.R.Read.remaining c.args.reader) new c.loop-line.first.items _ lines said line one.0
    (more_read (g.R.Read.remaining c.args.reader) old new lines line read.0 read.1 c.loop-line.invariant.2) c.loop-line.invariant.3
    (subst (λ (l : List ℕ). RadicalLineSays l one.0) c.as_str.ensures.value one.1) end one.3
