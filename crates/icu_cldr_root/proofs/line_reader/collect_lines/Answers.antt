use Rattle.std.proofs.Common.{◌∙◌, ◌<◌, ◌∷◌, ◌++◌, [], ℕ, List, Option, ap, refl, rules, sym, subst, string_bytes}
use Rattle.std.specs.Io.Iter.{lines_known_bytes}
use Rattle.std.proofs.lemmas.Result.{IfOk-at_ok}
use Rattle.icu_cldr_root.specs.FileLines.{LinesRead}
use Rattle.icu_cldr_root.specs.declared.line.Line.{Line}
use Rattle.icu_cldr_root.specs.inner.Taken.{IsTaken}
use Rattle.icu_cldr_root.proofs.FileLineLemmas.{none_read, more_read, all_read}
use Rattle.icu_cldr_root.proofs.FileRootLemmas.{cut_refused, empty_refused, other_refused}
use Rattle.icu_cldr_root.proofs.TakenLemmas.{counts_lines, counts_more, counts_none, lines_stay, takes_file}
use Rattle.icu_cldr_root.proofs.WeightedRangeLemmas.{none_said}
use Rattle.icu_cldr_root.proofs.line_reader.collect_lines.Goals as goal

pub loop-line-init : goal.loop-line-init
loop-line-init g c =
    let known = g.R.Read.remaining c.args.reader in
    let same = ap (lines_known_bytes g.R.Read.remaining) c.into_iter-line-iterator.ensures.into_iter_gives ∙ c.lines-line-items.ensures in
    record {
      nothing = c.in_ok-collected.ensures.nothing;
      unmapped = c.in_ok-collected.ensures.unmapped;
      taken = ([], [], refl, subst (λ (left : Option (List ℕ)). LinesRead known [] left) (sym same) (none_read known), (tt, tt, none_said c.args.first.now c.in_ok-collected.collected.ideographs c.in_ok-collected.ensures.none, c.in_ok-collected.ensures.specials, c.in_ok-collected.ensures.no_entry, c.in_ok-collected.ensures.facts));
    }

pub loop-line-preserved : goal.loop-line-preserved
loop-line-preserved g c =
    let lines : List (List ℕ) = c.loop-line.invariant.taken.0 in
    let said : List Line = c.loop-line.invariant.taken.1 in
    let line : List ℕ = string_bytes c.in-Ok.line in
    let old = lines_known_bytes g.R.Read.remaining c.loop-line.line-iterator in
    let new = lines_known_bytes g.R.Read.remaining c.next.new.self in
    let read = IfOk-at_ok _ c.in-Ok.is c.in-Some.ensures.steps.1 in
    let one = subst (λ (l : List ℕ). IsTaken c.args.first.now c.loop-line.collected c.read_line.new.self l) c.as_str.ensures.value c.in_default.ensures.taken in
    record {
      nothing = λ x. c.in_default.ensures.grows.entries.no_empty x (c.loop-line.invariant.nothing x);
      unmapped = c.in_default.ensures.unmapped c.loop-line.invariant.unmapped;
      taken = (
        lines ++ line ∷ [],
        said ++ one.0 ∷ [],
        counts_more lines line c.saturating_add-number.result (search rules),
        more_read (g.R.Read.remaining c.args.reader) old new lines line read.0 read.1 c.loop-line.invariant.taken.3,
        lines_stay c.args.first.now c.loop-line.collected c.read_line.new.self lines said line one.0 c.in_default.ensures.grows c.loop-line.invariant.taken.4 one.1 one.2 one.3 one.4 one.5 one.6,
      );
    }

pub returns-clause-taken : goal.returns-clause-taken
returns-clause-taken g c =
    let known = g.R.Read.remaining c.args.reader in
    let lines : List (List ℕ) = c.loop-line.invariant.taken.0 in
    let said : List Line = c.loop-line.invariant.taken.1 in
    takes_file c.args.first.now c.loop-line.collected known lines said
    (all_read known (lines_known_bytes g.R.Read.remaining c.loop-line.line-iterator) lines c.in-None.ensures.steps.1 c.loop-line.invariant.taken.3)
    c.loop-line.invariant.taken.4

pub returns-in-Err-clause-refused : goal.returns-in-Err-clause-refused
returns-in-Err-clause-refused g c = other_refused (g.R.Read.remaining c.args.reader) c.failed.result c.failed.ensures

pub returns-in-Err-read_line-clause-refused : goal.returns-in-Err-read_line-clause-refused
returns-in-Err-read_line-clause-refused g c = other_refused (g.R.Read.remaining c.args.reader) c.at.result c.at.ensures

pub returns-then-number-eq0-clause-refused : goal.returns-then-number-eq0-clause-refused
returns-then-number-eq0-clause-refused g c =
    let known = g.R.Read.remaining c.args.reader in
    let lines : List (List ℕ) = c.loop-line.invariant.taken.0 in
    empty_refused known lines
    (all_read known (lines_known_bytes g.R.Read.remaining c.loop-line.line-iterator) lines c.in-None.ensures.steps.1 c.loop-line.invariant.taken.3)
    (counts_none lines c.loop-line.number c.loop-line.invariant.taken.2 (search rules))

pub returns-then-not-has_end-clause-refused : goal.returns-then-not-has_end-clause-refused
returns-then-not-has_end-clause-refused g c =
    let known = g.R.Read.remaining c.args.reader in
    let lines : List (List ℕ) = c.loop-line.invariant.taken.0 in
    let said : List Line = c.loop-line.invariant.taken.1 in
    let some : 0 < c.loop-line.number = search rules in
    cut_refused c.args.first.now c.loop-line.collected known lines said
    (all_read known (lines_known_bytes g.R.Read.remaining c.loop-line.line-iterator) lines c.in-None.ensures.steps.1 c.loop-line.invariant.taken.3)
    (counts_lines lines c.loop-line.number c.loop-line.invariant.taken.2 some) c.loop-line.invariant.taken.4 (search rules)
