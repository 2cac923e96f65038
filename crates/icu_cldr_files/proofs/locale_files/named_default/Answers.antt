use Rattle.std.proofs.Common.{◌≡◌, Some, None, rules}
use Rattle.icu_cldr_files.specs.LocaleFiles.{here, further, nowhere, default_at}
use Rattle.icu_cldr_files.specs.LocaleParents.{parent_of}
use Rattle.icu_cldr_files.proofs.ParentLemmas.{parent_is_nearer}
use Rattle.icu_cldr_files.proofs.locale_files.named_default.Goals as goal

pub returns-in-Some : goal.returns-in-Some
returns-in-Some c =
    let found : default_at c.args.files.now c.rising.at.now ≡ Some c.in-Some.default_type.now = search rules in
    c.rising.invariant.rises _ (here found)

pub returns-in_default-parent_of : goal.returns-in_default-parent_of
returns-in_default-parent_of c =
    let none : default_at c.args.files.now c.rising.at.now ≡ None = search rules in
    let root : parent_of c.rising.at.now ≡ None = search rules in
    c.rising.invariant.rises _ (nowhere none root)

pub rising-smaller : goal.rising-smaller
rising-smaller c =
    let parent : parent_of c.rising.at.now ≡ Some c.in-Some-parent_of.parent.now = search rules in
    parent_is_nearer c.rising.at.now c.in-Some-parent_of.parent.now parent

pub rising-preserved : goal.rising-preserved
rising-preserved c =
    let none : default_at c.args.files.now c.rising.at.now ≡ None = search rules in
    let parent : parent_of c.rising.at.now ≡ Some c.in-Some-parent_of.parent.now = search rules in
    record {
      rises = λ found finds. c.rising.invariant.rises found (further none parent finds);
      utf8 = search rules;
    }
