use Rattle.std.proofs.Common.{◌≡◌, ℕ, List, ◌++◌, ◌+◌, ◌≤◌, length, string_bytes, subst, sym, rules, arith}
use Rattle.std.specs.Prelude.{encode_utf8, codes}
use Rattle.icu_cldr_files.specs.xml.SpelledParts.{Begins}
use Rattle.icu_cldr_files.specs.xml.CharacterReferences.{WritesValue}
use Rattle.icu_cldr_files.proofs.xml.MarkCutLemmas.{shorter_around}
use Rattle.icu_cldr_files.proofs.xml.ReferenceLemmas.{one_reference, all_read}
use Rattle.icu_cldr_files.proofs.xml.references.value_of.Goals as goal

pub reading-preserved : goal.reading-preserved
reading-preserved c =
    let e : string_bytes c.push.new.self ≡ (string_bytes c.reading.value ++ c.in-Some.plain.now) ++ encode_utf8 c.in-Some-character_named.c = search rules in
    record {
      spelled = subst (λ v. Begins (λ part. WritesValue part v) c.args.text.now c.in-Some-cut_around.next.now) (sym e)
          (one_reference c.args.text.now c.reading.rest.now c.in-Some.plain.now c.in-Some.reference.now c.in-Some-cut_around.name.now c.in-Some-cut_around.next.now
          (string_bytes c.reading.value) c.in-Some-character_named.c c.reading.invariant.spelled c.in-Some.ensures c.in-Some-cut_around.ensures c.in-Some-character_named.ensures);
      within =
          let first : length c.in-Some.reference.now + 1 ≤ length c.reading.rest.now = shorter_around (codes "&") c.reading.rest.now c.in-Some.plain.now c.in-Some.reference.now c.in-Some.ensures in
          let second : length c.in-Some-cut_around.next.now + 1 ≤ length c.in-Some.reference.now = shorter_around (codes ";") c.in-Some.reference.now c.in-Some-cut_around.name.now c.in-Some-cut_around.next.now c.in-Some-cut_around.ensures in
          omega (arith, first, second, c.reading.invariant.within);
      utf8 = search rules;
    }

pub returns-clause-value : goal.returns-clause-value
returns-clause-value c =
    let e : string_bytes c.push_str-2.new.self ≡ string_bytes c.reading.value ++ c.reading.rest.now = search rules in
    subst (λ v. WritesValue c.args.text.now v) (sym e)
    (all_read c.args.text.now c.reading.rest.now (string_bytes c.reading.value) c.reading.invariant.spelled c.in_default.ensures)
