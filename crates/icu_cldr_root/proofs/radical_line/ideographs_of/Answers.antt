use Rattle.std.proofs.Common.{◌≡◌, ◌<◌, ◌≤◌, ◌∙◌, ◌∷◌, ◌++◌, ◌+◌, ℕ, List, sym, ap, subst, drop, length, rules}
use Rattle.std.proofs.lemmas.List.{at_drop_more, at_drop_all}
use Rattle.icu_cldr_root.specs.RadicalLines.{WriteIdeographs}
use Rattle.icu_cldr_root.specs.inner.RadicalParts.{begun_chars}
use Rattle.icu_cldr_root.specs.declared.ideographs.CharRange.{CharRange}
use Rattle.icu_cldr_root.proofs.RadicalLineLemmas.{reads_end, reads_more}
use Rattle.icu_cldr_root.proofs.radical_line.ideographs_of.Goals as goal

pub loop-character-init : goal.loop-character-init
loop-character-init c = λ more h. subst (λ (rs : List CharRange). WriteIdeographs c.args.characters.now (rs ++ more)) (sym c.new-ranges.ensures.items) h

pub loop-character-preserved : goal.loop-character-preserved
loop-character-preserved c =
    let cs : List ℕ = c.args.characters.now in
    let i = c.loop-character.character-index in
    let some : i < length cs = search rules in
    let first : drop i cs ≡ c.character-item.result ∷ drop (i + 1) cs =
    at_drop_more (λ rs. rs) cs i _ some ∙ ap (λ (x : ℕ). x ∷ drop (i + 1) cs) (sym c.character-item.is) in
    reads_more cs (begun_chars c.loop-character.begun) c.loop-character.ranges.items c.read_character.new.ranges.items (begun_chars c.in_ok-next.next)
    (drop (i + 1) cs) c.character-item.result (drop i cs) first c.in_ok-next.ensures c.loop-character.invariant

pub returns : goal.returns
returns c =
    let cs : List ℕ = c.args.characters.now in
    let i = c.loop-character.character-index in
    let over : length cs ≤ i = search rules in
    reads_end cs (begun_chars c.loop-character.begun) c.loop-character.ranges.items c.end_range.new.ranges.items (drop i cs)
    (at_drop_all (λ rs. rs) cs i over) c.in_ok-end_range.ensures c.loop-character.invariant
