-- A relation is held where both strings keep their elements.
use Rattle.std.proofs.Common.{◌≡◌, ◌+◌, ◌<◌, ◌&&◌, Bool, true, List, length, ap, sym, subst, ◌∙◌, arith}
use Rattle.unicode_normalization.specs.Forms.{nfd}
use Rattle.icu_rule_parser.specs.declared.rules.PlacedStatement.{PlacedStatement}
use Rattle.icu_rule_meaning.specs.Steps.{TailoringState}
use Rattle.icu_rule_meaning.specs.TailoredMappings.{symbolic_elements}
use Rattle.icu_rule_meaning.specs.TailoredRoots.{Root}
use Rattle.icu_rule_steps.specs.SymbolicTailorings.{root_in}
use Rattle.icu_rule_steps.specs.held_relations.HeldRelations.{IsHeld, elements_of_first}
use Rattle.icu_rule_steps.specs.held_relations.inner.RelatedPairs.{related_pair}
use Rattle.icu_rule_steps.proofs.held_relations.HeldStringLemmas.{held_is}
use Rattle.icu_rule_steps.proofs.held_relations.RelatedLemmas.{relation_inside}
use Rattle.icu_rule_steps.proofs.held_relations.held_relations.relation_holds.Goals as goal
use Rattle.icu_rule_steps.proofs.held_relations.held_relations.relation_holds.Goals.{then-other, else-other}

pub keeps_elements-requires-clause-within : goal.keeps_elements-requires-clause-within
keeps_elements-requires-clause-within g c =
    let inside : c.args.index < length c.as_slice-statements.result.now =
    relation_inside c.as_slice-statements.result.now c.args.index (related_pair c.in-Some.pair) (sym c.in-Some.ensures) in
    omega (arith, inside)

pub overflow_add-index : goal.overflow_add-index
overflow_add-index g c =
    let inside : c.args.index < length c.as_slice-statements.result.now =
    relation_inside c.as_slice-statements.result.now c.args.index (related_pair c.in-Some.pair) (sym c.in-Some.ensures) in
    omega (arith, inside, c.as_slice-statements.type_inv.0)

pub keeps_elements-requires-in-Some-clause-within : goal.keeps_elements-requires-in-Some-clause-within
keeps_elements-requires-in-Some-clause-within g c =
    let inside : c.args.index < length c.as_slice-statements.result.now =
    relation_inside c.as_slice-statements.result.now c.args.index (related_pair c.in-Some.pair) (sym c.in-Some.ensures) in
    omega (arith, inside)

pub returns-in-Some-clause-held : goal.returns-in-Some-clause-held
returns-in-Some-clause-held g c =
    let root : Root = root_in g.R.RootWeights.root g.R.RootMappings.mappings_of c.args.root.now in
    let placed : List PlacedStatement = c.as_slice-statements.result.now in
    let a : Bool = c.in_ok-other-in-Some.other in
    let b : Bool = c.in_ok-string-in-Some.string in
    let same : c.if-other.result ≡ (a && b) =
    elim c.if-other.branch [
      | then-other w ↦ w.result-is ∙ sym (ap (λ x. x && b) w.if-other.true)
      | else-other w ↦ w.result-is ∙ w.if-other.false ∙ sym (ap (λ x. x && b) w.if-other.false)
    ] in
    let one = subst (λ (s : TailoringState). (a ≡ true → symbolic_elements s.mappings (nfd c.in-Some.pair.other.now) ≡ elements_of_first root placed c.args.index)
    × (symbolic_elements s.mappings (nfd c.in-Some.pair.other.now) ≡ elements_of_first root placed c.args.index → a ≡ true))
    c.in_ok-all.ensures.says c.in_ok-other-in-Some.ensures.ok in
    let two = subst (λ (s : TailoringState). (b ≡ true → symbolic_elements s.mappings (nfd c.in-Some.pair.string.now) ≡ elements_of_first root placed (c.args.index + 1))
    × (symbolic_elements s.mappings (nfd c.in-Some.pair.string.now) ≡ elements_of_first root placed (c.args.index + 1) → b ≡ true))
    c.in_ok-all.ensures.says c.in_ok-string-in-Some.ensures.ok in
    subst (λ (xs : List PlacedStatement). (c.if-other.result ≡ true → IsHeld root xs c.args.index) × (IsHeld root xs c.args.index → c.if-other.result ≡ true))
    c.as_slice-statements.ensures.value
    (subst (λ r. (r ≡ true → IsHeld root placed c.args.index) × (IsHeld root placed c.args.index → r ≡ true)) (sym same)
    (held_is root placed c.args.index (related_pair c.in-Some.pair) (sym c.in-Some.ensures) a b one two))
