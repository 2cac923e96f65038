-- Texts that `=` relates have elements with the same weights, so no level tells them apart.
use Rattle.std.proofs.Common.{◌≡◌, ◌<◌, ◌≤◌, ◌+◌, ◌*◌, ◌/◌, ◌%◌, ◌^◌, ◌==◌, ℕ, Bool, true, false, cond, min, List, [], ◌∷◌, ◌++◌, map, if◌then◌else◌, refl, ap, ap₂, sym, ◌∙◌, arith}
use Rattle.std.specs.Prelude.{bit_and}
use Rattle.std.proofs.lemmas.List.{append-nil, append_assoc}
use Rattle.std.proofs.lemmas.Nat.{and_le_r, and_mod}
use Rattle.std.proofs.Math.Nat.{min-le_left, min-le_right, mod-eq_of_lt}
use Rattle.std.proofs.lemmas.Bool.Decides.{nat_tests}
use Rattle.icu_options.specs.declared.settings.Strength.TheVariants.{Primary, Secondary, Tertiary, Quaternary, Identical}
use Rattle.icu_table_entries.specs.Elements.{Element, tertiary_mask, quaternary_mask}
use Rattle.icu_order_texts.specs.weighting.Collations.{Collation}
use Rattle.icu_rule_parser.specs.declared.rules.PlacedStatement.{PlacedStatement}
use Rattle.icu_rule_root.specs.declared.checked_root.CheckedRoot.{CheckedRoot}
use Rattle.icu_rule_root.specs.StoredRoots.{stored_root}
use Rattle.icu_rule_meaning.specs.Rules.{Rule, relation, reset, setting, suppression, level_of}
use Rattle.icu_rule_meaning.specs.RelationLaws.{elements_at}
use Rattle.icu_rule_meaning.specs.Steps.{TailoringState, first_state, tailoring_of}
use Rattle.icu_rule_meaning.specs.SymbolicOrders.{Numbering, weights_in}
use Rattle.icu_rule_meaning.specs.TailoredRoots.{Root}
use Rattle.icu_rule_meaning.specs.WeightTrees.{weight_at_level}
use Rattle.icu_rule_meaning.specs.declared.symbolic.SymbolicWeight.{SymbolicWeight}
use Rattle.icu_rule_meaning.specs.declared.symbolic.SymbolicElement.{SymbolicElement}
use Rattle.icu_rule_meaning.proofs.ExtensionLemmas.{weights_append}
use Rattle.icu_rule_meaning.proofs.RelationLemmas.{state_after-append}
use Rattle.icu_rule_weights.specs.declared.tailoring_numbers.tailoring_numbers.TailoringNumbers.{TailoringNumbers}
use Rattle.icu_rule_weights.specs.tailoring_numbers.NumberedElements.{numbered_element}
use Rattle.icu_rule_weights.specs.tailoring_numbers.Numberings.{number_of}
use Rattle.icu_rule_steps.specs.held_relations.HeldRelations.{elements_by_all}
use Rattle.icu_rule_laws.specs.RuleTexts.{TextsAreReadByRules}
use Rattle.icu_rule_laws.specs.mapped_texts.MappedTexts.{is_weighted, weighted}
use Rattle.icu_rule_laws.specs.apart_elements.ApartElements.{elements_by}
use Rattle.icu_rule_laws.specs.apart_elements.UpperWeights.{compared_weights, has_nonzero, upper_lists, upper_weights}
use Rattle.icu_rule_laws.specs.related_texts.PlainOrders.{ReadsPlainly, plain_elements}
use Rattle.icu_rule_laws.specs.related_texts.RelationOrders.{IdentitiesOrder, StandInChain, chain_level}
use Rattle.icu_rule_laws.proofs.apart_elements.ApartTextLemmas.{alike_texts}
use Rattle.icu_rule_laws.proofs.apart_elements.UpperLemmas.{upper_of_same}
use Rattle.icu_rule_laws.proofs.related_texts.PlainOrderLemmas.{has_plain_elements}
use Rattle.icu_rule_laws.proofs.related_texts.RelationOrderLemmas.{read_by}
use Rattle.icu_rule_laws.proofs.related_texts.RuleListLemmas.{relation_weights}

-- ---- case bits change nothing that levels compare

same_low_bits : (a b m : ℕ) → a % 2 ^ 14 ≡ b % 2 ^ 14 → m < 2 ^ 14 → bit_and a m ≡ bit_and b m
same_low_bits a b m same small =
    let la = and_le_r a m in
    let lb = and_le_r b m in
    sym (mod-eq_of_lt (omega (arith, la, small))) ∙ and_mod a m 14 ∙ ap (λ x. bit_and x (m % 2 ^ 14)) same ∙ sym (and_mod b m 14)
    ∙ mod-eq_of_lt (omega (arith, lb, small))

-- a lower half without its case bits
abbrev low_half : TailoringNumbers → List SymbolicWeight → ℕ
low_half t ws = number_of t (weight_at_level 3 ws) + number_of t (weight_at_level 4 ws) * 0x40

half_bits : (a c m : ℕ) → m < 2 ^ 14 → bit_and (a + c * 0x4000) m ≡ bit_and a m
half_bits a c m small = same_low_bits (a + c * 0x4000) a m (omega arith) small

-- what levels compare, by symbolic weights
abbrev compared_by : TailoringNumbers → List SymbolicWeight → List ℕ
compared_by t ws =
    number_of t (weight_at_level 1 ws) ∷ number_of t (weight_at_level 2 ws) ∷ bit_and (low_half t ws) tertiary_mask
    ∷ (if bit_and (low_half t ws) tertiary_mask == 0 then 0 else 2 ^ 32 + bit_and (low_half t ws) quaternary_mask / 64) ∷ []

compared_of : (t : TailoringNumbers) (e : SymbolicElement) → compared_weights (numbered_element t e) ≡ compared_by t e.weights
compared_of t e =
    ap₂ (λ third fourth. number_of t (weight_at_level 1 e.weights) ∷ number_of t (weight_at_level 2 e.weights) ∷ third
    ∷ (if third == 0 then 0 else 2 ^ 32 + fourth / 64) ∷ [])
    (half_bits (low_half t e.weights) e.case_bits tertiary_mask (omega arith)) (half_bits (low_half t e.weights) e.case_bits quaternary_mask (omega arith))

compared_all : (t : TailoringNumbers) (es : List SymbolicElement)
    → map compared_weights (map (numbered_element t) es) ≡ map (compared_by t) (weights_in es)
compared_all t [] = refl
compared_all t (e ∷ es) = ap₂ (λ ws wss. ws ∷ wss) (compared_of t e) (compared_all t es)

pub same_compared : (t : TailoringNumbers) (es fs : List SymbolicElement) → weights_in es ≡ weights_in fs
    → map compared_weights (map (numbered_element t) es) ≡ map compared_weights (map (numbered_element t) fs)
same_compared t es fs e = compared_all t es ∙ ap (map (compared_by t)) e ∙ sym (compared_all t fs)

-- ---- elements without weights

none_compared : (x : Element) → is_weighted x ≡ false → has_nonzero (upper_weights 5 x) ≡ false
none_compared x h =
    let none : (x.primary ≡ 0) × (x.secondary ≡ 0) × (x.lower ≡ 0) = grind (arith, nat_tests) in
    ap (λ p. let y : Element = record { primary = p; secondary = x.secondary; lower = x.lower } in has_nonzero (upper_weights 5 y)) none.0
    ∙ ap (λ s. let y : Element = record { primary = 0; secondary = s; lower = x.lower } in has_nonzero (upper_weights 5 y)) none.1
    ∙ ap (λ l. let y : Element = record { primary = 0; secondary = 0; lower = l } in has_nonzero (upper_weights 5 y)) none.2

one_weighted : (x : Element) (xs : List Element) (b : Bool) → is_weighted x ≡ b → upper_lists 5 (weighted xs) ≡ upper_lists 5 xs
    → upper_lists 5 (if b then x ∷ weighted xs else weighted xs) ≡ upper_lists 5 (x ∷ xs)
one_weighted x xs true is more = ap (λ wss. cond (has_nonzero (upper_weights 5 x)) (upper_weights 5 x ∷ wss) wss) more
one_weighted x xs false is more =
    more ∙ ap (λ b. cond b (upper_weights 5 x ∷ upper_lists 5 xs) (upper_lists 5 xs)) (sym (none_compared x is))

upper_weighted : (xs : List Element) → upper_lists 5 (weighted xs) ≡ upper_lists 5 xs
upper_weighted [] = refl
upper_weighted (x ∷ xs) = one_weighted x xs (is_weighted x) refl (upper_weighted xs)

-- ---- `=` changes case bits alone

identity_weights : (root : Root) (earlier : List Rule) (prefix string extension : List ℕ)
    → weights_in (elements_at root (earlier ++ relation Identical prefix string extension ∷ [])) ≡ weights_in (elements_at root earlier)
identity_weights root earlier prefix string extension =
    ap (λ (s : TailoringState). weights_in s.elements) (state_after-append root (first_state root) earlier (relation Identical prefix string extension ∷ []))
    ∙ relation_weights root Identical prefix string extension (tailoring_of root earlier)

-- ---- chains of `=`

five : (a b : ℕ) → min a b ≡ 5 → (5 ≤ a) × (5 ≤ b)
five a b e = let left = min-le_left a b in let right = min-le_right a b in (omega (arith, e, left), omega (arith, e, right))

at_most_five : (chain : List Rule) → chain_level chain ≤ 5
at_most_five [] = omega arith
at_most_five (relation strength prefix string extension ∷ chain) =
    let right = min-le_right (level_of strength) (chain_level chain) in let more = at_most_five chain in omega (arith, right, more)
at_most_five (reset before place ∷ chain) = omega arith
at_most_five (suppression ranges ∷ chain) = omega arith
at_most_five (setting said ∷ chain) = omega arith

chain_weights : (root : Root) (chain earlier : List Rule) → chain_level chain ≡ 5
    → weights_in (elements_at root (earlier ++ chain)) ≡ weights_in (elements_at root earlier)
chain_weights root [] earlier e = ap (λ (rs : List Rule). weights_in (elements_at root rs)) (append-nil earlier)
chain_weights root (relation Identical prefix string extension ∷ chain) earlier e =
    let rule : Rule = relation Identical prefix string extension in
    let more = (five 5 (chain_level chain) e).1 in
    let few = at_most_five chain in
    sym (ap (λ (rs : List Rule). weights_in (elements_at root rs)) (append_assoc earlier (rule ∷ []) chain))
    ∙ chain_weights root chain (earlier ++ rule ∷ []) (omega (arith, more, few))
    ∙ identity_weights root earlier prefix string extension
chain_weights root (relation Primary prefix string extension ∷ chain) earlier e = absurd (let low = (five 1 (chain_level chain) e).0 in omega (arith, low))
chain_weights root (relation Secondary prefix string extension ∷ chain) earlier e = absurd (let low = (five 2 (chain_level chain) e).0 in omega (arith, low))
chain_weights root (relation Tertiary prefix string extension ∷ chain) earlier e = absurd (let low = (five 3 (chain_level chain) e).0 in omega (arith, low))
chain_weights root (relation Quaternary prefix string extension ∷ chain) earlier e = absurd (let low = (five 4 (chain_level chain) e).0 in omega (arith, low))
chain_weights root (reset before place ∷ chain) earlier e = absurd (omega arith)
chain_weights root (suppression ranges ∷ chain) earlier e = absurd (omega arith)
chain_weights root (setting said ∷ chain) earlier e = absurd (omega arith)

between : (front before after behind : List SymbolicElement) → weights_in after ≡ weights_in before
    → weights_in (front ++ (before ++ behind)) ≡ weights_in (front ++ (after ++ behind))
between front before after behind e =
    weights_append front (before ++ behind)
    ∙ ap (λ wss. weights_in front ++ wss)
    (weights_append before behind ∙ ap (λ wss. wss ++ weights_in behind) (sym e) ∙ sym (weights_append after behind))
    ∙ sym (weights_append front (after ++ behind))

same_weights : (root : Root) (placed : List PlacedStatement) (numbering : Numbering) (chain : List Rule) (left right : List ℕ)
    → StandInChain root placed numbering chain left right → chain_level chain ≡ 5
    → weights_in (elements_by_all root placed left) ≡ weights_in (elements_by_all root placed right)
same_weights root placed numbering chain left right at e =
    ap weights_in at.of_left
    ∙ between at.front (elements_at root at.earlier) (elements_at root (at.earlier ++ chain)) at.behind (chain_weights root chain at.earlier e)
    ∙ sym (ap weights_in at.of_right)

-- ---- texts

pub upper_by : (t : TailoringNumbers) (c : Collation) → ReadsPlainly c → (text : List ℕ) (es : List SymbolicElement)
    → weighted (plain_elements c text) ≡ weighted (map (numbered_element t) es)
    → upper_lists 5 (elements_by c text) ≡ upper_lists 5 (map (numbered_element t) es)
upper_by t c plain text es e =
    ap (upper_lists 5) (has_plain_elements c plain text) ∙ sym (upper_weighted (plain_elements c text)) ∙ ap (upper_lists 5) e
    ∙ upper_weighted (map (numbered_element t) es)

pub identities_are_ordered : (root : CheckedRoot) → TextsAreReadByRules root → IdentitiesOrder root
identities_are_ordered root reads placed t says ok c tables left right first second chain at five plain case =
    let es = elements_by_all (stored_root root) placed left in
    let fs = elements_by_all (stored_root root) placed right in
    alike_texts c left right case
    (upper_by says.numbers c plain left es (read_by root reads placed t says ok c tables left first)
    ∙ upper_of_same 5 (map (numbered_element says.numbers) es) (map (numbered_element says.numbers) fs)
    (same_compared says.numbers es fs (same_weights (stored_root root) placed _ chain left right at five))
    ∙ sym (upper_by says.numbers c plain right fs (read_by root reads placed t says ok c tables right second)))
