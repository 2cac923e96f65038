-- Texts that stand at a relation order as it says, by a collation of the tables of its rules.
use Rattle.std.proofs.Common.{◌≡◌, ◌≢◌, ◌≤◌, ◌<◌, ◌+◌, ℕ, zero, suc, min, inl, inr, List, [], ◌∷◌, ◌++◌, map, refl, ap, ap₂, sym, subst, subst₂, ◌∙◌, arith, Less, Equal}
use Rattle.std.specs.List.{AllByRecursion}
use Rattle.std.proofs.lemmas.Bool.{cases_order}
use Rattle.std.proofs.lemmas.Cmp.{nat_list_cmp_total}
use Rattle.std.proofs.Math.Nat.{min-le_left, min-le_right}
use Rattle.std.proofs.lemmas.Bool.Decides.{nat_tests}
use Rattle.std.proofs.lemmas.List.{append-nil, append_assoc}
use Rattle.unicode_normalization.specs.Forms.{nfd}
use Rattle.icu_options.specs.declared.settings.Strength.{Strength}
use Rattle.icu_options.specs.declared.settings.Strength.TheVariants.{Primary, Secondary, Tertiary, Quaternary, Identical}
use Rattle.icu_order_levels.specs.ListOrder.{list_order}
use Rattle.icu_order_levels.proofs.Order.{same_front}
use Rattle.icu_table_entries.specs.Elements.{Element}
use Rattle.icu_table_provider.specs.CollatorTables.{CollatorTables}
use Rattle.icu_element_reading.specs.TextElements.{non_numeric_reading, elements_of}
use Rattle.icu_order_texts.specs.weighting.Collations.{Collation}
use Rattle.icu_order_texts.specs.TextOrder.{text_order}
use Rattle.icu_order_texts.specs.text_laws.OrderLaws.{strength_rank}
use Rattle.icu_rule_parser.specs.declared.rules.PlacedStatement.{PlacedStatement}
use Rattle.icu_rule_root.specs.declared.checked_root.CheckedRoot.{CheckedRoot}
use Rattle.icu_rule_root.specs.StoredRoots.{stored_root}
use Rattle.icu_rule_meaning.specs.Rules.{Rule, relation, reset, setting, suppression, level_of, rules_of}
use Rattle.icu_rule_meaning.specs.RelationLaws.{AreRelated, ExtendedRelationsHold, RelationsHold, elements_at}
use Rattle.icu_rule_meaning.specs.Steps.{tailoring_of}
use Rattle.icu_rule_meaning.specs.SymbolicOrders.{AreLessAt, Numbering, NumbersTree, level_numbers}
use Rattle.icu_rule_meaning.specs.TailoredRoots.{Root}
use Rattle.icu_rule_meaning.proofs.ExtensionLemmas.{level_append}
use Rattle.icu_rule_meaning.specs.declared.symbolic.SymbolicElement.{SymbolicElement}
use Rattle.icu_rule_weights.specs.declared.tailoring_numbers.tailoring_numbers.TailoringNumbers.{TailoringNumbers}
use Rattle.icu_rule_weights.specs.tailoring_numbers.NumberedElements.{FitsAll, NumberedElementsKeepOrder, element_numbers, numbered_element}
use Rattle.icu_rule_weights.specs.tailoring_numbers.Numberings.{numbering_of}
use Rattle.icu_rule_steps.specs.held_relations.HeldRelations.{elements_by_all}
use Rattle.icu_rule_tables.specs.Tailorings.{SaysRules, tailored_tables}
use Rattle.icu_rule_tables.specs.declared.tailoring.Tailoring.{Tailoring}
use Rattle.icu_rule_laws.specs.RelatedTexts.{AreLessElements}
use Rattle.icu_rule_laws.specs.RuleTexts.{AreRuledTables, TextsAreReadByRules}
use Rattle.icu_rule_laws.specs.mapped_texts.MappedTexts.{weighted}
use Rattle.icu_rule_laws.specs.tailored_texts.TailoredTexts.{IsScalarCode}
use Rattle.icu_rule_laws.specs.apart_elements.ApartElements.{said_at}
use Rattle.icu_rule_laws.specs.related_texts.PlainOrders.{HasNoVariable, HasPlainSettings, plain_elements}
use Rattle.icu_rule_laws.specs.related_texts.RelationOrders.{DifferFromWeights, DiffersFromWeight, RelationsOrder, StandInChain, chain_level}
use Rattle.icu_rule_laws.proofs.FittingTextLemmas.{text_fits_all}
use Rattle.icu_rule_laws.proofs.RelatedTextLemmas.{numbers_weighted}
use Rattle.icu_rule_laws.proofs.related_texts.PlainOrderLemmas.{related_order, same_tie}

-- ---- lists of elements that are the same before a level, and less at it if it is one of the four

record AreLessFrom (numbering : Numbering) (n : ℕ) (es fs : List SymbolicElement) : Type 0 where
  same : (level : ℕ) → 1 ≤ level → level < n → level_numbers numbering level es ≡ level_numbers numbering level fs
  less : n ≤ 4 → list_order (level_numbers numbering n es) (level_numbers numbering n fs) ≡ Less

less_from : (numbering : Numbering) (n : ℕ) (es fs : List SymbolicElement) → AreLessAt numbering n es fs → AreLessFrom numbering n es fs
less_from numbering n es fs l = record { same = l.same; less = λ _. l.less }

related_from : (numbering : Numbering) (strength : Strength) (es fs : List SymbolicElement) → AreRelated numbering strength es fs
    → AreLessFrom numbering (level_of strength) es fs
related_from numbering Primary es fs r = less_from numbering 1 es fs r
related_from numbering Secondary es fs r = less_from numbering 2 es fs r
related_from numbering Tertiary es fs r = less_from numbering 3 es fs r
related_from numbering Quaternary es fs r = less_from numbering 4 es fs r
related_from numbering Identical es fs r = record { same = λ level from under. r level; less = λ low. absurd (omega arith) }

least_left : (n m : ℕ) → n ≤ m → min n m ≡ n
least_left n m h = grind arith

least_right : (n m : ℕ) → m ≤ n → min n m ≡ m
least_right n m h = grind arith

-- one after another they are so at the lesser level
module _ (numbering : Numbering) (n m : ℕ) (es fs gs : List SymbolicElement) (l : AreLessFrom numbering n es fs) (r : AreLessFrom numbering m fs gs) where
  abbrev ordered : ℕ → Type 0
  ordered k = list_order (level_numbers numbering k es) (level_numbers numbering k gs) ≡ Less

  left_first : 1 ≤ n → n < m → n ≤ 4 → ordered n
  left_first a b d = sym (ap (list_order (level_numbers numbering n es)) (r.same n a b)) ∙ l.less d

  right_first : 1 ≤ m → m < n → m ≤ 4 → ordered m
  right_first a b d = ap (λ ws. list_order ws (level_numbers numbering m gs)) (l.same m a b) ∙ r.less d

  both : n ≡ m → n ≤ 4 → ordered n
  both e d =
      nat_list_cmp_total.trans (level_numbers numbering n es) (level_numbers numbering n fs) (level_numbers numbering n gs) (l.less d)
      (subst (λ k. list_order (level_numbers numbering k fs) (level_numbers numbering k gs) ≡ Less) (sym e) (r.less (omega (arith, e, d))))

  one_after_another : 1 ≤ n → 1 ≤ m → AreLessFrom numbering (min n m) es gs
  one_after_another a b = elim (cases_order n m) [
    | inl e ↦ subst (λ k. AreLessFrom numbering k es gs) (sym (least_left n m (omega (arith, e)))) (record {
      same = λ level from under. l.same level from under ∙ r.same level from (omega (arith, e, under));
      less = both e;
    })
    | inr (inl h) ↦ subst (λ k. AreLessFrom numbering k es gs) (sym (least_left n m (omega (arith, h)))) (record {
      same = λ level from under. l.same level from under ∙ r.same level from (omega (arith, h, under));
      less = left_first a h;
    })
    | inr (inr h) ↦ subst (λ k. AreLessFrom numbering k es gs) (sym (least_right n m (omega (arith, h)))) (record {
      same = λ level from under. l.same level from (omega (arith, h, under)) ∙ r.same level from under;
      less = right_first b h;
    })
  ]

-- ---- the same elements before or after both

with_front : (numbering : Numbering) (n : ℕ) (gs es fs : List SymbolicElement) → AreLessFrom numbering n es fs
    → AreLessFrom numbering n (gs ++ es) (gs ++ fs)
with_front numbering n gs es fs l = record {
  same = λ level a b.
      level_append numbering level gs es ∙ ap (λ ws. level_numbers numbering level gs ++ ws) (l.same level a b)
      ∙ sym (level_append numbering level gs fs);
  less = λ d.
      ap₂ list_order (level_append numbering n gs es) (level_append numbering n gs fs)
      ∙ same_front (level_numbers numbering n gs) (level_numbers numbering n es) (level_numbers numbering n fs) ∙ l.less d;
}

-- of a difference of no level
same_with_behind : (numbering : Numbering) (es fs gs : List SymbolicElement)
    → ((level : ℕ) → level_numbers numbering level es ≡ level_numbers numbering level fs)
    → (level : ℕ) → level_numbers numbering level (es ++ gs) ≡ level_numbers numbering level (fs ++ gs)
same_with_behind numbering es fs gs same level =
    level_append numbering level es gs ∙ ap (λ ws. ws ++ level_numbers numbering level gs) (same level)
    ∙ sym (level_append numbering level fs gs)

-- ---- chains

not_empty : {A : Type 0} (x : A) (xs : List A) → x ∷ xs ≢ []
not_empty x xs e = cc

least_within : (a b : ℕ) → 1 ≤ min a b → (1 ≤ a) × (1 ≤ b)
least_within a b h = let left = min-le_left a b in let right = min-le_right a b in (omega (arith, h, left), omega (arith, h, right))

pub level_is_one : (strength : Strength) → 1 ≤ level_of strength
level_is_one Primary = omega arith
level_is_one Secondary = omega arith
level_is_one Tertiary = omega arith
level_is_one Quaternary = omega arith
level_is_one Identical = omega arith

module _ (holds : RelationsHold) (extended : ExtendedRelationsHold) (root : Root) (numbering : Numbering) where
  abbrev AreNumbered : List Rule → Type 0
  AreNumbered rules = NumbersTree (tailoring_of root rules).tree numbering

  -- with something after both
  further : (earlier later : List Rule) (strength : Strength) (prefix string extension : List ℕ) (b : SymbolicElement) (bs : List SymbolicElement)
      → AreNumbered (earlier ++ relation strength prefix string extension ∷ later) → DiffersFromWeight root numbering earlier strength
      → AreRelated numbering strength (elements_at root earlier ++ b ∷ bs)
      (elements_at root (earlier ++ relation strength prefix string extension ∷ []) ++ b ∷ bs)
  further earlier later Primary prefix string extension b bs numbers counts =
      extended root earlier later Primary prefix string extension (b ∷ bs) numbering numbers counts
  further earlier later Secondary prefix string extension b bs numbers counts =
      extended root earlier later Secondary prefix string extension (b ∷ bs) numbering numbers counts
  further earlier later Tertiary prefix string extension b bs numbers counts =
      extended root earlier later Tertiary prefix string extension (b ∷ bs) numbering numbers counts
  further earlier later Quaternary prefix string extension b bs numbers counts =
      extended root earlier later Quaternary prefix string extension (b ∷ bs) numbering numbers counts
  further earlier later Identical prefix string extension b bs numbers counts =
      same_with_behind numbering (elements_at root earlier) (elements_at root (earlier ++ relation Identical prefix string extension ∷ [])) (b ∷ bs)
      (holds root earlier later Identical prefix string extension numbering numbers)

  one_relation : (earlier later : List Rule) (strength : Strength) (prefix string extension : List ℕ) (behind : List SymbolicElement)
      → AreNumbered (earlier ++ relation strength prefix string extension ∷ later)
      → (behind ≢ [] → DiffersFromWeight root numbering earlier strength)
      → AreLessFrom numbering (level_of strength) (elements_at root earlier ++ behind)
      (elements_at root (earlier ++ relation strength prefix string extension ∷ []) ++ behind)
  one_relation earlier later strength prefix string extension [] numbers counts =
      let before = elements_at root earlier in
      let after = elements_at root (earlier ++ relation strength prefix string extension ∷ []) in
      related_from numbering strength (before ++ []) (after ++ [])
      (subst₂ (λ es fs. AreRelated numbering strength es fs) (sym (append-nil before)) (sym (append-nil after))
      (holds root earlier later strength prefix string extension numbering numbers))
  one_relation earlier later strength prefix string extension (b ∷ bs) numbers counts =
      related_from numbering strength (elements_at root earlier ++ b ∷ bs) _
      (further earlier later strength prefix string extension b bs numbers (counts (not_empty b bs)))

  abbrev InChain : List SymbolicElement → List Rule → List Rule → Type 0
  InChain behind earlier chain =
      AreLessFrom numbering (chain_level chain) (elements_at root earlier ++ behind) (elements_at root (earlier ++ chain) ++ behind)

  in_chain : (behind : List SymbolicElement) (chain earlier later : List Rule) → 1 ≤ chain_level chain
      → AreNumbered (earlier ++ (chain ++ later)) → (behind ≢ [] → DifferFromWeights root numbering earlier chain)
      → InChain behind earlier chain
  in_chain behind [] earlier later one numbers counts =
      subst (λ (rs : List Rule). AreLessFrom numbering 5 (elements_at root earlier ++ behind) (elements_at root rs ++ behind)) (sym (append-nil earlier))
      (record { same = λ level from under. refl; less = λ low. absurd (omega arith) })
  in_chain behind (relation strength prefix string extension ∷ chain) earlier later one numbers counts =
      let rule : Rule = relation strength prefix string extension in
      let least = least_within (level_of strength) (chain_level chain) one in
      subst (λ (rs : List Rule). AreLessFrom numbering (min (level_of strength) (chain_level chain)) (elements_at root earlier ++ behind) (elements_at root rs ++ behind))
      (append_assoc earlier (rule ∷ []) chain)
      (one_after_another numbering (level_of strength) (chain_level chain) (elements_at root earlier ++ behind)
      (elements_at root (earlier ++ rule ∷ []) ++ behind) (elements_at root ((earlier ++ rule ∷ []) ++ chain) ++ behind)
      (one_relation earlier (chain ++ later) strength prefix string extension behind numbers (λ some. (counts some).0))
      (in_chain behind chain (earlier ++ rule ∷ []) later least.1
      (subst AreNumbered (sym (append_assoc earlier (rule ∷ []) (chain ++ later))) numbers) (λ some. (counts some).1))
      least.0 least.1)
  in_chain behind (reset before place ∷ chain) earlier later one numbers counts = absurd (omega arith)
  in_chain behind (suppression ranges ∷ chain) earlier later one numbers counts = absurd (omega arith)
  in_chain behind (setting said ∷ chain) earlier later one numbers counts = absurd (omega arith)

-- texts that stand in a chain have elements that are less from its level on
in_chain_by_all : RelationsHold → ExtendedRelationsHold → (root : Root) (placed : List PlacedStatement) (numbering : Numbering)
    → NumbersTree (tailoring_of root (rules_of placed)).tree numbering
    → (chain : List Rule) (left right : List ℕ) (at : StandInChain root placed numbering chain left right) → 1 ≤ chain_level chain
    → AreLessFrom numbering (chain_level chain) (elements_by_all root placed left) (elements_by_all root placed right)
in_chain_by_all holds extended root placed numbering numbers chain left right at one =
    let numbers_here = subst (λ (rs : List Rule). NumbersTree (tailoring_of root rs).tree numbering) at.rules numbers in
    subst₂ (λ es fs. AreLessFrom numbering (chain_level chain) es fs) (sym at.of_left) (sym at.of_right)
    (with_front numbering (chain_level chain) at.front (elements_at root at.earlier ++ at.behind) (elements_at root (at.earlier ++ chain) ++ at.behind)
    (in_chain holds extended root numbering at.behind chain at.earlier at.later one numbers_here at.counts))

-- ---- numbers of elements

numbers_at : (keeps : NumberedElementsKeepOrder) (t : TailoringNumbers) (xs : List Element) (es : List SymbolicElement) → FitsAll t es
    → weighted xs ≡ weighted (map (numbered_element t) es) → (level : ℕ) → 1 ≤ level → level ≤ 4
    → element_numbers level xs ≡ level_numbers (numbering_of t) level es
numbers_at keeps t xs es fits same level a b =
    sym (numbers_weighted level xs) ∙ ap (element_numbers level) same ∙ numbers_weighted level (map (numbered_element t) es)
    ∙ keeps t es level a b fits

-- ---- texts

-- a strength that hasn't the level
not_had : (s : Strength) (n : ℕ) → strength_rank s + 1 < n → Equal ≡ said_at s n
not_had s n h = grind (arith, nat_tests)

module _ (keeps : NumberedElementsKeepOrder) (t : TailoringNumbers) (c : Collation) (left right : List ℕ)
    (es fs : List SymbolicElement) (fit_left : FitsAll t es) (fit_right : FitsAll t fs)
    (keeps_left : HasNoVariable c left) (keeps_right : HasNoVariable c right)
    (of_left : weighted (plain_elements c left) ≡ weighted (map (numbered_element t) es))
    (of_right : weighted (plain_elements c right) ≡ weighted (map (numbered_element t) fs)) where
  -- weights of a level are the same, or less
  same_at : (level : ℕ) → 1 ≤ level → level ≤ 4
      → level_numbers (numbering_of t) level es ≡ level_numbers (numbering_of t) level fs
      → element_numbers level (plain_elements c left) ≡ element_numbers level (plain_elements c right)
  same_at level a b e =
      numbers_at keeps t (plain_elements c left) es fit_left of_left level a b ∙ e
      ∙ sym (numbers_at keeps t (plain_elements c right) fs fit_right of_right level a b)

  less_at : (n : ℕ) → 1 ≤ n → n ≤ 4 → AreLessFrom (numbering_of t) n es fs
      → AreLessElements n (plain_elements c left) (plain_elements c right)
  less_at n a b l = record {
    same = λ level from under. same_at level from (omega arith) (l.same level from under);
    less =
        ap₂ list_order (numbers_at keeps t (plain_elements c left) es fit_left of_left n a b)
        (numbers_at keeps t (plain_elements c right) fs fit_right of_right n a b)
        ∙ l.less b;
  }

  abbrev rank : ℕ
  rank = strength_rank c.settings.strength

  -- the level is one of the first three, and the strength has it or not
  has_level : (n : ℕ) → 1 ≤ n → n ≤ 3 → HasPlainSettings c n → AreLessFrom (numbering_of t) n es fs
      → text_order c left right ≡ said_at c.settings.strength n
  has_level n a b plain l = related_order c left right n a b plain keeps_left keeps_right (less_at n a (omega arith) l)

  has_no_level : (n : ℕ) → 3 ≤ n → rank + 1 < n → rank ≤ 2 → HasPlainSettings c n
      → AreLessFrom (numbering_of t) n es fs → text_order c left right ≡ said_at c.settings.strength n
  has_no_level n a b d plain l =
      same_tie c left right n a plain keeps_left keeps_right d
      (λ level from to. same_at level from (omega arith) (l.same level from (omega arith)))
      ∙ not_had c.settings.strength n b

  by_strength : (n : ℕ) → 1 ≤ n → HasPlainSettings c n → (4 ≤ n → rank ≤ 2)
      → AreLessFrom (numbering_of t) n es fs → text_order c left right ≡ said_at c.settings.strength n
  by_strength zero a plain low l = absurd (omega arith)
  by_strength (suc zero) a plain low l = has_level 1 a (omega arith) plain l
  by_strength (suc (suc zero)) a plain low l = has_level 2 a (omega arith) plain l
  by_strength (suc (suc (suc zero))) a plain low l = has_level 3 a (omega arith) plain l
  by_strength (suc (suc (suc (suc n)))) a plain low l =
      let few = low (omega arith) in
      has_no_level (suc (suc (suc (suc n)))) (omega arith) (omega (arith, few)) few plain l

-- what a collation of tables reads
pub read_by : (root : CheckedRoot) → TextsAreReadByRules root → (placed : List PlacedStatement) (t : Tailoring) (says : SaysRules root placed t)
    → AreRuledTables root t → (c : Collation) → c.tables ≡ tailored_tables t → (text : List ℕ) → AllByRecursion IsScalarCode (nfd text)
    → weighted (plain_elements c text) ≡ weighted (map (numbered_element says.numbers) (elements_by_all (stored_root root) placed text))
read_by root reads placed t says ok c tables text scalars =
    ap (λ (all : CollatorTables). weighted (elements_of (non_numeric_reading all.tables) (nfd text))) tables
    ∙ reads placed t says ok (nfd text) scalars

pub relations_are_ordered : RelationsHold → ExtendedRelationsHold → NumberedElementsKeepOrder → (root : CheckedRoot) → TextsAreReadByRules root
    → RelationsOrder root
relations_are_ordered holds extended keeps root reads placed t says ok c tables left right first second chain at one plain keeps_left keeps_right low =
    let es = elements_by_all (stored_root root) placed left in
    let fs = elements_by_all (stored_root root) placed right in
    by_strength keeps says.numbers c left right es fs (text_fits_all root placed t says left first) (text_fits_all root placed t says right second)
    keeps_left keeps_right (read_by root reads placed t says ok c tables left first) (read_by root reads placed t says ok c tables right second)
    (chain_level chain) one plain low
    (in_chain_by_all holds extended (stored_root root) placed (numbering_of says.numbers) says.numbered.numbered chain left right at one)
