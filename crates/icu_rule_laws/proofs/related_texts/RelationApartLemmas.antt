-- Texts that stand in a chain of relations are one apart at its level, by a collation of the tables of its rules.
use Rattle.std.proofs.Common.{◌≡◌, ◌<◌, ◌≤◌, ◌+◌, ◌-◌, ℕ, Bool, true, false, ◌||◌, cond, List, [], ◌∷◌, ◌++◌, map, take, Option, None, Some, refl, ap, ap₂, sym, subst, ◌∙◌, arith}
use Rattle.std.specs.List.{AllByRecursion, list_any}
use Rattle.std.proofs.lemmas.List.Folds.{list_any-append}
use Rattle.unicode_normalization.specs.Forms.{nfd}
use Rattle.icu_options.specs.Metadata.{is_backward}
use Rattle.icu_table_entries.specs.Elements.{Element}
use Rattle.icu_table_entries.specs.ElementConditions.{separator_primary}
use Rattle.icu_table_provider.specs.CollatorTables.{reorder_by}
use Rattle.icu_table_provider.specs.Reorderings.{Reordering}
use Rattle.icu_order_texts.specs.weighting.Collations.{Collation}
use Rattle.icu_order_texts.specs.weighting.Forms.{last_variable_by}
use Rattle.icu_order_texts.specs.weighting.Handled.{is_variable}
use Rattle.icu_rule_parser.specs.declared.rules.PlacedStatement.{PlacedStatement}
use Rattle.icu_rule_root.specs.StoredRoots.{stored_root}
use Rattle.icu_rule_root.specs.declared.checked_root.CheckedRoot.{CheckedRoot}
use Rattle.icu_rule_meaning.specs.RelationLaws.{elements_at}
use Rattle.icu_rule_meaning.specs.Rules.{Rule, relation, reset, rules_of}
use Rattle.icu_rule_meaning.specs.Steps.{before_level, place_elements, tailoring_of}
use Rattle.icu_rule_meaning.specs.SymbolicOrders.{NumbersTree}
use Rattle.icu_rule_meaning.specs.declared.symbolic.SymbolicElement.{SymbolicElement}
use Rattle.icu_rule_meaning.proofs.WholeElements.{AreWhole}
use Rattle.icu_rule_meaning.proofs.WholeStates.{level_within}
use Rattle.icu_rule_steps.specs.held_relations.HeldRelations.{elements_by_all}
use Rattle.icu_rule_weights.specs.declared.tailoring_numbers.tailoring_numbers.TailoringNumbers.{TailoringNumbers}
use Rattle.icu_rule_weights.specs.tailoring_numbers.NumberedElements.{NumberedElementsKeepOrder, numbered_element}
use Rattle.icu_rule_weights.specs.tailoring_numbers.Numberings.{numbering_of}
use Rattle.icu_rule_tables.specs.Tailorings.{SaysRules, tailored_tables}
use Rattle.icu_rule_tables.specs.declared.tailoring.Tailoring.{Tailoring}
use Rattle.icu_rule_laws.specs.RuleTexts.{AreRuledTables, TextsAreReadByRules}
use Rattle.icu_rule_laws.specs.apart_elements.UpperWeights.{has_nonzero, upper_lists, weight_on}
use Rattle.icu_rule_laws.specs.apart_elements.ApartElements.{AreOneApart, SettingsDecide, StaysAfter, elements_by}
use Rattle.icu_rule_laws.specs.related_texts.PlainOrders.{HasNoVariable, ReadsPlainly}
use Rattle.icu_rule_laws.specs.related_texts.RelationOrders.{ApartRelationsOrder, BeforeRelationsOrder, OrderAsApart, chain_level}
use Rattle.icu_rule_laws.specs.tailored_texts.TailoredTexts.{IsScalarCode}
use Rattle.icu_rule_laws.proofs.FittingTextLemmas.{Fits, text_fits, text_whole_by}
use Rattle.icu_rule_laws.proofs.apart_elements.ApartTextLemmas.{texts_after_case, texts_are_less, texts_are_said}
use Rattle.icu_rule_laws.proofs.apart_elements.PartedListLemmas.{IsLevel, PartAt, level_of_four, part_between, parted_are_apart, parted_rests}
use Rattle.icu_rule_laws.proofs.apart_elements.UpperLemmas.{upper_lower}
use Rattle.icu_rule_laws.proofs.related_texts.IdentityLemmas.{upper_by}
use Rattle.icu_rule_laws.proofs.related_texts.PlainOrderLemmas.{has_plain_elements, kept_all, left_false, right_false}
use Rattle.icu_rule_laws.proofs.related_texts.RelationOrderLemmas.{read_by}
use Rattle.icu_rule_laws.proofs.related_texts.RuleListLemmas.{EndsApart, compared_is, ends_part, full_by, in_chain, lists-append, weight_lists}
use Rattle.icu_rule_laws.proofs.related_texts.BeforeListLemmas.{before_parts}

-- ---- settings decide if no element is variable

module _ (c : Collation) where
  abbrev has_variable : List Element → Bool
  has_variable = list_any (is_variable (last_variable_by c))

  none_of_front : (front rest whole : List Element) (x : Element) → whole ≡ front ++ x ∷ rest → has_variable whole ≡ false
      → has_variable (front ++ x ∷ []) ≡ false
  none_of_front front rest whole x is none =
      let both : (has_variable front || has_variable (x ∷ rest)) ≡ false =
      sym (list_any-append (is_variable (last_variable_by c)) front (x ∷ rest)) ∙ ap has_variable (sym is) ∙ none in
      let before = left_false (has_variable front) (has_variable (x ∷ rest)) both in
      let here = left_false (is_variable (last_variable_by c) x) (has_variable rest) (right_false (has_variable front) (has_variable (x ∷ rest)) both) in
      list_any-append (is_variable (last_variable_by c)) front (x ∷ []) ∙ ap₂ (λ a b. a || (b || false)) before here

  front_alone : (front : List Element) (x : Element) → has_variable (front ++ x ∷ []) ≡ false → has_variable front ≡ false
  front_alone front x none =
      left_false (has_variable front) (has_variable (x ∷ [])) (sym (list_any-append (is_variable (last_variable_by c)) front (x ∷ [])) ∙ none)

  stays : (front rest whole : List Element) (x : Element) → whole ≡ front ++ x ∷ rest → has_variable whole ≡ false → StaysAfter c front x
  stays front rest whole x is none =
      let here = none_of_front front rest whole x is none in
      kept_all c (front ++ x ∷ []) here ∙ sym (ap (λ l. l ++ x ∷ []) (kept_all c front (front_alone front x here)))

  ordered_plainly : (r : Option Reordering) → r ≡ None → (v w : ℕ) → v < w → reorder_by r v < reorder_by r w
  ordered_plainly r none v w l = subst (λ o. reorder_by o v < reorder_by o w) (sym none) l

  settings_decide : (n : ℕ) (xs ys : List Element) (a : AreOneApart n xs ys) → has_variable xs ≡ false → has_variable ys ≡ false
      → (n ≡ 1 → c.tables.reordering ≡ None) → (n ≡ 2 → is_backward c.tables.bits ≡ true → a.e.primary ≡ separator_primary → ⊥)
      → upper_lists (n + 1) a.rest ≡ upper_lists (n + 1) a.other_rest → SettingsDecide c n a
  settings_decide n xs ys a left right scripts separator rests = record {
    stays = stays a.front a.rest xs a.e a.left left;
    other_stays = stays a.other_front a.other_rest ys a.other a.right right;
    ordered = λ one.
        ordered_plainly c.tables.reordering (scripts one) a.e.primary a.other.primary
        (subst (λ k. weight_on k a.e < weight_on k a.other) one a.less);
    no_separator = separator;
    ends = λ two backward. subst (λ k. upper_lists (k + 1) a.rest ≡ upper_lists (k + 1) a.other_rest) two rests;
  }

-- ---- elements with numbers

one_less : (n : ℕ) → (n + 1) - 1 ≡ n
one_less n = omega arith

upper_numbered : (keeps : NumberedElementsKeepOrder) (t : TailoringNumbers) (n : ℕ) (es : List SymbolicElement) → AreWhole es
    → AllByRecursion (Fits t) es → upper_lists (n + 1) (map (numbered_element t) es) ≡ weight_lists n t es
upper_numbered keeps t n [] ws fs = refl
upper_numbered keeps t n (e ∷ es) (w, ws) (f, fs) =
    ap₂ (λ us uss. cond (has_nonzero us) (us ∷ uss) uss)
    (ap (take ((n + 1) - 1)) (compared_is keeps t e w f) ∙ ap (λ k. take k (full_by t e.weights)) (one_less n))
    (upper_numbered keeps t n es ws fs)

-- the same lists part where others do
abbrev part_same : (n : ℕ) (xss yss uss vss : List (List ℕ)) → uss ≡ xss → vss ≡ yss → PartAt n xss yss → PartAt n uss vss
part_same n xss yss uss vss e f p = record {
  front = p.front;
  u = p.u;
  v = p.v;
  rest = p.rest;
  other_rest = p.other_rest;
  left = e ∙ p.left;
  right = f ∙ p.right;
  above = p.above;
  counts = p.counts;
  less = p.less;
  rests = p.rests;
}

module _ (keeps : NumberedElementsKeepOrder) (root : CheckedRoot) (reads : TextsAreReadByRules root) (placed : List PlacedStatement) (t : Tailoring)
    (says : SaysRules root placed t) (ok : AreRuledTables root t) (c : Collation) (tables : c.tables ≡ tailored_tables t) (plain : ReadsPlainly c)
    (n : ℕ) (few : n ≤ 4) (level : IsLevel n) where
  -- what levels compare of a text
  text_lists : (text : List ℕ) → AllByRecursion IsScalarCode (nfd text)
      → upper_lists (n + 1) (elements_by c text) ≡ weight_lists n says.numbers (elements_by_all (stored_root root) placed text)
  text_lists text scalars =
      let es = elements_by_all (stored_root root) placed text in
      upper_lower n 5 (n + 1) level.of_all (elements_by c text) (map (numbered_element says.numbers) es)
      (upper_by says.numbers c plain text es (read_by root reads placed t says ok c tables text scalars))
      ∙ upper_numbered keeps says.numbers n es (text_whole_by root placed text) (text_fits root placed t says text scalars)

  abbrev lists : List SymbolicElement → List (List ℕ)
  lists = weight_lists n says.numbers

  numbers_in : (rules : List Rule) → rules_of placed ≡ rules → NumbersTree (tailoring_of (stored_root root) rules).tree (numbering_of says.numbers)
  numbers_in rules are =
      subst (λ (rs : List Rule). NumbersTree (tailoring_of (stored_root root) rs).tree (numbering_of says.numbers)) are says.numbered.numbered

  -- ---- texts with the same before and after what parts

  module _ (left right : List ℕ) (first : AllByRecursion IsScalarCode (nfd left)) (second : AllByRecursion IsScalarCode (nfd right))
      (front es fs behind : List SymbolicElement) (of_left : elements_by_all (stored_root root) placed left ≡ front ++ (es ++ behind))
      (of_right : elements_by_all (stored_root root) placed right ≡ front ++ (fs ++ behind)) (ends : EndsApart n (lists es) (lists fs)) where
    three : (gs : List SymbolicElement) → lists (front ++ (gs ++ behind)) ≡ lists front ++ (lists gs ++ lists behind)
    three gs = lists-append n says.numbers front (gs ++ behind) ∙ ap (λ l. lists front ++ l) (lists-append n says.numbers gs behind)

    abbrev parts : PartAt n (upper_lists (n + 1) (elements_by c left)) (upper_lists (n + 1) (elements_by c right))
    parts =
        part_same n _ _ (upper_lists (n + 1) (elements_by c left)) (upper_lists (n + 1) (elements_by c right))
        (text_lists left first ∙ ap lists of_left ∙ three es) (text_lists right second ∙ ap lists of_right ∙ three fs)
        (part_between n (lists front) (lists es) (lists fs) (lists behind) (lists behind) refl (ends_part n (lists es) (lists fs) ends))

    abbrev one_apart : AreOneApart n (elements_by c left) (elements_by c right)
    one_apart = parted_are_apart n level (elements_by c left) (elements_by c right) parts

    none_by : (text : List ℕ) → HasNoVariable c text → has_variable c (elements_by c text) ≡ false
    none_by text none = ap (has_variable c) (has_plain_elements c plain text) ∙ none

    order_as_apart : 1 ≤ n → OrderAsApart c n left right
    order_as_apart one = record {
      apart = one_apart;
      rests = parted_rests n level (elements_by c left) (elements_by c right) parts refl;
      less = λ low enough decides. texts_are_less c left right n one low enough one_apart decides;
      after_case = λ low primary case decides. texts_after_case c left right n low few primary case one_apart decides;
      said = λ case decides. texts_are_said c left right n one few case one_apart decides;
      decide = λ v w scripts separator.
          settings_decide c n (elements_by c left) (elements_by c right) one_apart (none_by left v) (none_by right w) scripts separator
          (parted_rests n level (elements_by c left) (elements_by c right) parts refl);
    }

pub apart_relations_are_ordered : NumberedElementsKeepOrder → (root : CheckedRoot) → TextsAreReadByRules root → ApartRelationsOrder root
apart_relations_are_ordered keeps root reads placed t says ok c tables plain left right first second chain at some few counts =
    let n = chain_level chain in
    let stored = stored_root root in
    order_as_apart keeps root reads placed t says ok c tables plain n few (level_of_four n some few) left right first second
    at.front (elements_at stored at.earlier) (elements_at stored (at.earlier ++ chain)) at.behind at.of_left at.of_right
    ((in_chain stored says.numbers n few chain at.earlier at.later some
    (numbers_in keeps root reads placed t says ok c tables plain n few (level_of_four n some few) (at.earlier ++ (chain ++ at.later)) at.rules) counts).1 refl)
    some

pub before_is_ordered : NumberedElementsKeepOrder → (root : CheckedRoot) → TextsAreReadByRules root → BeforeRelationsOrder root
before_is_ordered keeps root reads placed t says ok c tables plain left right first second before strength at same =
    let n = before_level before in
    let stored = stored_root root in
    let within = level_within before in
    let level = level_of_four n within.0 within.1 in
    order_as_apart keeps root reads placed t says ok c tables plain n within.1 level left right first second
    at.front (elements_at stored (at.earlier ++ reset (Some before) at.place ∷ relation strength at.prefix at.string at.extension ∷ []))
    (place_elements stored (tailoring_of stored at.earlier) at.place) at.behind at.of_left at.of_right
    (before_parts stored says.numbers before at.place strength at.prefix at.string at.extension at.earlier at.later
    (numbers_in keeps root reads placed t says ok c tables plain n within.1 level
    (at.earlier ++ reset (Some before) at.place ∷ relation strength at.prefix at.string at.extension ∷ at.later) at.rules) same at.goes)
    within.0
