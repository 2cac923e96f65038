-- Swedish letters have the elements of their relations, so they order as these say.
use Rattle.std.proofs.Common.{◌≡◌, ℕ, true, false, ◌==◌, nat_eq, List, [], ◌∷◌, ◌++◌, None, Option, Some, if◌then◌else◌, refl, ap, sym, ◌∙◌, arith}
use Rattle.std.specs.List.{AllByRecursion, starts_with}
use Rattle.std.proofs.lemmas.List.{append-nil}
use Rattle.unicode_normalization.specs.Forms.{nfd}
use Rattle.unicode_normalization.proofs.Computing.{unicode_normalization}
use Rattle.icu_options.specs.declared.settings.Strength.{Strength}
use Rattle.icu_options.specs.declared.settings.Strength.TheVariants.{Primary, Secondary, Tertiary, Quaternary, Identical}
use Rattle.icu_rule_parser.specs.declared.rules.PlacedStatement.{PlacedStatement}
use Rattle.icu_rule_root.specs.declared.checked_root.CheckedRoot.{CheckedRoot}
use Rattle.icu_rule_root.specs.StoredRoots.{stored_root}
use Rattle.icu_rule_meaning.specs.RelationLaws.{elements_at}
use Rattle.icu_rule_meaning.specs.RootLaws.{IsUntouched, UntouchedTextsKeepElements}
use Rattle.icu_rule_meaning.specs.Rules.{Rule, at_string, relation, reset, rules_of}
use Rattle.icu_rule_meaning.specs.Steps.{TailoringState, case_step, difference_step, first_state, mapping_step, relation_step, reset_step, strength_step, tailoring_of}
use Rattle.icu_rule_meaning.specs.SymbolicOrders.{Numbering}
use Rattle.icu_rule_meaning.specs.TailoredMappings.{SymbolicMapping, root_mappings, symbolic_elements, with_mapping}
use Rattle.icu_rule_meaning.specs.TailoredRoots.{Root}
use Rattle.icu_rule_meaning.specs.declared.symbolic.SymbolicElement.{SymbolicElement}
use Rattle.icu_rule_steps.specs.held_relations.HeldRelations.{elements_by_all}
use Rattle.icu_rule_weights.specs.tailoring_numbers.Numberings.{numbering_of}
use Rattle.icu_rule_laws.specs.tailored_texts.TailoredTexts.{IsScalarCode}
use Rattle.icu_order_texts.specs.weighting.Collations.{Collation}
use Rattle.icu_table_provider.specs.CollatorTables.{CollatorTables}
use Rattle.icu_rule_tables.specs.RuleSettings.{reorder_words}
use Rattle.icu_rule_tables.specs.StatesByRules.{state_over}
use Rattle.icu_rule_laws.specs.related_texts.PlainOrders.{HasPlainSettings, ReadsPlainly}
use Rattle.icu_rule_laws.specs.related_texts.RelationOrders.{RelationsOrder, RulesKeepScripts, StandInChain}
use Rattle.icu_rule_laws.specs.related_texts.SwedishLetters.{SwedishLettersOrder, swedish_rules, z, small_å, capital_å, small_ä, capital_ä, small_ö, capital_ö}
use Rattle.icu_rule_laws.proofs.apart_elements.ApartOrderLemmas.{said_at_first}
use Rattle.icu_rule_laws.proofs.related_texts.OwnMappingLemmas.{found_before, found_stays, marked, marked_letter, put_is_found, relation_puts}

-- ---- one relation after another

module _ (root : Root) (state : TailoringState) (strength : Strength) (string : List ℕ) (c m : ℕ) (decomposed : nfd string ≡ c ∷ m ∷ []) where
  abbrev next : TailoringState
  next = relation_step root strength [] string [] state

  abbrev put : List SymbolicMapping
  put = with_mapping (marked m next.elements) (state.mappings c)

  -- the letter of another relation keeps what is found
  other_letter : (d k : ℕ) (found : Option SymbolicMapping) → (d == c) ≡ false → found_before (state.mappings d) k ≡ found
      → found_before (next.mappings d) k ≡ found
  other_letter d k found other e =
      ap (λ ms. found_before ms k)
      (relation_puts root state strength string c m decomposed d ∙ ap (λ b. if b then put else state.mappings d) other)
      ∙ e

  here : (c == c) ≡ true → next.mappings c ≡ put
  here same = relation_puts root state strength string c m decomposed c ∙ ap (λ b. if b then put else state.mappings c) same

  -- the same letter does with another mark
  other_mark : (k : ℕ) (found : Option SymbolicMapping) → (c == c) ≡ true → starts_with nat_eq (k ∷ []) (m ∷ []) ≡ false
      → found_before (state.mappings c) k ≡ found → found_before (next.mappings c) k ≡ found
  other_mark k found same apart e =
      ap (λ ms. found_before ms k) (here same) ∙ found_stays k m apart next.elements (state.mappings c) ∙ e

  -- the letter and its mark are found
  own : (c == c) ≡ true → starts_with nat_eq (m ∷ []) (m ∷ []) ≡ true → found_before (next.mappings c) m ≡ Some (marked m next.elements)
  own same is = ap (λ ms. found_before ms m) (here same) ∙ put_is_found m next.elements (state.mappings c) is

-- ---- characters

decomposed_small_å : nfd small_å ≡ 0x61 ∷ 0x30A ∷ []
unfolding unicode_normalization
decomposed_small_å = refl

decomposed_capital_å : nfd capital_å ≡ 0x41 ∷ 0x30A ∷ []
unfolding unicode_normalization
decomposed_capital_å = refl

decomposed_small_ä : nfd small_ä ≡ 0x61 ∷ 0x308 ∷ []
unfolding unicode_normalization
decomposed_small_ä = refl

decomposed_capital_ä : nfd capital_ä ≡ 0x41 ∷ 0x308 ∷ []
unfolding unicode_normalization
decomposed_capital_ä = refl

decomposed_small_ö : nfd small_ö ≡ 0x6F ∷ 0x308 ∷ []
unfolding unicode_normalization
decomposed_small_ö = refl

decomposed_capital_ö : nfd capital_ö ≡ 0x4F ∷ 0x308 ∷ []
unfolding unicode_normalization
decomposed_capital_ö = refl

scalar_z : AllByRecursion IsScalarCode (nfd z)
unfolding unicode_normalization
scalar_z = (refl, tt)

scalar_small_å : AllByRecursion IsScalarCode (nfd small_å)
unfolding unicode_normalization
scalar_small_å = (refl, (refl, tt))

scalar_capital_å : AllByRecursion IsScalarCode (nfd capital_å)
unfolding unicode_normalization
scalar_capital_å = (refl, (refl, tt))

scalar_small_ä : AllByRecursion IsScalarCode (nfd small_ä)
unfolding unicode_normalization
scalar_small_ä = (refl, (refl, tt))

scalar_capital_ä : AllByRecursion IsScalarCode (nfd capital_ä)
unfolding unicode_normalization
scalar_capital_ä = (refl, (refl, tt))

scalar_small_ö : AllByRecursion IsScalarCode (nfd small_ö)
unfolding unicode_normalization
scalar_small_ö = (refl, (refl, tt))

scalar_capital_ö : AllByRecursion IsScalarCode (nfd capital_ö)
unfolding unicode_normalization
scalar_capital_ö = (refl, (refl, tt))

untouched_z : AllByRecursion (IsUntouched swedish_rules) (nfd z)
unfolding unicode_normalization
untouched_z = (refl, tt)

-- ---- settings

mapping_settings : (prefix string : List ℕ) (es : List SymbolicElement) (state : TailoringState)
    → (mapping_step prefix string es state).settings ≡ state.settings
mapping_settings prefix [] es state = refl
mapping_settings prefix (c ∷ suffix) es state = refl

strength_settings : (strength : Strength) (state : TailoringState) → (strength_step strength state).settings ≡ state.settings
unfolding difference_step
strength_settings Primary state = refl
strength_settings Secondary state = refl
strength_settings Tertiary state = refl
strength_settings Quaternary state = refl
strength_settings Identical state = refl

relation_settings : (root : Root) (strength : Strength) (prefix string extension : List ℕ) (state : TailoringState)
    → (relation_step root strength prefix string extension state).settings ≡ state.settings
unfolding relation_step
relation_settings root strength prefix string extension state =
    let cased : TailoringState = case_step root (nfd string) (strength_step strength state) in
    mapping_settings (nfd prefix) (nfd string) (cased.elements ++ symbolic_elements state.mappings (nfd extension)) cased
    ∙ strength_settings strength state

-- ---- states

module _ (root : Root) where
  abbrev at_z : TailoringState
  at_z = reset_step root None (at_string z) (first_state root)

  abbrev at_small_å : TailoringState
  at_small_å = relation_step root Primary [] small_å [] at_z

  abbrev at_capital_å : TailoringState
  at_capital_å = relation_step root Tertiary [] capital_å [] at_small_å

  abbrev at_small_ä : TailoringState
  at_small_ä = relation_step root Primary [] small_ä [] at_capital_å

  abbrev at_capital_ä : TailoringState
  at_capital_ä = relation_step root Tertiary [] capital_ä [] at_small_ä

  abbrev at_small_ö : TailoringState
  at_small_ö = relation_step root Primary [] small_ö [] at_capital_ä

  abbrev at_capital_ö : TailoringState
  at_capital_ö = relation_step root Tertiary [] capital_ö [] at_small_ö

  elements_of_z : at_z.elements ≡ symbolic_elements (root_mappings root) (nfd z)
  unfolding reset_step
  elements_of_z = refl

  -- no setting was said
  no_settings : at_capital_ö.settings ≡ []
  unfolding reset_step
  no_settings =
      relation_settings root Tertiary [] capital_ö [] at_small_ö ∙ relation_settings root Primary [] small_ö [] at_capital_ä
      ∙ relation_settings root Tertiary [] capital_ä [] at_small_ä ∙ relation_settings root Primary [] small_ä [] at_capital_å
      ∙ relation_settings root Tertiary [] capital_å [] at_small_å ∙ relation_settings root Primary [] small_å [] at_z

  found_small_å : found_before (at_capital_ö.mappings 0x61) 0x30A ≡ Some (marked 0x30A at_small_å.elements)
  found_small_å =
      other_letter root at_small_ö Tertiary capital_ö 0x4F 0x308 decomposed_capital_ö 0x61 0x30A _ refl
      (other_letter root at_capital_ä Primary small_ö 0x6F 0x308 decomposed_small_ö 0x61 0x30A _ refl
      (other_letter root at_small_ä Tertiary capital_ä 0x41 0x308 decomposed_capital_ä 0x61 0x30A _ refl
      (other_mark root at_capital_å Primary small_ä 0x61 0x308 decomposed_small_ä 0x30A _ refl refl
      (other_letter root at_small_å Tertiary capital_å 0x41 0x30A decomposed_capital_å 0x61 0x30A _ refl
      (own root at_z Primary small_å 0x61 0x30A decomposed_small_å refl refl)))))

  found_capital_å : found_before (at_capital_ö.mappings 0x41) 0x30A ≡ Some (marked 0x30A at_capital_å.elements)
  found_capital_å =
      other_letter root at_small_ö Tertiary capital_ö 0x4F 0x308 decomposed_capital_ö 0x41 0x30A _ refl
      (other_letter root at_capital_ä Primary small_ö 0x6F 0x308 decomposed_small_ö 0x41 0x30A _ refl
      (other_mark root at_small_ä Tertiary capital_ä 0x41 0x308 decomposed_capital_ä 0x30A _ refl refl
      (other_letter root at_capital_å Primary small_ä 0x61 0x308 decomposed_small_ä 0x41 0x30A _ refl
      (own root at_small_å Tertiary capital_å 0x41 0x30A decomposed_capital_å refl refl))))

  found_small_ä : found_before (at_capital_ö.mappings 0x61) 0x308 ≡ Some (marked 0x308 at_small_ä.elements)
  found_small_ä =
      other_letter root at_small_ö Tertiary capital_ö 0x4F 0x308 decomposed_capital_ö 0x61 0x308 _ refl
      (other_letter root at_capital_ä Primary small_ö 0x6F 0x308 decomposed_small_ö 0x61 0x308 _ refl
      (other_letter root at_small_ä Tertiary capital_ä 0x41 0x308 decomposed_capital_ä 0x61 0x308 _ refl
      (own root at_capital_å Primary small_ä 0x61 0x308 decomposed_small_ä refl refl)))

  found_capital_ä : found_before (at_capital_ö.mappings 0x41) 0x308 ≡ Some (marked 0x308 at_capital_ä.elements)
  found_capital_ä =
      other_letter root at_small_ö Tertiary capital_ö 0x4F 0x308 decomposed_capital_ö 0x41 0x308 _ refl
      (other_letter root at_capital_ä Primary small_ö 0x6F 0x308 decomposed_small_ö 0x41 0x308 _ refl
      (own root at_small_ä Tertiary capital_ä 0x41 0x308 decomposed_capital_ä refl refl))

  found_small_ö : found_before (at_capital_ö.mappings 0x6F) 0x308 ≡ Some (marked 0x308 at_small_ö.elements)
  found_small_ö =
      other_letter root at_small_ö Tertiary capital_ö 0x4F 0x308 decomposed_capital_ö 0x6F 0x308 _ refl
      (own root at_capital_ä Primary small_ö 0x6F 0x308 decomposed_small_ö refl refl)

  found_capital_ö : found_before (at_capital_ö.mappings 0x4F) 0x308 ≡ Some (marked 0x308 at_capital_ö.elements)
  found_capital_ö =
      own root at_small_ö Tertiary capital_ö 0x4F 0x308 decomposed_capital_ö refl refl

-- ---- elements by all rules

module _ (root : Root) (placed : List PlacedStatement) (numbering : Numbering) (rules : rules_of placed ≡ swedish_rules) where
  by_all : (text : List ℕ) → elements_by_all root placed text ≡ symbolic_elements (tailoring_of root swedish_rules).mappings (nfd text)
  by_all text = ap (λ (rs : List Rule). symbolic_elements (tailoring_of root rs).mappings (nfd text)) rules

  read_letter : (text : List ℕ) (c m : ℕ) (es : List SymbolicElement) → nfd text ≡ c ∷ m ∷ []
      → found_before ((tailoring_of root swedish_rules).mappings c) m ≡ Some (marked m es) → elements_by_all root placed text ≡ es
  read_letter text c m es decomposed found =
      by_all text ∙ ap (λ (cs : List ℕ). symbolic_elements (tailoring_of root swedish_rules).mappings cs) decomposed
      ∙ marked_letter (tailoring_of root swedish_rules).mappings c m es found

  read_z : UntouchedTextsKeepElements → elements_by_all root placed z ≡ (at_z root).elements
  read_z untouched = by_all z ∙ untouched root swedish_rules z untouched_z ∙ sym (elements_of_z root)

  -- two letters stand in a chain
  stand : (left right : List ℕ) (earlier chain later : List Rule) → swedish_rules ≡ earlier ++ (chain ++ later)
      → elements_by_all root placed left ≡ elements_at root earlier
      → elements_by_all root placed right ≡ elements_at root (earlier ++ chain)
      → StandInChain root placed numbering chain left right
  stand left right earlier chain later are e f = record {
    earlier = earlier;
    later = later;
    rules = rules ∙ are;
    front = [];
    behind = [];
    of_left = e ∙ sym (append-nil (elements_at root earlier));
    of_right = f ∙ sym (append-nil (elements_at root (earlier ++ chain)));
    counts = λ none. absurd (none refl);
  }

  read_small_å : elements_by_all root placed small_å ≡ (at_small_å root).elements
  read_small_å = read_letter small_å 0x61 0x30A (at_small_å root).elements decomposed_small_å (found_small_å root)

  read_capital_å : elements_by_all root placed capital_å ≡ (at_capital_å root).elements
  read_capital_å = read_letter capital_å 0x41 0x30A (at_capital_å root).elements decomposed_capital_å (found_capital_å root)

  read_small_ä : elements_by_all root placed small_ä ≡ (at_small_ä root).elements
  read_small_ä = read_letter small_ä 0x61 0x308 (at_small_ä root).elements decomposed_small_ä (found_small_ä root)

  read_capital_ä : elements_by_all root placed capital_ä ≡ (at_capital_ä root).elements
  read_capital_ä = read_letter capital_ä 0x41 0x308 (at_capital_ä root).elements decomposed_capital_ä (found_capital_ä root)

  read_small_ö : elements_by_all root placed small_ö ≡ (at_small_ö root).elements
  read_small_ö = read_letter small_ö 0x6F 0x308 (at_small_ö root).elements decomposed_small_ö (found_small_ö root)

  read_capital_ö : elements_by_all root placed capital_ö ≡ (at_capital_ö root).elements
  read_capital_ö = read_letter capital_ö 0x4F 0x308 (at_capital_ö root).elements decomposed_capital_ö (found_capital_ö root)

no_words : (root : CheckedRoot) (placed : List PlacedStatement) → rules_of placed ≡ swedish_rules
    → reorder_words (state_over root placed).settings ≡ None
unfolding reorder_words
no_words root placed rules =
    ap (λ (rs : List Rule). reorder_words (tailoring_of (stored_root root) rs).settings) rules ∙ ap reorder_words (no_settings (stored_root root))

plain_letters : (c : Collation) → ReadsPlainly c → c.tables.reordering ≡ None → HasPlainSettings c 1
plain_letters c reads none = record {
  reading = reads;
  scripts = λ one. none;
  case = λ far two. absurd (omega arith);
  forward = λ far. absurd (omega arith);
}

pub swedish_letters : (root : CheckedRoot) → RelationsOrder root → RulesKeepScripts root → UntouchedTextsKeepElements → SwedishLettersOrder root
swedish_letters root law scripts untouched placed t says rules ok c tables =
    let stored = stored_root root in
    let numbering = numbering_of says.numbers in
    let kept = scripts placed t says (no_words root placed rules) in
    let plain_of : ReadsPlainly c → HasPlainSettings c 1 = λ reads. plain_letters c reads (ap (λ (all : CollatorTables). all.reordering) tables ∙ kept) in
    record {
      å_after_z = λ reads v w.
          law placed t says ok c tables z small_å scalar_z scalar_small_å (relation Primary [] small_å [] ∷ [])
          (stand stored placed numbering rules z small_å (reset None (at_string z) ∷ []) (relation Primary [] small_å [] ∷ [])
          (relation Tertiary [] capital_å [] ∷ relation Primary [] small_ä [] ∷ relation Tertiary [] capital_ä [] ∷ relation Primary [] small_ö [] ∷ relation Tertiary [] capital_ö [] ∷ []) refl
          (read_z stored placed numbering rules untouched) (read_small_å stored placed numbering rules))
          (omega arith) (plain_of reads) v w (λ far. absurd (omega arith))
          ∙ said_at_first c.settings.strength;
      ä_after_small_å = λ reads v w.
          law placed t says ok c tables small_å small_ä scalar_small_å scalar_small_ä (relation Tertiary [] capital_å [] ∷ relation Primary [] small_ä [] ∷ [])
          (stand stored placed numbering rules small_å small_ä (reset None (at_string z) ∷ relation Primary [] small_å [] ∷ []) (relation Tertiary [] capital_å [] ∷ relation Primary [] small_ä [] ∷ [])
          (relation Tertiary [] capital_ä [] ∷ relation Primary [] small_ö [] ∷ relation Tertiary [] capital_ö [] ∷ []) refl
          (read_small_å stored placed numbering rules) (read_small_ä stored placed numbering rules))
          (omega arith) (plain_of reads) v w (λ far. absurd (omega arith))
          ∙ said_at_first c.settings.strength;
      ä_after_capital_å = λ reads v w.
          law placed t says ok c tables capital_å small_ä scalar_capital_å scalar_small_ä (relation Primary [] small_ä [] ∷ [])
          (stand stored placed numbering rules capital_å small_ä (reset None (at_string z) ∷ relation Primary [] small_å [] ∷ relation Tertiary [] capital_å [] ∷ []) (relation Primary [] small_ä [] ∷ [])
          (relation Tertiary [] capital_ä [] ∷ relation Primary [] small_ö [] ∷ relation Tertiary [] capital_ö [] ∷ []) refl
          (read_capital_å stored placed numbering rules) (read_small_ä stored placed numbering rules))
          (omega arith) (plain_of reads) v w (λ far. absurd (omega arith))
          ∙ said_at_first c.settings.strength;
      ö_after_small_ä = λ reads v w.
          law placed t says ok c tables small_ä small_ö scalar_small_ä scalar_small_ö (relation Tertiary [] capital_ä [] ∷ relation Primary [] small_ö [] ∷ [])
          (stand stored placed numbering rules small_ä small_ö (reset None (at_string z) ∷ relation Primary [] small_å [] ∷ relation Tertiary [] capital_å [] ∷ relation Primary [] small_ä [] ∷ []) (relation Tertiary [] capital_ä [] ∷ relation Primary [] small_ö [] ∷ [])
          (relation Tertiary [] capital_ö [] ∷ []) refl
          (read_small_ä stored placed numbering rules) (read_small_ö stored placed numbering rules))
          (omega arith) (plain_of reads) v w (λ far. absurd (omega arith))
          ∙ said_at_first c.settings.strength;
      ö_after_capital_ä = λ reads v w.
          law placed t says ok c tables capital_ä small_ö scalar_capital_ä scalar_small_ö (relation Primary [] small_ö [] ∷ [])
          (stand stored placed numbering rules capital_ä small_ö (reset None (at_string z) ∷ relation Primary [] small_å [] ∷ relation Tertiary [] capital_å [] ∷ relation Primary [] small_ä [] ∷ relation Tertiary [] capital_ä [] ∷ []) (relation Primary [] small_ö [] ∷ [])
          (relation Tertiary [] capital_ö [] ∷ []) refl
          (read_capital_ä stored placed numbering rules) (read_small_ö stored placed numbering rules))
          (omega arith) (plain_of reads) v w (λ far. absurd (omega arith))
          ∙ said_at_first c.settings.strength;
      cases_of_å = λ plain v w.
          law placed t says ok c tables small_å capital_å scalar_small_å scalar_capital_å (relation Tertiary [] capital_å [] ∷ [])
          (stand stored placed numbering rules small_å capital_å (reset None (at_string z) ∷ relation Primary [] small_å [] ∷ []) (relation Tertiary [] capital_å [] ∷ [])
          (relation Primary [] small_ä [] ∷ relation Tertiary [] capital_ä [] ∷ relation Primary [] small_ö [] ∷ relation Tertiary [] capital_ö [] ∷ []) refl
          (read_small_å stored placed numbering rules) (read_capital_å stored placed numbering rules))
          (omega arith) plain v w (λ far. absurd (omega arith));
      cases_of_ä = λ plain v w.
          law placed t says ok c tables small_ä capital_ä scalar_small_ä scalar_capital_ä (relation Tertiary [] capital_ä [] ∷ [])
          (stand stored placed numbering rules small_ä capital_ä (reset None (at_string z) ∷ relation Primary [] small_å [] ∷ relation Tertiary [] capital_å [] ∷ relation Primary [] small_ä [] ∷ []) (relation Tertiary [] capital_ä [] ∷ [])
          (relation Primary [] small_ö [] ∷ relation Tertiary [] capital_ö [] ∷ []) refl
          (read_small_ä stored placed numbering rules) (read_capital_ä stored placed numbering rules))
          (omega arith) plain v w (λ far. absurd (omega arith));
      cases_of_ö = λ plain v w.
          law placed t says ok c tables small_ö capital_ö scalar_small_ö scalar_capital_ö (relation Tertiary [] capital_ö [] ∷ [])
          (stand stored placed numbering rules small_ö capital_ö (reset None (at_string z) ∷ relation Primary [] small_å [] ∷ relation Tertiary [] capital_å [] ∷ relation Primary [] small_ä [] ∷ relation Tertiary [] capital_ä [] ∷ relation Primary [] small_ö [] ∷ []) (relation Tertiary [] capital_ö [] ∷ [])
          ([]) refl
          (read_small_ö stored placed numbering rules) (read_capital_ö stored placed numbering rules))
          (omega arith) plain v w (λ far. absurd (omega arith));
    }
