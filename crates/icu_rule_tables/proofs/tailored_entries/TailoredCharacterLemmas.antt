-- Characters that get entries of their mappings, one after another.
use Rattle.std.proofs.Common.{◌≡◌, ℕ, ◌<◌, ◌≤◌, ◌+◌, ◌==◌, ◌||◌, not, Bool, true, false, List, [], ◌∷◌, ◌++◌, refl, sym, ap, subst, ◌∙◌, if◌then◌else◌, arith, inl, inr}
use Rattle.std.specs.Prelude.{◌&&◌, ◌⊎◌, nat_le, nat_lt}
use Rattle.std.specs.Bool.{MatchBool}
use Rattle.std.proofs.lemmas.Bool.{cases_Bool, true≢false}
use Rattle.std.proofs.lemmas.List.Folds.{list_any-append}
use Rattle.std.proofs.lemmas.Bool.Decides.{nat_tests}
use Rattle.std.proofs.lemmas.List.{append-nil}
use Rattle.std.proofs.Math.Bool.{and-false, and-true, or-false}
use Rattle.icu_rule_steps.proofs.TouchedRuleLemmas.{or_assoc}
use Rattle.icu_table_entries.specs.Entries.{fallback_entry}
use Rattle.icu_table_data.specs.Data.{Data}
use Rattle.icu_table_data.specs.CodePointTables.{code_point_count}
use Rattle.icu_table_provider.specs.builder.Building.{SaysOfCharacters, empty_data, set_in}
use Rattle.icu_table_mappings.specs.GrownLists.{Extends, HasMoreLists}
use Rattle.icu_table_mappings.proofs.GrownListLemmas.{lists_itself}
use Rattle.icu_rule_meaning.specs.TailoredRoots.{RootMapping}
use Rattle.icu_rule_weights.specs.declared.tailoring_numbers.tailoring_numbers.TailoringNumbers.{TailoringNumbers}
use Rattle.icu_rule_parser.specs.declared.statement.CharacterRange.{CharacterRange}
use Rattle.icu_rule_meaning.specs.Rules.{have_character, is_scalar}
use Rattle.icu_rule_steps.specs.symbolic_mappings.KeptMappings.{mappings_in}
use Rattle.icu_rule_steps.specs.symbolic_mappings.TouchedCharacters.{has_root_context, have_touched, has_own_mappings, suppressed_in, touched_in}
use Rattle.icu_rule_steps.specs.declared.symbolic_mappings.character_mapping.TouchedCharacter.{TouchedCharacter}
use Rattle.icu_rule_steps.specs.declared.symbolic_mappings.kept_mappings.Mappings.{Mappings}
use Rattle.icu_rule_tables.specs.tailored_entries.GivenMappings.{GivesMappings, TailorsCharacter}
use Rattle.icu_rule_tables.specs.tailored_entries.inner.TailoredSets.{TailorsMore, is_in_range, loses_contexts}
use Rattle.icu_rule_tables.proofs.tailored_entries.MappingEntryLemmas.{mappings_further}

same_test : (c x : ℕ) → (nat_le c x && nat_le x c) ≡ true → (c == x) ≡ true
same_test c x h = grind (arith, nat_tests)

other_test : (c x : ℕ) → (nat_le c x && nat_le x c) ≡ false → (c == x) ≡ false
other_test c x h = grind (arith, nat_tests)

same_number : (c x : ℕ) → (nat_le c x && nat_le x c) ≡ true → c ≡ x
same_number c x h = grind (arith, nat_tests)

lists_of_set : (d grown new : Data) (c e : ℕ) → HasMoreLists d grown → new ≡ set_in grown c c e → HasMoreLists d new
lists_of_set d grown new c e grows is = record {
  more_elements = grows.more_elements;
  more_entries = grows.more_entries;
  more_contexts = grows.more_contexts;
  elements = ap (λ (n : Data). n.elements) is ∙ grows.elements;
  entries = ap (λ (n : Data). n.entries) is ∙ grows.entries;
  contexts = ap (λ (n : Data). n.contexts) is ∙ grows.contexts;
}

same_lists : (d new : Data) → SaysOfCharacters d new → HasMoreLists d new
same_lists d new says = record {
  more_elements = [];
  more_entries = [];
  more_contexts = [];
  elements = says.elements ∙ sym (append-nil d.elements);
  entries = says.entries ∙ sym (append-nil d.entries);
  contexts = says.contexts ∙ sym (append-nil d.contexts);
}

given_now : (given more : Bool) (P Q : Type 0) → more ≡ true → P → MatchBool (given || more) P Q
given_now true more P Q e p = p
given_now false true P Q e p = p
given_now false false P Q e p = absurd (true≢false (sym e))

given_before : (given more : Bool) (P Q : Type 0) → more ≡ false → MatchBool given P Q → MatchBool (given || more) P Q
given_before true more P Q e p = p
given_before false true P Q e p = absurd (true≢false e)
given_before false false P Q e p = p

module _ {R : Type 0} (mappings_of : R → ℕ → List RootMapping) (t : TailoringNumbers) (m : Mappings R) where
  -- an entry of a character gives its mappings, or is the root's
  abbrev pub GivesOrNot : Bool → Data → ℕ → ℕ → Type 0
  GivesOrNot b d c e = MatchBool b (GivesMappings t d c (mappings_in mappings_of m c) e) (e ≡ fallback_entry)

  or_not_further : (b : Bool) (d new : Data) (c e : ℕ) → HasMoreLists d new → GivesOrNot b d c e → GivesOrNot b new c e
  or_not_further true d new c e grows gives = mappings_further t d new c (mappings_in mappings_of m c) e grows gives
  or_not_further false d new c e grows none = none

  -- a character gets an entry of its mappings
  pub one_set : (d grown new : Data) (c e : ℕ) → Extends d grown → new ≡ set_in grown c c e
      → GivesMappings t grown c (mappings_in mappings_of m c) e → TailorsMore mappings_of t m (λ x. c == x) d new
  one_set d grown new c e grows is gives given before x small = by_test (nat_le c x && nat_le x c) refl where
    sets : new.value x ≡ (if nat_le c x && nat_le x c then e else grown.value x)
    sets = ap (λ (n : Data). n.value x) is

    by_test : (b : Bool) → (nat_le c x && nat_le x c) ≡ b → GivesOrNot (given x || (c == x)) new x (new.value x)
    by_test true same =
        let here : new.value x ≡ e = sets ∙ ap (λ b. if b then e else grown.value x) same in
        given_now (given x) (c == x) (GivesMappings t new x (mappings_in mappings_of m x) (new.value x)) (new.value x ≡ fallback_entry) (same_test c x same)
        (subst (λ v. GivesMappings t new x (mappings_in mappings_of m x) v) (sym here)
        (subst (λ y. GivesMappings t new y (mappings_in mappings_of m y) e) (same_number c x same)
        (mappings_further t grown new c (mappings_in mappings_of m c) e (lists_of_set grown grown new c e (lists_itself grown) is) gives)))
    by_test false other =
        let there : new.value x ≡ d.value x = sets ∙ ap (λ b. if b then e else grown.value x) other ∙ ap (λ (value : ℕ → ℕ). value x) grows.value in
        given_before (given x) (c == x) (GivesMappings t new x (mappings_in mappings_of m x) (new.value x)) (new.value x ≡ fallback_entry) (other_test c x other)
        (subst (GivesOrNot (given x) new x) (sym there) (or_not_further (given x) d new x (d.value x) (lists_of_set d grown new c e grows.lists is) (before x small)))

  -- nothing was done, and nothing had to be
  pub nothing_more : (d : Data) (more : ℕ → Bool) → ((x : ℕ) → x < code_point_count → more x ≡ false) → TailorsMore mappings_of t m more d d
  nothing_more d more none given before x small =
      given_before (given x) (more x) (GivesMappings t d x (mappings_in mappings_of m x) (d.value x)) (d.value x ≡ fallback_entry) (none x small) (before x small)

  -- one set and then another
  pub both_more : (a b c : Data) (first second whole : ℕ → Bool) → ((x : ℕ) → x < code_point_count → (first x || second x) ≡ whole x)
      → TailorsMore mappings_of t m first a b → TailorsMore mappings_of t m second b c → TailorsMore mappings_of t m whole a c
  both_more a b c first second whole same f g given before x small =
      subst (λ s. GivesOrNot s c x (c.value x)) (or_assoc (given x) (first x) (second x) ∙ ap (λ s. given x || s) (same x small))
      (g (λ y. given y || first y) (f given before) x small)

  -- the same set, named otherwise
  pub same_more : (a b : Data) (first whole : ℕ → Bool) → ((x : ℕ) → x < code_point_count → first x ≡ whole x)
      → TailorsMore mappings_of t m first a b → TailorsMore mappings_of t m whole a b
  same_more a b first whole same f given before x small =
      subst (λ s. GivesOrNot s b x (b.value x)) (ap (λ s. given x || s) (same x small)) (f given before x small)

  -- at first no character has an entry of its own
  pub nothing_set : (d : Data) → d ≡ empty_data fallback_entry → (x : ℕ) → x < code_point_count → GivesOrNot false d x (d.value x)
  nothing_set d is x small = ap (λ (n : Data). n.value x) is

  -- what was built says the same
  pub built_tailors : (d built : Data) (given : ℕ → Bool) → SaysOfCharacters d built
      → ((x : ℕ) → x < code_point_count → GivesOrNot (given x) d x (d.value x)) → ((x : ℕ) → given x ≡ has_own_mappings mappings_of m x)
      → (x : ℕ) → x < code_point_count → TailorsCharacter mappings_of t m built x
  built_tailors d built given says before same x inside =
      subst (λ s. GivesOrNot s built x (built.value x)) (same x)
      (subst (GivesOrNot (given x) built x) (sym (says.value x inside)) (or_not_further (given x) d built x (d.value x) (same_lists d built says) (before x inside)))

  all_tests : (t s h k : Bool) → ((false || t) || (h && (s && (not t && k)))) ≡ (t || (s && (h && k)))
  all_tests true s h k = refl
  all_tests false true true k = refl
  all_tests false true false k = refl
  all_tests false false true k = refl
  all_tests false false false k = refl

  -- those that were touched, and those that lost contexts, are all that have mappings of their own
  pub all_given : (x : ℕ) → ((false || touched_in m x) || (have_character (suppressed_in m) x && loses_contexts mappings_of m x)) ≡ has_own_mappings mappings_of m x
  all_given x = all_tests (touched_in m x) (is_scalar x) (have_character (suppressed_in m) x) (has_root_context mappings_of m x)

-- ---- sets of characters

both_lose : (a b l : Bool) → ((a && l) || (b && l)) ≡ ((a || b) && l)
both_lose true true true = refl
both_lose true true false = refl
both_lose true false true = refl
both_lose true false false = refl
both_lose false b l = refl

code_more : (first code x : ℕ) → first ≤ code → ((nat_le first x && nat_lt x code) || (code == x)) ≡ (nat_le first x && nat_lt x (code + 1))
code_more first code x from = grind (arith, nat_tests)

-- the codes from one to another, and the next one
pub next_code : (first code x : ℕ) (l : Bool) → first ≤ code
    → (((nat_le first x && nat_lt x code) && l) || ((code == x) && l)) ≡ ((nat_le first x && nat_lt x (code + 1)) && l)
next_code first code x l from =
    both_lose (nat_le first x && nat_lt x code) (code == x) l ∙ ap (λ b. b && l) (code_more first code x from)

none_within : (first code x : ℕ) → code ≤ first → (nat_le first x && nat_lt x code) ≡ false
none_within first code x past = grind (arith, nat_tests)

-- no code stands between one and an earlier one
pub no_code : (first code x : ℕ) (l : Bool) → code ≤ first → ((nat_le first x && nat_lt x code) && l) ≡ false
no_code first code x l past = ap (λ b. b && l) (none_within first code x past)

-- the last codes that were gone through
pub last_code : (first code end x : ℕ) (l : Bool) → end ≤ code → (code ≤ end) ⊎ (code ≡ first)
    → ((nat_le first x && nat_lt x code) && l) ≡ ((nat_le first x && nat_lt x end) && l)
last_code first code end x l past (inl within) = ap (λ c. (nat_le first x && nat_lt x c) && l) (first_of (omega (arith, past, within)))
last_code first code end x l past (inr none) =
    no_code first code x l (omega (arith, none)) ∙ sym (no_code first end x l (omega (arith, past, none)))

range_codes : (first last x : ℕ) → (nat_le first x && nat_lt x (last + 1)) ≡ (nat_le first x && nat_le x last)
range_codes first last x = grind (arith, nat_tests)

-- ranges one after another
pub next_range : (ranges more : List CharacterRange) (range : CharacterRange) (first end x : ℕ) (l : Bool) → more ≡ ranges ++ range ∷ [] → first ≡ range.first
    → end ≡ range.last + 1 → ((have_character ranges x && l) || ((nat_le first x && nat_lt x end) && l)) ≡ (have_character more x && l)
next_range ranges more range first end x l is begins ends =
    both_lose (have_character ranges x) (nat_le first x && nat_lt x end) l
    ∙ ap (λ b. (have_character ranges x || b) && l) (ap (λ n. nat_le n x && nat_lt x end) begins ∙ ap (λ n. nat_le range.first x && nat_lt x n) ends ∙ range_codes range.first range.last x ∙ sym (or-false (is_in_range range x)))
    ∙ ap (λ b. b && l) (sym (list_any-append (λ (r : CharacterRange). is_in_range r x) ranges (range ∷ [])))
    ∙ ap (λ (rs : List CharacterRange). have_character rs x && l) (sym is)

-- characters that are listed one after another
pub next_listed : (listed more : List TouchedCharacter) (one : TouchedCharacter) (x : ℕ) → more ≡ listed ++ one ∷ []
    → (have_touched listed x || (one.character == x)) ≡ have_touched more x
next_listed listed more one x is =
    ap (λ b. have_touched listed x || b) (sym (or-false (one.character == x)))
    ∙ sym (list_any-append (λ (s : TouchedCharacter). s.character == x) listed (one ∷ []))
    ∙ ap (λ (ts : List TouchedCharacter). have_touched ts x) (sym is)

-- ---- the character of a code

is_same : (code x : ℕ) → (code == x) ≡ true → code ≡ x
is_same code x h = grind (arith, nat_tests)

at_code : (p : ℕ → Bool) (code x : ℕ) (v : Bool) → (code ≡ x → p x ≡ v) → ((code == x) && p x) ≡ ((code == x) && v)
at_code p code x v e = elim (cases_Bool (code == x)) [
  | inl h ↦ ap (λ b. b && p x) h ∙ e (is_same code x h) ∙ sym (ap (λ b. b && v) h)
  | inr h ↦ ap (λ b. b && p x) h ∙ sym (ap (λ b. b && v) h)
]

module _ (may : ℕ → Bool) (code x : ℕ) where
  abbrev loses : ℕ → Bool
  loses y = is_scalar y && may y

  -- the code isn't one of a character
  pub no_character : x < code_point_count → (code < code_point_count → is_scalar code ≡ false) → ((code == x) && loses x) ≡ false
  no_character small none =
      at_code loses code x false (λ e. ap (λ s. s && may x) (subst (λ y. is_scalar y ≡ false) e (none (subst (λ y. y < code_point_count) (sym e) small))))
      ∙ and-false (code == x)

  -- the character loses nothing
  pub loses_nothing : (c : ℕ) → c ≡ code → may c ≡ false → ((code == x) && loses x) ≡ false
  loses_nothing c is none =
      at_code loses code x false (λ e. ap (λ b. is_scalar x && b) (subst (λ y. may y ≡ false) (is ∙ e) none) ∙ and-false (is_scalar x))
      ∙ and-false (code == x)

  -- the character loses contexts
  pub loses_alone : (c : ℕ) → c ≡ code → is_scalar code ≡ true → may c ≡ true → (c == x) ≡ ((code == x) && loses x)
  loses_alone c is scalar has =
      ap (λ y. y == x) is ∙ sym (and-true (code == x))
      ∙ sym (at_code loses code x true (λ e. ap (λ s. s && may x) (subst (λ y. is_scalar y ≡ true) e scalar) ∙ subst (λ y. may y ≡ true) (is ∙ e) has))

touched_not : (touched has : Bool) → (not touched && has) ≡ true → touched ≡ false
touched_not true has e = absurd (true≢false (sym e))
touched_not false has e = refl

-- a character that may lose contexts isn't touched
pub may_be_untouched : (touched has b : Bool) → b ≡ (not touched && has) → b ≡ true → touched ≡ false
may_be_untouched touched has b is e = touched_not touched has (sym is ∙ e)
