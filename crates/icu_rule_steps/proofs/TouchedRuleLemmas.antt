-- The characters that rules touch, and the ranges that they suppress, one after another.
use Rattle.std.proofs.Common.{◌≡◌, ℕ, Bool, true, false, ◌||◌, List, [], ◌∷◌, ◌++◌, refl, sym, ap, ◌∙◌, append_assoc}
use Rattle.std.proofs.lemmas.Grind.{flat_map-append}
use Rattle.std.proofs.lemmas.List.{append-nil}
use Rattle.std.proofs.lemmas.List.Folds.{list_any-append}
use Rattle.std.proofs.Math.Bool.{or-false}
use Rattle.unicode_normalization.specs.Forms.{nfd}
use Rattle.icu_options.specs.declared.settings.Strength.{Strength}
use Rattle.icu_rule_parser.specs.declared.statement.CharacterRange.{CharacterRange}
use Rattle.icu_rule_meaning.specs.Rules.{Rule, relation}
use Rattle.icu_rule_meaning.specs.RootLaws.{string_begins}
use Rattle.icu_rule_steps.specs.declared.symbolic_mappings.kept_mappings.Mappings.{Mappings}
use Rattle.icu_rule_steps.specs.symbolic_mappings.TouchedCharacters.{root_of, HasTouched, TouchesByRule, TouchesByRules, TouchesMore, is_related, suppressed_ranges, relates, suppressed_by, suppressed_in, touched_in}

pub or_assoc : (a b c : Bool) → ((a || b) || c) ≡ (a || (b || c))
or_assoc true b c = refl
or_assoc false b c = refl

module _ {R : Type 0} where
  -- where mappings are the same, nothing more is touched
  pub touches_nothing : (old new : Mappings R) → new ≡ old → TouchesMore (λ _. false) [] old new
  touches_nothing old new same = record {
    touched = λ c. ap (λ (m : Mappings R). touched_in m c) same ∙ sym (or-false (touched_in old c));
    suppressed = ap (λ (m : Mappings R). suppressed_in m) same ∙ sym (append-nil (suppressed_in old));
    over = ap (λ (m : Mappings R). root_of m) same;
  }

  -- a rule alone
  pub touches_one : (rule : Rule) (old new : Mappings R) → TouchesByRule rule old new → TouchesByRules (rule ∷ []) old new
  touches_one rule old new by = record {
    touched = λ c. by.touched c ∙ ap (λ b. touched_in old c || b) (sym (or-false (relates c rule)));
    suppressed = by.suppressed ∙ ap (λ rs. suppressed_in old ++ rs) (sym (append-nil (suppressed_ranges rule)));
    over = by.over;
  }

  -- what stands before a change and after it may be named otherwise
  pub touches_between : (more : ℕ → Bool) (ranges : List CharacterRange) (old from to new : Mappings R) → from ≡ old → new ≡ to
      → TouchesMore more ranges from to → TouchesMore more ranges old new
  touches_between more ranges old from to new before after by = record {
    touched = λ c.
        ap (λ (m : Mappings R). touched_in m c) after ∙ by.touched c
        ∙ ap (λ (m : Mappings R). touched_in m c || more c) before;
    suppressed =
        ap (λ (m : Mappings R). suppressed_in m) after ∙ by.suppressed
        ∙ ap (λ (m : Mappings R). suppressed_in m ++ ranges) before;
    over = ap (λ (m : Mappings R). root_of m) after ∙ by.over ∙ ap (λ (m : Mappings R). root_of m) before;
  }

  -- a relation touches the first character of its decomposed string
  pub touches_related : (strength : Strength) (prefix string extension s : List ℕ) (old new : Mappings R) → s ≡ nfd string
      → TouchesMore (λ c. string_begins c s) [] old new → TouchesByRule (relation strength prefix string extension) old new
  touches_related strength prefix string extension s old new is by = record {
    touched = λ c. by.touched c ∙ ap (λ t. touched_in old c || string_begins c t) is;
    suppressed = by.suppressed;
    over = by.over;
  }

  -- so many of the rules were read that those left make all that is touched in the end
  pub record IsTouchedTo (whole : ℕ → Bool) (all : List CharacterRange) (root : R) (now : Mappings R) (rest : List Rule) : Type 0 where
    pub over : root_of now ≡ root
    pub touched : (c : ℕ) → (touched_in now c || is_related rest c) ≡ whole c
    pub suppressed : suppressed_in now ++ suppressed_by rest ≡ all

  -- what rules make of those that were touched before
  abbrev pub IsTouchedBy : Mappings R → List Rule → Mappings R → List Rule → Type 0
  IsTouchedBy old rules = IsTouchedTo (λ c. touched_in old c || is_related rules c) (suppressed_in old ++ suppressed_by rules) (root_of old)

  pub touched_none : (old : Mappings R) (rules rest : List Rule) → rest ≡ rules → IsTouchedBy old rules old rest
  touched_none old rules rest e = record {
    over = refl;
    touched = λ c. ap (λ rs. touched_in old c || is_related rs c) e;
    suppressed = ap (λ rs. suppressed_in old ++ suppressed_by rs) e;
  }

  pub touched_first : (rules rest : List Rule) (root : R) (now : Mappings R) → rest ≡ rules → HasTouched root [] now
      → IsTouchedTo (is_related rules) (suppressed_by rules) root now rest
  touched_first rules rest root now e none = record {
    over = none.over;
    touched = λ c. ap (λ b. b || is_related rest c) (none.touched c) ∙ ap (λ rs. is_related rs c) e;
    suppressed = ap (λ rs. rs ++ suppressed_by rest) none.suppressed ∙ ap suppressed_by e;
  }

  module _ (whole : ℕ → Bool) (all : List CharacterRange) (root : R) where
    pub touched_one : (now next : Mappings R) (rest rest' : List Rule) (rule : Rule) → rest ≡ rule ∷ rest'
        → IsTouchedTo whole all root now rest → TouchesByRule rule now next → IsTouchedTo whole all root next rest'
    touched_one now next rest rest' rule e to by = record {
      over = by.over ∙ to.over;
      touched = λ c.
          ap (λ b. b || is_related rest' c) (by.touched c)
          ∙ or_assoc (touched_in now c) (relates c rule) (is_related rest' c)
          ∙ ap (λ rs. touched_in now c || is_related rs c) (sym e) ∙ to.touched c;
      suppressed =
          ap (λ rs. rs ++ suppressed_by rest') by.suppressed
          ∙ append_assoc (suppressed_in now) (suppressed_ranges rule) (suppressed_by rest')
          ∙ ap (λ rs. suppressed_in now ++ suppressed_by rs) (sym e) ∙ to.suppressed;
    }

    pub touched_more : (now next : Mappings R) (rest first rest' : List Rule) → rest ≡ first ++ rest'
        → IsTouchedTo whole all root now rest → TouchesByRules first now next → IsTouchedTo whole all root next rest'
    touched_more now next rest first rest' e to by = record {
      over = by.over ∙ to.over;
      touched = λ c.
          ap (λ b. b || is_related rest' c) (by.touched c)
          ∙ or_assoc (touched_in now c) (is_related first c) (is_related rest' c)
          ∙ ap (λ b. touched_in now c || b) (sym (list_any-append (relates c) first rest'))
          ∙ ap (λ rs. touched_in now c || is_related rs c) (sym e) ∙ to.touched c;
      suppressed =
          ap (λ rs. rs ++ suppressed_by rest') by.suppressed
          ∙ append_assoc (suppressed_in now) (suppressed_by first) (suppressed_by rest')
          ∙ ap (λ rs. suppressed_in now ++ rs) (sym (flat_map-append suppressed_ranges first rest'))
          ∙ ap (λ rs. suppressed_in now ++ suppressed_by rs) (sym e) ∙ to.suppressed;
    }

    pub touched_same : (now next : Mappings R) (rest rest' : List Rule) → rest ≡ rest' → next ≡ now
        → IsTouchedTo whole all root now rest → IsTouchedTo whole all root next rest'
    touched_same now next rest rest' e same to = record {
      over = ap (λ (m : Mappings R). root_of m) same ∙ to.over;
      touched = λ c.
          ap (λ (m : Mappings R). touched_in m c || is_related rest' c) same
          ∙ ap (λ rs. touched_in now c || is_related rs c) (sym e) ∙ to.touched c;
      suppressed =
          ap (λ (m : Mappings R). suppressed_in m ++ suppressed_by rest') same
          ∙ ap (λ rs. suppressed_in now ++ suppressed_by rs) (sym e) ∙ to.suppressed;
    }

  touched_end : (whole : ℕ → Bool) (all : List CharacterRange) (root : R) (now : Mappings R) (rest : List Rule) → rest ≡ []
      → IsTouchedTo whole all root now rest → ((c : ℕ) → touched_in now c ≡ whole c) × (suppressed_in now ≡ all)
  touched_end whole all root now rest e to =
      let touched : (c : ℕ) → touched_in now c ≡ whole c = λ c.
      sym (or-false (touched_in now c)) ∙ ap (λ rs. touched_in now c || is_related rs c) (sym e) ∙ to.touched c in
      let suppressed : suppressed_in now ≡ all =
      sym (append-nil (suppressed_in now)) ∙ ap (λ rs. suppressed_in now ++ suppressed_by rs) (sym e) ∙ to.suppressed in
      (touched, suppressed)

  pub touched_all : (old now : Mappings R) (rules rest : List Rule) → rest ≡ [] → IsTouchedBy old rules now rest → TouchesByRules rules old now
  touched_all old now rules rest e to =
      let end = touched_end (λ c. touched_in old c || is_related rules c) (suppressed_in old ++ suppressed_by rules) (root_of old) now rest e to in
      record { touched = end.0; suppressed = end.1; over = to.over }

  pub touched_whole : (rules rest : List Rule) (root : R) (now : Mappings R) → rest ≡ []
      → IsTouchedTo (is_related rules) (suppressed_by rules) root now rest → HasTouched root rules now
  touched_whole rules rest root now e to =
      let end = touched_end (is_related rules) (suppressed_by rules) root now rest e to in
      record { over = to.over; touched = end.0; suppressed = end.1 }
