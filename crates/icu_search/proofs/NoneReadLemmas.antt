-- Reading the elements of a text as long as they give nothing below the quaternary level.
use Rattle.std.proofs.Common.{◌≡◌, ℕ, Bool, false, List, [], ◌∷◌, ◌++◌, Option, Some, None, sym, ap, ◌∙◌, append_assoc, append-nil}
use Rattle.std.specs.Prelude.{IfSome, option_to_list}
use Rattle.std.specs.List.{list_all}
use Rattle.unicode_normalization.specs.Forms.{nfd}
use Rattle.icu_table_entries.specs.Elements.{Element}
use Rattle.icu_element_reading.specs.TextElements.{Reading, elements_of}
use Rattle.icu_order_texts.specs.weighting.Collations.{Collation}
use Rattle.icu_order_texts.specs.weighting.Forms.{last_variable_by}
use Rattle.icu_order_texts.specs.TextOrder.{reading_by}
use Rattle.icu_search.specs.inner.SilentStarts.{is_weightless, gives_none, PassesNone}
use Rattle.icu_search.specs.inner.SilentTexts.{GivesNone, HasFirstElement}
use Rattle.icu_search.proofs.SilentElementLemmas.{Carries, carries_none, carries_on}

-- Some elements were read, none of which gives anything, and these are left. A variable one came last, or none did.
pub record ReadNone (c : Collation) (text : List ℕ) (left : List Element) (after : Bool) : Type 0 where
  pub gone : List Element
  pub elements : elements_of (reading_by c) (nfd text) ≡ gone ++ left
  pub carries : Carries (last_variable_by c) gone after

module _ (c : Collation) (text : List ℕ) where
  pub none_read : (left : List Element) → left ≡ elements_of (reading_by c) (nfd text) → ReadNone c text left false
  none_read left is = record { gone = []; elements = sym is; carries = carries_none (last_variable_by c) }

  pub one_read : (old new : List Element) (after now : Bool) (x : Element) → ReadNone c text old after → old ≡ x ∷ new → PassesNone (last_variable_by c) after x now → ReadNone c text new now
  one_read old new after now x r next passes = record {
    gone = r.gone ++ x ∷ [];
    elements = r.elements ∙ ap (λ (l : List Element). r.gone ++ l) next ∙ sym (append_assoc r.gone (x ∷ []) new);
    carries = carries_on (last_variable_by c) r.gone after x now r.carries passes;
  }

  -- none is left
  pub all_read : (old : List Element) (after : Bool) → ReadNone c text old after → old ≡ [] → GivesNone c text after
  unfolding gives_none
  all_read old after r none =
      let all : elements_of (reading_by c) (nfd text) ≡ r.gone = r.elements ∙ ap (λ (l : List Element). r.gone ++ l) none ∙ append-nil r.gone in
      record {
        silent = ap (gives_none (last_variable_by c) false) (all ∙ sym (append-nil r.gone)) ∙ r.carries.none [];
        weightless = λ not. ap (list_all is_weightless) all ∙ r.carries.weightless not;
      }

-- the element with which those of a text begin, if there is one
pub first_of_all : (reading : Reading) (text : List ℕ) (next : Option Element) (rest : List Element) → elements_of reading (nfd text) ≡ option_to_list next ++ rest
    → IfSome next (HasFirstElement reading text)
first_of_all reading text None rest is = tt
first_of_all reading text (Some e) rest is = record { rest = rest; is = is }
