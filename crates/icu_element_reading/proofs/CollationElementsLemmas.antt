-- What is left of an iterator of elements, at each progress, and of the reader that it reads by.
use Rattle.std.proofs.Common.{◌≡◌, ℕ, ◌+◌, ◌<◌, List, [], ◌∷◌, ◌++◌, length, drop, get_or, Option, Some, None, unwrap_or, refl, sym, ap, subst, ◌∙◌}
use Rattle.std.specs.Prelude.{option_to_list}
use Rattle.std.proofs.lemmas.List.{drop_more}
use Rattle.std.specs.Iterator.{Count}
use Rattle.icu_element_reading.specs.inner.Iterating.{CanRead}
use Rattle.icu_table_entries.specs.Elements.{Element, end_element}
use Rattle.icu_element_reading.specs.declared.element_reader.ElementReader.{ElementReader}
use Rattle.icu_element_reading.specs.declared.collation_elements.Progress.TheVariants.{Reading as InProgress, Refused}
use Rattle.icu_element_reading.specs.declared.collation_elements.CollationElements.{CollationElements}
use Rattle.icu_element_reading.specs.CollationElements.{HasSource, IsLeftAt, StillGives, IsReadyAt, CanGive, first_of, rest_of}
use Rattle.icu_element_reading.specs.inner.ReadyElements.{ready_elements}

module _ {I : Type 0} (steps : I → Option ℕ → I → Type 0) (s : CollationElements I) (es : List Element) where
  pub HasSource-StillGives : s.progress ≡ InProgress → StillGives steps s es → HasSource steps s es
  unfolding StillGives
  HasSource-StillGives e h = subst (λ p. IsLeftAt p steps s es) e h

  pub StillGives-source : s.progress ≡ InProgress → HasSource steps s es → StillGives steps s es
  unfolding StillGives
  StillGives-source e h = subst (λ p. IsLeftAt p steps s es) (sym e) h

module _ {I : Type 0} (can : I → Type 0) (left : I → Count) (s : CollationElements I) where
  pub CanRead-CanGive : s.progress ≡ InProgress → CanGive can left s → CanRead can left s.source
  unfolding CanGive
  CanRead-CanGive e h = subst (λ p. IsReadyAt p can left s) e h

  pub CanGive-reading : s.progress ≡ InProgress → CanRead can left s.source → CanGive can left s
  unfolding CanGive
  CanGive-reading e h = subst (λ p. IsReadyAt p can left s) (sym e) h

  pub CanGive-refused : s.progress ≡ Refused → CanGive can left s
  unfolding CanGive
  CanGive-refused e = subst (λ p. IsReadyAt p can left s) (sym e) tt

-- ---- the first of what is left

-- an element that is given, or none where none is left, is the first, and the others are left
pub first_given : (es before after others : List Element) (o : Option Element) → es ≡ before ++ others → before ≡ option_to_list o ++ after → (o ≡ None → es ≡ [])
    → (unwrap_or o end_element ≡ first_of es) × (rest_of es ≡ after ++ others)
first_given es before after others (Some x) e split end =
    let all : es ≡ x ∷ (after ++ others) = e ∙ ap (λ (l : List Element). l ++ others) split in (sym (ap first_of all), ap rest_of all)
first_given es before after others None e split end =
    let none : es ≡ [] = end refl in
    let left : [] ≡ after ++ others = sym none ∙ e ∙ ap (λ (l : List Element). l ++ others) split in (sym (ap first_of none), ap rest_of none ∙ left)

-- where one stands ready, it is the first
pub first_ready : (r : ElementReader) (e : Element) → r.next < length r.ready.elements.items → e ≡ get_or r.ready.elements.items r.next e
    → ready_elements r ≡ e ∷ drop (r.next + 1) r.ready.elements.items
first_ready r e inside is = drop_more r.ready.elements.items r.next e inside ∙ ap (λ x. x ∷ drop (r.next + 1) r.ready.elements.items) (sym is)
