-- Facts of own characters.
use Rattle.std.proofs.Common.{◌≡◌, ℕ, true, [], ◌∷◌, Option, None, IfSome, refl, sym, ap, subst, ◌∙◌, append-nil}
use Rattle.std.specs.List.{list_all}
use Rattle.std.proofs.lemmas.Bool.{and_from, true≢false}
use Rattle.unicode_normalization.specs.Order.{is_starter}
use Rattle.icu_table_entries.specs.Elements.{Element}
use Rattle.icu_element_reading.specs.TextElements.{Reading}
use Rattle.icu_element_reading.specs.boundaries.Alone.{elements_by_char, elements_of_char, is_alone}
use Rattle.icu_element_facts.specs.KeptFacts.{AreTrueFacts, IsNumberDigit, IsOwn, char_elements}
use Rattle.icu_element_facts.specs.declared.char_facts.CharFacts.{CharFacts}
use Rattle.icu_element_facts.specs.declared.char_facts.FactsKind.TheVariants.{Starters}
use Rattle.icu_element_facts.proofs.OwnLemmas.{own_begins}

-- facts with the one element that its entry gives
pub own_true : (reading : Reading) (c : ℕ) (l : CharFacts) (e : Element) → IsOwn reading c → elements_of_char reading.tables c ≡ e ∷ [] → char_elements l ≡ e ∷ [] → l.kind ≡ Starters
    → l.digit ≡ None → l.leading_primary ≡ e.primary → l.has_boundary_before ≡ true → AreTrueFacts reading c l
own_true reading c l e h one given kind no_digit leading cut = record {
  starters = λ _. record {
    stands = record {
      alone = ap (list_all (is_alone reading)) h.itself ∙ and_from _ _ h.alone refl;
      elements = given ∙ sym one ∙ sym (append-nil (elements_of_char reading.tables c)) ∙ sym (ap (elements_by_char reading.tables) h.itself);
    };
    starters = ap (list_all is_starter) h.itself ∙ and_from _ _ h.boundary.starter refl;
  };
  marked = λ e. absurd (cc (sym kind ∙ e));
  mark = λ e. absurd (cc (sym kind ∙ e));
  base = λ e. absurd (cc (sym kind ∙ e));
  digit = subst (λ (o : Option ℕ). IfSome o (λ d. IsNumberDigit reading c d)) (sym no_digit) tt;
  begins = λ _. record { first = c; more = []; decomposes = h.itself; starter = h.boundary.starter };
  boundary = λ _. own_begins reading c h;
  leads = λ _. record {
    first = c;
    more = [];
    element = e;
    rest = [];
    decomposes = h.itself;
    starter = h.boundary.starter;
    alone = h.alone;
    elements = one;
    leading = sym leading;
  };
  head = λ e. absurd (true≢false (sym cut ∙ e));
}
