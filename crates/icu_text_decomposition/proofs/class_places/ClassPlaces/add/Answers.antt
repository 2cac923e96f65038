use Rattle.std.proofs.Common.{◌≡◌, ◌≢◌, true, false, is_some, subst, sym, ap, ◌∙◌, arith, inl, inr, refl}
use Rattle.std.proofs.lemmas.Bool.{cases_eq}
use Rattle.ucd_normal.specs.CanonicalCombiningClass.{canonical_combining_class as class_of}
use Rattle.icu_text_decomposition.specs.inner.ClassNumbers.{IsUsedClass}
use Rattle.icu_text_decomposition.specs.inner.ClassPlaces.{places_of, found_left}
use Rattle.icu_text_decomposition.specs.inner.Parts.{parts_left}
use Rattle.icu_text_decomposition.proofs.ClassNumberLemmas.{mark_class-is_used}
use Rattle.icu_text_decomposition.proofs.ClassPlaceLemmas.{found_other, found_before, found_first}
use Rattle.icu_text_decomposition.proofs.class_places.ClassPlaces.add.Goals as goal

pub returns-then-class-above : goal.returns-then-class-above
returns-then-class-above g c = λ k high.
    let is = c.from-class.ensures in let own = c.canonical_combining_class.ensures in let low = c.if-class-above.true in
    let other : class_of c.args.mark ≢ k = λ e. absurd (omega arith) in
    found_other _ k (places_of c.args.self.now k) _ _ c.args.mark c.requires.at c.requires.is_mark other

pub returns-then-is_some : goal.returns-then-is_some
returns-then-is_some g c = λ k high.
    let is = c.from-class.ensures in let own = c.canonical_combining_class.ensures in
    elim (cases_eq (class_of c.args.mark) k) [
      | inl same ↦
          let class : c.from-class.result ≡ k = is ∙ own ∙ same in
          let some : is_some (places_of c.args.self.now k) ≡ true = ap (λ n. is_some (places_of c.args.self.now n)) (sym class) ∙ ap is_some (sym c.get.ensures) ∙ sym c.is_some.ensures ∙ c.if-is_some.true in
          found_before _ k (places_of c.args.self.now k) _ _ some
      | inr other ↦ found_other _ k (places_of c.args.self.now k) _ _ c.args.mark c.requires.at c.requires.is_mark other
    ]

pub set-requires : goal.set-requires
set-requires g c = λ _. subst IsUsedClass (sym (c.from-class.ensures ∙ c.canonical_combining_class.ensures)) (mark_class-is_used c.args.mark c.requires.is_mark)

pub returns : goal.returns
returns g c = λ k high.
    let is = c.from-class.ensures in let own = c.canonical_combining_class.ensures in
    elim (cases_eq (class_of c.args.mark) k) [
      | inl same ↦
          let class : c.from-class.result ≡ k = is ∙ own ∙ same in
          let none : is_some (places_of c.args.self.now k) ≡ false = ap (λ n. is_some (places_of c.args.self.now n)) (sym class) ∙ ap is_some (sym c.get.ensures) ∙ sym c.is_some.ensures ∙ c.if-is_some.false in
          found_first _ k (places_of c.args.self.now k) (places_of c.set.new.self k) c.args.at _ _ none (ap (places_of c.set.new.self) (sym class) ∙ c.set.ensures.own) refl
      | inr other ↦
          ap (λ o. found_left g.T.EncodedText.text k o (parts_left g.T.EncodedText.text c.args.after)) (c.set.ensures.others k (λ e. other (sym (e ∙ is ∙ own))))
          ∙ found_other _ k (places_of c.args.self.now k) _ _ c.args.mark c.requires.at c.requires.is_mark other
    ]
