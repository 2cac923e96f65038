-- Its elements are those of its text, and its followers those of its mappings.
use Rattle.std.proofs.Common.{ℕ, Option, IfSome, sym, subst, ◌∙◌}
use Rattle.icu_element_reading.specs.boundaries.BoundaryTables.{boundary_reading}
use Rattle.icu_element_facts.specs.Followers.{AreFollowers}
use Rattle.icu_element_facts.specs.KeptFacts.{IsNumberDigit, HasLeadingPrimary}
use Rattle.icu_element_facts.proofs.bases.with_base.Goals as goal

pub returns-in-Some : goal.returns-in-Some
returns-in-Some c =
    let reading = boundary_reading c.args.places.now in
    let itself = c.args.c in
    let l = c.with_elements.result in
    let made = c.with_elements.ensures in
    let known = c.requires in
    let follow : AreFollowers reading itself l.class l.followers =
    subst (λ (k : ℕ). AreFollowers reading itself k l.followers) (sym made.kind.1)
    (subst (λ (bits : ℕ). AreFollowers reading itself c.followers_of-followers.result.class bits) (sym made.followers) c.followers_of-followers.ensures) in
    record {
      starters = λ e. absurd (cc (sym made.kind.0 ∙ e));
      marked = λ e. absurd (cc (sym made.kind.0 ∙ e));
      mark = λ e. absurd (cc (sym made.kind.0 ∙ e));
      base = λ e. record {
        same = made.character;
        at_end = λ before. c.is_base.ensures c.if-not-is_base.false before ∙ sym c.in-Some.ensures ∙ sym made.elements;
        goes_on = ∣ follow ∣₁;
      };
      digit = subst (λ (o : Option ℕ). IfSome o (λ d. IsNumberDigit reading itself d)) (sym made.digit) tt;
      begins = λ e. known.begins (sym made.begins ∙ e);
      boundary = λ e. known.boundary (sym made.boundary ∙ e);
      leads = λ e. subst (HasLeadingPrimary reading itself) (sym made.leads) (known.leads (λ z. e (made.leads ∙ z)));
      head = λ e. known.head (sym made.boundary ∙ e) ∙ sym made.head;
    }
