use Rattle.std.proofs.Common.{◌≡◌, Some, None, ◌&&◌, ◌≢◌, ℕ, List, length, ap, sym, ◌∙◌, rules}
use Rattle.std.specs.Prelude.{nat_eq, slice_get}
use Rattle.std.specs.List.{starts_with}
use Rattle.std.proofs.lemmas.Bool.{eq-eqb, ne_eqb}
use Rattle.icu_element_matches.proofs.steady_matches.BegunLemmas.{begins_there, ends_before}
use Rattle.icu_element_matches.proofs.steady_matches.begun.begins_with.Goals as goal

pub returns-in_default : goal.returns-in_default
returns-in_default c =
    let none : slice_get c.args.mapping.now (length c.args.front.now) ≡ None = search rules in
    sym (ends_before c.args.mapping.now c.args.front.now c.args.last none)

pub returns-then-next-last : goal.returns-then-next-last
returns-then-next-last c =
    let mapping : List ℕ = c.args.mapping.now in
    let front : List ℕ = c.args.front.now in
    let is : slice_get mapping (length front) ≡ Some c.in-Some.next = search rules in
    let other : c.args.last ≢ c.in-Some.next = λ e. c.if-next-last.true (sym e) in
    sym (begins_there mapping front c.args.last c.in-Some.next is ∙ ap (λ b. b && starts_with nat_eq mapping front) (ne_eqb c.args.last c.in-Some.next other))

pub returns : goal.returns
returns c =
    let mapping : List ℕ = c.args.mapping.now in
    let front : List ℕ = c.args.front.now in
    let is : slice_get mapping (length front) ≡ Some c.in-Some.next = search rules in
    c.starts_with.ensures.value
    ∙ sym (begins_there mapping front c.args.last c.in-Some.next is ∙ ap (λ b. b && starts_with nat_eq mapping front) (eq-eqb c.args.last c.in-Some.next (sym c.if-next-last.false)))
