-- A key whose elements come one at a time.
use Rattle.std.proofs.Common.{◌≡◌, ℕ, List, [], ◌∷◌, Option, Some, None, Err, refl, sym, subst}
use Rattle.icu_key_writers.specs.Sinks.{SinkEffects}
use Rattle.icu_key_writers.specs.declared.error.SortKeyError.{SortKeyError}
use Rattle.icu_key_writers.specs.declared.error.SortKeyError.TheVariants.{NoMemory}
use Rattle.icu_key_writers.specs.KeyWrites.{KeyWrites}
use Rattle.icu_key_writers.proofs.Writing.{Owes}
use Rattle.icu_order_texts.specs.weighting.Handled.{HandledElement}
use Rattle.icu_order_texts.specs.declared.weighting.handled_element.Handled.{Handled}
use Rattle.icu_order_texts.specs.weighting.HandledSources.{GivesNext, handled_as}

pub one_given : (before after : List HandledElement) (o : Option Handled) (h : Handled) → o ≡ Some h → GivesNext before o after → before ≡ handled_as h ∷ after
one_given before after o h e w = subst (λ (o : Option Handled). GivesNext before o after) e w

pub none_given : (before after : List HandledElement) (o : Option Handled) → ((h : Handled) → o ≡ Some h → ⊥) → GivesNext before o after → before ≡ []
none_given before after None n w = w.0
none_given before after (Some h) n w = elim (n h refl) [ ]

-- a key that ran out of memory between two elements
pub stopped : {X St F E : Type 0} (effects : SinkEffects X St F E)
    (x y : X) (s t : St) (whole rest : List ℕ) (e : SortKeyError E) → e ≡ NoMemory → Owes effects x s whole rest y t → KeyWrites {O = Unit {0}} effects x s whole (Err e) y t
stopped effects x y s t whole rest e m o =
    subst (λ e. KeyWrites {O = Unit {0}} effects x s whole (Err e) y t) (sym m) (record { front = o.front; rest = rest; splits = o.splits; taken = o.taken })
