-- A place in a text whose parts are read in canonical order.
use Rattle.std.specs.Prelude.{◌≡◌, ℕ, true, List, Option, Some, None}
use Rattle.std.specs.Option.{ForSome}
use Rattle.unicode_normalization.specs.Order.{is_ordered, canonical_order}
use Rattle.icu_text_decomposition.specs.declared.class_pass.ClassPass.{ClassPass}
use Rattle.icu_text_decomposition.specs.declared.ordered_parts.OrderedParts.{OrderedParts}
use Rattle.icu_text_decomposition.specs.inner.FrontMarks.{front_marks}
use Rattle.icu_text_decomposition.specs.inner.Parts.{parts_left}
use Rattle.icu_text_decomposition.specs.inner.Passes.{IsClassPass, pass_left}

-- the marks at the place are in order, where it says so, and the run is read as it should be, where one is read
pub record IsPlace {T : Type 0} (text : T → List ℕ) (r : OrderedParts T) : Type 0 where
  pub in_order : r.in_order ≡ true → is_ordered (front_marks (parts_left text r.parts)) ≡ true
  pub pass : ForSome r.pass (IsClassPass text)

-- what is left of the run and after it, or of the text in canonical order where no run is read
abbrev pub left_at : {T : Type 0} → (T → List ℕ) → List ℕ → Option (ClassPass T) → List ℕ
left_at text parts None = canonical_order parts
left_at text parts (Some pass) = pass_left text pass

-- what is still to be read in canonical order
abbrev pub order_left : {T : Type 0} → (T → List ℕ) → OrderedParts T → List ℕ
order_left text r = left_at text (parts_left text r.parts) r.pass
