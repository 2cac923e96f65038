-- Elements of texts, read once.
use Rattle.std.specs.Prelude.{◌≡◌, ℕ, List, IfSome, take}
use Rattle.icu_table_entries.specs.Elements.{Element}
use Rattle.icu_order_texts.specs.weighting.Collations.{Collation}
use Rattle.icu_order_texts.specs.TextOrder.{handled_by}
use Rattle.unicode_normalization.specs.Forms.{nfd}
use Rattle.icu_collator.specs.declared.handled.HandledElements.{HandledElements}
use Rattle.icu_collator.specs.declared.room.Room.{Room}
use Rattle.icu_collator.specs.declared.element_order.TwoTexts.{TwoTexts}
use Rattle.icu_collator.specs.HandledRests.{handled_rest}

-- the elements in a room
unfoldable pub held : Room → List Element
held room = take room.count room.elements

-- two lists of elements are those of two texts, as a collation handles them
abbrev pub AreHandled : Collation → List ℕ → List ℕ → HandledElements × HandledElements → Type 0
AreHandled c t u read = (handled_rest read.0 ≡ handled_by c (nfd t)) × (handled_rest read.1 ≡ handled_by c (nfd u))

-- the elements of two texts, if they were read, are theirs
abbrev pub HasRead : {T U : Type 0} → Collation → (T → List ℕ) → (U → List ℕ) → TwoTexts T U → Type 0
HasRead c text other_text texts = IfSome texts.read (AreHandled c (text texts.left) (other_text texts.right))
