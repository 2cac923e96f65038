-- The order of texts by their indices (UTS #10, "Compare Sort Keys").
use Rattle.std.specs.Prelude.{ℕ, List, [], chars, slice_get, Some, None}
use Rattle.std.specs.Borrow.{Bor}
use Rattle.std.specs.declared.cmp.Ordering.{Ordering}
use Rattle.std.specs.Ordering.{ordering_then, nat_cmp}
use Rattle.icu_order_texts.specs.Collations.{Collation}
use Rattle.icu_order_texts.specs.TextOrder.{text_order}

-- the order of two indices of texts: that of the texts, and where these are Equal that of the indices
abbrev pub indices_order : Collation → (ℕ → List ℕ) → ℕ → ℕ → Ordering
indices_order c text i j = ordering_then (text_order c (text i) (text j)) (nat_cmp i j)

-- the characters of the text at an index; behind the last text, those of the empty one
abbrev pub text_at : List (Bor (List ℕ)) → ℕ → List ℕ
text_at texts i = elim (slice_get texts i) [ None ↦ chars [] | Some text ↦ chars text.now ]
