-- Lists that begin with others, and where bytes that begin with others stand in dictionary order (UTS #10, "Compare
-- Sort Keys").
use Rattle.std.specs.Prelude.{Bool, true, false, not, ◌&&◌, ◌==◌, ℕ, ◌+◌, ◌<◌, nat_lt, List, [], ◌∷◌, Option, Some, None, if◌then◌else◌}
use Rattle.std.specs.List.{AllByRecursion}
use Rattle.std.specs.Ordering.{is_lt}
use Rattle.icu_order_levels.specs.ListOrder.{list_order}

-- each number is a byte
abbrev pub AreBytes : List ℕ → Type 0
AreBytes bs = AllByRecursion (λ b. b < 256) bs

-- whether the first list begins the second
abbrev pub begins : List ℕ → List ℕ → Bool
begins [] ys = true
begins (x ∷ xs) [] = false
begins (x ∷ xs) (y ∷ ys) = (x == y) && begins xs ys

-- a byte before what stands above all that begins with the bytes behind it
abbrev pub raised : ℕ → Option (List ℕ) → Option (List ℕ)
raised b (Some bs) = Some (b ∷ bs)
raised b None = if nat_lt b 255 then Some ((b + 1) ∷ []) else None

-- the least bytes above all that begin with these, if there are such: without the bytes FF that they end in, and the
-- last byte raised by one
abbrev pub least_above : List ℕ → Option (List ℕ)
least_above [] = None
least_above (b ∷ bs) = raised b (least_above bs)

-- whether bytes stand before an upper bound, which may be absent
abbrev pub is_below : Option (List ℕ) → List ℕ → Bool
is_below None bs = true
is_below (Some bound) bs = is_lt (list_order bs bound)

-- whether bytes stand between a lower bound, which they may be, and an upper one
abbrev pub stands_between : List ℕ → Option (List ℕ) → List ℕ → Bool
stands_between lower upper bs = not (is_lt (list_order bs lower)) && is_below upper bs
