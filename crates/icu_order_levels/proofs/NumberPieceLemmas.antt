-- Pieces of numbers: outside a number and inside one, none begins another.
use Rattle.std.proofs.Common.{◌≡◌, ℕ, ◌%◌, List, [], ◌∷◌, ap, ap₂, inl, inr, arith}
use Rattle.icu_order_levels.specs.ListOrder.{IsBeginning}
use Rattle.icu_order_levels.specs.Premises.{IsFirstPiece, IsFurtherPiece}

parity : (a b : ℕ) → a ≡ b → a % 2 ≡ 0 → b % 2 ≡ 1 → ⊥
parity a b e h k = omega arith

pub first_pieces_apart : (p q : List ℕ) → IsFirstPiece p → IsFirstPiece q → IsBeginning p q → p ≡ q
first_pieces_apart [] q f g b = absurd f
first_pieces_apart (v ∷ []) [] f g b = absurd g
first_pieces_apart (v ∷ []) (w ∷ []) f g b = ap (λ z. z ∷ []) b.0
first_pieces_apart (v ∷ []) (w ∷ x ∷ []) f (inl g) b = absurd (omega (arith, b.0, g.0))
first_pieces_apart (v ∷ []) (w ∷ x ∷ []) f (inr g) b = absurd (omega (arith, b.0, g.0))
first_pieces_apart (v ∷ []) (w ∷ x ∷ y ∷ []) f (inl g) b = absurd (omega (arith, b.0, g.0))
first_pieces_apart (v ∷ []) (w ∷ x ∷ y ∷ []) f (inr g) b = absurd (omega (arith, b.0, g.0))
first_pieces_apart (v ∷ []) (w ∷ x ∷ y ∷ z ∷ q) f g b = absurd g
first_pieces_apart (v ∷ c ∷ []) [] f g b = absurd g
first_pieces_apart (v ∷ c ∷ []) (w ∷ []) f g b = absurd b.1
first_pieces_apart (v ∷ c ∷ []) (w ∷ x ∷ []) f g b = ap₂ (λ (s t : ℕ). s ∷ t ∷ []) b.0 b.1.0
first_pieces_apart (v ∷ c ∷ []) (w ∷ x ∷ y ∷ []) (inl f) (inl g) b = absurd (omega (arith, b.0, f.1, g.0))
first_pieces_apart (v ∷ c ∷ []) (w ∷ x ∷ y ∷ []) (inl f) (inr g) b = absurd (omega (arith, b.0, f.1, g.0))
first_pieces_apart (v ∷ c ∷ []) (w ∷ x ∷ y ∷ []) (inr f) (inl g) b = absurd (omega (arith, b.0, f.0, g.1))
first_pieces_apart (v ∷ c ∷ []) (w ∷ x ∷ y ∷ []) (inr f) (inr g) b = absurd (parity c x b.1.0 f.1 g.1)
first_pieces_apart (v ∷ c ∷ []) (w ∷ x ∷ y ∷ z ∷ q) f g b = absurd g
first_pieces_apart (v ∷ c ∷ d ∷ []) [] f g b = absurd g
first_pieces_apart (v ∷ c ∷ d ∷ []) (w ∷ []) f g b = absurd b.1
first_pieces_apart (v ∷ c ∷ d ∷ []) (w ∷ x ∷ []) f g b = absurd b.1.1
first_pieces_apart (v ∷ c ∷ d ∷ []) (w ∷ x ∷ y ∷ []) f g b =
    ap₂ (λ (s : ℕ) (t : List ℕ). s ∷ t) b.0 (ap₂ (λ (s t : ℕ). s ∷ t ∷ []) b.1.0 b.1.1.0)
first_pieces_apart (v ∷ c ∷ d ∷ []) (w ∷ x ∷ y ∷ z ∷ q) f g b = absurd g
first_pieces_apart (v ∷ c ∷ d ∷ e ∷ p) q f g b = absurd f

pub further_pieces_apart : (p q : List ℕ) → IsFurtherPiece p → IsFurtherPiece q → IsBeginning p q → p ≡ q
further_pieces_apart [] q f g b = absurd f
further_pieces_apart (v ∷ []) [] f g b = absurd g
further_pieces_apart (v ∷ []) (w ∷ []) f g b = ap (λ z. z ∷ []) b.0
further_pieces_apart (v ∷ []) (w ∷ x ∷ []) f g b = absurd (parity v w b.0 f g.0)
further_pieces_apart (v ∷ []) (w ∷ x ∷ y ∷ []) f g b = absurd (parity v w b.0 f g.0)
further_pieces_apart (v ∷ []) (w ∷ x ∷ y ∷ z ∷ q) f g b = absurd g
further_pieces_apart (v ∷ c ∷ []) [] f g b = absurd g
further_pieces_apart (v ∷ c ∷ []) (w ∷ []) f g b = absurd b.1
further_pieces_apart (v ∷ c ∷ []) (w ∷ x ∷ []) f g b = ap₂ (λ (s t : ℕ). s ∷ t ∷ []) b.0 b.1.0
further_pieces_apart (v ∷ c ∷ []) (w ∷ x ∷ y ∷ []) f g b = absurd (parity c x b.1.0 f.1 g.1)
further_pieces_apart (v ∷ c ∷ []) (w ∷ x ∷ y ∷ z ∷ q) f g b = absurd g
further_pieces_apart (v ∷ c ∷ d ∷ []) [] f g b = absurd g
further_pieces_apart (v ∷ c ∷ d ∷ []) (w ∷ []) f g b = absurd b.1
further_pieces_apart (v ∷ c ∷ d ∷ []) (w ∷ x ∷ []) f g b = absurd b.1.1
further_pieces_apart (v ∷ c ∷ d ∷ []) (w ∷ x ∷ y ∷ []) f g b =
    ap₂ (λ (s : ℕ) (t : List ℕ). s ∷ t) b.0 (ap₂ (λ (s t : ℕ). s ∷ t ∷ []) b.1.0 b.1.1.0)
further_pieces_apart (v ∷ c ∷ d ∷ []) (w ∷ x ∷ y ∷ z ∷ q) f g b = absurd g
further_pieces_apart (v ∷ c ∷ d ∷ e ∷ p) q f g b = absurd f
