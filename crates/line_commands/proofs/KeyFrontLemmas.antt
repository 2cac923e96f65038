-- A key of which the first eight bytes were taken.
use Rattle.std.proofs.Common.{◌≡◌, ℕ, ◌≤◌, ◌⊎◌, inl, inr, List, [], ◌++◌, length, take, take_all, sym, ap, ◌∙◌, arith, subst, append_assoc}
use Rattle.std.proofs.lemmas.List.{take-append-le}
use Rattle.std.specs.Prelude.{Err}
use Rattle.icu_order_levels.specs.beginnings.KeyBeginnings.{AreBytes}
use Rattle.icu_index_keys.specs.inner.NameEntries.{prefix_of}
use Rattle.icu_key_writers.specs.Writes.{WriteFails}
use Rattle.line_sorts.proofs.FrontTellsLemmas.{prefix_front}
use Rattle.line_commands.specs.declared.line_front.Full.{Full}
use Rattle.line_commands.specs.declared.line_front.KeyFront.{KeyFront}
use Rattle.line_commands.specs.inner.KeyFronts.{IsFrontOf, front_bytes, front_effects}

module _ (number : ℕ) (key : List ℕ) (x y : KeyFront) (none : front_bytes x ≡ []) (is : number ≡ prefix_of (front_bytes y)) (bytes : AreBytes (front_bytes y)) where
  of_taken : take 8 key ≡ front_bytes y → IsFrontOf number key
  of_taken e = record {
    number = is ∙ (ap prefix_of (sym e) ∙ prefix_front key);
    bytes = subst AreBytes (sym e) bytes;
  }

  -- the whole key was taken
  pub whole_taken : (z : KeyFront) → length (front_bytes y) ≤ 8 → front_bytes z ≡ front_bytes x ++ key → y ≡ z → IsFrontOf number key
  whole_taken z few took same =
      let e : front_bytes y ≡ key = ap front_bytes same ∙ (took ∙ ap (λ bs. bs ++ key) none) in
      of_taken (take_all 8 key (subst (λ (bs : List ℕ). length bs ≤ 8) e few) ∙ sym e)

  -- eight bytes of it were taken, and the next one refused
  part_taken : (s t : Unit {0}) (e : Full) → WriteFails front_effects x s key e y t → IsFrontOf number key
  part_taken s t e h =
      let begun = h.fails.0 in
      let full = h.fails.1 in
      let same : front_bytes y ≡ h.front ++ begun.front = begun.taken ∙ ap (λ bs. bs ++ begun.front) (h.taken ∙ ap (λ bs. bs ++ h.front) none) in
      let parts : key ≡ front_bytes y ++ (begun.rest ++ h.rest) =
      h.splits
      ∙ (ap (λ bs. h.front ++ (bs ++ h.rest)) begun.splits
      ∙ (ap (λ bs. h.front ++ bs) (append_assoc begun.front begun.rest h.rest)
      ∙ (sym (append_assoc h.front begun.front (begun.rest ++ h.rest)) ∙ ap (λ bs. bs ++ (begun.rest ++ h.rest)) (sym same)))) in
      of_taken (ap (take 8) parts
      ∙ (take-append-le 8 (front_bytes y) (begun.rest ++ h.rest) (omega (arith, full))
      ∙ take_all 8 (front_bytes y) (omega (arith, full))))

  pub refused_taken : (s : Unit {0}) (e : Full)
      → ((t : Unit {0}) × WriteFails front_effects x s key e y t)
      ⊎ ((z : KeyFront) × (t : Unit {0}) × front_effects.took x s key z t × front_effects.finished z t (Err e) y)
      → IsFrontOf number key
  refused_taken s e (inl h) = part_taken s h.0 e h.1
  refused_taken s e (inr h) = let never = h.3.0 in cc
