-- The identical level's bytes order as its characters.
use Rattle.std.proofs.Common.{◌≡◌, ◌≢◌, ℕ, ◌+◌, ◌-◌, ◌^◌, ◌<◌, ◌≤◌, if◌then◌else◌, ◌==◌, List, [], ◌∷◌, ◌++◌, refl, ap, inl, inr, ◌⊎◌, arith, lit<, lit≤, eq-eqb, ne_eqb, map}
use Rattle.std.proofs.lemmas.Bool.{cases_eq}
use Rattle.std.proofs.lemmas.Bool.Decides.{nat_tests}
use Rattle.std.specs.List.{AllByRecursion}
use Rattle.std.specs.Ordering.{ordering_then}
use Rattle.icu_order_levels.specs.ListOrder.{list_order, IsUnder, IsOver, Precedes}
use Rattle.icu_order_levels.specs.Identical.{identical_bytes, identical_level, identical_rank, base_after, first_base, merge_character, difference_bytes}
use Rattle.icu_order_levels.proofs.LevelOrder.{over_less}
use Rattle.icu_order_levels.proofs.StepwiseOrder.{stepwise_bytes, StandAlong, IsRising, stepwise_order}
use Rattle.icu_order_levels.proofs.PrecedesLemmas.{precedes_over}
use Rattle.icu_order_levels.proofs.DifferenceOrder.{differences_rise, difference_leads}

-- a character's bytes after a base, and the base that it leaves
abbrev pub character_bytes : ℕ → ℕ → List ℕ
character_bytes base c = if c == merge_character then 2 ∷ [] else difference_bytes (c + 253 ^ 3 - base)

abbrev pub next_base : ℕ → ℕ → ℕ
next_base base c = if c == merge_character then first_base else base_after c

-- a base that occurs, and a character
abbrev pub IsPlaced : ℕ → ℕ → Type 0
IsPlaced base c = (base ≤ 1114191) × (c < 1114112)

as_steps : (cs : List ℕ) (base : ℕ) → identical_bytes base cs ≡ stepwise_bytes character_bytes next_base base cs
as_steps [] base = refl
as_steps (c ∷ cs) base = by (cases_eq c merge_character) (λ b. as_steps cs b)
  where
    by : (c ≡ merge_character) ⊎ (c ≡ merge_character → ⊥)
        → ((b : ℕ) → identical_bytes b cs ≡ stepwise_bytes character_bytes next_base b cs)
        → identical_bytes base (c ∷ cs) ≡ stepwise_bytes character_bytes next_base base (c ∷ cs)
    by (inl e) ih = rw (eq-eqb c merge_character e, identical_bytes) (ap (λ l. 2 ∷ l) (ih first_base))
    by (inr n) ih =
        rw (ne_eqb c merge_character n, identical_bytes) (ap (λ l. difference_bytes (c + 253 ^ 3 - base) ++ l) (ih (base_after c)))

mark_bytes : (b c : ℕ) → c ≡ merge_character → character_bytes b c ≡ 2 ∷ []
mark_bytes b c e = rw (eq-eqb c merge_character e) refl

other_bytes : (b c : ℕ) → c ≢ merge_character → character_bytes b c ≡ difference_bytes (c + 253 ^ 3 - b)
other_bytes b c n = rw (ne_eqb c merge_character n) refl

rank_mark : (c : ℕ) → c ≡ merge_character → identical_rank c ≡ 0
rank_mark c e = rw (eq-eqb c merge_character e) refl

rank_other : (c : ℕ) → c ≢ merge_character → identical_rank c ≡ c + 1
rank_other c e = rw (ne_eqb c merge_character e) refl

base_bound : (b c : ℕ) → c < 1114112 → next_base b c ≤ 1114191
base_bound b c l = grind (arith, nat_tests)

same_rank : (c d : ℕ) → identical_rank c ≡ identical_rank d → c ≡ d
same_rank c d e = grind (arith, nat_tests)

other_leads : (b c : ℕ) → IsPlaced b c → IsOver 2 (difference_bytes (c + 253 ^ 3 - b))
other_leads b c p = difference_leads (c + 253 ^ 3 - b) (omega (arith, p.0, p.1)) (omega (arith, p.0, p.1))

pub characters_rise : IsRising identical_rank character_bytes next_base IsPlaced
characters_rise = record {
  leads = λ b c p. leads b c p (cases_eq c merge_character);
  rises = λ b c d p q l. rises b c d p q l (cases_eq c merge_character) (cases_eq d merge_character);
  same = λ b c d p q e. let s = same_rank c d e in (ap (character_bytes b) s, ap (next_base b) s);
}
  where
    leads : (b c : ℕ) → IsPlaced b c → (c ≡ merge_character) ⊎ (c ≡ merge_character → ⊥) → IsOver 1 (character_bytes b c)
    leads b c p (inl e) = rw (mark_bytes b c e) (lit< tt)
    leads b c p (inr n) = rw (other_bytes b c n) (over_less 1 2 (difference_bytes (c + 253 ^ 3 - b)) (lit≤ tt) (other_leads b c p))

    rises : (b c d : ℕ) → IsPlaced b c → IsPlaced b d → identical_rank c < identical_rank d → (c ≡ merge_character)
        ⊎ (c ≡ merge_character → ⊥) → (d ≡ merge_character) ⊎ (d ≡ merge_character → ⊥)
        → Precedes (character_bytes b c) (character_bytes b d)
    rises b c d p q l (inl e) (inl f) = absurd (omega (arith, rank_mark c e, rank_mark d f))
    rises b c d p q l (inl e) (inr n) =
        rw (mark_bytes b c e, other_bytes b d n) (precedes_over 2 (2 ∷ []) (difference_bytes (d + 253 ^ 3 - b)) (lit< tt) (lit< tt)
        (other_leads b d q))
    rises b c d p q l (inr n) (inl f) = absurd (omega (arith, rank_mark d f))
    rises b c d p q l (inr n) (inr m) = rw (other_bytes b c n, other_bytes b d m)
        (differences_rise (c + 253 ^ 3 - b) (d + 253 ^ 3 - b) (omega (arith, p.0)) (omega (arith, rank_other c n, rank_other d m, p.0))
        (omega (arith, q.0, q.1)))

all_placed : (cs : List ℕ) (b : ℕ) → b ≤ 1114191 → AllByRecursion (λ c. c < 1114112) cs → StandAlong next_base IsPlaced b cs
all_placed [] b l p = tt
all_placed (c ∷ cs) b l p = ((l, p.0), all_placed cs (next_base b c) (base_bound b c p.0) p.1)

-- The identical level: its bytes order as its characters, U+FFFE lowest, and then as what follows
pub identical_order : (cs ds s t : List ℕ) → AllByRecursion (λ c. c < 1114112) cs → AllByRecursion (λ c. c < 1114112) ds → IsUnder 2 s
    → IsUnder 2 t
    → list_order (identical_level cs ++ s) (identical_level ds ++ t)
    ≡ ordering_then (list_order (map identical_rank cs) (map identical_rank ds)) (list_order s t)
identical_order cs ds s t p q u v = rw (as_steps cs first_base, as_steps ds first_base)
    (stepwise_order identical_rank character_bytes next_base IsPlaced characters_rise cs ds first_base s t
    (all_placed cs first_base (lit≤ tt) p) (all_placed ds first_base (lit≤ tt) q) u v)

pub same_from_ranks : (cs ds : List ℕ) → map identical_rank cs ≡ map identical_rank ds → cs ≡ ds
same_from_ranks [] [] e = refl
same_from_ranks [] (d ∷ ds) e = cc
same_from_ranks (c ∷ cs) [] e = cc
same_from_ranks (c ∷ cs) (d ∷ ds) e =
    let h : identical_rank c ≡ identical_rank d = cc in
    let t : map identical_rank cs ≡ map identical_rank ds = cc in
    let x = same_rank c d h in let xs = same_from_ranks cs ds t in cc
