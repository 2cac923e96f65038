-- Keys order as the level lists in turn.
use Rattle.std.proofs.Common.{◌≡◌, ℕ, ◌<◌, Bool, true, false, List, [], ◌∷◌, ◌++◌, map, length, refl, sym, ap, ◌∙◌, lit<, append_assoc, append-nil, Ordering, Equal, Option, Some, None}
use Rattle.std.specs.Ordering.{ordering_then}
use Rattle.std.specs.List.{AllByRecursion}
use Rattle.icu_order_levels.specs.ListOrder.{list_order, IsUnder}
use Rattle.icu_order_levels.specs.Primaries.{Compression, primary_level}
use Rattle.icu_order_levels.specs.Keys.{LevelPart, absent, opened, closed, part_bytes, parts_bytes, in_turn, Determines, TwoParts, PartDetermines, DetermineInTurn, LevelLists, secondary_part, case_part, tertiary_part, quaternary_part, identical_part, key_bytes, primaries_order, secondaries_order, cases_order, tertiaries_order, quaternaries_order, characters_order, levels_order}
use Rattle.icu_order_levels.specs.KeyPremises.{ReachableWeights, SecondaryWeights, TertiaryWeights, QuaternaryWeights, SecondaryMembers, TertiaryMembers, QuaternaryMembers, AreWeights, AreLists, AreParallel}
use Rattle.icu_order_levels.proofs.Order.{same_head}
use Rattle.icu_order_levels.proofs.Orderings.{then_assoc, then_equal, then_when}
use Rattle.icu_order_levels.proofs.PrimaryOrder.{primary_order}
use Rattle.icu_order_levels.proofs.SecondaryOrder.{secondary_order, backward_order}
use Rattle.icu_order_levels.proofs.CaseOrder.{lower_first_order, upper_first_order}
use Rattle.icu_order_levels.proofs.TertiaryOrder.{tertiary_order}
use Rattle.icu_order_levels.proofs.QuaternaryOrder.{quaternary_order, unshifted_order}
use Rattle.icu_order_levels.proofs.IdenticalOrder.{identical_order}
use Rattle.icu_order_levels.specs.declared.forms.CaseForm.{CaseForm}
use Rattle.icu_order_levels.specs.declared.forms.CaseForm.TheVariants.{LowerFirst, UpperFirst}
use Rattle.icu_order_levels.specs.declared.forms.KeyForm.{KeyForm}
use Rattle.icu_order_levels.specs.declared.forms.QuaternaryForm.{QuaternaryForm}
use Rattle.icu_order_levels.specs.declared.forms.QuaternaryForm.TheVariants.{MayShift, Unshifted}
use Rattle.icu_order_levels.specs.declared.forms.SecondaryForm.{SecondaryForm}
use Rattle.icu_order_levels.specs.declared.forms.SecondaryForm.TheVariants.{Backward, Forward}
use Rattle.icu_order_levels.specs.declared.forms.TertiaryForm.{TertiaryForm}

-- ---- levels one after another

-- 01 before both
opened_determines : (ps qs : List ℕ) (o : Ordering) → Determines ps qs o → Determines (1 ∷ ps) (1 ∷ qs) o
opened_determines ps qs o h s t u v = same_head 1 (ps ++ s) (qs ++ t) ∙ h s t u v

-- and 01 after both
closed_determines : (ps qs : List ℕ) (o : Ordering) → Determines ps qs o → Determines (1 ∷ (ps ++ 1 ∷ [])) (1 ∷ (qs ++ 1 ∷ [])) o
closed_determines ps qs o h s t u v =
    same_head 1 ((ps ++ 1 ∷ []) ++ s) ((qs ++ 1 ∷ []) ++ t)
    ∙ (rw (append_assoc ps (1 ∷ []) s, append_assoc qs (1 ∷ []) t) (h (1 ∷ s) (1 ∷ t) (lit< tt) (lit< tt))
    ∙ ap (ordering_then o) (same_head 1 s t))

pub part_determines : (p q : LevelPart) (o : Ordering) → PartDetermines p q o → Determines (part_bytes p) (part_bytes q) o
part_determines absent absent o h s t u v = rw h refl
part_determines absent (opened qs) o h s t u v = absurd h
part_determines absent (closed qs) o h s t u v = absurd h
part_determines (opened ps) absent o h s t u v = absurd h
part_determines (opened ps) (opened qs) o h s t u v = opened_determines ps qs o h s t u v
part_determines (opened ps) (closed qs) o h s t u v = absurd h
part_determines (closed ps) absent o h s t u v = absurd h
part_determines (closed ps) (opened qs) o h s t u v = absurd h
part_determines (closed ps) (closed qs) o h s t u v = closed_determines ps qs o h s t u v

-- later levels begin with 01
parts_low : (ps : List LevelPart) (s : List ℕ) → IsUnder 2 s → IsUnder 2 (parts_bytes ps ++ s)
parts_low [] s u = u
parts_low (absent ∷ ps) s u = parts_low ps s u
parts_low (opened bs ∷ ps) s u = lit< tt
parts_low (closed bs ∷ ps) s u = lit< tt

-- a first part, and what determines an order where it ties
followed : (ps qs xs ys : List ℕ) (o p : Ordering) → Determines ps qs o → ((s : List ℕ) → IsUnder 2 s → IsUnder 2 (xs ++ s))
    → ((t : List ℕ) → IsUnder 2 t → IsUnder 2 (ys ++ t))
    → (o ≡ Equal → Determines xs ys p) → Determines (ps ++ xs) (qs ++ ys) (ordering_then o p)
followed ps qs xs ys o p h low low2 rest s t u v =
    rw (append_assoc ps xs s, append_assoc qs ys t) (h (xs ++ s) (ys ++ t) (low s u) (low2 t v)
    ∙ (then_when o (list_order (xs ++ s) (ys ++ t)) (ordering_then p (list_order s t)) (λ e. rest e s t u v)
    ∙ then_assoc o p (list_order s t)))

pub parts_determine : (ps : List TwoParts) → DetermineInTurn ps → Determines (parts_bytes (map (λ p. p.left) ps)) (parts_bytes (map (λ p. p.right) ps))
    (in_turn (map (λ p. p.order) ps))
parts_determine [] h = λ s t u v. refl
parts_determine (p ∷ ps) h =
    followed (part_bytes p.left) (part_bytes p.right) (parts_bytes (map (λ p. p.left) ps)) (parts_bytes (map (λ p. p.right) ps)) p.order
    (in_turn (map (λ p. p.order) ps))
    (part_determines p.left p.right p.order h.0) (parts_low (map (λ p. p.left) ps)) (parts_low (map (λ p. p.right) ps))
    (λ e. parts_determine ps (h.1 e))

-- the whole: a first level, and the others in turn
pub levels_determine : (ps qs : List ℕ) (o : Ordering) (parts : List TwoParts) → Determines ps qs o → (o ≡ Equal → DetermineInTurn parts)
    → list_order (ps ++ parts_bytes (map (λ p. p.left) parts)) (qs ++ parts_bytes (map (λ p. p.right) parts))
    ≡ in_turn (o ∷ map (λ p. p.order) parts)
levels_determine ps qs o parts h rest =
    sym (ap (λ l. list_order l (qs ++ parts_bytes (map (λ p. p.right) parts))) (append-nil (ps ++ parts_bytes (map (λ p. p.left) parts))))
    ∙ (sym (ap (λ l. list_order ((ps ++ parts_bytes (map (λ p. p.left) parts)) ++ []) l)
    (append-nil (qs ++ parts_bytes (map (λ p. p.right) parts))))
    ∙ (followed ps qs (parts_bytes (map (λ p. p.left) parts)) (parts_bytes (map (λ p. p.right) parts)) o
    (in_turn (map (λ p. p.order) parts)) h
    (parts_low (map (λ p. p.left) parts)) (parts_low (map (λ p. p.right) parts)) (λ e. parts_determine parts (rest e)) [] [] tt tt
    ∙ then_equal (ordering_then o (in_turn (map (λ p. p.order) parts)))))

-- ---- the six levels
pub secondary_determines : (f : Option SecondaryForm) (IsReachable : ℕ → Type 0) (t u : LevelLists) → SecondaryWeights f IsReachable → SecondaryMembers f IsReachable t
    → SecondaryMembers f IsReachable u
    → PartDetermines (secondary_part f t) (secondary_part f u) (secondaries_order f t u)
secondary_determines None IsReachable t u well_formed p q = refl
secondary_determines (Some Forward) IsReachable t u well_formed p q = λ x y k l. secondary_order IsReachable well_formed t.secondaries u.secondaries x y p q k l
secondary_determines (Some Backward) IsReachable t u well_formed p q = λ x y k l. backward_order IsReachable well_formed t.segments u.segments x y p.0 q.0 p.1 q.1 k l

pub case_determines : (f : Option CaseForm) (t u : LevelLists) → AllByRecursion (λ r. r < 3) t.cases → AllByRecursion (λ r. r < 3) u.cases
    → (f ≡ Some LowerFirst → length t.cases ≡ length u.cases) → PartDetermines (case_part f t) (case_part f u) (cases_order f t u)
case_determines None t u p q e = refl
case_determines (Some LowerFirst) t u p q e = λ x y k l. lower_first_order t.cases u.cases x y p q k l (e refl)
case_determines (Some UpperFirst) t u p q e = λ x y k l. upper_first_order t.cases u.cases x y p q k l

pub tertiary_determines : (f : Option TertiaryForm) (IsReachable : ℕ → Type 0) (t u : LevelLists) → TertiaryWeights f IsReachable → TertiaryMembers f IsReachable t
    → TertiaryMembers f IsReachable u
    → PartDetermines (tertiary_part f t) (tertiary_part f u) (tertiaries_order f t u)
tertiary_determines None IsReachable t u well_formed p q = refl
tertiary_determines (Some form) IsReachable t u well_formed p q = λ x y k l. tertiary_order IsReachable form well_formed t.tertiaries u.tertiaries x y p q k l

pub quaternary_determines : (f : Option QuaternaryForm) (IsReachable : ℕ → Type 0) (t u : LevelLists) → QuaternaryWeights f IsReachable
    → QuaternaryMembers f IsReachable t → QuaternaryMembers f IsReachable u
    → (f ≡ Some Unshifted → length t.quaternaries ≡ length u.quaternaries)
    → PartDetermines (quaternary_part f t) (quaternary_part f u) (quaternaries_order f t u)
quaternary_determines None IsReachable t u well_formed p q e = refl
quaternary_determines (Some MayShift) IsReachable t u well_formed p q e = λ x y k l. quaternary_order IsReachable well_formed t.quaternaries u.quaternaries x y p q k l
quaternary_determines (Some Unshifted) IsReachable t u well_formed p q e = λ x y k l. unshifted_order t.quaternaries u.quaternaries x y p q k l (e refl)

pub identical_determines : (f : Bool) (t u : LevelLists) → AllByRecursion (λ c. c < 0x110000) t.characters
    → AllByRecursion (λ c. c < 0x110000) u.characters
    → PartDetermines (identical_part f t) (identical_part f u) (characters_order f t u)
identical_determines false t u p q = refl
identical_determines true t u p q = λ x y k l. identical_order t.characters u.characters x y p q k l

abbrev two : LevelPart → LevelPart → Ordering → TwoParts
two x y o = record { left = x; right = y; order = o }

-- The whole: keys order as the level lists in turn
pub keys_order : (c : Compression) (f : KeyForm) (reachable : ReachableWeights) (t u : LevelLists) → AreWeights c f reachable → AreLists f reachable t
    → AreLists f reachable u → AreParallel c f t u
    → list_order (key_bytes c f t) (key_bytes c f u) ≡ levels_order c f t u
keys_order c f reachable t u well_formed p q both =
    levels_determine (primary_level c 0 t.primaries) (primary_level c 0 u.primaries) (primaries_order c t u)
    (two (secondary_part f.secondary t) (secondary_part f.secondary u) (secondaries_order f.secondary t u)
    ∷ two (case_part f.cases t) (case_part f.cases u) (cases_order f.cases t u)
    ∷ two (tertiary_part f.tertiary t) (tertiary_part f.tertiary u) (tertiaries_order f.tertiary t u)
    ∷ two (quaternary_part f.quaternary t) (quaternary_part f.quaternary u) (quaternaries_order f.quaternary t u)
    ∷ two (identical_part f.identical t) (identical_part f.identical u) (characters_order f.identical t u) ∷ [])
    (λ x y k l. primary_order c reachable.numeric reachable.primary well_formed.primaries t.primaries u.primaries x y p.primaries q.primaries k l)
    (λ e0. (
      secondary_determines f.secondary reachable.secondary t u well_formed.secondaries p.secondaries q.secondaries,
      (λ e1. (
        case_determines f.cases t u p.cases q.cases (λ h. both.cases h e0 e1),
        (λ e2. (
          tertiary_determines f.tertiary reachable.tertiary t u well_formed.tertiaries p.tertiaries q.tertiaries,
          (λ e3. (
            quaternary_determines f.quaternary reachable.shifted_primary t u well_formed.quaternaries p.quaternaries q.quaternaries
                (λ h. both.quaternaries h e0 e1 e2 e3),
            (λ e4. (identical_determines f.identical t u p.characters q.characters, λ e5. tt)),
          )),
        )),
      )),
    ))
