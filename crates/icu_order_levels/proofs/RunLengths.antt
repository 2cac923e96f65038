-- Runs are short.
use Rattle.std.proofs.Common.{◌≡◌, ℕ, zero, suc, ◌+◌, ◌-◌, ◌/◌, ◌%◌, ◌<◌, ◌≤◌, [], ◌∷◌, ◌++◌, length, length-append, replicate, inl, inr, ◌⊎◌, arith}
use Rattle.std.proofs.lemmas.Bool.{cases_lt}
use Rattle.std.proofs.lemmas.List.{length-replicate}
use Rattle.icu_order_levels.specs.declared.run_bytes.RunBytes.{RunBytes}
use Rattle.icu_order_levels.specs.Runs.{run_before_less, run_before_more, run_before}
use Rattle.icu_order_levels.specs.RunLaws.{RunsAreShort}
use Rattle.icu_order_levels.proofs.RunOrder.{quotients}
use Rattle.icu_order_levels.proofs.LevelOrder.{run_less, not_less}

-- a quotient does not fall
grows : (m c : ℕ) → 0 < c → m / c ≤ suc m / c
grows m c some = by (quotients m (suc m) c some (omega arith))
  where
    by : (m / c < suc m / c) ⊎ ((m / c ≡ suc m / c) × (m % c < suc m % c)) → m / c ≤ suc m / c
    by (inl l) = omega arith
    by (inr e) = let f = e.0 in omega arith

-- q bytes and one more
counted : (q b last : ℕ) → length (replicate q b ++ last ∷ []) ≡ q + 1
counted q b last = omega (arith, length-append (replicate q b) (last ∷ []), length-replicate q b)

module _ (r : RunBytes) (some : 0 < r.count) where
  less_length : (n : ℕ) → length (run_before_less r n) ≤ 1 + n / r.count
  less_length zero = omega arith
  less_length (suc m) = let e = counted (m / r.count) r.middle (r.low + m % r.count) in let g = grows m r.count some in omega arith

  more_length : (n : ℕ) → length (run_before_more r n) ≤ 1 + n / r.count
  more_length zero = omega arith
  more_length (suc m) = let e = counted (m / r.count) r.middle (r.high - m % r.count) in let g = grows m r.count some in omega arith

  pub runs_short : RunsAreShort r r.count
  runs_short n w = (less_length n, by (cases_lt w r.common))
    where
      by : (w < r.common) ⊎ (r.common ≤ w) → length (run_before r n w) ≤ 1 + n / r.count
      by (inl l) = rw (run_less r n w l) (less_length n)
      by (inr l) = rw (not_less r n w l) (more_length n)
