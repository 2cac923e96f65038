-- The laws of slices as sinks.
use Rattle.std.proofs.Common.{◌≡◌, ℕ, ◌+◌, ◌<◌, ◌≤◌, ◌^◌, ◌⊎◌, inl, inr, List, [], ◌++◌, length, take, drop, add-zero, length-append, length-drop, arith, refl, sym, ap, ◌∙◌, append_assoc}
use Rattle.std.proofs.lemmas.List.{nil_from_length, take-append-drop, length-take-le, take_at, drop-drop}
use Rattle.std.proofs.lemmas.Bool.{cases_lt}
use Rattle.std.proofs.Math.Seq.{drop-append-add}
use Rattle.icu_key_writers.specs.SliceSinks.{put_over, HasRoom, SliceTook, SliceTakes}

put_nothing : (xs : List ℕ) (s : ℕ) → put_over xs s [] ≡ xs
put_nothing xs s = rw add-zero (take-append-drop s xs)

length_put : (xs b : List ℕ) (s : ℕ) → HasRoom xs s b → length (put_over xs s b) ≡ length xs
length_put xs b s (inl h) = simp (length-append, length-drop) (let e = length-take-le s xs (omega arith) in omega arith)
length_put xs b s (inr e) = rw e (ap length (put_nothing xs s))

put_after : (front rest c : List ℕ) (n : ℕ) → length front ≡ n → put_over (front ++ rest) n c ≡ front ++ (c ++ drop (length c) rest)
put_after front rest c n e =
    ap (λ l. l ++ (c ++ drop (n + length c) (front ++ rest))) (take_at front rest n e)
    ∙ ap (λ l. front ++ (c ++ l)) (ap (λ k. drop (k + length c) (front ++ rest)) (sym e) ∙ drop-append-add front rest (length c))

length_front : (xs b : List ℕ) (s : ℕ) → s ≤ length xs → length (take s xs ++ b) ≡ s + length b
length_front xs b s h = length-append (take s xs) b ∙ ap (λ k. k + length b) (length-take-le s xs h)

put_both : (xs b c : List ℕ) (s : ℕ) → s + length b ≤ length xs → put_over (put_over xs s b) (s + length b) c ≡ put_over xs s (b ++ c)
put_both xs b c s h =
    ap (λ l. put_over l (s + length b) c) (sym (append_assoc (take s xs) b (drop (s + length b) xs)))
    ∙ put_after (take s xs ++ b) (drop (s + length b) xs) c (s + length b) (length_front xs b s (omega arith))
    ∙ append_assoc (take s xs) b (c ++ drop (length c) (drop (s + length b) xs))
    ∙ ap (λ l. take s xs ++ l) (sym (append_assoc b c (drop (length c) (drop (s + length b) xs))) ∙ ap (λ l. (b ++ c) ++ l) (drop-drop (length c) (s + length b) xs ∙ ap (λ k. drop k xs) (sums (length-append b c))))
  where
    sums : length (b ++ c) ≡ length b + length c → s + length b + length c ≡ s + length (b ++ c)
    sums e = omega arith

-- a slice takes nothing where nothing changes
pub slice_nothing : (xs : List ℕ) (s : ℕ) → s < 2 ^ 64 → SliceTook xs s [] xs s
slice_nothing xs s h l = record {
  moves = omega arith;
  fits = λ r. sym (put_nothing xs s);
  begins = record { front = []; rest = []; splits = refl; taken = (inr refl, sym (put_nothing xs s)) };
}

-- more bytes after some that fit
both_fit : (xs ys zs b c : List ℕ) (s t u : ℕ) → length xs < 2 ^ 64 → s + length b ≤ length xs → t ≡ s + length b → ys ≡ put_over xs s b → length ys ≡ length xs
    → length (b ++ c) ≡ length b + length c → SliceTakes ys t c zs u → SliceTakes xs s (b ++ c) zs u
both_fit xs ys zs b c s t u l fits at is long sum q = record {
  moves = omega arith;
  fits = λ r. q.fits (omega arith) ∙ both c;
  begins = record {
    front = b ++ q.begins.front;
    rest = q.begins.rest;
    splits = ap (λ e. b ++ e) q.begins.splits ∙ sym (append_assoc b q.begins.front q.begins.rest);
    taken = (inl (room q.begins.taken.0), q.begins.taken.1 ∙ both q.begins.front);
  };
}
  where
    both : (e : List ℕ) → put_over ys t e ≡ put_over xs s (b ++ e)
    both e = ap (λ k. put_over ys k e) at ∙ (ap (λ z. put_over z (s + length b) e) is ∙ put_both xs b e s fits)

    room : HasRoom ys t q.begins.front → s + length (b ++ q.begins.front) ≤ length xs
    room (inl r) = omega (arith, length-append b q.begins.front)
    room (inr e) = omega (arith, length-append b q.begins.front, ap length e)

-- more bytes after some that went past the end
both_past : (xs ys zs b c : List ℕ) (s t u : ℕ) → length xs < 2 ^ 64 → length xs < s + length b → SliceTakes xs s b ys t → length ys ≡ length xs
    → length (b ++ c) ≡ length b + length c → SliceTakes ys t c zs u → SliceTakes xs s (b ++ c) zs u
both_past xs ys zs b c s t u l past p long sum q = record {
  moves = let a = p.moves in let d = q.moves in omega arith;
  fits = λ r. absurd (omega arith);
  begins = record {
    front = p.begins.front;
    rest = p.begins.rest ++ c;
    splits = ap (λ e. e ++ c) p.begins.splits ∙ append_assoc p.begins.front p.begins.rest c;
    taken = (p.begins.taken.0, q.begins.taken.1 ∙ (none q.begins.taken.0 ∙ p.begins.taken.1));
  };
}
  where
    none : HasRoom ys t q.begins.front → put_over ys t q.begins.front ≡ ys
    none (inl r) = let a = p.moves in let e : q.begins.front ≡ [] = nil_from_length q.begins.front (omega arith) in ap (put_over ys t) e ∙ put_nothing ys t
    none (inr e) = ap (put_over ys t) e ∙ put_nothing ys t

-- what a slice takes one after another it takes
pub slice_both : (xs ys zs b c : List ℕ) (s t u : ℕ) → s < 2 ^ 64 → SliceTook xs s b ys t → SliceTook ys t c zs u → SliceTook xs s (b ++ c) zs u
slice_both xs ys zs b c s t u h p q l = by (cases_lt (length xs) (s + length b))
  where
    long : length ys ≡ length xs
    long = let v = p l in ap length v.begins.taken.1 ∙ length_put xs v.begins.front s v.begins.taken.0

    by : (length xs < s + length b) ⊎ (s + length b ≤ length xs) → SliceTakes xs s (b ++ c) zs u
    by (inr fits) = let v = p l in let a = v.moves in both_fit xs ys zs b c s t u l fits (omega arith) (v.fits fits) long (length-append b c) (q (omega (arith, long)))
    by (inl past) = both_past xs ys zs b c s t u l past (p l) long (length-append b c) (q (omega (arith, long)))
