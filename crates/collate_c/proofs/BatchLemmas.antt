-- One more key of a batch: what was written before it stays, and the key and its end come after.
use Rattle.std.proofs.Common.{◌≡◌, ℕ, suc, ◌+◌, ◌-◌, ◌<◌, ◌≤◌, List, [], ◌∷◌, ◌++◌, length, take, drop, set, map, get_or, min, arith, refl, sym, ap, ◌∙◌, subst}
use Rattle.std.proofs.lemmas.List.{length-append, length-take, length-take-le, append_assoc, append-nil, take-append-le, take_more_set, at_drop_more, get_or-drop, drop-drop, take-map, map_more, length-map}
use Rattle.std.specs.List.{concat}
use borrow.Rule.Slice.PartMut.{put_mid, post_of}
use Rattle.collate_c.specs.TextBatches.{parts_from, ends_from, HasKeys}
use Rattle.collate_c.specs.WrittenBytes.{IsAtFront}

-- bytes that are at the front of room are within it
pub front_fits : (bytes : List ℕ) (n : ℕ) (out : List ℕ) → IsAtFront bytes n out → n ≤ length out
front_fits bytes n out (is, at) = let e : min n (length out) ≡ length bytes = sym (length-take n out) ∙ ap length at in omega (arith, is, e)

take_past : (p q : List ℕ) (n : ℕ) → take (length p + n) (p ++ q) ≡ p ++ take n q
take_past [] q n = let e : 0 + n ≡ n = omega arith in ap (λ m. take m q) e
take_past (x ∷ p) q n =
    let e : length (x ∷ p) + n ≡ suc (length p + n) = omega arith in
    ap (λ m. take m (x ∷ (p ++ q))) e ∙ ap (λ l. x ∷ l) (take_past p q n)

-- the front of room after a part of it was written to
pub front_of_part : (a k n : ℕ) (xs ys : List ℕ) → a ≤ length xs → n ≤ length ys → take (a + n) (put_mid a k xs ys) ≡ take a xs ++ take n ys
front_of_part a k n xs ys inside fits =
    ap (λ m. take (m + n) (put_mid a k xs ys)) (sym (length-take-le a xs inside)) ∙ take_past (take a xs) (ys ++ post_of a k xs) n
    ∙ ap (λ l. take a xs ++ l) (take-append-le n ys (post_of a k xs) fits)

parts_length : (at : ℕ) (bytes ends : List ℕ) → length (parts_from at bytes ends) ≡ length ends
parts_length at bytes [] = refl
parts_length at bytes (end ∷ ends) = ap suc (parts_length end bytes ends)

concat_more : (ks : List (List ℕ)) (k : List ℕ) → concat (ks ++ k ∷ []) ≡ concat ks ++ k
concat_more [] k = append-nil k
concat_more (x ∷ ks) k = ap (λ l. x ++ l) (concat_more ks k) ∙ sym (append_assoc x (concat ks) k)

ends_more : (at : ℕ) (ks : List (List ℕ)) (k : List ℕ) → ends_from at (ks ++ k ∷ []) ≡ ends_from at ks ++ (at + length (concat ks) + length k) ∷ []
ends_more at [] k = let e : at + length k ≡ at + 0 + length k = omega arith in ap (λ n. n ∷ []) e
ends_more at (x ∷ ks) k =
    let l : length (x ++ concat ks) ≡ length x + length (concat ks) = length-append x (concat ks) in
    let e : at + length x + length (concat ks) + length k ≡ at + length (x ++ concat ks) + length k = omega (arith, l) in
    ap (λ l. (at + length x) ∷ l) (ends_more (at + length x) ks k ∙ ap (λ n. ends_from (at + length x) ks ++ n ∷ []) e)

-- keys that are written, and one more with its end
keys_more : (ks : List (List ℕ)) (k out new ends : List ℕ) (filled : ℕ) → HasKeys ks out ends → filled ≡ length (concat ks) → length ks < length ends
    → take (filled + length k) new ≡ take filled out ++ k → HasKeys (ks ++ k ∷ []) new (set ends (length ks) (filled + length k))
keys_more ks k out new ends filled has is inside front =
    let whole : length (concat (ks ++ k ∷ [])) ≡ filled + length k = ap length (concat_more ks k) ∙ length-append (concat ks) k ∙ ap (λ n. n + length k) (sym is) in
    let count : length (ks ++ k ∷ []) ≡ length ks + 1 = length-append ks (k ∷ []) in
    let sum : filled + length k ≡ 0 + length (concat ks) + length k = omega (arith, is) in
    record {
      bytes = ap (λ n. take n new) whole ∙ front ∙ ap (λ n. take n out ++ k) is ∙ ap (λ l. l ++ k) has.bytes ∙ sym (concat_more ks k);
      places = ap (λ n. take n (set ends (length ks) (filled + length k))) count ∙ take_more_set ends (length ks) (filled + length k) inside
          ∙ ap (λ l. l ++ (filled + length k) ∷ []) has.places ∙ ap (λ n. ends_from 0 ks ++ n ∷ []) sum ∙ sym (ends_more 0 ks k);
    }

-- the part at a place, and those after it
part_at : (texts ends : List ℕ) (all : List (List ℕ)) (i at : ℕ) → i < length ends → drop i all ≡ parts_from at texts (drop i ends)
    → (get_or all i [] ≡ take (get_or ends i 0 - at) (drop at texts)) × (drop (i + 1) all ≡ parts_from (get_or ends i 0) texts (drop (i + 1) ends))
part_at texts ends all i at inside is =
    let e : drop i all ≡ take (get_or ends i 0 - at) (drop at texts) ∷ parts_from (get_or ends i 0) texts (drop (i + 1) ends) =
    is ∙ at_drop_more (parts_from at texts) ends i 0 inside in
    let n : i ≡ i + 0 = omega arith in
    (ap (λ m. get_or all m []) n ∙ sym (get_or-drop i all 0 []) ∙ ap (λ l. get_or l 0 []) e, sym (drop-drop 1 i all) ∙ ap (drop 1) e)

-- what a loop keeps that writes keys: `i` of them are written
pub record Batched (f : List ℕ → List ℕ) (texts ends : List ℕ) (i at filled written : ℕ) (out key_ends : List ℕ) : Type 0 where
  pub count : written ≡ i
  pub rest : drop i (parts_from 0 texts ends) ≡ parts_from at texts (drop i ends)
  pub end : filled ≡ length (concat (take i (map f (parts_from 0 texts ends))))
  pub inside : filled ≤ length out
  pub keys : HasKeys (take i (map f (parts_from 0 texts ends))) out key_ends

pub batch_begins : (f : List ℕ → List ℕ) (texts ends out key_ends : List ℕ) → Batched f texts ends 0 0 0 0 out key_ends
batch_begins f texts ends out key_ends = record { count = refl; rest = refl; end = refl; inside = omega arith; keys = record { bytes = refl; places = refl } }

pub batch_step : (f : List ℕ → List ℕ) (texts ends : List ℕ) (i at filled written : ℕ) (out key_ends k new : List ℕ)
    → Batched f texts ends i at filled written out key_ends → i < length ends → i < length key_ends → k ≡ f (take (get_or ends i 0 - at) (drop at texts))
    → take (filled + length k) new ≡ take filled out ++ k → filled + length k ≤ length new
    → Batched f texts ends (i + 1) (get_or ends i 0) (filled + length k) (i + 1) new (set key_ends i (filled + length k))
batch_step f texts ends i at filled written out key_ends k new b one place is front fits =
    let all = parts_from 0 texts ends in
    let many : i < length all = omega (arith, one, parts_length 0 texts ends) in
    let now : (get_or all i [] ≡ take (get_or ends i 0 - at) (drop at texts)) × (drop (i + 1) all ≡ parts_from (get_or ends i 0) texts (drop (i + 1) ends)) =
    part_at texts ends all i at one b.rest in
    let more : take (i + 1) (map f all) ≡ take i (map f all) ++ k ∷ [] =
    take-map f (i + 1) all ∙ map_more f all i [] many ∙ ap (λ l. l ++ f (get_or all i []) ∷ []) (sym (take-map f i all))
    ∙ ap (λ t. take i (map f all) ++ t ∷ []) (ap f now.0 ∙ sym is) in
    let count : length (take i (map f all)) ≡ i = ap length (take-map f i all) ∙ length-map (take i all) f ∙ length-take-le i all (omega (arith, many)) in
    let keys : HasKeys (take i (map f all) ++ k ∷ []) new (set key_ends (length (take i (map f all))) (filled + length k)) =
    keys_more (take i (map f all)) k out new key_ends filled b.keys b.end (omega (arith, count, place)) front in
    record {
      count = refl;
      rest = now.1;
      end = sym (ap length (ap concat more ∙ concat_more (take i (map f all)) k) ∙ length-append (concat (take i (map f all))) k ∙ ap (λ n. n + length k) (sym b.end));
      inside = fits;
      keys = subst (λ ks. HasKeys ks new (set key_ends i (filled + length k))) (sym more)
          (subst (λ n. HasKeys (take i (map f all) ++ k ∷ []) new (set key_ends n (filled + length k))) count keys);
    }

-- keys stay written if what comes after them changes
pub batch_kept : (f : List ℕ → List ℕ) (texts ends : List ℕ) (i at filled written : ℕ) (out key_ends new : List ℕ)
    → Batched f texts ends i at filled written out key_ends → take filled new ≡ take filled out → HasKeys (take written (map f (parts_from 0 texts ends))) new key_ends
batch_kept f texts ends i at filled written out key_ends new b same =
    let keys : HasKeys (take i (map f (parts_from 0 texts ends))) new key_ends = record {
      bytes = ap (λ n. take n new) (sym b.end) ∙ same ∙ ap (λ n. take n out) b.end ∙ b.keys.bytes;
      places = b.keys.places;
    } in
    subst (λ n. HasKeys (take n (map f (parts_from 0 texts ends))) new key_ends) (sym b.count) keys
