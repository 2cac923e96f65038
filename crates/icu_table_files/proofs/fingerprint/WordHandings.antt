-- Words that were handed to a hasher one after another.
use Rattle.std.proofs.Common.{◌≡◌, ℕ, zero, suc, ◌<◌, ◌^◌, List, [], ◌∷◌, ◌++◌, get_or, length, take, sym, ap, ◌∙◌, subst, append_assoc, append-nil, arith}
use Rattle.std.proofs.lemmas.Grind.{flat_map-append}
use Rattle.std.specs.Int.{to_be_bytes, w64}
use Rattle.icu_table_data.proofs.ListLemmas.{all_append}
use Rattle.sha2.specs.Hashers.{Holds256}
use Rattle.sha2.specs.declared.Sha256.{Sha256}
use Rattle.icu_table_files.specs.fingerprint.FingerprintForms.{bytes_of}
use Rattle.icu_table_files.specs.fingerprint.inner.HandedWords.{HandsWords}

pub bytes_append : (xs ys : List ℕ) → bytes_of (xs ++ ys) ≡ bytes_of xs ++ bytes_of ys
bytes_append xs ys = flat_map-append (to_be_bytes w64) xs ys

pub hands_more : (a b c : Sha256) (xs ys : List ℕ) → HandsWords a b xs → HandsWords b c ys → HandsWords a c (xs ++ ys)
hands_more a b c xs ys f g = record {
  handed = λ m h. subst (Holds256 c) (append_assoc m (bytes_of xs) (bytes_of ys) ∙ ap (λ bs. m ++ bs) (sym (bytes_append xs ys)))
      (g.handed (m ++ bytes_of xs) (f.handed m h));
  fits = all_append (λ w. w < 2 ^ 64) xs ys f.fits g.fits;
}

pub hands_word : (a b : Sha256) (w : ℕ) → w < 2 ^ 64 → ((m : List ℕ) → Holds256 a m → Holds256 b (m ++ to_be_bytes w64 w)) → HandsWords a b (w ∷ [])
hands_word a b w f h = record {
  handed = λ m k. subst (λ bs. Holds256 b (m ++ bs)) (sym (append-nil (to_be_bytes w64 w))) (h m k);
  fits = (f, tt);
}

-- a list as far as it was gone through
pub take_one : {X : Type 0} (xs : List X) (i : ℕ) (x : X) → i < length xs → x ≡ get_or xs i x → take (suc i) xs ≡ take i xs ++ x ∷ []
take_one [] i x low is = absurd (omega arith)
take_one (y ∷ ys) zero x low is = ap (λ z. z ∷ []) (sym is)
take_one (y ∷ ys) (suc i) x low is = ap (λ zs. y ∷ zs) (take_one ys i x (omega arith) is)
