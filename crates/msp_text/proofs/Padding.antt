-- Bytes with zeros after them.
use Rattle.std.proofs.Common.{◌≡◌, ℕ, ◌-◌, Bool, true, false, ◌&&◌, ◌==◌, List, ◌++◌, length, take, replicate, bytes_eq, refl, sym, ap, ◌∙◌}
use Rattle.std.proofs.Math.Seq.{take-append_seam}
use Rattle.std.proofs.lemmas.Bool.{eqb-true, eq-eqb}
use Rattle.std.proofs.lemmas.Slice.Eq.{bytes_eq-Decides}
use Rattle.msp_text.specs.declared.job_name.TheConstants.{LONGEST_NAME}
use Rattle.msp_text.proofs.NameLists.{same_bytes}

front : (a x : List ℕ) (n : ℕ) → length a ≡ n → x ≡ a ++ replicate (LONGEST_NAME - n) 0 → take n x ≡ a
front a x n e h = rw (h, sym e) (take-append_seam a (replicate (LONGEST_NAME - length a) 0))

-- They are the same exactly where all is.
pub same_padded : (a b x y : List ℕ) (n m : ℕ) → length a ≡ n → length b ≡ m → x ≡ a ++ replicate (LONGEST_NAME - n) 0 → y ≡ b ++ replicate (LONGEST_NAME - m) 0
    → ((n == m) && bytes_eq x y) ≡ bytes_eq a b
same_padded a b x y n m la lb ex ey = by (n == m) refl (bytes_eq x y) refl (bytes_eq a b) refl
  where
    by : (s : Bool) → (n == m) ≡ s → (t : Bool) → bytes_eq x y ≡ t → (u : Bool) → bytes_eq a b ≡ u → (s && t) ≡ u
    by s e t f true h =
        let same : a ≡ b = same_bytes a b h in
        let long : n ≡ m = sym la ∙ ap length same ∙ lb in
        let whole : x ≡ y = ex ∙ ap (λ (w : List ℕ). w ++ replicate (LONGEST_NAME - n) 0) same ∙ ap (λ (k : ℕ). b ++ replicate (LONGEST_NAME - k) 0) long ∙ sym ey in
        rw (sym e, sym f, eq-eqb n m long, (bytes_eq-Decides x y).1 whole) refl
    by false e t f false h = refl
    by true e false f false h = refl
    by true e true f false h =
        let same : a ≡ b = sym (front a x n la ex) ∙ ap (take n) (same_bytes x y f) ∙ ap (λ (k : ℕ). take k y) (eqb-true n m e) ∙ front b y m lb ey in
        let again : bytes_eq a b ≡ true = (bytes_eq-Decides a b).1 same in
        absurd cc
