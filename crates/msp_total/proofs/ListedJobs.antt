-- All jobs listed in some order, each once.
use Rattle.std.proofs.Common.{◌≡◌, ℕ, ◌<◌, inl, inr, List, length, get_or, map, sym, ap, subst, ◌∙◌, arith}
use Rattle.std.proofs.lemmas.Bool.{cases_lt}
use Rattle.std.proofs.lemmas.List.{length-map, get_or-map, same_lists}
use Rattle.msp_class.specs.Sums.{total_below}
use Rattle.msp_class.proofs.Sums.{sum_by-map, sum_by-OnceBelow, OnceBelow, OnceBelow-distinct, length-OnceBelow}
use Rattle.msp_pieces.proofs.lists.Places.{sum_by-places}
use Rattle.msp_total.specs.declared.lay.Place.{Place}
use Rattle.msp_total.specs.Places.{no_place}

module _ {X : Type 0} (number : X → ℕ) (none : X) {n : ℕ} (xs : List X) (once : OnceBelow n (map number xs)) where
  abbrev job_in : ℕ → ℕ
  job_in r = number (get_or xs r none)

  pub listed_count : length xs ≡ n
  listed_count = sym (length-map xs number) ∙ length-OnceBelow once

  read : (r : ℕ) → r < n → get_or (map number xs) r 0 ≡ job_in r
  read r l = get_or-map number xs r none 0 (omega (arith, l, listed_count))

  pub listed_inside : (r : ℕ) → r < n → job_in r < n
  listed_inside r l = subst (λ x. x < n) (read r l) (once.within r 0 (omega (arith, l, listed_count, length-map xs number)))

  apart : (a b : ℕ) → a < b → b < n → job_in a ≡ job_in b → ⊥
  apart a b k m e = OnceBelow-distinct once a b 0 k (omega (arith, m, listed_count, length-map xs number)) (read a (omega (arith, k, m)) ∙ e ∙ sym (read b m))

  pub listed_once : (a b : ℕ) → a < n → b < n → job_in a ≡ job_in b → a ≡ b
  listed_once a b l m e = elim (cases_lt a b) [
    | inl less ↦ absurd (apart a b less m e)
    | inr more ↦ elim (cases_lt b a) [ inl less ↦ absurd (apart b a less l (sym e)) | inr last ↦ omega (arith, more, last) ]
  ]

  -- what adds up over all jobs adds up over the list
  pub listed_total : (f : ℕ → ℕ) → total_below n f ≡ total_below n (λ r. f (job_in r))
  listed_total f = sym (sum_by-OnceBelow f once) ∙ sum_by-map f number xs ∙ sum_by-places (λ x. f (number x)) xs none ∙ ap (λ k. total_below k (λ r. f (job_in r))) listed_count

  -- places of these jobs, one after another
  pub listed_places : (places : List Place) → length places ≡ length xs → ((r : ℕ) → r < length places → (get_or places r no_place).job ≡ job_in r) → map (λ p. p.job) places ≡ map number xs
  listed_places places count each = same_lists _ _ (length-map places (λ p. p.job) ∙ count ∙ sym (length-map xs number))
      (λ r d l. let inside : r < length places = omega (arith, l, length-map places (λ p. p.job)) in
      get_or-map (λ (p : Place). p.job) places r no_place d inside ∙ each r inside ∙ sym (get_or-map number xs r none d (omega (arith, inside, count))))
