-- The proofs that are tried: the first of a list, by places and by parts, and what the groups of the longest jobs are worth.
use Rattle.std.proofs.Common.{◌≡◌, ℕ, zero, suc, ◌+◌, ◌*◌, ◌<◌, ◌≤◌, inl, inr, List, [], ◌∷◌, ◌++◌, length, get_or, map, take, Option, Some, None, All, AllPairs, IsPermutation}
use Rattle.std.proofs.Common.{pos, sym, ap, subst, ◌∙◌, arith, add-one}
use Rattle.std.specs.Prelude.{sum}
use Rattle.std.specs.List.{range_with_len}
use Rattle.std.proofs.lemmas.Bool.{cases_lt}
use Rattle.std.proofs.lemmas.Option.{slice_get_read}
use Rattle.std.proofs.lemmas.List.{get_or_past, get_or-take, length-take-le}
use Rattle.std.proofs.lemmas.List.Elements.{All-cons, All-nil, All-head, All-tail, All-take}
use Rattle.std.proofs.lemmas.List.FromFn.{length-map-range_with_len, get_or-map-range_with_len, take-map-range_with_len}
use Rattle.msp_class.specs.declared.sizes.TheConstants.{GREATEST, GREATEST_SPEED}
use Rattle.msp_class.proofs.Sums.{sum_by-cons, sum_by-take_more, OnceBelow, OnceBelow-from_permutation, OnceBelow-distinct, length-OnceBelow}
use Rattle.msp_instance.specs.declared.Job.{Job}
use Rattle.msp_instance.specs.declared.Instance.{Instance}
use Rattle.msp_instance.specs.Instance.{no_job, no_need, need_at}
use Rattle.msp_instance.specs.Conditions.{InClass}
use Rattle.msp_pieces.specs.declared.Frac.{Frac}
use Rattle.msp_pieces.specs.Blocks.{total_time}
use Rattle.msp_cert.specs.declared.Proof.{Proof}
use Rattle.msp_cert.specs.declared.Proof.TheVariants.{Group, Levels}
use Rattle.msp_cert.specs.Certificates.{HasUnitJobs, IsGroup, speeds_of}
use Rattle.msp_cert.specs.Places.{IsFirstBelow, HasRelatedMachines}
use Rattle.msp_cert.specs.Search.{AreLongestFirst, HasValue, IsFirst, groups, tails}
use Rattle.msp_cert.specs.Worth.{IsWorth}
use Rattle.msp_cert.proofs.Facts.{small_needs, small_speeds}
use Rattle.msp_cert.proofs.Fastest.{first_some}
use Rattle.msp_cert.proofs.Decided.{group_is_worth}

-- ---- the first of a list
module _ (P : Proof → Type 0) where
  first_later : (x : Proof) (all : List Proof) (o : Option Proof) → ¬ P x → IsFirst P all o → IsFirst P (x ∷ all) o
  first_later x all None never h = All-cons (λ p. ¬ P p) x all never h
  first_later x all (Some q) never (k, at, holds, before) = (suc k, at, holds, All-cons (λ p. ¬ P p) x (take k all) never before)

  -- where none of the first part has the property, that of the rest
  pub first_append : (all more : List Proof) (o : Option Proof) → IsFirst P all None → IsFirst P more o → IsFirst P (all ++ more) o
  first_append [] more o none h = h
  first_append (x ∷ all) more o none h = first_later x (all ++ more) o (All-head (λ p. ¬ P p) x all none) (first_append all more o (All-tail (λ p. ¬ P p) x all none) h)

  -- and else that of the first part
  pub first_stays : (all more : List Proof) (q : Proof) → IsFirst P all (Some q) → IsFirst P (all ++ more) (Some q)
  first_stays [] more q (k, at, holds, before) = absurd (cc)
  first_stays (x ∷ all) more q (zero, at, holds, before) = (0, at, holds, All-nil (λ p. ¬ P p))
  first_stays (x ∷ all) more q (suc k, at, holds, before) =
      first_later x (all ++ more) (Some q) (All-head (λ p. ¬ P p) x (take k all) before) (first_stays all more q (k, at, holds, All-tail (λ p. ¬ P p) x (take k all) before))

  -- by places
  module _ (f : ℕ → Proof) where
    pub none_placed : (n : ℕ) → ((k : ℕ) → k < n → ¬ P (f k)) → IsFirst P (map f (range_with_len 0 n)) None
    none_placed n h k d l =
        let b : k < n = omega (arith, l, length-map-range_with_len f 0 n) in
        subst (λ p. ¬ P p) (sym (get_or-map-range_with_len f 0 n k k d b (omega arith))) (h k b)

    pub first_placed : (n k : ℕ) → IsFirstBelow (λ j. P (f j)) n (Some k) → IsFirst P (map f (range_with_len 0 n)) (Some (f k))
    first_placed n k (l, holds, before) = (
      k,
      slice_get_read (map f (range_with_len 0 n)) n k (f k) (sym (length-map-range_with_len f 0 n)) l (sym (get_or-map-range_with_len f 0 n k k (f k) l (omega arith))),
      holds,
      subst (All (λ p. ¬ P p)) (sym (take-map-range_with_len f 0 n k (omega (arith, l)))) (none_placed k before),
    )

-- none of a kind holds where it is not for the instance
pub no_groups : (i : Instance) (cost : Frac) (longest : List ℕ) → ¬ HasRelatedMachines i → IsFirst (HasValue i cost) (groups i longest) None
no_groups i cost longest never = none_placed (HasValue i cost) (λ k. Group (take (k + 1) longest)) (length i.jobs) (λ k b h. never (record { makespan = h.holds.makespan; speeds = h.holds.speeds }))

pub no_tails : (i : Instance) (cost : Frac) (level : List ℕ) → ¬ HasUnitJobs i → IsFirst (HasValue i cost) (tails i level) None
no_tails i cost level never = none_placed (HasValue i cost) (Levels level) (length i.jobs) (λ k b h. never h.holds.units)

-- ---- groups of the longest jobs
pub time_small : (i : Instance) (j : ℕ) → InClass i → (need_at i j 0).time ≤ GREATEST
time_small i j c = elim (cases_lt j (length i.jobs)) [
  | inl l ↦ let needs = small_needs i c j no_job l in needs.short 0 no_need (omega (arith, needs.some))
  | inr past ↦ omega (arith, ap (λ (x : Job). (get_or x.needs 0 no_need).time) (get_or_past i.jobs j no_job past))
]

speed_small_at : (speeds : List ℕ) (k : ℕ) → All (λ s. s ≤ GREATEST_SPEED) speeds → get_or speeds k 0 ≤ GREATEST_SPEED
speed_small_at speeds k h = elim (cases_lt k (length speeds)) [ inl l ↦ h k 0 l | inr past ↦ omega (arith, get_or_past speeds k 0 past) ]

sum_more : (xs : List ℕ) (k : ℕ) → sum (take (suc k) xs) ≡ sum (take k xs) + get_or xs k 0
sum_more (x ∷ xs) zero = omega (arith, sum_by-cons (λ y. y) x (take 0 xs))
sum_more (x ∷ xs) (suc k) = omega (arith, sum_by-cons (λ y. y) x (take (suc k) xs), sum_by-cons (λ y. y) x (take k xs), sum_more xs k)
sum_more [] zero = omega arith
sum_more [] _ = omega arith

-- the times of the first jobs together, and the speeds of as many of the first machines
pub record AreTogether (i : Instance) (longest speeds : List ℕ) (k time speed : ℕ) : Type 0 where
  pub time_is : time ≡ total_time i (take k longest)
  pub speed_is : speed ≡ sum (take k speeds)
  pub short : time ≤ GREATEST * k
  pub slow : speed ≤ GREATEST_SPEED * k

pub one_more : (i : Instance) (longest speeds : List ℕ) (k time speed t s job : ℕ) → InClass i → HasRelatedMachines i
    → IsPermutation (speeds_of i) speeds → k < length longest → job ≡ get_or longest k 0 → t ≡ (need_at i job 0).time → s ≡ get_or speeds k 0
    → AreTogether i longest speeds k time speed → AreTogether i longest speeds (k + 1) (time + t) (speed + s)
one_more i longest speeds k time speed t s job c asked all l is t_is s_is h = record {
  time_is = omega (arith, h.time_is, t_is, ap (λ j. (need_at i j 0).time) is, sum_by-take_more (λ j. (need_at i j 0).time) longest k 0 l);
  speed_is = omega (arith, h.speed_is, s_is, sum_more speeds k, ap (λ n. sum (take n speeds)) (sym (add-one k)));
  short = omega (arith, h.short, t_is, time_small i job c);
  slow = omega (arith, h.slow, s_is, speed_small_at speeds k (small_speeds i speeds c asked.speeds all).slow);
}

pub group_of_longest : (i : Instance) (longest : List ℕ) (k : ℕ) → AreLongestFirst i longest → HasRelatedMachines i → k < length longest → IsGroup i (take (k + 1) longest)
group_of_longest i longest k h asked l = record {
  makespan = asked.makespan;
  speeds = asked.speeds;
  some = omega (arith, long);
  inside = All-take (λ j. j < length i.jobs) (k + 1) longest once.within;
  apart = λ p q d less b e. OnceBelow-distinct once p q d less (omega (arith, b, long, l))
      (sym (get_or-take (k + 1) longest p d (omega (arith, b, long, less))) ∙ e ∙ get_or-take (k + 1) longest q d (omega (arith, b, long)));
}
  where
    once : OnceBelow (length i.jobs) longest
    once = OnceBelow-from_permutation h.all

    long : length (take (k + 1) longest) ≡ k + 1
    long = length-take-le (k + 1) longest (omega (arith, l))

pub all_longest : (i : Instance) (longest : List ℕ) → AreLongestFirst i longest → length longest ≡ length i.jobs
all_longest i longest h = length-OnceBelow (OnceBelow-from_permutation h.all)

pub some_speed : (i : Instance) (longest speeds : List ℕ) (k time speed : ℕ)
    → InClass i → HasRelatedMachines i → IsPermutation (speeds_of i) speeds → AreTogether i longest speeds (k + 1) time speed → 0 < speed
some_speed i longest speeds k time speed c asked all h =
    let s = small_speeds i speeds c asked.speeds all in
    subst (λ x. 1 ≤ x) (sym h.speed_is) (first_some speeds (k + 1) (omega arith) s.some s.fast)

pub longest_worth : (i : Instance) (longest speeds : List ℕ) (k time speed : ℕ) (v : Frac)
    → AreLongestFirst i longest → HasRelatedMachines i → IsPermutation (speeds_of i) speeds → AllPairs (λ x y. y ≤ x) speeds → k < length longest
    → AreTogether i longest speeds (k + 1) time speed → v.num ≡ pos time → v.den ≡ pos speed → IsWorth i (Group (take (k + 1) longest)) (Some v)
longest_worth i longest speeds k time speed v h asked all falls l sums num den =
    group_is_worth i (take (k + 1) longest) speeds time speed v (group_of_longest i longest k h asked l) sums.time_is all falls
    (sums.speed_is ∙ ap (λ n. sum (take n speeds)) (sym (length-take-le (k + 1) longest (omega (arith, l))))) num den
