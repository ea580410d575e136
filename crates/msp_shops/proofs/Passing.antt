-- A pass over two machines, one job after another.
use Rattle.std.proofs.Common.{◌≡◌, ◌≢◌, ℕ, ◌+◌, ◌<◌, ◌≤◌, inl, inr, max, Bool, true, false, leb, List, [], ◌∷◌, ◌++◌, length, get_or, take, All, AllPairs, Contains, sum_by}
use Rattle.std.proofs.Common.{refl, sym, ap, ◌∙◌, subst, subst₂, arith, length-append}
use Rattle.std.proofs.lemmas.Bool.{leb-true, leb-false}
use Rattle.std.proofs.lemmas.List.{take_more, append_assoc, append-nil, length-take-le, get_or-take, get_or_default}
use Rattle.std.proofs.lemmas.List.Sums.{sum_by_push}
use Rattle.std.proofs.lemmas.List.Elements.{All-nil}
use Rattle.std.proofs.Math.Nat.{max-eq_left, max-eq_right, le_of_lt}
use Rattle.msp_class.specs.declared.sizes.TheConstants.{GREATEST}
use Rattle.msp_pieces.specs.declared.Piece.{Piece}
use Rattle.msp_pieces.specs.Piece.{IsTimed}
use Rattle.msp_shops.specs.declared.pass.JobTimes.{JobTimes}
use Rattle.msp_shops.specs.declared.pass.Moments.{Moments}
use Rattle.msp_shops.specs.declared.pass.Stage.{Stage}
use Rattle.msp_shops.specs.Pass.{part, IsOf, HasPiece, IsCritical, IsPass, HasPassed}
use Rattle.msp_shops.proofs.Parts.{length-part}
use Rattle.msp_shops.proofs.InLine.{IsInLine-none, IsTidy-next, IsInLine-next}

-- ---- the end of the second machine
critical_next : (jobs : List JobTimes) (from : Moments) (x y : ℕ) (j : JobTimes)
    → x ≡ from.first + sum_by (λ k. k.first) jobs → IsCritical jobs from y → IsCritical (jobs ++ j ∷ []) from (max (x + j.first) y + j.second)
critical_next jobs from x y j total h = by (leb y (x + j.first)) refl h
  where
    by : (b : Bool) → leb y (x + j.first) ≡ b → IsCritical jobs from y → IsCritical (jobs ++ j ∷ []) from (max (x + j.first) y + j.second)
    by true e c = inr (jobs, j, [], refl, ap (λ n. n + j.second) (max-eq_left (leb-true _ _ e)) ∙ omega (arith, total))
    by false e (inl c) = inl (ap (λ n. n + j.second) (max-eq_right (le_of_lt (leb-false _ _ e))) ∙ omega (arith, c, sum_by_push (λ k. k.second) jobs j))
    by false e (inr (before, k, rest, is, end)) =
        inr (
          before,
          k,
          rest ++ j ∷ [],
          ap (λ l. l ++ j ∷ []) is ∙ append_assoc before (k ∷ rest) (j ∷ []),
          ap (λ n. n + j.second) (max-eq_right (le_of_lt (leb-false _ _ e))) ∙ omega (arith, end, sum_by_push (λ k. k.second) rest j),
        )

-- ---- the pass
module _ (first second : Stage) (machines : first.machine ≢ second.machine) (from : Moments) where
  pub IsPass-none : IsPass first second [] from from []
  IsPass-none = record {
    tidy = record {
      timed = All-nil IsTimed;
      known = All-nil (λ p. (j : JobTimes) × Contains [] j × IsOf first second from from p j);
      has_first = All-nil (λ (j : JobTimes). 0 < j.first → HasPiece [] first j.job);
      has_second = All-nil (λ (j : JobTimes). 0 < j.second → HasPiece [] second j.job);
      apart = λ a b d h k. absurd (omega arith);
      in_order = λ a b d h k. absurd (omega arith);
    };
    line = IsInLine-none first second from;
    first_end = omega arith;
    second_end = inl (omega arith);
    later = omega arith;
    few = omega arith;
    small = (omega arith, omega arith);
  }

  pub IsPass-next : (jobs : List JobTimes) (at : Moments) (j : JobTimes) (ps : List Piece)
      → All (λ k. k.job ≢ j.job) jobs → (j.first ≤ GREATEST) × (j.second ≤ GREATEST) → IsPass first second jobs from at ps →
      IsPass first second (jobs ++ j ∷ []) from (record { first = at.first + j.first; second = max (at.first + j.first) at.second + j.second })
      ((ps ++ part j.job first at.first j.first) ++ part j.job second (max (at.first + j.first) at.second) j.second)
  IsPass-next jobs at j ps other short h =
      let begin = max (at.first + j.first) at.second in
      let more = length-append jobs (j ∷ []) in
      record {
        tidy = IsTidy-next first second machines jobs from at j ps h.tidy other (omega (arith, h.first_end), h.later);
        line = IsInLine-next first second machines jobs from at j ps h.tidy h.first_end h.line;
        first_end = omega (arith, h.first_end, sum_by_push (λ k. k.first) jobs j);
        second_end = critical_next jobs from at.first at.second j h.first_end h.second_end;
        later = omega (arith, h.later);
        few = omega (
          arith,
          h.few,
          more,
          length-append (ps ++ part j.job first at.first j.first) (part j.job second begin j.second),
          length-append ps (part j.job first at.first j.first),
          length-part j.job first at.first j.first,
          length-part j.job second begin j.second,
        );
        small = (omega (arith, h.small.0, short.0, more), omega (arith, h.small.0, h.small.1, short.0, short.1, more));
      }

-- ---- as the code has it
pub HasPassed-none : (first second : Stage) → first.machine ≢ second.machine → (jobs : List JobTimes) (from : Moments) (ps : List Piece) → HasPassed first second (take 0 jobs) from from ps ps
HasPassed-none first second machines jobs from ps = ([], sym (append-nil ps), IsPass-none first second machines from)

pub HasPassed-next : (first second : Stage) → first.machine ≢ second.machine → (jobs : List JobTimes) (from at to : Moments) (k : ℕ) (j : JobTimes) (old now put new : List Piece) (begin : ℕ) →
    k < length jobs → j ≡ get_or jobs k j → AllPairs (λ a b. a.job ≢ b.job) jobs → All (λ j. (j.first ≤ GREATEST) × (j.second ≤ GREATEST)) jobs →
    begin ≡ max (at.first + j.first) at.second → put ≡ now ++ part j.job first at.first j.first → new ≡ put ++ part j.job second begin j.second →
    to ≡ record { first = at.first + j.first; second = begin + j.second } →
    HasPassed first second (take k jobs) from at old now → HasPassed first second (take (k + 1) jobs) from to old new
HasPassed-next first second machines jobs from at to k j old now put new begin inside is once short starts puts news ends (laid, e, h) =
    let firsts = part j.job first at.first j.first in
    let seconds = part j.job second (max (at.first + j.first) at.second) j.second in (
      (laid ++ firsts) ++ seconds,
      news ∙ ap (λ b. put ++ part j.job second b j.second) starts ∙ ap (λ l. l ++ seconds) (puts ∙ ap (λ l. l ++ firsts) e ∙ append_assoc old laid firsts) ∙ append_assoc old (laid ++ firsts) seconds,
      subst₂ (λ js m. IsPass first second js from m ((laid ++ firsts) ++ seconds)) (sym (take_more jobs k j inside ∙ ap (λ x. take k jobs ++ x ∷ []) (sym is)))
          (sym (ends ∙ ap (λ b. record { first = at.first + j.first; second = b + j.second }) starts))
          (IsPass-next first second machines from (take k jobs) at j laid others times h),
    )
  where
    others : All (λ a. a.job ≢ j.job) (take k jobs)
    others n d l e =
        let early : n < k = omega (arith, l, length-take-le k jobs (omega (arith, inside))) in
        once n k j early inside (ap (λ x. x.job) (get_or_default jobs n j d (omega (arith, early, inside))) ∙ sym (ap (λ x. x.job) (get_or-take k jobs n d early)) ∙ e ∙ ap (λ x. x.job) is)

    times : (j.first ≤ GREATEST) × (j.second ≤ GREATEST)
    times = subst (λ x. (x.first ≤ GREATEST) × (x.second ≤ GREATEST)) (sym is) (short k j inside)
