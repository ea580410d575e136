-- The law of last ends, of a list of different jobs in place of a test.
use Rattle.std.proofs.Common.{◌≢◌, ℕ, ◌+◌, ◌*◌, ◌-◌, ◌<◌, ◌≤◌, Bool, cond, eqb, List, length, All, AllPairs, pos, nat_abs, ◌*ℤ◌, ◌≤ℤ◌, sum_by, subst, subst₂, arith}
use Rattle.std.specs.List.{range_with_len, list_any}
use Rattle.std.proofs.lemmas.Int.{ints}
use Rattle.msp_class.specs.Sums.{total_below}
use Rattle.msp_class.proofs.Sums.{total_below-range}
use Rattle.msp_class.proofs.IntegerRing.{natural, le-pos}
use Rattle.msp_instance.specs.declared.Instance.{Instance}
use Rattle.msp_pieces.specs.declared.Schedule.{Schedule}
use Rattle.msp_pieces.specs.Feasible.{Feasible}
use Rattle.msp_pieces.specs.Cost.{end_of}
use Rattle.msp_pieces.specs.LastEnds.{HasRoomAround}
use Rattle.msp_pieces.proofs.bounds.Certified.{list_total}

abbrev pub end_at : Schedule → ℕ → ℕ
end_at t j = nat_abs (end_of t j)

module _ (i : Instance) (t : Schedule) (f : Feasible i t) (time : ℕ → ℕ)
    (law : (test : ℕ → Bool) (moment : ℕ) → HasRoomAround i t test moment (sum_by (λ j. cond (test j) (time j) 0) (range_with_len 0 (length i.jobs)))) where
  abbrev n : ℕ
  n = length i.jobs

  in_tests : (test : ℕ → Bool) (moment : ℕ) → nat_abs t.unit * total_below n (λ j. cond (test j) (time j) 0) ≤ i.machines * moment + total_below n (λ j. cond (test j) (end_at t j - moment) 0)
  in_tests test moment =
      subst₂ (λ x y. nat_abs t.unit * x ≤ i.machines * moment + y) (total_below-range n (λ j. cond (test j) (time j) 0)) (total_below-range n (λ j. cond (test j) (end_at t j - moment) 0))
      (le-pos (subst (λ u. (u *ℤ pos (sum_by (λ j. cond (test j) (time j) 0) (range_with_len 0 n)))
      ≤ℤ pos (i.machines * moment + sum_by (λ j. cond (test j) (end_at t j - moment) 0) (range_with_len 0 n))) (natural t.unit (omega (arith, ints, f.unit))) (law test moment)))

  pub room_in_list : (xs : List ℕ) → All (λ x. x < n) xs → AllPairs (λ a b. a ≢ b) xs → (moment : ℕ) → nat_abs t.unit * sum_by time xs ≤ i.machines * moment + sum_by (λ j. end_at t j - moment) xs
  room_in_list xs within distinct moment =
      subst₂ (λ x y. nat_abs t.unit * x ≤ i.machines * moment + y) (list_total time n xs within distinct) (list_total (λ j. end_at t j - moment) n xs within distinct)
      (in_tests (λ j. list_any (λ x. eqb x j) xs) moment)
