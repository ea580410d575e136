-- The law of last ends, over the places of the jobs in an order.
use Rattle.std.proofs.Common.{◌≡◌, ◌≢◌, ℕ, ◌+◌, ◌*◌, ◌-◌, ◌<◌, ◌≤◌, Bool, cond, List, length, get_or, map, All, AllPairs, nat_abs, sum_by, sym, subst, subst₂, ◌∙◌, arith}
use Rattle.std.specs.List.{range_with_len}
use Rattle.std.proofs.lemmas.List.{length-map, get_or-map}
use Rattle.msp_class.proofs.Sums.{sum_by-map, OnceBelow, OnceBelow-distinct, length-OnceBelow}
use Rattle.msp_instance.specs.declared.Instance.{Instance}
use Rattle.msp_pieces.specs.declared.Schedule.{Schedule}
use Rattle.msp_pieces.specs.Feasible.{Feasible}
use Rattle.msp_pieces.specs.LastEnds.{HasRoomAround}
use Rattle.msp_pieces.proofs.bounds.Room.{end_at, room_in_list}
use Rattle.msp_cut_sums.specs.Sums.{at}
use Rattle.msp_cut_sums.proofs.InBlocks.{HaveRoom}

module _ (i : Instance) (t : Schedule) (f : Feasible i t) (time : ℕ → ℕ)
    (law : (test : ℕ → Bool) (moment : ℕ) → HasRoomAround i t test moment (sum_by (λ j. cond (test j) (time j) 0) (range_with_len 0 (length i.jobs)))) where
  abbrev n : ℕ
  n = length i.jobs

  abbrev unit : ℕ
  unit = nat_abs t.unit

  -- over the places of an order of all jobs
  pub room_in_order : (order : List ℕ) → OnceBelow n order → HaveRoom n i.machines unit (λ r. time (at order r)) (λ r. end_at t (at order r))
  room_in_order order once ys within distinct moment =
      subst₂ (λ x y. unit * x ≤ i.machines * moment + y) (sum_by-map time (at order) ys) (sum_by-map (λ j. end_at t j - moment) (at order) ys)
      (room_in_list i t f time law (map (at order) ys) jobs_within jobs_distinct moment)
    where
      many : length order ≡ n
      many = length-OnceBelow once

      place : (k d : ℕ) → k < length ys → get_or (map (at order) ys) k d ≡ at order (get_or ys k d)
      place k d l = get_or-map (at order) ys k d d l

      jobs_within : All (λ x. x < n) (map (at order) ys)
      jobs_within k d l = let b : k < length ys = omega (arith, l, length-map ys (at order)) in
          subst (λ x. x < n) (sym (place k d b)) (once.within (get_or ys k d) 0 (omega (arith, within k d b, many)))

      jobs_distinct : AllPairs (λ a b. a ≢ b) (map (at order) ys)
      jobs_distinct a b d l k e =
          let q : b < length ys = omega (arith, k, length-map ys (at order)) in
          let p : a < length ys = omega (arith, l, q) in
          distinct a b d l q (same (get_or ys a d) (get_or ys b d) (omega (arith, within a d p, many)) (omega (arith, within b d q, many)) (sym (place a d p) ∙ e ∙ place b d q))
        where
          same : (x y : ℕ) → x < length order → y < length order → at order x ≡ at order y → x ≡ y
          same x y l k e = grind (arith, OnceBelow-distinct once x y 0, OnceBelow-distinct once y x 0)
