-- Where no arc goes back in an order of the jobs, the jobs that run in that order keep the arcs.
use Rattle.std.proofs.Common.{◌≡◌, ℕ, List, length, get_or, All, AllPairs, Contains, sym, ap₂, subst, arith}
use Rattle.std.proofs.lemmas.Int.{ints}
use Rattle.std.proofs.lemmas.List.Elements.{Contains-get_or}
use Rattle.msp_class.proofs.Sums.{OnceBelow}
use Rattle.msp_instance.specs.declared.Instance.{Instance}
use Rattle.msp_instance.specs.Paths.{HasStep}
use Rattle.msp_pieces.specs.declared.Piece.{Piece}
use Rattle.msp_pieces.specs.Piece.{IsBefore}
use Rattle.msp_pieces.specs.Feasible.{Feasible}
use Rattle.msp_pieces.specs.BackToBack.{back_to_back, piece, time_at, schedule_in_order}
use Rattle.msp_pieces.proofs.lists.BackToBack.{back_to_back-arcs}
use Rattle.msp_pieces.proofs.feasible.BackToBack.{piece_makes, back_to_back_is_feasible}
use Rattle.msp_route.proofs.PlainJobs.{IsPlain, takes_time}
use Rattle.msp_route.proofs.BackToBackAnswer.{timed, released}

module _ (i : Instance) (h : IsPlain i) (order : List ℕ)
    (once : OnceBelow (length i.jobs) order) (loose : (j : ℕ) → ¬ HasStep i.arcs j j) (forward : AllPairs (λ x y. ¬ HasStep i.arcs y x) order) where
  abbrev pieces : List Piece
  pieces = back_to_back piece (time_at i) 0 order

  in_order : All (λ a. All (λ p. All (λ q. p.job ≡ a.before → q.job ≡ a.after → IsBefore p q) pieces) pieces) i.arcs
  in_order k d l x u lx y v ly e e' =
      let p = get_or pieces x u in
      let q = get_or pieces y v in
      let step : HasStep i.arcs p.job q.job = subst (Contains i.arcs) (sym (ap₂ (λ b c. record { before = b; after = c }) e e')) (Contains-get_or i.arcs k d l) in
      let there = Contains-get_or pieces y v ly in
      let here = Contains-get_or pieces x u lx in
      let less = back_to_back-arcs piece (time_at i) piece_makes (HasStep i.arcs) 0 order loose forward p q here there step in
      omega (arith, ints, (timed i h order once x u lx).to, (timed i h order once y v ly).from, less)

  pub forward_is_feasible : Feasible i (schedule_in_order i order)
  forward_is_feasible = back_to_back_is_feasible i order once (takes_time i h) h.machine (released i h order once) in_order
