-- One more piece may reach further.
use Rattle.std.proofs.Common.{◌≡◌, ℕ, ◌+◌, ◌<◌, List, [], ◌∷◌, length, get_or, take, map, fold, All, ℤ, pos, ◌+ℤ◌, ◌*ℤ◌, to_z, sym, ap, ap₂, subst, subst₂, ◌∙◌, rules}
use Rattle.std.specs.Int.{w128, int_max}
use Rattle.std.proofs.lemmas.Int.{to_z-of_z}
use Rattle.std.proofs.lemmas.List.{get_or_read, take_more, map-append}
use Rattle.std.proofs.lemmas.List.Sums.{fold-append}
use Rattle.msp_instance.specs.declared.Instance.{Instance}
use Rattle.msp_instance.specs.declared.Job.{Job}
use Rattle.msp_instance.specs.Instance.{job_at, no_job}
use Rattle.msp_pieces.specs.declared.Piece.{Piece}
use Rattle.msp_turn.specs.laws.ReversalLaw.{reach}
use Rattle.msp_turn.proofs.EndOrder.{no_piece}
use Rattle.msp_turn.proofs.reversal.turning_moment.Goals as goal

next : (i : Instance) (u : ℤ) (ps qs : List Piece) (js : List Job) (k : ℕ) (j : Job) (old x y r new : ℤ) → qs ≡ ps → js ≡ i.jobs → All (λ p. p.job < length i.jobs) ps → k < length qs
    → j ≡ get_or js (get_or qs k no_piece).job j → x ≡ (get_or qs k no_piece).to +ℤ (u *ℤ pos j.release) → y ≡ x → r ≡ int_max old y → new ≡ r
    → old ≡ fold int_max (pos 0) (map (reach i u) (take k ps)) → new ≡ fold int_max (pos 0) (map (reach i u) (take (k + 1) ps))
next i u ps qs js k j old x y r new same jobs all below at e f m g h =
    let p = get_or qs k no_piece in
    let inside : k < length ps = subst (λ (l : List Piece). k < length l) same below in
    let named = subst₂ (λ (l : List Piece) (t : List Job). (get_or l k no_piece).job < length t) (sym same) (sym jobs) (all k no_piece inside) in
    let job : j ≡ job_at i p.job = get_or_read js p.job j named at no_job ∙ ap (λ (t : List Job). get_or t p.job no_job) jobs in
    g ∙ m ∙ ap₂ int_max h (f ∙ e ∙ ap (λ (t : Job). p.to +ℤ (u *ℤ pos t.release)) job ∙ ap (λ (l : List Piece). reach i u (get_or l k no_piece)) same)
    ∙ sym (
    ap (λ (l : List Piece). fold int_max (pos 0) (map (reach i u) l)) (take_more ps k no_piece inside)
    ∙ ap (fold int_max (pos 0)) (map-append (reach i u) (take k ps) (get_or ps k no_piece ∷ []))
    ∙ fold-append int_max (pos 0) (map (reach i u) (take k ps)) (reach i u (get_or ps k no_piece) ∷ []))

pub loop-piece-preserved : goal.loop-piece-preserved
loop-piece-preserved c =
    next c.args.inst.now c.args.s.now.unit c.args.s.now.pieces c.as_slice-piece-items.result.now c.as_slice-jobs.result.now c.loop-piece.piece-index c.index-jobs-piece.result
    (to_z w128 c.loop-piece.last-bits) c.reach.result _ c.max-last.result _ c.as_slice-piece-items.ensures c.as_slice-jobs.ensures c.requires.jobs c.loop-piece-test.true c.index-jobs-piece.is
    c.reach.ensures (to_z-of_z w128 c.reach.result (search rules)) c.max-last.ensures.value (to_z-of_z w128 c.max-last.result (search rules)) c.loop-piece.invariant
