-- One job more: what stays true, and where it fits on no machine.
use Rattle.std.proofs.Common.{◌≡◌, ℕ, suc, ◌+◌, ◌<◌, ◌≤◌, inl, inr, true, false, List, [], ◌∷◌, ◌++◌, length, sym, subst, ◌∙◌, arith, append_assoc, add-one, subst₂}
use Rattle.std.proofs.lemmas.List.{length-map, map-append}
use Rattle.std.proofs.lemmas.List.Elements.{All-map}
use Rattle.msp_class.proofs.Sums.{OnceBelow, length-OnceBelow}
use Rattle.msp_instance.specs.declared.Instance.{Instance}
use Rattle.msp_pieces.specs.declared.Piece.{Piece}
use Rattle.msp_stairs.specs.declared.climb.Limits.{Limits}
use Rattle.msp_stairs.specs.declared.climb.Stair.{Stair}
use Rattle.msp_stairs.specs.declared.climb.Task.{Task}
use Rattle.msp_stairs.specs.Bounds.{at, work_at, deadline}
use Rattle.msp_stairs.specs.Steps.{ends_of, Falls, AreBacked, parts, AreOnStairs, HaveWork, HasClimbed, IsTooLate, task_for, IsWhole, IsCut, IsLaid}
use Rattle.msp_stairs.proofs.Climbing.{Falls-raise, Falls-cut, Falls-among, AreBacked-whole, AreBacked-cut, found_late, IsBelow-up}
use Rattle.msp_stairs.proofs.Pieces.{ran_to, in_front, AreParts-parts, AreOfJob-one, AreOfJob-two, HaveWork-more}

abbrev end_at : Stair → ℕ
end_at s = s.end

-- what the step reads of the instance
pub record CanLay (i : Instance) (order : List ℕ) (limits : Limits) : Type 0 where
  pub once : OnceBelow (length i.jobs) order
  pub rises : (x y : ℕ) → x ≤ y → y < length order → deadline i limits (at order x) ≤ deadline i limits (at order y)
  pub works : (x : ℕ) → x < length order → 1 ≤ work_at i (at order x)
  pub machine : 1 ≤ i.machines

module _ (i : Instance) (order : List ℕ) (limits : Limits) (can : CanLay i order limits)
    (k : ℕ) (old new : List Stair) (before after : List Piece) (inside : k < length order) (c : HasClimbed i order limits k old before) where
  abbrev task : Task
  task = task_for i limits (at order k)

  abbrev due : ℕ → ℕ
  due x = deadline i limits (at order x)

  abbrev work : ℕ → ℕ
  work x = work_at i (at order x)

  HasClimbed-whole : IsWhole task old before new after → HasClimbed i order limits (k + 1) new after
  HasClimbed-whole w = subst₂ (HasClimbed i order limits (k + 1)) (sym w.stand) (sym w.laid) (record {
    falls = λ x l b. (omega (arith, w.fits, can.rises k x (omega (arith, l)) b), Falls-raise (ends_of w.others) (omega (arith, w.is)) (o.falls k (omega arith) inside).1);
    backed = subst (λ n. AreBacked work due n 0 (w.end ∷ ends_of w.others)) (sym (add-one k)) (AreBacked-whole work due k w.first.end w.end (ends_of w.others) w.is o.backed);
    on_stairs = ran_to i.machines [] w.first w.others before o.on_stairs (at order k) w.end (omega (arith, w.is));
    worked = HaveWork-more i order limits k before (parts (at order k) w.first.machine w.first.end w.end) can.once inside o.worked
        (AreOfJob-one (at order k) (work k) (due k) w.first.end w.end _ w.is w.fits (AreParts-parts (at order k) w.first.machine w.first.end w.end));
  })
    where
      o : HasClimbed i order limits k (w.first ∷ w.others) before
      o = subst (λ ss. HasClimbed i order limits k ss before) w.stood c

  module _ (w : IsCut task old before new after) where
    abbrev raised_high : Stair
    raised_high = record { machine = w.high.machine; end = due k }

    abbrev raised_low : Stair
    raised_low = record { machine = w.low.machine; end = w.end }

    abbrev first_parts : List Piece
    first_parts = parts (at order k) w.high.machine w.high.end (due k)

    abbrev second_parts : List Piece
    second_parts = parts (at order k) w.low.machine w.low.end w.end

    o : HasClimbed i order limits k (w.ahead ++ w.high ∷ w.low ∷ w.behind) before
    o = subst (λ ss. HasClimbed i order limits k ss before) w.stood c

    ends_old : ends_of (w.ahead ++ w.high ∷ w.low ∷ w.behind) ≡ ends_of w.ahead ++ w.high.end ∷ w.low.end ∷ ends_of w.behind
    ends_old = map-append end_at w.ahead (w.high ∷ w.low ∷ w.behind)

    ends_rest : ends_of (w.ahead ++ raised_low ∷ w.behind) ≡ ends_of w.ahead ++ w.end ∷ ends_of w.behind
    ends_rest = map-append end_at w.ahead (raised_low ∷ w.behind)

    old_falls : Falls (due k) (ends_of w.ahead ++ w.high.end ∷ w.low.end ∷ ends_of w.behind)
    old_falls = subst (Falls (due k)) ends_old (o.falls k (omega arith) inside)

    high_early : w.high.end ≤ due k
    high_early = Falls-among (due k) w.high.end (ends_of w.ahead) (w.low.end ∷ ends_of w.behind) old_falls

    below_high : w.end ≤ w.high.end
    below_high = omega (arith, w.is, w.fits)

    above_low : w.low.end ≤ w.end
    above_low = omega (arith, w.is, w.beyond)

    first_on : AreOnStairs i.machines (w.ahead ++ raised_high ∷ w.low ∷ w.behind) (before ++ first_parts)
    first_on = ran_to i.machines w.ahead w.high (w.low ∷ w.behind) before o.on_stairs (at order k) (due k) high_early

    second_on : AreOnStairs i.machines ((w.ahead ++ raised_high ∷ []) ++ raised_low ∷ w.behind) ((before ++ first_parts) ++ second_parts)
    second_on = ran_to i.machines (w.ahead ++ raised_high ∷ []) w.low w.behind (before ++ first_parts)
        (subst (λ ss. AreOnStairs i.machines ss (before ++ first_parts)) (sym (append_assoc w.ahead (raised_high ∷ []) (w.low ∷ w.behind))) first_on) (at order k) w.end above_low

    all_worked : HaveWork i order limits (k + 1) (before ++ (first_parts ++ second_parts))
    all_worked = HaveWork-more i order limits k before (first_parts ++ second_parts) can.once inside o.worked
        (AreOfJob-two (at order k) (work k) (due k) w.high.end (due k) w.low.end w.end first_parts second_parts high_early above_low below_high
        (omega (arith, w.is, high_early, above_low)) (omega arith)
        (AreParts-parts (at order k) w.high.machine w.high.end (due k)) (AreParts-parts (at order k) w.low.machine w.low.end w.end))

    HasClimbed-cut : HasClimbed i order limits (k + 1) new after
    HasClimbed-cut = subst₂ (HasClimbed i order limits (k + 1)) (sym w.stand) (sym w.laid) (record {
      falls = λ x l b. (
        can.rises k x (omega (arith, l)) b,
        subst (Falls (due k)) (sym ends_rest) (Falls-cut (due k) w.high.end w.low.end w.end (ends_of w.ahead) (ends_of w.behind) below_high above_low old_falls),
      );
      backed = subst₂ (λ n es. AreBacked work due n 0 (due k ∷ es)) (sym (add-one k)) (sym ends_rest)
          (AreBacked-cut work due k w.high.end w.low.end w.end (ends_of w.ahead) (ends_of w.behind) w.is (subst (AreBacked work due k 0) ends_old o.backed));
      on_stairs = in_front i.machines w.ahead raised_high (raised_low ∷ w.behind) ((before ++ first_parts) ++ second_parts)
          (subst (λ ss. AreOnStairs i.machines ss ((before ++ first_parts) ++ second_parts)) (append_assoc w.ahead (raised_high ∷ []) (raised_low ∷ w.behind)) second_on);
      worked = subst (HaveWork i order limits (k + 1)) (sym (append_assoc before first_parts second_parts)) all_worked;
    })

  pub HasClimbed-next : IsLaid task old before true new after → HasClimbed i order limits (k + 1) new after
  HasClimbed-next (inl w) = HasClimbed-whole w
  HasClimbed-next (inr w) = HasClimbed-cut w

  pub IsTooLate-found : IsLaid task old before false new after → IsTooLate i order limits
  IsTooLate-found high =
      let many : length (ends_of old) ≡ i.machines = length-map old end_at ∙ sym (length-map old (λ s. s.machine)) ∙ length-OnceBelow c.on_stairs.machines in
      let (set, below, late) = found_late work due k 0 i.machines (ends_of old) (omega (arith, many)) (omega (arith, many, can.machine)) (All-map (λ e. due k < e + work k) end_at old high) c.backed in
      (set, IsBelow-up (suc k) (length order) set (omega (arith, inside)) below, late)
