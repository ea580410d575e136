-- Jobs that may not be cut, on machines of any kind: each has one piece, and the pieces of one machine are apart.
use Rattle.std.proofs.Common.{◌≡◌, ℕ, ◌*◌, ◌-◌, ◌<◌, false, ◌≢◌, inl, inr, [], ◌∷◌, length, get_or, map, Contains, ℤ, pos, nat_abs, ◌-ℤ◌, ◌*ℤ◌, ◌≤ℤ◌, ◌<ℤ◌}
use Rattle.std.proofs.Common.{MatchBool, arith, refl, sym, ap, subst, subst₂, ◌∙◌}
use Rattle.std.specs.Prelude.{◌==◌, ◌&&◌}
use Rattle.std.proofs.lemmas.Bool.{eqb-true}
use Rattle.std.proofs.lemmas.List.Elements.{All-contains}
use Rattle.msp_class.specs.declared.class.Crit.TheVariants.{SumC}
use Rattle.msp_class.specs.Env.{kind_of}
use Rattle.msp_class.specs.Crit.{is_greatest}
use Rattle.msp_class.proofs.IntegerRing.{natural, pos-same}
use Rattle.msp_class.specs.Sums.{total_below}
use Rattle.msp_class.proofs.Sums.{AllPairs-contains, Contains-from_filter, int_total_below-pos, int_total_below-mono}
use Rattle.msp_instance.specs.declared.Instance.{Instance}
use Rattle.msp_instance.specs.Instance.{job_at}
use Rattle.msp_pieces.specs.declared.Piece.{Piece}
use Rattle.msp_pieces.specs.declared.Schedule.{Schedule}
use Rattle.msp_pieces.specs.Piece.{pieces_of, IsApart as AreApart, start, finish, IsTimed, no_piece}
use Rattle.msp_pieces.specs.Feasible.{Feasible, HasPlace, HasOperation, IsWholeWork, total, work_of, whole_work}
use Rattle.msp_pieces.specs.Cost.{end_of, job_cost, cost_of}
use Rattle.msp_pieces.specs.Intervals.{IsApart}
use Rattle.msp_pieces.proofs.feasible.OneMachine.{IsTimed-from_span, apart_in_nat, length-timed, both_true}
use Rattle.msp_pieces.proofs.feasible.LastEnds.{last_end-contains}
use Rattle.msp_pieces.proofs.costs.Charges.{cost_of-sum, charge_of}

-- the one piece of a job
abbrev pub only_piece : Schedule → ℕ → Piece
only_piece s j = get_or (pieces_of s j 0) 0 no_piece

-- how long a piece lasts, in ℕ
pub length_in_nat : (p : Piece) (u : ℤ) (t : ℕ) → IsTimed p → pos 0 ≤ℤ u → p.to -ℤ p.from ≡ u *ℤ pos t → finish p - start p ≡ nat_abs u * t
length_in_nat p u t h k e = pos-same (sym (length-timed p h) ∙ e ∙ ap (λ x. x *ℤ pos t) (natural u k))

module _ (i : Instance) (s : Schedule) (whole : i.class.cut ≡ false) (works : (j : ℕ) → j < length i.jobs → HasOperation (kind_of i.class.env) i j 0) (f : Feasible i s) where
  pub record IsOnly (j : ℕ) (p : Piece) : Type 0 where
    pub among : Contains s.pieces p
    pub job : p.job ≡ j
    pub op : p.op ≡ 0
    pub work : IsWholeWork (kind_of i.class.env) i s.unit p

  abbrev HasOne : ℕ → Type 0
  HasOne j = (p : Piece) × (pieces_of s j 0 ≡ p ∷ []) × IsWholeWork (kind_of i.class.env) i s.unit p

  pub is_only : (j : ℕ) → j < length i.jobs → IsOnly j (only_piece s j)
  is_only j l = let k = kind_of i.class.env in
      by (subst (λ b. MatchBool b (total (map (work_of k i) (pieces_of s j 0)) ≡ s.unit *ℤ pos (whole_work k i j 0)) (HasOne j)) whole (f.work j 0 l (works j l)))
    where
      by : HasOne j → IsOnly j (only_piece s j)
      by (p, e, w) =
          let (c, t) = Contains-from_filter (λ q. (q.job == j) && (q.op == 0)) s.pieces p (subst (λ l. Contains l p) (sym e) (0, omega arith, refl)) in
          let both = both_true _ _ t in
          subst (IsOnly j) (sym (ap (λ l. get_or l 0 no_piece) e)) (record { among = c; job = eqb-true _ _ both.0; op = eqb-true _ _ both.1; work = w })

  pub only_timed : (j : ℕ) → j < length i.jobs → IsTimed (only_piece s j)
  only_timed j l = IsTimed-from_span (only_piece s j) (All-contains (λ p. (pos 0 ≤ℤ p.from) × (p.from <ℤ p.to)) s.pieces (only_piece s j) f.span (is_only j l).among)

  pub only_placed : (j : ℕ) → j < length i.jobs → HasPlace i (only_piece s j)
  only_placed j l = All-contains (HasPlace i) s.pieces (only_piece s j) f.place (is_only j l).among

  pub only_apart : (a b : ℕ) → a < length i.jobs → b < length i.jobs
      → a ≢ b → (only_piece s a).machine ≡ (only_piece s b).machine → IsApart (λ j. start (only_piece s j)) (λ j. finish (only_piece s j)) a b
  only_apart a b l m ne on = elim (AllPairs-contains (λ p q. p.machine ≡ q.machine → AreApart p q) s.pieces (only_piece s a) (only_piece s b) f.machine (is_only a l).among (is_only b m).among) [
    | inl r ↦ apart_in_nat (only_piece s a) (only_piece s b) (only_timed a l) (only_timed b m) (r on)
    | inr (inl e) ↦ absurd (ne (sym (is_only a l).job ∙ ap (λ p. p.job) e ∙ (is_only b m).job))
    | inr (inr r) ↦ apart_in_nat _ _ (only_timed a l) (only_timed b m) (elim (r (sym on)) [ inl x ↦ inr x | inr x ↦ inl x ])
  ]

  pub only_end : (j : ℕ) → j < length i.jobs → pos (finish (only_piece s j)) ≤ℤ end_of s j
  only_end j l =
      let o = is_only j l in
      subst₂ (λ x k. x ≤ℤ end_of s k) (only_timed j l).to o.job (last_end-contains s.pieces (only_piece s j) o.among)

  -- the sum of completion times
  pub sum_of_only_ends : i.class.crit ≡ SumC → pos (total_below (length i.jobs) (λ j. finish (only_piece s j))) ≤ℤ cost_of i s
  sum_of_only_ends crit =
      subst₂ (λ x y. x ≤ℤ y) (int_total_below-pos (length i.jobs) (λ j. finish (only_piece s j))) (sym (cost_of-sum i s (ap is_greatest crit)))
      (int_total_below-mono (length i.jobs) (λ j. pos (finish (only_piece s j)))
      (charge_of i s) (λ j l. subst (λ c. pos (finish (only_piece s j)) ≤ℤ job_cost c s.unit (job_at i j) (end_of s j)) (sym crit) (only_end j l)))
