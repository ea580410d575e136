-- A schedule whose unit and moments are all multiples of a number: over that number it is feasible too, and costs the same.
use Rattle.std.proofs.Common.{◌≡◌, ℕ, ◌<◌, Bool, true, false, List, [], ◌∷◌, get_or, map, filter, fold, All, AllPairs, inl, inr, ℤ, pos, ◌*ℤ◌, ◌≤ℤ◌, ◌<ℤ◌, slice_index_or, refl}
use Rattle.std.proofs.Common.{sym, ap, subst, subst₂, ◌∙◌, arith}
use Rattle.std.specs.Prelude.{◌/◌, ◌==◌, ◌&&◌, MatchBool}
use Rattle.std.specs.Int.{int_max}
use Rattle.std.proofs.lemmas.Int.{ints}
use Rattle.std.proofs.lemmas.List.{length-map, get_or-map}
use Rattle.std.proofs.lemmas.Simd.{map-map}
use Rattle.msp_class.proofs.IntegerRing.{*ℤ-zero, one-*ℤ, *ℤ-sub, *ℤ_assoc, *ℤ-cancel, *ℤ-cancel_lt, *ℤ-cancel_same, *ℤ-int_max, pos-le}
use Rattle.msp_class.specs.declared.environments.EnvKind.{EnvKind}
use Rattle.msp_class.specs.declared.environments.EnvKind.TheVariants.{Uniform, Unrelated, FlowShop, JobShop}
use Rattle.msp_class.specs.Env.{kind_of}
use Rattle.msp_instance.specs.declared.Instance.{Instance}
use Rattle.msp_instance.specs.Instance.{job_at, need_at}
use Rattle.msp_pieces.specs.declared.Piece.{Piece}
use Rattle.msp_pieces.specs.declared.Schedule.{Schedule}
use Rattle.msp_pieces.specs.Piece.{length_of, IsBefore, IsApart}
use Rattle.msp_pieces.specs.Feasible.{Feasible, HasPlace, FollowsRoute, IsWholeWork, product_of_times, total, whole_work, work_of}
use Rattle.msp_pieces.specs.Cost.{end_of, job_cost, cost_of}
use Rattle.msp_pieces.proofs.feasible.Frames.{of_operation}
use Rattle.msp_pieces.proofs.changes.Moves.{filter-map, one_from_map, total-multiples}
use Rattle.msp_pieces.proofs.costs.Charges.{cost-multiple, job_cost-scale}

pub All-from_map : {X Y : Type 0} (P : Y → Type 0) (f : X → Y) (xs : List X) → All P (map f xs) → All (λ x. P (f x)) xs
All-from_map P f xs h k d l = subst P (get_or-map f xs k d (f d) l) (h k (f d) (omega (arith, length-map xs f)))

AllPairs-from_map : {X Y : Type 0} (R : Y → Y → Type 0) (f : X → Y) (xs : List X) → AllPairs R (map f xs) → AllPairs (λ x y. R (f x) (f y)) xs
AllPairs-from_map R f xs h i j d a b = subst₂ R (get_or-map f xs i d (f d) (omega arith)) (get_or-map f xs j d (f d) b) (h i j (f d) a (omega (arith, length-map xs f)))

twice_from_map : {X Y : Type 0} (R : Y → Y → Type 0) (f : X → Y) (xs : List X) → All (λ x. All (R x) (map f xs)) (map f xs) → All (λ x. All (λ y. R (f x) (f y)) xs) xs
twice_from_map R f xs h k d l = All-from_map (R (f (get_or xs k d))) f xs (All-from_map (λ x. All (R x) (map f xs)) f xs h k d l)

-- the piece with both moments times a number
abbrev pub grown : ℕ → Piece → Piece
grown g p = record p { from = pos g *ℤ p.from; to = pos g *ℤ p.to }

abbrev pub grown_schedule : ℕ → Schedule → Schedule
grown_schedule g s = record { unit = pos g *ℤ s.unit; pieces = map (grown g) s.pieces }

module _ (g : ℕ) (some : 0 < g) where
  shrunk_apart : (p q : Piece) → IsApart (grown g p) (grown g q) → IsApart p q
  shrunk_apart p q a = elim a [ inl b ↦ inl (*ℤ-cancel g some b) | inr b ↦ inr (*ℤ-cancel g some b) ]

  grown_length : (p : Piece) → length_of (grown g p) ≡ pos g *ℤ length_of p
  grown_length p = sym (*ℤ-sub (pos g) p.to p.from)

  grown_product : (p : Piece) (r : ℤ) → length_of (grown g p) *ℤ r ≡ pos g *ℤ (length_of p *ℤ r)
  grown_product p r = ap (λ z. z *ℤ r) (grown_length p) ∙ *ℤ_assoc (pos g) (length_of p) r

  grown_work : (k : EnvKind) (i : Instance) (p : Piece) → work_of k i (grown g p) ≡ pos g *ℤ work_of k i p
  grown_work Uniform i p = grown_product p (pos (slice_index_or i.speeds p.machine 0))
  grown_work Unrelated i p = grown_product p (pos (product_of_times (job_at i p.job).needs / (need_at i p.job p.machine).time))
  grown_work _ i p = grown_length p

  shrunk_long : (unit x y : ℤ) (n : ℕ) → x ≡ pos g *ℤ y → x ≡ (pos g *ℤ unit) *ℤ pos n → y ≡ unit *ℤ pos n
  shrunk_long unit x y n e h = *ℤ-cancel_same g some (sym e ∙ h ∙ *ℤ_assoc (pos g) unit (pos n))

  shrunk_whole : (k : EnvKind) (i : Instance) (unit : ℤ) (p : Piece) → IsWholeWork k i (pos g *ℤ unit) (grown g p) → IsWholeWork k i unit p
  shrunk_whole Uniform i unit p h = shrunk_long unit _ _ _ (grown_product p (pos (slice_index_or i.speeds p.machine 0))) h
  shrunk_whole _ i unit p h = shrunk_long unit _ _ _ (grown_length p) h

  shrunk_route : (k : EnvKind) (ps : List Piece) → FollowsRoute k (map (grown g) ps) → FollowsRoute k ps
  shrunk_route FlowShop ps r = λ k d l m e n a b. *ℤ-cancel g some (twice_from_map (λ p q. p.job ≡ q.job → p.op < q.op → IsBefore p q) (grown g) ps r k d l m e n a b)
  shrunk_route JobShop ps r = λ k d l m e n a b. *ℤ-cancel g some (twice_from_map (λ p q. p.job ≡ q.job → p.op < q.op → IsBefore p q) (grown g) ps r k d l m e n a b)
  shrunk_route _ ps r = r

  module _ (i : Instance) (s : Schedule) where
    grown_operation : (j o : ℕ) → of_operation (map (grown g) s.pieces) j o ≡ map (grown g) (of_operation s.pieces j o)
    grown_operation j o = filter-map (grown g) (λ p. (p.job == j) && (p.op == o)) (λ p. (p.job == j) && (p.op == o)) s.pieces (λ a d l. refl)

    abbrev Work : ℤ → List Piece → ℕ → ℕ → Bool → Type 0
    Work unit ps j o cut = MatchBool cut (total (map (work_of (kind_of i.class.env) i) (of_operation ps j o)) ≡ unit *ℤ pos (whole_work (kind_of i.class.env) i j o))
        ((p : Piece) × (of_operation ps j o ≡ p ∷ []) × IsWholeWork (kind_of i.class.env) i unit p)

    shrunk_work : (j o : ℕ) (cut : Bool) → Work (pos g *ℤ s.unit) (map (grown g) s.pieces) j o cut → Work s.unit s.pieces j o cut
    shrunk_work j o true w =
        let w_of = work_of (kind_of i.class.env) i in
        let mine = of_operation s.pieces j o in
        shrunk_long s.unit _ _ _
        (sym (one-*ℤ (total (map w_of (map (grown g) mine)))) ∙ ap (λ l. pos 1 *ℤ total l) (map-map w_of (grown g) mine)
        ∙ total-multiples (pos 1) (pos g) (λ p. w_of (grown g p)) w_of mine (λ a d l. one-*ℤ _ ∙ grown_work (kind_of i.class.env) i (get_or mine a d)))
        (ap (λ l. total (map w_of l)) (sym (grown_operation j o)) ∙ w)
    shrunk_work j o false (q, e, w) =
        let (p, is, same) = one_from_map (grown g) (of_operation s.pieces j o) q (sym (grown_operation j o) ∙ e) in
        (p, is, shrunk_whole (kind_of i.class.env) i s.unit p (subst (IsWholeWork (kind_of i.class.env) i (pos g *ℤ s.unit)) (sym same) w))

    pub Feasible-shrunk : Feasible i (grown_schedule g s) → Feasible i s
    Feasible-shrunk f = record {
      unit = omega (arith, ints, *ℤ-cancel_lt g {a = pos 0} {b = s.unit} (subst (λ z. z <ℤ (pos g *ℤ s.unit)) (sym (*ℤ-zero (pos g))) (omega (arith, ints, f.unit))), f.unit);
      span = λ a d l. let h = All-from_map (λ p. (pos 0 ≤ℤ p.from) × (p.from <ℤ p.to)) (grown g) s.pieces f.span a d l in
          (*ℤ-cancel g some (subst (λ z. z ≤ℤ (pos g *ℤ (get_or s.pieces a d).from)) (sym (*ℤ-zero (pos g))) h.0), *ℤ-cancel_lt g h.1);
      place = λ a d l. let h = All-from_map (HasPlace i) (grown g) s.pieces f.place a d l in record { job = h.job; operation = h.operation; machine = h.machine };
      machine = λ a b d l m e. shrunk_apart (get_or s.pieces a d) (get_or s.pieces b d) (AllPairs-from_map (λ p q. p.machine ≡ q.machine → IsApart p q) (grown g) s.pieces f.machine a b d l m e);
      job = λ a b d l m e. shrunk_apart (get_or s.pieces a d) (get_or s.pieces b d) (AllPairs-from_map (λ p q. p.job ≡ q.job → IsApart p q) (grown g) s.pieces f.job a b d l m e);
      release = λ a d l. *ℤ-cancel g some (subst (λ z. z ≤ℤ (pos g *ℤ (get_or s.pieces a d).from)) (*ℤ_assoc (pos g) s.unit (pos (job_at i (get_or s.pieces a d).job).release))
          (All-from_map (λ p. ((pos g *ℤ s.unit) *ℤ pos (job_at i p.job).release) ≤ℤ p.from) (grown g) s.pieces f.release a d l));
      arc = λ a d l k e m n c o p q. *ℤ-cancel g some
          (twice_from_map (λ p q. p.job ≡ (get_or i.arcs a d).before → q.job ≡ (get_or i.arcs a d).after → IsBefore p q) (grown g) s.pieces (f.arc a d l) k e m n c o p q);
      route = shrunk_route (kind_of i.class.env) s.pieces f.route;
      work = λ j o l h. shrunk_work j o i.class.cut (f.work j o l h);
    }

    -- ends and costs
    fold_grown : (a : ℤ) (ps : List Piece) → fold int_max (pos g *ℤ a) (map (λ p. pos g *ℤ p.to) ps) ≡ pos g *ℤ fold int_max a (map (λ p. p.to) ps)
    fold_grown a [] = refl
    fold_grown a (p ∷ ps) = ap (λ z. fold int_max z (map (λ q. pos g *ℤ q.to) ps)) (sym (*ℤ-int_max g a p.to)) ∙ fold_grown (int_max a p.to) ps

    grown_end : (j : ℕ) → end_of (grown_schedule g s) j ≡ pos g *ℤ end_of s j
    grown_end j =
        let mine = filter (λ p. p.job == j) s.pieces in
        ap (λ l. fold int_max (pos 0) (map (λ p. p.to) l)) (filter-map (grown g) (λ p. p.job == j) (λ p. p.job == j) s.pieces (λ a d l. refl))
        ∙ ap (fold int_max (pos 0)) (map-map (λ p. p.to) (grown g) mine)
        ∙ ap (λ z. fold int_max z (map (λ p. pos g *ℤ p.to) mine)) (sym (*ℤ-zero (pos g)))
        ∙ fold_grown (pos 0) mine

    pub cost-grown : cost_of i (grown_schedule g s) ≡ pos g *ℤ cost_of i s
    cost-grown = sym (one-*ℤ (cost_of i (grown_schedule g s))) ∙ cost-multiple i i (grown_schedule g s) s (pos 1) (pos g) (pos-le (omega arith)) (pos-le (omega arith)) refl refl
        (λ k l. one-*ℤ _ ∙ ap (λ x. job_cost i.class.crit (pos g *ℤ s.unit) (job_at i k) x) (grown_end k) ∙ job_cost-scale g some s.unit i.class.crit (job_at i k) (end_of s k))
