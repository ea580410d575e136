-- How long all pieces are together where all times are 1, and how late a schedule of them ends without its idle stretches.
use Rattle.std.proofs.Common.{◌≡◌, ℕ, ◌*◌, ◌<◌, ◌≤◌, Bool, eqb, List, [], ◌∷◌, length, get_or, map, filter, All, ℤ, pos, negsuc, nat_abs, ◌+ℤ◌, ◌*ℤ◌, ◌≤ℤ◌}
use Rattle.std.proofs.Common.{sum_by, refl, sym, ap, ap₂, subst, ◌∙◌, arith}
use Rattle.std.specs.Prelude.{◌==◌, ◌&&◌}
use Rattle.std.proofs.lemmas.Int.{ints}
use Rattle.std.proofs.lemmas.Nat.{mul-le}
use Rattle.std.proofs.lemmas.List.Elements.{All-head, All-tail, All-filter}
use Rattle.msp_class.specs.declared.class.Env.{Env}
use Rattle.msp_class.specs.declared.class.Env.TheVariants.{One}
use Rattle.msp_class.specs.declared.class.Times.TheVariants.{Unit as UnitTimes}
use Rattle.msp_class.specs.declared.environments.EnvKind.{EnvKind}
use Rattle.msp_class.specs.declared.environments.EnvKind.TheVariants.{Identical, Uniform, Unrelated, OpenShop, FlowShop, JobShop}
use Rattle.msp_class.specs.Env.{kind_of, most_operations}
use Rattle.msp_class.proofs.IntegerRing.{pos-le, le-pos, *ℤ-one, +ℤ_mono, ≤ℤ_refl}
use Rattle.msp_class.proofs.Sums.{sum_by-by_key_filter, total_below-bound}
use Rattle.msp_class.specs.declared.sizes.TheConstants.{MOST_JOBS, MOST_OPERATIONS}
use Rattle.msp_instance.specs.declared.Need.{Need}
use Rattle.msp_instance.specs.declared.Instance.{Instance}
use Rattle.msp_instance.specs.Instance.{no_need, no_job, job_at, need_at}
use Rattle.msp_instance.specs.Conditions.{Limits, MeetsConditions, HasShape, HasSpeeds, HasSameTimes}
use Rattle.msp_pieces.proofs.lists.Places.{filter-both}
use Rattle.msp_pieces.specs.declared.Piece.{Piece}
use Rattle.msp_pieces.specs.declared.Schedule.{Schedule}
use Rattle.msp_pieces.specs.Piece.{length_of, start, finish, IsTimed}
use Rattle.msp_pieces.specs.Feasible.{Feasible, HasOperation, MayRun, product_of_times, total, whole_work}
use Rattle.msp_pieces.specs.Intervals.{size_of}
use Rattle.msp_pieces.proofs.feasible.OneMachine.{IsTimed-from_span, total_lengths}
use Rattle.msp_pieces.proofs.feasible.Frames.{Frame, frame_by, rate_on, Lasts, Stands, Fits, IsShaped-from_conditions, HasTimePerMachine, rate_positive, product_of_times-cons}
use Rattle.msp_pieces.proofs.feasible.Frames.{of_operation, of_operation-named, part, Fits-from_feasible}
use Rattle.msp_pieces.proofs.changes.Moves.{total-cons}

-- ---- a sum by two keys
sum_by-two_keys : {X : Type 0} (a b f : X → ℕ) (n w most : ℕ) (xs : List X) → All (λ x. (a x < n) × (b x < w)) xs
    → ((i o : ℕ) → i < n → o < w → sum_by f (filter (λ x. eqb (a x) i && eqb (b x) o) xs) ≤ most) → sum_by f xs ≤ n * (w * most)
sum_by-two_keys a b f n w most xs keys each =
    subst (λ m. m ≤ n * (w * most)) (sym (sum_by-by_key_filter a f n xs (λ k d l. (keys k d l).0)))
    (total_below-bound n (w * most) (λ i. sum_by f (filter (λ x. eqb (a x) i) xs)) (λ i l.
    let mine = filter (λ x. eqb (a x) i) xs in
    subst (λ m. m ≤ w * most) (sym (sum_by-by_key_filter b f w mine (All-filter (λ x. eqb (a x) i) (λ x. b x < w) xs (λ k d h. (keys k d h).1))))
    (total_below-bound w most (λ o. sum_by f (filter (λ x. eqb (b x) o) mine)) (λ o h.
    subst (λ ys. sum_by f ys ≤ most) (sym (filter-both (λ x. eqb (a x) i) (λ x. eqb (b x) o) xs)) (each i o l h)))))

-- ---- over a frame
total-mono : (f g : Piece → ℤ) (ps : List Piece) → All (λ p. f p ≤ℤ g p) ps → total (map f ps) ≤ℤ total (map g ps)
total-mono f g [] h = ≤ℤ_refl (pos 0)
total-mono f g (p ∷ ps) h =
    subst (λ z. z ≤ℤ total (map g (p ∷ ps))) (sym (total-cons (f p) (map f ps)))
    (subst (λ z. (f p +ℤ total (map f ps)) ≤ℤ z) (sym (total-cons (g p) (map g ps)))
    (+ℤ_mono (All-head (λ q. f q ≤ℤ g q) p ps h) (total-mono f g ps (All-tail (λ q. f q ≤ℤ g q) p ps h))))

-- every operation wants one unit of work, and gets at least one in a moment
record WantsOne (f : Frame) (w : ℕ) : Type 0 where
  few : (j o : ℕ) → j < f.jobs → f.Has j o → o < w
  want : (j o : ℕ) → j < f.jobs → f.Has j o → f.want j o ≡ 1
  rate : (j o m : ℕ) → j < f.jobs → f.May j o m → 1 ≤ f.rate j m

module _ (f : Frame) (unit : ℤ) (ps : List Piece) (w : ℕ) (fits : Fits f unit ps) (one : WantsOne f w) where
  timed : All IsTimed ps
  timed k d l = IsTimed-from_span (get_or ps k d) (fits.span k d l)

  part_longer : (p : Piece) → Lasts p → Stands f p → length_of p ≤ℤ part f p
  part_longer p h s = longer (length_of p) (f.rate p.job p.machine) (omega (arith, ints)) (one.rate p.job p.op p.machine s.job s.machine)
    where
      longer : (x : ℤ) (r : ℕ) → pos 0 ≤ℤ x → 1 ≤ r → x ≤ℤ (x *ℤ pos r)
      longer (pos n) r p h = pos-le (more n r h)
        where
          more : (n r : ℕ) → 1 ≤ r → n ≤ n * r
          more n r h = grind arith
      longer (negsuc n) r p h = absurd (omega (arith, ints))

  operation_length : (j o : ℕ) → j < f.jobs → sum_by (size_of start finish) (of_operation ps j o) ≤ nat_abs unit
  operation_length j o inside = by (of_operation ps j o) refl
    where
      test : Piece → Bool
      test p = (p.job == j) && (p.op == o)

      by : (mine : List Piece) → of_operation ps j o ≡ mine → sum_by (size_of start finish) mine ≤ nat_abs unit
      by [] e = omega arith
      by (p ∷ rest) e =
          let here : (P : Piece → Type 0) → All P ps → All P (p ∷ rest) = λ P h. subst (All P) e (All-filter test P ps h) in
          let named = All-head (λ q. (q.job ≡ j) × (q.op ≡ o)) p rest (subst (All (λ q. (q.job ≡ j) × (q.op ≡ o))) e (of_operation-named ps j o)) in
          let has : f.Has j o = subst (λ a. f.Has a o) named.0 (subst (λ a. f.Has p.job a) named.1 (All-head (Stands f) p rest (here (Stands f) fits.place)).operation) in
          let sum : total (map (part f) (p ∷ rest)) ≡ unit *ℤ pos (f.want j o) = subst (λ l. total (map (part f) l) ≡ unit *ℤ pos (f.want j o)) e (fits.work j o inside has).sum in
          let whole : total (map (part f) (p ∷ rest)) ≡ unit = sum ∙ ap (λ n. unit *ℤ pos n) (one.want j o inside has) ∙ *ℤ-one unit in
          let lengths = total_lengths (p ∷ rest) (here IsTimed timed) in
          let less = total-mono length_of (part f) (p ∷ rest) (λ k d l. part_longer (get_or (p ∷ rest) k d) (here Lasts fits.span k d l) (here (Stands f) fits.place k d l)) in
          at_most unit (sum_by (size_of start finish) (p ∷ rest)) fits.unit_from (subst (λ z. z ≤ℤ unit) lengths (subst (λ z. total (map length_of (p ∷ rest)) ≤ℤ z) whole less))
        where
          at_most : (unit : ℤ) (n : ℕ) → pos 1 ≤ℤ unit → pos n ≤ℤ unit → n ≤ nat_abs unit
          at_most (pos m) n h k = le-pos k
          at_most (negsuc m) n h k = absurd (omega (arith, ints))

  lengths_fit : sum_by (size_of start finish) ps ≤ f.jobs * (w * nat_abs unit)
  lengths_fit = sum_by-two_keys (λ p. p.job) (λ p. p.op) (size_of start finish) f.jobs w (nat_abs unit) ps
      (λ k d l. let s = fits.place k d l in (s.job, one.few (get_or ps k d).job (get_or ps k d).op s.job s.operation)) (λ j o l h. operation_length j o l)

-- ---- an instance of unit times
few_operations : (e : Env) → most_operations e ≤ MOST_OPERATIONS
few_operations One = omega arith
few_operations _ = omega arith

product_of_ones : (ns : List Need) → All (λ n. n.time ≡ 1) ns → product_of_times ns ≡ 1
product_of_ones [] h = refl
product_of_ones (n ∷ ns) h = product_of_times-cons n ns ∙ ap₂ (λ a b. a * b) (All-head (λ n. n.time ≡ 1) n ns h) (product_of_ones ns (All-tail (λ n. n.time ≡ 1) n ns h))

module _ (l : Limits) (i : Instance) (h : MeetsConditions l i) (unit_times : i.class.times ≡ UnitTimes) (j : ℕ) (inside : j < length i.jobs) where
  ones : All (λ n. n.time ≡ 1) (job_at i j).needs
  ones = subst (λ t. HasSameTimes t (need_at i 0 0).time (job_at i j).needs) unit_times (h.jobs j no_job inside).times

  time_is : (o : ℕ) → o < length (job_at i j).needs → (need_at i j o).time ≡ 1
  time_is o k = ones o no_need k

  few_by : (k : EnvKind) → HasShape k i.class.env i.machines (job_at i j).needs → (o : ℕ) → HasOperation k i j o → o < MOST_OPERATIONS
  few_by OpenShop s o e = omega (arith, s.0, e.0, h.machines.1)
  few_by FlowShop s o e = omega (arith, s.0, e.0, h.machines.1)
  few_by JobShop s o e = omega (arith, s.few, e.0, few_operations i.class.env)
  few_by _ s o e = omega (arith, e)

  want_by : (k : EnvKind) → HasShape k i.class.env i.machines (job_at i j).needs → (o : ℕ) → HasOperation k i j o → whole_work k i j o ≡ 1
  want_by Identical s o e = time_is o (omega (arith, s.0, e))
  want_by Uniform s o e = time_is o (omega (arith, s.0, e))
  want_by Unrelated s o e = product_of_ones (job_at i j).needs ones
  want_by _ s o e = time_is o e.0

  rate_by : (k : EnvKind) → HasSpeeds k i.machines i.speeds → (k ≡ Unrelated → All (HasTimePerMachine i.machines) i.jobs) → (o m : ℕ) → MayRun k i j o m → 1 ≤ rate_on k i j m
  rate_by Uniform s own o m r = (s.1 m 0 (omega (arith, s.0, r))).0
  rate_by Unrelated s own o m r = rate_positive i j m (own refl) inside r
  rate_by _ s own o m r = omega arith

wants_one : (l : Limits) (i : Instance) → MeetsConditions l i → i.class.times ≡ UnitTimes → WantsOne (frame_by (kind_of i.class.env) i) MOST_OPERATIONS
wants_one l i h e = record {
  few = λ j o inside has. few_by l i h e j inside (kind_of i.class.env) (h.jobs j no_job inside).needs.shape o has;
  want = λ j o inside has. want_by l i h e j inside (kind_of i.class.env) (h.jobs j no_job inside).needs.shape o has;
  rate = λ j o m inside may. rate_by l i h e j inside (kind_of i.class.env) h.speeds (IsShaped-from_conditions l i h).unrelated o m may;
}

-- each operation is at most a unit long
pub lengths_of_units : (l : Limits) (i : Instance) (s : Schedule)
    → MeetsConditions l i → i.class.times ≡ UnitTimes → Feasible i s → sum_by (size_of start finish) s.pieces ≤ MOST_JOBS * MOST_OPERATIONS * nat_abs s.unit
lengths_of_units l i s h e f =
    bounded (length i.jobs) (nat_abs s.unit) _ h.few
    (lengths_fit (frame_by (kind_of i.class.env) i) s.unit s.pieces MOST_OPERATIONS (Fits-from_feasible i s (IsShaped-from_conditions l i h) f) (wants_one l i h e))
  where
    bounded : (n u m : ℕ) → n ≤ MOST_JOBS → m ≤ n * (MOST_OPERATIONS * u) → m ≤ MOST_JOBS * MOST_OPERATIONS * u
    bounded n u m few k = let most = mul-le n (MOST_OPERATIONS * u) MOST_JOBS (MOST_OPERATIONS * u) few (omega arith) in omega arith
