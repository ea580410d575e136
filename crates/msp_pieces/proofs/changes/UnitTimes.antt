-- Equal times, and the same instance with unit times: schedules of one as schedules of the other.
use Rattle.std.proofs.Common.{◌≡◌, ◌≢◌, ℕ, ◌*◌, ◌/◌, ◌<◌, ◌≤◌, ◌⊎◌, List, [], ◌∷◌, length, get_or, map, All, Contains, inl, inr, ℤ, pos, negsuc, ◌*ℤ◌, ◌≤ℤ◌, slice_index_or, refl}
use Rattle.std.proofs.Common.{sym, ap, ap₂, subst, ◌∙◌, arith}
use Rattle.std.proofs.lemmas.Int.{ints}
use Rattle.std.proofs.lemmas.List.{length-map, get_or-map, map-id}
use Rattle.std.proofs.lemmas.List.Elements.{All-contains_itself}
use Rattle.msp_class.specs.declared.class.Crit.{Crit}
use Rattle.msp_class.specs.declared.class.Crit.TheVariants.{Cmax, SumC, SumWC}
use Rattle.msp_class.specs.Crit.{is_greatest}
use Rattle.msp_class.specs.declared.class.Times.TheVariants.{Equal}
use Rattle.msp_class.specs.declared.environments.EnvKind.{EnvKind}
use Rattle.msp_class.specs.declared.environments.EnvKind.TheVariants.{Identical, Uniform, Unrelated, OpenShop, FlowShop, JobShop}
use Rattle.msp_class.specs.Env.{kind_of}
use Rattle.msp_class.proofs.IntegerRing.{pos-le, le-pos, one-*ℤ, *ℤ-zero, *ℤ_assoc, *ℤ_exchange, *ℤ-mono}
use Rattle.msp_instance.specs.declared.Instance.{Instance}
use Rattle.msp_instance.specs.declared.Job.{Job}
use Rattle.msp_instance.specs.declared.Need.{Need}
use Rattle.msp_instance.specs.Instance.{no_need, no_job, job_at, need_at, common_time}
use Rattle.msp_instance.specs.Conditions.{Limits, MeetsConditions, HasSameTimes}
use Rattle.msp_pieces.specs.declared.Schedule.{Schedule}
use Rattle.msp_pieces.specs.Feasible.{Feasible, HasOperation, MayRun, product_of_times, whole_work}
use Rattle.msp_pieces.specs.Cost.{cost_of, end_of, job_cost}
use Rattle.msp_pieces.proofs.feasible.Frames.{frame_by, rate_on, Fits, IsShaped, HasTimePerMachine, job_at-map, rate_times, rate_positive, product_of_times-cons}
use Rattle.msp_pieces.proofs.feasible.Frames.{Fits-from_feasible, Feasible-from_fits}
use Rattle.msp_pieces.proofs.changes.Moves.{Suits}
use Rattle.msp_pieces.proofs.changes.Transport.{Carries, Stretches-identity, carried_all, Fits-carried, last_end-carried}
use Rattle.msp_pieces.proofs.feasible.LastEnds.{last_end-natural}
use Rattle.msp_pieces.proofs.costs.Charges.{charge_of, cost-pointwise}
use Rattle.msp_pieces.specs.Busy.{busy_moment}
use Rattle.msp_pieces.proofs.changes.Busy.{busy_moment-le, Carries-closed}
use Rattle.std.proofs.Math.Nat.{mul-pos}

abbrev pub unit_need : Need → Need
unit_need n = record n { time = 1 }

-- the times of i are all e, and j is i with unit times; release dates, arcs and what costs read may differ
pub record IsUnitOf (e : ℕ) (i j : Instance) : Type 0 where
  pub some : 1 ≤ e
  pub kind : kind_of i.class.env ≡ kind_of j.class.env
  pub cut : i.class.cut ≡ j.class.cut
  pub machines : i.machines ≡ j.machines
  pub speeds : i.speeds ≡ j.speeds
  pub count : length i.jobs ≡ length j.jobs
  pub needs : (k : ℕ) → k < length i.jobs → (job_at j k).needs ≡ map unit_need (job_at i k).needs
  pub times : (k : ℕ) → k < length i.jobs → All (λ n. n.time ≡ e) (job_at i k).needs
  pub wide : (k : ℕ) → k < length i.jobs → 1 ≤ length (job_at i k).needs

abbrev pub unit_job : Job → Job
unit_job a = record a { needs = map unit_need a.needs }

-- in a class of equal times, with all times set to 1
pub IsUnitOf-from_conditions : (l : Limits) (i j : Instance) → MeetsConditions l i
    → i.class.times ≡ Equal → kind_of i.class.env ≡ kind_of j.class.env → i.class.cut ≡ j.class.cut → i.machines ≡ j.machines → i.speeds ≡ j.speeds
    → j.jobs ≡ map unit_job i.jobs → IsUnitOf (common_time i) i j
IsUnitOf-from_conditions l i j h e kind cut machines speeds jobs = record {
  some = let (k, x, b, s, t) = (h.jobs 0 no_job h.some).needs.some in omega (arith, equal 0 h.some k x b, subst (λ n. 1 ≤ n.time) (sym s) t);
  kind = kind;
  cut = cut;
  machines = machines;
  speeds = speeds;
  count = sym (ap length jobs ∙ length-map i.jobs unit_job);
  needs = λ k b. ap (λ a. a.needs) (job_at-map i j unit_job jobs k b);
  times = equal;
  wide = λ k b. let (o, x, c, s, t) = (h.jobs k no_job b).needs.some in omega (arith, c);
}
  where
    equal : (k : ℕ) → k < length i.jobs → All (λ n. n.time ≡ common_time i) (job_at i k).needs
    equal k b = subst (λ t. HasSameTimes t (common_time i) (job_at i k).needs) e (h.jobs k no_job b).times

-- the product of unit times
product_of_ones : (ns : List Need) → product_of_times (map unit_need ns) ≡ 1
product_of_ones [] = refl
product_of_ones (n ∷ ns) = product_of_times-cons (unit_need n) (map unit_need ns) ∙ ap (λ m. 1 * m) (product_of_ones ns)

module _ (e : ℕ) (i j : Instance) (u : IsUnitOf e i j) (a : ℕ) (inside : a < length i.jobs) where
  long : length (job_at j a).needs ≡ length (job_at i a).needs
  long = ap length (u.needs a inside) ∙ length-map (job_at i a).needs unit_need

  need_is : (o : ℕ) → o < length (job_at i a).needs → need_at j a o ≡ unit_need (need_at i a o)
  need_is o l = ap (λ ns. slice_index_or ns o no_need) (u.needs a inside) ∙ get_or-map unit_need (job_at i a).needs o no_need no_need l

  time_here : (o : ℕ) → o < length (job_at i a).needs → (need_at i a o).time ≡ e
  time_here o l = u.times a inside o no_need l

  time_there : (o : ℕ) → o < length (job_at i a).needs → (need_at j a o).time ≡ 1
  time_there o l = ap (λ n. n.time) (need_is o l)

  runs_there : (o : ℕ) → o < length (job_at i a).needs → (need_at j a o).machine ≡ (need_at i a o).machine
  runs_there o l = ap (λ n. n.machine) (need_is o l)

  -- operations, and where they run
  shop_to : (o : ℕ) → (o < length (job_at i a).needs) × ((need_at i a o).time ≢ 0) → (o < length (job_at j a).needs) × ((need_at j a o).time ≢ 0)
  shop_to o h = (omega (arith, long, h.0), λ z. absurd (omega (arith, z, time_there o h.0)))

  shop_from : (o : ℕ) → (o < length (job_at j a).needs) × ((need_at j a o).time ≢ 0) → (o < length (job_at i a).needs) × ((need_at i a o).time ≢ 0)
  shop_from o h = let l : o < length (job_at i a).needs = omega (arith, long, h.0) in (l, λ z. absurd (omega (arith, z, time_here o l, u.some)))

  record Alike (k : EnvKind) (o : ℕ) : Type 0 where
    to : HasOperation k i a o → HasOperation k j a o
    from : HasOperation k j a o → HasOperation k i a o
    may : (m : ℕ) → HasOperation k i a o → MayRun k i a o m → MayRun k j a o m
    back : (m : ℕ) → HasOperation k i a o → MayRun k j a o m → MayRun k i a o m

  alike : (k : EnvKind) (o : ℕ) → Alike k o
  alike OpenShop o = record { to = shop_to o; from = shop_from o; may = λ m h w. w ∙ sym (runs_there o h.0); back = λ m h w. w ∙ runs_there o h.0 }
  alike FlowShop o = record { to = shop_to o; from = shop_from o; may = λ m h w. w ∙ sym (runs_there o h.0); back = λ m h w. w ∙ runs_there o h.0 }
  alike JobShop o = record { to = shop_to o; from = shop_from o; may = λ m h w. w ∙ sym (runs_there o h.0); back = λ m h w. w ∙ runs_there o h.0 }
  alike _ o = record { to = λ h. h; from = λ h. h; may = λ m h w. omega (arith, u.machines, w); back = λ m h w. omega (arith, u.machines, w) }

  -- rates and work: over a unit e times as large, and over times e times as long
  record Ratios (k : EnvKind) (o : ℕ) : Type 0 where
    times : ℕ
    over : ℕ
    some : 0 < times
    rate : (m : ℕ) → MayRun k i a o m → times * rate_on k j a m ≡ rate_on k i a m
    want : times * (e * whole_work k j a o) ≡ whole_work k i a o
    rate_back : (m : ℕ) → MayRun k i a o m → e * rate_on k i a m ≡ over * rate_on k j a m
    want_back : whole_work k i a o ≡ over * whole_work k j a o

  -- an operation with its own time
  plain : (k : EnvKind) (o : ℕ) → ((m : ℕ) → rate_on k j a m ≡ rate_on k i a m) → whole_work k i a o ≡ e → whole_work k j a o ≡ 1 → Ratios k o
  plain k o r w v = record {
    times = 1;
    over = e;
    some = omega arith;
    rate = λ m h. omega (arith, r m);
    want = omega (arith, w, ap (λ n. e * n) v);
    rate_back = λ m h. ap (λ n. e * n) (sym (r m));
    want_back = omega (arith, w, ap (λ n. e * n) v);
  }

  unrelated : (o : ℕ) → 1 ≤ i.machines → All (HasTimePerMachine i.machines) i.jobs → Ratios Unrelated o
  unrelated o some own = record {
    times = quotient;
    over = product;
    some = subst (λ n. 0 < n) (here 0 some) (rate_positive i a 0 own inside some);
    rate = λ m h. ap (λ n. quotient * n) (there m h) ∙ once quotient ∙ sym (here m h);
    want = ap (λ n. quotient * (e * n)) ones ∙ ap (λ n. quotient * n) (once e) ∙ whole;
    rate_back = λ m h. ap (λ n. e * n) (here m h) ∙ omega arith ∙ whole ∙ sym (once product) ∙ ap (λ n. product * n) (sym (there m h));
    want_back = sym (once product) ∙ ap (λ n. product * n) (sym ones);
  }
    where
      product : ℕ
      product = product_of_times (job_at i a).needs

      quotient : ℕ
      quotient = product / e

      once : (n : ℕ) → n * 1 ≡ n
      once n = omega arith

      short : (m : ℕ) → m < i.machines → m < length (job_at i a).needs
      short m l = let h = (own a no_job inside).0 in omega arith

      here : (m : ℕ) → m < i.machines → rate_on Unrelated i a m ≡ quotient
      here m l = ap (λ n. product / n) (time_here m (short m l))

      ones : product_of_times (job_at j a).needs ≡ 1
      ones = ap product_of_times (u.needs a inside) ∙ product_of_ones (job_at i a).needs

      there : (m : ℕ) → m < i.machines → rate_on Unrelated j a m ≡ 1
      there m l = ap₂ (λ x y. x / y) ones (time_there m (short m l))

      whole : quotient * e ≡ product
      whole = sym (ap₂ (λ x y. x * y) (here 0 some) (time_here 0 (short 0 some))) ∙ rate_times i a 0 own inside some

  ratios : (k : EnvKind) (o : ℕ) → 1 ≤ i.machines → (k ≡ Unrelated → All (HasTimePerMachine i.machines) i.jobs) → HasOperation k i a o → Ratios k o
  ratios Identical o some own h = let l : o < length (job_at i a).needs = omega (arith, h, u.wide a inside) in plain Identical o (λ m. refl) (time_here o l) (time_there o l)
  ratios Uniform o some own h = let l : o < length (job_at i a).needs = omega (arith, h, u.wide a inside) in
      plain Uniform o (λ m. ap (λ l. slice_index_or l m 0) (sym u.speeds)) (time_here o l) (time_there o l)
  ratios Unrelated o some own h = unrelated o some (own refl)
  ratios OpenShop o some own h = plain OpenShop o (λ m. refl) (time_here o h.0) (time_there o h.0)
  ratios FlowShop o some own h = plain FlowShop o (λ m. refl) (time_here o h.0) (time_there o h.0)
  ratios JobShop o some own h = plain JobShop o (λ m. refl) (time_here o h.0) (time_there o h.0)

-- ---- schedules
abbrev pub unit_schedule : ℕ → Schedule → Schedule
unit_schedule e s = record { unit = s.unit *ℤ pos e; pieces = s.pieces }

abbrev pub closed_schedule : ℕ → Schedule → Schedule
closed_schedule e t = record { unit = t.unit; pieces = carried_all (busy_moment e t.pieces) (λ j o. o) t.pieces }

-- no release dates, and the same arcs
pub record IsUnheaded (i j : Instance) : Type 0 where
  pub upper : (k : ℕ) → k < length i.jobs → (job_at i k).release ≡ 0
  pub lower : (k : ℕ) → k < length j.jobs → (job_at j k).release ≡ 0
  pub arcs : i.arcs ≡ j.arcs

module _ (e : ℕ) (i j : Instance) (u : IsUnitOf e i j) (p : IsShaped i) (q : IsShaped j) (some : 1 ≤ i.machines) (open_heads : IsUnheaded i j) where
  abbrev k : EnvKind
  k = kind_of i.class.env

  here : (a o : ℕ) → (l : a < length i.jobs) → HasOperation (kind_of i.class.env) i a o → Ratios e i j u a l (kind_of i.class.env) o
  here a o l h = ratios e i j u a l (kind_of i.class.env) o some p.unrelated h

  suits_to : (D : ℤ) → Suits (frame_by k i) (frame_by k j) D (D *ℤ pos e) (pos 1) (λ a o. o)
  suits_to D = record {
    jobs = u.count;
    has = λ a o l h. (alike e i j u a l k o).to h;
    all = λ a o l h. (o, (alike e i j u a l k o).from h, refl);
    increasing = λ a o n l g h w. w;
    may = λ a o m l h w. (alike e i j u a l k o).may m h w;
    ratio = λ a o l h. let r = here a o l h in record {
      times = r.times;
      over = 1;
      some = r.some;
      rate = λ m w. ap (λ z. pos r.times *ℤ z) (one-*ℤ (pos (rate_on k j a m))) ∙ ap pos (r.rate m w) ∙ sym (one-*ℤ (pos (rate_on k i a m)));
      want = ap (λ z. pos r.times *ℤ z) (*ℤ_assoc D (pos e) (pos (whole_work k j a o)))
          ∙ *ℤ_exchange (pos r.times) D (pos (e * whole_work k j a o)) ∙ ap (λ n. D *ℤ pos n) r.want ∙ sym (one-*ℤ (D *ℤ pos (whole_work k i a o)));
    };
    cut = λ c. u.cut ∙ c;
  }

  suits_from : (D : ℤ) → Suits (frame_by k j) (frame_by k i) D D (pos e) (λ a o. o)
  suits_from D = record {
    jobs = sym u.count;
    has = λ a o l h. (alike e i j u a (within a l) k o).from h;
    all = λ a o l h. (o, (alike e i j u a (within a l) k o).to h, refl);
    increasing = λ a o n l g h w. w;
    may = λ a o m l h w. let same = alike e i j u a (within a l) k o in same.back m (same.from h) w;
    ratio = λ a o l h. let own = (alike e i j u a (within a l) k o).from h in let r = here a o (within a l) own in record {
      times = 1;
      over = r.over;
      some = omega arith;
      rate = λ m w. one-*ℤ (pos e *ℤ pos (rate_on k i a m)) ∙ ap pos (r.rate_back m ((alike e i j u a (within a l) k o).back m own w));
      want = one-*ℤ (D *ℤ pos (whole_work k i a o)) ∙ ap (λ n. D *ℤ pos n) r.want_back ∙ *ℤ_exchange D (pos r.over) (pos (whole_work k j a o));
    };
    cut = λ c. sym u.cut ∙ c;
  }
    where
      within : (a : ℕ) → a < length j.jobs → a < length i.jobs
      within a l = omega (arith, u.count, l)

  -- a schedule of the instance with equal times, over a unit e times as large
  module _ (s : Schedule) (f : Feasible i s) where
    carries_to : Carries (frame_by k i) (frame_by k j) s.unit (s.unit *ℤ pos e) s.pieces (pos 1) (λ x. x) (λ a o. o)
    carries_to = record {
      unit = more s.unit e f.unit u.some;
      moments = Stretches-identity s.pieces;
      operations = suits_to s.unit;
      heads = λ n d l inside h. subst (λ m. ((s.unit *ℤ pos e) *ℤ pos m) ≤ℤ (get_or s.pieces n d).from) (sym (open_heads.lower (get_or s.pieces n d).job (omega (arith, u.count, inside))))
          (subst (λ z. z ≤ℤ (get_or s.pieces n d).from) (sym (*ℤ-zero (s.unit *ℤ pos e))) (f.span n d l).0);
      arcs = subst (λ l. All (Contains i.arcs) l) open_heads.arcs (All-contains_itself i.arcs);
      routed = λ r. inl r;
    }
      where
        more : (x : ℤ) (n : ℕ) → pos 1 ≤ℤ x → 1 ≤ n → pos 1 ≤ℤ (x *ℤ pos n)
        more (negsuc x) n h l = absurd (omega (arith, ints))
        more (pos x) n h l = pos-le (mul-pos (le-pos h) l)

    pub Feasible-to_unit : Feasible j (unit_schedule e s)
    Feasible-to_unit = Feasible-from_fits j (unit_schedule e s) q (subst (λ x. Fits (frame_by x j) (s.unit *ℤ pos e) s.pieces) u.kind
        (subst (Fits (frame_by k j) (s.unit *ℤ pos e)) (map-id s.pieces)
        (Fits-carried (frame_by k i) (frame_by k j) s.unit (s.unit *ℤ pos e) s.pieces (pos 1) (λ x. x) (λ a o. o) (Fits-from_feasible i s p f) carries_to)))

  -- a schedule of the instance with unit times, without its idle stretches and e times as long
  module _ (t : Schedule) (f : Feasible j t) where
    fits_there : Fits (frame_by k j) t.unit t.pieces
    fits_there = subst (λ x. Fits (frame_by x j) t.unit t.pieces) (sym u.kind) (Fits-from_feasible j t q f)

    carries_from : Carries (frame_by k j) (frame_by k i) t.unit t.unit t.pieces (pos e) (busy_moment e t.pieces) (λ a o. o)
    carries_from = Carries-closed (frame_by k j) (frame_by k i) t.unit t.unit t.pieces e u.some f.unit fits_there (suits_from t.unit)
        (λ a l. open_heads.upper a (omega (arith, u.count, l))) (subst (λ l. All (Contains l) i.arcs) open_heads.arcs (All-contains_itself i.arcs)) (λ r. r)

    pub Feasible-from_unit : Feasible i (closed_schedule e t)
    Feasible-from_unit = Feasible-from_fits i (closed_schedule e t)
        p (Fits-carried (frame_by k j) (frame_by k i) t.unit t.unit t.pieces (pos e) (busy_moment e t.pieces) (λ a o. o) fits_there carries_from)

    pub end_of-closed : (a : ℕ) → end_of (closed_schedule e t) a ≡ busy_moment e t.pieces (end_of t a)
    end_of-closed = last_end-carried (frame_by k j) (frame_by k i) t.unit t.unit t.pieces (pos e) (busy_moment e t.pieces) (λ a o. o) fits_there carries_from

    pub end_of-closed_le : (a : ℕ) → end_of (closed_schedule e t) a ≤ℤ (pos e *ℤ end_of t a)
    end_of-closed_le a = subst (λ x. x ≤ℤ (pos e *ℤ end_of t a)) (sym (end_of-closed a)) (busy_moment-le e t.pieces (end_of t a) (last_end-natural t.pieces a))

-- ---- costs that read ends and weights alone
abbrev pub IsPlain : Crit → Type 0
IsPlain crit = (crit ≡ Cmax) ⊎ ((crit ≡ SumC) ⊎ (crit ≡ SumWC))

charge-plain : (crit : Crit) → IsPlain crit → (n : ℕ) (unit v : ℤ) (a b : Job) (x y : ℤ) → a.weight ≡ b.weight → x ≤ℤ (pos n *ℤ y) → job_cost crit unit a x ≤ℤ (pos n *ℤ job_cost crit v b y)
charge-plain crit c n unit v a b x y w h = elim c [
  | inl e ↦ subst (λ z. job_cost z unit a x ≤ℤ (pos n *ℤ job_cost z v b y)) (sym e) h
  | inr (inl e) ↦ subst (λ z. job_cost z unit a x ≤ℤ (pos n *ℤ job_cost z v b y)) (sym e) h
  | inr (inr e) ↦ subst (λ z. job_cost z unit a x ≤ℤ (pos n *ℤ job_cost z v b y)) (sym e)
      (subst (λ m. (pos a.weight *ℤ x) ≤ℤ (pos n *ℤ (pos m *ℤ y))) w
      (subst (λ z. (pos a.weight *ℤ x) ≤ℤ z) (*ℤ_exchange (pos a.weight) (pos n) y) (*ℤ-mono a.weight h)))
]

-- where ends are at most n times as large, so are costs
pub cost-plain : (i j : Instance) (s t : Schedule) (n : ℕ) → IsPlain i.class.crit
    → i.class.crit ≡ j.class.crit → length i.jobs ≡ length j.jobs → ((a : ℕ) → a < length i.jobs → (job_at i a).weight ≡ (job_at j a).weight)
    → ((a : ℕ) → a < length i.jobs → end_of s a ≤ℤ (pos n *ℤ end_of t a)) → cost_of i s ≤ℤ (pos n *ℤ cost_of j t)
cost-plain i j s t n c e count weights ends =
    subst (λ x. x ≤ℤ (pos n *ℤ cost_of j t)) (one-*ℤ (cost_of i s))
    (cost-pointwise i j s t (pos 1) (pos n) (pos-le (omega arith)) (ap is_greatest e) count (λ a l.
    subst (λ x. x ≤ℤ (pos n *ℤ charge_of j t a)) (sym (one-*ℤ (charge_of i s a)))
    (subst (λ z. charge_of i s a ≤ℤ (pos n *ℤ job_cost z t.unit (job_at j a) (end_of t a)))
    e (charge-plain i.class.crit c n s.unit t.unit (job_at i a) (job_at j a) (end_of s a) (end_of t a) (weights a l) (ends a l)))))
