-- The rows between intrees and outtrees by exchange: the instances at both ends are each other's exchange.
use Rattle.std.proofs.Common.{◌≡◌, ℕ, ◌*◌, ◌<◌, ◌≤◌, true, false, List, [], ◌∷◌, reverse, length, get_or, map, All, AllPairs, Contains, nat_abs, ◌≤ℤ◌, Some, unwrap_or, refl}
use Rattle.std.proofs.Common.{sym, ap, subst, subst₂, ◌∙◌, arith}
use Rattle.std.specs.Prelude.{slice_index_or}
use Rattle.std.specs.List.{range_with_len}
use Rattle.std.proofs.lemmas.Bool.{eqb-true, and_parts}
use Rattle.std.proofs.lemmas.Int.{ints}
use Rattle.std.proofs.lemmas.List.{length-map}
use Rattle.std.proofs.lemmas.List.Elements.{All-nil, All-cons, All-map}
use Rattle.msp_class.specs.declared.class.Class.{Class}
use Rattle.msp_class.specs.declared.class.Env.{Env}
use Rattle.msp_class.specs.declared.class.Env.TheVariants.{One}
use Rattle.msp_class.specs.declared.class.Order.{Order}
use Rattle.msp_class.specs.declared.class.Order.TheVariants.{Intree, Outtree}
use Rattle.msp_class.specs.declared.class.Times.{Times}
use Rattle.msp_class.specs.declared.class.Times.TheVariants.{General}
use Rattle.msp_class.specs.declared.class.Crit.TheVariants.{SumWC}
use Rattle.msp_class.specs.Env.{kind_of}
use Rattle.msp_class.specs.Order.{turned}
use Rattle.msp_class.specs.Crit.{uses_weight}
use Rattle.msp_class.proofs.EnvNumbers.{env_number-injective}
use Rattle.msp_class.proofs.RankLemmas.{flag_number-injective, order_number-injective, times_number-injective, crit_number-injective}
use Rattle.msp_class.proofs.IntegerRing.{natural}
use Rattle.msp_class.proofs.Sums.{OnceBelow}
use Rattle.msp_class.specs.declared.sizes.TheConstants.{GREATEST}
use Rattle.msp_instance.specs.declared.Need.{Need}
use Rattle.msp_instance.specs.declared.Job.{Job}
use Rattle.msp_instance.specs.declared.Instance.{Instance}
use Rattle.msp_instance.specs.Instance.{no_need, job_at, common_time}
use Rattle.msp_instance.specs.Conditions.{IsJobOf, HasShape, HasTimes, HasSameTimes, HasWeight, Inner, inner_limits, least_time, greatest_time}
use Rattle.msp_pieces.specs.declared.Schedule.{Schedule}
use Rattle.msp_pieces.specs.Feasible.{Feasible}
use Rattle.msp_pieces.specs.Cost.{end_of}
use Rattle.msp_pieces.proofs.feasible.Frames.{job_at-map, no_heads}
use Rattle.msp_pieces.proofs.changes.Mirror.{turned_arcs as arcs_turned, turned_back}
use Rattle.msp_pieces.specs.BackToBack.{time_at}
use Rattle.msp_pieces.specs.LineUp.{lined_up, sorted_by, order_of_ends}
use Rattle.msp_pieces.proofs.changes.LineUp.{IsLine, order_of_ends-once, order_of_ends-rises}
use Rattle.msp_pieces.proofs.changes.Exchange.{Exchanges, Feasible-exchanged, cost-exchanged}
use Rattle.msp_table.specs.Parts.{OrderIs, has_all}
use Rattle.msp_table.specs.Rows.{goes_of, table, exchangeable}
use Rattle.msp_route.specs.Law.{Applies, IsLower, IsForth, IsBack}
use Rattle.msp_route.specs.Changes.{same_costs}
use Rattle.msp_route.proofs.Applied.{parts_and_condition}
use Rattle.msp_route.proofs.InnerChanges.{HasNearDues-map}
use Rattle.msp_turn.specs.Turned.{turned_arc, turned_arcs}
use Rattle.msp_turn.specs.laws.TurnedArcs.{turned_with, Inner-turned}
use Rattle.msp_turn.specs.LinedUp.{from_last}
use Rattle.msp_turn.specs.laws.OneMachine.{IsNoDearer, line_of, forth_from, back_from}
use Rattle.msp_turn.specs.Exchanged.{IsExchangeable, exchanged_job, exchanged}

-- ---- jobs
-- the class from which the rows lead
pub record IsExchangeClass (from : Order) (c : Class) : Type 0 where
  pub order : c.order ≡ from
  pub env : c.env ≡ One
  pub heads : c.heads ≡ false
  pub times : c.times ≡ General
  pub crit : c.crit ≡ SumWC

abbrev Times_in : Env → Times → List Need → Type 0
Times_in e t ns = HasTimes (least_time (kind_of e) t) (greatest_time (inner_limits (kind_of e)) t) ns

abbrev Shape_in : ℕ → Env → List Need → Type 0
Shape_in m e ns = HasShape (kind_of e) e m ns

module _ (from : Order) (i : Instance) (class : IsExchangeClass from i.class) (inner : Inner i) where
  pub exchangeable_jobs : All IsExchangeable i.jobs
  exchangeable_jobs k d l =
      let a = get_or i.jobs k d in
      let h = inner.conditions.jobs k d l in
      let shape = subst (λ e. Shape_in i.machines e a.needs) class.env h.needs.shape in
      let times = subst₂ (λ e t. Times_in e t a.needs) class.env class.times h.needs.times in
      let time = times 0 no_need (omega (arith, shape.0)) in
      record {
        single = shape.0;
        machine = shape.1 0 no_need (omega (arith, shape.0));
        time = (time.0, omega (arith, time.1));
        weight = subst (λ c. HasWeight (uses_weight c) a.weight) class.crit h.weight;
      }

  abbrev other : Instance
  other = turned_with i i.class.heads i.class.crit (map exchanged_job i.jobs)

  exchanged_own : (a : Job) → IsExchangeable a → IsJobOf (inner_limits (kind_of i.class.env)) i a → IsJobOf (inner_limits (kind_of i.class.env)) other (exchanged_job a)
  exchanged_own a x h =
      let need : Need = record { machine = 0; time = a.weight } in
      record {
        needs = record {
          shape = subst (λ e. Shape_in i.machines e (need ∷ [])) (sym class.env) (refl, All-cons (λ n. n.machine ≡ 0) need [] refl (All-nil (λ n. n.machine ≡ 0)));
          times = subst₂ (λ e t. Times_in e t (need ∷ [])) (sym class.env) (sym class.times)
              (All-cons (λ n. (1 ≤ n.time) × (n.time ≤ GREATEST * 1)) need [] (x.weight.0, omega (arith, x.weight.1)) (All-nil (λ n. (1 ≤ n.time) × (n.time ≤ GREATEST * 1))));
          some = (0, need, omega arith, refl, x.weight.0);
        };
        times = subst (λ t. HasSameTimes t (common_time other) (need ∷ [])) (sym class.times) tt;
        release = h.release;
        due = h.due;
        weight = subst (λ c. HasWeight (uses_weight c) (slice_index_or a.needs 0 no_need).time) (sym class.crit) x.time;
        curve = h.curve;
      }

  pub Inner-exchanged : Inner other
  Inner-exchanged = Inner-turned i i.class.heads i.class.crit (map exchanged_job i.jobs) (length-map i.jobs exchanged_job)
      (All-map (IsJobOf (inner_limits (kind_of i.class.env)) other) exchanged_job i.jobs (λ k d l. exchanged_own (get_or i.jobs k d) (exchangeable_jobs k d l) (inner.conditions.jobs k d l)))
      (HasNearDues-map _ i other exchanged_job refl inner.dues) inner

-- ---- instances that are each other's exchange
abbrev pub Exchanged : Instance → Instance → Type 0
Exchanged i j = Exchanges i j × Exchanges j i

exchanges : (i j : Instance) → j.jobs ≡ map exchanged_job i.jobs → j.arcs ≡ turned_arcs i.arcs → Exchanged i j
exchanges i j jobs arcs = (
  record {
    count = count;
    times = time;
    weights = weight;
    arcs = subst (All (λ a. Contains i.arcs (turned_arc a))) (sym arcs) (arcs_turned i.arcs);
  },
  record {
    count = sym count;
    times = λ k l. sym (weight k (omega (arith, count)));
    weights = λ k l. sym (time k (omega (arith, count)));
    arcs = subst (λ l. All (λ a. Contains l (turned_arc a)) i.arcs) (sym arcs) (turned_back i.arcs);
  },
)
  where
    count : length i.jobs ≡ length j.jobs
    count = sym (ap length jobs ∙ length-map i.jobs exchanged_job)

    time : (k : ℕ) → k < length i.jobs → time_at j k ≡ (job_at i k).weight
    time k l = ap (λ a. (slice_index_or a.needs 0 no_need).time) (job_at-map i j exchanged_job jobs k l)

    weight : (k : ℕ) → k < length i.jobs → (job_at j k).weight ≡ time_at i k
    weight k l = ap (λ a. a.weight) (job_at-map i j exchanged_job jobs k l)

-- from the last end to the first: for the exchange it is feasible and costs no more
pub from_last-no_dearer : (i j : Instance) → IsLine i → IsLine j → Exchanges i j → i.class.crit ≡ SumWC
    → j.class.crit ≡ SumWC → ((k : ℕ) → k < length j.jobs → (job_at j k).release ≡ 0) → (s : Schedule) → Feasible i s → IsNoDearer i j s (from_last j s)
from_last-no_dearer i j line other x c e heads s f = record {
  feasible = Feasible-exchanged i j line other x s f order once rises heads;
  unit = sym (natural s.unit (omega (arith, ints, f.unit)));
  cost = cost-exchanged i j line other x s f order once rises c e;
}
  where
    order : List ℕ
    order = order_of_ends j s

    once : OnceBelow (length i.jobs) order
    once = subst (λ n. OnceBelow n order) (sym x.count) (order_of_ends-once j s)

    rises : AllPairs (λ a b. end_of s a ≤ℤ end_of s b) order
    rises = order_of_ends-rises j s

-- ---- the rows
-- what the row leads to: an inner instance, which is the exchange
pub record IsExchange (row : ℕ) (i j : Instance) : Type 0 where
  pub lower : IsLower row i j
  pub env : i.class.env ≡ One
  pub env_below : j.class.env ≡ One
  pub exchange : Exchanged i j
  pub heads : i.class.heads ≡ false
  pub heads_below : j.class.heads ≡ false
  pub crit : i.class.crit ≡ SumWC
  pub crit_below : j.class.crit ≡ SumWC
  pub jobs : All IsExchangeable i.jobs

exchange_of_trees : (row : ℕ) (from to : Order) (i : Instance) → turned from ≡ to
    → IsExchangeClass from i.class → goes_of row i.class ≡ Some (record i.class { order = to }) → Inner i → IsExchange row i (exchanged row i)
exchange_of_trees row from to i e t g inner =
    let j : Instance = record i { class = record i.class { order = to }; jobs = map exchanged_job i.jobs; arcs = turned_arcs i.arcs } in
    subst (λ o. IsExchange row i (record i { class = unwrap_or o i.class; jobs = map exchanged_job i.jobs; arcs = turned_arcs i.arcs })) (sym g) (record {
      lower = record {
        inner = subst (λ o. Inner (record i { class = record i.class { order = o }; jobs = map exchanged_job i.jobs; arcs = turned_arcs i.arcs }))
            (ap turned t.order ∙ e) (Inner-exchanged from i t inner);
        class = g;
      };
      env = t.env;
      env_below = t.env;
      exchange = exchanges i j refl refl;
      heads = t.heads;
      heads_below = t.heads;
      crit = t.crit;
      crit_below = t.crit;
      jobs = exchangeable_jobs from i t inner;
    })

module _ (row : ℕ) (i j : Instance) (x : IsExchange row i j) (inner : Inner i) where
  no_heads_in : (k : Instance) → Inner k → k.class.heads ≡ false → (n : ℕ) → n < length k.jobs → (job_at k n).release ≡ 0
  no_heads_in k h e = no_heads (inner_limits (kind_of k.class.env)) k e h.conditions

  pub IsForth-exchanged : (s : Schedule) → IsForth same_costs i j s (from_last j s)
  IsForth-exchanged s = forth_from i j s (from_last j s)
      (from_last-no_dearer i j (line_of i x.env inner) (line_of j x.env_below x.lower.inner) x.exchange.0 x.crit x.crit_below (no_heads_in j x.lower.inner x.heads_below) s)

  pub IsBack-exchanged : (t : Schedule) → IsBack same_costs i j t (from_last i t)
  IsBack-exchanged t = back_from i j t (from_last i t)
      (from_last-no_dearer j i (line_of j x.env_below x.lower.inner) (line_of i x.env inner) x.exchange.1 x.crit_below x.crit (no_heads_in i inner x.heads) t)

  -- the order of the ends is that below
  pub from_last-below : (t : Schedule) → from_last i t ≡ lined_up i (nat_abs t.unit) (reverse (order_of_ends j t))
  from_last-below t = ap (λ n. lined_up i (nat_abs t.unit) (reverse (sorted_by (end_of t) (range_with_len 0 n)))) x.exchange.0.count

exchange_at : (row : ℕ) (from to : Order) → turned from ≡ to → (i : Instance) → (has_all i.class (OrderIs from ∷ []) ≡ true) × (exchangeable i.class ≡ true)
    × (goes_of row i.class ≡ Some (record i.class { order = to })) → Inner i → IsExchange row i (exchanged row i)
exchange_at row from to e i (left, given, g) inner =
    let (env, more) = and_parts _ _ given in
    let (cut, rest) = and_parts _ _ more in
    let (heads, last) = and_parts _ _ rest in
    let (times, crit) = and_parts _ _ last in
    exchange_of_trees row from to i e (record {
      order = order_number-injective _ from (eqb-true _ _ (and_parts _ _ left).0);
      env = env_number-injective _ One (eqb-true _ _ env);
      heads = flag_number-injective _ false (eqb-true _ _ heads);
      times = times_number-injective _ General (eqb-true _ _ times);
      crit = crit_number-injective _ SumWC (eqb-true _ _ (and_parts _ _ crit).0);
    }) g inner

pub exchange_51 : (i : Instance) → Inner i → Applies 51 i → IsExchange 51 i (exchanged 51 i)
unfolding goes_of table
exchange_51 i inner h = exchange_at 51 Intree Outtree refl i (parts_and_condition _ _ _ h) inner

pub exchange_52 : (i : Instance) → Inner i → Applies 52 i → IsExchange 52 i (exchanged 52 i)
unfolding goes_of table
exchange_52 i inner h = exchange_at 52 Outtree Intree refl i (parts_and_condition _ _ _ h) inner
