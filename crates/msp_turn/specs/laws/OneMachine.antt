-- The rows between cut and uncut jobs on one machine without release dates: the laws.
use Rattle.std.proofs.Common.{◌≡◌, ◌≢◌, ℕ, ◌<◌, Bool, true, false, not, List, length, All, AllPairs, pos, nat_abs, ◌≤ℤ◌, inl, Some, unwrap_or, refl, sym, ap, subst, ◌∙◌, arith}
use Rattle.std.proofs.lemmas.Bool.{eqb-true, and_parts}
use Rattle.std.proofs.lemmas.Int.{ints}
use Rattle.std.proofs.lemmas.List.Elements.{All-contains_itself}
use Rattle.msp_class.specs.declared.class.Env.TheVariants.{One}
use Rattle.msp_class.specs.declared.environments.EnvKind.TheVariants.{Identical}
use Rattle.msp_class.specs.Env.{kind_of}
use Rattle.msp_class.proofs.EnvNumbers.{env_number-injective}
use Rattle.msp_class.proofs.RankLemmas.{flag_number-injective}
use Rattle.msp_class.proofs.IntegerRing.{natural, ≤ℤ_of_same}
use Rattle.msp_class.proofs.Sums.{OnceBelow}
use Rattle.msp_instance.specs.declared.Instance.{Instance}
use Rattle.msp_instance.specs.Instance.{job_at}
use Rattle.msp_instance.specs.Conditions.{Inner, inner_limits}
use Rattle.msp_pieces.specs.declared.Schedule.{Schedule}
use Rattle.msp_pieces.specs.Feasible.{Feasible}
use Rattle.msp_pieces.specs.Cost.{cost_of, end_of}
use Rattle.msp_pieces.proofs.feasible.Frames.{frame_by, no_heads, IsShaped, IsShaped-from_conditions}
use Rattle.msp_pieces.proofs.changes.Serves.{Serves, IsMultiple-same, Feasible-served_by}
use Rattle.msp_pieces.proofs.costs.Charges.{SameCharges, SameCharges-from_class, cost-same_charges}
use Rattle.msp_pieces.proofs.feasible.Series.{MayPrecede}
use Rattle.msp_pieces.specs.LineUp.{lined_up, order_of_ends}
use Rattle.msp_pieces.proofs.changes.LineUp.{IsLine, IsLine-from_conditions, SameLine, Feasible-lined_up, cost-lined_up, forward_by_ends, loose_by_ends, order_of_ends-once, order_of_ends-rises}
use Rattle.msp_table.specs.Parts.{CutIs, has}
use Rattle.msp_table.specs.Rows.{goes_of, table, one_machine_no_r}
use Rattle.msp_route.specs.Law.{Applies, IsLower, IsForth, IsBack}
use Rattle.msp_route.specs.Changes.{led, same_costs}
use Rattle.msp_route.proofs.Applied.{part_and_condition}
use Rattle.msp_route.proofs.InnerChanges.{Inner-remade, IsJobOf-recast}
use Rattle.msp_turn.specs.LinedUp.{by_ends}
use Rattle.msp_turn.specs.laws.SameRate.{costs_down, costs_back}

-- ---- the instance in the class with or without cut jobs
abbrev pub recut : Bool → Instance → Instance
recut cut i = record i { class = record i.class { cut = cut } }

-- the row applies, and leads there
pub record Recuts (row : ℕ) (cut : Bool) (i : Instance) : Type 0 where
  pub env : i.class.env ≡ One
  pub heads : i.class.heads ≡ false
  pub was : i.class.cut ≡ not cut
  pub goes : goes_of row i.class ≡ Some (record i.class { cut = cut })

recuts : (row : ℕ) (cut : Bool) (i : Instance) → (has i.class (CutIs (not cut)) ≡ true) × (one_machine_no_r i.class ≡ true) × (goes_of row i.class ≡ Some (record i.class { cut = cut }))
    → Recuts row cut i
recuts row cut i (was, given, goes) =
    let (env, more) = and_parts _ _ given in
    record {
      env = env_number-injective _ One (eqb-true _ _ env);
      heads = flag_number-injective _ false (eqb-true _ _ (and_parts _ _ more).0);
      was = flag_number-injective _ (not cut) (eqb-true _ _ was);
      goes = goes;
    }

pub Recuts-49 : (i : Instance) → Applies 49 i → Recuts 49 false i
unfolding goes_of table
Recuts-49 i h = recuts 49 false i (part_and_condition _ _ _ h)

pub Recuts-50 : (i : Instance) → Applies 50 i → Recuts 50 true i
unfolding goes_of table
Recuts-50 i h = recuts 50 true i (part_and_condition _ _ _ h)

pub led-recut : (row : ℕ) (cut : Bool) (i : Instance) → Recuts row cut i → led row i ≡ recut cut i
led-recut row cut i r = ap (λ o. record i { class = unwrap_or o i.class }) r.goes

pub led-env : (row : ℕ) (cut : Bool) (i : Instance) → Recuts row cut i → (led row i).class.env ≡ One
led-env row cut i r = ap (λ k. k.class.env) (led-recut row cut i r) ∙ r.env

pub led-cost : (row : ℕ) (cut : Bool) (i : Instance) → Recuts row cut i → (t : Schedule) → pos 1 ≤ℤ t.unit → cost_of i t ≡ cost_of (led row i) t
led-cost row cut i r t u = cost-same_charges i (recut cut i) t (SameCharges-from_class i (record i.class { cut = cut }) refl) u ∙ ap (λ k. cost_of k t) (sym (led-recut row cut i r))

-- ---- it is an inner instance, on one line
pub Inner-recut : (cut : Bool) (i : Instance) → Inner i → Inner (recut cut i)
Inner-recut cut i inner = let was = inner.conditions in Inner-remade i (record i.class { cut = cut }) i.machines i.speeds i.jobs refl was.machines was.speeds was.multiple
    (λ k d l. let h = was.jobs k d l in IsJobOf-recast h.needs refl refl h.needs.times h.times h.release h.due h.weight h.curve) was.arcs was.degree inner.dues inner

pub line_of : (i : Instance) → i.class.env ≡ One → Inner i → IsLine i
line_of i e inner = IsLine-from_conditions (inner_limits (kind_of i.class.env)) i e inner.conditions

-- ---- a schedule in which no job is cut, as it is
serves_recut : (cut : Bool) (i : Instance) → i.class.cut ≡ false → Serves (frame_by Identical i) (frame_by Identical (recut cut i))
serves_recut cut i e = record {
  operations = record {
    jobs = refl;
    has = λ k o l h. h;
    all = λ k o l h. h;
    may = λ k o m l h w. w;
    ratio = λ k o l h. IsMultiple-same (frame_by Identical i) (frame_by Identical (recut cut i)) k o (λ m w. refl) refl;
    cut = λ c. e;
  };
  heads = λ k l. omega arith;
  arcs = All-contains_itself i.arcs;
  routed = λ c. inl c;
}

shaped : (i : Instance) → Inner i → IsShaped i
shaped i inner = IsShaped-from_conditions (inner_limits (kind_of i.class.env)) i inner.conditions

pub uncut_serves : (cut : Bool) (i : Instance) → i.class.env ≡ One → i.class.cut ≡ false → Inner i → (s : Schedule) → Feasible i s → Feasible (recut cut i) s
uncut_serves cut i one e inner s f =
    Feasible-served_by i (recut cut i) s Identical Identical (ap kind_of one) (ap kind_of one) (shaped i inner) (shaped (recut cut i) (Inner-recut cut i inner)) (serves_recut cut i e) f

-- ---- lined up by ends: for an instance with the same jobs and arcs, it is feasible and costs no more
pub record IsNoDearer (i j : Instance) (s t : Schedule) : Type 0 where
  pub feasible : Feasible j t
  pub unit : t.unit ≡ s.unit
  pub cost : cost_of j t ≤ℤ cost_of i s

pub lined_by_ends : (i j : Instance) → IsLine i → IsLine j → SameLine i j → SameCharges i j → ((k : ℕ) → k < length j.jobs → (job_at j k).release ≡ 0)
    → (s : Schedule) → Feasible i s → IsNoDearer i j s (lined_up j (nat_abs s.unit) (order_of_ends i s))
lined_by_ends i j line other same charges heads s f = record {
  feasible = Feasible-lined_up j other (nat_abs s.unit) (omega (arith, ints, f.unit)) order (subst (λ n. OnceBelow n order) same.count once) heads
      (subst (λ l. AllPairs (MayPrecede l) order) same.arcs (forward_by_ends i line s f order once rises))
      (subst (λ l. All (λ a. a.before ≢ a.after) l) same.arcs (loose_by_ends i line s f order once rises));
  unit = sym (natural s.unit (omega (arith, ints, f.unit)));
  cost = cost-lined_up i j line other same s f order once rises charges;
}
  where
    order : List ℕ
    order = order_of_ends i s

    once : OnceBelow (length i.jobs) order
    once = order_of_ends-once i s

    rises : AllPairs (λ a b. end_of s a ≤ℤ end_of s b) order
    rises = order_of_ends-rises i s

-- ---- the rows
-- what a schedule of the one is made to for the other, with and without cut jobs
abbrev heads_of : (i : Instance) → i.class.heads ≡ false → Inner i → (k : ℕ) → k < length i.jobs → (job_at i k).release ≡ 0
heads_of i e inner = no_heads (inner_limits (kind_of i.class.env)) i e inner.conditions

module _ (row : ℕ) (cut : Bool) (i : Instance) (r : Recuts row cut i) (inner : Inner i) where
  abbrev j : Instance
  j = recut cut i

  lower : Inner j
  lower = Inner-recut cut i inner

  pub IsLower-recut : IsLower row i j
  IsLower-recut = record { inner = lower; class = r.goes }

  same : SameLine i j
  same = record { count = refl; times = λ k l. refl; arcs = refl }

  back : SameLine j i
  back = record { count = refl; times = λ k l. refl; arcs = refl }

  charges : SameCharges i j
  charges = SameCharges-from_class i (record i.class { cut = cut }) refl

  charges_back : SameCharges j i
  charges_back = SameCharges-from_class j i.class refl

  pub by_ends-down : (s : Schedule) → Feasible i s → IsNoDearer i j s (by_ends i s)
  by_ends-down s f = lined_by_ends i j (line_of i r.env inner) (line_of j r.env lower) same charges (heads_of j r.heads lower) s f

  pub by_ends-up : (t : Schedule) → Feasible j t → IsNoDearer j i t (by_ends i t)
  by_ends-up t f = lined_by_ends j i (line_of j r.env lower) (line_of i r.env inner) back charges_back (heads_of i r.heads inner) t f

  -- a schedule in which no job is cut, as it is
  pub same_down : i.class.cut ≡ false → (s : Schedule) → Feasible i s → IsNoDearer i j s s
  same_down e s f = record { feasible = uncut_serves cut i r.env e inner s f; unit = refl; cost = ≤ℤ_of_same (cost-same_charges j i s charges_back f.unit) }

  pub same_up : cut ≡ false → (t : Schedule) → Feasible j t → IsNoDearer j i t t
  same_up e t f = record { feasible = uncut_serves i.class.cut j r.env e lower t f; unit = refl; cost = ≤ℤ_of_same (cost-same_charges i j t charges f.unit) }

-- as the trait has them
pub forth_from : (i j : Instance) (s t : Schedule) → (Feasible i s → IsNoDearer i j s t) → IsForth same_costs i j s t
forth_from i j s t h f = let n = h f in (n.feasible, costs_down i j s t n.unit f.unit n.cost)

pub back_from : (i j : Instance) (t s : Schedule) → (Feasible j t → IsNoDearer j i t s) → IsBack same_costs i j t s
back_from i j t s h f = let n = h f in (n.feasible, costs_back i j t s n.unit f.unit n.cost)

pub lower_49 : (i : Instance) → Inner i → Applies 49 i → IsLower 49 i (led 49 i)
lower_49 i inner h = let r = Recuts-49 i h in subst (IsLower 49 i) (sym (led-recut 49 false i r)) (IsLower-recut 49 false i r inner)

pub forth_49 : (i : Instance) (s : Schedule) → Inner i → Applies 49 i → IsForth same_costs i (led 49 i) s (by_ends i s)
forth_49 i s inner h = let r = Recuts-49 i h in
    forth_from i (led 49 i) s (by_ends i s) (subst (λ j. Feasible i s → IsNoDearer i j s (by_ends i s)) (sym (led-recut 49 false i r)) (by_ends-down 49 false i r inner s))

pub back_49 : (i : Instance) (t : Schedule) → Inner i → Applies 49 i → IsBack same_costs i (led 49 i) t t
back_49 i t inner h = let r = Recuts-49 i h in back_from i (led 49 i) t t (subst (λ j. Feasible j t → IsNoDearer j i t t) (sym (led-recut 49 false i r)) (same_up 49 false i r inner refl t))

pub lower_50 : (i : Instance) → Inner i → Applies 50 i → IsLower 50 i (led 50 i)
lower_50 i inner h = let r = Recuts-50 i h in subst (IsLower 50 i) (sym (led-recut 50 true i r)) (IsLower-recut 50 true i r inner)

pub forth_50 : (i : Instance) (s : Schedule) → Inner i → Applies 50 i → IsForth same_costs i (led 50 i) s s
forth_50 i s inner h = let r = Recuts-50 i h in forth_from i (led 50 i) s s (subst (λ j. Feasible i s → IsNoDearer i j s s) (sym (led-recut 50 true i r)) (same_down 50 true i r inner r.was s))

pub back_50 : (i : Instance) (t : Schedule) → Inner i → Applies 50 i → IsBack same_costs i (led 50 i) t (by_ends i t)
back_50 i t inner h = let r = Recuts-50 i h in
    back_from i (led 50 i) t (by_ends i t) (subst (λ j. Feasible j t → IsNoDearer j i t (by_ends i t)) (sym (led-recut 50 true i r)) (by_ends-up 50 true i r inner t))
