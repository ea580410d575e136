-- The law of certificates, kind by kind.
use Rattle.std.proofs.Common.{◌≡◌, ◌≢◌, ℕ, ◌+◌, ◌*◌, ◌-◌, ◌<◌, ◌≤◌, Bool, cond, eqb, List, length, All, AllPairs, ℤ, pos, ◌*ℤ◌, ◌≤ℤ◌, sym, ap, subst, ◌∙◌, arith}
use Rattle.std.specs.Prelude.{sum}
use Rattle.std.specs.List.{list_any, range_with_len}
use Rattle.std.proofs.lemmas.Int.{ints}
use Rattle.std.proofs.lemmas.List.Sorted.{All-permutation, length_permutation}
use Rattle.std.proofs.lemmas.List.{get_or_default}
use Rattle.std.proofs.lemmas.List.Elements.{All-map}
use Rattle.std.proofs.lemmas.List.FromFn.{length-map-range_with_len}
use Rattle.msp_class.specs.declared.class.Crit.TheVariants.{Cmax}
use Rattle.msp_class.specs.declared.class.Times.TheVariants.{Unit as UnitTimes}
use Rattle.msp_class.specs.declared.environments.EnvKind.{EnvKind}
use Rattle.msp_class.specs.declared.environments.EnvKind.TheVariants.{Uniform}
use Rattle.msp_class.specs.declared.sizes.TheConstants.{GREATEST_SPEED}
use Rattle.msp_class.specs.Env.{kind_of}
use Rattle.msp_class.specs.Crit.{is_greatest}
use Rattle.msp_class.proofs.Sums.{sum_by-map, sum_by-constant, sum_by-IsPermutation, total_below-range, OnceBelow-range}
use Rattle.msp_class.proofs.IntegerRing.{zero-le-pos, pos-le, ≤ℤ_trans, ≤ℤ_of_same, *ℤ_comm, *ℤ_assoc, *ℤ-one, *ℤ-mono_nonneg, *ℤ-cancel}
use Rattle.msp_instance.specs.declared.Instance.{Instance}
use Rattle.msp_instance.specs.Instance.{no_job, no_need, job_at, need_at, common_time}
use Rattle.msp_instance.specs.Conditions.{InClass, HasSameTimes, HasSpeeds, text_limits}
use Rattle.msp_pieces.specs.declared.Schedule.{Schedule}
use Rattle.msp_pieces.specs.Feasible.{Feasible}
use Rattle.msp_pieces.specs.Cost.{end_of, cost_of}
use Rattle.msp_pieces.specs.Laws.{time_together, jobs_together}
use Rattle.msp_pieces.specs.Speeds.{speed_by, speed_of, speed_above}
use Rattle.msp_pieces.specs.Blocks.{total_time}
use Rattle.msp_pieces.proofs.costs.Makespan.{ends_by_cost, cost_natural}
use Rattle.msp_pieces.proofs.bounds.SpeedBound.{law_of_speeds}
use Rattle.msp_pieces.proofs.bounds.Loads.{law_of_machines, law_of_lines}
use Rattle.msp_pieces.proofs.bounds.LevelBound.{law_of_levels}
use Rattle.msp_pieces.proofs.bounds.SegmentBound.{law_of_segments}
use Rattle.msp_pieces.proofs.bounds.Certified.{law_of_blocks, list_total}
use Rattle.msp_pieces.proofs.bounds.PriceBounds.{law_of_prices}
use Rattle.msp_cert.specs.declared.Proof.{Proof}
use Rattle.msp_cert.specs.declared.Proof.TheVariants.{Group, Machine, Line, Levels, Segments, Block, Prices}
use Rattle.msp_cert.specs.Certificates.{speeds_of, IsSpeedOfFastest, IsGroup, of_job, row_price, column_price, HoldsFor, IsValue, LawOfCertificates}
use Rattle.msp_cert.proofs.Fastest.{some_threshold, first_some}

-- a product and a bound over 1
pub whole_over_one : (num u cost : ℤ) (den : ℕ) → den ≡ 1 → (u *ℤ num) ≤ℤ cost → (1 ≤ den) × ((num *ℤ u) ≤ℤ (cost *ℤ pos den))
whole_over_one num u cost den one h = (
  omega (arith, one),
  subst (λ d. (num *ℤ u) ≤ℤ (cost *ℤ pos d)) (sym one)
      (≤ℤ_trans (≤ℤ_of_same (*ℤ_comm num u)) (≤ℤ_trans h (≤ℤ_of_same (sym (*ℤ-one cost))))),
)

pub over_one : (num u cost : ℤ) (n den : ℕ) → num ≡ pos n → den ≡ 1 → (u *ℤ pos n) ≤ℤ cost → (1 ≤ den) × ((num *ℤ u) ≤ℤ (cost *ℤ pos den))
over_one num u cost n den e one h = whole_over_one num u cost den one (subst (λ x. (u *ℤ x) ≤ℤ cost) (sym e) h)

-- a fraction that is at most another one, below which nothing costs
pub below_value : (b d num u cost : ℤ) (den : ℕ) → 1 ≤ den → pos 1 ≤ℤ d → pos 1 ≤ℤ u → (b *ℤ pos den) ≤ℤ (num *ℤ d) → (num *ℤ u) ≤ℤ (cost *ℤ pos den) → (b *ℤ u) ≤ℤ (cost *ℤ d)
below_value b d num u cost den some positive unit below least = *ℤ-cancel den some (≤ℤ_trans first second)
  where
    first : (pos den *ℤ (b *ℤ u)) ≤ℤ (u *ℤ (num *ℤ d))
    first = ≤ℤ_trans (≤ℤ_of_same (sym (*ℤ_assoc (pos den) b u) ∙ *ℤ_comm (pos den *ℤ b) u ∙ ap (λ x. u *ℤ x) (*ℤ_comm (pos den) b))) (*ℤ-mono_nonneg u (omega (arith, ints, unit)) below)

    second : (u *ℤ (num *ℤ d)) ≤ℤ (pos den *ℤ (cost *ℤ d))
    second =
        ≤ℤ_trans (≤ℤ_of_same (sym (*ℤ_assoc u num d) ∙ *ℤ_comm (u *ℤ num) d ∙ ap (λ x. d *ℤ x) (*ℤ_comm u num)))
        (≤ℤ_trans (*ℤ-mono_nonneg d (omega (arith, ints, positive)) least)
        (≤ℤ_of_same (ap (λ x. d *ℤ x) (*ℤ_comm cost (pos den)) ∙ *ℤ_comm d (pos den *ℤ cost) ∙ *ℤ_assoc (pos den) cost d)))

-- ---- the makespan
module _ (i : Instance) (s : Schedule) (c : InClass i) (f : Feasible i s) (makespan : i.class.crit ≡ Cmax) where
  ends : (j : ℕ) → j < length i.jobs → end_of s j ≤ℤ cost_of i s
  ends = ends_by_cost i makespan s

  nonneg : pos 0 ≤ℤ cost_of i s
  nonneg = subst (λ x. pos 0 ≤ℤ x) (sym (cost_natural i makespan s c.conditions.some)) (zero-le-pos _)

  -- the end of some job is not before the value
  by_some_end : (num : ℤ) (den n : ℕ) → num ≡ pos n → den ≡ 1 → (k : ℕ) × (k < length i.jobs) × ((s.unit *ℤ pos n) ≤ℤ end_of s k) → (1 ≤ den) × ((num *ℤ s.unit) ≤ℤ (cost_of i s *ℤ pos den))
  by_some_end num den n e one (k, l, h) = over_one num s.unit (cost_of i s) n den e one (≤ℤ_trans h (ends k l))

-- ---- jobs of one unit of time
unit_times : (i : Instance) → InClass i → i.class.times ≡ UnitTimes → (k : ℕ) → k < length i.jobs → (need_at i k 0).time ≡ 1
unit_times i c t k l =
    let job = c.conditions.jobs k no_job l in
    let (p, x, b, r, z) = job.needs.some in
    (subst (λ t. HasSameTimes t (common_time i) (job_at i k).needs) t job.times) 0 no_need (omega (arith, b))

-- ---- a group of jobs
module _ (i : Instance) (jobs : List ℕ) (inside : All (λ j. j < length i.jobs) jobs) (apart : AllPairs (λ j k. j ≢ k) jobs) where
  abbrev among : ℕ → Bool
  among j = list_any (λ x. eqb x j) jobs

  together : time_together i among ≡ total_time i jobs
  together = total_below-range (length i.jobs) (λ j. cond (among j) (need_at i j 0).time 0) ∙ list_total (λ j. (need_at i j 0).time) (length i.jobs) jobs inside apart

  many : jobs_together i among ≡ length jobs
  many = total_below-range (length i.jobs) (λ j. cond (among j) 1 0) ∙ list_total (λ _. 1) (length i.jobs) jobs inside apart ∙ sum_by-constant 1 jobs ∙ omega arith

speed_at : (i : Instance) (k : ℕ) → k < i.machines → (kind : EnvKind) → HasSpeeds kind i.machines i.speeds → (1 ≤ speed_by kind i k) × (speed_by kind i k ≤ GREATEST_SPEED)
speed_at i k l Uniform h = h.1 k 0 (omega (arith, l, h.0))
speed_at i k l _ h = (omega arith, omega arith)

pub speeds_many : (i : Instance) → length (speeds_of i) ≡ i.machines
speeds_many i = length-map-range_with_len (speed_of i) 0 i.machines

pub speeds_between : (i : Instance) → InClass i → All (λ x. (1 ≤ x) × (x ≤ GREATEST_SPEED)) (speeds_of i)
speeds_between i c = All-map (λ x. (1 ≤ x) × (x ≤ GREATEST_SPEED)) (speed_of i) (range_with_len 0 i.machines)
    (λ k d l. speed_at i _ ((OnceBelow-range i.machines).within k d l) (kind_of i.class.env) c.conditions.speeds)

fastest_above : (i : Instance) (count speed : ℕ) → 1 ≤ count → IsSpeedOfFastest i count speed → (threshold : ℕ) × (count * threshold + speed_above i threshold ≤ speed)
fastest_above i count speed some h =
    let (t, is) = some_threshold h.order count some h.falls in
    let same = sum_by-IsPermutation (λ x. x - t) (speeds_of i) h.order h.all in
    (t, omega (arith, is.reached, h.first, same, sum_by-map (λ x. x - t) (speed_of i) (range_with_len 0 i.machines)))

group : (i : Instance) (jobs : List ℕ) (num : ℤ) (den : ℕ) (s : Schedule) → InClass i → IsGroup i jobs → num ≡ pos (total_time i jobs) → IsSpeedOfFastest i (length jobs) den → Feasible i s
    → (1 ≤ den) × ((num *ℤ s.unit) ≤ℤ (cost_of i s *ℤ pos den))
group i jobs num den s c g e v f =
    let (t, above) = fastest_above i (length jobs) den g.some v in
    let room = law_of_speeds.room i s (among i jobs g.inside g.apart) t (cost_of i s) g.speeds f (nonneg i s c f g.makespan) (λ j l _. ends i s c f g.makespan j l) in
    let less = subst (λ n. n * t + speed_above i t ≤ den) (sym (many i jobs g.inside g.apart)) above in
    let same = *ℤ_comm num s.unit ∙ ap (λ x. s.unit *ℤ x) (e ∙ ap pos (sym (together i jobs g.inside g.apart))) in (
      subst (λ d. 1 ≤ d) (sym v.first) (first_some v.order (length jobs) g.some
          (omega (arith, length_permutation (speeds_of i) v.order v.all, speeds_many i, c.conditions.machines.0))
          (All-permutation (λ x. 1 ≤ x) (speeds_of i) v.order v.all (λ k d l. (speeds_between i c k d l).0))),
      ≤ℤ_trans (≤ℤ_of_same same) (≤ℤ_trans room (*ℤ-mono_nonneg (cost_of i s) (nonneg i s c f g.makespan) (pos-le less))),
    )

-- ---- each kind
value : (i : Instance) (proof : Proof) (num : ℤ) (den : ℕ) (s : Schedule) → InClass i → HoldsFor i proof → IsValue i proof num den → Feasible i s
    → (1 ≤ den) × ((num *ℤ s.unit) ≤ℤ (cost_of i s *ℤ pos den))
value i (Group jobs) num den s c h (e, v) f = group i jobs num den s c h e v f
value i (Machine machine) num den s c (h, l) (e, one) f =
    over_one num s.unit (cost_of i s) _ den e one (law_of_machines i s machine (cost_of i s) h.shop f (nonneg i s c f h.makespan) (ends i s c f h.makespan))
value i (Line job) num den s c (h, l) (e, one) f =
    by_some_end i s c f h.makespan num den _ e one (job, l, law_of_lines i s job h.shop f l)
value i (Levels level tail) num den s c h (e, one) f =
    let (j, x, b, at, high) = h.some in
    let l : j < length i.jobs = omega (arith, b, h.each) in
    let tall : tail ≤ of_job level j = subst (λ y. tail ≤ y) (sym (get_or_default level j 0 x b ∙ at)) high in
    by_some_end i s c f h.units.makespan num den _ e one (law_of_levels i s (of_job level) tail j h.units.identical h.units.uncut (unit_times i c h.units.units) h.steps f l tall)
value i (Segments lists) num den s c h (e, one) f =
    by_some_end i s c f h.units.makespan num den _ e one (law_of_segments text_limits i s lists h.units.identical h.units.uncut (unit_times i c h.units.units) c.conditions f h.segments)
value i (Block head jobs) num den s c h (v, one) f =
    whole_over_one num s.unit (cost_of i s) den one (law_of_blocks text_limits i s head jobs num h.single (ap is_greatest h.greatest) c.conditions f h.block v)
value i (Prices row column) num den s c h (e, one) f =
    whole_over_one num s.unit (cost_of i s) den one (subst (λ x. (s.unit *ℤ x) ≤ℤ cost_of i s) (sym e) (law_of_prices i s (row_price row) (column_price i column) h.unrelated h.uncut h.sum f h.prices))

pub law_of_certificates : LawOfCertificates
law_of_certificates = record {
  value = value;
  bound = λ i c s inside a f.
      let (some, least) = value i c.proof a.num a.den s inside a.holds a.value f in
      below_value c.bound.num c.bound.den a.num s.unit (cost_of i s) a.den some c.bound.positive f.unit a.below least;
}
