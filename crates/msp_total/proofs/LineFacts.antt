-- What a flow shop of unit operations with release dates has.
use Rattle.std.proofs.Common.{◌≡◌, ℕ, ◌<◌, Bool, length, refl, sym, ap, subst, ◌∙◌, arith}
use Rattle.msp_class.specs.declared.environments.EnvKind.TheVariants.{Unrelated, FlowShop}
use Rattle.msp_class.specs.Env.{kind_of}
use Rattle.msp_instance.specs.declared.Instance.{Instance}
use Rattle.msp_instance.specs.Instance.{no_need, no_job, job_at, need_at}
use Rattle.msp_pieces.specs.Feasible.{HasOperation, whole_work}
use Rattle.msp_pieces.proofs.feasible.Frames.{rate_on}
use Rattle.msp_pieces.proofs.feasible.OfClass.{IsOfClass}
use Rattle.msp_route.proofs.Placed.{HasOperations}
use Rattle.msp_total.specs.LeastSlots.{HasSmallDates}
use Rattle.msp_total.proofs.SlotFacts.{HasSmallDates-from}
use Rattle.msp_total.specs.LineSteps.{line_class}

abbrev pub IsLineShop : Instance → Bool → Type 0
IsLineShop i late = IsOfClass i (line_class late)

pub small_dates : (i : Instance) (late : Bool) → IsLineShop i late → HasSmallDates i
small_dates i late h = HasSmallDates-from i (line_class late) late h refl refl refl

module _ (i : Instance) (late : Bool) (h : IsLineShop i late) where
  needs : (j : ℕ) → j < length i.jobs → length (job_at i j).needs ≡ i.machines
  needs j l = (h.jobs j no_job l).needs.shape.0

  pub own : (j o : ℕ) → j < length i.jobs → o < i.machines → (need_at i j o).machine ≡ o
  own j o l b = let s = (h.jobs j no_job l).needs.shape in s.1 o (omega (arith, s.0, b))

  pub ones : (j o : ℕ) → j < length i.jobs → o < i.machines → (need_at i j o).time ≡ 1
  ones j o l b = let w = h.jobs j no_job l in w.times o no_need (omega (arith, w.needs.shape.0, b))

  pub operations : (j o : ℕ) → j < length i.jobs → o < i.machines → HasOperation (kind_of i.class.env) i j o
  operations j o l b = subst (λ k. HasOperation k i j o) (sym h.kind) (omega (arith, b, needs j l), λ z. omega (arith, ones j o l b, z))

  pub line_operations : HasOperations i i.machines
  line_operations = record {
    shaped = record { unrelated = λ e. absurd (let never : FlowShop ≡ Unrelated = sym h.kind ∙ e in cc) };
    has = λ j o l has. omega (arith, needs j l, (subst (λ k. HasOperation k i j o) h.kind has).0);
    rate = λ j m. ap (λ k. rate_on k i j m) h.kind;
    want = λ j o. ap (λ k. whole_work k i j o) h.kind;
    arcs = h.arcs;
  }
