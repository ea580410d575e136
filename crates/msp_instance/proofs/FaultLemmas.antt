-- Lemmas on the first fault of an instance.
use Rattle.std.proofs.Common.{◌≡◌, ◌≢◌, ℕ, ◌<◌, ◌⊎◌, inl, inr, [], ◌∷◌, length, get_or, take, All, AllPairs, Result, Ok, Err, IsOk, OnOk, IfErr, IsErrAnd, ◌↔◌, refl, sym, ◌∙◌, subst, arith}
use Rattle.std.proofs.lemmas.List.{get_or_default, get_or-take, length-take}
use Rattle.msp_class.specs.Env.{kind_of}
use Rattle.msp_instance.specs.declared.Arc.{Arc}
use Rattle.msp_instance.specs.declared.Instance.{Instance}
use Rattle.msp_instance.specs.declared.membership.ClassFault.{ClassFault}
use Rattle.msp_instance.specs.declared.membership.ClassFault.TheVariants.{Jobs, Machines, Speeds, Multiple, Need as NeedFault, Unit as UnitFault, Head, Due, Weight}
use Rattle.msp_instance.specs.declared.membership.ClassFault.TheVariants.{Curve as CurveFault, Arcs, Arc as ArcFault, Degree}
use Rattle.msp_instance.specs.Instance.{no_job}
use Rattle.msp_instance.specs.Conditions.{text_limits, HasMachines, HasSpeeds, HasSmallMultiple, HasArcs, HasDegree, MeetsConditions}
use Rattle.msp_instance.specs.Faults.{arc_at, HasJobs, HasArc, HasAllJobs, Condition, IsOf, Turn, turn_of, IsSooner, IsFirstFault}
use Rattle.std.proofs.lemmas.Bool.{cases_order, false≢true}

pub IsFirstFault-multiple : (i : Instance) → HasJobs i → HasMachines i → HasSpeeds (kind_of i.class.env) i.machines i.speeds → ¬ HasSmallMultiple i.speeds → IsFirstFault i Multiple
IsFirstFault-multiple i jobs machines speeds broken = record { within = tt; broken = broken; first = first }
  where
    first : (f : ClassFault) → IsOf i f → IsSooner (turn_of f) (turn_of Multiple) → Condition i f
    first Jobs w s = jobs
    first Machines w s = machines
    first Speeds w s = speeds
    first f w s = absurd (grind arith)

-- what holds of all arcs holds of the one of a number
pub HasArc-from_all : (i : Instance) (at : ℕ) → All (λ a. (a.before < length i.jobs) × (a.after < length i.jobs)) i.arcs → AllPairs (λ a b. a ≢ b) i.arcs → at < length i.arcs → HasArc i at
HasArc-from_all i at ends once within = ((ends at _ within).0, (ends at _ within).1, fresh)
  where
    fresh : All (λ a. a ≢ arc_at i at) (take at i.arcs)
    fresh k d t =
        let below : k < at = omega (arith, length-take at i.arcs) in
        subst (λ (a : Arc). a ≢ arc_at i at) (sym (get_or-take at i.arcs k d below))
        (subst (λ (a : Arc). get_or i.arcs k d ≢ a) (get_or_default i.arcs at d _ within) (once k at d below within))

-- the condition of a fault that an instance without faults has
pub Condition-from_meets : (i : Instance) (f : ClassFault) → MeetsConditions text_limits i → IsOf i f → Condition i f
Condition-from_meets i Jobs h w = (h.some, h.few)
Condition-from_meets i Machines h w = h.machines
Condition-from_meets i Speeds h w = h.speeds
Condition-from_meets i Multiple h w = h.multiple
Condition-from_meets i (NeedFault j) h w = (h.jobs j no_job w).needs
Condition-from_meets i (UnitFault j) h w = (h.jobs j no_job w).times
Condition-from_meets i (Head j) h w = (h.jobs j no_job w).release
Condition-from_meets i (Due j) h w = (h.jobs j no_job w).due
Condition-from_meets i (Weight j) h w = (h.jobs j no_job w).weight
Condition-from_meets i (CurveFault j) h w = (h.jobs j no_job w).curve
Condition-from_meets i Arcs h w = h.arcs
Condition-from_meets i (ArcFault at) h w = HasArc-from_all i at h.ends h.once w
Condition-from_meets i (Degree j) h w = h.degree j w

-- an instance that passes all parts of the test meets the conditions
pub MeetsConditions-from_parts : (i : Instance) → HasAllJobs i → HasArcs i.class.order i.arcs → ((at : ℕ) → at < length i.arcs → HasArc i at)
    → ((j : ℕ) → j < length i.jobs → HasDegree i.class.order i.arcs j) → MeetsConditions text_limits i
MeetsConditions-from_parts i h few each degree = record {
  some = h.frame.jobs.0;
  few = h.frame.jobs.1;
  machines = h.frame.machines;
  speeds = h.frame.speeds;
  multiple = h.frame.multiple;
  jobs = h.jobs;
  arcs = few;
  ends = λ k d t. let e : arc_at i k ≡ get_or i.arcs k d = get_or_default i.arcs k _ d t in
      subst (λ (a : Arc). (a.before < length i.jobs) × (a.after < length i.jobs)) e ((each k t).0, (each k t).1);
  once = λ k at d below t. let e : arc_at i at ≡ get_or i.arcs at d = get_or_default i.arcs at _ d t in
      subst (λ (a : Arc). get_or i.arcs k d ≢ a) e
      (subst (λ (a : Arc). a ≢ arc_at i at) (get_or-take at i.arcs k d below) ((each at t).2 k d (omega (arith, length-take at i.arcs))));
  degree = degree;
}

-- what the test answers where it answers a first fault, or else that all conditions hold
pub test_answers : {A P : Type 0} (i : Instance) (r : Result A ClassFault)
    → (P → MeetsConditions text_limits i) → OnOk r P → IfErr r (IsFirstFault i) → IsOk r ↔ MeetsConditions text_limits i
test_answers i (Ok x) meets part first = (λ _. meets part, λ _. refl)
test_answers i (Err f) meets part first = (λ e. absurd (false≢true e), λ m. absurd (first.broken (Condition-from_meets i f m first.within)))

-- and where it hands a fault on
pub fault_handed_on : {A : Type 0} (i : Instance) (r : Result A ClassFault) (f : ClassFault)
    → IsErrAnd r (λ d. d ≡ f) → IsFirstFault i f → (IsOk r ↔ MeetsConditions text_limits i) × IfErr r (IsFirstFault i)
fault_handed_on i (Ok x) f e h = absurd e
fault_handed_on {A} i (Err d) f e h =
    let first : IsFirstFault i d = subst (IsFirstFault i) (sym e) h in
    (test_answers {A = A} {P = MeetsConditions text_limits i} i (Err d) (λ m. m) tt first, first)

sooner_or_same : (s t : Turn) → (IsSooner s t ⊎ IsSooner t s) ⊎ ((s.part ≡ t.part) × (s.number ≡ t.number) × (s.step ≡ t.step))
sooner_or_same s t = elim (cases_order s.part t.part) [
  | inr (inl h) ↦ inl (inl (inl h))
  | inr (inr h) ↦ inl (inr (inl h))
  | inl p ↦ elim (cases_order s.number t.number) [
    | inr (inl h) ↦ inl (inl (inr (p, inl h)))
    | inr (inr h) ↦ inl (inr (inr (sym p, inl h)))
    | inl q ↦ elim (cases_order s.step t.step) [
      | inr (inl h) ↦ inl (inl (inr (p, inr (q, h))))
      | inr (inr h) ↦ inl (inr (inr (sym p, inr (sym q, h))))
      | inl r ↦ inr (p, q, r)
    ]
  ]
]

-- the fault whose turn it is
abbrev fault_at : ℕ → ℕ → ℕ → ClassFault
fault_at part j step = get_or (get_or ((Jobs ∷ []) ∷ (Machines ∷ []) ∷ (Speeds ∷ []) ∷ (Multiple ∷ [])
    ∷ (NeedFault j ∷ UnitFault j ∷ Head j ∷ Due j ∷ Weight j ∷ CurveFault j ∷ []) ∷ (Arcs ∷ []) ∷ (ArcFault j ∷ []) ∷ (Degree j ∷ []) ∷ []) part []) step Jobs

fault_at_turn : (f : ClassFault) → fault_at (turn_of f).part (turn_of f).number (turn_of f).step ≡ f
fault_at_turn Jobs = refl
fault_at_turn _ = refl

-- an instance has at most one first fault
pub IsFirstFault-unique : (i : Instance) (f g : ClassFault) → IsFirstFault i f → IsFirstFault i g → f ≡ g
IsFirstFault-unique i f g h k = elim (sooner_or_same (turn_of f) (turn_of g)) [
  | inl (inl s) ↦ absurd (h.broken (k.first f h.within s))
  | inl (inr s) ↦ absurd (k.broken (h.first g k.within s))
  | inr (p, q, r) ↦ sym (fault_at_turn f) ∙ rw (p, q, r) (fault_at_turn g)
]
