-- What was read belongs to its class, or has a first fault.
use Rattle.std.proofs.Common.{◌≡◌, ◌≢◌, ℕ, ◌<◌, ◌≤◌, ◌⊎◌, inl, inr, List, [], length, get_or, Result, Ok, All, refl, subst, arith}
use Rattle.std.proofs.lemmas.Option.{slice_get-get_or}
use Rattle.std.proofs.lemmas.List.{get_or_default}
use Rattle.msp_instance.specs.declared.membership.ClassFault.{ClassFault}
use Rattle.msp_instance.specs.declared.membership.ClassFault.TheVariants as class_fault
use Rattle.msp_instance.specs.Instance.{no_job, job_at}
use Rattle.msp_instance.specs.Conditions.{text_limits, HasNeeds, HasDegree, IsJobOf, MeetsConditions, InClass}
use Rattle.msp_instance.specs.Faults.{Condition, IsOf, Turn, turn_of, IsSooner, IsFirstFault}
use Rattle.msp_instance.proofs.FaultLemmas.{HasArc-from_all}
use Rattle.msp_grammar.specs.declared.filed.Filed.{Filed}
use Rattle.msp_grammar.specs.declared.lines.fault.FileFault.{FileFault}
use Rattle.msp_grammar.specs.declared.lines.fault.FileFault.TheVariants.{Class, Cycle, Memory}
use Rattle.msp_file.specs.instance.Answers.{faulty_name, IsFaultBy}
use Rattle.msp_file.proofs.instances.TextLaws.{IsReadText, times_read}
use Rattle.msp_file.proofs.instances.Deciding.{le_told, first_broken, needs_told, degree_told}
use Rattle.msp_file.proofs.instances.Orders.{order_or_cycle}

parts_in_order : (s t : Turn) → IsSooner s t → s.part ≤ t.part
parts_in_order s t (inl less) = omega arith
parts_in_order s t (inr same) = omega (arith, same.0)

numbers_in_order : (s t : Turn) → IsSooner s t → s.part ≡ t.part → t.step ≡ 0 → s.number < t.number
numbers_in_order s t (inl less) p z = absurd (omega arith)
numbers_in_order s t (inr (q, inl less)) p z = less
numbers_in_order s t (inr (q, inr (r, less))) p z = absurd (omega arith)

none_sooner : (s t : Turn) → t.part ≡ 0 → t.number ≡ 0 → t.step ≡ 0 → ¬ IsSooner s t
none_sooner s t p q r (inl less) = absurd (omega arith)
none_sooner s t p q r (inr (a, inl less)) = absurd (omega arith)
none_sooner s t p q r (inr (a, inr (b, less))) = absurd (omega arith)

module _ (b : List ℕ) (f : Filed) (t : IsReadText b f) where
  abbrev pub NeedsAt : ℕ → Type 0
  NeedsAt j = HasNeeds text_limits f.instance (job_at f.instance j).needs

  abbrev pub DegreeAt : ℕ → Type 0
  DegreeAt j = HasDegree f.instance.class.order f.instance.arcs j

  no_jobs : ¬ (1 ≤ length f.instance.jobs) → IsFirstFault f.instance class_fault.Jobs
  no_jobs none = record { within = tt; broken = λ h. none h.0; first = λ g w s. absurd (none_sooner (turn_of g) (turn_of class_fault.Jobs) refl refl refl s) }

  -- the conditions of these faults, by those that reading alone does not give
  pub earlier : (S : ClassFault → Type 0) → (S class_fault.Jobs → 1 ≤ length f.instance.jobs) → ((k : ℕ) → k < length f.instance.jobs → S (class_fault.Need k) → NeedsAt k)
      → ((k : ℕ) → S (class_fault.Unit k) → NeedsAt 0) → ((k : ℕ) → S (class_fault.Degree k) → DegreeAt k)
      → (g : ClassFault) → IsOf f.instance g → S g → Condition f.instance g
  earlier S some need first degree class_fault.Jobs w s = (some s, t.few)
  earlier S some need first degree class_fault.Machines w s = t.machines
  earlier S some need first degree class_fault.Speeds w s = t.speeds
  earlier S some need first degree class_fault.Multiple w s = t.multiple
  earlier S some need first degree (class_fault.Need k) w s = need k w s
  earlier S some need first degree (class_fault.Unit k) w s = times_read b f t k w (first k s)
  earlier S some need first degree (class_fault.Head k) w s = (t.jobs k no_job w).release
  earlier S some need first degree (class_fault.Due k) w s = (t.jobs k no_job w).due
  earlier S some need first degree (class_fault.Weight k) w s = (t.jobs k no_job w).weight
  earlier S some need first degree (class_fault.Curve k) w s = (t.jobs k no_job w).curve
  earlier S some need first degree class_fault.Arcs w s = t.arcs
  earlier S some need first degree (class_fault.Arc at) w s = HasArc-from_all f.instance at t.ends t.once w
  earlier S some need first degree (class_fault.Degree k) w s = degree k s

  need_broken : (j : ℕ) → j < length f.instance.jobs → ¬ NeedsAt j → ((k : ℕ) → k < j → NeedsAt k) → IsFirstFault f.instance (class_fault.Need j)
  need_broken j within broken before = record {
    within = within;
    broken = broken;
    first = earlier (λ g. IsSooner (turn_of g) (turn_of (class_fault.Need j))) (λ s. omega arith)
        (λ k w s. before k (numbers_in_order (turn_of (class_fault.Need k)) (turn_of (class_fault.Need j)) s refl refl))
        (λ k s. let less = numbers_in_order (turn_of (class_fault.Unit k)) (turn_of (class_fault.Need j)) s refl refl in before 0 (omega arith))
        (λ k s. let late = parts_in_order (turn_of (class_fault.Degree k)) (turn_of (class_fault.Need j)) s in absurd (omega (arith, late)));
  }

  module _ (some : 1 ≤ length f.instance.jobs) (needs : (k : ℕ) → k < length f.instance.jobs → NeedsAt k) where
    job_of : (k : ℕ) → k < length f.instance.jobs → IsJobOf text_limits f.instance (job_at f.instance k)
    job_of k w =
        let read = t.jobs k no_job w in
        record { needs = needs k w; times = times_read b f t k w (needs 0 some); release = read.release; due = read.due; weight = read.weight; curve = read.curve }

    all_jobs : All (IsJobOf text_limits f.instance) f.instance.jobs
    all_jobs k d w = subst (IsJobOf text_limits f.instance) (get_or_default f.instance.jobs k no_job d w) (job_of k w)

    degree_broken : (j : ℕ) → j < length f.instance.jobs → ¬ DegreeAt j → ((k : ℕ) → k < j → DegreeAt k) → IsFirstFault f.instance (class_fault.Degree j)
    degree_broken j within broken before = record {
      within = within;
      broken = broken;
      first = earlier (λ g. IsSooner (turn_of g) (turn_of (class_fault.Degree j))) (λ s. some) (λ k w s. needs k w) (λ k s. needs 0 some)
          (λ k s. before k (numbers_in_order (turn_of (class_fault.Degree k)) (turn_of (class_fault.Degree j)) s refl refl));
    }

    meets : ((j : ℕ) → j < length f.instance.jobs → DegreeAt j) → MeetsConditions text_limits f.instance
    meets degree = record {
      some = some;
      few = t.few;
      machines = t.machines;
      speeds = t.speeds;
      multiple = t.multiple;
      jobs = all_jobs;
      arcs = t.arcs;
      ends = t.ends;
      once = t.once;
      degree = degree;
    }

  fault_or_meets : ((x : ClassFault) × IsFirstFault f.instance x) ⊎ MeetsConditions text_limits f.instance
  fault_or_meets = elim (le_told 1 (length f.instance.jobs)) [
    | inr none ↦ inl (class_fault.Jobs, no_jobs none)
    | inl some ↦ elim (first_broken NeedsAt (λ j. needs_told text_limits f.instance (job_at f.instance j).needs) (length f.instance.jobs)) [
      | inl j ↦ inl (class_fault.Need j.0, need_broken j.0 j.1 j.2 j.3)
      | inr needs ↦ elim (first_broken DegreeAt (λ j. degree_told f.instance.class.order f.instance.arcs j) (length f.instance.jobs)) [
        | inl j ↦ inl (class_fault.Degree j.0, degree_broken some needs j.0 j.1 j.2 j.3)
        | inr degree ↦ inr (meets some needs degree)
      ]
    ]
  ]

  pub class_or_fault : (R : Result Filed FileFault → Type 0) → R (Ok f) → InClass f.instance ⊎ ((e : FileFault) × (IsFaultBy R e × (e ≢ Memory)))
  class_or_fault R h = elim fault_or_meets [
    | inl x ↦
        let name = faulty_name f.names x.0 in
        inr (Class x.0 name, (record { filed = f; reads = h; first = x.1; named = refl }, λ m. absurd cc))
    | inr conditions ↦ elim (order_or_cycle f.instance t.ends) [
      | inl order ↦ inl (record { conditions = conditions; acyclic = order })
      | inr j ↦
          let name = get_or f.names j.0 [] in
          inr (
            Cycle j.0 name,
            (record { filed = f; reads = h; conditions = conditions; least = j.1; named = slice_get-get_or f.names j.0 [] (omega (arith, t.one_each, j.1.inside)) }, λ m. absurd cc),
          )
    ]
  ]
