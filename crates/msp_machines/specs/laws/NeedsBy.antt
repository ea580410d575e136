-- Lists of one need on each machine.
use Rattle.std.proofs.Common.{◌≡◌, ℕ, ◌+◌, ◌<◌, ◌≤◌, List, [], ◌∷◌, ◌++◌, length, get_or, All, Any, sym, ap, subst, ◌∙◌, arith}
use Rattle.std.proofs.lemmas.List.{get_or_default}
use Rattle.std.proofs.lemmas.List.FromFn.{length-map-range_with_len, get_or-map-range_with_len, map-range_with_len_more}
use Rattle.msp_class.specs.declared.environments.EnvKind.TheVariants.{Unrelated}
use Rattle.msp_class.specs.Env.{kind_of}
use Rattle.msp_instance.specs.declared.Need.{Need}
use Rattle.msp_instance.specs.declared.Instance.{Instance}
use Rattle.msp_instance.specs.Instance.{no_need}
use Rattle.msp_instance.specs.Conditions.{HasNeeds, HasShape, HasTimes, IsNeedPerMachine, inner_limits, least_time, greatest_time}
use Rattle.msp_machines.specs.Unrelated.{need_on, needs_by}

pub length-needs_by : (n : ℕ) (time : ℕ → ℕ) → length (needs_by n time) ≡ n
length-needs_by n time = length-map-range_with_len (need_on time) 0 n

pub get_or-needs_by : (n : ℕ) (time : ℕ → ℕ) (m : ℕ) (d : Need) → m < n → get_or (needs_by n time) m d ≡ need_on time m
get_or-needs_by n time m d l = get_or-map-range_with_len (need_on time) 0 n m m d l (omega arith)

pub All-needs_by : (P : Need → Type 0) (n : ℕ) (time : ℕ → ℕ) → ((m : ℕ) → m < n → P (need_on time m)) → All P (needs_by n time)
All-needs_by P n time h k d l = let inside : k < n = omega (arith, length-needs_by n time) in subst P (sym (get_or-needs_by n time k d inside)) (h k inside)

IsNeedPerMachine-needs_by : (n : ℕ) (time : ℕ → ℕ) → IsNeedPerMachine n (needs_by n time)
IsNeedPerMachine-needs_by n time = (length-needs_by n time, λ k l. ap (λ x. x.machine) (get_or-needs_by n time k no_need (omega (arith, length-needs_by n time))))

some_time : (needs : List Need) (n top : ℕ) → 1 ≤ n → length needs ≡ n → HasTimes 1 top needs → Any (λ x. 1 ≤ x.time) needs
some_time needs n top some e h = let inside : 0 < length needs = omega arith in
    (0, get_or needs 0 no_need, inside, get_or_default needs 0 (get_or needs 0 no_need) no_need inside, (h 0 no_need inside).0)

-- they are the needs of a job of an instance on that many unrelated machines, where times are in range
pub HasNeeds-needs_by : (i : Instance) (n : ℕ) (time : ℕ → ℕ) → kind_of i.class.env ≡ Unrelated → n ≡ i.machines → 1 ≤ n
    → ((m : ℕ) → m < n → (1 ≤ time m) × (time m ≤ greatest_time (inner_limits Unrelated) i.class.times)) → HasNeeds (inner_limits (kind_of i.class.env)) i (needs_by n time)
HasNeeds-needs_by i n time kind count some h = record {
  shape = subst (λ k. HasShape k i.class.env i.machines (needs_by n time)) (sym kind) (subst (λ m. IsNeedPerMachine m (needs_by n time)) count (IsNeedPerMachine-needs_by n time));
  times = subst (λ k. HasTimes (least_time k i.class.times) (greatest_time (inner_limits k) i.class.times) (needs_by n time)) (sym kind) times;
  some = some_time (needs_by n time) n _ some (length-needs_by n time) times;
}
  where
    times : HasTimes 1 (greatest_time (inner_limits Unrelated) i.class.times) (needs_by n time)
    times = All-needs_by (λ x. (1 ≤ x.time) × (x.time ≤ greatest_time (inner_limits Unrelated) i.class.times)) n time h

-- the needs on one machine more
pub next_needs : (new needs : List Need) (n : ℕ) (time : ℕ → ℕ) → new ≡ needs ++ need_on time n ∷ [] → needs ≡ needs_by n time → new ≡ needs_by (n + 1) time
next_needs new needs n time e f = e ∙ ap (λ l. l ++ need_on time n ∷ []) f ∙ sym (map-range_with_len_more (need_on time) 0 n n (omega arith))
