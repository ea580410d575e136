-- What is picked from the list, and a best schedule that is settled.
use Rattle.std.proofs.Common.{◌≡◌, refl, ◌≢◌, ℕ, zero, suc, ◌+◌, ◌<◌, ◌≤◌, ◌⊎◌, inl, inr, ◌↔◌, Bool, true, false, IsTrue, List, [], ◌∷◌, length, map, ℤ, pos, ◌*ℤ◌, ◌≤ℤ◌, ◌<ℤ◌, sym}
use Rattle.std.proofs.Common.{ap, ap₂, subst, subst₂, ◌∙◌, arith}
use Rattle.std.specs.Option.{option_map}
use Rattle.std.specs.Prelude.{slice_get, Contains, IfSome, IfNone, IfOk, IfErr, Option, Some, None, Result, Ok, Err}
use Rattle.std.proofs.lemmas.Bool.{cases_lt}
use Rattle.std.proofs.lemmas.Int.{ints}
use Rattle.std.proofs.lemmas.Option.{slice_get-map, slice_get_within, get_or_from_slice_get, slice_get-get_or}
use Rattle.msp_class.specs.declared.class.Class.{Class}
use Rattle.msp_class.specs.declared.ranks.TheConstants.{CLASSES}
use Rattle.msp_class.proofs.IntegerRing.{*ℤ_assoc, *ℤ_comm, *ℤ_exchange, *ℤ-mono_nonneg, *ℤ-cancel_pos}
use Rattle.msp_instance.specs.declared.Instance.{Instance}
use Rattle.msp_pieces.specs.declared.Schedule.{Schedule}
use Rattle.msp_pieces.specs.Feasible.{Feasible}
use Rattle.msp_pieces.specs.Cost.{cost_of, Best}
use Rattle.msp_table.specs.Rows.{carries}
use Rattle.msp_table.specs.declared.row.Chain.{Chain}
use Rattle.msp_table.specs.Chains.{Reaches, IsNearest}
use Rattle.msp_closure.specs.Entries.{IsFirst, here, later, IsWay}
use Rattle.msp_closure.proofs.WayLemmas.{IsFirst-among, one_is}
use Rattle.msp_route.specs.declared.answer.SolverName.{SolverName}
use Rattle.msp_dispatch.specs.declared.solved_list.SolvedClass.{SolvedClass}
use Rattle.msp_dispatch.specs.declared.solved_list.TheConstants.{SOLVERS}
use Rattle.msp_dispatch.specs.declared.pick.Pick.{Pick}
use Rattle.msp_dispatch.specs.Solved.{solves, solved_list, solved_classes, Fits}
use Rattle.msp_dispatch.specs.Dispatch.{IsTarget, IsReported, IsAnswered, HasNoTarget, IsUnfit, IsFault}
use Rattle.msp_dispatch.specs.declared.Cannot.{Cannot}
use Rattle.msp_dispatch.specs.declared.Cannot.TheVariants.{NoRoute, Unfit, Memory}
use Rattle.msp_carry.specs.Carried.{carried}
use Rattle.msp_route.specs.declared.answer.Answer.{Answer}
use Rattle.msp_dispatch.specs.Pick.{class_of, StandsAt, IsRoute, IsPick, IsStopped}

-- ---- a schedule that is feasible and costs as much as a best one is best
module _ (i : Instance) (s t : Schedule) (best : Best i s) (same : cost_of i t *ℤ s.unit ≡ cost_of i s *ℤ t.unit) where
  positive : (u : ℤ) → pos 1 ≤ℤ u → (pos 0 <ℤ u) × (pos 0 ≤ℤ u)
  positive u h = (omega (arith, ints), omega (arith, ints))

  settled_least : pos 1 ≤ℤ t.unit → (r : Schedule) → Feasible i r → (cost_of i t *ℤ r.unit) ≤ℤ (cost_of i r *ℤ t.unit)
  settled_least u r f =
      *ℤ-cancel_pos s.unit (positive s.unit best.feasible.unit).0
      (subst₂ (λ x y. x ≤ℤ y) (sym (left (cost_of i s) (cost_of i t) s.unit t.unit r.unit same)) (right (cost_of i r) s.unit t.unit)
      (*ℤ-mono_nonneg t.unit (positive t.unit u).1 (best.least r f)))
    where
      left : (c d u v w : ℤ) → d *ℤ u ≡ c *ℤ v → u *ℤ (d *ℤ w) ≡ v *ℤ (c *ℤ w)
      left c d u v w e = sym (*ℤ_assoc u d w) ∙ ap (λ x. x *ℤ w) (*ℤ_comm u d ∙ e ∙ *ℤ_comm c v) ∙ *ℤ_assoc v c w

      right : (c u v : ℤ) → v *ℤ (c *ℤ u) ≡ u *ℤ (c *ℤ v)
      right c u v = ap (λ x. v *ℤ x) (*ℤ_comm c u) ∙ *ℤ_exchange v u c ∙ ap (λ x. u *ℤ x) (*ℤ_comm v c)

  pub Best-settled : Feasible i t → Best i t
  Best-settled f = record { feasible = f; least = settled_least f.unit }

-- ---- routes
-- each entry has the class that its solver solves
all_solved : map (λ e. class_of e.solver) solved_list ≡ map (λ e. Some e.class) solved_list
unfolding class_of
all_solved = refl

some_same : {X : Type 0} {x y : X} → Some x ≡ Some y → x ≡ y
some_same e = cc

solved_at : (n : ℕ) (e : SolvedClass) → slice_get solved_list n ≡ Some e → class_of e.solver ≡ Some e.class
solved_at n e at =
    let left : slice_get (map (λ x. class_of x.solver) solved_list) n ≡ Some (class_of e.solver) = slice_get-map (λ x. class_of x.solver) solved_list n ∙ ap (option_map (λ x. class_of x.solver)) at in
    let right : slice_get (map (λ x. Some x.class) solved_list) n ≡ Some (Some e.class) = slice_get-map (λ x. Some x.class) solved_list n ∙ ap (option_map (λ x. Some x.class)) at in
    some_same (sym left ∙ ap (λ xs. slice_get xs n) all_solved ∙ right)

solver_at : (n : ℕ) → option_map (λ e. e.solver) (slice_get solved_list n) ≡ slice_get SOLVERS n
solver_at n = sym (slice_get-map (λ e. e.solver) solved_list n)

pub entry_listed : (n : ℕ) (name : SolverName) (c : Class) → slice_get SOLVERS n ≡ Some name → class_of name ≡ Some c → Some (solves c name) ≡ slice_get solved_list n
entry_listed n name c at is = by (slice_get solved_list n) refl (solver_at n ∙ at)
  where
    by : (o : Option SolvedClass) → slice_get solved_list n ≡ o → option_map (λ e. e.solver) o ≡ Some name → Some (solves c name) ≡ slice_get solved_list n
    by None there same = cc
    by (Some e) there same =
        let solver : e.solver ≡ name = some_same same in
        sym (there ∙ ap Some (ap₂ solves (some_same (sym (solved_at n e there) ∙ ap class_of solver ∙ is)) solver))

pub none_listed : (n : ℕ) → slice_get SOLVERS n ≡ None → None ≡ slice_get solved_list n
none_listed n at = by (slice_get solved_list n) (solver_at n ∙ at)
  where
    by : (o : Option SolvedClass) → option_map (λ e. e.solver) o ≡ None → None ≡ o
    by None e = refl
    by (Some x) e = cc

listed_at : (n : ℕ) (e : SolvedClass) → slice_get solved_list n ≡ Some e → Contains solved_list e
listed_at n e at = (n, slice_get_within solved_list n e at, get_or_from_slice_get solved_list n e e at)

pub IsRoute-from_way : (from : Class) (n : ℕ) (e : SolvedClass) (found : Option Chain) (c : Chain) → found ≡ Some c → slice_get solved_list n ≡ Some e → IsWay carries (e.class ∷ []) (from ∷ []) found
    → IfSome found (λ x. length x.rows ≤ CLASSES) → IsRoute from (record { entry = e; chain = c })
IsRoute-from_way from n e found c is at led short =
    let way : IsWay carries (e.class ∷ []) (from ∷ []) (Some c) = subst (IsWay carries (e.class ∷ []) (from ∷ [])) is led in
    let few : length c.rows ≤ CLASSES = subst (λ o. IfSome o (λ x. length x.rows ≤ CLASSES)) is short in
    let start : from ≡ c.from = one_is (IsFirst-among way.0) in
    record {
      listed = listed_at n e at;
      solver = solved_at n e at;
      start = sym start;
      nearest = subst (λ x. IsNearest carries (e.class ∷ []) x c.rows) (sym start) way.1;
      few = few;
    }

pub IsRoute-reaches : (from : Class) (p : Pick) → IsRoute from p → Reaches carries from p.entry.class
IsRoute-reaches from p h =
    let into = h.nearest.leads in
    subst (Reaches carries from) (sym (one_is into.is_wanted)) (p.chain.rows, into.leads)

first_in : (P : Class → Type 0) (xs : List SolvedClass) (n : ℕ) (e : SolvedClass)
    → slice_get xs n ≡ Some e → P e.class → ((k : ℕ) → k < n → IfSome (slice_get xs k) (λ x. ¬ P x.class)) → IsFirst P (map (λ x. x.class) xs) e.class
first_in P [] n e g p h = absurd (cc)
first_in P (x ∷ xs) zero e g p h = let same : x ≡ e = cc in subst (λ y. IsFirst P (y.class ∷ map (λ z. z.class) xs) e.class) (sym same) (here p)
first_in P (x ∷ xs) (suc n) e g p h = later (h 0 (omega arith)) (first_in P xs n e g p (λ k l. h (suc k) (omega arith)))

-- what holds of all places before the next
pub places_next : (P : ℕ → Type 0) (n : ℕ) → ((k : ℕ) → k < n → P k) → P n → (k : ℕ) → k < n + 1 → P k
places_next P n h last k l = by (cases_lt k n)
  where
    by : (k < n) ⊎ (n ≤ k) → P k
    by (inl m) = h k m
    by (inr m) = let same : n ≡ k = omega (arith, l, m) in subst P same last

pub not_there : (b : Bool) (T : Type 0) → b ≡ false → (IsTrue b ↔ T) → ¬ T
not_there b T e h t = absurd (let yes : b ≡ true = h.1 t in cc)

-- the first of the list to which a chain leads
pub first_led : (from : Class) (n : ℕ) (p : Pick) → StandsAt n p.entry → IsRoute from p
    → ((k : ℕ) → k < n → IfSome (slice_get solved_list k) (λ e. ¬ Reaches carries from e.class)) → IsFirst (Reaches carries from) solved_classes p.entry.class
first_led from n p at h none = first_in (Reaches carries from) solved_list n p.entry at (IsRoute-reaches from p h) none

not_reached : (from at : Class) (o : Option SolvedClass) → option_map (λ s. s.class) o ≡ Some at
    → IfSome o (λ e. ¬ Reaches carries from e.class) → ¬ Reaches carries from at
not_reached from at None e g = absurd (cc)
not_reached from at (Some x) e g = let same : x.class ≡ at = cc in subst (λ c. ¬ Reaches carries from c) same g

-- a class of the list to which no chain leads
pub no_route : (from at : Class) (n : ℕ) (found : Option Pick)
    → found ≡ None → IfNone found (IfSome (slice_get solved_list n) (λ e. ¬ Reaches carries from e.class)) → slice_get solved_classes n ≡ Some at
    → HasNoTarget from (Some at) (NoRoute from at)
no_route from at n found is h stands = (
  refl,
  refl,
  (n, slice_get_within solved_classes n at stands, get_or_from_slice_get solved_classes n at at stands),
  not_reached from at (slice_get solved_list n) (sym (slice_get-map (λ s. s.class) solved_list n) ∙ stands)
      (subst (λ o. IfNone o (IfSome (slice_get solved_list n) (λ e. ¬ Reaches carries from e.class))) is h),
)

pub none_led : (from : Class) (n : ℕ) → length solved_list ≤ n → ((k : ℕ) → k < n → IfSome (slice_get solved_list k) (λ e. ¬ Reaches carries from e.class))
    → (t : Class) → Contains solved_classes t → ¬ Reaches carries from t
none_led from n whole h t (k, inside, e) = not_reached from t (slice_get solved_list k)
    (sym (slice_get-map (λ s. s.class) solved_list k) ∙ slice_get-get_or solved_classes k t inside ∙ ap Some e) (h k (omega (arith, inside, whole)))

pub not_listed : (c : Class) (n : ℕ) → length solved_classes ≤ n → ((k : ℕ) → k < n → slice_get solved_classes k ≢ Some c) → ¬ Contains solved_classes c
not_listed c n whole h (k, inside, e) = h k (omega (arith, inside, whole)) (slice_get-get_or solved_classes k c inside ∙ ap Some e)

-- what a pick says of the answer that is made from it
pub answered : (i : Instance) (at : Option Class) (p : Pick) (r : Result Answer Cannot) → IsPick i.class at p → IfOk r (λ a. a.chain ≡ p.chain) → IfOk r (λ a. a.target ≡ p.entry.class)
    → IfOk r (λ a. a.solver ≡ p.entry.solver) → IfOk r (λ a. Fits p.entry.solver (carried p.chain.rows i)) → IfOk r (λ a. IsReported i a.solution) → IfOk r (IsAnswered i at)
answered i at p (Err e) h chain target solver fits solution = tt
answered i at p (Ok a) h chain target solver fits solution = record {
  target = subst (IsTarget i.class at) (sym target) h.target;
  solver = subst (Contains solved_list) (sym (ap₂ solves target solver)) h.route.listed;
  from = ap (λ c. c.from) chain ∙ h.route.start;
  nearest = subst₂ (λ t c. IsNearest carries (t ∷ []) i.class c.rows) (sym target) (sym chain) h.route.nearest;
  fits = subst₂ (λ s c. Fits s (carried c.rows i)) (sym solver) (sym chain) fits;
  solution = solution;
}

-- what a pick says of the fault in which it ends
stopped_by : (i : Instance) (at : Option Class) (p : Pick) (e : Cannot) → IsPick i.class at p → IsStopped i p e → IsFault i at e
stopped_by i at p (Unfit c) h stop =
    let here : IsUnfit i at p.entry.class = record { solver = p.entry.solver; rows = p.chain.rows; target = h.target; listed = h.route.listed; nearest = h.route.nearest; unfit = stop.1 } in
    subst (IsUnfit i at) (sym stop.0) here
stopped_by i None p Memory h stop = tt
stopped_by i (Some c) p Memory h stop = tt
stopped_by i at p _ h stop = absurd stop

pub stopped : (i : Instance) (at : Option Class) (p : Pick) (r : Result Answer Cannot) → IsPick i.class at p → IfErr r (IsStopped i p) → IfErr r (IsFault i at)
stopped i at p (Err e) h stop = stopped_by i at p e h stop
stopped i at p (Ok a) h stop = tt

-- an instance of a class without a target is not solved
pub untargeted : (i : Instance) (at : Option Class) (e : Cannot) → HasNoTarget i.class at e → IsFault i at e
untargeted i None (Unfit c) h = absurd h
untargeted i (Some at) (Unfit c) h = absurd h
untargeted i at _ h = h

-- the pick that is found first
pub IsPick-first : (from : Class) (n : ℕ) (found : Option Pick) (p : Pick) → found ≡ Some p → IfSome found (λ q. StandsAt n q.entry × IsRoute from q)
    → ((k : ℕ) → k < n → IfSome (slice_get solved_list k) (λ e. ¬ Reaches carries from e.class)) → IsPick from None p
IsPick-first from n found p is picked none =
    let h : StandsAt n p.entry × IsRoute from p = subst (λ o. IfSome o (λ q. StandsAt n q.entry × IsRoute from q)) is picked in
    record { target = first_led from n p h.0 h.1 none; route = h.1 }

-- the pick of the class that is asked for
pub IsPick-given : (from at : Class) (n : ℕ) (found : Option Pick) (p : Pick)
    → found ≡ Some p → IfSome found (λ q. StandsAt n q.entry × IsRoute from q) → slice_get solved_classes n ≡ Some at → IsPick from (Some at) p
IsPick-given from at n found p is picked given =
    let h : StandsAt n p.entry × IsRoute from p = subst (λ o. IfSome o (λ q. StandsAt n q.entry × IsRoute from q)) is picked in
    let there : slice_get solved_classes n ≡ Some p.entry.class = slice_get-map (λ s. s.class) solved_list n ∙ ap (option_map (λ s. s.class)) h.0 in
    let same : p.entry.class ≡ at = some_same (sym there ∙ given) in
    let listed : Contains solved_classes at = (n, slice_get_within solved_classes n at given, get_or_from_slice_get solved_classes n at at given) in
    record { target = (same, listed, subst (Reaches carries from) same (IsRoute-reaches from p h.1)); route = h.1 }
