-- A piece that is its whole operation, by one form for all kinds of machines.
use Rattle.std.proofs.Common.{◌≡◌, ◌≢◌, ℕ, ◌+◌, inl, inr, ◌<◌, ◌≤◌, Bool, true, false, not, List, [], ◌∷◌, ℤ, pos, ◌*ℤ◌, length, get_or, map, All, MatchBool, refl, sym, ap, ap₂, subst, subst₂, ◌∙◌, arith}
use Rattle.std.proofs.lemmas.List.Elements.{All-head, All-filter}
use Rattle.std.proofs.lemmas.Bool.{cases_lt, false≢true}
use Rattle.std.proofs.lemmas.List.{get_or_default}
use Rattle.std.specs.Prelude.{IsTrue, ◌↔◌, ◌==◌, ◌&&◌}
use Rattle.msp_class.specs.declared.class.Env.{Env}
use Rattle.msp_class.specs.declared.environments.EnvKind.{EnvKind}
use Rattle.msp_class.specs.declared.environments.EnvKind.TheVariants.{Identical, Uniform, Unrelated}
use Rattle.msp_class.specs.Env.{kind_of}
use Rattle.msp_instance.specs.declared.Instance.{Instance}
use Rattle.msp_instance.specs.declared.Job.{Job}
use Rattle.msp_instance.specs.declared.Need.{Need}
use Rattle.msp_instance.specs.Instance.{no_job, job_at, need_at}
use Rattle.msp_instance.specs.Conditions.{HasShape, Inner, LiesWithin}
use Rattle.msp_pieces.specs.declared.Piece.{Piece}
use Rattle.msp_pieces.specs.Feasible.{HasPlace, HasOperation, MayRun, IsWholeWork, total, work_of, whole_work}
use Rattle.msp_schedule.specs.Breaks.{pieces_among, IsLeast, IsLeastOperation}
use Rattle.msp_schedule.specs.Works.{GetsWorkAmong, LacksWorkAmong, IsWorked, need_of, measured_by}
use Rattle.msp_pieces.specs.Within.{greatest_scaled, AreSmallTimes}

inside_by : (k : EnvKind) (e : Env) (i : Instance) (p : Piece) → HasShape k e i.machines (job_at i p.job).needs
    → HasOperation k i p.job p.op → MayRun k i p.job p.op p.machine → need_of k p < length (job_at i p.job).needs
inside_by Identical e i p shape op may = omega (arith, shape.0, op)
inside_by Uniform e i p shape op may = omega (arith, shape.0, op)
inside_by Unrelated e i p shape op may = omega (arith, shape.0, may)
inside_by _ e i p shape op may = op.0

-- the need of a piece is there
pub need_inside : (i : Instance) (p : Piece) → Inner i → HasPlace i p → need_of (kind_of i.class.env) p < length (job_at i p.job).needs
need_inside i p inner h = inside_by (kind_of i.class.env) i.class.env i p (inner.conditions.jobs p.job no_job h.job).needs.shape h.operation h.machine

whole_by : (k : EnvKind) (i : Instance) (unit : ℤ) (p : Piece) → IsWholeWork k i unit p → measured_by k i p ≡ unit *ℤ pos (need_at i p.job (need_of k p)).time
whole_by Identical i unit p h = h
whole_by _ i unit p h = h

by_whole : (k : EnvKind) (i : Instance) (unit : ℤ) (p : Piece) → measured_by k i p ≡ unit *ℤ pos (need_at i p.job (need_of k p)).time → IsWholeWork k i unit p
by_whole Identical i unit p h = h
by_whole _ i unit p h = h

pub is_whole : (i : Instance) (unit : ℤ) (p : Piece)
    → IsWholeWork (kind_of i.class.env) i unit p → measured_by (kind_of i.class.env) i p ≡ unit *ℤ pos (need_at i p.job (need_of (kind_of i.class.env) p)).time
is_whole i = whole_by (kind_of i.class.env) i

pub whole_is : (i : Instance) (unit : ℤ) (p : Piece)
    → measured_by (kind_of i.class.env) i p ≡ unit *ℤ pos (need_at i p.job (need_of (kind_of i.class.env) p)).time → IsWholeWork (kind_of i.class.env) i unit p
whole_is i = by_whole (kind_of i.class.env) i

pub small_time : (i : Instance) (unit u : ℤ) (j o at t : ℕ) → u ≡ unit
    → at ≡ o → t ≡ (need_at i j at).time → AreSmallTimes i unit → j < length i.jobs → o < length (job_at i j).needs → LiesWithin greatest_scaled (u *ℤ pos t)
small_time i unit u j o at t eu ea et h inside need =
    subst₂ (λ x y. LiesWithin greatest_scaled (x *ℤ pos y)) (sym eu) (sym (et ∙ ap (λ k. (need_at i j k).time) ea)) (h j o inside need)

pub whole_if : (i : Instance) (unit : ℤ) (p : Piece) (m : ℤ) (at t : ℕ) (takes : Bool)
    → m ≡ measured_by (kind_of i.class.env) i p → at ≡ need_of (kind_of i.class.env) p → t ≡ (need_at i p.job at).time →
    IsTrue takes ↔ (m ≡ unit *ℤ pos t) → IsTrue takes ↔ IsWholeWork (kind_of i.class.env) i unit p
whole_if i unit p m at t takes em ea et (to, from) =
    (λ h. whole_is i unit p (sym em ∙ to h ∙ time), λ h. from (em ∙ is_whole i unit p h ∙ sym time))
  where
    time : unit *ℤ pos t ≡ unit *ℤ pos (need_at i p.job (need_of (kind_of i.class.env) p)).time
    time = ap (λ k. unit *ℤ pos k) (et ∙ ap (λ k. (need_at i p.job k).time) ea)

-- the same at the numbers as they are passed
pub whole_if-passed : (i : Instance) (unit u : ℤ) (p : Piece) (m n : ℤ) (at t : ℕ) (takes : Bool)
    → u ≡ unit → n ≡ m → m ≡ measured_by (kind_of i.class.env) i p → at ≡ need_of (kind_of i.class.env) p → t ≡ (need_at i p.job at).time →
    IsTrue takes ↔ (n ≡ u *ℤ pos t) → IsTrue takes ↔ IsWholeWork (kind_of i.class.env) i unit p
whole_if-passed i unit u p m n at t takes eu en em ea et h =
    whole_if i unit p m at t takes em ea et (subst₂ (λ x y. IsTrue takes ↔ (x ≡ y *ℤ pos t)) en eu h)

-- the sole piece of an operation is one of the pieces
pub sole_has : (P : Piece → Type 0) (xs : List Piece) (j o : ℕ) (p : Piece) → pieces_among xs j o ≡ p ∷ [] → All P xs → P p
sole_has P xs j o p e h = All-head P p [] (subst (All P) e (All-filter (λ q. (q.job == j) && (q.op == o)) P xs h))

-- an operation beyond the needs has no work to do
beyond_by : (k : EnvKind) (e : Env) (i : Instance) (j o : ℕ) → 1 ≤ i.machines → HasShape k e i.machines (job_at i j).needs → HasOperation k i j o → o < length (job_at i j).needs
beyond_by Identical e i j o m shape op = omega (arith, shape.0, op)
beyond_by Uniform e i j o m shape op = omega (arith, shape.0, op)
beyond_by Unrelated e i j o m shape op = omega (arith, shape.0, op, m)
beyond_by _ e i j o m shape op = op.0

pub operation_inside : (i : Instance) (j o : ℕ) → Inner i → j < length i.jobs → HasOperation (kind_of i.class.env) i j o → o < length (job_at i j).needs
operation_inside i j o inner inside op =
    beyond_by (kind_of i.class.env) i.class.env i j o inner.conditions.machines.0 (inner.conditions.jobs j no_job inside).needs.shape op

-- how much work an operation is
whole_work_by : (k : EnvKind) (i : Instance) (j o : ℕ) → k ≢ Unrelated → whole_work k i j o ≡ (need_at i j o).time
whole_work_by Unrelated i j o n = absurd (n refl)
whole_work_by _ i j o n = refl

-- what a cut operation gets, and a whole one
abbrev Cut : Instance → ℤ → List Piece → ℕ → ℕ → Type 0
Cut i unit xs j o = total (map (work_of (kind_of i.class.env) i) (pieces_among xs j o)) ≡ unit *ℤ pos (whole_work (kind_of i.class.env) i j o)

abbrev Whole : Instance → ℤ → List Piece → ℕ → ℕ → Type 0
Whole i unit xs j o = (p : Piece) × (pieces_among xs j o ≡ p ∷ []) × IsWholeWork (kind_of i.class.env) i unit p

pub gets_cut : (i : Instance) (unit u : ℤ) (xs : List Piece) (j o : ℕ) (sum n : ℤ) (t : ℕ) (takes : Bool)
    → i.class.cut ≡ true → kind_of i.class.env ≢ Unrelated → u ≡ unit → n ≡ sum → t ≡ (need_at i j o).time →
    sum ≡ total (map (work_of (kind_of i.class.env) i) (pieces_among xs j o)) → IsTrue takes ↔ (n ≡ u *ℤ pos t) → IsTrue takes ↔ GetsWorkAmong i unit xs j o
gets_cut i unit u xs j o sum n t takes cut other eu en et es h =
    subst (λ b. IsTrue takes ↔ MatchBool b (Cut i unit xs j o) (Whole i unit xs j o)) (sym cut)
    (subst₂ (λ x y. IsTrue takes ↔ (x ≡ y)) (en ∙ es) (ap₂ (λ x k. x *ℤ pos k) eu (et ∙ sym (whole_work_by (kind_of i.class.env) i j o other))) h)

pub gets_whole : (i : Instance) (unit : ℤ) (xs : List Piece) (j o : ℕ) (p : Piece) (whole : Bool) → i.class.cut ≡ false
    → pieces_among xs j o ≡ p ∷ [] → IsTrue whole ↔ IsWholeWork (kind_of i.class.env) i unit p → IsTrue whole ↔ GetsWorkAmong i unit xs j o
gets_whole i unit xs j o p whole cut sole (to, from) =
    subst (λ b. IsTrue whole ↔ MatchBool b (Cut i unit xs j o) (Whole i unit xs j o)) (sym cut)
    (λ h. (p, sole, to h), λ w. from (subst (IsWholeWork (kind_of i.class.env) i unit) (ap (λ l. get_or l 0 p) (sym w.1 ∙ sole)) w.2))

-- ---- the first operation that lacks work
pub not_lacking : (i : Instance) (u : ℤ) (xs : List Piece) (j o : ℕ) → IsWorked i u xs j o → ¬ LacksWorkAmong i u xs j o
not_lacking i u xs j o h (op, none) = none (h op)

pub lacks_first : (i : Instance) (unit u : ℤ) (xs : List Piece) (j ops o : ℕ)
    → u ≡ unit → o < ops → LacksWorkAmong i u xs j o → ((q : ℕ) → q < o → IsWorked i u xs j q) → IsLeast ops (λ q. LacksWorkAmong i unit xs j q) o
lacks_first i unit u xs j ops o e inside lacks before =
    subst (λ v. IsLeast ops (λ q. LacksWorkAmong i v xs j q) o) e (record { inside = inside; holds = lacks; least = λ q below. not_lacking i u xs j q (before q below) })

pub all_worked : (i : Instance) (u : ℤ) (xs : List Piece) (j ops : ℕ)
    → Inner i → j < length i.jobs → ops ≡ length (job_at i j).needs → ((q : ℕ) → q < ops → IsWorked i u xs j q) → (q : ℕ) → IsWorked i u xs j q
all_worked i u xs j ops inner inside es h q op =
    h q (subst (λ n. q < n) (sym es) (operation_inside i j q inner inside op)) op

pub worked_next : (i : Instance) (u v : ℤ) (xs : List Piece) (job ops : ℕ) → v ≡ u → Inner i → job < length i.jobs → ops ≡ length (job_at i job).needs
    → ((q : ℕ) → q < ops → IsWorked i v xs job q) → ((j o : ℕ) → j < job → IsWorked i u xs j o) → (j o : ℕ) → j < job + 1 → IsWorked i u xs j o
worked_next i u v xs job ops e inner inside es own before j o below = elim (cases_lt j job) [
  | inl less ↦ before j o less
  | inr more ↦ subst (λ k. IsWorked i u xs k o) (omega (arith, below, more)) (all_worked i u xs job ops inner inside es (subst (λ x. (q : ℕ) → q < ops → IsWorked i x xs job q) e own) o)
]

pub lacks_least : (i : Instance) (unit u v : ℤ) (xs : List Piece) (job ops o : ℕ) → u ≡ unit → v ≡ u → job < length i.jobs
    → IsLeast ops (λ q. LacksWorkAmong i v xs job q) o → ((j q : ℕ) → j < job → IsWorked i u xs j q) → IsLeastOperation i (LacksWorkAmong i unit xs) job o
lacks_least i unit u v xs job ops o e f inside least before = subst (λ x. IsLeastOperation i (LacksWorkAmong i x xs) job o) e (record {
  inside = inside;
  holds = subst (λ x. LacksWorkAmong i x xs job o) f least.holds;
  job = λ k q below. not_lacking i u xs k q (before k q below);
  operation = λ q below. subst (λ x. ¬ LacksWorkAmong i x xs job q) f (least.least q below);
})

-- what the test of an operation says, at the list and the kind as they are passed, and what the test of its work says
pub has_work : (i : Instance) (jobs : List Job) (needs : List Need) (k : EnvKind) (j o : ℕ) (d : Job) (has : Bool)
    → jobs ≡ i.jobs → needs ≡ (get_or jobs j d).needs → k ≡ kind_of i.class.env → j < length i.jobs →
    ((x : Instance) (y : ℕ) → needs ≡ (job_at x y).needs → IsTrue has ↔ HasOperation k x y o) → IsTrue has ↔ HasOperation (kind_of i.class.env) i j o
has_work i jobs needs k j o d has ej en ek inside h = subst (λ x. IsTrue has ↔ HasOperation x i j o) ek
    (h i j (en ∙ ap (λ xs. (get_or xs j d).needs) ej ∙ ap (λ x. x.needs) (sym (get_or_default i.jobs j no_job d inside))))

pub no_work : {A : Type 0} (has : Bool) → has ≡ false → IsTrue has → A
no_work has e h = absurd (false≢true (sym e ∙ h))

pub lacks_when : (i : Instance) (unit u : ℤ) (xs : List Piece) (j o : ℕ) (gets : Bool) → u ≡ unit → HasOperation (kind_of i.class.env) i j o
    → IsTrue gets ↔ GetsWorkAmong i u xs j o → not gets ≡ true → LacksWorkAmong i unit xs j o
lacks_when i unit u xs j o true e op h t = no_work false refl t
lacks_when i unit u xs j o false e op h t = subst (λ v. LacksWorkAmong i v xs j o) e (op, λ g. no_work false refl (h.1 g))

measured_is : (k : EnvKind) (i : Instance) (p : Piece) → k ≢ Unrelated → measured_by k i p ≡ work_of k i p
measured_is Unrelated i p n = absurd (n refl)
measured_is _ i p n = refl

pub work_is : (i : Instance) (p : Piece) (w : ℤ) → kind_of i.class.env ≢ Unrelated → w ≡ measured_by (kind_of i.class.env) i p → w ≡ work_of (kind_of i.class.env) i p
work_is i p w n e = e ∙ measured_is (kind_of i.class.env) i p n
