-- All that feasibility reads of an instance, and work in one form for every kind of environment.
use Rattle.std.proofs.Common.{◌≡◌, ◌≢◌, ℕ, zero, suc, ◌*◌, ◌/◌, ◌<◌, ◌≤◌, Bool, true, false, not, List, [], ◌∷◌, length, get_or, map, filter, fold, All, AllPairs, Any, Contains}
use Rattle.std.proofs.Common.{MatchBool, ℤ, pos, ◌*ℤ◌, ◌≤ℤ◌, ◌<ℤ◌, slice_index_or, refl, sym, ap, ap₂, subst, ◌∙◌, arith}
use Rattle.std.specs.Prelude.{◌==◌, ◌&&◌}
use Rattle.std.specs.Int.{◌∣◌}
use Rattle.std.proofs.Math.Nat.{mul_comm, one-mul, mul-pos, mul-div_cancel, dvd-mul_right, pos_of_dvd_of_pos}
use Rattle.std.proofs.lemmas.Bool.{eqb-true}
use Rattle.std.proofs.lemmas.Int.{ints}
use Rattle.std.proofs.lemmas.List.Elements.{All-head, All-tail, All-filter, filter_passes}
use Rattle.msp_class.specs.declared.environments.EnvKind.{EnvKind}
use Rattle.msp_class.specs.declared.environments.EnvKind.TheVariants.{Identical, Uniform, Unrelated, FlowShop, JobShop}
use Rattle.msp_class.specs.Env.{kind_of, is_mirror_kind}
use Rattle.std.proofs.lemmas.List.{get_or_default, get_or-map}
use Rattle.msp_class.proofs.Sums.{Contains-from_filter}
use Rattle.msp_class.proofs.IntegerRing.{+ℤ_idl, natural_some, pos-same, *ℤ-one, *ℤ_assoc, *ℤ_comm, *ℤ-cancel_same}
use Rattle.msp_instance.specs.declared.Need.{Need}
use Rattle.msp_instance.specs.declared.Arc.{Arc}
use Rattle.msp_instance.specs.declared.Job.{Job}
use Rattle.msp_instance.specs.declared.Instance.{Instance}
use Rattle.msp_instance.specs.Instance.{no_need, no_job, job_at, need_at}
use Rattle.msp_instance.specs.Conditions.{Limits, MeetsConditions, HasShape, HasTimes, HasRelease, least_time, greatest_time}
use Rattle.msp_pieces.proofs.feasible.OneMachine.{both_true}
use Rattle.msp_pieces.specs.declared.Piece.{Piece}
use Rattle.msp_pieces.specs.declared.Schedule.{Schedule}
use Rattle.msp_pieces.specs.Piece.{length_of, IsBefore, IsApart}
use Rattle.msp_pieces.specs.Feasible.{Feasible, HasOperation, MayRun, FollowsRoute, IsWholeWork, product_of_times, total, whole_work, work_of}

-- ---- frames
-- what feasibility reads: `rate` is the work that a job gets in a moment on a machine, and `want` what the operation needs of it
pub record Frame : Type 1 where
  pub jobs : ℕ
  pub Has : ℕ → ℕ → Type 0
  pub May : ℕ → ℕ → ℕ → Type 0
  pub rate : ℕ → ℕ → ℕ
  pub want : ℕ → ℕ → ℕ
  pub head : ℕ → ℕ
  pub arcs : List Arc
  pub cut : Bool
  pub routed : Bool

-- on unrelated machines the rate is the product of the job's times on the other machines
abbrev pub rate_on : EnvKind → Instance → ℕ → ℕ → ℕ
rate_on Uniform i j m = slice_index_or i.speeds m 0
rate_on Unrelated i j m = product_of_times (job_at i j).needs / (need_at i j m).time
rate_on _ i j m = 1

abbrev pub frame_by : EnvKind → Instance → Frame
frame_by k i = record {
  jobs = length i.jobs;
  Has = HasOperation k i;
  May = MayRun k i;
  rate = rate_on k i;
  want = whole_work k i;
  head = λ j. (job_at i j).release;
  arcs = i.arcs;
  cut = i.class.cut;
  routed = not (is_mirror_kind k);
}

abbrev pub frame_of : Instance → Frame
frame_of i = frame_by (kind_of i.class.env) i

-- a job of a list in which each job is changed by itself
pub job_at-map : (i j : Instance) (f : Job → Job) → j.jobs ≡ map f i.jobs → (k : ℕ) → k < length i.jobs → job_at j k ≡ f (job_at i k)
job_at-map i j f e k l = ap (λ js. slice_index_or js k no_job) e ∙ get_or-map f i.jobs k no_job no_job l

-- ---- feasible over a frame
-- the piece lasts, from moment 0 on
abbrev pub Lasts : Piece → Type 0
Lasts p = (pos 0 ≤ℤ p.from) × (p.from <ℤ p.to)

pub record Stands (f : Frame) (p : Piece) : Type 0 where
  pub job : p.job < f.jobs
  pub operation : f.Has p.job p.op
  pub machine : f.May p.job p.op p.machine

abbrev pub of_operation : List Piece → ℕ → ℕ → List Piece
of_operation ps j o = filter (λ p. (p.job == j) && (p.op == o)) ps

-- what a piece adds to its operation
abbrev pub part : Frame → Piece → ℤ
part f p = length_of p *ℤ pos (f.rate p.job p.machine)

-- one piece unless it may be cut, and in all the work that the operation wants
pub record Gets (f : Frame) (unit : ℤ) (ps : List Piece) (j o : ℕ) : Type 0 where
  pub one : f.cut ≡ false → (p : Piece) × (of_operation ps j o ≡ p ∷ [])
  pub sum : total (map (part f) (of_operation ps j o)) ≡ unit *ℤ pos (f.want j o)

pub record Fits (f : Frame) (unit : ℤ) (ps : List Piece) : Type 0 where
  pub unit_from : pos 1 ≤ℤ unit
  pub span : All Lasts ps
  pub place : All (Stands f) ps
  pub machine : AllPairs (λ p q. p.machine ≡ q.machine → IsApart p q) ps
  pub job : AllPairs (λ p q. p.job ≡ q.job → IsApart p q) ps
  pub release : All (λ p. (unit *ℤ pos (f.head p.job)) ≤ℤ p.from) ps
  pub arc : All (λ a. All (λ p. All (λ q. p.job ≡ a.before → q.job ≡ a.after → IsBefore p q) ps) ps) f.arcs
  pub route : f.routed ≡ true → All (λ p. All (λ q. p.job ≡ q.job → p.op < q.op → IsBefore p q) ps) ps
  pub work : (j o : ℕ) → j < f.jobs → f.Has j o → Gets f unit ps j o

-- ---- unrelated machines
-- the one shape that work in one form asks for: on unrelated machines a need for each machine, each with a time of at least 1
abbrev pub HasTimePerMachine : ℕ → Job → Type 0
HasTimePerMachine m j = (length j.needs ≡ m) × All (λ n. 1 ≤ n.time) j.needs

pub record IsShaped (i : Instance) : Type 0 where
  pub unrelated : kind_of i.class.env ≡ Unrelated → All (HasTimePerMachine i.machines) i.jobs

times_from : (k : EnvKind) (l : Limits) (i : Instance) (j : Job) → k ≡ Unrelated
    → HasShape k i.class.env i.machines j.needs → HasTimes (least_time k i.class.times) (greatest_time l i.class.times) j.needs → HasTimePerMachine i.machines j
times_from Unrelated l i j e s t = (s.0, λ k d h. (t k d h).0)
times_from _ l i j e s t = absurd (cc)

pub IsShaped-from_conditions : (l : Limits) (i : Instance) → MeetsConditions l i → IsShaped i
IsShaped-from_conditions l i h = record { unrelated = λ e k d b. let n = (h.jobs k d b).needs in times_from (kind_of i.class.env) l i (get_or i.jobs k d) e n.shape n.times }

pub IsShaped-from_identical : (i : Instance) → kind_of i.class.env ≡ Identical → IsShaped i
IsShaped-from_identical i kind = record { unrelated = λ e. absurd (let never : Identical ≡ Unrelated = sym kind ∙ e in cc) }

-- a factor goes out of a product of times
fold_times : (a : ℕ) (ns : List Need) → fold (λ b n. b * n.time) a ns ≡ a * product_of_times ns
fold_times a [] = omega arith
fold_times a (n ∷ ns) = fold_times (a * n.time) ns ∙ omega arith ∙ ap (λ x. a * x) (sym (fold_times (1 * n.time) ns))

pub product_of_times-cons : (n : Need) (ns : List Need) → product_of_times (n ∷ ns) ≡ n.time * product_of_times ns
product_of_times-cons n ns = fold_times (1 * n.time) ns ∙ ap (λ x. x * product_of_times ns) (one-mul n.time)

pub product_of_times-positive : (ns : List Need) → All (λ n. 1 ≤ n.time) ns → 1 ≤ product_of_times ns
product_of_times-positive [] h = omega arith
product_of_times-positive (n ∷ ns) h =
    subst (λ x. 1 ≤ x) (sym (product_of_times-cons n ns)) (mul-pos (All-head (λ n. 1 ≤ n.time) n ns h) (product_of_times-positive ns (All-tail (λ n. 1 ≤ n.time) n ns h)))

time_divides : (ns : List Need) (m : ℕ) → m < length ns → (u : ℕ) × (product_of_times ns ≡ u * (slice_index_or ns m no_need).time)
time_divides [] m l = absurd (omega arith)
time_divides (n ∷ ns) zero l = (product_of_times ns, product_of_times-cons n ns ∙ omega arith)
time_divides (n ∷ ns) (suc m) l =
    let (u, e) = time_divides ns m (omega arith) in
    (n.time * u, product_of_times-cons n ns ∙ ap (λ x. n.time * x) e ∙ omega arith)

quotient : (q t : ℕ) → 1 ≤ t → (u : ℕ) × (q ≡ u * t) → q / t * t ≡ q
quotient q t h (u, e) = ap (λ x. x / t * t) e ∙ ap (λ x. x * t) (mul-div_cancel u h) ∙ sym e

-- the rate on an unrelated machine, times the time there, is what the job wants; and it is at least 1
pub rate_times : (i : Instance) (j m : ℕ) → All (HasTimePerMachine i.machines) i.jobs
    → j < length i.jobs → m < i.machines → rate_on Unrelated i j m * (need_at i j m).time ≡ product_of_times (job_at i j).needs
rate_times i j m own inside on = let h = own j no_job inside in
    let short : m < length (job_at i j).needs = omega (arith, h.0) in
    quotient _ _ (h.1 m no_need short) (time_divides (job_at i j).needs m short)

pub rate_positive : (i : Instance) (j m : ℕ) → All (HasTimePerMachine i.machines) i.jobs → j < length i.jobs → m < i.machines → 1 ≤ rate_on Unrelated i j m
rate_positive i j m own inside on =
    let h = own j no_job inside in
    pos_of_dvd_of_pos (subst (λ q. rate_on Unrelated i j m ∣ q) (rate_times i j m own inside on) (dvd-mul_right (rate_on Unrelated i j m) (need_at i j m).time))
    (product_of_times-positive (job_at i j).needs h.1)

-- ---- feasible, and fitting the frame
part_is : (k : EnvKind) (i : Instance) (p : Piece) → work_of k i p ≡ length_of p *ℤ pos (rate_on k i p.job p.machine)
part_is Uniform i p = refl
part_is Unrelated i p = refl
part_is _ i p = sym (*ℤ-one (length_of p))

-- a piece of the whole time is a piece of the whole work, and the other way round
whole_to : (k : EnvKind) (i : Instance) → (k ≡ Unrelated → All (HasTimePerMachine i.machines) i.jobs) → (unit : ℤ) (p : Piece) → p.job < length i.jobs
    → MayRun k i p.job p.op p.machine → IsWholeWork k i unit p → length_of p *ℤ pos (rate_on k i p.job p.machine) ≡ unit *ℤ pos (whole_work k i p.job p.op)
whole_to Uniform i own unit p inside on h = h
whole_to Unrelated i own unit p inside on h = grown (length_of p) unit _ _ _ (rate_times i p.job p.machine (own refl) inside on) h
  where
    grown : (x d : ℤ) (r t q : ℕ) → r * t ≡ q → x ≡ d *ℤ pos t → x *ℤ pos r ≡ d *ℤ pos q
    grown x d r t q e h = ap (λ y. y *ℤ pos r) h ∙ *ℤ_assoc d (pos t) (pos r) ∙ ap (λ n. d *ℤ pos n) (mul_comm t r ∙ e)
whole_to _ i own unit p inside on h = *ℤ-one (length_of p) ∙ h

whole_from : (k : EnvKind) (i : Instance) → (k ≡ Unrelated → All (HasTimePerMachine i.machines) i.jobs) → (unit : ℤ) (p : Piece) → p.job < length i.jobs
    → MayRun k i p.job p.op p.machine → length_of p *ℤ pos (rate_on k i p.job p.machine) ≡ unit *ℤ pos (whole_work k i p.job p.op) → IsWholeWork k i unit p
whole_from Uniform i own unit p inside on h = h
whole_from Unrelated i own unit p inside on h = shrunk (length_of p) unit _ _ _ (rate_positive i p.job p.machine (own refl) inside on) (rate_times i p.job p.machine (own refl) inside on) h
  where
    shrunk : (x d : ℤ) (r t q : ℕ) → 1 ≤ r → r * t ≡ q → x *ℤ pos r ≡ d *ℤ pos q → x ≡ d *ℤ pos t
    shrunk x d r t q some e h = *ℤ-cancel_same r some (*ℤ_comm (pos r) x ∙ h ∙ ap (λ n. d *ℤ pos n) (sym e ∙ mul_comm r t) ∙ sym (*ℤ_assoc d (pos t) (pos r)) ∙ *ℤ_comm (d *ℤ pos t) (pos r))
whole_from _ i own unit p inside on h = sym (*ℤ-one (length_of p)) ∙ h

pub map-same : {X Y : Type 0} (f g : X → Y) (xs : List X) → All (λ x. f x ≡ g x) xs → map f xs ≡ map g xs
map-same f g [] h = refl
map-same f g (x ∷ xs) h = ap₂ (λ y ys. y ∷ ys) (All-head (λ x. f x ≡ g x) x xs h) (map-same f g xs (All-tail (λ x. f x ≡ g x) x xs h))

-- the pieces of an operation bear its numbers
pub of_operation-named : (ps : List Piece) (j o : ℕ) → All (λ p. (p.job ≡ j) × (p.op ≡ o)) (of_operation ps j o)
of_operation-named ps j o a d l = let b = both_true _ _ (filter_passes (λ p. (p.job == j) && (p.op == o)) ps a d l) in (eqb-true _ _ b.0, eqb-true _ _ b.1)

-- what holds of all pieces holds of the one of an operation
pub of_one : (P : Piece → Type 0) (ps : List Piece) (j o : ℕ) (p : Piece) → of_operation ps j o ≡ p ∷ [] → All P ps → P p
of_one P ps j o p e h = All-head P p [] (subst (All P) e (All-filter (λ q. (q.job == j) && (q.op == o)) P ps h))

pub named_one : (ps : List Piece) (j o : ℕ) (p : Piece) → of_operation ps j o ≡ p ∷ [] → (p.job ≡ j) × (p.op ≡ o)
named_one ps j o p e = let P : Piece → Type 0 = λ q. (q.job ≡ j) × (q.op ≡ o) in All-head P p [] (subst (All P) e (of_operation-named ps j o))

module _ (k : EnvKind) (i : Instance) (own : k ≡ Unrelated → All (HasTimePerMachine i.machines) i.jobs)
    (unit : ℤ) (ps : List Piece) (stand : All (λ p. (p.job < length i.jobs) × MayRun k i p.job p.op p.machine) ps) (j o : ℕ) where
  abbrev mine : List Piece
  mine = of_operation ps j o

  abbrev Work : Bool → Type 0
  Work cut = MatchBool cut (total (map (work_of k i) mine) ≡ unit *ℤ pos (whole_work k i j o)) ((p : Piece) × (mine ≡ p ∷ []) × IsWholeWork k i unit p)

  abbrev Sum : Type 0
  Sum = total (map (part (frame_by k i)) mine) ≡ unit *ℤ pos (whole_work k i j o)

  same_parts : map (work_of k i) mine ≡ map (part (frame_by k i)) mine
  same_parts = map-same _ _ mine (λ a d l. part_is k i (get_or mine a d))

  wants : (p : Piece) → mine ≡ p ∷ [] → unit *ℤ pos (whole_work k i p.job p.op) ≡ unit *ℤ pos (whole_work k i j o)
  wants p e = let n = named_one ps j o p e in ap₂ (λ a b. unit *ℤ pos (whole_work k i a b)) n.0 n.1

  one_part : (p : Piece) → mine ≡ p ∷ [] → total (map (part (frame_by k i)) mine) ≡ length_of p *ℤ pos (rate_on k i p.job p.machine)
  one_part p e = ap (λ l. total (map (part (frame_by k i)) l)) e ∙ +ℤ_idl _

  stands_one : (p : Piece) → mine ≡ p ∷ [] → (p.job < length i.jobs) × MayRun k i p.job p.op p.machine
  stands_one p e = of_one (λ q. (q.job < length i.jobs) × MayRun k i q.job q.op q.machine) ps j o p e stand

  gets_to : (cut : Bool) → Work cut → (cut ≡ false → (p : Piece) × (mine ≡ p ∷ [])) × Sum
  gets_to true h = ((λ e. absurd (cc)), ap total (sym same_parts) ∙ h)
  gets_to false (p, e, w) = let s = stands_one p e in ((λ _. (p, e)), one_part p e ∙ whole_to k i own unit p s.0 s.1 w ∙ wants p e)

  gets_from : (cut : Bool) → (cut ≡ false → (p : Piece) × (mine ≡ p ∷ [])) → Sum → Work cut
  gets_from true one sum = ap total same_parts ∙ sum
  gets_from false one sum = let (p, e) = one refl in let s = stands_one p e in (p, e, whole_from k i own unit p s.0 s.1 (sym (one_part p e) ∙ sum ∙ sym (wants p e)))

abbrev InOrder : List Piece → Type 0
InOrder ps = All (λ p. All (λ q. p.job ≡ q.job → p.op < q.op → IsBefore p q) ps) ps

route_to : (k : EnvKind) (ps : List Piece) → FollowsRoute k ps → not (is_mirror_kind k) ≡ true → InOrder ps
route_to FlowShop ps h e = h
route_to JobShop ps h e = h
route_to _ ps h e = absurd (cc)

route_from : (k : EnvKind) (ps : List Piece) → (not (is_mirror_kind k) ≡ true → InOrder ps) → FollowsRoute k ps
route_from FlowShop ps h = h refl
route_from JobShop ps h = h refl
route_from _ ps h = tt

pub Fits-from_feasible : (i : Instance) (s : Schedule) → IsShaped i → Feasible i s → Fits (frame_of i) s.unit s.pieces
Fits-from_feasible i s own f = record {
  unit_from = f.unit;
  span = f.span;
  place = λ a d l. let h = f.place a d l in record { job = h.job; operation = h.operation; machine = h.machine };
  machine = f.machine;
  job = f.job;
  route = route_to (kind_of i.class.env) s.pieces f.route;
  release = f.release;
  arc = f.arc;
  work = λ j o l h. let g = gets_to (kind_of i.class.env) i own.unrelated s.unit s.pieces (λ a d b. let p = f.place a d b in (p.job, p.machine)) j o i.class.cut (f.work j o l h) in
      record { one = g.0; sum = g.1 };
}

pub Feasible-from_fits : (i : Instance) (s : Schedule) → IsShaped i → Fits (frame_of i) s.unit s.pieces → Feasible i s
Feasible-from_fits i s own f = record {
  unit = f.unit_from;
  span = f.span;
  place = λ a d l. let h = f.place a d l in record { job = h.job; operation = h.operation; machine = h.machine };
  machine = f.machine;
  job = f.job;
  route = route_from (kind_of i.class.env) s.pieces f.route;
  release = f.release;
  arc = f.arc;
  work = λ j o l h. let g = f.work j o l h in gets_from (kind_of i.class.env) i own.unrelated s.unit s.pieces (λ a d b. let p = f.place a d b in (p.job, p.machine)) j o i.class.cut g.one g.sum;
}

-- ---- each job has a piece
-- some operation of each job wants work
pub record HasWork (f : Frame) : Type 0 where
  pub some : (j : ℕ) → j < f.jobs → (o : ℕ) × f.Has j o × (1 ≤ f.want j o)

shop_work : (needs : List Need) → Any (λ n. 1 ≤ n.time) needs → (o : ℕ) × ((o < length needs) × ((slice_index_or needs o no_need).time ≢ 0)) × (1 ≤ (slice_index_or needs o no_need).time)
shop_work needs (k, x, l, e, p) =
    let is : slice_index_or needs k no_need ≡ x = get_or_default needs k no_need x l ∙ e in
    let some : 1 ≤ (slice_index_or needs k no_need).time = subst (λ n. 1 ≤ n.time) (sym is) p in
    (k, (l, λ z. absurd (omega (arith, z, some))), some)

job_work : (k : EnvKind) (l : Limits) (i : Instance) (j : ℕ) → HasShape k i.class.env i.machines (job_at i j).needs
    → HasTimes (least_time k i.class.times) (greatest_time l i.class.times) (job_at i j).needs → Any (λ n. 1 ≤ n.time) (job_at i j).needs → (o : ℕ) × HasOperation k i j o × (1 ≤ whole_work k i j o)
job_work Identical l i j s t a = (0, refl, (t 0 no_need (omega (arith, s.0))).0)
job_work Uniform l i j s t a = (0, refl, (t 0 no_need (omega (arith, s.0))).0)
job_work Unrelated l i j s t a = (0, refl, product_of_times-positive (job_at i j).needs (λ k d h. (t k d h).0))
job_work _ l i j s t a = shop_work (job_at i j).needs a

pub HasWork-from_conditions : (l : Limits) (i : Instance) → MeetsConditions l i → HasWork (frame_of i)
HasWork-from_conditions l i h = record { some = λ j b. let n = (h.jobs j no_job b).needs in job_work (kind_of i.class.env) l i j n.shape n.times n.some }

-- in a class without release dates all are 0
pub no_heads : (l : Limits) (i : Instance) → i.class.heads ≡ false → MeetsConditions l i → (j : ℕ) → j < length i.jobs → (job_at i j).release ≡ 0
no_heads l i e h j b = subst (λ x. HasRelease l x (job_at i j).release) e (h.jobs j no_job b).release

-- so each job has a piece where a schedule fits
pub piece_of : (f : Frame) (unit : ℤ) (ps : List Piece) → Fits f unit ps → HasWork f → (j : ℕ) → j < f.jobs → (p : Piece) × Contains ps p × (p.job ≡ j)
piece_of f unit ps fits works j l = let (o, h, w) = works.some j l in by o (of_operation ps j o) refl (fits.work j o l h).sum w
  where
    by : (o : ℕ) (qs : List Piece) → of_operation ps j o ≡ qs → total (map (part f) (of_operation ps j o)) ≡ unit *ℤ pos (f.want j o) → 1 ≤ f.want j o → (p : Piece) × Contains ps p × (p.job ≡ j)
    by o [] e sum w = absurd (nothing unit (f.want j o) fits.unit_from w (ap (λ l. total (map (part f) l)) (sym e) ∙ sum))
      where
        nothing : (u : ℤ) (n : ℕ) → pos 1 ≤ℤ u → 1 ≤ n → pos 0 ≡ u *ℤ pos n → ⊥
        nothing u n h k z = let (m, e) = natural_some u (omega (arith, ints)) in
            let some : 1 ≤ m = omega (arith, ints, e) in omega (arith, mul-pos some k, pos-same (z ∙ ap (λ x. x *ℤ pos n) e))
    by o (q ∷ qs) e sum w =
        let found : Contains (of_operation ps j o) q = subst (λ l. Contains l q) (sym e) (0, omega arith, refl) in
        let (c, t) = Contains-from_filter (λ p. (p.job == j) && (p.op == o)) ps q found in
        (q, c, eqb-true _ _ (both_true _ _ t).0)
