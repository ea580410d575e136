-- Schedules in which each job has one piece: what makes them feasible, and within the limits of a schedule.
use Rattle.std.proofs.Common.{◌≡◌, ◌≢◌, ℕ, ◌<◌, ◌≤◌, ◌^◌, false, List, [], ◌∷◌, length, get_or, map, ℤ, pos, ◌*ℤ◌, ◌≤ℤ◌, ◌<ℤ◌, All, AllPairs, Contains, MatchBool, inr, refl, sym, subst, ◌∙◌, arith}
use Rattle.std.proofs.lemmas.Int.{ints}
use Rattle.std.proofs.lemmas.List.{length-map, get_or-map}
use Rattle.std.proofs.lemmas.List.Elements.{All-contains, Contains-get_or}
use Rattle.msp_class.specs.declared.sizes.TheConstants.{MOST_JOBS, GREATEST_MULTIPLE}
use Rattle.msp_class.specs.declared.environments.EnvKind.{EnvKind}
use Rattle.msp_class.specs.declared.environments.EnvKind.TheVariants.{Identical, Uniform, Unrelated}
use Rattle.msp_class.specs.Env.{kind_of}
use Rattle.msp_class.proofs.Sums.{Contains-from_filter, OnceBelow, OnceBelow-distinct, length-OnceBelow}
use Rattle.msp_instance.specs.declared.Instance.{Instance}
use Rattle.msp_instance.specs.Instance.{job_at}
use Rattle.msp_pieces.specs.declared.limits.TheConstants.{GREATEST_CARRIED_UNIT}
use Rattle.msp_pieces.specs.declared.Piece.{Piece}
use Rattle.msp_pieces.specs.declared.Schedule.{Schedule}
use Rattle.msp_pieces.specs.Piece.{pieces_of, IsApart, IsBefore}
use Rattle.msp_pieces.specs.Feasible.{Feasible, HasPlace, HasOperation, MayRun, FollowsRoute, GetsWork, IsWholeWork, total, whole_work, work_of}
use Rattle.msp_pieces.specs.Within.{IsMoment, Within}
use Rattle.msp_pieces.proofs.feasible.OneMachine.{pieces_of-job}
use Rattle.msp_pieces.proofs.lists.OnceEach.{OnceBelow-one}
use Rattle.msp_pieces.proofs.changes.Moves.{Contains-map}

-- the jobs have the operation 0 alone, which any machine may run
pub record HasOneOperation (i : Instance) : Type 0 where
  pub first : (j o : ℕ) → HasOperation (kind_of i.class.env) i j o → o ≡ 0
  pub operation : (j : ℕ) → HasOperation (kind_of i.class.env) i j 0
  pub may_run : (j m : ℕ) → m < i.machines → MayRun (kind_of i.class.env) i j 0 m
  pub route : (ps : List Piece) → FollowsRoute (kind_of i.class.env) ps

HasOneOperation-from_kind : (i : Instance) (k : EnvKind) → kind_of i.class.env ≡ k → ((j o : ℕ) → HasOperation k i j o → o ≡ 0) → ((j : ℕ) → HasOperation k i j 0) →
    ((j m : ℕ) → m < i.machines → MayRun k i j 0 m) → ((ps : List Piece) → FollowsRoute k ps) → HasOneOperation i
HasOneOperation-from_kind i k kind first operation may_run route = record {
  first = λ j o op. first j o (subst (λ x. HasOperation x i j o) kind op);
  operation = λ j. subst (λ x. HasOperation x i j 0) (sym kind) (operation j);
  may_run = λ j m l. subst (λ x. MayRun x i j 0 m) (sym kind) (may_run j m l);
  route = λ ps. subst (λ x. FollowsRoute x ps) (sym kind) (route ps);
}

pub HasOneOperation-identical : (i : Instance) → kind_of i.class.env ≡ Identical → HasOneOperation i
HasOneOperation-identical i kind = HasOneOperation-from_kind i Identical kind (λ j o e. e) (λ j. refl) (λ j m l. l) (λ ps. tt)

pub HasOneOperation-uniform : (i : Instance) → kind_of i.class.env ≡ Uniform → HasOneOperation i
HasOneOperation-uniform i kind = HasOneOperation-from_kind i Uniform kind (λ j o e. e) (λ j. refl) (λ j m l. l) (λ ps. tt)

-- the instance has machines that may run any job, whole
pub record IsUncut (i : Instance) : Type 0 where
  pub cut : i.class.cut ≡ false
  pub few : length i.jobs ≤ MOST_JOBS
  pub first : (j o : ℕ) → HasOperation (kind_of i.class.env) i j o → o ≡ 0
  pub operation : (j : ℕ) → HasOperation (kind_of i.class.env) i j 0
  pub may_run : (j m : ℕ) → m < i.machines → MayRun (kind_of i.class.env) i j 0 m
  pub route : (ps : List Piece) → FollowsRoute (kind_of i.class.env) ps

IsUncut-from_one : (i : Instance) → HasOneOperation i → i.class.cut ≡ false → length i.jobs ≤ MOST_JOBS → IsUncut i
IsUncut-from_one i o cut few = record { cut = cut; few = few; first = o.first; operation = o.operation; may_run = o.may_run; route = o.route }

pub IsUncut-identical : (i : Instance) → kind_of i.class.env ≡ Identical → i.class.cut ≡ false → length i.jobs ≤ MOST_JOBS → IsUncut i
IsUncut-identical i kind = IsUncut-from_one i (HasOneOperation-identical i kind)

pub IsUncut-uniform : (i : Instance) → kind_of i.class.env ≡ Uniform → i.class.cut ≡ false → length i.jobs ≤ MOST_JOBS → IsUncut i
IsUncut-uniform i kind = IsUncut-from_one i (HasOneOperation-uniform i kind)

pub IsUncut-unrelated : (i : Instance) → kind_of i.class.env ≡ Unrelated → i.class.cut ≡ false → length i.jobs ≤ MOST_JOBS → IsUncut i
IsUncut-unrelated i kind = IsUncut-from_one i (HasOneOperation-from_kind i Unrelated kind (λ j o e. e) (λ j. refl) (λ j m l. l) (λ ps. tt))

-- The pieces of a schedule that is built end no later: above what the solvers reach, and below GREATEST_MOMENT.
abbrev pub early_end : ℕ
early_end = 10 ^ 25

-- each job has one piece, on a machine of the instance and apart from the others of that machine, from its release date on and whole
pub record AreOneEach (i : Instance) (unit : ℕ) (pieces : List Piece) : Type 0 where
  pub some : 1 ≤ unit
  pub jobs : OnceBelow (length i.jobs) (map (λ p. p.job) pieces)
  pub ops : All (λ p. p.op ≡ 0) pieces
  pub inside : All (λ p. p.machine < i.machines) pieces
  pub span : All (λ p. (pos 0 ≤ℤ p.from) × (p.from <ℤ p.to)) pieces
  pub apart : AllPairs (λ p q. p.machine ≡ q.machine → IsApart p q) pieces
  pub released : All (λ p. (pos unit *ℤ pos (job_at i p.job).release) ≤ℤ p.from) pieces
  pub forward : All (λ a. All (λ p. All (λ q. p.job ≡ a.before → q.job ≡ a.after → IsBefore p q) pieces) pieces) i.arcs
  pub whole : All (IsWholeWork (kind_of i.class.env) i (pos unit)) pieces
  pub ends : All (λ p. p.to ≤ℤ pos early_end) pieces

module _ (i : Instance) (uncut : IsUncut i) (unit : ℕ) (pieces : List Piece) (each : AreOneEach i unit pieces) where
  abbrev n : ℕ
  n = length i.jobs

  abbrev s : Schedule
  s = record { unit = pos unit; pieces = pieces }

  pub one_each_many : length pieces ≡ n
  one_each_many = sym (length-map pieces (λ p. p.job)) ∙ length-OnceBelow each.jobs

  job_inside : All (λ p. p.job < n) pieces
  job_inside k d l = All-contains (λ j. j < n) (map (λ p. p.job) pieces) (get_or pieces k d).job each.jobs.within (Contains-map (λ p. p.job) pieces (get_or pieces k d) (Contains-get_or pieces k d l))

  apart_jobs : AllPairs (λ p q. p.job ≢ q.job) pieces
  apart_jobs a b d l k e =
      let kb : b < length (map (λ p. p.job) pieces) = omega (arith, k, length-map pieces (λ p. p.job)) in
      OnceBelow-distinct each.jobs a b 0 l kb (get_or-map (λ p. p.job) pieces a d 0 (omega (arith, k, l)) ∙ e ∙ sym (get_or-map (λ p. p.job) pieces b d 0 k))

  placed : All (HasPlace i) pieces
  placed k d l = by (get_or pieces k d) (job_inside k d l) (each.ops k d l) (each.inside k d l)
    where
      by : (p : Piece) → p.job < n → p.op ≡ 0 → p.machine < i.machines → HasPlace i p
      by p j o m = record {
        job = j;
        operation = subst (λ x. HasOperation (kind_of i.class.env) i p.job x) (sym o) (uncut.operation p.job);
        machine = subst (λ x. MayRun (kind_of i.class.env) i p.job x p.machine) (sym o) (uncut.may_run p.job p.machine m);
      }

  abbrev Gets : ℕ → Type 0
  Gets o = (j : ℕ) → j < n → GetsWork i s j o

  gets : Gets 0
  gets j l = subst (λ b. MatchBool b (total (map (work_of (kind_of i.class.env) i) (pieces_of s j 0)) ≡ pos unit *ℤ pos (whole_work (kind_of i.class.env) i j 0))
      ((p : Piece) × (pieces_of s j 0 ≡ p ∷ []) × IsWholeWork (kind_of i.class.env) i (pos unit) p)) (sym uncut.cut)
      (let (p, one) = OnceBelow-one (λ p. p.job) pieces each.jobs j l in
      let e = pieces_of-job s j each.ops ∙ one in
      (p, e, All-contains (IsWholeWork (kind_of i.class.env) i (pos unit)) pieces p each.whole (Contains-from_filter _ pieces p (subst (λ xs. Contains xs p) (sym e) (0, omega arith, refl))).0))

  pub one_each_is_feasible : Feasible i s
  one_each_is_feasible = record {
    unit = omega (arith, ints, each.some);
    span = each.span;
    place = placed;
    machine = each.apart;
    job = λ a b d l k e. absurd (apart_jobs a b d l k e);
    release = each.released;
    arc = each.forward;
    route = uncut.route pieces;
    work = λ j o l h. subst Gets (sym (uncut.first j o h)) gets j l;
  }

  pub one_each_is_within : unit ≤ GREATEST_MULTIPLE → (kind_of i.class.env ≡ Unrelated → pos unit ≤ℤ GREATEST_CARRIED_UNIT) → Within i s
  one_each_is_within few scaled = record {
    unit = (omega (arith, ints, each.some), omega (arith, ints, few));
    few = omega (arith, one_each_many, uncut.few);
    moments = λ k d l. by (get_or pieces k d).from (get_or pieces k d).to (each.span k d l) (each.ends k d l);
    scaled = λ u. inr (scaled u);
  }
    where
      by : (x y : ℤ) → (pos 0 ≤ℤ x) × (x <ℤ y) → y ≤ℤ pos early_end → IsMoment x × IsMoment y
      by x y h e = ((h.0, omega (arith, ints, h.1, e)), (omega (arith, ints, h.0, h.1), omega (arith, ints, e)))
