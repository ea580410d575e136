-- Schedules that serve another frame, or another instance, as they are.
use Rattle.std.proofs.Common.{map, subst₂, ◌≡◌, ◌≢◌, ℕ, ◌*◌, ◌/◌, ◌<◌, ◌≤◌, not, true, false, List, length, get_or, All, Contains, ◌⊎◌, inl, ℤ, pos, ◌*ℤ◌, slice_index_or, refl}
use Rattle.std.proofs.Common.{sym, ap, subst, ◌∙◌, arith}
use Rattle.std.proofs.lemmas.List.{map-id, length-map, get_or_default}
use Rattle.std.proofs.lemmas.List.Elements.{All-contains_itself}
use Rattle.msp_class.specs.declared.class.Class.{Class}
use Rattle.msp_class.specs.declared.environments.EnvKind.{EnvKind}
use Rattle.msp_class.specs.declared.environments.EnvKind.TheVariants.{Uniform, Unrelated, OpenShop, FlowShop, JobShop}
use Rattle.msp_class.specs.Env.{kind_of, is_mirror_kind}
use Rattle.msp_class.proofs.IntegerRing.{≤ℤ_trans, one-*ℤ, *ℤ_exchange, *ℤ-mono_nonneg, pos-le}
use Rattle.msp_instance.specs.declared.Instance.{Instance}
use Rattle.msp_instance.specs.declared.Job.{Job}
use Rattle.msp_instance.specs.declared.Need.{Need}
use Rattle.msp_instance.specs.Instance.{no_need, no_job, job_at}
use Rattle.msp_pieces.specs.declared.Piece.{Piece}
use Rattle.msp_pieces.specs.declared.Schedule.{Schedule}
use Rattle.msp_pieces.specs.Feasible.{Feasible, HasOperation, MayRun, product_of_times, whole_work}
use Rattle.msp_pieces.proofs.feasible.Frames.{Frame, frame_by, frame_of, rate_on, Fits, IsShaped, HasTimePerMachine, Fits-from_feasible, Feasible-from_fits, job_at-map}
use Rattle.msp_pieces.proofs.changes.Moves.{Suits}
use Rattle.msp_pieces.proofs.changes.Transport.{Stretches-identity, Fits-carried}

-- ---- frames with the same operations
-- the rates and the work wanted are multiples, in one ratio
pub record IsMultiple (f g : Frame) (j o : ℕ) : Type 0 where
  pub times : ℕ
  pub over : ℕ
  pub some : 0 < times
  pub rate : (m : ℕ) → f.May j o m → times * g.rate j m ≡ over * f.rate j m
  pub want : times * g.want j o ≡ over * f.want j o

pub IsMultiple-same : (f g : Frame) (j o : ℕ) → ((m : ℕ) → f.May j o m → g.rate j m ≡ f.rate j m) → g.want j o ≡ f.want j o → IsMultiple f g j o
IsMultiple-same f g j o r w = record { times = 1; over = 1; some = omega arith; rate = λ m h. ap (λ n. 1 * n) (r m h); want = ap (λ n. 1 * n) w }

pub record SameOperations (f g : Frame) : Type 0 where
  pub jobs : f.jobs ≡ g.jobs
  pub has : (j o : ℕ) → j < f.jobs → f.Has j o → g.Has j o
  pub all : (j o : ℕ) → j < f.jobs → g.Has j o → f.Has j o
  pub may : (j o m : ℕ) → j < f.jobs → f.Has j o → f.May j o m → g.May j o m
  pub ratio : (j o : ℕ) → j < f.jobs → f.Has j o → IsMultiple f g j o
  pub cut : g.cut ≡ false → f.cut ≡ false

pub Suits-same : (f g : Frame) (D : ℤ) → SameOperations f g → Suits f g D D (pos 1) (λ j o. o)
Suits-same f g D s = record {
  jobs = s.jobs;
  has = s.has;
  all = λ j o l h. (o, s.all j o l h, refl);
  increasing = λ j o n l a b h. h;
  may = s.may;
  ratio = λ j o l h. let r = s.ratio j o l h in record {
    times = r.times;
    over = r.over;
    some = r.some;
    rate = λ m w. ap (λ z. pos r.times *ℤ z) (one-*ℤ (pos (g.rate j m))) ∙ ap pos (r.rate m w);
    want = scaled D r.times (g.want j o) r.over (f.want j o) r.want;
  };
  cut = s.cut;
}
  where
    scaled : (D : ℤ) (a b c d : ℕ) → a * b ≡ c * d → pos a *ℤ (D *ℤ pos b) ≡ pos c *ℤ (D *ℤ pos d)
    scaled D a b c d e = *ℤ_exchange (pos a) D (pos b) ∙ ap (λ n. D *ℤ pos n) e ∙ sym (*ℤ_exchange (pos c) D (pos d))

-- ---- a schedule as it is
pub record Serves (f g : Frame) : Type 0 where
  pub operations : SameOperations f g
  pub heads : (j : ℕ) → j < f.jobs → g.head j ≤ f.head j
  pub arcs : All (Contains f.arcs) g.arcs
  pub routed : g.routed ≡ true → (f.routed ≡ true) ⊎ ((j o n : ℕ) → j < f.jobs → f.Has j o → f.Has j n → o ≡ n)

pub Fits-served : (f g : Frame) (D : ℤ) (ps : List Piece) → Serves f g → Fits f D ps → Fits g D ps
Fits-served f g D ps s fits = subst (Fits g D) (map-id ps) (Fits-carried f g D D ps (pos 1) (λ x. x) (λ j o. o) fits (record {
  unit = fits.unit_from;
  moments = Stretches-identity ps;
  operations = Suits-same f g D s.operations;
  heads = λ k d l inside h. ≤ℤ_trans (*ℤ-mono_nonneg D (≤ℤ_trans (pos-le (omega arith)) fits.unit_from) (pos-le (s.heads (get_or ps k d).job inside))) h;
  arcs = s.arcs;
  routed = s.routed;
}))

-- ---- instances
pub Feasible-served : (i j : Instance) (s : Schedule) → IsShaped i → IsShaped j → Serves (frame_of i) (frame_of j) → Feasible i s → Feasible j s
Feasible-served i j s p q h f = Feasible-from_fits j s q (Fits-served (frame_of i) (frame_of j) s.unit s.pieces h (Fits-from_feasible i s p f))

-- the same where the kinds are known
pub Feasible-served_by : (i j : Instance) (s : Schedule) (k l : EnvKind)
    → kind_of i.class.env ≡ k → kind_of j.class.env ≡ l → IsShaped i → IsShaped j → Serves (frame_by k i) (frame_by l j) → Feasible i s → Feasible j s
Feasible-served_by i j s k l d e p q h = Feasible-served i j s p q (subst₂ (λ x y. Serves (frame_by x i) (frame_by y j)) (sym d) (sym e) h)

-- instances that differ in release dates, arcs, and what costs read
pub record SameNeeds (i j : Instance) : Type 0 where
  pub kind : kind_of i.class.env ≡ kind_of j.class.env
  pub cut : i.class.cut ≡ j.class.cut
  pub machines : i.machines ≡ j.machines
  pub speeds : i.speeds ≡ j.speeds
  pub count : length i.jobs ≡ length j.jobs
  pub needs : (k : ℕ) → k < length i.jobs → (job_at i k).needs ≡ (job_at j k).needs

pub SameNeeds-sym : (i j : Instance) → SameNeeds i j → SameNeeds j i
SameNeeds-sym i j s = record {
  kind = sym s.kind;
  cut = sym s.cut;
  machines = sym s.machines;
  speeds = sym s.speeds;
  count = sym s.count;
  needs = λ k l. sym (s.needs k (omega (arith, s.count)));
}

pub IsShaped-same : (i j : Instance) → SameNeeds i j → IsShaped i → IsShaped j
IsShaped-same i j s h = record { unrelated = λ e k d l. shape k d l (h.unrelated (s.kind ∙ e) k no_job (omega (arith, s.count))) }
  where
    shape : (k : ℕ) (d : Job) → k < length j.jobs → HasTimePerMachine i.machines (job_at i k) → HasTimePerMachine j.machines (get_or j.jobs k d)
    shape k d l p =
        let same : (job_at i k).needs ≡ (get_or j.jobs k d).needs = s.needs k (omega (arith, s.count)) ∙ ap (λ x. x.needs) (get_or_default j.jobs k no_job d l) in
        (sym (ap length same) ∙ p.0 ∙ s.machines, subst (λ (ns : List Need). All (λ n. 1 ≤ n.time) ns) same p.1)

-- the operation is there, with a time
abbrev HasTime : ℕ → List Need → Type 0
HasTime o needs = (o < length needs) × ((slice_index_or needs o no_need).time ≢ 0)

has-same : (k : EnvKind) (i j : Instance) (a o : ℕ) → (job_at i a).needs ≡ (job_at j a).needs → HasOperation k i a o → HasOperation k j a o
has-same OpenShop i j a o e h = subst (HasTime o) e h
has-same FlowShop i j a o e h = subst (HasTime o) e h
has-same JobShop i j a o e h = subst (HasTime o) e h
has-same _ i j a o e h = h

may-same : (k : EnvKind) (i j : Instance) (a o m : ℕ) → i.machines ≡ j.machines → (job_at i a).needs ≡ (job_at j a).needs → MayRun k i a o m → MayRun k j a o m
may-same OpenShop i j a o m s e h = h ∙ ap (λ ns. (slice_index_or ns o no_need).machine) e
may-same FlowShop i j a o m s e h = h ∙ ap (λ ns. (slice_index_or ns o no_need).machine) e
may-same JobShop i j a o m s e h = h ∙ ap (λ ns. (slice_index_or ns o no_need).machine) e
may-same _ i j a o m s e h = omega arith

rate-same : (k : EnvKind) (i j : Instance) (a m : ℕ) → i.speeds ≡ j.speeds → (job_at i a).needs ≡ (job_at j a).needs → rate_on k j a m ≡ rate_on k i a m
rate-same Uniform i j a m s e = ap (λ l. slice_index_or l m 0) (sym s)
rate-same Unrelated i j a m s e = ap (λ ns. product_of_times ns / (slice_index_or ns m no_need).time) (sym e)
rate-same _ i j a m s e = refl

want-same : (k : EnvKind) (i j : Instance) (a o : ℕ) → (job_at i a).needs ≡ (job_at j a).needs → whole_work k j a o ≡ whole_work k i a o
want-same Unrelated i j a o e = ap product_of_times (sym e)
want-same _ i j a o e = ap (λ ns. (slice_index_or ns o no_need).time) (sym e)

pub SameOperations-from_needs : (i j : Instance) → SameNeeds i j → SameOperations (frame_of i) (frame_of j)
SameOperations-from_needs i j s = subst (λ k. SameOperations (frame_of i) (frame_by k j)) s.kind (by (kind_of i.class.env))
  where
    by : (k : EnvKind) → SameOperations (frame_by k i) (frame_by k j)
    by k = record {
      jobs = s.count;
      has = λ a o l h. has-same k i j a o (s.needs a l) h;
      all = λ a o l h. has-same k j i a o (sym (s.needs a l)) h;
      may = λ a o m l h w. may-same k i j a o m s.machines (s.needs a l) w;
      ratio = λ a o l h. IsMultiple-same (frame_by k i) (frame_by k j) a o (λ m w. rate-same k i j a m s.speeds (s.needs a l)) (want-same k i j a o (s.needs a l));
      cut = λ e. s.cut ∙ e;
    }

-- instances that feasibility cannot tell apart
pub record SameWork (i j : Instance) : Type 0 where
  pub needs : SameNeeds i j
  pub heads : (k : ℕ) → k < length i.jobs → (job_at i k).release ≡ (job_at j k).release
  pub arcs : i.arcs ≡ j.arcs

pub SameWork-sym : (i j : Instance) → SameWork i j → SameWork j i
SameWork-sym i j s = record { needs = SameNeeds-sym i j s.needs; heads = λ k l. sym (s.heads k (omega (arith, s.needs.count))); arcs = sym s.arcs }

pub Serves-from_work : (i j : Instance) → SameWork i j → Serves (frame_of i) (frame_of j)
Serves-from_work i j s = record {
  operations = SameOperations-from_needs i j s.needs;
  heads = λ k l. omega (arith, s.heads k l);
  arcs = subst (λ l. All (Contains i.arcs) l) s.arcs (All-contains_itself i.arcs);
  routed = λ e. inl (ap (λ k. not (is_mirror_kind k)) s.needs.kind ∙ e);
}

-- same frame: a schedule serves both
pub Feasible-same : (i j : Instance) (s : Schedule) → IsShaped i → SameWork i j → Feasible i s → Feasible j s
Feasible-same i j s p h f = Feasible-served i j s p (IsShaped-same i j h.needs p) (Serves-from_work i j h) f

-- where only the class changes, and where each job is changed by itself
pub SameNeeds-from_map : (i j : Instance) (f : Job → Job)
    → kind_of i.class.env ≡ kind_of j.class.env → i.class.cut ≡ j.class.cut → i.machines ≡ j.machines → i.speeds ≡ j.speeds → j.jobs ≡ map f i.jobs →
    ((a : Job) → (f a).needs ≡ a.needs) → SameNeeds i j
SameNeeds-from_map i j f k c m s e h = record {
  kind = k;
  cut = c;
  machines = m;
  speeds = s;
  count = sym (ap length e ∙ length-map i.jobs f);
  needs = λ a l. sym (ap (λ x. x.needs) (job_at-map i j f e a l) ∙ h (job_at i a));
}

pub SameWork-from_map : (i j : Instance) (f : Job → Job) → SameNeeds i j → j.jobs ≡ map f i.jobs → ((a : Job) → (f a).release ≡ a.release) → i.arcs ≡ j.arcs → SameWork i j
SameWork-from_map i j f n e h arcs = record { needs = n; heads = λ a l. sym (ap (λ x. x.release) (job_at-map i j f e a l) ∙ h (job_at i a)); arcs = arcs }

pub SameWork-from_class : (i : Instance) (c : Class) → kind_of i.class.env ≡ kind_of c.env → i.class.cut ≡ c.cut → SameWork i (record i { class = c })
SameWork-from_class i c k e = record { needs = record { kind = k; cut = e; machines = refl; speeds = refl; count = refl; needs = λ a l. refl }; heads = λ a l. refl; arcs = refl }
