-- One job more: its pieces are laid at the place with room.
use Rattle.std.proofs.Common.{◌≡◌, ℕ, suc, ◌+◌, ◌*◌, ◌-◌, ◌<◌, ◌≤◌, ◌⊎◌, inl, inr, Bool, true, false, cond, eqb, leb, List, [], ◌∷◌, ◌++◌, length, get_or, filter, All, AllPairs}
use Rattle.std.proofs.Common.{sum_by, refl, sym, ap, ◌∙◌, subst, arith, length-append}
use Rattle.std.proofs.lemmas.Bool.{cases_Bool, eqb-true, eqb-false, leb-true, leb-false}
use Rattle.std.proofs.lemmas.List.{get_or_default}
use Rattle.std.proofs.lemmas.List.Sums.{sum_by-append, sum_by-cons}
use Rattle.std.proofs.lemmas.List.Elements.{All-nil, All-cons, All-push, filter-append}
use Rattle.std.proofs.Math.Nat.{mul-le-mul_left, mul-le-mul_right}
use Rattle.msp_class.specs.declared.sizes.TheConstants.{MOST_MACHINES, MOST_JOBS, GREATEST}
use Rattle.msp_class.specs.Sums.{total_below}
use Rattle.msp_class.proofs.Sums.{sum_by-filter, sum_by-none}
use Rattle.msp_instance.specs.declared.Instance.{Instance}
use Rattle.msp_instance.specs.declared.Job.{Job}
use Rattle.msp_instance.specs.Instance.{no_job}
use Rattle.msp_pieces.specs.declared.Piece.{Piece}
use Rattle.msp_pieces.specs.Intervals.{IsApartOn, size_of, work_of}
use Rattle.msp_pieces.specs.Piece.{job_of, start, finish, IsTimed}
use Rattle.msp_pieces.specs.BackToBack.{time_at}
use Rattle.msp_pieces.proofs.feasible.Series.{AllPairs-append}
use Rattle.msp_wrap.specs.Wrap.{time_of, least_end}
use Rattle.msp_wrap.specs.Laying.{part, machine_of, IsLaid, IsWrapped, HasOpened}
use Rattle.msp_wrap.proofs.Facts.{IsWrapInstance, job_fits, jobs_fit, least_end-short, work_positive}

-- ---- one piece more
AllPairs-push : {X : Type 0} (R : X → X → Type 0) (xs : List X) (x : X) → AllPairs R xs → All (λ y. R y x) xs → AllPairs R (xs ++ x ∷ [])
AllPairs-push R xs x h k = AllPairs-append R xs (x ∷ []) h (λ a b d l m. absurd (omega arith)) (λ a d l. All-cons (R (get_or xs a d)) x [] (k a d l) (All-nil (R (get_or xs a d))))

-- what stands before one place stands before a later one
moved : (x f q o r a b : ℕ) → (q < r) ⊎ ((q ≡ r) × (o ≤ a)) → a < b → (x < q) ⊎ ((x ≡ q) × (f ≤ o)) → (x < r) ⊎ ((x ≡ r) × (f ≤ b))
moved x f q o r a b (inl h) l (inl k) = inl (omega arith)
moved x f q o r a b (inl h) l (inr k) = inl (omega (arith, k.0))
moved x f q o r a b (inr h) l (inl k) = inl (omega (arith, h.0))
moved x f q o r a b (inr h) l (inr k) = inr (k.0 ∙ h.0, omega (arith, h.1, k.1))

cross : (x f q o r a : ℕ) → (q < r) ⊎ ((q ≡ r) × (o ≤ a)) → (x < q) ⊎ ((x ≡ q) × (f ≤ o)) → x ≡ r → f ≤ a
cross x f q o r a (inl h) (inl k) e = omega arith
cross x f q o r a (inl h) (inr k) e = omega (arith, k.0)
cross x f q o r a (inr h) (inl k) e = omega (arith, h.0)
cross x f q o r a (inr h) (inr k) e = omega (arith, h.1, k.1)

pub IsLaid-push : (m end q o j r a b : ℕ) (ps : List Piece) → a < b → b ≤ end → r < m → (q < r) ⊎ ((q ≡ r) × (o ≤ a)) → IsLaid m end q o ps → IsLaid m end r b (ps ++ part j r a b ∷ [])
IsLaid-push m end q o j r a b ps lasts early inside later h = record {
  timed = All-push IsTimed ps p h.timed (record { from = refl; to = refl; lasts = lasts });
  ends = All-push (λ x. finish x ≤ end) ps p h.ends early;
  place = All-push (λ x. (x.op ≡ 0) × (x.machine < m)) ps p h.place (refl, inside);
  below = All-push (λ x. (x.machine < r) ⊎ ((x.machine ≡ r) × (finish x ≤ b)))
      ps p (λ k d l. moved (get_or ps k d).machine (finish (get_or ps k d)) q o r a b later lasts (h.below k d l)) (inr (refl, omega arith));
  apart = AllPairs-push (IsApartOn machine_of start finish) ps p h.apart (λ k d l e. inl (cross (get_or ps k d).machine (finish (get_or ps k d)) q o r a later (h.below k d l) e));
}
  where
    p : Piece
    p = part j r a b

-- ---- the work of each job
pub work_of-push : (ps : List Piece) (p : Piece) (j : ℕ) → work_of job_of start finish (ps ++ p ∷ []) j ≡ work_of job_of start finish ps j + cond (eqb p.job j) (size_of start finish p) 0
work_of-push ps p j =
    ap (sum_by size) (filter-append mine ps (p ∷ [])) ∙ sum_by-append size (filter mine ps) (filter mine (p ∷ []))
    ∙ ap (λ n. sum_by size (filter mine ps) + n) (by (eqb p.job j))
  where
    mine : Piece → Bool
    mine q = eqb (job_of q) j

    size : Piece → ℕ
    size = size_of start finish

    by : (b : Bool) → sum_by size (cond b (p ∷ []) []) ≡ cond b (size p) 0
    by true = omega (arith, sum_by-cons size p [])
    by false = refl

work_of-none : (ps : List Piece) (k : ℕ) → All (λ p. p.job < k) ps → work_of job_of start finish ps k ≡ 0
work_of-none ps k h = sum_by-filter (size_of start finish) (λ q. eqb (job_of q) k) ps
    ∙ sum_by-none (λ q. cond (eqb (job_of q) k) (size_of start finish q) 0) ps (λ a d l. by (get_or ps a d).job (size_of start finish (get_or ps a d)) (eqb (get_or ps a d).job k) refl (h a d l))
  where
    by : (j n : ℕ) (b : Bool) → eqb j k ≡ b → j < k → cond b n 0 ≡ 0
    by j n true e l = absurd (omega (arith, eqb-true j k e))
    by j n false e l = refl

work_next : (i : Instance) (k added : ℕ) (ps new : List Piece)
    → ((j : ℕ) → work_of job_of start finish new j ≡ work_of job_of start finish ps j + cond (eqb k j) added 0) → added ≡ i.machines * time_at i k →
    All (λ p. p.job < k) ps → ((j : ℕ) → j < k → work_of job_of start finish ps j ≡ i.machines * time_at i j) → (j : ℕ) → j < k + 1 → work_of job_of start finish new j ≡ i.machines * time_at i j
work_next i k added ps new more is before h j l = more j ∙ by (eqb k j) refl
  where
    by : (b : Bool) → eqb k j ≡ b → work_of job_of start finish ps j + cond b added 0 ≡ i.machines * time_at i j
    by true e =
        let same = eqb-true k j e in
        omega (arith, subst (λ x. work_of job_of start finish ps x ≡ 0) same (work_of-none ps k before), subst (λ x. added ≡ i.machines * time_at i x) same is)
    by false e = let other = eqb-false k j e in omega (arith, h j (omega arith))

-- ---- the place with room
opened-filled : (end q o r a : ℕ) → HasOpened end q o r a → r * end + a ≡ q * end + o
opened-filled end q o r a (inl h) = omega (arith, ap (λ x. x * end) h.1, h.2)
opened-filled end q o r a (inr h) = omega (arith, ap (λ x. x * end) h.1, h.0, h.2)

opened-room : (end q o r a : ℕ) → 0 < end → o ≤ end → HasOpened end q o r a → a < end
opened-room end q o r a some early (inl h) = let n = h.0 in omega (arith, h.2)
opened-room end q o r a some early (inr h) = omega (arith, h.2)

opened-after : (end q o r a : ℕ) → HasOpened end q o r a → (q < r) ⊎ ((q ≡ r) × (o ≤ a))
opened-after end q o r a (inl h) = inr (sym h.1, omega (arith, h.2))
opened-after end q o r a (inr h) = inl (omega (arith, h.1))

-- the machines are not used up
within : (q e m b t : ℕ) → q * e + b ≡ m * t → t ≤ e → 0 < b → q < m
within q e m b t h l some = elim (cases_Bool (leb m q)) [
  | inl f ↦ absurd (omega (arith, mul-le-mul_right e (leb-true m q f), mul-le-mul_left m l, h))
  | inr f ↦ leb-false m q f
]

-- where the machine is at most one after the last
pub within_next : (q e m o t : ℕ) → q * e + o ≡ m * t → t ≤ e → 0 < e → q ≤ m
within_next q e m o t h l some = elim (cases_Bool (leb q m)) [
  | inl f ↦ leb-true q m f
  | inr f ↦ let less : m + 1 ≤ q = omega (arith, leb-false q m f) in absurd (omega (arith, mul-le-mul_right e less, mul-le-mul_left m l, h))
]

-- ---- one job more
module _ (i : Instance) (h : IsWrapInstance i) (end k q o r a : ℕ)
    (ps : List Piece) (is : end ≡ least_end i) (inside : k < length i.jobs) (opens : HasOpened end q o r a) (w : IsWrapped i end k q o ps) where
  abbrev work : ℕ
  work = i.machines * time_at i k

  pub fits : work ≤ end
  fits = omega (arith, job_fits i h k inside, is)

  positive : 0 < work
  positive = work_positive i h k inside

  pub room : a < end
  room = opened-room end q o r a (omega (arith, positive, fits)) w.early opens

  next : k + 1 ≡ suc k
  next = omega arith

  more : total_below (k + 1) (time_at i) ≡ total_below k (time_at i) + time_at i k
  more = ap (λ n. total_below n (time_at i)) next

  filled : r * end + (a + work) ≡ i.machines * total_below (k + 1) (time_at i)
  filled = by (r * end) a i.machines (time_at i k) (total_below k (time_at i)) _ (opened-filled end q o r a opens ∙ w.filled) more
    where
      by : (x a m p t u : ℕ) → x + a ≡ m * t → u ≡ t + p → x + (a + m * p) ≡ m * u
      by x a m p t u e f = omega (arith, e, ap (λ y. m * y) f)

  used : total_below (k + 1) (time_at i) ≤ end
  used = omega (arith, jobs_fit i h (k + 1) (omega arith), is)

  pub on_first : r < i.machines
  on_first = within r end i.machines (a + work) _ filled used (omega (arith, positive))

  before : All (λ p. p.job < k + 1) ps
  before n d l = omega (arith, w.jobs_before n d l)

  other : (p : Piece) → p.job ≡ k → All (λ x. IsApartOn job_of start finish x p) ps
  other p e n d l same = absurd (omega (arith, e, same, w.jobs_before n d l))

  -- the job fits on the machine
  module _ (short : a + work ≤ end) where
    abbrev whole : Piece
    whole = part k r a (a + work)

    lasts : a < a + work
    lasts = omega (arith, positive)

    pub IsWrapped-one : IsWrapped i end (k + 1) r (a + work) (ps ++ whole ∷ [])
    IsWrapped-one = record {
      filled = filled;
      early = short;
      laid = IsLaid-push i.machines end q o k r a (a + work) ps lasts short on_first (opened-after end q o r a opens) w.laid;
      jobs_before = All-push (λ p. p.job < k + 1) ps whole before (omega arith);
      apart = AllPairs-push (IsApartOn job_of start finish) ps whole w.apart (other whole refl);
      work = work_next i k ((a + work) - a) ps (ps ++ whole ∷ []) (λ j. work_of-push ps whole j) (omega arith) w.jobs_before w.work;
      few = omega (arith, w.few, length-append ps (whole ∷ []));
    }

  -- it goes on at moment 0 of the next machine
  module _ (long : end < a + work) where
    abbrev left : ℕ
    left = (a + work) - end

    abbrev first : Piece
    first = part k r a end

    abbrev second : Piece
    second = part k (r + 1) 0 left

    abbrev once : List Piece
    once = ps ++ first ∷ []

    filled_next : (r + 1) * end + left ≡ i.machines * total_below (k + 1) (time_at i)
    filled_next = by (r * end) end (a + work) ((r + 1) * end) (omega arith) long ∙ filled
      where
        by : (x e b y : ℕ) → y ≡ x + e → e < b → y + (b - e) ≡ x + b
        by x e b y f l = omega arith

    on_second : r + 1 < i.machines
    on_second = within (r + 1) end i.machines left _ filled_next used (omega arith)

    laid_first : IsLaid i.machines end r end once
    laid_first = IsLaid-push i.machines end q o k r a end ps room (omega arith) on_first (opened-after end q o r a opens) w.laid

    rest_short : left ≤ a
    rest_short = omega (arith, fits)

    apart_first : AllPairs (IsApartOn job_of start finish) once
    apart_first = AllPairs-push (IsApartOn job_of start finish) ps first w.apart (other first refl)

    works : (j : ℕ) → work_of job_of start finish (once ++ second ∷ []) j ≡ work_of job_of start finish ps j + cond (eqb k j) ((end - a) + (left - 0)) 0
    works j = work_of-push once second j ∙ ap (λ n. n + cond (eqb k j) (left - 0) 0) (work_of-push ps first j) ∙ both (eqb k j) (work_of job_of start finish ps j) (end - a) (left - 0)
      where
        both : (b : Bool) (x y z : ℕ) → (x + cond b y 0) + cond b z 0 ≡ x + cond b (y + z) 0
        both true x y z = omega arith
        both false x y z = omega arith

    all_work : (end - a) + (left - 0) ≡ work
    all_work = by end a work room long
      where
        by : (e a w : ℕ) → a < e → e < a + w → (e - a) + (((a + w) - e) - 0) ≡ w
        by e a w l m = omega arith

    pub IsWrapped-two : IsWrapped i end (k + 1) (r + 1) left (once ++ second ∷ [])
    IsWrapped-two = record {
      filled = filled_next;
      early = omega (arith, rest_short, room);
      laid = IsLaid-push i.machines end r end k (r + 1) 0 left once (omega arith) (omega (arith, rest_short, room)) on_second (inl (omega arith)) laid_first;
      jobs_before = All-push (λ p. p.job < k + 1) once second (All-push (λ p. p.job < k + 1) ps first before (omega arith)) (omega arith);
      apart = AllPairs-push (IsApartOn job_of start finish) once second apart_first (All-push (λ x. IsApartOn job_of start finish x second) ps first (other second refl) (λ e. inr rest_short));
      work = work_next i k ((end - a) + (left - 0)) ps (once ++ second ∷ []) works all_work w.jobs_before w.work;
      few = omega (arith, w.few, length-append ps (first ∷ []), length-append once (second ∷ []));
    }

-- ---- at the numbers as the code passes them
pub work_read : (i : Instance) (jobs : List Job) (k t m : ℕ) (job : Job)
    → jobs ≡ i.jobs → k < length i.jobs → job ≡ get_or jobs k job → t ≡ time_of job → m ≡ i.machines → m * t ≡ i.machines * time_at i k
work_read i jobs k t m job e l at is same =
    let long : length jobs ≡ length i.jobs = ap length e in
    let read : t ≡ time_at i k = is ∙ ap time_of (at ∙ get_or_default jobs k job no_job (omega arith) ∙ ap (λ xs. get_or xs k no_job) e) in
    ap (λ n. n * t) same ∙ ap (λ n. i.machines * n) read

pub place_small : (i : Instance) → IsWrapInstance i → (end k q o : ℕ) (ps : List Piece) → end ≡ least_end i → k < length i.jobs → IsWrapped i end k q o ps → q ≤ MOST_MACHINES
place_small i h end k q o ps is inside w =
    omega (arith, h.machines, within_next q end i.machines o _ w.filled (omega (arith, jobs_fit i h k (omega arith), is)) (omega (arith, work_positive i h k inside, job_fits i h k inside, is)))

module _ (i : Instance) (h : IsWrapInstance i) (end k q o r a work : ℕ) (ps : List Piece) (is : end ≡ least_end i)
    (inside : k < length i.jobs) (opens : HasOpened end q o r a) (w : IsWrapped i end k q o ps) (read : work ≡ i.machines * time_at i k) where
  pub done_small : a + work ≤ 2 * (MOST_JOBS * GREATEST)
  done_small = omega (arith, room i h end k q o r a ps is inside opens w, fits i h end k q o r a ps is inside opens w, read, is, least_end-short i h)

  pub next_small : r < MOST_MACHINES
  next_small = omega (arith, on_first i h end k q o r a ps is inside opens w, h.machines)

  pub one_made : (new : List Piece) → a + work ≤ end → new ≡ ps ++ part k r a (a + work) ∷ [] → IsWrapped i end (k + 1) r (a + work) new
  one_made new short e =
      let G : ℕ → Type 0 = λ n. a + n ≤ end → IsWrapped i end (k + 1) r (a + n) (ps ++ part k r a (a + n) ∷ []) in
      subst (IsWrapped i end (k + 1) r (a + work)) (sym e) (subst G (sym read) (IsWrapped-one i h end k q o r a ps is inside opens w) short)

  pub two_made : (begun new : List Piece) → end < a + work
      → begun ≡ ps ++ part k r a end ∷ [] → new ≡ begun ++ part k (r + 1) 0 ((a + work) - end) ∷ [] → IsWrapped i end (k + 1) (r + 1) ((a + work) - end) new
  two_made begun new long e f =
      let G : ℕ → Type 0 = λ n. end < a + n → IsWrapped i end (k + 1) (r + 1) ((a + n) - end) ((ps ++ part k r a end ∷ []) ++ part k (r + 1) 0 ((a + n) - end) ∷ []) in
      subst (IsWrapped i end (k + 1) (r + 1) ((a + work) - end))
      (sym (f ∙ ap (λ l. l ++ part k (r + 1) 0 ((a + work) - end) ∷ []) e)) (subst G (sym read) (IsWrapped-two i h end k q o r a ps is inside opens w) long)

-- no job is laid yet
pub IsWrapped-none : (i : Instance) (end : ℕ) → IsWrapped i end 0 0 0 []
IsWrapped-none i end = record {
  filled = omega arith;
  early = omega arith;
  laid = record {
    timed = All-nil IsTimed;
    ends = All-nil (λ p. finish p ≤ end);
    place = All-nil (λ p. (p.op ≡ 0) × (p.machine < i.machines));
    below = All-nil (λ p. (p.machine < 0) ⊎ ((p.machine ≡ 0) × (finish p ≤ 0)));
    apart = λ a b d l m. absurd (omega arith);
  };
  jobs_before = All-nil (λ p. p.job < 0);
  apart = λ a b d l m. absurd (omega arith);
  work = λ j l. absurd (omega arith);
  few = omega arith;
}
