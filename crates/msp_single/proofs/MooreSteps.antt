-- The steps of Moore's rule at the numbers as the code passes them.
use Rattle.std.proofs.Common.{◌≡◌, ℕ, ◌+◌, ◌<◌, ◌≤◌, true, false, ◌⊎◌, inr, List, [], ◌∷◌, ◌++◌, length, get_or, take, sum_by, ℤ, pos, ◌≤ℤ◌, ◌<ℤ◌, All, refl, sym, ap, ◌∙◌}
use Rattle.std.proofs.Common.{subst, arith, slice_index_or}
use Rattle.std.specs.Prelude.{int_lt}
use Rattle.std.specs.List.{remove}
use Rattle.std.proofs.lemmas.Int.{ints}
use Rattle.std.proofs.lemmas.List.{take_more, get_or_default}
use Rattle.std.proofs.lemmas.List.Elements.{All-push}
use Rattle.std.proofs.lemmas.List.Sums.{sum_by-append, sum_by-cons}
use Rattle.msp_instance.specs.declared.Job.{Job}
use Rattle.msp_instance.specs.declared.Instance.{Instance}
use Rattle.msp_instance.specs.Instance.{no_need, job_at, need_at}
use Rattle.msp_single.specs.declared.moore.Task.{Task}
use Rattle.msp_single.specs.Moore.{IsLongest, IsChoice}
use Rattle.msp_route.proofs.JobReads.{read_job}
use Rattle.msp_single.proofs.MooreChoice.{keeps, drops}

abbrev pub IsTaskOf : Instance → Task → Type 0
IsTaskOf i x = (x.time ≡ (need_at i x.job 0).time) × (x.due ≡ (job_at i x.job).due)

pub each-next : (i : Instance) (new ts : List Task) (x : Task) (jobs : List Job) (k : ℕ) (j w : Job)
    → new ≡ ts ++ x ∷ [] → jobs ≡ i.jobs → k < length jobs → j ≡ get_or jobs k j → w ≡ get_or jobs k w →
    x.job ≡ k → x.time ≡ (slice_index_or j.needs 0 no_need).time → x.due ≡ w.due → All (IsTaskOf i) ts → All (IsTaskOf i) new
each-next i new ts x jobs k j w e same l at at' is time due so_far =
    let P : List Task → Type 0 = All (IsTaskOf i) in
    subst P (sym e) (All-push (IsTaskOf i) ts x so_far (
      time ∙ ap (λ y. (slice_index_or y.needs 0 no_need).time) (read_job i jobs k j same l at) ∙ ap (λ n. (need_at i n 0).time) (sym is),
      due ∙ ap (λ y. y.due) (read_job i jobs k w same l at') ∙ ap (λ n. (job_at i n).due) (sym is),
    ))

-- ---- the longest so far
abbrev pub Outlasts : Task → Task → Type 0
Outlasts a b = (b.time < a.time) ⊎ ((b.time ≡ a.time) × (a.job ≤ b.job))

outlasts_on : (a b c : Task) → Outlasts a b → Outlasts b c → Outlasts a c
outlasts_on a b c h k = grind arith

pub longest-take : (xs : List Task) (best place : ℕ) (d : Task) → place < length xs → Outlasts (get_or xs place d) (get_or xs best d)
    → All (Outlasts (get_or xs best d)) (take place xs) → All (Outlasts (get_or xs place d)) (take (place + 1) xs)
longest-take xs best place d l h so_far =
    subst (All (Outlasts (get_or xs place d))) (sym (take_more xs place d l))
    (All-push (Outlasts (get_or xs place d)) (take place xs) (get_or xs place d)
    (λ k e m. outlasts_on (get_or xs place d) (get_or xs best d) (get_or (take place xs) k e) h (so_far k e m)) (inr (refl, omega arith)))

pub longest-keep : (xs : List Task) (best place : ℕ) (d : Task) → place < length xs → Outlasts (get_or xs best d) (get_or xs place d)
    → All (Outlasts (get_or xs best d)) (take place xs) → All (Outlasts (get_or xs best d)) (take (place + 1) xs)
longest-keep xs best place d l h so_far = subst (All (Outlasts (get_or xs best d))) (sym (take_more xs place d l)) (All-push (Outlasts (get_or xs best d)) (take place xs) (get_or xs place d) so_far h)

-- what was read with other defaults
pub outlasts_at : (xs : List Task) (a b : ℕ) (d e f : Task) → a < length xs → b < length xs → Outlasts (get_or xs a e) (get_or xs b f) → Outlasts (get_or xs a d) (get_or xs b d)
outlasts_at xs a b d e f l m h = subst (λ x. Outlasts x (get_or xs b d)) (get_or_default xs a e d l) (subst (Outlasts (get_or xs a e)) (get_or_default xs b f d m) h)

-- ---- the longest one is dropped
abbrev pub Chooses : List Task → List Task → List Task → Type 0
Chooses = IsChoice (λ t. t.time) (λ t. t.job) (λ t. t.due)

abbrev pub Drops : List Task → List Task → List Task → List Task → Type 0
Drops all dropped all' dropped' = (place : ℕ) × (longest : Task) × IsLongest (λ (t : Task). t.time) (λ t. t.job) all place longest × (all' ≡ remove all place) × (dropped' ≡ dropped ++ longest ∷ [])

with_last : (accepted all : List Task) (x : Task) (total : ℕ) → all ≡ accepted ++ x ∷ [] → total ≡ sum_by (λ t. t.time) accepted → total + x.time ≡ sum_by (λ t. t.time) all
with_last accepted all x total e sum = omega (arith, sum, ap (sum_by (λ (t : Task). t.time)) e, sum_by-append (λ (t : Task). t.time) accepted (x ∷ []), sum_by-cons (λ (t : Task). t.time) x [])

pub accept-kept : (accepted dropped all : List Task) (x : Task) (total : ℕ) → all ≡ accepted ++ x ∷ [] → total ≡ sum_by (λ t. t.time) accepted → pos (total + x.time) ≤ℤ x.due
    → (seen : List Task) → Chooses seen accepted dropped → Chooses (seen ++ x ∷ []) all dropped
accept-kept accepted dropped all x total e sum l seen c =
    keeps (λ t. t.time) (λ t. t.job) (λ t. t.due) seen accepted dropped (seen ++ x ∷ []) all x refl e c (subst (λ n. pos n ≤ℤ x.due) (with_last accepted all x total e sum) l)

pub accept-overrun : (accepted dropped all accepted' dropped' : List Task) (x : Task) (total : ℕ)
    → all ≡ accepted ++ x ∷ [] → total ≡ sum_by (λ t. t.time) accepted → x.due <ℤ pos (total + x.time) → Drops all dropped accepted' dropped'
    → (seen : List Task) → Chooses seen accepted dropped → Chooses (seen ++ x ∷ []) accepted' dropped'
accept-overrun accepted dropped all accepted' dropped' x total e sum l (place, longest, h, a, d) seen c =
    drops (λ t. t.time) (λ t. t.job) (λ t. t.due) seen accepted dropped
    (seen ++ x ∷ []) all accepted' dropped' x longest place refl e a d c (subst (λ n. x.due <ℤ pos n) (with_last accepted all x total e sum) l) h

-- a total compared with a due date
pub overran : (a b d : ℤ) (n : ℕ) → int_lt a b ≡ true → a ≡ d → b ≡ pos n → d <ℤ pos n
overran a b d n h e f = omega (arith, ints, h, e, f)

pub not_overran : (a b d : ℤ) (n : ℕ) → int_lt a b ≡ false → a ≡ d → b ≡ pos n → pos n ≤ℤ d
not_overran a b d n h e f = omega (arith, ints, h, e, f)
