-- Arcs counted by the jobs that they join, and linked by their jobs after.
use Rattle.std.proofs.Common.{◌≡◌, ◌≢◌, ℕ, zero, suc, ◌+◌, ◌-◌, ◌<◌, ◌≤◌, inl, inr, Bool, true, false, cond, ◌==◌, ◌&&◌, ◌||◌, List, ◌∷◌, [], length, get_or, set, take}
use Rattle.std.proofs.Common.{replicate, All, AllPairs, Contains, IsPermutation, refl, sym, ap, subst, ◌∙◌, arith, add-one}
use Rattle.std.specs.List.{list_any, range_with_len}
use Rattle.std.proofs.lemmas.Bool.{cases_lt, cond_both, eqb-true, eq-eqb, and_parts, false_from_ne_true, true_from_ne_false, false≢true}
use Rattle.std.proofs.lemmas.Bool.Decides.{nat_tests}
use Rattle.std.proofs.lemmas.Grind.{get_or-set_at}
use Rattle.std.proofs.lemmas.List.{length-set, length-replicate, get_or-replicate, get_or-set_other, get_or_default, take_all}
use Rattle.std.proofs.lemmas.List.Elements.{All-contains, Contains-get_or}
use Rattle.std.proofs.lemmas.List.Sums.{sum_by_more}
use Rattle.std.proofs.lemmas.List.Sorted.{list_any-IsPermutation}
use Rattle.msp_class.specs.declared.sizes.TheConstants.{MOST_JOBS}
use Rattle.msp_class.proofs.Sums.{cond-yes, cond-no, eqb_comm, sum_by-same, sum_by-agree, sum_by-add, sum_by-contains, sum_by-some, AllPairs-head, OnceBelow-range, OnceBelow-contains}
use Rattle.msp_instance.specs.declared.Arc.{Arc}
use Rattle.msp_instance.specs.declared.Instance.{Instance}
use Rattle.msp_instance.specs.Conditions.{IsAcyclic, leaving}
use Rattle.msp_instance.specs.Paths.{HasStep}
use Rattle.msp_instance.proofs.ListingLemmas.{list_any-from_Contains, Contains-from_list_any}
use Rattle.msp_pieces.specs.Blocks.{HasNoSuccessor}
use Rattle.msp_pieces.proofs.bounds.Certified.{ranked}
use Rattle.msp_pieces.proofs.lists.Intervals.{greatest_by-contains, greatest_by-reached}
use Rattle.msp_pieces.proofs.lists.Permuted.{AllPairs-permutation}
use Rattle.msp_lexical.specs.Steps.{HasSuccessor}
use Rattle.msp_lexical.specs.Counts.{arcs_between, arcs_into, last_into, AreLinks}

abbrev no_arc : Arc
no_arc = record { before = 0; after = 0 }

pub AreLinks-none : (arcs : List Arc) (earlier : List ℕ) → earlier ≡ [] → AreLinks arcs 0 (replicate MOST_JOBS 0) earlier
AreLinks-none arcs earlier e = record {
  whole = length-replicate {A = ℕ} MOST_JOBS 0;
  of_jobs = λ j l. get_or-replicate MOST_JOBS j 0 0 l;
  len = ap length e;
  of_arcs = λ k l. absurd (omega (arith, l));
}

-- ---- the last arc that enters a job
last_into-small : (arcs : List Arc) (j n : ℕ) → last_into arcs j n ≤ n
last_into-small arcs j zero = omega arith
last_into-small arcs j (suc n) =
    cond_both ((get_or arcs n no_arc).after == j) (suc n) _ (λ m. m ≤ suc n) (λ _. omega arith) (λ _. omega (arith, last_into-small arcs j n))

last_into-enters : (arcs : List Arc) (j n : ℕ) → 0 < last_into arcs j n → (get_or arcs (last_into arcs j n - 1) no_arc).after ≡ j
last_into-enters arcs j zero l = absurd (omega (arith, l))
last_into-enters arcs j (suc n) l =
    let at : suc n - 1 ≡ n = omega arith in
    cond_both ((get_or arcs n no_arc).after == j) (suc n) (last_into arcs j n) (λ m. 0 < m → (get_or arcs (m - 1) no_arc).after ≡ j)
    (λ e _. ap (λ m. (get_or arcs m no_arc).after) at ∙ eqb-true _ j e) (λ _. last_into-enters arcs j n) l

abbrev joins : ℕ → ℕ → Arc → ℕ
joins j k a = cond (a.after == k && (a.before == j)) 1 0

between_more : (arcs : List Arc) (n j k : ℕ) → n < length arcs → arcs_between (take (n + 1) arcs) j k ≡ arcs_between (take n arcs) j k + joins j k (get_or arcs n no_arc)
between_more arcs n j k l = sum_by_more (joins j k) arcs n no_arc l

-- the arcs after it do not enter the job
between_last : (arcs : List Arc) (j k n : ℕ) → n ≤ length arcs → arcs_between (take n arcs) j k ≡ arcs_between (take (last_into arcs k n) arcs) j k
between_last arcs j k zero l = refl
between_last arcs j k (suc n) l =
    let more = ap (λ m. arcs_between (take m arcs) j k) (sym (add-one n)) ∙ between_more arcs n j k (omega (arith, l)) in
    cond_both ((get_or arcs n no_arc).after == k) (suc n) _ (λ m. arcs_between (take (suc n) arcs) j k ≡ arcs_between (take m arcs) j k)
    (λ _. refl) (λ e.
    let none : joins j k (get_or arcs n no_arc) ≡ 0 = ap (λ b. cond (b && ((get_or arcs n no_arc).before == j)) 1 0) e in
    omega (arith, more, none, between_last arcs j k n (omega (arith, l))))

-- ---- the arcs that enter a job are taken away, from the last to the first
pub record IsReleasing (arcs : List Arc) (job : ℕ) (old now : List ℕ) (number : ℕ) : Type 0 where
  pub whole : length now ≡ MOST_JOBS
  pub few : number ≤ length arcs
  pub enters : 0 < number → (get_or arcs (number - 1) no_arc).after ≡ job
  pub each : (j : ℕ) → j < MOST_JOBS → get_or now j 0 + arcs_between arcs j job ≡ get_or old j 0 + arcs_between (take number arcs) j job

module _ (arcs : List Arc) (job : ℕ) (old last earlier : List ℕ) (links : AreLinks arcs (length arcs) last earlier) where
  pub IsReleasing-start : (number : ℕ) → length old ≡ MOST_JOBS → job < MOST_JOBS → number ≡ get_or last job 0 → IsReleasing arcs job old old number
  IsReleasing-start number whole inside read = record {
    whole = whole;
    few = omega (arith, is, last_into-small arcs job (length arcs));
    enters = subst (λ m. 0 < m → (get_or arcs (m - 1) no_arc).after ≡ job) (sym is) (last_into-enters arcs job (length arcs));
    each = λ j l. ap (λ m. get_or old j 0 + m) (ap (λ xs. arcs_between xs j job) (sym (take_all (length arcs) arcs (omega arith)))
        ∙ between_last arcs j job (length arcs) (omega arith) ∙ ap (λ m. arcs_between (take m arcs) j job) (sym is));
  }
    where
      is : number ≡ last_into arcs job (length arcs)
      is = read ∙ links.of_jobs job inside

  module _ (now : List ℕ) (number at next : ℕ) (h : IsReleasing arcs job old now number)
      (some : 0 < number) (ends : All (λ a. a.before < MOST_JOBS) arcs) (counted : (j : ℕ) → j < MOST_JOBS → arcs_between arcs j job ≤ get_or old j 0)
      (own : at ≡ (get_or arcs (number - 1) no_arc).before) (next_read : next ≡ get_or earlier (number - 1) next) where
    abbrev p : ℕ
    p = number - 1

    follows : number ≡ p + 1
    follows = omega (arith, some)

    early : p < length arcs
    early = omega (arith, some, h.few)

    inside : at < MOST_JOBS
    inside = subst (λ m. m < MOST_JOBS) (sym own) (ends p no_arc early)

    more : (j : ℕ) → arcs_between (take number arcs) j job ≡ arcs_between (take p arcs) j job + cond (at == j) 1 0
    more j =
        ap (λ m. arcs_between (take m arcs) j job) follows ∙ between_more arcs p j job early
        ∙ ap (λ b. arcs_between (take p arcs) j job + cond (b && ((get_or arcs p no_arc).before == j)) 1 0) (eq-eqb _ job (h.enters some))
        ∙ ap (λ m. arcs_between (take p arcs) j job + cond (m == j) 1 0) (sym own)

    next_is : next ≡ last_into arcs job p
    next_is = next_read ∙ get_or_default earlier p next 0 (omega (arith, early, links.len)) ∙ links.of_arcs p early ∙ ap (λ k. last_into arcs k p) (h.enters some)

    gone : (j : ℕ) → arcs_between (take p arcs) j job ≡ arcs_between (take next arcs) j job
    gone j = between_last arcs j job p (omega (arith, early)) ∙ ap (λ m. arcs_between (take m arcs) j job) (sym next_is)

    releases : 0 < get_or now at 0
    releases = omega (arith, h.each at inside, counted at inside, more at, cond-yes 1 (eq-eqb at at refl))

    pub earlier_arc : next < number
    earlier_arc = omega (arith, next_is, last_into-small arcs job p, follows)

    pub IsReleasing-next : IsReleasing arcs job old (set now at (get_or now at 0 - 1)) next
    IsReleasing-next = record {
      whole = length-set now at (get_or now at 0 - 1) ∙ h.whole;
      few = omega (arith, earlier_arc, h.few);
      enters = subst (λ m. 0 < m → (get_or arcs (m - 1) no_arc).after ≡ job) (sym next_is) (last_into-enters arcs job p);
      each = each;
    }
      where
        each : (j : ℕ) → j < MOST_JOBS → get_or (set now at (get_or now at 0 - 1)) j 0 + arcs_between arcs j job ≡ get_or old j 0 + arcs_between (take next arcs) j job
        each j b =
            let same = get_or-set_at now at j (get_or now at 0 - 1) 0 in
            let other = get_or-set_other now at j (get_or now at 0 - 1) 0 in
            grind (arith, nat_tests, same, other, h.whole, releases, h.each j b, more j, gone j)

-- ---- arcs into a list of jobs
abbrev into : List ℕ → ℕ → Arc → ℕ
into jobs j a = cond (list_any (λ k. k == a.after) jobs && (a.before == j)) 1 0

-- all arcs lead to jobs of the list of all
pub arcs_into-all : (arcs : List Arc) (n : ℕ) (jobs : List ℕ) (j : ℕ) → All (λ a. a.after < n) arcs → jobs ≡ range_with_len 0 n → arcs_into arcs jobs j ≡ leaving arcs j
arcs_into-all arcs n jobs j ends e =
    sum_by-same (into jobs j) (λ a. cond (a.before == j) 1 0) arcs
    (λ k d l. ap (λ b. cond (b && ((get_or arcs k d).before == j)) 1 0)
    (list_any-from_Contains jobs (get_or arcs k d).after (subst (λ xs. Contains xs (get_or arcs k d).after) (sym e) (OnceBelow-contains (OnceBelow-range n) (get_or arcs k d).after (ends k d l)))))

-- a job leaves the list
pub arcs_into-less : (arcs : List Arc) (jobs rest : List ℕ) (job j : ℕ)
    → IsPermutation jobs (job ∷ rest) → AllPairs (λ j k. j ≢ k) jobs → arcs_into arcs jobs j ≡ arcs_into arcs rest j + arcs_between arcs j job
arcs_into-less arcs jobs rest job j all once = sum_by-agree (into jobs j) (λ a. into rest j a + joins j job a) arcs (λ a. less a.after (a.before == j)) ∙ sum_by-add (into rest j) (joins j job) arcs
  where
    own : (t r b : Bool) → (t ≡ true → r ≡ false) → cond {A = ℕ} ((t || r) && b) 1 0 ≡ cond (r && b) 1 0 + cond (t && b) 1 0
    own true true b h = absurd (false≢true (sym (h refl)))
    own _ _ b h = omega arith

    out : list_any (λ k. k == job) rest ≡ false
    out = false_from_ne_true (list_any (λ k. k == job) rest) (λ e. All-contains (λ k. job ≢ k) rest job
        (AllPairs-head (λ j k. j ≢ k) job rest (AllPairs-permutation (λ j k. j ≢ k) (λ j k differ e. differ (sym e)) jobs (job ∷ rest) all once))
        (Contains-from_list_any rest job e) refl)

    less : (k : ℕ) (b : Bool) → cond {A = ℕ} (list_any (λ l. l == k) jobs && b) 1 0 ≡ cond (list_any (λ l. l == k) rest && b) 1 0 + cond (k == job && b) 1 0
    less k b =
        ap (λ t. cond {A = ℕ} (t && b) 1 0) (list_any-IsPermutation (λ l. l == k) jobs (job ∷ rest) all ∙ ap (λ t. t || list_any (λ l. l == k) rest) (eqb_comm job k))
        ∙ own (k == job) (list_any (λ l. l == k) rest) b (λ e. ap (λ m. list_any (λ l. l == m) rest) (eqb-true k job e) ∙ out)

-- ---- jobs with and without such arcs
module _ (i : Instance) (left : List ℕ) where
  pub free_from_none : (j : ℕ) → arcs_into i.arcs left j ≡ 0 → HasNoSuccessor i left j
  free_from_none j none k d l e c =
      let a = get_or i.arcs k d in
      let counts : into left j a ≡ 1 = ap (λ b. cond (b && (a.before == j)) 1 0) (list_any-from_Contains left a.after c) ∙ cond-yes 1 (eq-eqb a.before j e) in
      omega (arith, none, counts, sum_by-contains (into left j) i.arcs a (Contains-get_or i.arcs k d l))

  pub successor_from_some : (j : ℕ) → 0 < arcs_into i.arcs left j → HasSuccessor i left j
  successor_from_some j some =
      let (a, c, counts) = sum_by-some (into left j) i.arcs some in
      let both = true_from_ne_false (list_any (λ k. k == a.after) left && (a.before == j)) (λ e. omega (arith, counts, cond-no 1 e)) in
      let parts = and_parts _ (a.before == j) both in
      (a.after, subst (λ m. HasStep i.arcs m a.after) (eqb-true a.before j parts.1) c, Contains-from_list_any left a.after parts.0)

  -- the latest of them in a list in which all arcs go forward has none
  pub some_free : IsAcyclic i → 0 < length left → (j : ℕ) × Contains left j × (arcs_into i.arcs left j ≡ 0)
  some_free acyclic some =
      let (rank, rises) = ranked i acyclic in
      let (j, c, top) = greatest_by-reached rank left some in (
        j,
        c,
        elim (cases_lt 0 (arcs_into i.arcs left j)) [
          | inl leads ↦
              let (k, step, d) = successor_from_some j leads in
              absurd (omega (arith, All-contains (λ a. rank a.before < rank a.after) i.arcs (record { before = j; after = k }) rises step, top, greatest_by-contains rank left k d))
          | inr none ↦ omega (arith, none)
        ],
      )

-- ---- the counts of arcs into a list, as the code passes them
module _ (arcs shown : List Arc) (same : shown ≡ arcs) where
  pub counts-start : (n : ℕ) (jobs counts : List ℕ) → All (λ a. a.after < n) arcs → jobs ≡ range_with_len 0 n
      → ((j : ℕ) → j < MOST_JOBS → get_or counts j 0 ≡ leaving shown j) → (j : ℕ) → j < MOST_JOBS → get_or counts j 0 ≡ arcs_into arcs jobs j
  counts-start n jobs counts ends e h j l = h j l ∙ ap (λ xs. leaving xs j) same ∙ sym (arcs_into-all arcs n jobs j ends e)

  module _ (left rest counts : List ℕ) (job : ℕ) (all : IsPermutation left (job ∷ rest))
      (once : AllPairs (λ j k. j ≢ k) left) (h : (j : ℕ) → j < MOST_JOBS → get_or counts j 0 ≡ arcs_into arcs left j) where
    less : (j : ℕ) → j < MOST_JOBS → get_or counts j 0 ≡ arcs_into arcs rest j + arcs_between shown j job
    less j l = h j l ∙ arcs_into-less arcs left rest job j all once ∙ ap (λ xs. arcs_into arcs rest j + arcs_between xs j job) (sym same)

    pub counts-enough : (j : ℕ) → j < MOST_JOBS → arcs_between shown j job ≤ get_or counts j 0
    counts-enough j l = omega (arith, less j l)

    pub counts-next : (new : List ℕ) → ((j : ℕ) → j < MOST_JOBS → get_or new j 0 + arcs_between shown j job ≡ get_or counts j 0) → (j : ℕ) → j < MOST_JOBS → get_or new j 0 ≡ arcs_into arcs rest j
    counts-next new g j l = omega (arith, g j l, less j l)
